use Rattle.std.proofs.Common.{◌≡◌, ◌∷◌, [], ◌++◌, List, ℕ, Some, option_map, ap, sym, ◌∙◌, refl, subst}
use Rattle.std.proofs.lemmas.List.{append-nil}
use Rattle.tame_names.specs.KrateNames.{text_of}
use Rattle.tame_names.specs.Names.{IsIndexPath, path}
use Rattle.tame_cache.specs.Kept.{cache_file, cache_file_of}
use Rattle.tame_sparse.specs.Urls.{http_url}
use Rattle.tame_cache.proofs.FolderLemmas.{none_made}
use Rattle.audit_core.specs.Turns.{disk_at}
use Rattle.audit_core.proofs.Exchanged.{keeps_from, keeps_unchanged}
use Rattle.audit_core.proofs.Lists.{on_err}
use Rattle.audit_core.proofs.Names.{file_named}
use Rattle.audit_core.proofs.Steps.{exchanged_from, named_fails, part_named}
use Rattle.audit_core.proofs.asking.take_turn.Goals as goal

pub returns-in-Err-NoMemory-clause-part : goal.returns-in-Err-NoMemory-clause-part
returns-in-Err-NoMemory-clause-part g c told = ([], 0, sym (append-nil _), refl, tt)

pub returns-in-Err-NoMemory-clause-kept : goal.returns-in-Err-NoMemory-clause-kept
returns-in-Err-NoMemory-clause-kept g c told_wire told =
    let past = g.D.CacheDisk.past in
    let exchanges = g.W.Wire.exchanges in
    keeps_unchanged (exchanges c.args.wire.now) (exchanges c.args.wire.now) (past c.args.disk.now) (past c.make_remote_request.new.disk) (c.make_remote_request.ensures.same told)

pub returns-in_err-answer-clause-part : goal.returns-in_err-answer-clause-part
returns-in_err-answer-clause-part g c told =
    let exchanges = g.W.Wire.exchanges in
    let at : path c.args.name.now ≡ Some c.in-Ok.request.path = ap path (sym c.krate_name-krate.ensures) ∙ c.in-Ok.ensures.path in
    on_err _ (part_named c.args.name.now c.in-Ok.request.path (exchanges c.args.wire.now) (exchanges c.exchange_answer.new.wire) at (c.in_err-answer.ensures.part told))

pub returns-in_err-answer-clause-kept : goal.returns-in_err-answer-clause-kept
returns-in_err-answer-clause-kept g c told_wire told =
    let past = g.D.CacheDisk.past in
    let exchanges = g.W.Wire.exchanges in
    keeps_from (exchanges c.args.wire.now) (exchanges c.exchange_answer.new.wire) (past c.args.disk.now) (past c.make_remote_request.new.disk) (past c.exchange_answer.new.disk) (c.make_remote_request.ensures.same told) (c.exchange_answer.ensures.kept told_wire told)

pub returns-clause-kept : goal.returns-clause-kept
returns-clause-kept g c told_wire told =
    let past = g.D.CacheDisk.past in
    let exchanges = g.W.Wire.exchanges in
    keeps_from (exchanges c.args.wire.now) (exchanges c.exchange_answer.new.wire) (past c.args.disk.now) (past c.make_remote_request.new.disk) (past c.exchange_answer.new.disk) (c.make_remote_request.ensures.same told) (c.exchange_answer.ensures.kept told_wire told)

pub returns-clause-said : goal.returns-clause-said
returns-clause-said g c told_wire =
    let past = g.D.CacheDisk.past in
    let faults = g.D.CacheDisk.faults in
    let failed = g.D.CacheDisk.failed in
    let x = c.in_ok-answer.ensures.answered_turns told_wire in
    let e = x.0 in
    let at : path (text_of c.krate_name-krate.result) ≡ Some c.in-Ok.request.path = c.in-Ok.ensures.path in
    let there : cache_file_of c.args.index.now.cache.path (text_of c.krate_name-krate.result) ≡ Some (cache_file [] c.in-Ok.request.path) =
    ap (λ root. cache_file_of root (text_of c.krate_name-krate.result)) c.requires.root ∙ ap (λ o. option_map (cache_file []) o) at in (
      e ∷ [],
      x.1,
      (
        disk_at (past c.exchange_answer.new.disk) (failed c.exchange_answer.new.disk),
        record {
          place = subst IsIndexPath (sym x.2) c.in-Ok.ensures.index_path;
          url = x.4;
          path = x.2;
          named = λ told. rw (x.2, x.3, c.disk_faults-disk_before.ensures, c.disk_faults-disk_asked.ensures) (rw c.requires.url at (c.in-Ok.ensures.kept_named told refl _ there));
          asked = failed c.make_remote_request.new.disk;
          named_unless_failed = λ told. rw (x.2, x.3) (rw c.requires.url at (c.in-Ok.ensures.named_unless_failed told refl _ there));
          exchanged = rw (c.disk_faults-disk_asked.ensures, c.disk_faults.ensures)
              (exchanged_from g.D.CacheDisk.tells (faults c.make_remote_request.new.disk) (faults c.exchange_answer.new.disk) (past c.args.disk.now) (past c.make_remote_request.new.disk) (failed c.make_remote_request.new.disk)
              (disk_at (past c.exchange_answer.new.disk) (failed c.exchange_answer.new.disk)) e c.in_ok-answer.answer
              c.make_remote_request.ensures.same x.5);
        },
        (λ told q. refl, refl),
      ),
    )

pub returns-in-Err-NoMemory-clause-others : goal.returns-in-Err-NoMemory-clause-others
returns-in-Err-NoMemory-clause-others g c told q other = c.make_remote_request.ensures.same told q

pub returns-in_err-answer-clause-others : goal.returns-in_err-answer-clause-others
returns-in_err-answer-clause-others g c told q other =
    let at : path c.args.name.now ≡ Some c.in-Ok.request.path = ap path (sym c.krate_name-krate.ensures) ∙ c.in-Ok.ensures.path in
    c.exchange_answer.ensures.others told q (file_named c.args.name.now c.in-Ok.request.path q at other) ∙ c.make_remote_request.ensures.same told q

pub returns-clause-others : goal.returns-clause-others
returns-clause-others g c told q other =
    let at : path c.args.name.now ≡ Some c.in-Ok.request.path = ap path (sym c.krate_name-krate.ensures) ∙ c.in-Ok.ensures.path in
    c.exchange_answer.ensures.others told q (file_named c.args.name.now c.in-Ok.request.path q at other) ∙ c.make_remote_request.ensures.same told q

-- the url of the index, and the path
pub exchange_answer-requires-clause-url : goal.exchange_answer-requires-clause-url
exchange_answer-requires-clause-url g c = c.in-Ok.ensures.uri ∙ ap (λ (u : List ℕ). http_url u ++ c.in-Ok.request.path) c.requires.url

pub returns-in-Err-NoMemory-clause-folders : goal.returns-in-Err-NoMemory-clause-folders
returns-in-Err-NoMemory-clause-folders g c told = none_made _ _ _ (c.make_remote_request.ensures.folders told)

pub returns-in_err-answer-clause-folders : goal.returns-in_err-answer-clause-folders
returns-in_err-answer-clause-folders g c told = rw (c.make_remote_request.ensures.folders told, c.krate_name-krate.ensures) at (c.exchange_answer.ensures.folders told)

pub returns-clause-folders : goal.returns-clause-folders
returns-clause-folders g c told = rw (c.make_remote_request.ensures.folders told, c.krate_name-krate.ensures) at (c.exchange_answer.ensures.folders told)

pub returns-clause-fails : goal.returns-clause-fails
returns-clause-fails g c told =
    let at : path (text_of c.krate_name-krate.result) ≡ Some c.in-Ok.request.path = c.in-Ok.ensures.path in
    let there : cache_file_of c.args.index.now.cache.path (text_of c.krate_name-krate.result) ≡ Some (cache_file [] c.in-Ok.request.path) =
    ap (λ root. cache_file_of root (text_of c.krate_name-krate.result)) c.requires.root ∙ ap (λ o. option_map (cache_file []) o) at in
    let failed = g.D.CacheDisk.failed in
    (failed c.exchange_answer.new.disk, (failed c.make_remote_request.new.disk, named_fails _ _ _ (c.in-Ok.ensures.named_unless_failed told refl _ there), c.in_ok-answer.ensures.blames), refl)
