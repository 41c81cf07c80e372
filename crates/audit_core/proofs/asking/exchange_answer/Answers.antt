use Rattle.std.proofs.Common.{◌≡◌, ◌∷◌, ◌++◌, [], inl, List, ℕ, Some, None, option_map, ap, sym, ◌∙◌, refl, subst}
use Rattle.std.specs.Prelude.{IfSome}
use Rattle.tame_names.specs.KrateNames.{text_of}
use Rattle.tame_entry.specs.ServerMaps.{Maps}
use Rattle.tame_cache.specs.Kept.{cache_file, cache_file_of}
use Rattle.tame_sparse.specs.Honest.{AreHonest, IsHonest}
use Rattle.tame_sparse.specs.declared.network.Exchange.{Exchange}
use Rattle.tame_cache.proofs.FolderLemmas.{none_made}
use Rattle.audit_core.specs.Sent.{KeepsSent}
use Rattle.audit_core.specs.Turns.{disk_at}
use Rattle.audit_core.proofs.Exchanged.{cancel, answered_none, answered_ok, honest_sent, keeps_nothing, part_none, part_one}
use Rattle.audit_core.proofs.Lists.{on_err}
use Rattle.audit_core.proofs.asking.exchange_answer.Goals as goal

pub returns-in-Ok-clause-answered_turns : goal.returns-in-Ok-clause-answered_turns
returns-in-Ok-clause-answered_turns g c told_wire =
    let past = g.D.CacheDisk.past in
    let faults = g.D.CacheDisk.faults in
    let failed = g.D.CacheDisk.failed in
    let exchanges = g.W.Wire.exchanges in
    let added = c.in-Ok.ensures.added told_wire in
    let e : Exchange = record { url = c.args.request.now.uri; path = c.args.request.now.path; named = c.args.request.now.named; held = added.0; answer = Some c.in-Ok.answer } in
    let t = c.take_answer in
    let place : cache_file_of [] (text_of c.args.name) ≡ Some (cache_file [] c.args.request.now.path) = ap (λ o. option_map (cache_file []) o) c.requires.place in
    answered_ok g.D.CacheDisk.tells t.result (faults c.args.disk.now) (faults t.new.disk) (disk_at (past c.args.disk.now) (failed c.args.disk.now)) (disk_at (past t.new.disk) (failed t.new.disk)) (exchanges c.args.wire.now) (exchanges c.exchange.new.self) _ _ e c.in-Ok.answer
    added.1 refl refl c.requires.url refl
    (λ told. t.ensures.answer told _ place)
    (λ told. t.ensures.leaves told _ place)
    (λ told q other. t.ensures.others told q (λ is. other (cc (is, place))))
    (λ told m honest kept. t.ensures.kept told m (λ p named sent. let same : c.args.request.now.path ≡ p = cc (named, c.requires.place) in subst (λ (q : List ℕ). IfSome c.in-Ok.answer.revision (λ r. Maps m q r c.in-Ok.answer.body)) same (honest_sent m c.args.request.now.path c.args.request.now.named added.0 c.in-Ok.answer honest.mapped honest.answered sent)) kept)
    (λ told store. t.ensures.stored_unless_failed told _ place store)
    (t.ensures.blames _ place)
    (t.ensures.unfailed _ place)

pub returns-in-Ok-clause-part : goal.returns-in-Ok-clause-part
returns-in-Ok-clause-part g c told_wire =
    let exchanges = g.W.Wire.exchanges in
    let added = c.in-Ok.ensures.added told_wire in
    let e : Exchange = record { url = c.args.request.now.uri; path = c.args.request.now.path; named = c.args.request.now.named; held = added.0; answer = Some c.in-Ok.answer } in
    on_err _ (part_one c.args.request.now.path (exchanges c.args.wire.now) (exchanges c.exchange.new.self) e added.1 refl c.requires.url)

pub returns-in-Ok-clause-kept : goal.returns-in-Ok-clause-kept
returns-in-Ok-clause-kept g c told_wire told =
    let exchanges = g.W.Wire.exchanges in
    let past = g.D.CacheDisk.past in
    let added = c.in-Ok.ensures.added told_wire in
    let e : Exchange = record { url = c.args.request.now.uri; path = c.args.request.now.path; named = c.args.request.now.named; held = added.0; answer = Some c.in-Ok.answer } in
    let one : (es : List Exchange) → exchanges c.exchange.new.self ≡ exchanges c.args.wire.now ++ es → es ≡ e ∷ [] = λ es is. cancel (exchanges c.args.wire.now) es (e ∷ []) (sym is ∙ added.1) in
    record {
      kept = λ m es is honest kept.
          let P : List Exchange → Type 0 = λ xs. AreHonest m xs in
          let mine : IsHonest m e = (subst P (one es is) honest).0 in
          c.take_answer.ensures.kept told m
          (λ p named sent.
          let same : c.args.request.now.path ≡ p = cc (named, c.requires.place) in
          subst (λ (q : List ℕ). IfSome c.in-Ok.answer.revision (λ r. Maps m q r c.in-Ok.answer.body)) same
          (honest_sent m c.args.request.now.path c.args.request.now.named added.0 c.in-Ok.answer mine.mapped mine.answered sent))
          kept;
      sent = λ xs es is holds.
          let Q : List Exchange → Type 0 = λ ys. KeepsSent (xs ++ ys) (past c.args.disk.now) (past c.take_answer.new.disk) in
          subst Q (sym (one es is)) (c.take_answer.ensures.sent told xs e refl c.requires.place c.requires.index_path holds);
    }

pub returns-in-Err-Failed-clause-answered_turns : goal.returns-in-Err-Failed-clause-answered_turns
returns-in-Err-Failed-clause-answered_turns g c told_wire =
    let past = g.D.CacheDisk.past in
    let faults = g.D.CacheDisk.faults in
    let failed = g.D.CacheDisk.failed in
    let added = rw c.in-Err-Failed.field-0-is at (c.in-Err-Failed.ensures.added told_wire) in
    let e : Exchange = record { url = c.args.request.now.uri; path = c.args.request.now.path; named = c.args.request.now.named; held = added.0; answer = None } in
    (e, added.1, refl, refl, c.requires.url, answered_none g.D.CacheDisk.tells (faults c.args.disk.now) (faults c.args.disk.now) (disk_at (past c.args.disk.now) (failed c.args.disk.now)) e refl)

pub returns-in-Err-Failed-clause-kept : goal.returns-in-Err-Failed-clause-kept
returns-in-Err-Failed-clause-kept g c told_wire told =
    keeps_nothing (g.W.Wire.exchanges c.args.wire.now) (g.W.Wire.exchanges c.exchange.new.self) (g.D.CacheDisk.past c.args.disk.now)

pub returns-in-Err-NoMemory-clause-part : goal.returns-in-Err-NoMemory-clause-part
returns-in-Err-NoMemory-clause-part g c told_wire =
    let same = rw c.in-Err-NoMemory.field-0-is at (c.in-Err-NoMemory.ensures.added told_wire) in
    part_none (c.args.request.now.path ∷ []) (g.W.Wire.exchanges c.args.wire.now) (g.W.Wire.exchanges c.exchange.new.self) same

pub returns-in-Err-NoMemory-clause-kept : goal.returns-in-Err-NoMemory-clause-kept
returns-in-Err-NoMemory-clause-kept g c told_wire told =
    keeps_nothing (g.W.Wire.exchanges c.args.wire.now) (g.W.Wire.exchanges c.exchange.new.self) (g.D.CacheDisk.past c.args.disk.now)

pub returns-in-Ok-clause-others : goal.returns-in-Ok-clause-others
returns-in-Ok-clause-others g c told q other =
    let place : cache_file_of [] (text_of c.args.name) ≡ Some (cache_file [] c.args.request.now.path) = ap (λ o. option_map (cache_file []) o) c.requires.place in
    c.take_answer.ensures.others told q (λ is. other (cc (is, place)))

pub returns-in-Err-Failed-clause-folders : goal.returns-in-Err-Failed-clause-folders
returns-in-Err-Failed-clause-folders g c told = none_made _ _ _ refl

pub returns-in-Err-NoMemory-clause-folders : goal.returns-in-Err-NoMemory-clause-folders
returns-in-Err-NoMemory-clause-folders g c told = none_made _ _ _ refl

pub returns-in-Ok-clause-blames : goal.returns-in-Ok-clause-blames
returns-in-Ok-clause-blames g c =
    let place : cache_file_of [] (text_of c.args.name) ≡ Some (cache_file [] c.args.request.now.path) = ap (λ o. option_map (cache_file []) o) c.requires.place in
    c.take_answer.ensures.blames _ place

pub returns-in-Err-Failed-clause-blames : goal.returns-in-Err-Failed-clause-blames
returns-in-Err-Failed-clause-blames g c = record { store = λ is. absurd (cc is); else_writing = λ other. inl refl }
