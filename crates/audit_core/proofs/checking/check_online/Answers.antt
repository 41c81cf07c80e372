use Rattle.std.proofs.Common.{◌≡◌, Some, map, ap, ◌∙◌, refl}
use Rattle.audit_core.specs.declared.asking.AnsweredTurn.{AnsweredTurn}
use Rattle.tame_names.specs.Names.{path}
use Rattle.audit_core.proofs.Apart.{asked_distinct}
use Rattle.audit_core.specs.Turns.{disk_at}
use Rattle.audit_core.proofs.Exchanged.{keeps_nothing}
use Rattle.audit_core.proofs.FailedLemmas.{asked_done, exchanged_done}
use Rattle.audit_core.proofs.Left.{asks_nothing}
use Rattle.tame_cache.proofs.FolderLemmas.{made_weaker}
use Rattle.audit_core.proofs.Names.{asked_file, named_part, names_valid, no_file_of}
use Rattle.audit_core.specs.Paths.{asked_paths, default_paths, defaults}
use Rattle.audit_core.proofs.Steps.{AddsTurns-part}
use Rattle.audit_core.proofs.Whole.{IsDone, audit_done, caused_done, answered_paths, held_done, turns_done}
use Rattle.audit_core.proofs.checking.check_online.Goals as goal

pub returns-in_err-index-clause-kept : goal.returns-in_err-index-clause-kept
returns-in_err-index-clause-kept g c told_wire told = keeps_nothing (g.W.Wire.exchanges c.args.wire.now) (g.W.Wire.exchanges c.args.wire.now) (g.D.CacheDisk.past c.args.disk.now)

pub returns-in_err-plan-clause-kept : goal.returns-in_err-plan-clause-kept
returns-in_err-plan-clause-kept g c told_wire told = keeps_nothing (g.W.Wire.exchanges c.args.wire.now) (g.W.Wire.exchanges c.args.wire.now) (g.D.CacheDisk.past c.args.disk.now)

pub ask_all-requires-clause-named : goal.ask_all-requires-clause-named
ask_all-requires-clause-named g c = rw c.as_slice.ensures (names_valid c.in_ok-plan.plan.names (asked_paths c.args.packages.now) c.in_ok-plan.ensures.named)

pub judge-requires : goal.judge-requires
judge-requires g c =
    let plan = c.in_ok-plan in
    let hs = c.in_ok-answered_turns.answered_turns in
    let paths : map (λ (h : AnsweredTurn). h.turn.path) hs ≡ asked_paths c.args.packages.now = answered_paths plan.plan.names (asked_paths c.args.packages.now) hs (c.in_ok-answered_turns.ensures.paths ∙ ap (map path) c.as_slice.ensures) plan.ensures.named in
    rw (c.as_slice-2.ensures, c.as_slice-3.ensures, paths) plan.ensures.planned

pub returns-clause-says : goal.returns-clause-says
returns-clause-says g c =
    let exchanges = g.W.Wire.exchanges in
    let past = g.D.CacheDisk.past in
    let failed = g.D.CacheDisk.failed in
    let packages = c.args.packages.now in
    let plan = c.in_ok-plan in
    let hs = c.in_ok-answered_turns.answered_turns in
    let verdicts = c.in_ok-verdicts.verdicts in
    let done : IsDone (asked_paths packages) (defaults packages) hs verdicts = record {
      distinct = asked_distinct (default_paths packages);
      answered_turns = answered_paths plan.plan.names (asked_paths packages) hs (c.in_ok-answered_turns.ensures.paths ∙ ap (map path) c.as_slice.ensures) plan.ensures.named;
      judged = rw c.as_slice-2.ensures at c.in_ok-verdicts.ensures;
    } in
    rw c.in_ok-turns.ensures record {
      headline = λ online told_wire told. held_done g.D.CacheDisk.tells told (asked_paths packages) (defaults packages) hs verdicts (exchanges c.args.wire.now) (exchanges c.ask_all.new.wire) (disk_at (past c.args.disk.now) (failed c.args.disk.now)) (disk_at (past c.ask_all.new.disk) (failed c.ask_all.new.disk)) done c.in_ok-answered_turns.ensures.caused (c.in_ok-answered_turns.ensures.said told_wire);
      audited = λ online told. audit_done g.D.CacheDisk.tells (asked_paths packages) (defaults packages) hs verdicts (exchanges c.args.wire.now) (exchanges c.ask_all.new.wire) (disk_at (past c.args.disk.now) (failed c.args.disk.now)) (disk_at (past c.ask_all.new.disk) (failed c.ask_all.new.disk)) done (c.in_ok-answered_turns.ensures.said told);
      recalled = λ offline. absurd (cc);
      counted = turns_done (asked_paths packages) (defaults packages) hs verdicts _ _ _ _ done c.in_ok-answered_turns.ensures.counts;
      caused = caused_done (asked_paths packages) (defaults packages) hs verdicts done c.in_ok-answered_turns.ensures.caused;
      failed = record {
        exchanged = λ online told_wire told. exchanged_done g.D.CacheDisk.tells told (asked_paths packages) (defaults packages) hs verdicts (exchanges c.args.wire.now) (exchanges c.ask_all.new.wire)
            (disk_at (past c.args.disk.now) (failed c.args.disk.now)) (disk_at (past c.ask_all.new.disk) (failed c.ask_all.new.disk)) done (c.in_ok-answered_turns.ensures.said told_wire);
        asked = λ online told. asked_done (asked_paths packages) (defaults packages) hs verdicts _ _ done (c.in_ok-answered_turns.ensures.fails told);
        read = λ offline. absurd (cc);
        off = λ off. absurd (cc);
      };
    }

pub returns-in_err-index-clause-asks : goal.returns-in_err-index-clause-asks
returns-in_err-index-clause-asks g c = asks_nothing _ _ _ _

pub returns-in_err-plan-clause-asks : goal.returns-in_err-plan-clause-asks
returns-in_err-plan-clause-asks g c = asks_nothing _ _ _ _

pub returns-in_err-answered_turns-clause-asks : goal.returns-in_err-answered_turns-clause-asks
returns-in_err-answered_turns-clause-asks g c =
    let plan = c.in_ok-plan in
    record {
      part = λ told. named_part plan.plan.names (asked_paths c.args.packages.now) (g.W.Wire.exchanges c.args.wire.now) (g.W.Wire.exchanges c.ask_all.new.wire) plan.ensures.named
          (rw c.as_slice.ensures at (c.in_err-answered_turns.ensures.part told));
      others = λ told q other. c.ask_all.ensures.others told q (rw c.as_slice.ensures (no_file_of plan.plan.names (asked_paths c.args.packages.now) q plan.ensures.named other));
      folders = λ told. made_weaker _ _ (λ q is. asked_file plan.plan.names (asked_paths c.args.packages.now) q plan.ensures.named is) _ _ (rw c.as_slice.ensures at (c.ask_all.ensures.folders told));
    }

pub returns-in_err-verdicts-clause-asks : goal.returns-in_err-verdicts-clause-asks
returns-in_err-verdicts-clause-asks g c =
    let plan = c.in_ok-plan in
    record {
      part = λ told. AddsTurns-part g.D.CacheDisk.tells (asked_paths c.args.packages.now) c.in_ok-answered_turns.answered_turns (g.W.Wire.exchanges c.args.wire.now) (g.W.Wire.exchanges c.ask_all.new.wire)
          (disk_at (g.D.CacheDisk.past c.args.disk.now) (g.D.CacheDisk.failed c.args.disk.now)) (disk_at (g.D.CacheDisk.past c.ask_all.new.disk) (g.D.CacheDisk.failed c.ask_all.new.disk)) (c.in_ok-answered_turns.ensures.paths ∙ ap (map path) c.as_slice.ensures ∙ plan.ensures.named)
          (c.in_ok-answered_turns.ensures.said told);
      others = λ told q other. c.ask_all.ensures.others told q (rw c.as_slice.ensures (no_file_of plan.plan.names (asked_paths c.args.packages.now) q plan.ensures.named other));
      folders = λ told. made_weaker _ _ (λ q is. asked_file plan.plan.names (asked_paths c.args.packages.now) q plan.ensures.named is) _ _ (rw c.as_slice.ensures at (c.ask_all.ensures.folders told));
    }

pub returns-in_err-turns-clause-asks : goal.returns-in_err-turns-clause-asks
returns-in_err-turns-clause-asks g c =
    let plan = c.in_ok-plan in
    record {
      part = λ told. AddsTurns-part g.D.CacheDisk.tells (asked_paths c.args.packages.now) c.in_ok-answered_turns.answered_turns (g.W.Wire.exchanges c.args.wire.now) (g.W.Wire.exchanges c.ask_all.new.wire)
          (disk_at (g.D.CacheDisk.past c.args.disk.now) (g.D.CacheDisk.failed c.args.disk.now)) (disk_at (g.D.CacheDisk.past c.ask_all.new.disk) (g.D.CacheDisk.failed c.ask_all.new.disk)) (c.in_ok-answered_turns.ensures.paths ∙ ap (map path) c.as_slice.ensures ∙ plan.ensures.named)
          (c.in_ok-answered_turns.ensures.said told);
      others = λ told q other. c.ask_all.ensures.others told q (rw c.as_slice.ensures (no_file_of plan.plan.names (asked_paths c.args.packages.now) q plan.ensures.named other));
      folders = λ told. made_weaker _ _ (λ q is. asked_file plan.plan.names (asked_paths c.args.packages.now) q plan.ensures.named is) _ _ (rw c.as_slice.ensures at (c.ask_all.ensures.folders told));
    }

pub returns-clause-asks : goal.returns-clause-asks
returns-clause-asks g c =
    let plan = c.in_ok-plan in
    record {
      part = λ told. AddsTurns-part g.D.CacheDisk.tells (asked_paths c.args.packages.now) c.in_ok-answered_turns.answered_turns (g.W.Wire.exchanges c.args.wire.now) (g.W.Wire.exchanges c.ask_all.new.wire)
          (disk_at (g.D.CacheDisk.past c.args.disk.now) (g.D.CacheDisk.failed c.args.disk.now)) (disk_at (g.D.CacheDisk.past c.ask_all.new.disk) (g.D.CacheDisk.failed c.ask_all.new.disk)) (c.in_ok-answered_turns.ensures.paths ∙ ap (map path) c.as_slice.ensures ∙ plan.ensures.named)
          (c.in_ok-answered_turns.ensures.said told);
      others = λ told q other. c.ask_all.ensures.others told q (rw c.as_slice.ensures (no_file_of plan.plan.names (asked_paths c.args.packages.now) q plan.ensures.named other));
      folders = λ told. made_weaker _ _ (λ q is. asked_file plan.plan.names (asked_paths c.args.packages.now) q plan.ensures.named is) _ _ (rw c.as_slice.ensures at (c.ask_all.ensures.folders told));
    }
