use Rattle.std.proofs.Common.{◌≡◌, map, ap, ◌∙◌}
use Rattle.audit_core.specs.Paths.{asked_paths, default_paths, defaults}
use Rattle.audit_core.specs.declared.asking.AnsweredTurn.{AnsweredTurn}
use Rattle.tame_names.specs.Names.{path}
use Rattle.audit_core.proofs.Apart.{asked_distinct}
use Rattle.audit_core.proofs.FailedLemmas.{read_done}
use Rattle.audit_core.proofs.Names.{names_valid}
use Rattle.audit_core.proofs.Recalls.{recalled_done}
use Rattle.audit_core.proofs.Whole.{IsDone, caused_done, answered_paths, turns_done}
use Rattle.audit_core.proofs.checking.check_offline.Goals as goal

pub recall_all-requires-clause-named : goal.recall_all-requires-clause-named
recall_all-requires-clause-named g c = rw c.as_slice.ensures (names_valid c.in_ok-plan.plan.names (asked_paths c.args.packages.now) c.in_ok-plan.ensures.named)

pub judge-requires : goal.judge-requires
judge-requires g c =
    let plan = c.in_ok-plan in
    let hs = c.in_ok-answered_turns.answered_turns in
    let paths : map (λ (h : AnsweredTurn). h.turn.path) hs ≡ asked_paths c.args.packages.now = answered_paths plan.plan.names (asked_paths c.args.packages.now) hs (c.in_ok-answered_turns.ensures.paths ∙ ap (map path) c.as_slice.ensures) plan.ensures.named in
    rw (c.as_slice-2.ensures, c.as_slice-3.ensures, paths) plan.ensures.planned

pub returns-clause-says : goal.returns-clause-says
returns-clause-says g c =
    let past = g.D.CacheDisk.past in
    let packages = c.args.packages.now in
    let plan = c.in_ok-plan in
    let hs = c.in_ok-answered_turns.answered_turns in
    let verdicts = c.in_ok-verdicts.verdicts in
    let done : IsDone (asked_paths packages) (defaults packages) hs verdicts = record {
      distinct = asked_distinct (default_paths packages);
      answered_turns = answered_paths plan.plan.names (asked_paths packages) hs (c.in_ok-answered_turns.ensures.paths ∙ ap (map path) c.as_slice.ensures) plan.ensures.named;
      judged = rw c.as_slice-2.ensures at c.in_ok-verdicts.ensures;
    } in
    rw c.in_ok-turns.ensures record {
      headline = λ online. absurd (cc);
      audited = λ online. absurd (cc);
      recalled = λ offline. record {
        judged = recalled_done g.D.CacheDisk.tells (past c.args.disk.now) (asked_paths packages) (defaults packages) hs verdicts done c.in_ok-answered_turns.ensures.recalled;
        unasked = c.in_ok-answered_turns.ensures.unasked;
      };
      counted = turns_done (asked_paths packages) (defaults packages) hs verdicts _ _ _ _ done c.in_ok-answered_turns.ensures.counts;
      caused = caused_done (asked_paths packages) (defaults packages) hs verdicts done c.in_ok-answered_turns.ensures.caused;
      failed = record {
        exchanged = λ online. absurd (cc);
        asked = λ online. absurd (cc);
        read = λ offline. read_done (asked_paths packages) (defaults packages) hs verdicts _ _ done c.in_ok-answered_turns.ensures.blames;
        off = λ off. absurd (cc);
      };
    }
