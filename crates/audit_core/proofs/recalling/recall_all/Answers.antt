use Rattle.std.proofs.Common.{◌≡◌, ◌∷◌, [], ◌++◌, map, ◌∙◌, refl}
use Rattle.std.proofs.lemmas.List.{map-append}
use Rattle.audit_core.specs.declared.asking.AnsweredTurn.{AnsweredTurn}
use Rattle.audit_core.proofs.Recalls.{blames_more, recalled_from, recalled_more, unasked_more}
use Rattle.audit_core.proofs.Steps.{AreCaused-more, Chains-more, name_at, paths_more}
use Rattle.audit_core.proofs.recalling.recall_all.Goals as goal

pub loop-name-init : goal.loop-name-init
loop-name-init g c =
    rw c.new-answered_turns.ensures record {
      paths = refl;
      counts = (refl, refl);
      unasked = tt;
      caused = tt;
      recalled = tt;
      blames = refl;
      same = λ told q. refl;
      folders = λ told. refl;
    }

pub recall_turn-requires-clause-named : goal.recall_turn-requires-clause-named
recall_turn-requires-clause-named g c = name_at c.args.names.now c.loop-name.name-index c.name-item.result c.loop-name-test.true c.name-item.is c.requires.named

pub loop-name-preserved : goal.loop-name-preserved
loop-name-preserved g c =
    let past = g.D.CacheDisk.past in
    let inv = c.loop-name.invariant in
    let turn = c.in_ok-turn in
    let turns : map (λ (h : AnsweredTurn). h.turn) (c.loop-name.answered_turns ++ turn.turn ∷ []) ≡ map (λ (h : AnsweredTurn). h.turn) c.loop-name.answered_turns ++ turn.turn.turn ∷ [] = map-append _ c.loop-name.answered_turns _ in
    rw c.in_ok-add.ensures.ok record {
      paths = paths_more c.args.names.now c.loop-name.name-index c.name-item.result c.loop-name.answered_turns turn.turn c.loop-name-test.true c.name-item.is inv.paths turn.ensures.path;
      counts = rw turns (Chains-more _ _ (map (λ (h : AnsweredTurn). h.turn) c.loop-name.answered_turns) (turn.turn.turn ∷ []) _ _ _ _ inv.counts turn.ensures.counts);
      unasked = rw turns (unasked_more (map (λ (h : AnsweredTurn). h.turn) c.loop-name.answered_turns) (turn.turn.turn ∷ []) inv.unasked turn.ensures.unasked);
      caused = AreCaused-more _ _ inv.caused turn.ensures.caused;
      recalled = recalled_more g.D.CacheDisk.tells (past c.args.disk.now) c.loop-name.answered_turns (turn.turn ∷ []) inv.recalled
          (recalled_from g.D.CacheDisk.tells (past c.args.disk.now) (past c.loop-name.disk) (turn.turn ∷ []) inv.same turn.ensures.recalled);
      blames = blames_more _ c.loop-name.answered_turns (turn.turn ∷ []) _ _ inv.blames turn.ensures.blames;
      same = λ told q. c.recall_turn.ensures.same told q ∙ inv.same told q;
      folders = λ told. c.recall_turn.ensures.folders told ∙ inv.folders told;
    }
