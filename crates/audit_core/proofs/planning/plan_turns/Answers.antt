use Rattle.std.proofs.Common.{◌≡◌, List, ℕ, ◌+◌, ◌++◌, ◌∷◌, [], suc, take, drop, ap, sym, ◌∙◌, arith}
use Rattle.std.proofs.Math.Seq.{take-suc}
use Rattle.audit_lock.specs.declared.resolving.Package.{Package}
use Rattle.audit_core.specs.Paths.{default_path, default_paths, distinct_after}
use Rattle.audit_core.proofs.Lists.{drop_at}
use Rattle.audit_core.proofs.PlanLemmas.{distinct_next, planned_more, planned_with}
use Rattle.audit_core.proofs.planning.plan_turns.Goals as goal

pub loop-locked-preserved : goal.loop-locked-preserved
loop-locked-preserved c =
    let ps = c.args.packages.now in
    let i = c.loop-locked.locked-index in
    let p = c.locked-item.result in
    let old = c.loop-locked.places.paths in
    let inv = c.loop-locked.invariant in
    let turn = c.in_ok-turn in
    let next : suc i ≡ i + 1 = omega arith in
    let at : drop i ps ≡ p ∷ drop (i + 1) ps = drop_at ps i p c.loop-locked-test.true c.locked-item.is ∙ ap (λ n. p ∷ drop n ps) next in
    let more : take (i + 1) ps ≡ take i ps ++ p ∷ [] = ap (λ n. take n ps) (sym next) ∙ take-suc ps i p c.loop-locked-test.true ∙ ap (λ (x : Package). take i ps ++ x ∷ []) (sym c.locked-item.is) in
    record {
      places = turn.ensures.places;
      paths = inv.paths ∙ ap (λ (xs : List Package). old ++ distinct_after old (default_paths xs)) at ∙ distinct_next old (default_path p) (default_paths (drop (i + 1) ps))
          ∙ ap (λ (qs : List (List ℕ)). qs ++ distinct_after qs (default_paths (drop (i + 1) ps))) (sym turn.ensures.paths);
      planned = rw (more, c.in_ok-add.ensures.ok) (planned_more c.plan.new.self.paths (take i ps) c.loop-locked.turns p turn.turn (rw turn.ensures.paths (planned_with old (default_path p) (take i ps) c.loop-locked.turns inv.planned)) turn.ensures.planned);
    }
