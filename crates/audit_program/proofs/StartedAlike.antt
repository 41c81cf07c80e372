-- Starts that end alike.
use Rattle.std.proofs.Common.{◌≡◌, ℤ, List, [], ◌∷◌, ◌++◌, Option, Some, refl, ap}
use Rattle.std.specs.Prelude.{length, map, zip}
use Rattle.audit_asked.specs.Starts.{generating}
use Rattle.audit_asked.specs.declared.runners.Started.{Started}
use Rattle.audit_fix.specs.Steps.{started}
use Rattle.audit_fix.specs.declared.plans.FixStep.{FixStep}
use Rattle.audit_program.specs.AgreeingRuns.{EndAlike}

-- after the same starts
pub alike_behind : (xs ys zs : List Started) → EndAlike (xs ++ ys) (xs ++ zs) → EndAlike ys zs
alike_behind [] ys zs h = h
alike_behind (x ∷ xs) ys zs h = alike_behind xs ys zs (h.1 refl)

pub generated_alike : (s t : ℤ) (more more_too : List Started) → EndAlike (generating (Some s) ∷ more) (generating (Some t) ∷ more_too) → s ≡ t
generated_alike s t more more_too h = let same : Some s ≡ Some t = h.0 refl in cc (same)

one_started : (p : FixStep) (s t : Option ℤ) → s ≡ t → started (p, s) ≡ started (p, t)
one_started p s t same = ap (λ (x : Option ℤ). started (p, x)) same

pub statuses_alike : (steps : List FixStep) (ss ts : List (Option ℤ)) → length ss ≡ length steps → length ts ≡ length steps → EndAlike (map started (zip steps ss)) (map started (zip steps ts)) → ss ≡ ts
statuses_alike [] [] [] one two h = refl
statuses_alike [] [] (t ∷ ts) one two h = cc (two)
statuses_alike [] (s ∷ ss) ts one two h = cc (one)
statuses_alike (p ∷ ps) [] ts one two h = cc (one)
statuses_alike (p ∷ ps) (s ∷ ss) [] one two h = cc (two)
statuses_alike (p ∷ ps) (s ∷ ss) (t ∷ ts) one two h =
    let same : s ≡ t = h.0 refl in
    let rest : ss ≡ ts = statuses_alike ps ss ts (cc (one)) (cc (two)) (h.1 (one_started p s t same)) in
    cc (same, rest)
