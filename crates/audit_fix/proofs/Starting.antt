-- Steps that are started one after the other.
use Rattle.std.proofs.Common.{◌≡◌, ◌≤◌, ◌<◌, ◌+◌, ◌∷◌, ◌++◌, ◌∙◌, ℕ, ℤ, suc, List, [], length, take, map, get_or, Option, refl, sym, ap, append_assoc, arith}
use Rattle.std.specs.Prelude.{min, zip, count_by, ◌^◌, ◌-◌}
use Rattle.std.proofs.lemmas.List.{map-append, length-append}
use Rattle.std.proofs.lemmas.List.Sums.{sum_by-append}
use Rattle.std.proofs.Math.Seq.{take-suc}
use Rattle.audit_asked.specs.declared.runners.Started.{Started}
use Rattle.tame_names.specs.Counts.{CountRoseBy}
use Rattle.audit_fix.specs.Steps.{StartsEach, failed_starts, started}
use Rattle.audit_fix.specs.declared.plans.FixStep.{FixStep}

zip_more : {A B : Type 0} (xs : List A) (ys : List B) (x : A) (y : B) → length ys ≡ length xs → zip (xs ++ x ∷ []) (ys ++ y ∷ []) ≡ zip xs ys ++ (x, y) ∷ []
zip_more [] [] x y h = refl
zip_more [] (b ∷ ys) x y h = cc
zip_more (a ∷ xs) [] x y h = cc
zip_more (a ∷ xs) (b ∷ ys) x y h = let same : length ys ≡ length xs = omega (arith, h) in rw (zip_more xs ys x y same) refl

-- one more step was started
pub step_more : (steps : List FixStep) (i : ℕ) (step : FixStep) (statuses : List (Option ℤ)) (status : Option ℤ) (before mid now : List Started)
    → i < length steps → step ≡ get_or steps i step → StartsEach (take i steps) statuses before mid
    → now ≡ mid ++ started (step, status) ∷ []
    → StartsEach (take (suc i) steps) (statuses ++ status ∷ []) before now
step_more steps i step statuses status before mid now low is each more =
    let next : take (suc i) steps ≡ take i steps ++ step ∷ [] = take-suc steps i step low ∙ ap (λ s. take i steps ++ s ∷ []) (sym is) in
    let pairs = zip_more (take i steps) statuses step status each.one_each in
    record {
      one_each = rw (next, length-append statuses (status ∷ []), length-append (take i steps) (step ∷ []), each.one_each) refl;
      added = rw (next, pairs, map-append, more, each.added) (append_assoc before (map started (zip (take i steps) statuses)) (started (step, status) ∷ []));
    }

-- counts that rose one after the other
rose_on : (end one more before mid now : ℕ) → min (before + one) end ≤ mid → min (mid + more) end ≤ now → mid ≤ now → min (before + (one + more)) end ≤ now
rose_on end one more before mid now h k later = omega (arith, h, k, later)

pub rose_more : (statuses : List (Option ℤ)) (status : Option ℤ) (before mid now : ℕ)
    → CountRoseBy (failed_starts statuses) before mid → CountRoseBy (failed_starts (status ∷ [])) mid now → mid ≤ now
    → CountRoseBy (failed_starts (statuses ++ status ∷ [])) before now
rose_more statuses status before mid now h k later =
    rw sum_by-append (rose_on (2 ^ 64 - 1) (failed_starts statuses) (failed_starts (status ∷ [])) before mid now h k later)
