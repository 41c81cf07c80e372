-- The places of packages that are judged yanked.
use Rattle.std.proofs.Common.{◌<◌, ◌≤◌, ℕ, ◌+◌, List, [], ◌∷◌, length, Bool, true, false, cond, sym, subst, arith}
use Rattle.std.specs.Prelude.{All, filter}
use Rattle.std.specs.List.{enumerate_from}
use Rattle.std.proofs.lemmas.List.Elements.{All-cons, All-nil}
use Rattle.audit_lock.specs.declared.resolving.Package.{Package}
use Rattle.audit_core.specs.Auditors.{with_if_yanked, yanked_in}
use Rattle.audit_core.specs.Checks.{judged_of}
use Rattle.audit_core.specs.Paths.{is_default}
use Rattle.audit_core.specs.Verdicts.{AreVerdicts}
use Rattle.audit_core.specs.declared.checking.Checks.{Checks}
use Rattle.audit_core.specs.declared.checking.Checks.TheVariants.{Online, Offline, Off}
use Rattle.audit_core.specs.declared.verdicts.Judged.{Judged}
use Rattle.audit_core.specs.declared.verdicts.Verdict.{Verdict}
use Rattle.audit_core.specs.declared.verdicts.Verdict.TheVariants.{Yanked, NotYanked, Unchecked}
use Rattle.audit_core.specs.declared.verdicts.Verdict.{Verdict}
use Rattle.std.specs.Prelude.{Option}

abbrev Below : ℕ → List ℕ → Type 0
Below n places = All (λ place. place < n) places

one_more : (n place : ℕ) (verdict : Verdict) (places : List ℕ) → place < n → Below n places → Below n (with_if_yanked verdict place places)
one_more n place Yanked places low h = All-cons (λ p. p < n) place places low h
one_more n place NotYanked places low h = h
one_more n place (Unchecked c) places low h = h

below_case : (Is : List ℕ → Option (List ℕ) → Verdict → Type 0) (b : Bool) (n m : ℕ) (p : Package) (rest : List (ℕ × Package)) (js : List Judged) → n < m
    → ((ks : List Judged) → AreVerdicts Is rest ks → Below m (yanked_in ks)) → AreVerdicts Is (cond b ((n, p) ∷ rest) rest) js → Below m (yanked_in js)
below_case Is true n m p rest [] low f h = absurd h
below_case Is true n m p rest (j ∷ js) low f h =
    one_more m j.«package» j.verdict (yanked_in js) (subst (λ k. k < m) (sym h.0) low) (f js h.2)
below_case Is false n m p rest js low f h = f js h

below_from : (Is : List ℕ → Option (List ℕ) → Verdict → Type 0) (n m : ℕ) (ps : List Package) (js : List Judged) → n + length ps ≤ m → AreVerdicts Is (filter (λ p. is_default p.1) (enumerate_from n ps)) js → Below m (yanked_in js)
below_from Is n m [] [] low h = All-nil (λ p. p < m)
below_from Is n m [] (j ∷ js) low h = absurd h
below_from Is n m (p ∷ ps) js low h =
    let first : n < m = omega (arith, low) in
    let more : n + 1 + length ps ≤ m = omega (arith, low) in
    below_case Is (is_default p) n m p (filter (λ p. is_default p.1) (enumerate_from (n + 1) ps)) js first (λ ks k. below_from Is (n + 1) m ps ks more k) h

-- each is below the number of packages
pub yanked_below : (Is : List ℕ → Option (List ℕ) → Verdict → Type 0) (checks : Checks) (ps : List Package) (js : List Judged) → AreVerdicts Is (judged_of checks ps) js → All (λ place. place < length ps) (yanked_in js)
yanked_below Is Online ps js h = below_from Is 0 (length ps) ps js (omega arith) h
yanked_below Is Offline ps js h = below_from Is 0 (length ps) ps js (omega arith) h
yanked_below Is Off ps [] h = All-nil (λ place. place < length ps)
yanked_below Is Off ps (j ∷ js) h = absurd h
