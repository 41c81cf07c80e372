-- The folder that a path is in is shorter than the path.
use Rattle.std.proofs.Common.{◌≡◌, ℕ, suc, ◌+◌, ◌<◌, ◌≤◌, ◌==◌, List, [], ◌∷◌, length, codes, bytes_eq, Bool, true, false, Option, Some, None, refl, sym, ap, arith, inl, inr, subst}
use Rattle.std.specs.Prelude.{IfSome, option_map, unwrap_or}
use Rattle.std.proofs.Math.Dec.{eqb-suc-zero}
use Rattle.std.proofs.lemmas.Bool.{cases_Bool}
use Rattle.tame_names.proofs.LastCuts.{without_end-within}
use Rattle.tame_names.specs.Paths.{cut_at_last, cut_onto, in_front, parent, parent_of_plain, plain_path}

none_some : {A : Type 0} (a : A) → None ≡ Some a → ⊥
none_some a h = cc

inside : {A : Type 0} (a b : A) → Some a ≡ Some b → a ≡ b
inside a b h = ap (λ o. unwrap_or o a) h

cut_case : (here : Bool) (b : ℕ) (bs : List ℕ) (o : Option (List ℕ × List ℕ)) (p : List ℕ × List ℕ)
    → ((q : List ℕ × List ℕ) → o ≡ Some q → length q.0 + 1 + length q.1 ≡ length bs)
    → cut_onto here b bs o ≡ Some p → length p.0 + 1 + length p.1 ≡ suc (length bs)
cut_case here b bs (Some q) p more h =
    let P : List ℕ × List ℕ → Type 0 = λ p. length p.0 + 1 + length p.1 ≡ suc (length bs) in
    let size : length q.0 + 1 + length q.1 ≡ length bs = more q refl in
    subst P (inside (b ∷ q.0, q.1) p h) (omega (arith, size))
cut_case true b bs None p more h =
    let P : List ℕ × List ℕ → Type 0 = λ p. length p.0 + 1 + length p.1 ≡ suc (length bs) in
    subst P (inside ([], bs) p h) (omega arith)
cut_case false b bs None p more h = absurd (none_some p h)

-- a cut separates all but the needle
cut-length : (n : ℕ) (bs : List ℕ) (p : List ℕ × List ℕ) → cut_at_last n bs ≡ Some p → length p.0 + 1 + length p.1 ≡ length bs
cut-length n [] p h = absurd (none_some p h)
cut-length n (b ∷ bs) p h = cut_case (b == n) b bs (cut_at_last n bs) p (λ q e. cut-length n bs q e) h

long : (path : List ℕ) (p : List ℕ × List ℕ) → cut_at_last 47 path ≡ Some p → 0 < length path → bytes_eq path (codes "/") ≡ false → 1 < length path
long [] p h some other = absurd (omega (arith, some))
long (b ∷ []) p h some other = elim (cases_Bool (b == 47)) [
  | inl x ↦ absurd (clash (rw x at other))
  | inr x ↦ absurd (none_some p (rw x at h))
]
  where
    clash : true ≡ false → ⊥
    clash e = cc
long (b ∷ c ∷ cs) p h some other = omega arith

front_case : (path : List ℕ) (o : Option (List ℕ × List ℕ)) → cut_at_last 47 path ≡ o → 0 < length path → bytes_eq path (codes "/") ≡ false
    → length (in_front o) < length path
front_case path None h some other = some
front_case path (Some p) h some other = elim (cases_Bool (length p.0 == 0)) [
  | inl x ↦ rw x (long path p h some other)
  | inr x ↦
      let size : length p.0 + 1 + length p.1 ≡ length path = cut-length 47 path p h in
      rw x (omega (arith, size))
]

plain-short : (path folder : List ℕ) → parent_of_plain path ≡ Some folder → length folder < length path
plain-short [] folder h = absurd (none_some folder h)
plain-short (b ∷ bs) folder h =
    let some : (length (b ∷ bs) == 0) ≡ false = eqb-suc-zero (length bs) in
    elim (cases_Bool (bytes_eq (b ∷ bs) (codes "/"))) [
      | inl x ↦
          let e : None ≡ Some folder = rw (some, x) at h in
          absurd (none_some folder e)
      | inr x ↦
          let e : Some (in_front (cut_at_last 47 (b ∷ bs))) ≡ Some folder = rw (some, x) at h in
          let size : length (in_front (cut_at_last 47 (b ∷ bs))) ≡ length folder = ap length (inside _ folder e) in
          omega (arith, size, front_case (b ∷ bs) (cut_at_last 47 (b ∷ bs)) refl (omega arith) x)
    ]

within : (path : List ℕ) → length (plain_path path) ≤ length path
within [] = omega arith
within (b ∷ bs) = omega (arith, without_end-within 47 bs)

pub parent-short : (path folder : List ℕ) → parent path ≡ Some folder → length folder < length path
parent-short path folder h = omega (arith, plain-short (plain_path path) folder h, within path)

-- if the folder is what an answer says, it is shorter
pub shorter : {R : Type 0} (now : R → List ℕ) (path : List ℕ) (r : Option R) → option_map now r ≡ parent path
    → IfSome r (λ folder. length (now folder) < length path)
shorter now path None h = tt
shorter now path (Some folder) h = parent-short path (now folder) (sym h)
