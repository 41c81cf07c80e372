-- Of several strings the first in byte order is kept.
use Rattle.std.proofs.Common.{◌≡◌, ◌⊎◌, inl, inr, ℕ, suc, List, [], ◌∷◌, Bool, true, false, cond, Some, None, refl, sym, ap, ◌∙◌, arith}
use Rattle.std.specs.Ordering.{is_le, nat_cmp, ordering_reverse}
use Rattle.std.specs.declared.cmp.Ordering.{Ordering}
use Rattle.std.specs.declared.cmp.Ordering.TheVariants.{Less, Equal, Greater}
use Rattle.std.specs.Cmp.Lexicographic.{slice_cmp}
use Rattle.std.specs.List.{All, Contains}
use Rattle.std.proofs.lemmas.Cmp.{nat_list_cmp_total}
use Rattle.std.proofs.lemmas.List.Elements.{All-cons}
use Rattle.audit_settings.specs.Unknown.{IsFirst, IsNotBefore, earlier, first_in_order, noted}

abbrev order : List ℕ → List ℕ → Ordering
order = slice_cmp nat_cmp

never_before_itself : (t : List ℕ) → IsNotBefore t t
never_before_itself t before =
    let bad : Less ≡ Greater = sym before ∙ nat_list_cmp_total.antisymm t t ∙ ap ordering_reverse before in
    cc

-- if `k` isn't after `t`, and `t` is before `r`, then `k` is before `r`
before_kept : (s : Ordering) (k t r : List ℕ) → order k t ≡ s → is_le s ≡ true → order t r ≡ Less → order k r ≡ Less
before_kept Less k t r e le b = nat_list_cmp_total.trans k t r e b
before_kept Equal k t r e le b = nat_list_cmp_total.congr k t r e ∙ b
before_kept Greater k t r e le b = cc

before_taken : (s : Ordering) (k t r : List ℕ) → order k t ≡ s → is_le s ≡ false → order k r ≡ Less → order t r ≡ Less
before_taken Less k t r e le b = cc
before_taken Equal k t r e le b = cc
before_taken Greater k t r e le b =
    let back : order t k ≡ Less = nat_list_cmp_total.antisymm t k ∙ ap ordering_reverse e in
    nat_list_cmp_total.trans t k r back b

abbrev Among : List (List ℕ) → List ℕ → Type 0
Among [] t = ⊥
Among (x ∷ xs) t = (x ≡ t) ⊎ Among xs t

abbrev Least : List ℕ → List (List ℕ) → Type 0
Least t [] = Unit {0}
Least t (x ∷ xs) = IsNotBefore t x × Least t xs

abbrev Keeps : List (List ℕ) → List ℕ → Type 0
Keeps ts r = Among ts r × Least r ts

kept_case : (b : Bool) (k t : List ℕ) (ts : List (List ℕ)) (r : List ℕ) → is_le (order k t) ≡ b
    → ((x : List ℕ) → noted (Some x) ts ≡ Some r → Keeps (x ∷ ts) r)
    → noted (Some (cond b k t)) ts ≡ Some r → Keeps (k ∷ t ∷ ts) r
kept_case true k t ts r le more h =
    let ih : Keeps (k ∷ ts) r = more k h in
    let found : Among (k ∷ t ∷ ts) r = elim ih.0 [ inl e ↦ inl e | inr a ↦ inr (inr a) ] in
    (found, (ih.1.0, ((λ b. ih.1.0 (before_kept (order k t) k t r refl le b)), ih.1.1)))
kept_case false k t ts r le more h =
    let ih : Keeps (t ∷ ts) r = more t h in
    (inr ih.0, ((λ b. ih.1.0 (before_taken (order k t) k t r refl le b)), ih.1))

kept : (ts : List (List ℕ)) (k r : List ℕ) → noted (Some k) ts ≡ Some r → Keeps (k ∷ ts) r
kept [] k r h =
    let same : k ≡ r = cc in
    (inl same, ((λ b. never_before_itself r (ap (λ x. order x r) (sym same) ∙ b)), tt))
kept (t ∷ ts) k r h = kept_case (is_le (order k t)) k t ts r refl (λ x. kept ts x r) h

contains_from : (ts : List (List ℕ)) (r : List ℕ) → Among ts r → Contains ts r
contains_from [] r a = absurd a
contains_from (t ∷ ts) r a = elim a [
  | inl e ↦ (0, omega arith, e)
  | inr more ↦ let rest : Contains ts r = contains_from ts r more in (suc rest.0, omega arith, rest.2)
]

all_from : (ts : List (List ℕ)) (r : List ℕ) → Least r ts → All (IsNotBefore r) ts
all_from [] r l = λ k d h. absurd (omega arith)
all_from (t ∷ ts) r l = All-cons (IsNotBefore r) t ts l.0 (all_from ts r l.1)

pub kept_is_first : (ts : List (List ℕ)) (r : List ℕ) → first_in_order ts ≡ Some r → IsFirst r ts
kept_is_first [] r h = cc
kept_is_first (t ∷ ts) r h =
    let k : Keeps (t ∷ ts) r = kept ts t r h in
    record { among = contains_from (t ∷ ts) r k.0; least = all_from (t ∷ ts) r k.1 }

some_kept : (ts : List (List ℕ)) (k : List ℕ) → noted (Some k) ts ≡ None → ⊥
some_kept [] k h = cc
some_kept (t ∷ ts) k h = some_kept ts (earlier (Some k) t) h

pub none_kept : (ts : List (List ℕ)) → first_in_order ts ≡ None → ts ≡ []
none_kept [] h = refl
none_kept (t ∷ ts) h = absurd (some_kept ts t h)
