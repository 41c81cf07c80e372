-- Bytes cut at the first needle, and the part of a line up to its first comma.
use Rattle.std.proofs.Common.{◌≡◌, ℕ, zero, suc, ◌<◌, ◌==◌, List, [], ◌∷◌, length, take, drop, get_or, Bool, true, false, cond, Option, Some, None, option_map, refl, sym, ap, ◌∙◌, arith}
use Rattle.std.specs.Prelude.{MatchOption}
use Rattle.std.proofs.lemmas.Bool.{false_from_ne_true}
use Rattle.tame_entry.specs.Raw.{comma_parts, cut_at, onto_first}

pub cut_here : (n : ℕ) (bs : List ℕ) (i : ℕ) → i < length bs → ((k : ℕ) → k < i → (get_or bs k 0 == n) ≡ true → ⊥) → (get_or bs i 0 == n) ≡ true
    → cut_at n bs ≡ Some (take i bs, drop (suc i) bs)
cut_here n [] i within before here = absurd (omega arith)
cut_here n (b ∷ bs) zero within before here = rw here
cut_here n (b ∷ bs) (suc i) within before here =
    let other : (b == n) ≡ false = false_from_ne_true _ (before 0 (omega arith)) in
    rw (other, cut_here n bs i (omega arith) (λ k h. before (suc k) (omega arith)) here)

pub cut_nowhere : (n : ℕ) (bs : List ℕ) → ((k : ℕ) → k < length bs → (get_or bs k 0 == n) ≡ true → ⊥) → cut_at n bs ≡ None
cut_nowhere n [] none = refl
cut_nowhere n (b ∷ bs) none =
    let other : (b == n) ≡ false = false_from_ne_true _ (none 0 (omega arith)) in
    rw (other, cut_nowhere n bs (λ k h. none (suc k) (omega arith)))

-- the parts, by the cut at the first comma
abbrev pub parts_by : Option (List ℕ × List ℕ) → List (List ℕ)
parts_by None = []
parts_by (Some p) = p.0 ∷ comma_parts p.1

parts_onto : (b : ℕ) (o : Option (List ℕ × List ℕ)) → onto_first b (parts_by o) ≡ parts_by (option_map (λ p. (b ∷ p.0, p.1)) o)
parts_onto b None = refl
parts_onto b (Some p) = refl

parts_case : (t : Bool) (b : ℕ) (bs : List ℕ) → comma_parts bs ≡ parts_by (cut_at 44 bs)
    → cond t ([] ∷ comma_parts bs) (onto_first b (comma_parts bs)) ≡ parts_by (cond t (Some ([], bs)) (option_map (λ p. (b ∷ p.0, p.1)) (cut_at 44 bs)))
parts_case true b bs more = refl
parts_case false b bs more = ap (onto_first b) more ∙ parts_onto b (cut_at 44 bs)

pub parts_cut : (bs : List ℕ) → comma_parts bs ≡ parts_by (cut_at 44 bs)
parts_cut [] = refl
parts_cut (b ∷ bs) = parts_case (b == 44) b bs (parts_cut bs)

pub by_parts : {A : Type 0} (bs : List ℕ) (r : Option A) (first later : A → List ℕ) → option_map (λ a. (first a, later a)) r ≡ cut_at 44 bs
    → MatchOption r (comma_parts bs ≡ []) (λ a. comma_parts bs ≡ first a ∷ comma_parts (later a))
by_parts bs None first later h = parts_cut bs ∙ ap parts_by (sym h)
by_parts bs (Some a) first later h = parts_cut bs ∙ ap parts_by (sym h)
