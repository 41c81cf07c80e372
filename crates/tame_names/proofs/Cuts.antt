-- The first piece ends at the first needle.
use Rattle.std.proofs.Common.{◌≡◌, ℕ, zero, suc, ◌<◌, ◌==◌, List, [], ◌∷◌, length, take, drop, get_or, true, false, arith}
use Rattle.std.proofs.lemmas.Bool.{false_from_ne_true}
use Rattle.tame_names.specs.Pieces.{pieces}

pub pieces-cut : (n : ℕ) (bs : List ℕ) (i : ℕ) → i < length bs → ((k : ℕ) → k < i → (get_or bs k 0 == n) ≡ true → ⊥) → (get_or bs i 0 == n) ≡ true
    → pieces n bs ≡ take i bs ∷ pieces n (drop (suc i) bs)
pieces-cut n [] i within before here = absurd (omega arith)
pieces-cut n (b ∷ bs) zero within before here = rw here
pieces-cut n (b ∷ bs) (suc i) within before here =
    let other : (b == n) ≡ false = false_from_ne_true _ (before 0 (omega arith)) in
    rw (other, pieces-cut n bs i (omega arith) (λ k h. before (suc k) (omega arith)) here)

pub pieces-whole : (n : ℕ) (bs : List ℕ) → 0 < length bs → ((k : ℕ) → k < length bs → (get_or bs k 0 == n) ≡ true → ⊥) → pieces n bs ≡ bs ∷ []
pieces-whole n [] some none = absurd (omega arith)
pieces-whole n (b ∷ []) some none = rw (false_from_ne_true (b == n) (none 0 (omega arith)))
pieces-whole n (b ∷ c ∷ bs) some none =
    let other : (b == n) ≡ false = false_from_ne_true _ (none 0 (omega arith)) in
    rw (other, pieces-whole n (c ∷ bs) (omega arith) (λ k h. none (suc k) (omega arith)))
