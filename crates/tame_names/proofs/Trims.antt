-- Needles at the end, one by one.
use Rattle.std.proofs.Common.{◌≡◌, ℕ, zero, suc, ◌<◌, ◌==◌, List, [], ◌∷◌, length, take, get_or, Bool, true, false, cond, refl, sym, ap, ◌∙◌, ◌≤◌, ◌-◌, arith}
use Rattle.std.specs.Prelude.{◌&&◌}
use Rattle.std.proofs.lemmas.Bool.Decides.{nat_tests}
use Rattle.tame_names.specs.Pieces.{without_end}

is_self : (m : ℕ) → (m == m) ≡ true
is_self m = grind (arith, nat_tests)

-- a needle at the end makes no difference
pub without_end-needle : (m : ℕ) (bs : List ℕ) (k : ℕ) → k < length bs → get_or bs k 0 ≡ m → without_end m (take (suc k) bs) ≡ without_end m (take k bs)
without_end-needle m [] k low is = absurd (omega (arith, low))
without_end-needle m (b ∷ bs) zero low is = rw is (rw (is_self m) refl)
without_end-needle m (b ∷ bs) (suc k) low is = rw (without_end-needle m bs k (omega (arith, low)) is) refl

kept : (t : Bool) (n b : ℕ) (rest : List ℕ) → (n == 0) ≡ false → cond (t && (n == 0)) [] (b ∷ rest) ≡ b ∷ rest
kept true n b rest h = rw h refl
kept false n b rest h = refl

some : (bs : List ℕ) (k : ℕ) → k < length bs → (length (take (suc k) bs) == 0) ≡ false
some [] k low = absurd (omega (arith, low))
some (b ∷ bs) k low = grind (arith, nat_tests)

-- bytes that end with another byte stay
pub without_end-other : (m : ℕ) (bs : List ℕ) (k : ℕ) → k < length bs → (get_or bs k 0 == m) ≡ false → without_end m (take (suc k) bs) ≡ take (suc k) bs
without_end-other m [] k low is = absurd (omega (arith, low))
without_end-other m (b ∷ bs) zero low is = rw is refl
without_end-other m (b ∷ bs) (suc k) low is =
    let more : k < length bs = omega (arith, low) in
    rw (without_end-other m bs k more is) (kept (b == m) (length (take (suc k) bs)) b (take (suc k) bs) (some bs k more))

-- a needle before the end makes no difference
pub needle_before : (m : ℕ) (bs : List ℕ) (e : ℕ) → 0 < e → e ≤ length bs → get_or bs (e - 1) 0 ≡ m → without_end m (take e bs) ≡ without_end m (take (e - 1) bs)
needle_before m bs e low high is =
    let same : e ≡ suc (e - 1) = omega arith in
    ap (λ n. without_end m (take n bs)) same ∙ without_end-needle m bs (e - 1) (omega arith) is

-- another byte before the end stays
pub other_before : (m : ℕ) (bs : List ℕ) (e : ℕ) → 0 < e → e ≤ length bs → (get_or bs (e - 1) 0 ≡ m → ⊥) → without_end m (take e bs) ≡ take e bs
other_before m bs e low high other =
    let same : e ≡ suc (e - 1) = omega arith in
    let unequal : (get_or bs (e - 1) 0 == m) ≡ false = grind (arith, nat_tests) in
    ap (λ n. without_end m (take n bs)) same ∙ without_end-other m bs (e - 1) (omega arith) unequal ∙ ap (λ n. take n bs) (sym same)
