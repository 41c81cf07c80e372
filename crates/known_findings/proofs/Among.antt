-- A finding is among others exactly if it is an element of them.
use Rattle.std.proofs.Common.{◌≡◌, ℕ, zero, suc, ◌<◌, List, [], ◌∷◌, length, Bool, true, false, true≢false, arith, refl, sym}
use Rattle.std.specs.Prelude.{◌||◌, Contains, slice_index_or}
use Rattle.known_findings.specs.Findings.{is_among, is_same}
use Rattle.known_findings.specs.declared.findings.Finding.{Finding}
use Rattle.known_findings.proofs.Same.{is_itself, same_finding}

or_right : (a b : Bool) → b ≡ true → (a || b) ≡ true
or_right true b e = refl
or_right false b e = e

pub contained : (f : Finding) (fs : List Finding) → is_among f fs ≡ true → Contains fs f
contained f [] h = absurd (true≢false (sym h))
contained f (g ∷ gs) h = go (is_same f g) refl h (contained f gs)
  where
    go : (b : Bool) → is_same f g ≡ b → (b || is_among f gs) ≡ true → (is_among f gs ≡ true → Contains gs f) → Contains (g ∷ gs) f
    go true e k more = (0, omega arith, sym (same_finding f g e))
    go false e k more =
        let at = more k in
        (suc at.0, omega (arith, at.1), at.2)

pub among : (f : Finding) (fs : List Finding) (k : ℕ) → k < length fs → slice_index_or fs k f ≡ f → is_among f fs ≡ true
among f [] k within at = absurd (omega (arith, within))
among f (g ∷ gs) zero within at = rw (at, is_itself f) refl
among f (g ∷ gs) (suc k) within at = or_right (is_same f g) (is_among f gs) (among f gs k (omega (arith, within)) at)
