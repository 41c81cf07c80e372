-- The test of visible texts is the kit's relation.
use Rattle.std.proofs.Common.{◌≡◌, ℕ, List, true, false, refl}
use Rattle.std.proofs.lemmas.List.Sums.{list_all-from_AllPass}
use Rattle.http_header.proofs.TokenLemmas.{AllPass-from_test}
use Rattle.http_header.specs.FieldValue.{IsVisibleAscii, is_visible_text}
use Rattle.http_header.specs.Token.{is_visible_or_blank}

pub visible_true : (bs : List ℕ) → IsVisibleAscii bs → is_visible_text bs ≡ true
visible_true bs h = list_all-from_AllPass is_visible_or_blank bs h

pub visible_false : (bs : List ℕ) → (IsVisibleAscii bs → ⊥) → is_visible_text bs ≡ false
visible_false bs h =
    elim (is_visible_text bs) as (λ b. is_visible_text bs ≡ b → b ≡ false) [
      | true ↦ λ e. absurd (h (AllPass-from_test is_visible_or_blank bs e))
      | false ↦ λ e. refl
    ] refl
