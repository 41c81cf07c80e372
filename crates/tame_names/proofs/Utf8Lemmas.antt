-- Bytes that are UTF-8, and bytes that aren't.
use Rattle.std.proofs.Common.{◌≡◌, ℕ, List, true, false, Some, None, cond, refl}
use Rattle.std.specs.Str.{IsUtf8, is_utf8}
use Rattle.std.proofs.lemmas.Str.{is_utf8-from_IsUtf8, IsUtf8-from_is_utf8}
use Rattle.tame_names.specs.Utf8.{utf8_text}

pub utf8_text-utf8 : (bs : List ℕ) → IsUtf8 bs → utf8_text bs ≡ Some bs
utf8_text-utf8 bs u = rw (is_utf8-from_IsUtf8 bs u)

pub utf8_text-other : (bs : List ℕ) → (IsUtf8 bs → ⊥) → utf8_text bs ≡ None
utf8_text-other bs other =
    elim (is_utf8 bs) as (λ b. is_utf8 bs ≡ b → cond b (Some bs) None ≡ None) [
      | true ↦ λ e. absurd (other (IsUtf8-from_is_utf8 bs e))
      | false ↦ λ e. refl
    ] refl
