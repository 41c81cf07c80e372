-- One header field more.
use Rattle.std.proofs.Common.{◌≡◌, ◌≤◌, ◌+◌, ℕ, List, [], ◌∷◌, ◌++◌, length, Bool, true, false, cond, refl, arith, length-append}
use Rattle.std.specs.Prelude.{bytes_eq}
use Rattle.std.proofs.lemmas.List.Sums.{sum_by-cons}
use Rattle.http_header.specs.HeaderMap.{Entries, Entry, append, value_count}

module _ {X : Type 0} where
  count_case : (b : Bool) (e : Entry X) (m more : Entries X) (value : X) → value_count more ≡ value_count m + 1
      → value_count (cond b ((e.0, e.1 ++ value ∷ []) ∷ m) (e ∷ more)) ≡ value_count (e ∷ m) + 1
  count_case true e m more value h =
      let size : Entry X → ℕ = λ f. length f.1 in
      omega (arith, length-append e.1 (value ∷ []), sum_by-cons size (e.0, e.1 ++ value ∷ []) m, sum_by-cons size e m)
  count_case false e m more value h =
      let size : Entry X → ℕ = λ f. length f.1 in
      omega (arith, h, sum_by-cons size e more, sum_by-cons size e m)

  pub count_more : (m : Entries X) (name : List ℕ) (value : X) → value_count (append m name value) ≡ value_count m + 1
  count_more [] name value = refl
  count_more (e ∷ m) name value = count_case (bytes_eq e.0 name) e m (append m name value) value (count_more m name value)

  names_case : (b : Bool) (e : Entry X) (m more : Entries X) (value : X) → length more ≤ length m + 1
      → length (cond b ((e.0, e.1 ++ value ∷ []) ∷ m) (e ∷ more)) ≤ length (e ∷ m) + 1
  names_case true e m more value h = omega arith
  names_case false e m more value h = omega (arith, h)

  pub names_more : (m : Entries X) (name : List ℕ) (value : X) → length (append m name value) ≤ length m + 1
  names_more [] name value = omega arith
  names_more (e ∷ m) name value = names_case (bytes_eq e.0 name) e m (append m name value) value (names_more m name value)
