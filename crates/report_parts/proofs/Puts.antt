-- Texts put one after the other.
use Rattle.std.proofs.Common.{◌≡◌, ℕ, zero, suc, List, [], ◌∷◌, ◌++◌, length, take, Result, Ok, Err, refl, sym, ap, ◌∙◌, append_assoc, append-nil, arith}
use Rattle.std.proofs.lemmas.List.{take_all}
use Rattle.std.specs.Prelude.{OnOk, IsErr}
use Rattle.tame_names.specs.Output.{AddsPrefix}
use Rattle.report_parts.specs.Outputs.{IsPut}

-- what is taken from the front of a text is taken from the front of a longer one
front : (n : ℕ) (xs ys : List ℕ) → (m : ℕ) × (take n xs ≡ take m (xs ++ ys))
front zero xs ys = (zero, refl)
front (suc n) [] ys = (zero, refl)
front (suc n) (x ∷ xs) ys = let more = front n xs ys in (suc more.0, ap (λ (zs : List ℕ). x ∷ zs) more.1)

-- the whole first text, then the first part of the second
behind : (n : ℕ) (xs ys : List ℕ) → (m : ℕ) × (xs ++ take n ys ≡ take m (xs ++ ys))
behind n [] ys = (n, refl)
behind n (x ∷ xs) ys = let more = behind n xs ys in (suc more.0, ap (λ (zs : List ℕ). x ∷ zs) more.1)

pub part_first : (before xs ys now : List ℕ) → AddsPrefix before xs now → AddsPrefix before (xs ++ ys) now
part_first before xs ys now h = let m = front h.0 xs ys in (m.0, h.1 ∙ ap (λ (zs : List ℕ). before ++ zs) m.1)

pub part_then : (before xs ys mid now : List ℕ) → mid ≡ before ++ xs → AddsPrefix mid ys now → AddsPrefix before (xs ++ ys) now
part_then before xs ys mid now first h =
    let m = behind h.0 xs ys in
    (m.0, h.1 ∙ ap (λ (zs : List ℕ). zs ++ take h.0 ys) first ∙ append_assoc before xs (take h.0 ys) ∙ ap (λ (zs : List ℕ). before ++ zs) m.1)

-- the whole is a part
pub part_whole : (before xs now : List ℕ) → now ≡ before ++ xs → AddsPrefix before xs now
part_whole before xs now h = (length xs, h ∙ ap (λ (zs : List ℕ). before ++ zs) (sym (take_all (length xs) xs (omega arith))))

-- nothing is a part of any text
pub part_none : (before xs : List ℕ) → AddsPrefix before xs before
part_none before xs = (zero, sym (append-nil before))

-- ---- with answers

pub put_none : {E : Type 0} (before : List ℕ) (r : Result Unit E) → IsPut before [] before r
put_none before (Ok done) = record { whole = sym (append-nil before); part = part_none before [] }
put_none before (Err e) = record { whole = tt; part = part_none before [] }

pub all_put : {E : Type 0} (before xs now : List ℕ) → now ≡ before ++ xs → IsPut {E = E} before xs now (Ok tt)
all_put before xs now h = record { whole = h; part = part_whole before xs now h }

-- one text after another
pub put_then : {E : Type 0} (before xs ys mid now : List ℕ) (s : Result Unit E) → mid ≡ before ++ xs → IsPut mid ys now s → IsPut before (xs ++ ys) now s
put_then before xs ys mid now s first h = record {
  whole = whole_then_assoc before xs ys mid now s first h.whole;
  part = part_then before xs ys mid now first h.part;
}
  where
    whole_then_assoc : {E : Type 0} (before xs ys mid now : List ℕ) (s : Result Unit E) → mid ≡ before ++ xs → OnOk s (now ≡ mid ++ ys) → OnOk s (now ≡ before ++ (xs ++ ys))
    whole_then_assoc before xs ys mid now (Ok done) first h = h ∙ ap (λ (zs : List ℕ). zs ++ ys) first ∙ append_assoc before xs ys
    whole_then_assoc before xs ys mid now (Err e) first h = tt

-- after a failure, nothing is said about success
pub if_err : {T E : Type 0} (r : Result T E) (P : Type 0) → IsErr r → OnOk r P
if_err (Ok x) P failed = absurd (cc)
if_err (Err e) P failed = tt
