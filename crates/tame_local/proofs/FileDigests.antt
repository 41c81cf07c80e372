-- What a hasher holds of a file that is read in pieces.
use Rattle.std.proofs.Common.{◌≡◌, ℕ, zero, suc, ◌+◌, ◌≤◌, List, [], ◌∷◌, ◌++◌, length, take, drop, Result, Ok, Err, cond, bytes_eq, refl, sym, ap, ◌∙◌, subst, arith}
use Rattle.std.proofs.Math.Seq.{take-add}
use Rattle.std.proofs.lemmas.List.{length-drop, length-take, take_all}
use Rattle.sha2.specs.Hashers.{Holds256}
use Rattle.sha2.specs.Sha256.{sha256}
use Rattle.sha2.specs.declared.Sha256.{Sha256}
use Rattle.tame_names.specs.Standing.{Host}
use Rattle.tame_records.specs.declared.checksums.Chksum.{Chksum}
use Rattle.tame_local.specs.Refusals.{OtherDigest, LocalRefusal, and_then}
use Rattle.tame_local.specs.Registries.{bytes_at, digest_checked}

-- a piece of a file's bytes, their number, and their digest
abbrev pub IsPiece : ℕ → ℕ → List ℕ → Result (List ℕ) LocalRefusal → Type 0
IsPiece from limit piece r = and_then (λ bytes. Ok (take limit (drop from bytes))) r ≡ Ok piece

abbrev pub HasLength : ℕ → Result (List ℕ) LocalRefusal → Type 0
HasLength len r = and_then (λ bytes. Ok (length bytes)) r ≡ Ok len

abbrev pub HasDigest : List ℕ → Result (List ℕ) LocalRefusal → Type 0
HasDigest digest r = and_then (λ bytes. Ok (sha256 bytes)) r ≡ Ok digest

-- a piece of the file as it was
pub piece_before : (path : List ℕ) (from limit : ℕ) (piece : List ℕ) (before now : Host) → now ≡ before → IsPiece from limit piece (bytes_at path (now.stands path))
    → IsPiece from limit piece (bytes_at path (before.stands path))
piece_before path from limit piece before now same is = subst (λ (h : Host). IsPiece from limit piece (bytes_at path (h.stands path))) same is

-- the hasher holds the bytes before a position, if there are any
abbrev pub HoldsFront : Sha256 → ℕ → Result (List ℕ) LocalRefusal → Type 0
HoldsFront hasher from (Ok bytes) = Holds256 hasher (take from bytes)
HoldsFront hasher from (Err e) = Unit {0}

-- none of them is after it
abbrev pub EndsBy : ℕ → Result (List ℕ) LocalRefusal → Type 0
EndsBy from (Ok bytes) = length bytes ≤ from
EndsBy from (Err e) = Unit {0}

-- one piece further
front_taken : (n : ℕ) (xs : List ℕ) → take (length (take n xs)) xs ≡ take n xs
front_taken zero xs = refl
front_taken (suc n) [] = refl
front_taken (suc n) (x ∷ xs) = ap (λ ys. x ∷ ys) (front_taken n xs)

pub more_held : (r : Result (List ℕ) LocalRefusal) (from limit n : ℕ) (piece : List ℕ) (before now : Sha256) → IsPiece from limit piece r → n ≡ length piece
    → ((m : List ℕ) → Holds256 before m → Holds256 now (m ++ piece)) → HoldsFront before from r → HoldsFront now (from + n) r
more_held (Ok bytes) from limit n piece before now is size fed held =
    let same : take limit (drop from bytes) ≡ piece = cc in
    let front : take n (drop from bytes) ≡ piece =
    ap (λ k. take k (drop from bytes)) (size ∙ ap length (sym same)) ∙ front_taken limit (drop from bytes) ∙ same in
    subst (Holds256 now) (ap (λ xs. take from bytes ++ xs) (sym front) ∙ sym (take-add from n bytes)) (fed (take from bytes) held)
more_held (Err e) from limit n piece before now is size fed held = tt

-- if no byte is after a position
pub ends_at : (r : Result (List ℕ) LocalRefusal) (from len : ℕ) → HasLength len r → len ≤ from → EndsBy from r
ends_at (Ok bytes) from len is past =
    let same : length bytes ≡ len = cc in
    omega (arith, past)
ends_at (Err e) from len is past = tt

pub ends_here : (r : Result (List ℕ) LocalRefusal) (from limit : ℕ) (piece : List ℕ) → IsPiece from limit piece r → 1 ≤ limit → length piece ≡ 0 → EndsBy from r
ends_here (Ok bytes) from limit piece is some none =
    let same : take limit (drop from bytes) ≡ piece = cc in
    let size : length (take limit (drop from bytes)) ≡ 0 = ap length same ∙ none in
    let taken = length-take limit (drop from bytes) in
    let left = length-drop from bytes in
    omega arith
ends_here (Err e) from limit piece is some none = tt

-- the digest of all of them
pub all_held : (r : Result (List ℕ) LocalRefusal) (from len : ℕ) (hasher : Sha256) (digest : List ℕ) → HasLength len r → HoldsFront hasher from r → EndsBy from r
    → ((m : List ℕ) → Holds256 hasher m → digest ≡ sha256 m) → HasDigest digest r
all_held (Ok bytes) from len hasher digest is held ends gives = ap Ok (sym (gives bytes (subst (Holds256 hasher) (take_all from bytes ends) held)))
all_held (Err e) from len hasher digest is held ends gives = absurd (cc)

-- and whether it is that of a record
pub checked_by : (r : Result (List ℕ) LocalRefusal) (parts : List ℕ × List ℕ) (sum : Chksum) (digest : List ℕ) → and_then (λ bytes. Ok (sha256 bytes)) r ≡ Ok digest
    → and_then (digest_checked parts sum) r ≡ cond (bytes_eq digest sum.0) (Ok tt) (Err (OtherDigest parts.0 parts.1))
checked_by (Ok bytes) parts sum digest is =
    let same : sha256 bytes ≡ digest = cc in
    ap (λ d. cond (bytes_eq d sum.0) (Ok tt) (Err (OtherDigest parts.0 parts.1))) same
checked_by (Err e) parts sum digest is = absurd (cc)
