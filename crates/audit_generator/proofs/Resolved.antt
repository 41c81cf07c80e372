-- The dependencies of the generated lockfile are found at their places.
use Rattle.std.proofs.Common.{◌≡◌, ℕ, zero, suc, ◌+◌, ◌<◌, ◌≤◌, ◌^◌, ◌/◌, true, false, ◌&&◌, List, [], ◌∷◌, ◌++◌, map, codes, Some, Ok, bytes_eq, refl, sym, ap, ◌∙◌, inl, inr, arith}
use Rattle.std.specs.List.{range_with_len, list_all, position_from}
use Rattle.std.proofs.lemmas.Bool.{false≢true, cases_Bool, cases_eq}
use Rattle.std.proofs.lemmas.Fmt.{decimal_injective}
use Rattle.std.proofs.lemmas.List.Folds.{list_all-append}
use Rattle.std.proofs.lemmas.Slice.Eq.{bytes_eq-Decides}
use Rattle.audit_lock.specs.Locked.{locked, place_of, resolve_from}
use Rattle.audit_lock.specs.Naming.{each_place, full_name, name_and_version, names_it}
use Rattle.audit_lock.specs.declared.listed.ListedPackage.{ListedPackage}
use Rattle.audit_generator.specs.Packages.{name_at, default_source, places_at, package_at, packages, lockfile_text}
use Rattle.audit_generator.proofs.Texts.{is_simple, name_simple}
use Rattle.audit_generator.proofs.Lines.{numbers_small}
use Rattle.audit_generator.proofs.Runs.{lockfile_parses}
use Rattle.audit_generator.proofs.Listing.{names_at, listed_at, lockfile_lists}

-- ---- texts with a blank aren't names

unsimple-append : (xs ys : List ℕ) → list_all is_simple xs ≡ false → list_all is_simple (xs ++ ys) ≡ false
unsimple-append xs ys h = rw (list_all-append is_simple xs ys, h) refl

spaced : (name : List ℕ) → list_all is_simple (name ++ codes " ") ≡ false
spaced [] = refl
spaced (c ∷ cs) = elim (is_simple c) as (λ b. (b && list_all is_simple (cs ++ codes " ")) ≡ false) [ true ↦ spaced cs | false ↦ refl ]

spaced_version : (p : ListedPackage) → list_all is_simple (name_and_version p) ≡ false
spaced_version p = unsimple-append (p.name ++ codes " ") p.version (spaced p.name)

spaced_source : (p : ListedPackage) (source : List ℕ) → list_all is_simple (full_name p source) ≡ false
spaced_source p source =
    unsimple-append (name_and_version p ++ codes " (" ++ source) (codes ")")
    (unsimple-append (name_and_version p ++ codes " (") source
    (unsimple-append (name_and_version p) (codes " (") (spaced_version p)))

pub differs : (xs ys : List ℕ) → (xs ≡ ys → ⊥) → bytes_eq xs ys ≡ false
differs xs ys other =
    elim (cases_Bool (bytes_eq xs ys)) [
      | inl same ↦ absurd (other ((bytes_eq-Decides xs ys).0 same))
      | inr apart ↦ apart
    ]

unsimple_differs : (xs ys : List ℕ) → list_all is_simple xs ≡ false → list_all is_simple ys ≡ true → bytes_eq xs ys ≡ false
unsimple_differs xs ys a b = differs xs ys (λ same. false≢true (sym a ∙ ap (list_all is_simple) same ∙ b))

-- ---- which package a name names

without_first : List ℕ → List ℕ
without_first [] = []
without_first (c ∷ cs) = cs

name_injective : (i p : ℕ) → i < 2 ^ 64 → p < 2 ^ 64 → name_at i ≡ name_at p → i ≡ p
unfolding without_first
name_injective i p small_i small_p same = decimal_injective i p small_i small_p (ap without_first same)

names_other : (p i : ℕ) → p < 2 ^ 64 → i < 2 ^ 64 → (i ≡ p → ⊥) → names_it (name_at p) (listed_at i) ≡ false
names_other p i small_p small_i other =
    let simple = name_simple p small_p in
    let l = listed_at i in
    let a = differs (name_at i) (name_at p) (λ same. other (name_injective i p small_i small_p same)) in
    let b = unsimple_differs (name_and_version l) (name_at p) (spaced_version l) simple in
    let c = unsimple_differs (full_name l default_source) (name_at p) (spaced_source l default_source) simple in
    rw (a, b, c) refl

names_itself : (p : ℕ) → names_it (name_at p) (listed_at p) ≡ true
names_itself p = rw ((bytes_eq-Decides (name_at p) (name_at p)).1 refl) refl

found : (p n a : ℕ) → a + n < 2 ^ 64 → a ≤ p → p < a + n → position_from (names_it (name_at p)) a (map listed_at (range_with_len a n)) ≡ Some p
found p zero a small low high = absurd (omega arith)
found p (suc n) a small low high =
    elim (cases_eq a p) [
      | inl here ↦ rw here (rw (names_itself p) refl)
      | inr later ↦ rw (names_other p a (omega arith) (omega arith) later) (found p n (a + 1) (omega arith) (omega (arith, later)) (omega arith))
    ]

-- ---- all dependencies

-- each of these numbers is below n
abbrev AllBelow : ℕ → List ℕ → Type 0
AllBelow n [] = Unit {0}
AllBelow n (k ∷ ks) = (k < n) × AllBelow n ks

range_below : (n a : ℕ) (m : ℕ) → a + n ≤ m → AllBelow m (range_with_len a n)
range_below zero a m h = tt
range_below (suc n) a m h = (omega arith, range_below n (a + 1) m (omega arith))

places_found : (n k : ℕ) → n < 2 ^ 64 → k < n → each_place (place_of (map listed_at (range_with_len 0 n))) (names_at (places_at k)) ≡ Some (places_at k)
places_found n zero small h = refl
places_found n (suc k) small h = rw (found (k / 2) n 0 (omega arith) (omega arith) (omega arith)) refl

resolved : (n i : ℕ) (ks : List ℕ) → n < 2 ^ 64 → AllBelow n ks → resolve_from (place_of (map listed_at (range_with_len 0 n))) i (map listed_at ks) ≡ Ok (map package_at ks)
resolved n i [] small h = refl
resolved n i (k ∷ ks) small h = rw (places_found n k small h.0, resolved n (suc i) ks small h.1) refl

-- the lockfile of n packages reads to these packages
pub lockfile_locked : (n : ℕ) → n < 2 ^ 64 → locked (lockfile_text n) ≡ Ok (packages n)
lockfile_locked n small =
    let ks = range_with_len 0 n in
    rw (lockfile_parses ks (numbers_small n small)) (rw (lockfile_lists ks) (resolved n 0 ks small (range_below n 0 n (omega arith))))
