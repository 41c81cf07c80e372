-- The names of paths are names.
use Rattle.std.proofs.Common.{◌≡◌, ◌≢◌, ◌<◌, ℕ, zero, suc, List, [], ◌∷◌, length, get_or, map, take, Bool, true, false, cond, Option, Some, None, IsTrue, option_map, refl, sym, ap, ◌∙◌, arith}
use Rattle.std.specs.Prelude.{bytes_eq, ◌&&◌, ◌||◌}
use Rattle.std.specs.List.{list_all}
use Rattle.tame_names.specs.Names.{is_name, path, relative_path, separator}
use Rattle.tame_sparse.specs.declared.network.Exchange.{Exchange}
use Rattle.tame_cache.specs.Kept.{cache_file, cache_file_of}
use Rattle.audit_core.specs.Paths.{is_among}
use Rattle.audit_core.specs.Turns.{AddsNamed, AddsPart, IsFileOf, IsNoFileOf, index_file}
use Rattle.audit_core.proofs.Lists.{bytes_same, cons_head, cons_tail, or_left, or_right, same_bytes, somes}
use Rattle.audit_core.proofs.Steps.{map_take}

has_path : (b : Bool) (q p : List ℕ) → cond b (Some q) None ≡ Some p → b ≡ true
has_path true q p h = refl
has_path false q p h = cc

both_true : (a b : Bool) → a ≡ true → b ≡ true → (a && b) ≡ true
both_true a b ha hb = rw (ha, hb) refl

pub names_valid : (names paths : List (List ℕ)) → map path names ≡ map (λ q. Some q) paths → list_all is_name names ≡ true
names_valid [] paths h = refl
names_valid (n ∷ names) [] h = cc
names_valid (n ∷ names) (p ∷ paths) h =
    let head : path n ≡ Some p = cons_head (path n) (Some p) (map path names) (map (λ q. Some q) paths) h in
    both_true (is_name n) (list_all is_name names) (has_path (is_name n) (relative_path (separator None) n) p head) (names_valid names paths (cons_tail (path n) (Some p) (map path names) (map (λ q. Some q) paths) h))

-- what was asked by the names of paths was a part of these paths
pub named_part : (names paths : List (List ℕ)) (before now : List Exchange) → map path names ≡ map (λ q. Some q) paths → AddsNamed names before now → AddsPart paths before now
named_part names paths before now named x =
    (x.0, x.1, x.2, somes (λ (e : Exchange). e.path) x.0 (take x.1 paths) (x.3 ∙ ap (take x.1) named ∙ sym (map_take (λ q. Some q) x.1 paths)), x.4)

-- ---- files of names

-- the file of a name is that of its path
pub file_named : (name p q : List ℕ) → path name ≡ Some p → cache_file_of [] name ≢ Some q → q ≢ index_file p
file_named name p q at other is = other (ap (λ (o : Option (List ℕ)). option_map (cache_file []) o) at ∙ ap Some (sym is))

-- a file of none of the names is not that of one of them
pub no_file_at : (names : List (List ℕ)) (i : ℕ) (name q : List ℕ) → i < length names → name ≡ get_or names i name → IsNoFileOf names q → cache_file_of [] name ≢ Some q
no_file_at [] i name q low is other = absurd (not_low i low)
  where
    not_low : (i : ℕ) → i < 0 → ⊥
    not_low i low = omega arith
no_file_at (n ∷ names) zero name q low is other = λ same. other.0 (ap (cache_file_of []) (sym is) ∙ same)
no_file_at (n ∷ names) (suc i) name q low is other = no_file_at names i name q (let less : i < length names = omega arith in less) is other.1

-- a file of no path that is asked for is that of none of their names
pub no_file_of : (names paths : List (List ℕ)) (q : List ℕ) → map path names ≡ map (λ p. Some p) paths → ((p : List ℕ) → IsTrue (is_among p paths) → q ≢ index_file p) → IsNoFileOf names q
no_file_of [] paths q h other = tt
no_file_of (n ∷ names) [] q h other = cc
no_file_of (n ∷ names) (p ∷ paths) q h other =
    let head : path n ≡ Some p = cons_head (path n) (Some p) (map path names) (map (λ p. Some p) paths) h in (
      λ same. other p (or_left (bytes_eq p p) (is_among p paths) (bytes_same p)) (unsome (cache_file [] p) q (sym (ap (λ (o : Option (List ℕ)). option_map (cache_file []) o) head) ∙ same)),
      no_file_of names paths q (cons_tail (path n) (Some p) (map path names) (map (λ p. Some p) paths) h) (λ x among. other x (or_right (bytes_eq p x) (is_among x paths) among)),
    )
  where
    unsome : (a b : List ℕ) → Some a ≡ Some b → b ≡ a
    unsome a b h = cc

-- ---- files of names that are asked for

-- a name at a place is among them
pub among_at : (names : List (List ℕ)) (i : ℕ) (name : List ℕ) → i < length names → name ≡ get_or names i name → is_among name names ≡ true
among_at [] i name low is = absurd (not_less i low)
  where
    not_less : (i : ℕ) → i < 0 → ⊥
    not_less i low = omega arith
among_at (n ∷ names) zero name low is = or_left (bytes_eq n name) (is_among name names) (ap (λ (x : List ℕ). bytes_eq x name) (sym is) ∙ bytes_same name)
among_at (n ∷ names) (suc i) name low is = or_right (bytes_eq n name) (is_among name names) (among_at names i name (let less : i < length names = omega arith in less) is)

abbrev AskedFile : List (List ℕ) → List ℕ → Type 0
AskedFile paths q = (p : List ℕ) × IsTrue (is_among p paths) × (q ≡ index_file p)

asked_case : (b : Bool) (n p name q : List ℕ) (names paths : List (List ℕ)) → bytes_eq n name ≡ b → path n ≡ Some p → (b || is_among name names) ≡ true → cache_file_of [] name ≡ Some q
    → (is_among name names ≡ true → AskedFile paths q) → AskedFile (p ∷ paths) q
asked_case true n p name q names paths same at among file more = (
  p,
  or_left (bytes_eq p p) (is_among p paths) (bytes_same p),
  unsome (cache_file [] p) q (sym (ap (λ (o : Option (List ℕ)). option_map (cache_file []) o) (ap path (sym (same_bytes n name same)) ∙ at)) ∙ file),
)
  where
    unsome : (a b : List ℕ) → Some a ≡ Some b → b ≡ a
    unsome a b h = cc
asked_case false n p name q names paths same at among file more =
    let rest = more among in
    (rest.0, or_right (bytes_eq p rest.0) (is_among rest.0 paths) rest.1, rest.2)

-- the file of a name is that of its path
asked_by : (names paths : List (List ℕ)) (name q : List ℕ) → map path names ≡ map (λ p. Some p) paths → is_among name names ≡ true → cache_file_of [] name ≡ Some q → AskedFile paths q
asked_by [] paths name q h among file = cc
asked_by (n ∷ names) [] name q h among file = cc
asked_by (n ∷ names) (p ∷ paths) name q h among file =
    asked_case (bytes_eq n name) n p name q names paths refl (cons_head (path n) (Some p) (map path names) (map (λ p. Some p) paths) h) among file
    (λ more. asked_by names paths name q (cons_tail (path n) (Some p) (map path names) (map (λ p. Some p) paths) h) more file)

pub asked_file : (names paths : List (List ℕ)) (q : List ℕ) → map path names ≡ map (λ p. Some p) paths → IsFileOf names q → (p : List ℕ) × IsTrue (is_among p paths) × (q ≡ index_file p)
asked_file names paths q h file = asked_by names paths file.0 q h file.1 file.2
