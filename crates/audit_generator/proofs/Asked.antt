-- What is asked for generated packages: the path of each, once, in their order.
use Rattle.std.proofs.Common.{◌≡◌, ℕ, zero, suc, ◌+◌, ◌<◌, ◌≤◌, ◌^◌, false, List, [], ◌∷◌, map, bytes_eq, refl, ap, arith}
use Rattle.std.specs.List.{enumerate_from, filter, filter_map, range_with_len}
use Rattle.audit_lock.specs.declared.resolving.Package.{Package}
use Rattle.audit_core.specs.Paths.{asked_paths, default_path, defaults, distinct_after, is_among, is_default}
use Rattle.audit_generator.specs.Packages.{package_at, packages}
use Rattle.audit_generator.specs.Hosted.{path_at}
use Rattle.audit_generator.proofs.Lines.{AllSmall, numbers_small}
use Rattle.audit_generator.proofs.Names.{name_path, path_injective}
use Rattle.audit_generator.proofs.Ranges.{map_more}
use Rattle.audit_generator.proofs.Resolved.{differs}

-- ---- each package is of the default registry

-- packages with their numbers
abbrev pub numbered : List ℕ → List (ℕ × Package)
numbered ks = map (λ k. (k, package_at k)) ks

all_default : (n a : ℕ) → filter (λ (p : ℕ × Package). is_default p.1) (enumerate_from a (map package_at (range_with_len a n))) ≡ numbered (range_with_len a n)
all_default zero a = refl
all_default (suc n) a = ap (λ ps. (a, package_at a) ∷ ps) (all_default n (a + 1))

pub defaults_numbered : (n : ℕ) → defaults (packages n) ≡ numbered (range_with_len 0 n)
defaults_numbered n = all_default n 0

paths_of : (ks : List ℕ) → AllSmall ks → filter_map default_path (map package_at ks) ≡ map path_at ks
paths_of [] h = refl
paths_of (k ∷ ks) h = rw (name_path k h.0) (ap (λ ps. path_at k ∷ ps) (paths_of ks h.1))

-- ---- the paths are distinct

not_among : (j n a : ℕ) → j < 2 ^ 64 → a + n ≤ j → is_among (path_at j) (map path_at (range_with_len a n)) ≡ false
not_among j zero a small h = refl
not_among j (suc n) a small h =
    let other : bytes_eq (path_at a) (path_at j) ≡ false = differs (path_at a) (path_at j) (λ same. omega (arith, path_injective a j (omega arith) small same)) in
    rw other (not_among j n (a + 1) small (omega arith))

all_distinct : (n a : ℕ) → a + n < 2 ^ 64 → distinct_after (map path_at (range_with_len 0 a)) (map path_at (range_with_len a n)) ≡ map path_at (range_with_len a n)
all_distinct zero a h = refl
all_distinct (suc n) a h =
    rw (not_among a a 0 (omega arith) (omega arith), ← map_more path_at a) (ap (λ ps. path_at a ∷ ps) (all_distinct n (a + 1) (omega arith)))

-- the path of each package, in their order
pub asked_in_order : (n : ℕ) → n < 2 ^ 64 → asked_paths (packages n) ≡ map path_at (range_with_len 0 n)
asked_in_order n h = rw (paths_of (range_with_len 0 n) (numbers_small n h)) (all_distinct n 0 (omega (arith, h)))
