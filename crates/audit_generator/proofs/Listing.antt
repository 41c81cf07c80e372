-- The packages that the lockfile lists.
use Rattle.std.proofs.Common.{◌≡◌, ℕ, zero, suc, ◌+◌, ◌<◌, ◌%◌, true, false, List, [], ◌∷◌, map, Some, None, Ok, is_ok, refl, arith}
use Rattle.std.proofs.lemmas.Fmt.{decimal_digit}
use Rattle.semver.specs.Parse.{version_parts}
use Rattle.semver.proofs.OnLiterals.{semver_on_literals}
use Rattle.toml.specs.Data.{table}
use Rattle.toml_tables.specs.Floats.{items_have_float, members_have_float}
use Rattle.audit_lock.specs.Listed.{as_version, listed_of}
use Rattle.audit_lock.specs.Locked.{all_tables, listed_from, listed_table}
use Rattle.audit_lock.specs.declared.listed.ListedPackage.{ListedPackage}
use Rattle.audit_generator.specs.Packages.{name_at, version_text, version_at, default_source, places_at}
use Rattle.audit_generator.proofs.Runs.{members_with, package_members, tables, lockfile_members}

-- the names of packages at these places
abbrev pub names_at : List ℕ → List (List ℕ)
names_at [] = []
names_at (place ∷ places) = name_at place ∷ []

-- package k as it is listed
abbrev pub listed_with : List ℕ → List ℕ → List ℕ → ListedPackage
listed_with name version places = record {
  name = name;
  version = version;
  source = Some default_source;
  checksum = None;
  dependencies = names_at places;
}

abbrev pub listed_at : ℕ → ListedPackage
listed_at k = listed_with (name_at k) (version_at k) (places_at k)

-- ---- versions

small_version : (minor : ℕ) → minor < 7 → is_ok (version_parts (49 ∷ 46 ∷ (48 + minor) ∷ 46 ∷ 48 ∷ [])) ≡ true
unfolding semver_on_literals
small_version zero h = refl
small_version (suc zero) h = refl
small_version (suc (suc zero)) h = refl
small_version (suc (suc (suc zero))) h = refl
small_version (suc (suc (suc (suc zero)))) h = refl
small_version (suc (suc (suc (suc (suc zero))))) h = refl
small_version (suc (suc (suc (suc (suc (suc zero)))))) h = refl
small_version (suc (suc (suc (suc (suc (suc (suc k))))))) h = absurd (omega arith)

version_read : (minor : ℕ) → minor < 7 → as_version (version_text minor) ≡ Some (version_text minor)
version_read minor h =
    let digit = decimal_digit minor (omega arith) in
    rw (digit, small_version minor h) refl

-- ---- a package

listed_package : (name version places : List ℕ) → as_version version ≡ Some version → listed_of (table (members_with name version places)) ≡ Ok (listed_with name version places)
listed_package name version [] v = rw v refl
listed_package name version (place ∷ places) v = rw v refl

listed_number : (k : ℕ) → listed_of (table (package_members k)) ≡ Ok (listed_at k)
listed_number k = listed_package (name_at k) (version_at k) (places_at k) (version_read (k % 7) (omega arith))

-- ---- all packages

are_tables : (ks : List ℕ) → all_tables (tables ks) ≡ true
are_tables [] = refl
are_tables (k ∷ ks) = are_tables ks

package_float : (name version places : List ℕ) → members_have_float (members_with name version places) ≡ false
package_float name version [] = refl
package_float name version (place ∷ places) = refl

no_float : (ks : List ℕ) → items_have_float (tables ks) ≡ false
no_float [] = refl
no_float (k ∷ ks) = rw (package_float (name_at k) (version_at k) (places_at k), no_float ks) refl

listed_each : (i : ℕ) (ks : List ℕ) → listed_from i (tables ks) ≡ Ok (map listed_at ks)
listed_each i [] = refl
listed_each i (k ∷ ks) = rw (listed_number k, listed_each (suc i) ks) refl

-- the table of a lockfile lists these packages
pub lockfile_lists : (ks : List ℕ) → listed_table (lockfile_members ks) ≡ Ok (map listed_at ks)
lockfile_lists [] = refl
lockfile_lists (k ∷ ks) = rw (no_float (k ∷ ks), are_tables (k ∷ ks), listed_each 0 (k ∷ ks)) refl
