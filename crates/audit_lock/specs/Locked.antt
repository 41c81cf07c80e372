-- The packages of a lockfile, or the first rule that it breaks.
use Rattle.std.specs.Prelude.{ℕ, suc, codes, List, [], ◌∷◌, ◌++◌, length, Bool, true, false, ◌&&◌, nat_le, Option, Some, None, if◌then◌else◌, Result, Ok, Err}
use Rattle.toml.specs.Data.{Data, array, table, Items, no_items, item, Members, get_member}
use Rattle.toml.specs.Parse.{parse_document}
use Rattle.toml_tables.specs.Results.{and_then, or_fault}
use Rattle.toml_tables.specs.Floats.{members_have_float}
use Rattle.toml_tables.specs.Members.{natural, optional}
use Rattle.audit_lock.specs.Listed.{listed_of}
use Rattle.audit_lock.specs.Naming.{each_place}
pub use Rattle.audit_lock.specs.Naming.{place_of}
use Rattle.audit_lock.specs.declared.listed.LockRule.{LockRule}
use Rattle.audit_lock.specs.declared.listed.LockRule.TheVariants as rule
use Rattle.audit_lock.specs.declared.listed.ListedPackage.{ListedPackage}
use Rattle.audit_lock.specs.declared.lockfiles.LockfileFault.{LockfileFault}
use Rattle.audit_lock.specs.declared.lockfiles.LockfileFault.TheVariants as fault
use Rattle.audit_lock.specs.declared.resolving.Package.{Package}

-- absent (`Some None`), or 1 to 4; a value that is no number is `None`
abbrev pub is_known : Option (Option ℕ) → Bool
is_known None = false
is_known (Some None) = true
is_known (Some (Some n)) = nat_le 1 n && nat_le n 4

abbrev pub is_version : Option Data → Bool
is_version m = is_known (optional natural m)

abbrev pub all_tables : Items → Bool
all_tables no_items = true
all_tables (item (table ms) ds) = all_tables ds
all_tables (item _ ds) = false

-- absent, or an array of tables
abbrev pub package_items : Option Data → Option Items
package_items None = Some no_items
package_items (Some (array ds)) = if all_tables ds then Some ds else None
package_items (Some _) = None

-- absent, or a table
abbrev pub root_table : Option Data → Option (Option Data)
root_table None = Some None
root_table (Some (table ms)) = Some (Some (table ms))
root_table (Some _) = None

-- a broken rule is a fault of the package at this place
abbrev pub at_place : {A : Type 0} → ℕ → Result A LockRule → Result A LockfileFault
at_place i (Ok a) = Ok a
at_place i (Err r) = Err (fault.Rule (Some i) r)

-- the packages from number i on, each read whole before the next
abbrev pub listed_from : ℕ → Items → Result (List ListedPackage) LockfileFault
listed_from i no_items = Ok []
listed_from i (item d ds) =
    and_then (λ p. and_then (λ ps. Ok (p ∷ ps)) (listed_from (suc i) ds)) (at_place i (listed_of d))

-- `[root]` is the last package
abbrev pub with_root : Option Data → List ListedPackage → Result (List ListedPackage) LockfileFault
with_root None ps = Ok ps
with_root (Some d) ps = and_then (λ p. Ok (ps ++ p ∷ [])) (at_place (length ps) (listed_of d))

-- checked in this order: no float, the version, the packages, the root, then each package
abbrev pub listed_table : Members → Result (List ListedPackage) LockfileFault
listed_table ms =
    if members_have_float ms then Err fault.Float
    else if is_version (get_member (codes "version") ms) then
    and_then (λ ds. and_then (λ root. and_then (with_root root) (listed_from 0 ds))
    (or_fault (fault.Rule None rule.Root) (root_table (get_member (codes "root") ms))))
    (or_fault (fault.Rule None rule.Packages) (package_items (get_member (codes "package") ms)))
    else Err (fault.Rule None rule.Version)

-- a listed package with the places of its dependencies
abbrev pub package_at : ListedPackage → List ℕ → Package
package_at p places = record {
  name = p.name;
  version = p.version;
  source = p.source;
  checksum = p.checksum;
  dependencies = places;
}

-- the packages from number i on with the places of their dependencies; each dependency names a
-- listed package
abbrev pub resolve_from : (List ℕ → Option ℕ) → ℕ → List ListedPackage
    → Result (List Package) LockfileFault
resolve_from place i [] = Ok []
resolve_from place i (p ∷ ps) =
    and_then (λ places. and_then (λ rest. Ok (package_at p places ∷ rest))
    (resolve_from place (suc i) ps))
    (or_fault (fault.Rule (Some i) rule.Names) (each_place place p.dependencies))

-- the packages of a lockfile's text, or the first rule that it breaks
abbrev pub locked : List ℕ → Result (List Package) LockfileFault
locked text =
    and_then (λ ps. resolve_from (place_of ps) 0 ps)
    (and_then listed_table (or_fault fault.Toml (parse_document text)))
