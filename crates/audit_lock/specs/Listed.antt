-- A package as a lockfile lists it, or the first rule that it breaks.
use Rattle.std.specs.Prelude.{ℕ, codes, List, Bool, ◌||◌, nat_eq, Option, Some, None, option_and_then, is_ok, if◌then◌else◌, Result, Ok}
use Rattle.std.specs.List.{starts_with}
use Rattle.toml.specs.Data.{Data, string, get, as_str}
use Rattle.semver.specs.Parse.{version_parts}
use Rattle.toml_tables.specs.Results.{and_then, or_fault}
use Rattle.toml_tables.specs.Members.{optional, optional_texts, required}
use Rattle.audit_lock.specs.declared.listed.LockRule.{LockRule}
use Rattle.audit_lock.specs.declared.listed.LockRule.TheVariants as rule
use Rattle.audit_lock.specs.declared.listed.ListedPackage.{ListedPackage}
use Rattle.audit_lock.specs.declared.listed.ListingFault.{ListingFault}
use Rattle.audit_lock.specs.declared.listed.ListingFault.TheVariants as listing_fault

-- it starts with one of the kinds of source
abbrev pub has_source_kind : List ℕ → Bool
has_source_kind s =
    starts_with nat_eq s (codes "registry+") || starts_with nat_eq s (codes "sparse+")
    || starts_with nat_eq s (codes "git+")
    || starts_with nat_eq s (codes "path+") || starts_with nat_eq s (codes "local-registry+")
    || starts_with nat_eq s (codes "directory+")

-- a string that starts with a kind of source
abbrev pub as_source : Data → Option (List ℕ)
as_source (string s) = if has_source_kind s then Some s else None
as_source _ = None

-- a string that is a SemVer version, each of its three numbers below 2^64
abbrev pub as_version : List ℕ → Option (List ℕ)
as_version s = if is_ok (version_parts s) then Some s else None

abbrev pub version_of : Option Data → Option (List ℕ)
version_of m = option_and_then as_version (required as_str m)

-- name, version, source, checksum, replace, dependencies, in this order
abbrev pub listed_of : Data → Result ListedPackage LockRule
listed_of d =
    and_then (λ name. and_then (λ version. and_then
    (λ source. and_then (λ checksum. and_then (λ replaced. and_then (λ wanted.
    Ok (record {
      name = name;
      version = version;
      source = source;
      checksum = checksum;
      dependencies = wanted;
    }))
    (or_fault rule.Dependencies (optional_texts (get (codes "dependencies") d))))
    (or_fault rule.Replace (optional as_str (get (codes "replace") d))))
    (or_fault rule.Checksum (optional as_str (get (codes "checksum") d))))
    (or_fault rule.Source (optional as_source (get (codes "source") d))))
    (or_fault rule.PackageVersion (version_of (get (codes "version") d))))
    (or_fault rule.Name (required as_str (get (codes "name") d)))

-- the rule that a fault names; none for out of memory
abbrev pub rule_of : ListingFault → Option LockRule
rule_of (listing_fault.Rule r) = Some r
rule_of listing_fault.NoMemory = None
