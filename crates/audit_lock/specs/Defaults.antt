-- The default registry: crates.io (Cargo Book, "Registries").
use Rattle.std.specs.Prelude.{ℕ, codes, List, Bool, false, ◌||◌, bytes_eq, Option, Some, None}
use Rattle.audit_lock.specs.declared.resolving.Package.{Package}

-- exactly one of the two strings that name it in lockfiles
abbrev pub is_default_registry : List ℕ → Bool
is_default_registry source =
    bytes_eq source (codes "registry+https://github.com/rust-lang/crates.io-index")
    || bytes_eq source (codes "sparse+https://index.crates.io/")

-- there is a source, and it is the default registry
abbrev pub is_from_default : Option (List ℕ) → Bool
is_from_default None = false
is_from_default (Some source) = is_default_registry source

-- a package is from the default registry
abbrev pub is_default : Package → Bool
is_default p = is_from_default p.source
