-- Versions as cargo prints them (`cargo -V`), and their order (Semantic Versioning 2.0.0, 11).
use Rattle.std.specs.Prelude.{ℕ, List, Bool, Option, option_map, Result, Ok, Err, []}
use Rattle.std.specs.Ordering.{is_ge, nat_cmp, ordering_then}
use Rattle.std.specs.Str.{trim}
use Rattle.semver.specs.Order.{pre_cmp}
use Rattle.semver.specs.Parse.{version_parts}
use Rattle.toml_tables.specs.Results.{and_then, or_fault}
use Rattle.tame_names.specs.declared.errors.Error.{Error}
use Rattle.tame_names.specs.declared.errors.Error.TheVariants as error
use Rattle.tame_names.specs.declared.errors.IoKind.TheVariants as io
use Rattle.tame_location.specs.Urls.{behind_of, until}

-- a version by its parts: three numbers, the pre-release and the build metadata
abbrev pub Parts : Type 0
Parts = ℕ × ℕ × ℕ × List ℕ × List ℕ

abbrev pub parsed : {E : Type 0} → Result Parts E → Result Parts Error
parsed (Ok parts) = Ok parts
parsed (Err e) = Err error.Semver

-- the version in a text
abbrev pub version_of : List ℕ → Result Parts Error
version_of text = parsed (version_parts text)

-- the reasons why a text is no version: it is none, or out of memory
abbrev pub IsVersionError : Error → Type 0
IsVersionError error.Semver = Unit {0}
IsVersionError error.NoMemory = Unit {0}
IsVersionError _ = ⊥

-- the text between the first and the second space of the trimmed text
abbrev pub told_version : List ℕ → Option (List ℕ)
told_version text = option_map (until 32) (behind_of 32 (trim text))

-- the version in what cargo prints about itself
abbrev pub cargo_version : List ℕ → Result Parts Error
cargo_version text = and_then version_of (or_fault (error.Io io.InvalidData) (told_version text))

-- a version has at least the precedence of a release with these numbers and patch 0
abbrev pub is_at_least : ℕ → ℕ → Parts → Bool
is_at_least major minor parts = is_ge (ordering_then (nat_cmp parts.0 major)
    (ordering_then (nat_cmp parts.1 minor)
    (ordering_then (nat_cmp parts.2 0) (pre_cmp parts.3 []))))
