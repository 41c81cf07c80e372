-- The addresses of an index and of its files (Cargo Book, "Registry Index", sparse protocol).
use Rattle.std.specs.Prelude.{◌≡◌, ◌⊎◌, ℕ, codes, List, ◌++◌, Option, Some, None, option_map, unwrap_or, Result, Ok, Err}
use Rattle.tame_names.specs.Names.{path}
use Rattle.tame_names.specs.Paths.{join}
use Rattle.tame_names.specs.Standing.{Standing, File, Nothing}
use Rattle.tame_names.specs.declared.errors.Error.{Error}
use Rattle.tame_names.specs.declared.errors.Error.TheVariants as error
use Rattle.tame_names.specs.declared.errors.IoKind.TheVariants as io_kind
use Rattle.tame_entry.specs.Config.{config_of}
use Rattle.tame_entry.specs.Prefixes.{without_prefix}
use Rattle.tame_entry.specs.declared.config.IndexConfig.{IndexConfig}
pub use Rattle.tame_location.specs.IndexUrls.{is_sparse_url}

-- a url without the prefix that marks it as one of a sparse index
abbrev pub http_url : List ℕ → List ℕ
http_url url = unwrap_or (without_prefix (codes "sparse+") url) url

-- the url of a name's file: that of the index, and the path of the name
abbrev pub crate_url : List ℕ → List ℕ → Option (List ℕ)
crate_url url name = option_map (λ p. http_url url ++ p) (path name)

-- ---- the configuration

-- the file of the configuration, in the folder of an index
abbrev pub config_file : List ℕ → List ℕ
config_file root = join root (codes "config.json")

-- what is there, read as a configuration, if the files tell it; and these are all the refusals
abbrev pub IsConfigRead : Type 0 → List ℕ → Standing → Result IndexConfig Error → Type 0
IsConfigRead told place standing (Ok config) =
    told → (bytes : List ℕ) × (standing ≡ File bytes) × (config_of bytes ≡ Some config)
IsConfigRead told place standing (Err (error.IoPath io_kind.NotFound p)) =
    (p ≡ place) × (told → standing ≡ Nothing)
IsConfigRead told place standing (Err (error.Json line)) =
    (line ≡ 0) × (told → (bytes : List ℕ) × (standing ≡ File bytes) × (config_of bytes ≡ None))
IsConfigRead told place standing (Err e) =
    (e ≡ error.NoMemory) ⊎ (e ≡ error.IoPath io_kind.Failed place)
