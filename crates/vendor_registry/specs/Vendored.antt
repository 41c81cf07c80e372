-- What a vendored folder holds (Cargo Book, "Source Replacement", local registry sources).
use Rattle.std.specs.Prelude.{◌≡◌, ◌<◌, ◌+◌, ◌-◌, ◌^◌, min, ℕ, codes, List, [], ◌∷◌, length, map, filter, flat_map, Bool, true, false, bytes_eq, Ok}
use Rattle.tame_names.specs.Changes.{is_folder}
use Rattle.tame_names.specs.Paths.{begins_with_slash, join, plain_path}
use Rattle.tame_names.specs.Standing.{Host, Nothing, File}
use Rattle.tame_records.specs.Written.{json_lines}
use Rattle.tame_local.specs.CrateFiles.{crate_file}
use Rattle.tame_local.specs.Registries.{index_of, validated}
use Rattle.audit_core.specs.Paths.{distinct_after}
use Rattle.audit_lock.specs.declared.resolving.Package.{Package}
use Rattle.vendor_registry.specs.Checks.{Stock, all_checked}
use Rattle.vendor_registry.specs.Looked.{looked}
use Rattle.vendor_registry.specs.declared.checks.CheckedCrate.{CheckedCrate}
use Rattle.vendor_registry.specs.declared.vendoring.Vendored.{Vendored}

-- ---- the files of a registry

-- files by their paths in a folder, each with its bytes
abbrev pub Files : Type 0
Files = List (List ℕ × List ℕ)

abbrev pub is_on : List ℕ → CheckedCrate → Bool
is_on q c = bytes_eq c.path q

-- what is put on a path of the index, in the lockfile's order
abbrev pub on : List ℕ → List CheckedCrate → List CheckedCrate
on q cs = filter (is_on q) cs

-- the paths of the index, each once
abbrev pub paths_of : List CheckedCrate → List (List ℕ)
paths_of cs = distinct_after [] (map (λ c. c.path) cs)

-- the crate file of a package, named by its record
abbrev pub crate_entry : CheckedCrate → List ℕ × List ℕ
crate_entry c = (crate_file c.version.name c.version.version, c.bytes)

-- the index file of a path: a line for each record that is put there
abbrev pub index_entry : List ℕ → List CheckedCrate → List ℕ × List ℕ
index_entry q cs = (join (codes "index") q, json_lines (map (λ c. c.version) cs))

-- the files of what is put on a path: its index file, and a crate file for each
abbrev pub path_files : List ℕ → List CheckedCrate → Files
path_files q [] = []
path_files q (c ∷ cs) = index_entry q (c ∷ cs) ∷ map crate_entry (c ∷ cs)

-- all files, path by path
abbrev pub vendored_files : List CheckedCrate → Files
vendored_files cs = flat_map (λ q. path_files q (on q cs)) (paths_of cs)

-- the number of bytes in files
abbrev pub size_of : Files → ℕ
size_of [] = 0
size_of (f ∷ fs) = length f.1 + size_of fs

-- ---- a folder that holds them

-- a path in a folder: it is not empty, and neither begins nor ends with `/`
pub record IsInner (path : List ℕ) : Type 0 where
  pub some : 0 < length path
  pub front : begins_with_slash path ≡ false
  pub plain : plain_path path ≡ path

-- this file is among these
pub data IsAmong (path bytes : List ℕ) : Files → Type 0 where
  first : (files : Files) → IsAmong path bytes ((path, bytes) ∷ files)
  later : (file : List ℕ × List ℕ) (files : Files) → IsAmong path bytes files
      → IsAmong path bytes (file ∷ files)

-- each of these files is in a folder, with its bytes
abbrev pub HoldsEach : Host → List ℕ → Files → Type 0
HoldsEach host folder files =
    (path bytes : List ℕ) → IsAmong path bytes files
    → host.stands (join folder path) ≡ File bytes

-- no other file is in it, however deep
abbrev pub HoldsNoOther : Host → List ℕ → Files → Type 0
HoldsNoOther host folder files =
    (path bytes : List ℕ) → IsInner path
    → host.stands (join folder path) ≡ File bytes → IsAmong path bytes files

-- nothing is in a folder, however deep
abbrev pub IsBare : Host → List ℕ → Type 0
IsBare host folder =
    (path : List ℕ) → IsInner path → host.stands (join folder path) ≡ Nothing

-- ---- a vendored folder

-- a folder is vendored for the packages of a lockfile, with this result: it holds the files of
-- what was checked of them, and no others if nothing was in it beforehand; it agrees with its
-- index, and these are its index, the number of its crate files and that of its bytes
pub record IsVendored (stock : Stock) (packages : List Package) (folder : List ℕ)
    (host : Host) (made : Vendored) : Type 0 where
  pub checked : List CheckedCrate
  pub are_checked : all_checked stock (looked packages) ≡ Ok checked
  pub files : HoldsEach host folder (vendored_files checked)
  pub no_other : IsBare stock.host folder → HoldsNoOther host folder (vendored_files checked)
  pub index_folder : is_folder (host.stands (index_of folder)) ≡ true
  pub agrees : validated host (index_of folder) ≡ Ok tt
  pub registry : made.registry.index.path ≡ index_of folder
  pub crate_files : made.packages ≡ length checked
  pub bytes : made.bytes ≡ min (size_of (vendored_files checked)) (2 ^ 64 - 1)
