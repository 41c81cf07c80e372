-- What names, paths and versions of what was checked are (this project).
use Rattle.std.specs.Prelude.{◌≡◌, ◌<◌, ◌⊎◌, ℕ, List, [], ◌∷◌, ◌++◌, length, false, Some, IsTrue, is_ok}
use Rattle.std.specs.Str.{IsUtf8}
use Rattle.semver.specs.Parse.{version_parts}
use Rattle.tame_names.specs.Names.{path}
use Rattle.tame_names.specs.Paths.{ends_with_slash, plain_path}
use Rattle.tame_names.specs.declared.memory_nodes.MemFile.{MemFile}
use Rattle.audit_lock.specs.declared.resolving.Package.{Package}
use Rattle.vendor_registry.specs.declared.checks.CheckedCrate.{CheckedCrate}

-- the names of the records are UTF-8, as every text is
abbrev pub AreTexts : List CheckedCrate → Type 0
AreTexts [] = Unit {0}
AreTexts (c ∷ cs) = IsUtf8 c.version.name × AreTexts cs

-- each has the path of its record's name
abbrev pub ArePathed : List CheckedCrate → Type 0
ArePathed [] = Unit {0}
ArePathed (c ∷ cs) = (path c.version.name ≡ Some c.path) × ArePathed cs

-- the version of each package is one of SemVer, as in every lockfile
abbrev pub AreVersioned : List Package → Type 0
AreVersioned [] = Unit {0}
AreVersioned (p ∷ ps) =
    IsTrue (is_ok (version_parts p.version)) × AreVersioned ps

-- the path of a folder that isn't empty, and doesn't end with a slash
abbrev pub IsPlace : List ℕ → Type 0
IsPlace folder = (0 < length folder) × (ends_with_slash folder ≡ false)

-- the same, with one slash after it or none
abbrev pub IsFolderPath : List ℕ → Type 0
IsFolderPath path =
    (folder : List ℕ) × IsPlace folder × ((path ≡ folder) ⊎ (path ≡ folder ++ 47 ∷ []))

-- a path below a folder: the folder's path comes first, with a slash
abbrev pub IsBelow : List ℕ → List ℕ → Type 0
IsBelow folder path = (rest : List ℕ) × (path ≡ folder ++ 47 ∷ rest)

-- none of these files in memory is below a folder, whatever slashes end its path
abbrev pub NoneBelow : List ℕ → List MemFile → Type 0
NoneBelow folder [] = Unit {0}
NoneBelow folder (file ∷ files) =
    (IsBelow folder (plain_path file.path) → ⊥) × NoneBelow folder files
