-- The newest version of a crate that may be chosen, and the versions in a file (Cargo Book,
-- "Registry Index").
use Rattle.std.specs.Prelude.{◌≡◌, ℕ, List, Option, Some, None, Ok}
use Rattle.tame_names.specs.Standing.{Standing, File as Holds, Nothing}
use Rattle.tame_records.specs.Highest.{IsHighestNormal}
use Rattle.tame_records.specs.Lines.{lines}
use Rattle.tame_records.specs.declared.krates.IndexKrate.{IndexKrate}
use Rattle.tame_records.specs.declared.versions.IndexVersion.{IndexVersion}
use Rattle.tame_entry.specs.Entry.{read_entry}
use Rattle.tame_entry.specs.Krates.{krate_of_file, krate_of_lines}
use Rattle.tame_entry.specs.Lines.{invalid}
use Rattle.tame_cache.specs.Disk.{File}

-- the text of the highest of the normal versions; none exactly where no version is normal
abbrev pub IsNewest : List IndexVersion → Option (List ℕ) → Type 0
IsNewest versions None = IsHighestNormal versions None
IsNewest versions (Some text) =
    (v : IndexVersion) × IsHighestNormal versions (Some v) × (text ≡ v.version)

-- the newest by a file of the cache of the index at a url, none without a file
abbrev pub IsNewestIn : List ℕ → File → Option (List ℕ) → Type 0
IsNewestIn index None text = text ≡ None
IsNewestIn index (Some bytes) text =
    (versions : List IndexVersion) × (krate_of_file (read_entry index bytes) ≡ Ok versions)
    × IsNewest versions text

-- the newest in the lines of a valid body
abbrev pub IsNewestOf : List ℕ → Option (List ℕ) → Type 0
IsNewestOf body text =
    (versions : List IndexVersion) × (invalid body ≡ None)
    × (krate_of_lines (lines body) ≡ Ok versions) × IsNewest versions text

-- the versions that the lines of an index file are, none without a file
abbrev pub AreVersionsAt : Standing → Option IndexKrate → Type 0
AreVersionsAt standing None = standing ≡ Nothing
AreVersionsAt standing (Some krate) =
    (body : List ℕ) × (standing ≡ Holds body) × (krate_of_lines (lines body) ≡ Ok krate.versions)
