-- Crates that are inserted into a registry, one after another (this project).
use Rattle.std.specs.Prelude.{◌≡◌, ◌<◌, ◌^◌, ℕ, List, [], ◌∷◌, length, true, false, Some, None, is_ok, IfSome, IsTrue, Ok}
use Rattle.std.specs.Str.{IsUtf8}
use Rattle.semver.specs.Parse.{version_parts}
use Rattle.tame_names.specs.Changes.{AreFolders, is_folder}
use Rattle.tame_names.specs.Paths.{ends_with_slash, is_same, ways_to}
use Rattle.tame_names.specs.Standing.{Host, Standing, Folder}
use Rattle.tame_names.specs.declared.host.Listed.{Listed}
use Rattle.tame_records.specs.Record.{record_of}
use Rattle.tame_records.specs.Written.{line}
use Rattle.tame_records.specs.declared.versions.IndexVersion.{IndexVersion}
use Rattle.tame_sparse.specs.Git.{first_name}
use Rattle.tame_local.specs.Builders.{after, after_change, created, free_at, insertable, inserted}
use Rattle.tame_local.specs.CrateFiles.{Lacks}
use Rattle.tame_local.specs.Registries.{crate_file_name, index_of, registry_at, sum_in}
use Rattle.tame_local.specs.declared.digests.ValidKrate.{ValidKrate}

-- at paths that are the same, the same is there
abbrev pub StandsPlain : (List ℕ → Standing) → Type 0
StandsPlain stands = (p q : List ℕ) → is_same p q ≡ true → stands p ≡ stands q

-- ---- a registry without crates

abbrev pub HasNoCrate : List Listed → Type 0
HasNoCrate [] = Unit {0}
HasNoCrate (entry ∷ entries) = (crate_file_name entry ≡ None) × HasNoCrate entries

-- a folder without crate files, and in it the folder of an index
pub record IsEmptyRegistry (registry : List ℕ) (host : Host) : Type 0 where
  pub entries : List Listed
  pub folder : host.stands registry ≡ Folder entries
  pub crates : HasNoCrate entries
  pub index : is_folder (host.stands (index_of registry)) ≡ true

-- a registry that a builder begins is empty, and paths that are the same still have the same there
abbrev pub BeginEmpty : Type 0
BeginEmpty =
    (registry : List ℕ) (host : Host)
    → 0 < length registry → ends_with_slash registry ≡ false → StandsPlain host.stands
    → free_at registry (host.stands registry) ≡ Ok tt
    → AreFolders (ways_to (index_of registry)) host.stands
    → IsEmptyRegistry registry (after_change (created registry) host)
    × StandsPlain (after_change (created registry) host).stands

-- ---- inserts

-- what is inserted: a crate's versions, and the crate files of some of them
pub record Insert : Type 0 where
  pub versions : List IndexVersion
  pub krates : List ValidKrate

-- a crate file is of this crate, its version's text is one of SemVer, and its checksum is that of
-- the first of the versions with this text
pub record IsOfCrate (versions : List IndexVersion) (krate : ValidKrate) : Type 0 where
  pub name : krate.iv.now.name ≡ first_name versions
  pub version : IsTrue (is_ok (version_parts krate.iv.now.version))
  pub slashless : Lacks 47 krate.iv.now.version
  pub sum : sum_in krate.iv.now.version versions ≡ Some krate.iv.now.checksum

abbrev pub AreOfCrate : List IndexVersion → List ValidKrate → Type 0
AreOfCrate versions [] = Unit {0}
AreOfCrate versions (krate ∷ krates) = IsOfCrate versions krate × AreOfCrate versions krates

-- the number of each version has 32 bits, and its line reads back to it, as every version's does
abbrev pub AreWritten : List IndexVersion → Type 0
AreWritten [] = Unit {0}
AreWritten (v ∷ vs) =
    IfSome v.v (λ n. n < 2 ^ 32) × (record_of (line v) ≡ Some v) × AreWritten vs

pub record IsInsert (i : Insert) : Type 0 where
  pub some : 0 < length i.versions
  pub text : IsUtf8 (first_name i.versions)
  pub written : AreWritten i.versions
  pub krates : AreOfCrate i.versions i.krates

-- what a host has after an insert
abbrev pub after_insert : List ℕ → Insert → Host → Host
after_insert registry i host =
    after (inserted registry (first_name i.versions) i.versions i.krates) host

abbrev pub after_inserts : List ℕ → List Insert → Host → Host
after_inserts registry [] host = host
after_inserts registry (i ∷ is) host = after_inserts registry is (after_insert registry i host)

-- each can be inserted after those before it
abbrev pub AreInserts : List ℕ → List Insert → Host → Type 0
AreInserts registry [] host = Unit {0}
AreInserts registry (i ∷ is) host =
    IsInsert i × (insertable registry (first_name i.versions) host ≡ Ok tt)
    × AreInserts registry is (after_insert registry i host)

-- a registry of valid crates that were inserted into an empty one is validated
abbrev pub StayValid : Type 0
StayValid =
    (registry : List ℕ) (inserts : List Insert) (host : Host)
    → 0 < length registry → ends_with_slash registry ≡ false
    → StandsPlain host.stands → IsEmptyRegistry registry host → AreInserts registry inserts host
    → registry_at (after_inserts registry inserts host) registry true ≡ Ok (index_of registry)
