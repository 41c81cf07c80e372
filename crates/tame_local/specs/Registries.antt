-- Local registries: an index folder, and next to it a file of each crate (Cargo Book, "Source
-- Replacement", local registry sources).
use Rattle.std.specs.Prelude.{◌≡◌, ℕ, codes, List, [], ◌∷◌, Bool, is_some, bytes_eq, find, unwrap_or, Option, Some, None, option_and_then, option_map, IfSome, String, Result, Ok, Err, if◌then◌else◌}
use Rattle.std.specs.BTreeMap.{BTreeMap, get_by_text}
use Rattle.std.specs.BTreeSet.{insert_key}
use Rattle.std.specs.Cmp.Lexicographic.{slice_cmp}
use Rattle.std.specs.Option.{ok_or}
use Rattle.std.specs.Ordering.{nat_cmp}
use Rattle.std.specs.declared.alloc.Global.{Global}
use Rattle.tame_names.specs.Names.{refusal_of, NameRefusal, relative_path, separator}
use Rattle.tame_names.specs.Paths.{file_name, join, parent}
use Rattle.tame_names.specs.Standing.{Host, Standing, Nothing, File, Folder}
use Rattle.tame_names.specs.declared.host.Listed.{Listed}
use Rattle.tame_records.specs.Krates.{records_of, unread}
use Rattle.tame_records.specs.Lines.{lines}
use Rattle.tame_records.specs.declared.checksums.Chksum.{Chksum}
use Rattle.tame_records.specs.declared.krates.IndexKrate.{IndexKrate}
use Rattle.tame_records.specs.declared.versions.IndexVersion.{IndexVersion}
use Rattle.tame_names.specs.declared.errors.Error.{Error}
use Rattle.tame_entry.specs.declared.index_entries.IndexEntry.{IndexEntry}
use Rattle.tame_entry.specs.declared.index_entries.IndexEntry.TheVariants.{Local}
use Rattle.tame_local.specs.CrateFiles.{components}
use Rattle.tame_local.specs.Digests.{has_digest}
use Rattle.tame_local.specs.Refusals.{LocalRefusal, NotAName, NotThere, NotAFolder, NoVersion, OtherDigest, Unsaid, and_then, refused}

-- ---- paths

-- the index of a registry
abbrev pub index_of : List ℕ → List ℕ
index_of registry = join registry (codes "index")

-- the file of a crate in a local index
abbrev pub index_file : List ℕ → List ℕ → List ℕ
index_file index name = join index (relative_path (separator None) name)

-- the folder of the crate files of an index: the one above it, or the index itself if none is above
abbrev pub crates_folder : List ℕ → List ℕ
crates_folder index = unwrap_or (parent index) index

-- ---- folders

-- what must be a folder
abbrev pub folder_at : List ℕ → Standing → Result (List Listed) LocalRefusal
folder_at path Nothing = Err (NotThere path)
folder_at path (Folder entries) = Ok entries
folder_at path standing = Err (NotAFolder path)

-- the folder `index` of a path if it is there, and the path itself if it is absent
abbrev pub index_or_root : List ℕ → Standing → Result (List ℕ) LocalRefusal
index_or_root root Nothing = Ok root
index_or_root root (Folder entries) = Ok (index_of root)
index_or_root root standing = Err (NotAFolder (index_of root))

-- the folder of a local index: a path whose last part is `index`, or what replaces it
abbrev pub index_at : Host → List ℕ → Result (List ℕ) LocalRefusal
index_at host root =
    if bytes_eq (file_name root) (codes "index") then Ok root
    else index_or_root root (host.stands (index_of root))

-- ---- index files

-- what an index gives for a file: nothing if there is none, else its bytes
abbrev pub HandsOutFile : Option IndexEntry → Standing → Type 0
HandsOutFile None standing = standing ≡ Nothing
HandsOutFile (Some (Local bytes)) standing = standing ≡ File bytes
HandsOutFile (Some entry) standing = ⊥

-- the bytes of a file that must be there
abbrev pub bytes_at : List ℕ → Standing → Result (List ℕ) LocalRefusal
bytes_at path Nothing = Err (NotThere path)
bytes_at path (File bytes) = Ok bytes
bytes_at path standing = Err Unsaid

abbrev pub records_unless : Option Error → List ℕ → Result (List IndexVersion) LocalRefusal
records_unless (Some why) body = Err (refused why)
records_unless None body = Ok (unwrap_or (records_of (lines body)) [])

-- the records of the lines of an index file, or why it has none
abbrev pub records_in : List ℕ → Result (List IndexVersion) LocalRefusal
records_in body = records_unless (unread body) body

-- the records of the index file at a path, which must be there
abbrev pub records_at : Host → List ℕ → Result (List IndexVersion) LocalRefusal
records_at host path = and_then records_in (bytes_at path (host.stands path))

-- the first record of a version
abbrev pub record_with : List ℕ → List IndexVersion → Option IndexVersion
record_with version records = find (λ v. bytes_eq v.version version) records

-- its checksum
abbrev pub sum_in : List ℕ → List IndexVersion → Option Chksum
sum_in version records = option_map (λ v. v.checksum) (record_with version records)

-- each of these index files has the records that are kept of it
abbrev pub AreRead : Host → BTreeMap (String Global) IndexKrate → Type 0
AreRead host kept =
    (path : List ℕ)
    → IfSome (get_by_text kept path) (λ krate. records_at host path ≡ Ok krate.versions)

-- ---- crate files

-- a file's name, if it is that of a crate file
abbrev pub if_crate_file : List ℕ → Option (List ℕ)
if_crate_file name = if is_some (components name) then Some name else None

abbrev pub crate_file_name : Listed → Option (List ℕ)
crate_file_name entry = if entry.file then option_and_then if_crate_file entry.name else None

-- a name at its position in byte order
abbrev pub with_name : List (List ℕ) → Option (List ℕ) → List (List ℕ)
with_name names None = names
with_name names (Some name) = insert_key (slice_cmp nat_cmp) names name

-- the names of crate files among entries, in byte order, with the given ones
abbrev pub crate_file_names : List (List ℕ) → List Listed → List (List ℕ)
crate_file_names names [] = names
crate_file_names names (entry ∷ entries) =
    crate_file_names (with_name names (crate_file_name entry)) entries

-- ---- a registry that agrees with its index

abbrev pub named_unless : Option NameRefusal → Result Unit LocalRefusal
named_unless (Some why) = Err (NotAName why)
named_unless None = Ok tt

-- this is the name of a crate
abbrev pub name_checked : List ℕ → Result Unit LocalRefusal
name_checked name = named_unless (refusal_of name)

-- the checksum of a name and a version: that of the first record of its index file with that
-- version
abbrev pub sum_at : Host → List ℕ → List ℕ × List ℕ → Result Chksum LocalRefusal
sum_at host index parts =
    and_then (λ records. ok_or (sum_in parts.1 records) (NoVersion parts.0 parts.1))
    (records_at host (index_file index parts.0))

-- bytes have this digest
abbrev pub digest_checked : List ℕ × List ℕ → Chksum → List ℕ → Result Unit LocalRefusal
digest_checked parts sum bytes =
    if has_digest bytes sum.0 then Ok tt else Err (OtherDigest parts.0 parts.1)

-- the file at a path agrees with the record of a name and a version
abbrev pub located_checked : Host → List ℕ → List ℕ → List ℕ × List ℕ → Result Unit LocalRefusal
located_checked host index path parts =
    and_then (λ sum. and_then (digest_checked parts sum) (bytes_at path (host.stands path)))
    (sum_at host index parts)

-- the file of a name and a version agrees with the index
abbrev pub parts_checked : Host → List ℕ → List ℕ → List ℕ → List ℕ × List ℕ
    → Result Unit LocalRefusal
parts_checked host index folder file parts =
    and_then (λ named. located_checked host index (join folder file) parts) (name_checked parts.0)

abbrev pub file_if_parts : Host → List ℕ → List ℕ → List ℕ → Option (List ℕ × List ℕ)
    → Result Unit LocalRefusal
file_if_parts host index folder file None = Ok tt
file_if_parts host index folder file (Some parts) = parts_checked host index folder file parts

abbrev pub file_checked : Host → List ℕ → List ℕ → List ℕ → Result Unit LocalRefusal
file_checked host index folder file =
    file_if_parts host index folder file (components file)

-- each of these files, one after another
abbrev pub files_checked : Host → List ℕ → List ℕ → List (List ℕ) → Result Unit LocalRefusal
files_checked host index folder [] = Ok tt
files_checked host index folder (file ∷ files) =
    and_then (λ done. files_checked host index folder files) (file_checked host index folder file)

-- every crate file next to an index has the digest of its record, or this is the first reason why
-- not
abbrev pub validated : Host → List ℕ → Result Unit LocalRefusal
validated host index =
    and_then (λ entries. files_checked host index (crates_folder index)
    (crate_file_names [] entries))
    (folder_at (crates_folder index) (host.stands (crates_folder index)))

abbrev pub validated_if : Bool → Host → List ℕ → Result Unit LocalRefusal
validated_if validate host index = if validate then validated host index else Ok tt

-- the index of a registry, which agrees with it if that is asked for
abbrev pub registry_at : Host → List ℕ → Bool → Result (List ℕ) LocalRefusal
registry_at host registry validate =
    and_then (λ entries. and_then (λ done. Ok (index_of registry))
    (validated_if validate host (index_of registry)))
    (folder_at (index_of registry) (host.stands (index_of registry)))
