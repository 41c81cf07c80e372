-- The records of a crate from its file in the cache (this project).
use Rattle.std.specs.Prelude.{◌≡◌, ℕ, List, map, Bool, true, false, Option, Some, None, Result, Ok, Err}
use Rattle.tame_names.specs.declared.errors.CacheError.{CacheError}
use Rattle.tame_names.specs.declared.errors.Error.{Error}
use Rattle.tame_names.specs.declared.errors.Error.TheVariants as error
use Rattle.tame_names.specs.declared.errors.IoKind.TheVariants as io_kind
use Rattle.tame_records.specs.Krates.{records_of}
use Rattle.tame_records.specs.Lines.{lines}
use Rattle.tame_records.specs.declared.versions.IndexVersion.{IndexVersion}
use Rattle.tame_entry.specs.Entry.{ReadEntry, lines_in, read_entry}
use Rattle.tame_entry.specs.Krates.{Item, iterated}
use Rattle.tame_entry.specs.declared.index_entries.IndexEntry.{IndexEntry}
use Rattle.tame_cache.specs.Disk.{File}
use Rattle.upgrade_plan.specs.declared.records.NoRecord.TheVariants as why
use Rattle.upgrade_plan.specs.declared.records.Recorded.{Recorded}
use Rattle.upgrade_plan.specs.declared.records.Recorded.TheVariants.{Versions, Missing}

-- the records of lines, if each has one
abbrev pub if_recorded : Option (List IndexVersion) → Recorded
if_recorded None = Missing why.Record
if_recorded (Some versions) = Versions (record { versions = versions })

-- from the lines of a body
abbrev pub body_records : List ℕ → Recorded
body_records body = if_recorded (records_of (lines body))

abbrev pub read_records : Result ReadEntry CacheError → Recorded
read_records (Ok e) = if_recorded (records_of (lines_in e.versions))
read_records (Err f) = Missing why.Absent

-- from the cache file of the index at a url; a refused file is treated as none
abbrev pub file_records : List ℕ → File → Recorded
file_records index None = Missing why.Absent
file_records index (Some bytes) = read_records (read_entry index bytes)

-- it is from a read of the cache: neither source nor name is the cause
abbrev pub is_of_cache : Recorded → Bool
is_of_cache (Versions krate) = true
is_of_cache (Missing why.Source) = false
is_of_cache (Missing why.Name) = false
is_of_cache (Missing why.Store) = true
is_of_cache (Missing why.Absent) = true
is_of_cache (Missing why.Record) = true

-- ---- from the lines of an index entry

abbrev pub items_records : Result (List Item) CacheError → Recorded
items_records (Ok items) = if_recorded (records_of (map (λ i. i.1) items))
items_records (Err f) = Missing why.Absent

abbrev pub entry_records : IndexEntry → Recorded
entry_records entry = items_records (iterated entry)

-- from what a read of the cache returned
abbrev pub IsRecordedAs : Result (Option IndexEntry) Error → Recorded → Type 0
IsRecordedAs (Ok (Some entry)) r = r ≡ entry_records entry
IsRecordedAs (Ok None) r = r ≡ Missing why.Absent
IsRecordedAs (Err e) r = (e ≡ error.Io io_kind.Failed) × (r ≡ Missing why.Store)
