-- What a read of the cache returned has the records of the file.
use Rattle.std.proofs.Common.{◌≡◌, ◌≢◌, ◌⊎◌, inl, inr, ℕ, List, [], ◌∷◌, map, true, Option, Some, None, Result, Ok, Err, refl, sym, ap, ◌∙◌}
use Rattle.std.specs.Prelude.{IfOk, IfErr}
use Rattle.tame_names.specs.declared.errors.CacheError.{CacheError}
use Rattle.tame_names.specs.declared.errors.Error.{Error}
use Rattle.tame_names.specs.declared.errors.Error.TheVariants as error
use Rattle.tame_names.specs.declared.errors.IoKind.TheVariants as io_kind
use Rattle.tame_records.specs.Krates.{records_of}
use Rattle.tame_records.specs.declared.versions.IndexVersion.{IndexVersion}
use Rattle.tame_entry.specs.Entry.{ReadEntry, read_entry, second_pieces}
use Rattle.tame_entry.specs.Krates.{Item, items_of_file, iterated, paired}
use Rattle.tame_entry.specs.declared.index_entries.IndexEntry.{IndexEntry}
use Rattle.tame_entry.specs.declared.index_entries.IndexEntry.TheVariants.{Remote, Cache, Local}
use Rattle.tame_cache.specs.CacheFiles.{HandsOut}
use Rattle.tame_cache.specs.Disk.{File}
use Rattle.tame_cache.specs.FailedCalls.{AddsFailedBut, FailedDiskCalls, FailedReading}
use Rattle.upgrade_plan.specs.Recorded.{IsRecordedAs, file_records, if_recorded, is_of_cache, items_records, read_records}
use Rattle.upgrade_plan.specs.declared.records.NoRecord.TheVariants as why
use Rattle.upgrade_plan.specs.declared.records.Recorded.{Recorded}
use Rattle.upgrade_plan.specs.declared.records.Recorded.TheVariants.{Missing}

second_items : (ps : List (List ℕ)) → map (λ (i : Item). i.1) (paired ps) ≡ second_pieces ps
second_items [] = refl
second_items (version ∷ []) = refl
second_items (version ∷ line ∷ more) = ap (λ (ls : List (List ℕ)). line ∷ ls) (second_items more)

read_same : (r : Result ReadEntry CacheError) → items_records (items_of_file r) ≡ read_records r
read_same (Ok e) = ap (λ ls. if_recorded (records_of ls)) (second_items _)
read_same (Err f) = refl

-- the records of the file, or it couldn't be read
pub handed_records : (index : List ℕ) (taken : Result (Option IndexEntry) Error) (file : File) (r : Recorded) → IfOk taken (λ o. HandsOut index o file) → IsRecordedAs taken r
    → (r ≡ file_records index file) ⊎ (r ≡ Missing why.Store)
handed_records index (Ok None) file r is h = inl (h ∙ ap (file_records index) (sym is))
handed_records index (Ok (Some (Cache bytes url))) file r is h =
    inl (h ∙ read_same (read_entry url bytes) ∙ ap (λ (u : List ℕ). read_records (read_entry u bytes)) is.1 ∙ ap (file_records index) (sym is.0))
handed_records index (Ok (Some (Remote json_lines))) file r is h = absurd is
handed_records index (Ok (Some (Local bytes))) file r is h = absurd is
handed_records index (Err e) file r is h = inr h.1

-- lines don't say that the file couldn't be read
not_stored : (o : Option (List IndexVersion)) → if_recorded o ≢ Missing why.Store
not_stored None h = cc
not_stored (Some versions) h = cc

not_refused : (items : Result (List Item) CacheError) → items_records items ≢ Missing why.Store
not_refused (Ok items) h = not_stored (records_of (map (λ i. i.1) items)) h
not_refused (Err f) h = cc

failed_is_no_memory : error.Io io_kind.Failed ≢ error.NoMemory
failed_is_no_memory h = cc

pub store_failed : {P : Type 0} (taken : Result (Option IndexEntry) Error) (r : Recorded) → IsRecordedAs taken r → r ≡ Missing why.Store
    → IfErr taken (λ e. e ≢ error.NoMemory → P) → P
store_failed (Ok None) r h store failed = absurd (cc)
store_failed (Ok (Some entry)) r h store failed = absurd (not_refused (iterated entry) (sym h ∙ store))
store_failed (Err e) r h store failed = failed (λ memory. failed_is_no_memory (sym h.0 ∙ memory))

-- that the file couldn't be read is said if its read failed, and no other call did
pub store_read : (q : List ℕ) (before now : FailedDiskCalls) (taken : Result (Option IndexEntry) Error) (r : Recorded) → AddsFailedBut error.NoMemory (FailedReading q) before now taken → IsRecordedAs taken r
    → r ≡ Missing why.Store → FailedReading q before now
store_read q before now (Ok None) r adds h store = absurd (cc)
store_read q before now (Ok (Some entry)) r adds h store = absurd (not_refused (iterated entry) (sym h ∙ store))
store_read q before now (Err e) r adds h store = adds.1 (λ memory. failed_is_no_memory (sym h.0 ∙ memory))

pub read_quiet : (q : List ℕ) (before now : FailedDiskCalls) (taken : Result (Option IndexEntry) Error) (r : Recorded) → AddsFailedBut error.NoMemory (FailedReading q) before now taken → IsRecordedAs taken r
    → r ≢ Missing why.Store → now ≡ before
read_quiet q before now (Ok o) r adds h other = adds
read_quiet q before now (Err e) r adds h other = absurd (other h.1)

lines_of_cache : (o : Option (List IndexVersion)) → is_of_cache (if_recorded o) ≡ true
lines_of_cache None = refl
lines_of_cache (Some versions) = refl

items_of_cache : (items : Result (List Item) CacheError) → is_of_cache (items_records items) ≡ true
items_of_cache (Ok items) = lines_of_cache (records_of (map (λ i. i.1) items))
items_of_cache (Err f) = refl

pub taken_of_cache : (taken : Result (Option IndexEntry) Error) (r : Recorded) → IsRecordedAs taken r → is_of_cache r ≡ true
taken_of_cache (Ok None) r h = ap is_of_cache h
taken_of_cache (Ok (Some entry)) r h = ap is_of_cache h ∙ items_of_cache (iterated entry)
taken_of_cache (Err e) r h = ap is_of_cache h.1
