-- What a local index hands out, and what a server sends, are lines; what a cache hands out is its file.
use Rattle.std.proofs.Common.{◌≡◌, ◌⊎◌, inl, inr, ℕ, List, Option, Some, Ok, Err, ap, sym, subst, ◌∙◌}
use Rattle.tame_names.specs.Standing.{Standing, File}
use Rattle.tame_names.specs.declared.errors.Error.{Error}
use Rattle.tame_names.specs.declared.errors.Error.TheVariants as error
use Rattle.tame_records.specs.Lines.{lines}
use Rattle.tame_records.specs.declared.versions.IndexVersion.{IndexVersion}
use Rattle.tame_entry.specs.Entry.{read_entry}
use Rattle.tame_entry.specs.Krates.{deserialized, krate_of_file, krate_of_lines}
use Rattle.tame_entry.specs.declared.index_entries.IndexEntry.{IndexEntry}
use Rattle.tame_entry.specs.declared.index_entries.IndexEntry.TheVariants.{Remote, Cache, Local}
use Rattle.tame_cache.specs.CacheFiles.{HandsOut}
use Rattle.tame_cache.specs.Disk.{File as Kept}
use Rattle.tame_local.specs.Registries.{HandsOutFile}
use Rattle.uses.specs.Newest.{IsNewest, IsNewestIn}
use Rattle.uses.specs.Refusals.{IsKeptRefusal}

pub versions_read : (standing : Standing) (entry : IndexEntry) (versions : List IndexVersion) → HandsOutFile (Some entry) standing → deserialized entry ≡ Ok versions
    → (body : List ℕ) × (standing ≡ File body) × (krate_of_lines (lines body) ≡ Ok versions)
versions_read standing (Remote sent) versions h e = absurd h
versions_read standing (Cache bytes url) versions h e = absurd h
versions_read standing (Local bytes) versions h e = (bytes, h, e)

-- ---- files of the cache

pub kept_refusal : (before now : ℕ) (handed : IndexEntry → Type 0) (entry : IndexEntry) (e : Error) → (e ≡ error.NoMemory) ⊎ (deserialized entry ≡ Err e) → handed entry → IsKeptRefusal before now handed e
kept_refusal before now handed entry e (inl none) h = inl none
kept_refusal before now handed entry e (inr why) h = inr (inr (entry, why, h))

-- the newest in what was handed out of a file is the newest in the file
pub kept_newest : (index : List ℕ) (file : Kept) (entry : IndexEntry) (versions : List IndexVersion) (text : Option (List ℕ)) → HandsOut index (Some entry) file → deserialized entry ≡ Ok versions → IsNewest versions text → IsNewestIn index file text
kept_newest index file (Remote sent) versions text h read newest = absurd h
kept_newest index file (Cache bytes url) versions text h read newest =
    subst (λ (f : Kept). IsNewestIn index f text) (sym h.0) (versions, ap (λ (i : List ℕ). krate_of_file (read_entry i bytes)) (sym h.1) ∙ read, newest)
kept_newest index file (Local bytes) versions text h read newest = absurd h
