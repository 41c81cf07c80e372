-- Each call of a registry's builder that may fail is reported with a path of the registry.
use Rattle.std.proofs.Common.{◌≡◌, inl, inr, codes, ◌∷◌, [], ℕ, Bool, List, Option, Some, None, unwrap_or, sym, subst}
use Rattle.tame_names.specs.Names.{relative_path, separator}
use Rattle.tame_names.specs.Paths.{join}
use Rattle.tame_names.specs.Standing.{Host}
use Rattle.tame_names.specs.declared.host.FailedCall.{FailedCall}
use Rattle.tame_names.specs.declared.host.FileCall.{FileCall}
use Rattle.tame_records.specs.declared.versions.IndexVersion.{IndexVersion}
use Rattle.tame_sparse.specs.Git.{first_name}
use Rattle.tame_local.specs.Builders.{Creates, HostChange, Makes, crate_made, crates_made, inserted}
use Rattle.tame_local.specs.Calls.{IsCallIfParts, IsCallOn, IsCreateCall, IsCreatesCall, IsFilesCall, IsFreeCall, IsInsertCall, IsListingCall, IsRegistryCall, IsValidateCall, IsWriteCall}
use Rattle.tame_local.specs.CrateFiles.{components, crate_file}
use Rattle.tame_local.specs.Registries.{crates_folder, index_file, index_of}
use Rattle.tame_local.specs.declared.digests.ValidKrate.{ValidKrate}
use Rattle.vendor_registry.specs.Failed.{IsWithin, itself, of_crates, below}

told_at : (to path told : List ℕ) → told ≡ path → IsWithin to path → IsWithin to told
told_at to path told is within = subst (IsWithin to) (sym is) within

on_within : (to : List ℕ) (name : FileCall) (path told : List ℕ) (call : FailedCall) → IsWithin to path → IsCallOn name path told call → IsWithin to told
on_within to name path told call within h = told_at to path told h.0 within

index_within : (to : List ℕ) → IsWithin to (index_of to)
index_within to = below to (codes "index") itself

listing_within : (to : List ℕ) (host : Host) (folder told : List ℕ) (call : FailedCall) → IsWithin to folder → IsListingCall host folder told call → IsWithin to told
listing_within to host folder told call within (inl h) = on_within to _ folder told call within h
listing_within to host folder told call within (inr h) = on_within to _ folder told call within h.1

parts_within : (to : List ℕ) (host : Host) (index path : List ℕ) (parts : Option (List ℕ × List ℕ)) (told : List ℕ) (call : FailedCall) → IsWithin to index → IsWithin to path
    → IsCallIfParts host index path parts told call → IsWithin to told
parts_within to host index path None told call index_in path_in h = absurd h
parts_within to host index path (Some parts) told call index_in path_in (inl h) = on_within to _ (index_file index parts.0) told call (below index (relative_path (separator None) parts.0) index_in) h
parts_within to host index path (Some parts) told call index_in path_in (inr h) = on_within to _ path told call path_in h.2

files_within : (to : List ℕ) (host : Host) (index folder : List ℕ) (files : List (List ℕ)) (told : List ℕ) (call : FailedCall) → IsWithin to index → IsWithin to folder
    → IsFilesCall host index folder files told call → IsWithin to told
files_within to host index folder [] told call index_in folder_in h = absurd h
files_within to host index folder (file ∷ files) told call index_in folder_in (inl h) =
    parts_within to host index (join folder file) (components file) told call index_in (below folder file folder_in) h
files_within to host index folder (file ∷ files) told call index_in folder_in (inr h) = files_within to host index folder files told call index_in folder_in h.1

pub registry_within : (to : List ℕ) (host : Host) (validate : Bool) (told : List ℕ) (call : FailedCall) → IsRegistryCall host to validate told call → IsWithin to told
registry_within to host validate told call (inl h) = on_within to _ (index_of to) told call (index_within to) h
registry_within to host validate told call (inr (wanted, inl h)) = listing_within to host (crates_folder (index_of to)) told call of_crates h
registry_within to host validate told call (inr (wanted, inr h)) =
    files_within to host (index_of to) (crates_folder (index_of to)) _ told call (index_within to) of_crates h.2

free_within : (to : List ℕ) (host : Host) (told : List ℕ) (call : FailedCall) → IsFreeCall host to told call → IsWithin to told
free_within to host told call (inl h) = on_within to _ to told call itself h
free_within to host told call (inr h) = on_within to _ to told call itself h.1

pub create_within : (to : List ℕ) (host : Host) (told : List ℕ) (call : FailedCall) → IsCreateCall host to told call → IsWithin to told
create_within to host told call (inl h) = free_within to host told call h
create_within to host told call (inr h) = told_at to (index_of to) told h.1.0 (index_within to)

crates_within : (to : List ℕ) (krates : List ValidKrate) (told : List ℕ) (call : FailedCall) → IsCreatesCall (crates_made to krates) told call → IsWithin to told
crates_within to [] told call h = absurd h
crates_within to (krate ∷ krates) told call (inl h) =
    on_within to _ (join to (crate_file krate.iv.now.name krate.iv.now.version)) told call (below to (crate_file krate.iv.now.name krate.iv.now.version) itself) h
crates_within to (krate ∷ krates) told call (inr h) = crates_within to krates told call h

pub insert_within : (to : List ℕ) (host : Host) (versions : List IndexVersion) (krates : List ValidKrate) (told : List ℕ) (call : FailedCall)
    → IsInsertCall host to versions krates told call → IsWithin to told
insert_within to host versions krates told call (inl h) =
    on_within to _ (index_file (index_of to) (first_name versions)) told call (below (index_of to) (relative_path (separator None) (first_name versions)) (index_within to)) h
insert_within to host versions krates told call (inr (free, inl h)) =
    told_at to (index_file (index_of to) (first_name versions)) told h.0 (below (index_of to) (relative_path (separator None) (first_name versions)) (index_within to))
insert_within to host versions krates told call (inr (free, inr (inl h))) =
    on_within to _ (index_file (index_of to) (first_name versions)) told call (below (index_of to) (relative_path (separator None) (first_name versions)) (index_within to)) h
insert_within to host versions krates told call (inr (free, inr (inr h))) = crates_within to krates told call h
