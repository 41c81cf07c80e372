-- Each call of a local registry and its builder is one on the reported path, or on its folder.
use Rattle.std.proofs.Common.{◌∷◌, [], inl, inr, ℕ, Bool, List, Option, Some, None, unwrap_or, sym, ap, ◌∙◌}
use Rattle.tame_names.specs.Paths.{parent}
use Rattle.tame_names.specs.Standing.{Host}
use Rattle.tame_names.specs.declared.host.FailedCall.{FailedCall}
use Rattle.tame_names.specs.declared.host.FileCall.{FileCall}
use Rattle.tame_records.specs.declared.versions.IndexVersion.{IndexVersion}
use Rattle.tame_sparse.specs.Git.{first_name}
use Rattle.tame_local.specs.Builders.{HostChange, Creates, Makes, inserted}
use Rattle.tame_local.specs.Calls.{IsCallFor, IsCallIfParts, IsCallOn, IsCreatesCall, IsFilesCall, IsInsertCall, IsListingCall, IsRegistryCall, IsValidateCall, IsWriteCall}
use Rattle.tame_local.specs.CrateFiles.{components}
use Rattle.tame_local.specs.Registries.{index_file, index_of}
use Rattle.tame_local.specs.declared.digests.ValidKrate.{ValidKrate}

on_for : (name : FileCall) (path told : List ℕ) (call : FailedCall) → IsCallOn name path told call → IsCallFor told call
on_for name path told call h = inl (ap (λ c. c.path) h.1 ∙ sym (ap Some h.0))

listing_for : (host : Host) (folder told : List ℕ) (call : FailedCall) → IsListingCall host folder told call → IsCallFor told call
listing_for host folder told call (inl h) = on_for _ folder told call h
listing_for host folder told call (inr h) = on_for _ folder told call h.1

parts_for : (host : Host) (index path : List ℕ) (parts : Option (List ℕ × List ℕ)) (told : List ℕ) (call : FailedCall) → IsCallIfParts host index path parts told call → IsCallFor told call
parts_for host index path None told call h = absurd h
parts_for host index path (Some parts) told call (inl h) = on_for _ _ told call h
parts_for host index path (Some parts) told call (inr h) = on_for _ path told call h.2

files_for : (host : Host) (index folder : List ℕ) (files : List (List ℕ)) (told : List ℕ) (call : FailedCall) → IsFilesCall host index folder files told call → IsCallFor told call
files_for host index folder [] told call h = absurd h
files_for host index folder (file ∷ files) told call (inl h) = parts_for host index _ (components file) told call h
files_for host index folder (file ∷ files) told call (inr h) = files_for host index folder files told call h.1

pub validate_for : (host : Host) (index told : List ℕ) (call : FailedCall) → IsValidateCall host index told call → IsCallFor told call
validate_for host index told call (inl h) = listing_for host _ told call h
validate_for host index told call (inr h) = files_for host index _ _ told call h.2

pub registry_for : (host : Host) (registry : List ℕ) (validate : Bool) (told : List ℕ) (call : FailedCall) → IsRegistryCall host registry validate told call → IsCallFor told call
registry_for host registry validate told call (inl h) = on_for _ _ told call h
registry_for host registry validate told call (inr h) = validate_for host _ told call h.1

creates_for : (changes : List HostChange) (told : List ℕ) (call : FailedCall) → IsCreatesCall changes told call → IsCallFor told call
creates_for [] told call h = absurd h
creates_for (Makes folder ∷ changes) told call h = creates_for changes told call h
creates_for (Creates path bytes ∷ changes) told call (inl h) = on_for _ path told call h
creates_for (Creates path bytes ∷ changes) told call (inr h) = creates_for changes told call h

write_for : (file : List ℕ) (changes : List HostChange) (told : List ℕ) (call : FailedCall) → IsWriteCall file changes told call → IsCallFor told call
write_for file changes told call (inl h) = inr (ap (λ c. c.path) h.1 ∙ ap (λ p. Some (unwrap_or (parent p) [])) (sym h.0))
write_for file changes told call (inr h) = creates_for changes told call h

pub insert_for : (host : Host) (registry : List ℕ) (versions : List IndexVersion) (krates : List ValidKrate) (told : List ℕ) (call : FailedCall)
    → IsInsertCall host registry versions krates told call → IsCallFor told call
insert_for host registry versions krates told call (inl h) = on_for _ _ told call h
insert_for host registry versions krates told call (inr h) =
    write_for (index_file (index_of registry) (first_name versions)) (inserted registry (first_name versions) versions krates) told call h.1
