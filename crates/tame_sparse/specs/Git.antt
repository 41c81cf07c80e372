-- What a git index stores: the lines of a crate's versions under a commit (Cargo Book, "Registry
-- Index", git protocol).
use Rattle.std.specs.Prelude.{ℕ, List, [], ◌∷◌, map, Option, Some, None}
use Rattle.tame_records.specs.declared.versions.IndexVersion.{IndexVersion}
use Rattle.tame_entry.specs.Entry.{Pair, version_pair}

-- the id under which an entry is stored: that of the blob, else that of the head
abbrev pub stored_id : Option (List ℕ) → Option (List ℕ) → Option (List ℕ)
stored_id (Some blob) head = Some blob
stored_id None head = head

-- the name of the first version
abbrev pub first_name : List IndexVersion → List ℕ
first_name [] = []
first_name (v ∷ vs) = v.name

abbrev pub version_pairs : List IndexVersion → List Pair
version_pairs vs = map version_pair vs
