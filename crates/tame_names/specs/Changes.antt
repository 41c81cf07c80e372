-- How a call that writes changes what a host has (this project).
use Rattle.std.specs.Prelude.{◌≡◌, ℕ, List, [], ◌∷◌, ◌++◌, take, Bool, true, false, ◌⊎◌, Option, Some, None, if◌then◌else◌, Result, Ok, Err}
use Rattle.tame_names.specs.Paths.{file_name, is_same, parent, ways_to}
use Rattle.tame_names.specs.Standing.{Host, Standing, Nothing, File, Folder}
use Rattle.tame_names.specs.declared.host.Listed.{Listed}

-- ---- one path

abbrev pub is_nothing : Standing → Bool
is_nothing Nothing = true
is_nothing _ = false

abbrev pub is_file : Standing → Bool
is_file (File bytes) = true
is_file _ = false

abbrev pub is_folder : Standing → Bool
is_folder (Folder entries) = true
is_folder _ = false

-- a path is that of a folder
abbrev pub is_path_of : Option (List ℕ) → List ℕ → Bool
is_path_of None path = false
is_path_of (Some folder) path = is_same folder path

-- the entry of what was added at a path
abbrev pub entry_of : List ℕ → Standing → Listed
entry_of path new = record { name = Some (file_name path); file = is_file new }

-- a folder with one entry more; nothing else has entries
abbrev pub with_entry : Listed → Standing → Standing
with_entry entry (Folder entries) = Folder (entries ++ entry ∷ [])
with_entry entry standing = standing

-- what is at each path once the folder that a path is in has its entry
abbrev pub with_gain : List ℕ → Listed → (List ℕ → Standing) → List ℕ → Standing
with_gain path entry stands q =
    if is_path_of (parent path) q then with_entry entry (stands q) else stands q

abbrev pub with_gain_if : Bool → List ℕ → Listed → (List ℕ → Standing) → List ℕ → Standing
with_gain_if new path entry stands q = if new then with_gain path entry stands q else stands q

-- what is at each path once this is at one of them: if nothing was there, the folder that it is in
-- gains its entry
abbrev pub with_standing : List ℕ → Standing → (List ℕ → Standing) → List ℕ → Standing
with_standing path new stands q =
    if is_same path q then new
    else with_gain_if (is_nothing (stands path)) path (entry_of path new) stands q

-- ---- a file, and folders

-- a host in which a file with these bytes is at a path
abbrev pub with_file : List ℕ → List ℕ → Host → Host
with_file path bytes host = record host { stands = with_standing path (File bytes) host.stands }

-- with an empty folder at a path, if nothing was there
abbrev pub with_folder_at : List ℕ → (List ℕ → Standing) → List ℕ → Standing
with_folder_at path stands =
    if is_nothing (stands path) then with_standing path (Folder []) stands else stands

-- with folders at these paths, one after the other
abbrev pub with_folders_at : List (List ℕ) → (List ℕ → Standing) → List ℕ → Standing
with_folders_at [] stands = stands
with_folders_at (path ∷ paths) stands = with_folders_at paths (with_folder_at path stands)

abbrev pub with_folders : List (List ℕ) → Host → Host
with_folders paths host = record host { stands = with_folders_at paths host.stands }

-- ---- calls

-- a file can be created at a path: nothing is there, and the folder that it is in is there, or is
-- the current one
abbrev pub can_hold : Option (List ℕ) → (List ℕ → Standing) → Bool
can_hold None stands = false
can_hold (Some []) stands = true
can_hold (Some (b ∷ bs)) stands = is_folder (stands (b ∷ bs))

abbrev pub can_create : List ℕ → (List ℕ → Standing) → Bool
can_create path stands =
    if is_nothing (stands path) then can_hold (parent path) stands else false

-- a call that creates a file, if one can be created: all of it, or after a fault nothing or a part
-- from its front; if none can be created it fails, and nothing changes
abbrev pub Creates : {E : Type 0} → List ℕ → List ℕ → Host → Host → Result Unit E → Type 0
Creates path bytes before now (Ok done) =
    (can_create path before.stands ≡ true) × (now ≡ with_file path bytes before)
Creates path bytes before now (Err fault) =
    (now ≡ before) ⊎ ((can_create path before.stands ≡ true)
    × ((n : ℕ) × (now ≡ with_file path (take n bytes) before)))

-- a call that creates the folder at a path and the missing ones on the way to it, or after a fault
-- the first few of them
abbrev pub MakesFolders : {E : Type 0} → List ℕ → Host → Host → Result Unit E → Type 0
MakesFolders path before now (Ok done) = now ≡ with_folders (ways_to path) before
MakesFolders path before now (Err fault) =
    (n : ℕ) × (now ≡ with_folders (take n (ways_to path)) before)

-- every folder on the way to a path is there or can be created
abbrev pub AreFolders : List (List ℕ) → (List ℕ → Standing) → Type 0
AreFolders [] stands = Unit {0}
AreFolders (path ∷ paths) stands =
    (is_folder (with_folder_at path stands path) ≡ true)
    × AreFolders paths (with_folder_at path stands)
