-- Which files a host has after changes.
use Rattle.std.proofs.Common.{◌≡◌, ℕ, ◌+◌, List, [], ◌∷◌, ◌++◌, length, Bool, true, false, cond, Option, Some, None, refl, sym, ap, ◌∙◌, add_assoc, zero-add}
use Rattle.tame_names.specs.Changes.{entry_of, is_nothing, is_path_of, with_entry, with_file, with_folder_at, with_folders, with_folders_at, with_standing}
use Rattle.tame_names.specs.Paths.{is_same, parent, ways_to}
use Rattle.tame_names.specs.Standing.{Host, Standing, Nothing, File, Folder, Other}
use Rattle.tame_names.specs.declared.host.Listed.{Listed}
use Rattle.tame_local.specs.Builders.{HostChange, Makes, Creates, after, size_of}
use Rattle.tame_local.specs.Inserts.{StandsPlain}
use Rattle.tame_local.proofs.Standings.{plain_kept}

-- the bytes of a file
abbrev pub bytes_in : Standing → Option (List ℕ)
bytes_in (File bytes) = Some bytes
bytes_in _ = None

pub file_in : (s : Standing) (bytes : List ℕ) → bytes_in s ≡ Some bytes → s ≡ File bytes
file_in Nothing bytes h = cc
file_in (File bs) bytes h = cc
file_in (Folder es) bytes h = cc
file_in Other bytes h = cc

-- ---- one change

entry_bytes : (e : Listed) (s : Standing) → bytes_in (with_entry e s) ≡ bytes_in s
entry_bytes e Nothing = refl
entry_bytes e (File bs) = refl
entry_bytes e (Folder es) = refl
entry_bytes e Other = refl

gain_bytes : (nothing within : Bool) (e : Listed) (s : Standing) → bytes_in (cond nothing (cond within (with_entry e s) s) s) ≡ bytes_in s
gain_bytes true true e s = entry_bytes e s
gain_bytes true false e s = refl
gain_bytes false within e s = refl

standing_bytes : (same nothing within : Bool) (new : Standing) (e : Listed) (s : Standing)
    → bytes_in (cond same new (cond nothing (cond within (with_entry e s) s) s)) ≡ cond same (bytes_in new) (bytes_in s)
standing_bytes true nothing within new e s = refl
standing_bytes false nothing within new e s = gain_bytes nothing within e s

with_bytes : (p : List ℕ) (new : Standing) (stands : List ℕ → Standing) (q : List ℕ)
    → bytes_in (with_standing p new stands q) ≡ cond (is_same p q) (bytes_in new) (bytes_in (stands q))
with_bytes p new stands q =
    standing_bytes (is_same p q) (is_nothing (stands p)) (is_path_of (parent p) q) new (entry_of p new) (stands q)

nothing_bytes : (s : Standing) → is_nothing s ≡ true → bytes_in s ≡ None
nothing_bytes Nothing h = refl
nothing_bytes (File bs) h = cc
nothing_bytes (Folder es) h = refl
nothing_bytes Other h = refl

-- a folder that is created is no file
folder_bytes : (w : List ℕ) (stands : List ℕ → Standing) (q : List ℕ) → StandsPlain stands → bytes_in (with_folder_at w stands q) ≡ bytes_in (stands q)
folder_bytes w stands q plain = made_case (is_nothing (stands w)) refl
  where
    same_case : (t : Bool) → is_same w q ≡ t → is_nothing (stands w) ≡ true → cond t None (bytes_in (stands q)) ≡ bytes_in (stands q)
    same_case true same none = sym (ap bytes_in (sym (plain w q same)) ∙ nothing_bytes (stands w) none)
    same_case false other none = refl

    made_case : (t : Bool) → is_nothing (stands w) ≡ t → bytes_in (cond t (with_standing w (Folder []) stands) stands q) ≡ bytes_in (stands q)
    made_case true none = with_bytes w (Folder []) stands q ∙ same_case (is_same w q) refl none
    made_case false some = refl

made_plain : (t : Bool) (w : List ℕ) (stands : List ℕ → Standing) → StandsPlain stands → StandsPlain (cond t (with_standing w (Folder []) stands) stands)
made_plain true w stands plain = plain_kept w (Folder []) stands plain
made_plain false w stands plain = plain

pub folders_plain : (ws : List (List ℕ)) (stands : List ℕ → Standing) → StandsPlain stands → StandsPlain (with_folders_at ws stands)
folders_plain [] stands plain = plain
folders_plain (w ∷ ws) stands plain = folders_plain ws (with_folder_at w stands) (made_plain (is_nothing (stands w)) w stands plain)

folders_bytes : (ws : List (List ℕ)) (stands : List ℕ → Standing) (q : List ℕ) → StandsPlain stands → bytes_in (with_folders_at ws stands q) ≡ bytes_in (stands q)
folders_bytes [] stands q plain = refl
folders_bytes (w ∷ ws) stands q plain =
    folders_bytes ws (with_folder_at w stands) q (made_plain (is_nothing (stands w)) w stands plain) ∙ folder_bytes w stands q plain

-- ---- changes one after the other

-- the bytes of the last file that is created at a path, or what was there
abbrev pub last_at : List HostChange → List ℕ → Option (List ℕ) → Option (List ℕ)
last_at [] q s = s
last_at (Makes folder ∷ cs) q s = last_at cs q s
last_at (Creates p bytes ∷ cs) q s = last_at cs q (cond (is_same p q) (Some bytes) s)

pub after_bytes : (cs : List HostChange) (host : Host) (q : List ℕ) → StandsPlain host.stands → bytes_in ((after cs host).stands q) ≡ last_at cs q (bytes_in (host.stands q))
after_bytes [] host q plain = refl
after_bytes (Makes folder ∷ cs) host q plain =
    after_bytes cs (with_folders (ways_to folder) host) q (folders_plain (ways_to folder) host.stands plain)
    ∙ ap (last_at cs q) (folders_bytes (ways_to folder) host.stands q plain)
after_bytes (Creates p bytes ∷ cs) host q plain =
    after_bytes cs (with_file p bytes host) q (plain_kept p (File bytes) host.stands plain)
    ∙ ap (last_at cs q) (with_bytes p (File bytes) host.stands q)

pub last_append : (bs cs : List HostChange) (q : List ℕ) (s : Option (List ℕ)) → last_at (bs ++ cs) q s ≡ last_at cs q (last_at bs q s)
last_append [] cs q s = refl
last_append (Makes folder ∷ bs) cs q s = last_append bs cs q s
last_append (Creates p bytes ∷ bs) cs q s = last_append bs cs q (cond (is_same p q) (Some bytes) s)

pub after_append : (bs cs : List HostChange) (host : Host) → after (bs ++ cs) host ≡ after cs (after bs host)
after_append [] cs host = refl
after_append (Makes folder ∷ bs) cs host = after_append bs cs (with_folders (ways_to folder) host)
after_append (Creates p bytes ∷ bs) cs host = after_append bs cs (with_file p bytes host)

pub size_append : (bs cs : List HostChange) → size_of (bs ++ cs) ≡ size_of bs + size_of cs
size_append [] cs = sym (zero-add (size_of cs))
size_append (Makes folder ∷ bs) cs = size_append bs cs
size_append (Creates p bytes ∷ bs) cs = ap (λ n. length bytes + n) (size_append bs cs) ∙ sym (add_assoc (length bytes) (size_of bs) (size_of cs))
