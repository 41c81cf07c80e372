-- What is put before the files in memory counts before what was there.
use Rattle.std.proofs.Common.{◌≡◌, ◌≢◌, ◌==◌, ℕ, zero, suc, ◌+◌, ◌<◌, subst, List, [], ◌∷◌, ◌++◌, length, take, drop, get_or, Bool, true, false, cond, Some, None, refl, sym, ap, ◌∙◌, arith}
use Rattle.std.proofs.Math.Dec.{eqb-suc-zero}
use Rattle.std.proofs.lemmas.Slice.Eq.{bytes_eq-Decides}
use Rattle.std.specs.Prelude.{bytes_eq}
use Rattle.tame_names.specs.Changes.{AreFolders, is_folder, with_entry, with_folder_at, with_folders_at, with_gain}
use Rattle.tame_names.specs.MemoryFiles.{file_at, standing_in, standing_of}
use Rattle.tame_names.specs.Paths.{is_same, parent, plain_path, way_to, ways_from, ways_to}
use Rattle.tame_names.specs.Standing.{Standing, Nothing, File, Folder, Other, listing}
use Rattle.tame_names.specs.declared.host.Listed.{Listed}
use Rattle.tame_names.specs.declared.memory_nodes.MemFile.{MemFile}
use Rattle.tame_names.specs.declared.memory_nodes.MemNode.TheVariants as node

file_at-plain : (files : List MemFile) (p q : List ℕ) → plain_path p ≡ plain_path q → file_at files p ≡ file_at files q
file_at-plain [] p q same = refl
file_at-plain (file ∷ files) p q same =
    ap (λ x. cond (bytes_eq (plain_path file.path) x) (Some file) (file_at files p)) same
    ∙ ap (λ rest. cond (bytes_eq (plain_path file.path) (plain_path q)) (Some file) rest) (file_at-plain files p q same)

-- at paths that are the same, the same is there
pub stands_same : (files : List MemFile) (p q : List ℕ) → is_same p q ≡ true → standing_in files p ≡ standing_in files q
stands_same files p q same =
    ap standing_of (file_at-plain files p q ((bytes_eq-Decides (plain_path p) (plain_path q)).0 same))

no_folder : (s : Standing) (e : Listed) → listing s ≡ None → with_entry e s ≡ s
no_folder Nothing e none = refl
no_folder (File bytes) e none = refl
no_folder (Folder entries) e none = cc
no_folder Other e none = refl

folder_more : (s : Standing) (entries : List Listed) (e : Listed) → listing s ≡ Some entries → with_entry e s ≡ Folder (entries ++ e ∷ [])
folder_more Nothing entries e some = cc
folder_more (File bytes) entries e some = cc
folder_more (Folder others) entries e some =
    let same : others ≡ entries = cc in
    ap (λ es. Folder (es ++ e ∷ [])) same
folder_more Other entries e some = cc

unlisted_case : (t : Bool) (files : List MemFile) (folder q : List ℕ) (e : Listed) → is_same folder q ≡ t → listing (standing_in files folder) ≡ None
    → standing_in files q ≡ cond t (with_entry e (standing_in files q)) (standing_in files q)
unlisted_case true files folder q e same none =
    sym (no_folder (standing_in files q) e (sym (ap listing (stands_same files folder q same)) ∙ none))
unlisted_case false files folder q e same none = refl

-- what is no folder gains nothing
pub gains_nothing : (files : List MemFile) (path folder : List ℕ) (e : Listed) → parent path ≡ Some folder → listing (standing_in files folder) ≡ None
    → (q : List ℕ) → standing_in files q ≡ with_gain path e (standing_in files) q
gains_nothing files path folder e within none q = rw within (unlisted_case (is_same folder q) files folder q e refl none)

listed_case : (t : Bool) (files : List MemFile) (folder q : List ℕ) (entries : List Listed) (e : Listed) → is_same folder q ≡ t → listing (standing_in files folder) ≡ Some entries
    → standing_of (cond t (Some (record { path = folder; node = node.Folder (entries ++ e ∷ []) })) (file_at files q))
    ≡ cond t (with_entry e (standing_in files q)) (standing_in files q)
listed_case true files folder q entries e same some =
    sym (folder_more (standing_in files q) entries e (sym (ap listing (stands_same files folder q same)) ∙ some))
listed_case false files folder q entries e same some = refl

-- a folder gains an entry
pub gains_entry : (files : List MemFile) (path folder : List ℕ) (entries : List Listed) (e : Listed) → parent path ≡ Some folder → listing (standing_in files folder) ≡ Some entries
    → (q : List ℕ) → standing_in (record { path = folder; node = node.Folder (entries ++ e ∷ []) } ∷ files) q ≡ with_gain path e (standing_in files) q
gains_entry files path folder entries e within some q =
    rw within (listed_case (is_same folder q) files folder q entries e refl some)

-- one folder more
pub with_folders-more : (paths : List (List ℕ)) (i : ℕ) (d : List ℕ) (stands : List ℕ → Standing) → i < length paths
    → with_folders_at (take (suc i) paths) stands ≡ with_folder_at (get_or paths i d) (with_folders_at (take i paths) stands)
with_folders-more [] i d stands low = absurd (omega (arith, low))
with_folders-more (p ∷ ps) zero d stands low = refl
with_folders-more (p ∷ ps) (suc i) d stands low = with_folders-more ps i d (with_folder_at p stands) (omega (arith, low))

pub more_folders : (paths : List (List ℕ)) (i : ℕ) (path : List ℕ) (first before now : List ℕ → Standing) → i < length paths → path ≡ get_or paths i path
    → before ≡ with_folders_at (take i paths) first → now ≡ with_folder_at path before → now ≡ with_folders_at (take (i + 1) paths) first
more_folders paths i path first before now low is so_far made =
    let next : suc i ≡ i + 1 = omega arith in
    made ∙ ap (with_folder_at path) so_far ∙ ap (λ p. with_folder_at p (with_folders_at (take i paths) first)) is
    ∙ sym (with_folders-more paths i path first low) ∙ ap (λ n. with_folders_at (take n paths) first) next

-- if folders are there or can be created, this holds of those that are left
pub folders_left : (paths : List (List ℕ)) (i : ℕ) (path : List ℕ) (before now : List ℕ → Standing) → i < length paths → path ≡ get_or paths i path
    → now ≡ with_folder_at path before → AreFolders (drop i paths) before → AreFolders (drop (suc i) paths) now
folders_left [] i path before now low is made can = absurd (omega (arith, low))
folders_left (p ∷ ps) zero path before now low is made can =
    subst (AreFolders ps) (sym (made ∙ ap (λ q. with_folder_at q before) is)) can.1
folders_left (p ∷ ps) (suc i) path before now low is made can = folders_left ps i path before now (omega (arith, low)) is made can

-- ---- folders that are there or were created

were_more : (paths : List (List ℕ)) (i : ℕ) (d : List ℕ) (stands : List ℕ → Standing) → i < length paths → AreFolders (take i paths) stands
    → is_folder (with_folder_at (get_or paths i d) (with_folders_at (take i paths) stands) (get_or paths i d)) ≡ true → AreFolders (take (suc i) paths) stands
were_more [] i d stands low all is = absurd (omega (arith, low))
were_more (p ∷ ps) zero d stands low all is = (is, tt)
were_more (p ∷ ps) (suc i) d stands low all is = (all.0, were_more ps i d (with_folder_at p stands) (omega (arith, low)) all.1 is)

-- one folder more was there or was created
pub folders_were : (paths : List (List ℕ)) (i : ℕ) (path : List ℕ) (first before : List ℕ → Standing) → i < length paths → path ≡ get_or paths i path
    → before ≡ with_folders_at (take i paths) first → is_folder (with_folder_at path before path) ≡ true → AreFolders (take i paths) first
    → AreFolders (take (i + 1) paths) first
folders_were paths i path first before low is so_far there all =
    let next : suc i ≡ i + 1 = omega arith in
    let same : is_folder (with_folder_at (get_or paths i path) (with_folders_at (take i paths) first) (get_or paths i path)) ≡ true =
    sym (ap (λ stands. is_folder (with_folder_at path stands path)) so_far ∙ ap (λ p. is_folder (with_folder_at p (with_folders_at (take i paths) first) p)) is) ∙ there in
    subst (λ n. AreFolders (take n paths) first) next (were_more paths i path first low all same)

last_there : (paths : List (List ℕ)) (path : List ℕ) (stands : List ℕ → Standing) → AreFolders (paths ++ path ∷ []) stands
    → is_folder (with_folders_at (paths ++ path ∷ []) stands path) ≡ true
last_there [] path stands all = all.0
last_there (p ∷ ps) path stands all = last_there ps path (with_folder_at p stands) all.1

last_way : (at : ℕ) (path rest : List ℕ) → path ≢ [] → (front : List (List ℕ)) × (ways_from at path rest ≡ front ++ path ∷ [])
last_way at [] [] some = absurd (some refl)
last_way at (b ∷ bs) [] some = ([], rw (eqb-suc-zero (length bs)) refl)
last_way at path (c ∷ cs) some = way_case (c == 47) (way_to at path) (last_way (suc at) path cs some)
  where
    way_case : (t : Bool) (way : List ℕ) {path : List ℕ} {ways : List (List ℕ)} → (front : List (List ℕ)) × (ways ≡ front ++ path ∷ [])
        → (front : List (List ℕ)) × (cond t (way ∷ ways) ways ≡ front ++ path ∷ [])
    way_case true way h = (way ∷ h.0, ap (λ ws. way ∷ ws) h.1)
    way_case false way h = h

-- if those on the way to a path are folders or can be created, a folder is there then
pub folder_there : (path : List ℕ) (before now : List ℕ → Standing) → AreFolders (ways_to path) before → now ≡ with_folders_at (ways_to path) before
    → path ≢ [] → is_folder (now path) ≡ true
folder_there path before now all made some =
    let last = last_way 0 path path some in
    ap (λ stands. is_folder (stands path)) (made ∙ ap (λ ways. with_folders_at ways before) last.1)
    ∙ last_there last.0 path before (subst (λ ways. AreFolders ways before) last.1 all)
