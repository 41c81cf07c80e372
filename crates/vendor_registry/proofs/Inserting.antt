-- What a builder did on one path, and on those that are left.
use Rattle.std.proofs.Common.{◌≡◌, ℕ, ◌+◌, ◌-◌, ◌^◌, ◌≤◌, ◌==◌, List, [], ◌∷◌, ◌++◌, length, map, drop, IsTrue, Bool, true, false, cond, Option, Some, None, Result, Ok, Err, refl, sym, ap, ◌∙◌, subst, arith}
use Rattle.std.specs.Prelude.{min, unwrap_or}
use Rattle.std.proofs.lemmas.Bool.{false≢true}
use Rattle.std.proofs.lemmas.List.{drop_all}
use Rattle.std.proofs.lemmas.Slice.Eq.{bytes_eq-Decides}
use Rattle.tame_names.specs.Changes.{is_nothing}
use Rattle.tame_names.specs.Names.{NameRefusal, path, refusal_of, relative_path, separator}
use Rattle.tame_names.specs.Paths.{join, parent}
use Rattle.tame_names.specs.Standing.{Host, Standing, Nothing, File, Folder, Other}
use Rattle.tame_records.specs.Written.{json_lines}
use Rattle.tame_records.specs.declared.versions.IndexVersion.{IndexVersion}
use Rattle.tame_sparse.specs.Git.{first_name}
use Rattle.tame_local.specs.Builders.{Makes, Creates, absent_at, after, crates_made, free_at, insertable, inserted, size_of, written}
use Rattle.tame_local.specs.Inserts.{AreWritten}
use Rattle.tame_local.specs.Refusals.{NotAFolder, Occupied, LocalRefusal, and_then, is_told}
use Rattle.tame_local.specs.Refusals.{refused as refused_by}
use Rattle.tame_names.specs.declared.errors.Error.{Error}
use Rattle.tame_names.specs.declared.errors.Error.TheVariants as error
use Rattle.tame_names.specs.declared.errors.IoKind.TheVariants as io_kind
use Rattle.tame_local.specs.Registries.{index_file, index_of, named_unless}
use Rattle.tame_local.specs.declared.digests.ValidKrate.{ValidKrate}
use Rattle.vendor_registry.proofs.Changed.{after_append, size_append}
use Rattle.vendor_registry.proofs.Facts.{path_of_name}
use Rattle.vendor_registry.specs.Built.{IsFilled, IsTakenAt, crate_made, free_fault, path_made, paths_made}
use Rattle.vendor_registry.specs.Named.{ArePathed}
use Rattle.vendor_registry.specs.Vendored.{is_on, on}
use Rattle.vendor_registry.specs.declared.checks.CheckedCrate.{CheckedCrate}
use Rattle.vendor_registry.specs.declared.faults.VendorFault.TheVariants as fault

-- ---- one path

abbrev ArePathedOn : List ℕ → List CheckedCrate → Type 0
ArePathedOn q [] = Unit {0}
ArePathedOn q (c ∷ cs) = (path c.version.name ≡ Some c.path) × (c.path ≡ q) × ArePathedOn q cs

on_case : (t : Bool) (q : List ℕ) (c : CheckedCrate) (cs : List CheckedCrate) → is_on q c ≡ t → path c.version.name ≡ Some c.path → ArePathedOn q cs → ArePathedOn q (cond t (c ∷ cs) cs)
on_case true q c cs is named all = (named, (bytes_eq-Decides c.path q).0 is, all)
on_case false q c cs is named all = all

pathed_on : (q : List ℕ) (cs : List CheckedCrate) → ArePathed cs → ArePathedOn q (on q cs)
pathed_on q [] all = tt
pathed_on q (c ∷ cs) all = on_case (is_on q c) q c (on q cs) refl all.0 (pathed_on q cs all.1)

inserted_at : (folder q : List ℕ) (cs : List CheckedCrate) (vs : List IndexVersion) (ks : List ValidKrate) → ArePathedOn q cs → vs ≡ map (λ (c : CheckedCrate). c.version) cs
    → (length vs == 0) ≡ false → crates_made folder ks ≡ map (crate_made folder) cs → inserted folder (first_name vs) vs ks ≡ path_made folder q cs
inserted_at folder q [] vs ks are is some crates =
    absurd (false≢true (sym some ∙ ap (λ (ws : List IndexVersion). length ws == 0) is))
inserted_at folder q (c ∷ cs) vs ks are is some crates =
    let file : List ℕ = join (index_of folder) q in
    let lines : List ℕ = json_lines (map (λ (d : CheckedCrate). d.version) (c ∷ cs)) in
    let relative : relative_path (separator None) c.version.name ≡ q = (path_of_name c.version.name c.path are.0).1 ∙ are.1 in
    let file_is : index_file (index_of folder) (first_name vs) ≡ file =
    ap (λ (ws : List IndexVersion). index_file (index_of folder) (first_name ws)) is ∙ ap (join (index_of folder)) relative in
    ap (λ f. written folder f (json_lines vs) ks) file_is ∙ ap (λ (ws : List IndexVersion). written folder file (json_lines ws) ks) is
    ∙ ap (λ more. Makes (unwrap_or (parent file) []) ∷ Creates file lines ∷ more) crates

pub inserted_is : (folder q : List ℕ) (all : List CheckedCrate) (vs : List IndexVersion) (ks : List ValidKrate) → ArePathed all → vs ≡ map (λ (c : CheckedCrate). c.version) (on q all)
    → (length vs == 0) ≡ false → crates_made folder ks ≡ map (crate_made folder) (on q all) → inserted folder (first_name vs) vs ks ≡ path_made folder q (on q all)
inserted_is folder q all vs ks pathed is some crates = inserted_at folder q (on q all) vs ks (pathed_on q all pathed) is some crates

-- ---- an index file that is absent

absent_there : (o : Option NameRefusal) (p : List ℕ) (s : Standing) → and_then (λ named. absent_at p s) (named_unless o) ≡ Ok tt → s ≡ Nothing
absent_there None p Nothing h = refl
absent_there None p (File bs) h = cc
absent_there None p (Folder es) h = cc
absent_there None p Other h = cc
absent_there (Some why) p s h = cc

filled_at : (folder q : List ℕ) (cs : List CheckedCrate) (vs : List IndexVersion) (host : Host) → ArePathedOn q cs → vs ≡ map (λ (c : CheckedCrate). c.version) cs
    → AreWritten vs → insertable folder (first_name vs) host ≡ Ok tt → IsFilled folder q cs host
filled_at folder q [] vs host are is written can = tt
filled_at folder q (c ∷ cs) vs host are is written can =
    let name : List ℕ = first_name vs in
    let relative : relative_path (separator None) c.version.name ≡ q = (path_of_name c.version.name c.path are.0).1 ∙ are.1 in
    let file_is : index_file (index_of folder) name ≡ join (index_of folder) q =
    ap (λ (ws : List IndexVersion). index_file (index_of folder) (first_name ws)) is ∙ ap (join (index_of folder)) relative in (
      ap host.stands (sym file_is) ∙ absent_there (refusal_of name) (index_file (index_of folder) name) (host.stands (index_file (index_of folder) name)) can,
      subst AreWritten is written,
    )

pub filled_is : (folder q : List ℕ) (all : List CheckedCrate) (vs : List IndexVersion) (host : Host) → ArePathed all → vs ≡ map (λ (c : CheckedCrate). c.version) (on q all)
    → AreWritten vs → insertable folder (first_name vs) host ≡ Ok tt → IsFilled folder q (on q all) host
filled_is folder q all vs host pathed is written can = filled_at folder q (on q all) vs host (pathed_on q all pathed) is written can

absent_some : (o : Option NameRefusal) (p : List ℕ) (s : Standing) (n : ℕ) (q : List ℕ) → and_then (λ named. absent_at p s) (named_unless o) ≡ Err (Occupied n q) → is_nothing s ≡ false
absent_some None p Nothing n q h = cc
absent_some None p (File bs) n q h = refl
absent_some None p (Folder es) n q h = refl
absent_some None p Other n q h = refl
absent_some (Some why) p s n q h = cc

taken_at : (folder q : List ℕ) (cs : List CheckedCrate) (vs : List IndexVersion) (host : Host) (n : ℕ) (p : List ℕ) → ArePathedOn q cs → vs ≡ map (λ (c : CheckedCrate). c.version) cs
    → (length vs == 0) ≡ false → insertable folder (first_name vs) host ≡ Err (Occupied n p) → IsTakenAt folder q cs host
taken_at folder q [] vs host n p are is some taken =
    absurd (false≢true (sym some ∙ ap (λ (ws : List IndexVersion). length ws == 0) is))
taken_at folder q (c ∷ cs) vs host n p are is some taken =
    let name : List ℕ = first_name vs in
    let relative : relative_path (separator None) c.version.name ≡ q = (path_of_name c.version.name c.path are.0).1 ∙ are.1 in
    let file_is : index_file (index_of folder) name ≡ join (index_of folder) q =
    ap (λ (ws : List IndexVersion). index_file (index_of folder) (first_name ws)) is ∙ ap (join (index_of folder)) relative in
    ap (λ x. is_nothing (host.stands x)) (sym file_is)
    ∙ absent_some (refusal_of name) (index_file (index_of folder) name) (host.stands (index_file (index_of folder) name)) n p taken

pub taken_is : (folder q : List ℕ) (all : List CheckedCrate) (vs : List IndexVersion) (host : Host) (n : ℕ) (p : List ℕ) → ArePathed all → vs ≡ map (λ (c : CheckedCrate). c.version) (on q all)
    → (length vs == 0) ≡ false → insertable folder (first_name vs) host ≡ Err (Occupied n p) → IsTakenAt folder q (on q all) host
taken_is folder q all vs host n p pathed is some taken = taken_at folder q (on q all) vs host n p (pathed_on q all pathed) is some taken

pub written_more : (vs : List IndexVersion) (v : IndexVersion) → AreWritten vs → AreWritten (v ∷ []) → AreWritten (vs ++ v ∷ [])
written_more [] v all is = is
written_more (w ∷ ws) v all is = (all.0, all.1, written_more ws v all.2 is)

-- ---- refusals

-- the number of a refusal
abbrev count_in : Result Unit LocalRefusal → ℕ
count_in (Err (Occupied n p)) = n
count_in r = 0

absent_one : (p : List ℕ) (s : Standing) (n : ℕ) (q : List ℕ) → absent_at p s ≡ Err (Occupied n q) → n ≡ 1
absent_one p Nothing n q h = cc
absent_one p (File bs) n q h = sym (ap count_in h)
absent_one p (Folder es) n q h = sym (ap count_in h)
absent_one p Other n q h = sym (ap count_in h)

name_case : (o : Option NameRefusal) (p : List ℕ) (s : Standing) (n : ℕ) (q : List ℕ) → and_then (λ named. absent_at p s) (named_unless o) ≡ Err (Occupied n q) → n ≡ 1
name_case None p s n q h = absent_one p s n q h
name_case (Some why) p s n q h = cc

-- a refusal that something is there already
pub told_occupied : (r : Result Unit LocalRefusal) (e : Error) (n : ℕ) (p : List ℕ) → e ≡ error.IoPath (io_kind.AlreadyExists n) p → (IsTrue (is_told e) → r ≡ Err (refused_by e))
    → r ≡ Err (Occupied n p)
told_occupied r e n p is h = (subst (λ x. IsTrue (is_told x) → r ≡ Err (refused_by x)) is h) refl

pub one_entry : (folder name : List ℕ) (host : Host) (n : ℕ) (q : List ℕ) → insertable folder name host ≡ Err (Occupied n q) → n ≡ 1
one_entry folder name host n q h =
    name_case (refusal_of name) (index_file (index_of folder) name) (host.stands (index_file (index_of folder) name)) n q h

pub not_empty : (p : List ℕ) (s : Standing) (n : ℕ) (q : List ℕ) → free_at p s ≡ Err (Occupied n q) → free_fault s ≡ Some (fault.NotEmpty n)
not_empty p Nothing n q h = cc
not_empty p (File bs) n q h = cc
not_empty p (Folder []) n q h = cc
not_empty p (Folder (e ∷ es)) n q h = ap (λ m. Some (fault.NotEmpty m)) (ap count_in h)
not_empty p Other n q h = cc

pub no_folder : (p : List ℕ) (s : Standing) (q : List ℕ) → free_at p s ≡ Err (NotAFolder q) → free_fault s ≡ Some fault.NotADirectory
no_folder p Nothing q h = cc
no_folder p (File bs) q h = refl
no_folder p (Folder []) q h = cc
no_folder p (Folder (e ∷ es)) q h = cc
no_folder p Other q h = refl

-- ---- paths that are left

pub made_more : (folder : List ℕ) (cs : List CheckedCrate) (q : List ℕ) (ps left : List (List ℕ)) (whole mid now : Host) → left ≡ q ∷ ps
    → whole ≡ after (paths_made folder cs left) mid → now ≡ after (path_made folder q (on q cs)) mid → whole ≡ after (paths_made folder cs ps) now
made_more folder cs q ps left whole mid now at so_far done =
    so_far ∙ ap (λ l. after (paths_made folder cs l) mid) at ∙ after_append (path_made folder q (on q cs)) (paths_made folder cs ps) mid
    ∙ ap (after (paths_made folder cs ps)) (sym done)

pub size_more : (folder : List ℕ) (cs : List CheckedCrate) (q : List ℕ) (ps left : List (List ℕ)) → left ≡ q ∷ ps
    → size_of (paths_made folder cs left) ≡ size_of (path_made folder q (on q cs)) + size_of (paths_made folder cs ps)
size_more folder cs q ps left at =
    ap (λ l. size_of (paths_made folder cs l)) at ∙ size_append (path_made folder q (on q cs)) (paths_made folder cs ps)

pub count_more : (all w n next a b l : ℕ) → min all (2 ^ 64 - 1) ≡ min (w + l) (2 ^ 64 - 1) → l ≡ a + b → n ≡ min a (2 ^ 64 - 1) → next ≡ min (w + n) (2 ^ 64 - 1)
    → min all (2 ^ 64 - 1) ≡ min (next + b) (2 ^ 64 - 1)
count_more all w n next a b l h k i j = omega (arith, h, k, i, j)

pub none_left : (ps : List (List ℕ)) (i : ℕ) → length ps ≤ i → drop i ps ≡ []
none_left ps i h = drop_all i ps h
