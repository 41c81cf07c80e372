-- A registry that is filled with what was checked still agrees with its index.
use Rattle.std.proofs.Common.{◌≡◌, ℕ, ◌+◌, ◌<◌, List, [], ◌∷◌, ◌++◌, length, map, codes, IsUtf8, IsTrue, is_ok, true, Some, None, Ok, sym, ap, ◌∙◌, arith, subst}
use Rattle.std.specs.Prelude.{unwrap_or}
use Rattle.std.proofs.lemmas.List.{length-append}
use Rattle.semver.specs.Parse.{version_parts}
use Rattle.tame_names.specs.Changes.{is_nothing, with_file, with_folders, with_standing}
use Rattle.tame_names.specs.Names.{is_name, prefix, relative_path, separator}
use Rattle.tame_names.specs.Paths.{join, parent, ways_to}
use Rattle.tame_names.specs.Standing.{Host, File}
use Rattle.tame_records.specs.Written.{json_lines}
use Rattle.tame_records.specs.declared.versions.IndexVersion.{IndexVersion}
use Rattle.tame_local.specs.Builders.{Makes, Creates, after}
use Rattle.tame_local.specs.CrateFiles.{Lacks, crate_file}
use Rattle.tame_local.specs.Digests.{has_digest}
use Rattle.tame_local.specs.Inserts.{AreWritten}
use Rattle.tame_local.specs.Registries.{index_of, records_in, sum_in}
use Rattle.tame_local.proofs.Agreed.{crate_is, file_is}
use Rattle.tame_local.proofs.Agreeing.{Agrees, Sound, crate_no_index, crate_sound, file_of, file_plain, file_unnamed, folders_sound, here, lower_long, lower_slashless, new_sound}
use Rattle.vendor_registry.proofs.Changed.{after_append}
use Rattle.tame_local.proofs.ReadBack.{records_back}
use Rattle.tame_local.proofs.RegistryPaths.{index_folder, lower, name_long, parent_behind}
use Rattle.tame_local.proofs.Standings.{file_stays, folders_nothing, ways_elsewhere}
use Rattle.vendor_registry.specs.Built.{AreFilled, IsFilled, crate_made, path_made, paths_made}
use Rattle.vendor_registry.specs.Named.{IsPlace}
use Rattle.vendor_registry.specs.Vendored.{on}
use Rattle.vendor_registry.specs.declared.checks.CheckedCrate.{CheckedCrate}

-- what was checked is on a path, and the first record of its version there has its checksum
pub record IsStocked (q : List ℕ) (vs : List IndexVersion) (c : CheckedCrate) : Type 0 where
  pub utf8 : IsUtf8 c.version.name
  pub named : IsTrue (is_name c.version.name)
  pub path_is : relative_path (separator None) c.version.name ≡ q
  pub version_is : IsTrue (is_ok (version_parts c.version.version))
  pub slashless : Lacks 47 c.version.version
  pub found : sum_in c.version.version vs ≡ Some c.version.checksum
  pub digest : has_digest c.bytes c.version.checksum.0 ≡ true

abbrev pub AreStocked : List ℕ → List IndexVersion → List CheckedCrate → Type 0
AreStocked q vs [] = Unit {0}
AreStocked q vs (c ∷ cs) = IsStocked q vs c × AreStocked q vs cs

-- the index file of what was checked
file_at : (r q : List ℕ) (vs : List IndexVersion) (c : CheckedCrate) → IsPlace r → IsStocked q vs c → join (index_of r) q ≡ file_of r c.version.name
file_at r q vs c place is = ap (join (index_of r)) (sym is.path_is) ∙ file_is r c.version.name place is.utf8 is.named

-- ---- crate files

crates_kept : (r q : List ℕ) (vs : List IndexVersion) (cs : List CheckedCrate) (host : Host) → IsPlace r → records_in (json_lines vs) ≡ Ok vs → AreStocked q vs cs → Sound r host.stands
    → host.stands (join (index_of r) q) ≡ File (json_lines vs) → Sound r (after (map (crate_made r) cs) host).stands
crates_kept r q vs [] host place read all sound index = sound
crates_kept r q vs (c ∷ cs) host place read all sound index =
    let is : IsStocked q vs c = all.0 in
    let name : List ℕ = c.version.name in
    let version : List ℕ = c.version.version in
    let lines : List ℕ = json_lines vs in
    let bytes : List ℕ = c.bytes in
    let file : join (index_of r) q ≡ file_of r name = file_at r q vs c place is in
    let path : List ℕ = r ++ 47 ∷ crate_file name version in
    let same : join r (crate_file name version) ≡ path = crate_is r name version place is.utf8 is.named is.slashless in
    let there : host.stands (file_of r name) ≡ File lines = ap host.stands (sym file) ∙ index in
    let agrees : Agrees lines version bytes = record { records = vs; sum = c.version.checksum; read = read; found = is.found; digest = is.digest } in
    let next : with_standing path (File bytes) host.stands (join (index_of r) q) ≡ File lines =
    ap (with_standing path (File bytes) host.stands) file
    ∙ file_stays path (File bytes) host.stands (file_of r name) lines (crate_no_index r name version name is.utf8 is.named is.slashless is.utf8 is.named) there in
    subst (λ p. Sound r (after (map (crate_made r) cs) (with_file p bytes host)).stands) (sym same)
    (crates_kept r q vs cs (with_file path bytes host) place read all.1
    (crate_sound r host.stands name version lines bytes sound is.utf8 is.named is.version_is is.slashless there agrees) next)

-- ---- a path

path_filled : (r q : List ℕ) (c : CheckedCrate) (cs : List CheckedCrate) (host : Host) → IsPlace r → AreStocked q (map (λ (d : CheckedCrate). d.version) (c ∷ cs)) (c ∷ cs)
    → AreWritten (map (λ (d : CheckedCrate). d.version) (c ∷ cs)) → is_nothing (host.stands (join (index_of r) q)) ≡ true → Sound r host.stands
    → Sound r (after (path_made r q (c ∷ cs)) host).stands
path_filled r q c cs host place all written none sound =
    let vs : List IndexVersion = map (λ (d : CheckedCrate). d.version) (c ∷ cs) in
    let is : IsStocked q vs c = all.0 in
    let name : List ℕ = c.version.name in
    let lines : List ℕ = json_lines vs in
    let folder : List ℕ = index_folder r name in
    let path : List ℕ = file_of r name in
    let file : join (index_of r) q ≡ path = file_at r q vs c place is in
    let last_lacks : Lacks 47 (lower name) = lower_slashless name is.utf8 is.named in
    let last_long : 0 < length (lower name) = lower_long name (name_long name is.named) in
    let size : length path ≡ length folder + length (47 ∷ lower name) = length-append folder (47 ∷ lower name) in
    let some : length folder ≡ length r + length (47 ∷ (codes "index" ++ 47 ∷ lower (prefix (47 ∷ []) name))) = length-append r (47 ∷ (codes "index" ++ 47 ∷ lower (prefix (47 ∷ []) name))) in
    let long : 0 < length folder = omega (arith, some) in
    let in_folder : unwrap_or (parent path) [] ≡ folder = ap (λ o. unwrap_or o []) (parent_behind folder (lower name) long last_lacks last_long) in
    let made : Host = with_folders (ways_to folder) host in
    let made_sound : Sound r made.stands = folders_sound r (ways_to folder) host.stands sound in
    let none_there : is_nothing (host.stands path) ≡ true = ap (λ p. is_nothing (host.stands p)) (sym file) ∙ none in
    let still_none : is_nothing (made.stands path) ≡ true =
    folders_nothing (ways_to folder) host.stands path (ways_elsewhere 0 folder folder path long (omega (arith, size)) (file_plain r name is.utf8 is.named)) none_there in
    let index : with_standing path (File lines) made.stands (join (index_of r) q) ≡ File lines = ap (with_standing path (File lines) made.stands) file ∙ here path (File lines) made.stands in
    let kept : Sound r (after (map (crate_made r) (c ∷ cs)) (with_file path lines made)).stands =
    crates_kept r q vs (c ∷ cs) (with_file path lines made) place (records_back vs (omega arith) written) all
    (new_sound r path (File lines) made.stands made_sound still_none (file_unnamed r name lines is.utf8 is.named)) index in
    subst (λ p. Sound r (after (Makes (unwrap_or (parent p) []) ∷ Creates p lines ∷ map (crate_made r) (c ∷ cs)) host).stands) (sym file)
    (subst (λ f. Sound r (after (map (crate_made r) (c ∷ cs)) (with_file path lines (with_folders (ways_to f) host))).stands) (sym in_folder) kept)

path_sound : (r q : List ℕ) (cs : List CheckedCrate) (host : Host) → IsPlace r → AreStocked q (map (λ (d : CheckedCrate). d.version) cs) cs → IsFilled r q cs host → Sound r host.stands
    → Sound r (after (path_made r q cs) host).stands
path_sound r q [] host place all filled sound = sound
path_sound r q (c ∷ cs) host place all filled sound = path_filled r q c cs host place all filled.1 (ap is_nothing filled.0) sound

-- ---- all paths

pub paths_sound : (r : List ℕ) (all : List CheckedCrate) (qs : List (List ℕ)) (host : Host) → IsPlace r
    → ((q : List ℕ) → AreStocked q (map (λ (d : CheckedCrate). d.version) (on q all)) (on q all)) → AreFilled r all qs host → Sound r host.stands
    → Sound r (after (paths_made r all qs) host).stands
paths_sound r all [] host place stocked filled sound = sound
paths_sound r all (q ∷ qs) host place stocked filled sound =
    subst (λ (h : Host). Sound r h.stands) (sym (after_append (path_made r q (on q all)) (paths_made r all qs) host))
    (paths_sound r all qs (after (path_made r q (on q all)) host) place stocked filled.1 (path_sound r q (on q all) host place (stocked q) filled.0 sound))
