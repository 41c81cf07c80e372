-- A registry that is changed by a builder still agrees with its index.
use Rattle.std.proofs.Common.{◌≡◌, ◌⊎◌, ℕ, ◌+◌, ◌<◌, List, [], ◌∷◌, ◌++◌, length, codes, IsUtf8, IsTrue, is_ok, Bool, true, false, cond, Some, None, refl, sym, ap, ◌∙◌, arith, inl, inr, lit<}
use Rattle.std.proofs.lemmas.List.{length-append}
use Rattle.std.proofs.lemmas.Slice.Eq.{bytes_eq-Decides}
use Rattle.std.specs.Prelude.{is_some}
use Rattle.semver.specs.Parse.{version_parts}
use Rattle.tame_names.specs.Changes.{entry_of, is_folder, is_nothing, with_folder_at, with_folders_at, with_standing}
use Rattle.tame_names.specs.Names.{is_name, prefix}
use Rattle.tame_names.specs.Paths.{is_same, plain_path}
use Rattle.tame_names.specs.Standing.{Standing, Nothing, File, Folder, Other}
use Rattle.tame_names.specs.declared.host.Listed.{Listed}
use Rattle.tame_local.proofs.Dashes.{gives_back}
use Rattle.tame_local.proofs.RegistryPaths.{apart, differ, file_lacks, file_long, file_no_index, index_folder, index_parts, lacking, lower, lower_lacks, name_behind, name_lacks, name_long, no_dot, no_slash, plain_behind, same_in, same_paths, undotted_no_file}
use Rattle.tame_local.proofs.Standings.{Gains, elsewhere, file_stays, folder_grows, folder_stays, new_stands, plain_kept, plain_short}
use Rattle.tame_local.specs.CrateFiles.{crate_file}
use Rattle.tame_local.specs.Inserts.{StandsPlain}
use Rattle.tame_local.specs.CrateFiles.{Lacks}
use Rattle.tame_local.specs.Digests.{has_digest}
use Rattle.tame_local.specs.Registries.{crate_file_name, if_crate_file, records_in, sum_in}
use Rattle.tame_records.specs.declared.checksums.Chksum.{Chksum}
use Rattle.tame_records.specs.declared.versions.IndexVersion.{IndexVersion}
use Rattle.std.specs.Prelude.{Ok}

-- the index file of a name
abbrev pub file_of : List ℕ → List ℕ → List ℕ
file_of r name = index_folder r name ++ 47 ∷ lower name

-- the lines of an index file have the checksum of a version, and bytes have it too
pub record Agrees (body version bytes : List ℕ) : Type 0 where
  pub records : List IndexVersion
  pub sum : Chksum
  pub read : records_in body ≡ Ok records
  pub found : sum_in version records ≡ Some sum
  pub digest : has_digest bytes sum.0 ≡ true

-- the file of a version, and a record in the index that it agrees with
pub record HasFile (r : List ℕ) (stands : List ℕ → Standing) (name version : List ℕ) : Type 0 where
  pub utf8 : IsUtf8 name
  pub named : IsTrue (is_name name)
  pub version_is : IsTrue (is_ok (version_parts version))
  pub slashless : Lacks 47 version
  pub body : List ℕ
  pub bytes : List ℕ
  pub index : stands (file_of r name) ≡ File body
  pub crate : stands (r ++ 47 ∷ crate_file name version) ≡ File bytes
  pub agrees : Agrees body version bytes

-- it stays so if both files stay
still : (r : List ℕ) (before now : List ℕ → Standing) (name version : List ℕ) (f : HasFile r before name version) → now (file_of r name) ≡ File f.body
    → now (r ++ 47 ∷ crate_file name version) ≡ File f.bytes → HasFile r now name version
still r before now name version f index crate = record {
  utf8 = f.utf8;
  named = f.named;
  version_is = f.version_is;
  slashless = f.slashless;
  body = f.body;
  bytes = f.bytes;
  index = index;
  crate = crate;
  agrees = f.agrees;
}

abbrev pub IsSound : List ℕ → (List ℕ → Standing) → Listed → Type 0
IsSound r stands e =
    (crate_file_name e ≡ None)
    ⊎ ((name : List ℕ) × (version : List ℕ) × (crate_file_name e ≡ Some (crate_file name version)) × HasFile r stands name version)

abbrev pub AllSound : List ℕ → (List ℕ → Standing) → List Listed → Type 0
AllSound r stands [] = Unit {0}
AllSound r stands (e ∷ es) = IsSound r stands e × AllSound r stands es

-- each crate file in a registry agrees with its index
pub record Sound (r : List ℕ) (stands : List ℕ → Standing) : Type 0 where
  pub plain : StandsPlain stands
  pub entries : List Listed
  pub folder : stands r ≡ Folder entries
  pub index : is_folder (stands (r ++ 47 ∷ codes "index")) ≡ true
  pub all : AllSound r stands entries

one_more : (r : List ℕ) (stands : List ℕ → Standing) (es : List Listed) (e : Listed) → AllSound r stands es → IsSound r stands e → AllSound r stands (es ++ e ∷ [])
one_more r stands [] e all is = (is, tt)
one_more r stands (x ∷ xs) e all is = (all.0, one_more r stands xs e all.1 is)

each_sound : (r : List ℕ) (before now : List ℕ → Standing) (es : List Listed) → ((e : Listed) → IsSound r before e → IsSound r now e) → AllSound r before es → AllSound r now es
each_sound r before now [] kept all = tt
each_sound r before now (e ∷ es) kept all = (kept e all.0, each_sound r before now es kept all.1)

grown : (r : List ℕ) (now : List ℕ → Standing) (es : List Listed) (e : Listed) → Gains es e (now r) → StandsPlain now → is_folder (now (r ++ 47 ∷ codes "index")) ≡ true
    → AllSound r now es → IsSound r now e → Sound r now
grown r now es e (inl h) plain index all is = record { plain = plain; entries = es; folder = h; index = index; all = all }
grown r now es e (inr h) plain index all is = record { plain = plain; entries = es ++ e ∷ []; folder = h; index = index; all = one_more r now es e all is }

folder_some : (s : Standing) → is_folder s ≡ true → is_nothing s ≡ false
folder_some Nothing h = cc
folder_some (File bs) h = refl
folder_some (Folder es) h = refl
folder_some Other h = refl

-- ---- what is added where nothing was

kept_entry : (r p : List ℕ) (new : Standing) (stands : List ℕ → Standing) → StandsPlain stands → is_nothing (stands p) ≡ true → (e : Listed) → IsSound r stands e
    → IsSound r (with_standing p new stands) e
kept_entry r p new stands plain none e (inl h) = inl h
kept_entry r p new stands plain none e (inr h) =
    let f = h.3 in
    inr (
      h.0,
      h.1,
      h.2,
      still r stands (with_standing p new stands) h.0 h.1 f
          (file_stays p new stands (file_of r h.0) f.body (elsewhere p stands (file_of r h.0) plain none (ap is_nothing f.index)) f.index)
          (file_stays p new stands (r ++ 47 ∷ crate_file h.0 h.1) f.bytes (elsewhere p stands (r ++ 47 ∷ crate_file h.0 h.1) plain none (ap is_nothing f.crate)) f.crate),
    )

pub new_sound : (r p : List ℕ) (new : Standing) (stands : List ℕ → Standing) → Sound r stands → is_nothing (stands p) ≡ true → crate_file_name (entry_of p new) ≡ None
    → Sound r (with_standing p new stands)
new_sound r p new stands sound none unnamed =
    let index : List ℕ = r ++ 47 ∷ codes "index" in
    grown r (with_standing p new stands) sound.entries (entry_of p new)
    (folder_grows p new stands r sound.entries (elsewhere p stands r sound.plain none (ap is_nothing sound.folder)) sound.folder)
    (plain_kept p new stands sound.plain)
    (folder_stays p new stands index (elsewhere p stands index sound.plain none (folder_some (stands index) sound.index)) sound.index)
    (each_sound r stands (with_standing p new stands) sound.entries (kept_entry r p new stands sound.plain none) sound.all)
    (inl unnamed)

made_sound : (t : Bool) (r w : List ℕ) (stands : List ℕ → Standing) → is_nothing (stands w) ≡ t → Sound r stands → Sound r (cond t (with_standing w (Folder []) stands) stands)
made_sound true r w stands none sound = new_sound r w (Folder []) stands sound none refl
made_sound false r w stands some sound = sound

pub folders_sound : (r : List ℕ) (ws : List (List ℕ)) (stands : List ℕ → Standing) → Sound r stands → Sound r (with_folders_at ws stands)
folders_sound r [] stands sound = sound
folders_sound r (w ∷ ws) stands sound = folders_sound r ws (with_folder_at w stands) (made_sound (is_nothing (stands w)) r w stands refl sound)

-- ---- the paths of a registry are different

pub lower_long : (cs : List ℕ) → 0 < length cs → 0 < length (lower cs)
lower_long [] some = some
lower_long (c ∷ cs) some = omega arith

pub lower_slashless : (name : List ℕ) → IsUtf8 name → IsTrue (is_name name) → Lacks 47 (lower name)
lower_slashless name utf8 named = lower_lacks 47 name (lit< tt) (name_lacks 47 name no_slash utf8 named)

pub file_plain : (r name : List ℕ) → IsUtf8 name → IsTrue (is_name name) → plain_path (file_of r name) ≡ file_of r name
file_plain r name utf8 named =
    plain_behind (index_folder r name) (lower name) (lower_slashless name utf8 named) (lower_long name (name_long name named))

crate_lacks : (name version : List ℕ) → IsUtf8 name → IsTrue (is_name name) → Lacks 47 version → Lacks 47 (crate_file name version)
crate_lacks name version utf8 named slashless = file_lacks name version (name_lacks 47 name no_slash utf8 named) slashless

crate_plain : (r name version : List ℕ) → IsUtf8 name → IsTrue (is_name name) → Lacks 47 version → plain_path (r ++ 47 ∷ crate_file name version) ≡ r ++ 47 ∷ crate_file name version
crate_plain r name version utf8 named slashless =
    plain_behind r (crate_file name version) (crate_lacks name version utf8 named slashless) (file_long name version)

-- a crate file is no index file
pub crate_no_index : (r name version other : List ℕ) → IsUtf8 name → IsTrue (is_name name) → Lacks 47 version → IsUtf8 other → IsTrue (is_name other)
    → is_same (r ++ 47 ∷ crate_file name version) (file_of r other) ≡ false
crate_no_index r name version other utf8 named slashless utf8_other named_other =
    apart (r ++ 47 ∷ crate_file name version) (file_of r other) (crate_plain r name version utf8 named slashless) (file_plain r other utf8_other named_other)
    (λ e. lacking 47 (crate_file name version) (codes "index") (lower (prefix (47 ∷ []) other) ++ 47 ∷ lower other) (crate_lacks name version utf8 named slashless)
    (same_in r (crate_file name version) (codes "index" ++ 47 ∷ (lower (prefix (47 ∷ []) other) ++ 47 ∷ lower other)) (e ∙ sym (index_parts r other))))

-- nor the folder of the index
crate_no_folder : (r name version : List ℕ) → IsUtf8 name → IsTrue (is_name name) → Lacks 47 version → is_same (r ++ 47 ∷ crate_file name version) (r ++ 47 ∷ codes "index") ≡ false
crate_no_folder r name version utf8 named slashless =
    apart (r ++ 47 ∷ crate_file name version) (r ++ 47 ∷ codes "index") (crate_plain r name version utf8 named slashless)
    (plain_behind r (codes "index") (refl, (refl, (refl, (refl, (refl, tt))))) (lit< tt))
    (λ e. file_no_index name version (same_in r (crate_file name version) (codes "index") e))

-- nor the registry
crate_no_registry : (r name version : List ℕ) → IsUtf8 name → IsTrue (is_name name) → Lacks 47 version → is_same (r ++ 47 ∷ crate_file name version) r ≡ false
crate_no_registry r name version utf8 named slashless =
    let path : List ℕ = r ++ 47 ∷ crate_file name version in
    let whole : length path ≡ length r + length (47 ∷ crate_file name version) = length-append r (47 ∷ crate_file name version) in
    differ (plain_path path) (plain_path r) (λ e.
    let size : length path ≡ length (plain_path r) = ap length (sym (crate_plain r name version utf8 named slashless) ∙ e) in
    omega (arith, size, whole, plain_short r))

-- ---- an index file

lower_no_file : (name : List ℕ) → IsUtf8 name → IsTrue (is_name name) → if_crate_file (lower name) ≡ None
lower_no_file name utf8 named = rw (undotted_no_file (lower name) (lower_lacks 46 name (lit< tt) (name_lacks 46 name no_dot utf8 named))) refl

pub file_unnamed : (r name body : List ℕ) → IsUtf8 name → IsTrue (is_name name) → crate_file_name (entry_of (file_of r name) (File body)) ≡ None
file_unnamed r name body utf8 named =
    ap if_crate_file (name_behind (index_folder r name) (lower name) (lower_slashless name utf8 named) (lower_long name (name_long name named))) ∙ lower_no_file name utf8 named

pub here : (path : List ℕ) (new : Standing) (stands : List ℕ → Standing) → with_standing path new stands path ≡ new
here path new stands = new_stands path new stands path ((bytes_eq-Decides (plain_path path) (plain_path path)).1 refl)

-- ---- a crate file

crate_named : (r name version bytes : List ℕ) → IsUtf8 name → IsTrue (is_name name) → IsTrue (is_ok (version_parts version)) → Lacks 47 version
    → crate_file_name (entry_of (r ++ 47 ∷ crate_file name version) (File bytes)) ≡ Some (crate_file name version)
crate_named r name version bytes utf8 named semver slashless =
    ap if_crate_file (name_behind r (crate_file name version) (crate_lacks name version utf8 named slashless) (file_long name version))
    ∙ ap (λ o. cond (is_some o) (Some (crate_file name version)) None) (gives_back name version utf8 named semver)

crate_case : (t : Bool) (r : List ℕ) (stands : List ℕ → Standing) (name version bytes : List ℕ) (e : Listed) (n v : List ℕ)
    → HasFile r (with_standing (r ++ 47 ∷ crate_file name version) (File bytes) stands) name version
    → crate_file_name e ≡ Some (crate_file n v) → (f : HasFile r stands n v) → is_same (r ++ 47 ∷ crate_file name version) (r ++ 47 ∷ crate_file n v) ≡ t
    → IsSound r (with_standing (r ++ 47 ∷ crate_file name version) (File bytes) stands) e
crate_case true r stands name version bytes e n v now is f same =
    let one : r ++ 47 ∷ crate_file name version ≡ r ++ 47 ∷ crate_file n v =
    same_paths (r ++ 47 ∷ crate_file name version) (r ++ 47 ∷ crate_file n v) (crate_plain r name version now.utf8 now.named now.slashless) (crate_plain r n v f.utf8 f.named f.slashless) same in
    inr (name, version, is ∙ ap Some (sym (same_in r (crate_file name version) (crate_file n v) one)), now)
crate_case false r stands name version bytes e n v now is f other =
    let path : List ℕ = r ++ 47 ∷ crate_file name version in
    inr (
      n,
      v,
      is,
      still r stands (with_standing path (File bytes) stands) n v f
          (file_stays path (File bytes) stands (file_of r n) f.body (crate_no_index r name version n now.utf8 now.named now.slashless f.utf8 f.named) f.index)
          (file_stays path (File bytes) stands (r ++ 47 ∷ crate_file n v) f.bytes other f.crate),
    )

crate_entry : (r : List ℕ) (stands : List ℕ → Standing) (name version bytes : List ℕ) → HasFile r (with_standing (r ++ 47 ∷ crate_file name version) (File bytes) stands) name version
    → (e : Listed) → IsSound r stands e → IsSound r (with_standing (r ++ 47 ∷ crate_file name version) (File bytes) stands) e
crate_entry r stands name version bytes now e (inl h) = inl h
crate_entry r stands name version bytes now e (inr h) =
    crate_case (is_same (r ++ 47 ∷ crate_file name version) (r ++ 47 ∷ crate_file h.0 h.1)) r stands name version bytes e h.0 h.1 now h.2 h.3 refl

-- a crate file that agrees with its index file
pub crate_sound : (r : List ℕ) (stands : List ℕ → Standing) (name version body bytes : List ℕ) → Sound r stands → IsUtf8 name → IsTrue (is_name name)
    → IsTrue (is_ok (version_parts version)) → Lacks 47 version → stands (file_of r name) ≡ File body → Agrees body version bytes
    → Sound r (with_standing (r ++ 47 ∷ crate_file name version) (File bytes) stands)
crate_sound r stands name version body bytes sound utf8 named semver slashless index agrees =
    let path : List ℕ = r ++ 47 ∷ crate_file name version in
    let now : List ℕ → Standing = with_standing path (File bytes) stands in
    let file : HasFile r now name version = record {
      utf8 = utf8;
      named = named;
      version_is = semver;
      slashless = slashless;
      body = body;
      bytes = bytes;
      index = file_stays path (File bytes) stands (file_of r name) body (crate_no_index r name version name utf8 named slashless utf8 named) index;
      crate = here path (File bytes) stands;
      agrees = agrees;
    } in
    grown r now sound.entries (entry_of path (File bytes))
    (folder_grows path (File bytes) stands r sound.entries (crate_no_registry r name version utf8 named slashless) sound.folder)
    (plain_kept path (File bytes) stands sound.plain)
    (folder_stays path (File bytes) stands (r ++ 47 ∷ codes "index") (crate_no_folder r name version utf8 named slashless) sound.index)
    (each_sound r stands now sound.entries (crate_entry r stands name version bytes file) sound.all)
    (inr (name, version, crate_named r name version bytes utf8 named semver slashless, file))
