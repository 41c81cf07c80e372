-- A registry whose crate files agree with their index files is opened and validated.
use Rattle.std.proofs.Common.{◌≡◌, ℕ, ◌<◌, List, [], ◌∷◌, ◌++◌, length, codes, IsUtf8, IsTrue, is_none, Bool, true, false, cond, All, Option, Some, None, Result, Ok, Err, refl, sym, ap, ◌∙◌, inl, inr, subst, lit<}
use Rattle.std.specs.Prelude.{unwrap_or}
use Rattle.std.specs.Cmp.Lexicographic.{slice_cmp}
use Rattle.std.specs.Option.{ok_or}
use Rattle.std.specs.Ordering.{nat_cmp}
use Rattle.std.proofs.lemmas.List.Elements.{All-head, All-nil, All-tail}
use Rattle.std.proofs.lemmas.Map.Views.{All-insert_key}
use Rattle.tame_names.specs.Changes.{is_folder}
use Rattle.tame_names.specs.Names.{NameRefusal, is_name, refusal_of, relative_path, separator}
use Rattle.tame_names.specs.Paths.{begins_with_slash, ends_with_slash, join}
use Rattle.tame_names.specs.Standing.{Host, Standing, Nothing, File, Folder, Other}
use Rattle.tame_names.specs.declared.host.Listed.{Listed}
use Rattle.tame_local.specs.CrateFiles.{Lacks, crate_file}
use Rattle.tame_local.specs.Digests.{has_digest}
use Rattle.tame_local.specs.Inserts.{HasNoCrate, IsEmptyRegistry, StandsPlain}
use Rattle.tame_local.specs.Refusals.{NoVersion, OtherDigest, LocalRefusal, and_then}
use Rattle.tame_local.specs.Registries.{bytes_at, crate_file_name, crate_file_names, crates_folder, digest_checked, file_checked, file_if_parts, files_checked, folder_at, index_file, index_of, located_checked, named_unless, records_at, records_in, registry_at, sum_at, sum_in, validated, with_name}
use Rattle.tame_local.proofs.Agreeing.{AllSound, HasFile, IsSound, Sound, file_of}
use Rattle.tame_local.proofs.Dashes.{gives_back}
use Rattle.tame_local.proofs.RegistryPaths.{file_lacks, index_parts, index_path, joined, name_lacks, no_slash, parent_behind}

-- a registry's path, which isn't empty and ends with no slash
abbrev pub IsPlace : List ℕ → Type 0
IsPlace r = (0 < length r) × (ends_with_slash r ≡ false)

index_is : (r : List ℕ) → IsPlace r → index_of r ≡ r ++ 47 ∷ codes "index"
index_is r place = joined r (codes "index") place.0 place.1 refl

pub file_is : (r name : List ℕ) → IsPlace r → IsUtf8 name → IsTrue (is_name name) → index_file (index_of r) name ≡ file_of r name
file_is r name place utf8 named =
    ap (λ index. join index (relative_path (separator None) name)) (index_is r place) ∙ index_path r name utf8 named ∙ index_parts r name

unslashed : (xs : List ℕ) → Lacks 47 xs → begins_with_slash xs ≡ false
unslashed [] h = refl
unslashed (x ∷ xs) h = h.0

pub crate_is : (r name version : List ℕ) → IsPlace r → IsUtf8 name → IsTrue (is_name name) → Lacks 47 version → join r (crate_file name version) ≡ r ++ 47 ∷ crate_file name version
crate_is r name version place utf8 named slashless =
    joined r (crate_file name version) place.0 place.1 (unslashed (crate_file name version) (file_lacks name version (name_lacks 47 name no_slash utf8 named) slashless))

none_refused : (o : Option NameRefusal) → is_none o ≡ true → o ≡ None
none_refused None h = refl
none_refused (Some why) h = cc

-- ---- an empty registry

no_crates : (r : List ℕ) (stands : List ℕ → Standing) (es : List Listed) → HasNoCrate es → AllSound r stands es
no_crates r stands [] none = tt
no_crates r stands (e ∷ es) none = (inl none.0, no_crates r stands es none.1)

pub start_sound : (r : List ℕ) (host : Host) → IsPlace r → StandsPlain host.stands → IsEmptyRegistry r host → Sound r host.stands
start_sound r host place plain empty = record {
  plain = plain;
  entries = empty.entries;
  folder = empty.folder;
  index = ap (λ p. is_folder (host.stands p)) (sym (index_is r place)) ∙ empty.index;
  all = no_crates r host.stands empty.entries empty.crates;
}

-- ---- validation

digest_case : (t : Bool) (one other : Result Unit LocalRefusal) → t ≡ true → cond t one other ≡ one
digest_case t one other h = rw h refl

located : (host : Host) (r name version : List ℕ) → IsPlace r → (f : HasFile r host.stands name version)
    → located_checked host (index_of r) (r ++ 47 ∷ crate_file name version) (name, version) ≡ Ok tt
located host r name version place f =
    let path : List ℕ = r ++ 47 ∷ crate_file name version in
    let index : List ℕ = index_file (index_of r) name in
    let bytes : bytes_at path (host.stands path) ≡ Ok f.bytes = ap (bytes_at path) f.crate in
    let body : bytes_at index (host.stands index) ≡ Ok f.body =
    ap (λ p. bytes_at p (host.stands p)) (file_is r name place f.utf8 f.named) ∙ ap (bytes_at (file_of r name)) f.index in
    let records : records_at host index ≡ Ok f.agrees.records = ap (and_then records_in) body ∙ f.agrees.read in
    let sum : sum_at host (index_of r) (name, version) ≡ Ok f.agrees.sum =
    ap (and_then (λ records. ok_or (sum_in version records) (NoVersion name version))) records ∙ ap (λ found. ok_or found (NoVersion name version)) f.agrees.found in
    ap (and_then (λ sum. and_then (digest_checked (name, version) sum) (bytes_at path (host.stands path)))) sum
    ∙ ap (and_then (digest_checked (name, version) f.agrees.sum)) bytes
    ∙ digest_case (has_digest f.bytes f.agrees.sum.0) (Ok tt) (Err (OtherDigest name version)) f.agrees.digest

file_valid : (host : Host) (r name version : List ℕ) → IsPlace r → HasFile r host.stands name version → file_checked host (index_of r) r (crate_file name version) ≡ Ok tt
file_valid host r name version place f =
    let file : List ℕ = crate_file name version in
    ap (file_if_parts host (index_of r) r file) (gives_back name version f.utf8 f.named f.version_is)
    ∙ ap (λ o. and_then (λ named. located_checked host (index_of r) (join r file) (name, version)) (named_unless o)) (none_refused (refusal_of name) f.named)
    ∙ ap (λ p. located_checked host (index_of r) p (name, version)) (crate_is r name version place f.utf8 f.named f.slashless)
    ∙ located host r name version place f

abbrev IsValid : Host → List ℕ → List ℕ → Type 0
IsValid host r file = file_checked host (index_of r) r file ≡ Ok tt

names_valid : (host : Host) (r : List ℕ) (names : List (List ℕ)) (es : List Listed) → IsPlace r → All (IsValid host r) names → AllSound r host.stands es
    → All (IsValid host r) (crate_file_names names es)
names_valid host r names [] place all sound = all
names_valid host r names (e ∷ es) place all sound = names_valid host r (with_name names (crate_file_name e)) es place (one_valid sound.0) sound.1
  where
    one_valid : IsSound r host.stands e → All (IsValid host r) (with_name names (crate_file_name e))
    one_valid (inl h) = subst (λ o. All (IsValid host r) (with_name names o)) (sym h) all
    one_valid (inr h) =
        subst (λ o. All (IsValid host r) (with_name names o)) (sym h.2) (All-insert_key (slice_cmp nat_cmp) (crate_file h.0 h.1) (IsValid host r) names all (file_valid host r h.0 h.1 place h.3))

all_valid : (host : Host) (r : List ℕ) (names : List (List ℕ)) → All (IsValid host r) names → files_checked host (index_of r) r names ≡ Ok tt
all_valid host r [] all = refl
all_valid host r (n ∷ ns) all =
    ap (and_then (λ done. files_checked host (index_of r) r ns)) (All-head (IsValid host r) _ _ all) ∙ all_valid host r ns (All-tail (IsValid host r) _ _ all)

crates_here : (r : List ℕ) → IsPlace r → crates_folder (index_of r) ≡ r
crates_here r place =
    ap crates_folder (index_is r place)
    ∙ ap (λ o. unwrap_or o (r ++ 47 ∷ codes "index")) (parent_behind r (codes "index") place.0 (refl, (refl, (refl, (refl, (refl, tt))))) (lit< tt))

registry_valid : (host : Host) (r : List ℕ) → IsPlace r → Sound r host.stands → validated host (index_of r) ≡ Ok tt
registry_valid host r place sound =
    ap (λ f. and_then (λ entries. files_checked host (index_of r) f (crate_file_names [] entries)) (folder_at f (host.stands f))) (crates_here r place)
    ∙ ap (λ s. and_then (λ entries. files_checked host (index_of r) r (crate_file_names [] entries)) (folder_at r s)) sound.folder
    ∙ all_valid host r (crate_file_names [] sound.entries) (names_valid host r [] sound.entries place (All-nil (IsValid host r)) sound.all)

folder_case : (r : List ℕ) (path : List ℕ) (s : Standing) (done : Result Unit LocalRefusal) → is_folder s ≡ true → done ≡ Ok tt
    → and_then (λ entries. and_then (λ done. Ok r) done) (folder_at path s) ≡ Ok r
folder_case r path Nothing done h g = cc
folder_case r path (File bs) done h g = cc
folder_case r path (Folder es) done h g = ap (and_then (λ done. Ok r)) g
folder_case r path Other done h g = cc

-- the registry in a folder is opened
pub registry_agrees : (r : List ℕ) (now : Host) → IsPlace r → Sound r now.stands → registry_at now r true ≡ Ok (index_of r)
registry_agrees r now place sound =
    folder_case (index_of r) (index_of r) (now.stands (index_of r)) (validated now (index_of r))
    (ap (λ p. is_folder (now.stands p)) (index_is r place) ∙ sound.index) (registry_valid now r place sound)
