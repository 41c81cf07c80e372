-- A registry of valid crates that were inserted is validated.
use Rattle.std.proofs.Common.{◌≡◌, ℕ, ◌+◌, ◌<◌, List, [], ◌∷◌, ◌++◌, length, codes, IsUtf8, IsTrue, is_none, true, Option, Some, None, Result, Ok, refl, sym, ap, ◌∙◌, arith, subst}
use Rattle.std.specs.Prelude.{unwrap_or}
use Rattle.std.proofs.lemmas.List.{length-append}
use Rattle.tame_names.specs.Changes.{is_nothing, with_file, with_folders}
use Rattle.tame_names.specs.Names.{NameRefusal, is_name, prefix, refusal_of}
use Rattle.tame_names.specs.Paths.{join, parent, ways_to}
use Rattle.tame_names.specs.Standing.{Host, Standing, Nothing, File, Folder, Other}
use Rattle.tame_records.specs.Written.{json_lines}
use Rattle.tame_records.specs.declared.versions.IndexVersion.{IndexVersion}
use Rattle.tame_sparse.specs.Git.{first_name}
use Rattle.tame_local.proofs.Agreed.{IsPlace, crate_is, file_is, registry_agrees, start_sound}
use Rattle.tame_local.proofs.Agreeing.{Agrees, Sound, crate_no_index, crate_sound, file_of, file_plain, file_unnamed, folders_sound, here, lower_long, lower_slashless, new_sound}
use Rattle.tame_local.proofs.ReadBack.{records_back}
use Rattle.tame_local.proofs.RegistryPaths.{index_folder, lower, name_long, parent_behind}
use Rattle.tame_local.proofs.Standings.{file_stays, folders_nothing, ways_elsewhere}
use Rattle.tame_local.specs.Builders.{absent_at, after, crates_made, insertable, written}
use Rattle.tame_local.specs.CrateFiles.{Lacks, crate_file}
use Rattle.tame_local.specs.Inserts.{AreInserts, AreOfCrate, Insert, IsInsert, StayValid, after_insert, after_inserts}
use Rattle.tame_local.specs.Refusals.{LocalRefusal, and_then}
use Rattle.tame_local.specs.Registries.{index_file, index_of, named_unless, records_in}
use Rattle.tame_local.specs.declared.digests.ValidKrate.{ValidKrate}

-- ---- what an insert requires

named_case : (o : Option NameRefusal) (rest : Result Unit LocalRefusal) → and_then (λ named. rest) (named_unless o) ≡ Ok tt → (is_none o ≡ true) × (rest ≡ Ok tt)
named_case None rest h = (refl, h)
named_case (Some why) rest h = cc

absent_case : (path : List ℕ) (s : Standing) → absent_at path s ≡ Ok tt → is_nothing s ≡ true
absent_case path Nothing h = refl
absent_case path (File bs) h = cc
absent_case path (Folder es) h = cc
absent_case path Other h = cc

-- ---- inserts

crates_kept : (r name : List ℕ) (versions : List IndexVersion) (krates : List ValidKrate) (host : Host) → IsPlace r → IsUtf8 name → IsTrue (is_name name) → name ≡ first_name versions
    → records_in (json_lines versions) ≡ Ok versions → AreOfCrate versions krates → Sound r host.stands → host.stands (file_of r name) ≡ File (json_lines versions)
    → Sound r (after (crates_made r krates) host).stands
crates_kept r name versions [] host place utf8 named first read all sound index = sound
crates_kept r name versions (k ∷ ks) host place utf8 named first read all sound index =
    let version : List ℕ = k.iv.now.version in
    let path : List ℕ = r ++ 47 ∷ crate_file name version in
    let same : join r (crate_file k.iv.now.name version) ≡ path =
    ap (λ n. join r (crate_file n version)) (all.0.name ∙ sym first) ∙ crate_is r name version place utf8 named all.0.slashless in
    let agrees : Agrees (json_lines versions) version k.buff = record { records = versions; sum = k.iv.now.checksum; read = read; found = all.0.sum; digest = k.valid } in
    subst (λ p. Sound r (after (crates_made r ks) (with_file p k.buff host)).stands) (sym same)
    (crates_kept r name versions ks (with_file path k.buff host) place utf8 named first read all.1
    (crate_sound r host.stands name version (json_lines versions) k.buff sound utf8 named all.0.version all.0.slashless index agrees)
    (file_stays path (File k.buff) host.stands (file_of r name) (json_lines versions) (crate_no_index r name version name utf8 named all.0.slashless utf8 named) index))

written_sound : (r name : List ℕ) (versions : List IndexVersion) (krates : List ValidKrate) (host : Host) → IsPlace r → IsUtf8 name → IsTrue (is_name name) → name ≡ first_name versions
    → records_in (json_lines versions) ≡ Ok versions → AreOfCrate versions krates → Sound r host.stands → is_nothing (host.stands (file_of r name)) ≡ true
    → Sound r (after (written r (file_of r name) (json_lines versions) krates) host).stands
written_sound r name versions krates host place utf8 named first read all sound none =
    let folder : List ℕ = index_folder r name in
    let path : List ℕ = file_of r name in
    let last_lacks : Lacks 47 (lower name) = lower_slashless name utf8 named in
    let last_long : 0 < length (lower name) = lower_long name (name_long name named) in
    let size : length path ≡ length folder + length (47 ∷ lower name) = length-append folder (47 ∷ lower name) in
    let some : length folder ≡ length r + length (47 ∷ (codes "index" ++ 47 ∷ lower (prefix (47 ∷ []) name))) = length-append r (47 ∷ (codes "index" ++ 47 ∷ lower (prefix (47 ∷ []) name))) in
    let long : 0 < length folder = omega (arith, some) in
    let in_folder : unwrap_or (parent path) [] ≡ folder = ap (λ o. unwrap_or o []) (parent_behind folder (lower name) long last_lacks last_long) in
    let made : Host = with_folders (ways_to folder) host in
    let made_sound : Sound r made.stands = folders_sound r (ways_to folder) host.stands sound in
    let still_none : is_nothing (made.stands path) ≡ true =
    folders_nothing (ways_to folder) host.stands path (ways_elsewhere 0 folder folder path long (omega (arith, size)) (file_plain r name utf8 named)) none in
    subst (λ f. Sound r (after (crates_made r krates) (with_file path (json_lines versions) (with_folders (ways_to f) host))).stands) (sym in_folder)
    (crates_kept r name versions krates (with_file path (json_lines versions) made) place utf8 named first read all
    (new_sound r path (File (json_lines versions)) made.stands made_sound still_none (file_unnamed r name (json_lines versions) utf8 named))
    (here path (File (json_lines versions)) made.stands))

insert_sound : (r : List ℕ) (i : Insert) (host : Host) → IsPlace r → IsInsert i → insertable r (first_name i.versions) host ≡ Ok tt → Sound r host.stands
    → Sound r (after_insert r i host).stands
insert_sound r i host place is can sound =
    let name : List ℕ = first_name i.versions in
    let parts = named_case (refusal_of name) (absent_at (index_file (index_of r) name) (host.stands (index_file (index_of r) name))) can in
    let same : index_file (index_of r) name ≡ file_of r name = file_is r name place is.text parts.0 in
    let none : is_nothing (host.stands (file_of r name)) ≡ true = ap (λ p. is_nothing (host.stands p)) (sym same) ∙ absent_case (index_file (index_of r) name) (host.stands (index_file (index_of r) name)) parts.1 in
    subst (λ p. Sound r (after (written r p (json_lines i.versions) i.krates) host).stands) (sym same)
    (written_sound r name i.versions i.krates host place is.text parts.0 refl (records_back i.versions is.some is.written) is.krates sound none)

inserts_sound : (r : List ℕ) (is : List Insert) (host : Host) → IsPlace r → AreInserts r is host → Sound r host.stands → Sound r (after_inserts r is host).stands
inserts_sound r [] host place all sound = sound
inserts_sound r (i ∷ is) host place all sound =
    inserts_sound r is (after_insert r i host) place all.2 (insert_sound r i host place all.0 all.1 sound)

-- ---- inserts into an empty registry

pub stay_valid : StayValid
stay_valid r inserts host some ends plain empty all =
    let place : IsPlace r = (some, ends) in
    let now : Host = after_inserts r inserts host in
    registry_agrees r now place (inserts_sound r inserts host place all (start_sound r host place plain empty))
