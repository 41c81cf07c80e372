-- On one path of the index, records of one version are the same record.
use Rattle.std.proofs.Common.{◌≡◌, ◌⊎◌, inl, inr, ℕ, ◌+◌, List, [], ◌∷◌, ◌++◌, map, find, bytes_eq, IsUtf8, IsTrue, is_ok, Bool, true, false, cond, Option, Some, None, option_map, option_and_then, Result, Ok, Err, refl, sym, ap, ◌∙◌, subst, append_assoc}
use Rattle.std.specs.Prelude.{filter, IfErr}
use Rattle.std.proofs.lemmas.Bool.{false≢true}
use Rattle.std.specs.List.{enumerate_from}
use Rattle.std.proofs.lemmas.Slice.Eq.{bytes_eq-Decides}
use Rattle.semver.specs.Parse.{version_parts}
use Rattle.tame_names.specs.Names.{is_name, path, relative_path, separator}
use Rattle.tame_names.specs.declared.errors.CacheError.{CacheError}
use Rattle.tame_records.specs.Krates.{records_of}
use Rattle.tame_records.specs.declared.versions.IndexVersion.{IndexVersion}
use Rattle.tame_entry.specs.Entry.{ReadEntry, lines_in, read_entry}
use Rattle.tame_entry.specs.VersionStatuses.{last_from}
use Rattle.tame_cache.specs.Disk.{File}
use Rattle.tame_cache.specs.Kept.{cache_file}
use Rattle.tame_local.specs.CrateFiles.{Lacks}
use Rattle.tame_local.specs.Digests.{has_digest}
use Rattle.audit_lock.specs.declared.resolving.Package.{Package}
use Rattle.vendor_registry.proofs.Facts.{Fact, Facts, path_of_name}
use Rattle.vendor_registry.proofs.Slashless.{version_slashless}
use Rattle.vendor_registry.proofs.Stocked.{AreStocked}
use Rattle.vendor_registry.specs.Checks.{Stock, crate_path, deciding, entry_records, file_records, is_of_package, or_fault}
use Rattle.vendor_registry.specs.Looked.{is_looked, looked}
use Rattle.vendor_registry.specs.Named.{AreTexts, AreVersioned}
use Rattle.vendor_registry.specs.Vendored.{is_on, on}
use Rattle.vendor_registry.specs.declared.checks.CheckedCrate.{CheckedCrate}
use Rattle.vendor_registry.specs.declared.faults.VendorFault.{VendorFault}
use Rattle.vendor_registry.specs.declared.faults.VendorFault.TheVariants as fault

-- ---- the records of a path, whichever package asks for them

abbrev kept_in : Result (List IndexVersion) VendorFault → Option (List IndexVersion)
kept_in (Ok records) = Some records
kept_in (Err e) = None

kept_lines : (place : ℕ) (o : Option (List IndexVersion)) (records : List IndexVersion) → or_fault (fault.Record place) o ≡ Ok records
    → kept_in (or_fault (fault.Record 0) o) ≡ Some records
kept_lines place None records h = cc
kept_lines place (Some vs) records h = ap kept_in h

kept_entry : (place : ℕ) (r : Result ReadEntry CacheError) (records : List IndexVersion) → entry_records place r ≡ Ok records → kept_in (entry_records 0 r) ≡ Some records
kept_entry place (Ok e) records h = kept_lines place (records_of (lines_in e.versions)) records h
kept_entry place (Err f) records h = cc

kept_file : (place : ℕ) (url : List ℕ) (file : File) (records : List IndexVersion) → file_records place url file ≡ Ok records → kept_in (file_records 0 url file) ≡ Some records
kept_file place url None records h = cc
kept_file place url (Some bytes) records h = kept_entry place (read_entry url bytes) records h

-- the deciding record of a version on a path
abbrev decided_on : Stock → List ℕ → List ℕ → Option IndexVersion
decided_on s q version =
    option_and_then (deciding version) (kept_in (file_records 0 s.url (s.files (cache_file s.root q))))

-- ---- it has the version's text

last_case : (t : Bool) (P : IndexVersion → Bool) (w : IndexVersion) (ws : List IndexVersion) (o : Option IndexVersion) (v : IndexVersion) → P w ≡ t
    → ((p : Option IndexVersion) → last_from p ws ≡ Some v → (p ≡ Some v) ⊎ (P v ≡ true)) → last_from o (cond t (w ∷ ws) ws) ≡ Some v → (o ≡ Some v) ⊎ (P v ≡ true)
last_case false P w ws o v is rest h = rest o h
last_case true P w ws o v is rest h = found (rest (Some w) h)
  where
    found : (Some w ≡ Some v) ⊎ (P v ≡ true) → (o ≡ Some v) ⊎ (P v ≡ true)
    found (inl same) = let one : w ≡ v = cc in inr (ap P (sym one) ∙ is)
    found (inr has) = inr has

last_has : (P : IndexVersion → Bool) (vs : List IndexVersion) (o : Option IndexVersion) (v : IndexVersion) → last_from o (filter P vs) ≡ Some v → (o ≡ Some v) ⊎ (P v ≡ true)
last_has P [] o v h = inl h
last_has P (w ∷ ws) o v h = last_case (P w) P w (filter P ws) o v refl (λ p k. last_has P ws p v k) h

found_text : (version : List ℕ) (v : IndexVersion) → (None ≡ Some v) ⊎ (bytes_eq v.version version ≡ true) → v.version ≡ version
found_text version v (inl h) = cc
found_text version v (inr h) = (bytes_eq-Decides v.version version).0 h

pub deciding_text : (version : List ℕ) (records : List IndexVersion) (v : IndexVersion) → deciding version records ≡ Some v → v.version ≡ version
deciding_text version records v h = found_text version v (last_has (λ w. bytes_eq w.version version) records None v h)

-- ---- what was checked

pub record IsDecided (s : Stock) (c : CheckedCrate) : Type 0 where
  pub utf8 : IsUtf8 c.version.name
  pub named : IsTrue (is_name c.version.name)
  pub path_is : relative_path (separator None) c.version.name ≡ c.path
  pub version_is : IsTrue (is_ok (version_parts c.version.version))
  pub slashless : Lacks 47 c.version.version
  pub decides : decided_on s c.path c.version.version ≡ Some c.version
  pub digest : has_digest c.bytes c.version.checksum.0 ≡ true

abbrev pub AreDecided : Stock → List CheckedCrate → Type 0
AreDecided s [] = Unit {0}
AreDecided s (c ∷ cs) = IsDecided s c × AreDecided s cs

-- the versions of packages with their places
abbrev AreVersionedAt : List (ℕ × Package) → Type 0
AreVersionedAt [] = Unit {0}
AreVersionedAt (p ∷ ps) = IsTrue (is_ok (version_parts p.1.version)) × AreVersionedAt ps

looked_case : (t : Bool) (p : ℕ × Package) (ps : List (ℕ × Package)) → IsTrue (is_ok (version_parts p.1.version)) → AreVersionedAt ps
    → AreVersionedAt (cond t (p ∷ ps) ps)
looked_case true p ps is all = (is, all)
looked_case false p ps is all = all

looked_versioned : (all : List Package) (i : ℕ) (ps : List Package) → AreVersioned ps → AreVersionedAt (filter (is_looked all) (enumerate_from i ps))
looked_versioned all i [] are = tt
looked_versioned all i (p ∷ ps) are =
    looked_case (is_looked all (i, p)) (i, p) (filter (is_looked all) (enumerate_from (i + 1) ps)) are.0 (looked_versioned all (i + 1) ps are.1)

one_decided : (s : Stock) (place : ℕ) (p : Package) (c : CheckedCrate) → Fact s place p c → IsUtf8 c.version.name → IsTrue (is_ok (version_parts p.version)) → IsDecided s c
one_decided s place p c f utf8 version =
    let named = path_of_name c.version.name c.path (ap path f.name_is ∙ f.path_is) in
    let same : c.version.version ≡ p.version = deciding_text p.version f.records c.version f.decides in
    record {
      utf8 = utf8;
      named = named.0;
      path_is = named.1;
      version_is = ap (λ text. is_ok (version_parts text)) same ∙ version;
      slashless = subst (Lacks 47) (sym same) (version_slashless p.version version);
      decides = ap (option_and_then (deciding c.version.version)) (kept_file place s.url (s.files (cache_file s.root c.path)) f.records f.kept)
          ∙ ap (λ text. deciding text f.records) same ∙ f.decides;
      digest = f.digest;
    }

decided_each : (s : Stock) (ps : List (ℕ × Package)) (cs : List CheckedCrate) → Facts s ps cs → AreTexts cs → AreVersionedAt ps → AreDecided s cs
decided_each s [] [] f texts are = tt
decided_each s [] (c ∷ cs) f texts are = absurd f
decided_each s (p ∷ ps) [] f texts are = absurd f
decided_each s (p ∷ ps) (c ∷ cs) f texts are =
    (one_decided s p.0 p.1 c f.0 texts.0 are.0, decided_each s ps cs f.1 texts.1 are.1)

pub all_decided : (s : Stock) (packages : List Package) (cs : List CheckedCrate) → Facts s (looked packages) cs → AreTexts cs → AreVersioned packages → AreDecided s cs
all_decided s packages cs f texts are = decided_each s (looked packages) cs f texts (looked_versioned packages 0 packages are)

-- ---- on one path

abbrev AreDecidedOn : Stock → List ℕ → List CheckedCrate → Type 0
AreDecidedOn s q [] = Unit {0}
AreDecidedOn s q (c ∷ cs) = IsDecided s c × (c.path ≡ q) × AreDecidedOn s q cs

on_case : (t : Bool) (s : Stock) (q : List ℕ) (c : CheckedCrate) (cs : List CheckedCrate) → is_on q c ≡ t → IsDecided s c → AreDecidedOn s q cs → AreDecidedOn s q (cond t (c ∷ cs) cs)
on_case true s q c cs is one all = (one, (bytes_eq-Decides c.path q).0 is, all)
on_case false s q c cs is one all = all

on_decided : (s : Stock) (q : List ℕ) (cs : List CheckedCrate) → AreDecided s cs → AreDecidedOn s q (on q cs)
on_decided s q [] all = tt
on_decided s q (c ∷ cs) all = on_case (is_on q c) s q c (on q cs) refl all.0 (on_decided s q cs all.1)

on_more : (s : Stock) (q : List ℕ) (fs : List CheckedCrate) (c : CheckedCrate) → AreDecidedOn s q fs → IsDecided s c → c.path ≡ q → AreDecidedOn s q (fs ++ c ∷ [])
on_more s q [] c all one is = (one, is, tt)
on_more s q (f ∷ fs) c all one is = (all.0, all.1, on_more s q fs c all.2 one is)

some_same : (v w : IndexVersion) → Some v ≡ Some w → v ≡ w
some_same v w h = cc

-- two of one version on one path are the same record
same_record : (s : Stock) (q : List ℕ) (f c : CheckedCrate) → IsDecided s f → f.path ≡ q → IsDecided s c → c.path ≡ q → f.version.version ≡ c.version.version → f.version ≡ c.version
same_record s q f c one at other there same =
    some_same f.version c.version
    (sym one.decides ∙ ap (λ p. decided_on s p f.version.version) (at ∙ sym there) ∙ ap (decided_on s c.path) same ∙ other.decides)

found_case : (t : Bool) (v w : IndexVersion) (o : Option IndexVersion) → (t ≡ true → v ≡ w) → o ≡ Some w → cond t (Some v) o ≡ Some w
found_case true v w o same is = ap Some (same refl)
found_case false v w o same is = is

first_found : (s : Stock) (q : List ℕ) (fs : List CheckedCrate) (c : CheckedCrate) (cs : List CheckedCrate) → AreDecidedOn s q fs → IsDecided s c → c.path ≡ q
    → find (λ v. bytes_eq v.version c.version.version) (map (λ (d : CheckedCrate). d.version) (fs ++ c ∷ cs)) ≡ Some c.version
first_found s q [] c cs all one is = rw ((bytes_eq-Decides c.version.version c.version.version).1 refl) refl
first_found s q (f ∷ fs) c cs all one is =
    found_case (bytes_eq f.version.version c.version.version) f.version c.version _
    (λ same. same_record s q f c all.0 all.1 one is ((bytes_eq-Decides f.version.version c.version.version).0 same)) (first_found s q fs c cs all.2 one is)

stocked_behind : (s : Stock) (q : List ℕ) (fs cs : List CheckedCrate) → AreDecidedOn s q fs → AreDecidedOn s q cs → AreStocked q (map (λ (d : CheckedCrate). d.version) (fs ++ cs)) cs
stocked_behind s q fs [] front are = tt
stocked_behind s q fs (c ∷ cs) front are = (
  record {
    utf8 = are.0.utf8;
    named = are.0.named;
    path_is = are.0.path_is ∙ are.1;
    version_is = are.0.version_is;
    slashless = are.0.slashless;
    found = ap (option_map (λ (v : IndexVersion). v.checksum)) (first_found s q fs c cs front are.0 are.1);
    digest = are.0.digest;
  },
  subst (λ (l : List CheckedCrate). AreStocked q (map (λ (d : CheckedCrate). d.version) l) cs) (append_assoc fs (c ∷ []) cs)
      (stocked_behind s q (fs ++ c ∷ []) cs (on_more s q fs c front are.0 are.1) are.2),
)

pub stocked_on : (s : Stock) (q : List ℕ) (cs : List CheckedCrate) → AreDecided s cs → AreStocked q (map (λ (d : CheckedCrate). d.version) (on q cs)) (on q cs)
stocked_on s q cs all = stocked_behind s q [] (on q cs) tt (on_decided s q cs all)

-- ---- a crate file that couldn't be read

crate_case : (crates : List ℕ) (v : IndexVersion) (p : Package) (e : VendorFault) (rose : Type 0) (at : List ℕ) → v.name ≡ p.name → v.version ≡ p.version → e ≡ fault.File at
    → (e ≡ fault.NoMemory) ⊎ (IsTrue (is_of_package e) ⊎ ((e ≡ fault.File (crate_path crates v.name v.version)) × rose))
    → (at ≡ crate_path crates p.name p.version) × rose
crate_case crates v p e rose at name version is (inl h) = cc
crate_case crates v p e rose at name version is (inr (inl told)) = let none = subst (λ f. IsTrue (is_of_package f)) is told in absurd (false≢true none)
crate_case crates v p e rose at name version is (inr (inr h)) =
    let same : at ≡ crate_path crates v.name v.version = cc (is, h.0) in
    (same ∙ ap (λ (n : List ℕ). crate_path crates n v.version) name ∙ ap (crate_path crates p.name) version, h.1)

pub crate_read : (crates : List ℕ) (v : IndexVersion) (p : Package) (r : Result CheckedCrate VendorFault) (rose : Type 0) → v.name ≡ p.name → v.version ≡ p.version
    → (at : List ℕ) → r ≡ Err (fault.File at)
    → IfErr r (λ e. (e ≡ fault.NoMemory) ⊎ (IsTrue (is_of_package e) ⊎ ((e ≡ fault.File (crate_path crates v.name v.version)) × rose)))
    → (at ≡ crate_path crates p.name p.version) × rose
crate_read crates v p (Ok c) rose name version at is h = cc
crate_read crates v p (Err e) rose name version at is h = let one : e ≡ fault.File at = cc in crate_case crates v p e rose at name version one h
