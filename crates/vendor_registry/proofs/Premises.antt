-- Lockfiles and hosts in memory meet the premises of what is built.
use Rattle.std.proofs.Common.{◌≡◌, ℕ, suc, codes, List, [], ◌∷◌, ◌++◌, length, bytes_eq, is_ok, Bool, true, false, cond, Option, Some, None, option_and_then, Result, Ok, Err, refl, sym, ap, ◌∙◌, subst}
use Rattle.std.proofs.lemmas.List.{append_assoc}
use Rattle.std.proofs.lemmas.Slice.Eq.{bytes_eq-Decides}
use Rattle.semver.specs.Parse.{version_parts}
use Rattle.toml.specs.Data.{Data, Items, no_items, item, Members, as_str, get, get_member}
use Rattle.toml.specs.Parse.{parse_document}
use Rattle.toml_tables.specs.Floats.{members_have_float}
use Rattle.toml_tables.specs.Members.{optional, optional_texts, required}
use Rattle.toml_tables.specs.Results.{and_then, or_fault}
use Rattle.tame_names.specs.MemoryFiles.{file_at, host_in, standing_of}
use Rattle.tame_names.specs.Paths.{join, plain_path}
use Rattle.tame_names.specs.declared.memory_files.MemFiles.{MemFiles}
use Rattle.tame_names.specs.declared.memory_nodes.MemFile.{MemFile}
use Rattle.tame_local.specs.Inserts.{StandsPlain}
use Rattle.audit_lock.specs.Listed.{as_source, as_version, listed_of, version_of}
use Rattle.audit_lock.specs.Locked.{at_place, is_version, listed_from, listed_table, locked, package_items, place_of, resolve_from, root_table, with_root}
use Rattle.audit_lock.specs.Naming.{each_place}
use Rattle.audit_lock.specs.declared.listed.ListedPackage.{ListedPackage}
use Rattle.audit_lock.specs.declared.listed.LockRule.{LockRule}
use Rattle.audit_lock.specs.declared.listed.LockRule.TheVariants as rule
use Rattle.audit_lock.specs.declared.lockfiles.LockfileFault.{LockfileFault}
use Rattle.audit_lock.specs.declared.lockfiles.LockfileFault.TheVariants as fault
use Rattle.audit_lock.specs.declared.resolving.Package.{Package}
use Rattle.vendor_registry.specs.Named.{AreVersioned, IsBelow, IsPlace, NoneBelow}
use Rattle.vendor_registry.specs.Vendored.{IsBare, IsInner}
use Rattle.vendor_registry.proofs.FolderPaths.{base, join_base, plain_append}
use Rattle.vendor_registry.proofs.Places.{base_plain, some_long}

-- ---- a host in memory

file_same : (files : List MemFile) (p q : List ℕ) → plain_path p ≡ plain_path q → file_at files p ≡ file_at files q
file_same [] p q h = refl
file_same (f ∷ fs) p q h =
    ap (λ (x : List ℕ). cond (bytes_eq (plain_path f.path) x) (Some f) (file_at fs p)) h
    ∙ ap (cond (bytes_eq (plain_path f.path) (plain_path q)) (Some f)) (file_same fs p q h)

pub memory_plain : (files : MemFiles) → StandsPlain (host_in files).stands
memory_plain files p q h = ap standing_of (file_same files.files p q ((bytes_eq-Decides (plain_path p) (plain_path q)).0 h))

-- a path in a folder is below it
inner_below : (folder path : List ℕ) → IsPlace folder → IsInner path → IsBelow folder (plain_path (join folder path))
inner_below folder path place inner = (
  path,
  ap plain_path (join_base folder path inner.front) ∙ plain_append (base folder) path inner
      ∙ ap (λ (b : List ℕ). b ++ path) (base_plain folder (some_long folder place.0) place.1) ∙ append_assoc folder (47 ∷ []) path,
)

none_case : (t : Bool) (file : MemFile) (rest : Option MemFile) → (t ≡ true → ⊥) → rest ≡ None → cond t (Some file) rest ≡ None
none_case true file rest differs none = absurd (differs refl)
none_case false file rest differs none = none

none_at : (folder path : List ℕ) (files : List MemFile) → IsBelow folder (plain_path path) → NoneBelow folder files → file_at files path ≡ None
none_at folder path [] is none = refl
none_at folder path (file ∷ files) is none =
    none_case (bytes_eq (plain_path file.path) (plain_path path)) file (file_at files path)
    (λ same. none.0 (subst (IsBelow folder) (sym ((bytes_eq-Decides (plain_path file.path) (plain_path path)).0 same)) is))
    (none_at folder path files is none.1)

pub memory_bare : (files : MemFiles) (folder : List ℕ) → IsPlace folder → NoneBelow folder files.files → IsBare (host_in files) folder
memory_bare files folder place none path inner = ap standing_of (none_at folder (join folder path) files.files (inner_below folder path place inner) none)

-- ---- steps that may each refuse

part : {A B E : Type 0} (r : Result A E) (f : A → Result B E) (b : B) → and_then f r ≡ Ok b → (a : A) × (r ≡ Ok a) × (f a ≡ Ok b)
part (Ok a) f b h = (a, refl, h)
part (Err e) f b h = cc

some_of : {A E : Type 0} (e : E) (o : Option A) (a : A) → or_fault e o ≡ Ok a → o ≡ Some a
some_of e None a h = cc
some_of e (Some b) a h = cc

unless : {A E : Type 0} (b : Bool) (e : E) (r : Result A E) (a : A) → cond b (Err e) r ≡ Ok a → r ≡ Ok a
unless true e r a h = cc
unless false e r a h = h

only_if : {A E : Type 0} (b : Bool) (e : E) (r : Result A E) (a : A) → cond b r (Err e) ≡ Ok a → r ≡ Ok a
only_if true e r a h = h
only_if false e r a h = cc

-- ---- one package

text_case : (b : Bool) (s v : List ℕ) → is_ok (version_parts s) ≡ b → cond b (Some s) None ≡ Some v → is_ok (version_parts v) ≡ true
text_case true s v is h = let same : s ≡ v = cc in ap (λ (x : List ℕ). is_ok (version_parts x)) (sym same) ∙ is
text_case false s v is h = cc

version_case : (o : Option (List ℕ)) (v : List ℕ) → option_and_then as_version o ≡ Some v → is_ok (version_parts v) ≡ true
version_case None v h = cc
version_case (Some s) v h = text_case (is_ok (version_parts s)) s v refl h

-- a package that is listed has a version
abbrev has_version : Result ListedPackage LockRule → Bool
has_version (Ok p) = is_ok (version_parts p.version)
has_version (Err e) = true

one_listed : (d : Data) (p : ListedPackage) → listed_of d ≡ Ok p → is_ok (version_parts p.version) ≡ true
one_listed d p h =
    let name = part (or_fault rule.Name (required as_str (get (codes "name") d))) _ p h in
    let version = part (or_fault rule.PackageVersion (version_of (get (codes "version") d))) _ p name.2 in
    let source = part (or_fault rule.Source (optional as_source (get (codes "source") d))) _ p version.2 in
    let checksum = part (or_fault rule.Checksum (optional as_str (get (codes "checksum") d))) _ p source.2 in
    let replaced = part (or_fault rule.Replace (optional as_str (get (codes "replace") d))) _ p checksum.2 in
    let wanted = part (or_fault rule.Dependencies (optional_texts (get (codes "dependencies") d))) _ p replaced.2 in
    let is : is_ok (version_parts version.0) ≡ true =
    version_case (required as_str (get (codes "version") d)) version.0 (some_of rule.PackageVersion (version_of (get (codes "version") d)) version.0 version.1) in
    subst (λ (r : Result ListedPackage LockRule). has_version r ≡ true) wanted.2 is

-- ---- all that are listed

abbrev AllListed : List ListedPackage → Type 0
AllListed [] = Unit {0}
AllListed (p ∷ ps) = (is_ok (version_parts p.version) ≡ true) × AllListed ps

abbrev AllIn : Result (List ListedPackage) LockfileFault → Type 0
AllIn (Ok ps) = AllListed ps
AllIn (Err e) = Unit {0}

here : (i : ℕ) (r : Result ListedPackage LockRule) (p : ListedPackage) → at_place i r ≡ Ok p → r ≡ Ok p
here i (Ok q) p h = cc
here i (Err e) p h = cc

from_listed : (i : ℕ) (ds : Items) (ps : List ListedPackage) → listed_from i ds ≡ Ok ps → AllListed ps
from_listed i no_items ps h = subst AllIn h tt
from_listed i (item d ds) ps h =
    let one = part (at_place i (listed_of d)) _ ps h in
    let more = part (listed_from (suc i) ds) _ ps one.2 in
    subst AllIn more.2 (one_listed d one.0 (here i (listed_of d) one.0 one.1), from_listed (suc i) ds more.0 more.1)

one_more : (ps : List ListedPackage) (p : ListedPackage) → AllListed ps → is_ok (version_parts p.version) ≡ true → AllListed (ps ++ p ∷ [])
one_more [] p all is = (is, tt)
one_more (q ∷ qs) p all is = (all.0, one_more qs p all.1 is)

root_listed : (o : Option Data) (ps qs : List ListedPackage) → with_root o ps ≡ Ok qs → AllListed ps → AllListed qs
root_listed None ps qs h all = subst AllIn h all
root_listed (Some d) ps qs h all =
    let one = part (at_place (length ps) (listed_of d)) _ qs h in
    subst AllIn one.2 (one_more ps one.0 all (one_listed d one.0 (here (length ps) (listed_of d) one.0 one.1)))

table_listed : (ms : Members) (ps : List ListedPackage) → listed_table ms ≡ Ok ps → AllListed ps
table_listed ms ps h =
    let whole = only_if (is_version (get_member (codes "version") ms)) _ _ ps (unless (members_have_float ms) _ _ ps h) in
    let items = part (or_fault (fault.Rule None rule.Packages) (package_items (get_member (codes "package") ms))) _ ps whole in
    let root = part (or_fault (fault.Rule None rule.Root) (root_table (get_member (codes "root") ms))) _ ps items.2 in
    let listed = part (listed_from 0 items.0) _ ps root.2 in
    root_listed root.0 listed.0 ps listed.2 (from_listed 0 items.0 listed.0 listed.1)

-- ---- with their dependencies

abbrev AreIn : Result (List Package) LockfileFault → Type 0
AreIn (Ok ps) = AreVersioned ps
AreIn (Err e) = Unit {0}

resolved : (place : List ℕ → Option ℕ) (i : ℕ) (ps : List ListedPackage) (packages : List Package) → resolve_from place i ps ≡ Ok packages → AllListed ps → AreVersioned packages
resolved place i [] packages h all = subst AreIn h tt
resolved place i (p ∷ ps) packages h all =
    let places = part (or_fault (fault.Rule (Some i) rule.Names) (each_place place p.dependencies)) _ packages h in
    let rest = part (resolve_from place (suc i) ps) _ packages places.2 in
    subst AreIn rest.2 (all.0, resolved place (suc i) ps rest.0 rest.1 all.1)

pub locked_versioned : (text : List ℕ) (packages : List Package) → locked text ≡ Ok packages → AreVersioned packages
locked_versioned text packages h =
    let listed = part (and_then listed_table (or_fault fault.Toml (parse_document text))) _ packages h in
    let table = part (or_fault fault.Toml (parse_document text)) listed_table listed.0 listed.1 in
    resolved (place_of listed.0) 0 listed.0 packages listed.2 (table_listed table.0 listed.0 table.2)
