-- What was checked, by the definition of the checks.
use Rattle.std.proofs.Common.{◌≡◌, ℕ, List, [], ◌∷◌, bytes_eq, IsUtf8, IsTrue, Bool, true, false, cond, Option, Some, None, Result, Ok, Err, refl, sym, ap, ◌∙◌, subst}
use Rattle.std.specs.Prelude.{IfOk, IfErr}
use Rattle.std.proofs.lemmas.Slice.Eq.{bytes_eq-Decides}
use Rattle.tame_names.specs.Names.{is_name, path, relative_path, separator}
use Rattle.tame_names.specs.Standing.{Standing, Nothing, File, Folder, Other}
use Rattle.tame_records.specs.declared.versions.IndexVersion.{IndexVersion}
use Rattle.tame_cache.specs.Kept.{cache_file}
use Rattle.tame_local.specs.Digests.{has_digest}
use Rattle.audit_lock.specs.declared.resolving.Package.{Package}
use Rattle.vendor_registry.specs.Checks.{Stock, all_checked, and_then, checked, checked_at, crate_bytes, crate_checked, crate_path, deciding, decided, file_records, is_of_package, named_so, or_fault, valid_bytes}
use Rattle.vendor_registry.specs.Named.{ArePathed}
use Rattle.vendor_registry.specs.declared.checks.CheckedCrate.{CheckedCrate}
use Rattle.vendor_registry.specs.declared.faults.VendorFault.{VendorFault}
use Rattle.vendor_registry.specs.declared.faults.VendorFault.TheVariants as fault

-- ---- parts of what is there

and_then_ok : {A B E : Type 0} (f : A → Result B E) (r : Result A E) (b : B) → and_then f r ≡ Ok b → (a : A) × (r ≡ Ok a) × (f a ≡ Ok b)
and_then_ok f (Ok a) b h = (a, refl, h)
and_then_ok f (Err e) b h = cc

or_fault_ok : {A : Type 0} (e : VendorFault) (o : Option A) (a : A) → or_fault e o ≡ Ok a → o ≡ Some a
or_fault_ok e None a h = cc
or_fault_ok e (Some b) a h = cc

cond_ok : {A : Type 0} (t : Bool) (x y : A) (e : VendorFault) → cond t (Ok x) (Err e) ≡ Ok y → (t ≡ true) × (x ≡ y)
cond_ok true x y e h = let same : x ≡ y = cc in (refl, same)
cond_ok false x y e h = cc

large_ok : (t : Bool) (bytes found : List ℕ) (e : VendorFault) → cond t (Err e) (Ok bytes) ≡ Ok found → bytes ≡ found
large_ok true bytes found e h = cc
large_ok false bytes found e h = cc

crate_there : (place : ℕ) (p : List ℕ) (s : Standing) (bytes : List ℕ) → crate_bytes place p s ≡ Ok bytes → s ≡ File bytes
crate_there place p Nothing bytes h = cc
crate_there place p (File bs) bytes h = ap File (large_ok _ bs bytes _ h)
crate_there place p (Folder es) bytes h = cc
crate_there place p Other bytes h = cc

same_text : (xs ys : List ℕ) → bytes_eq xs ys ≡ true → xs ≡ ys
same_text xs ys h = (bytes_eq-Decides xs ys).0 h

-- ---- one package

pub record Fact (s : Stock) (place : ℕ) (p : Package) (c : CheckedCrate) : Type 0 where
  pub path_is : path p.name ≡ Some c.path
  pub name_is : c.version.name ≡ p.name
  pub records : List IndexVersion
  pub kept : file_records place s.url (s.files (cache_file s.root c.path)) ≡ Ok records
  pub decides : deciding p.version records ≡ Some c.version
  pub crate : s.host.stands (crate_path s.crates c.version.name c.version.version) ≡ File c.bytes
  pub digest : has_digest c.bytes c.version.checksum.0 ≡ true

pub decided_ok : (place : ℕ) (p : Package) (records : List IndexVersion) (v : IndexVersion) → decided place p records ≡ Ok v
    → (deciding p.version records ≡ Some v) × (v.name ≡ p.name)
decided_ok place p records v h =
    let found = and_then_ok (named_so place p.name) (or_fault (fault.NoVersion place) (deciding p.version records)) v h in
    let named = cond_ok (bytes_eq found.0.name p.name) found.0 v (fault.Name place) found.2 in
    let some : deciding p.version records ≡ Some v = or_fault_ok (fault.NoVersion place) (deciding p.version records) found.0 found.1 ∙ ap Some named.1 in
    (some, ap (λ (w : IndexVersion). w.name) (sym named.1) ∙ same_text found.0.name p.name named.0)

pub fact_of : (s : Stock) (place : ℕ) (p : Package) (c : CheckedCrate) → checked s place p ≡ Ok c → Fact s place p c
fact_of s place p c h =
    let at = and_then_ok (checked_at s place p) (or_fault (fault.Name place) (path p.name)) c h in
    let q : List ℕ = at.0 in
    let named : path p.name ≡ Some q = or_fault_ok (fault.Name place) (path p.name) q at.1 in
    let record_at = and_then_ok (crate_checked s place q) (and_then (decided place p) (file_records place s.url (s.files (cache_file s.root q)))) c at.2 in
    let v : IndexVersion = record_at.0 in
    let lines = and_then_ok (decided place p) (file_records place s.url (s.files (cache_file s.root q))) v record_at.1 in
    let decides = decided_ok place p lines.0 v lines.2 in
    let bytes_at = and_then_ok (valid_bytes place q v) (crate_bytes place (crate_path s.crates v.name v.version) (s.host.stands (crate_path s.crates v.name v.version))) c record_at.2 in
    let bytes : List ℕ = bytes_at.0 in
    let made : CheckedCrate = record { place = place; path = q; version = v; bytes = bytes } in
    let valid = cond_ok (has_digest bytes v.checksum.0) made c _ bytes_at.2 in
    let there : s.host.stands (crate_path s.crates v.name v.version) ≡ File bytes = crate_there place _ _ bytes bytes_at.1 in
    subst (Fact s place p) valid.1 (record {
      path_is = named;
      name_is = decides.1;
      records = lines.0;
      kept = lines.1;
      decides = decides.0;
      crate = there;
      digest = valid.0;
    })

-- ---- all packages

abbrev pub Facts : Stock → List (ℕ × Package) → List CheckedCrate → Type 0
Facts s [] [] = Unit {0}
Facts s [] (c ∷ cs) = ⊥
Facts s (p ∷ ps) [] = ⊥
Facts s (p ∷ ps) (c ∷ cs) = Fact s p.0 p.1 c × Facts s ps cs

pub facts_of : (s : Stock) (ps : List (ℕ × Package)) (cs : List CheckedCrate) → all_checked s ps ≡ Ok cs → Facts s ps cs
facts_of s [] [] h = tt
facts_of s [] (c ∷ cs) h = cc
facts_of s (p ∷ ps) all h =
    let one = and_then_ok (λ c. and_then (λ (cs : List CheckedCrate). Ok (c ∷ cs)) (all_checked s ps)) (checked s p.0 p.1) all h in
    let more = and_then_ok (λ (cs : List CheckedCrate). Ok (one.0 ∷ cs)) (all_checked s ps) all one.2 in
    let same : one.0 ∷ more.0 ≡ all = cc in
    subst (Facts s (p ∷ ps)) same (fact_of s p.0 p.1 one.0 one.1, facts_of s ps more.0 more.1)

-- ---- names and paths

named_case : (t : Bool) (q r : List ℕ) → cond t (Some q) None ≡ Some r → (t ≡ true) × (q ≡ r)
named_case true q r h = let same : q ≡ r = cc in (refl, same)
named_case false q r h = cc

-- a path of a name is that of the name
pub path_of_name : (name q : List ℕ) → path name ≡ Some q → IsTrue (is_name name) × (relative_path (separator None) name ≡ q)
path_of_name name q h = named_case (is_name name) (relative_path (separator None) name) q h

pub pathed : (s : Stock) (ps : List (ℕ × Package)) (cs : List CheckedCrate) → Facts s ps cs → ArePathed cs
pathed s [] [] f = tt
pathed s [] (c ∷ cs) f = absurd f
pathed s (p ∷ ps) [] f = absurd f
pathed s (p ∷ ps) (c ∷ cs) f = (ap path f.0.name_is ∙ f.0.path_is, pathed s ps cs f.1)

-- ---- one package, part by part

-- a name with a path, records and a deciding record lead to the crate file
pub checked_is : (s : Stock) (place : ℕ) (p : Package) (q : List ℕ) (records : List IndexVersion) (v : IndexVersion) → path p.name ≡ Some q
    → file_records place s.url (s.files (cache_file s.root q)) ≡ Ok records → decided place p records ≡ Ok v → checked s place p ≡ crate_checked s place q v
checked_is s place p q records v named kept decides =
    ap (λ o. and_then (checked_at s place p) (or_fault (fault.Name place) o)) named
    ∙ ap (λ r. and_then (crate_checked s place q) (and_then (decided place p) r)) kept
    ∙ ap (and_then (crate_checked s place q)) decides

pub package_ok : (one other : Result CheckedCrate VendorFault) (r : Result CheckedCrate VendorFault) → one ≡ other → IfOk r (λ c. other ≡ Ok c) → IfOk r (λ c. one ≡ Ok c)
package_ok one other (Ok c) same h = same ∙ h
package_ok one other (Err e) same h = tt

pub package_refused : (one other : Result CheckedCrate VendorFault) (r : Result CheckedCrate VendorFault) → one ≡ other → IfErr r (λ e. IsTrue (is_of_package e) → other ≡ Err e)
    → IfErr r (λ e. IsTrue (is_of_package e) → one ≡ Err e)
package_refused one other (Ok c) same h = tt
package_refused one other (Err e) same h = λ told. same ∙ h told

pub text_ok : (v : IndexVersion) (name : List ℕ) (r : Result CheckedCrate VendorFault) → IsUtf8 name → v.name ≡ name → IfOk r (λ c. c.version ≡ v) → IfOk r (λ c. IsUtf8 c.version.name)
text_ok v name (Ok c) utf8 same h = subst IsUtf8 (sym same ∙ ap (λ (w : IndexVersion). w.name) (sym h)) utf8
text_ok v name (Err e) utf8 same h = tt
