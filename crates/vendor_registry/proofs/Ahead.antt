-- What was read, before what is left.
use Rattle.std.proofs.Common.{◌≡◌, ℕ, ◌+◌, List, [], ◌∷◌, ◌++◌, true, false, cond, Option, Some, None, Result, Ok, Err, refl, sym, ap, ◌∙◌, append_assoc}
use Rattle.std.specs.Prelude.{filter}
use Rattle.std.specs.List.{enumerate_from}
use Rattle.tame_cache.specs.Disk.{Step, reads}
use Rattle.tame_cache.specs.Kept.{cache_file}
use Rattle.tame_names.specs.Names.{path}
use Rattle.tame_names.specs.Standing.{Host}
use Rattle.tame_sparse.specs.declared.sparse.SparseIndex.{SparseIndex}
use Rattle.audit_lock.specs.declared.resolving.Package.{Package}
use Rattle.vendor_registry.specs.Checks.{Stock, all_checked, and_then, checked, checked_at, crate_checked, decided, file_records, or_fault, stock_of}
use Rattle.std.specs.Str.{IsUtf8}
use Rattle.vendor_registry.specs.Looked.{is_looked}
use Rattle.vendor_registry.specs.Named.{AreTexts}
use Rattle.vendor_registry.specs.declared.checks.CheckedCrate.{CheckedCrate}
use Rattle.vendor_registry.specs.declared.faults.VendorFault.{VendorFault}
use Rattle.vendor_registry.specs.declared.faults.VendorFault.TheVariants as fault

abbrev pub before : {A : Type 0} → List A → Option (List A) → Option (List A)
before xs None = None
before xs (Some ys) = Some (xs ++ ys)

-- the same for packages that are checked
abbrev pub behind : {A E : Type 0} → List A → Result (List A) E → Result (List A) E
behind xs (Ok ys) = Ok (xs ++ ys)
behind xs (Err e) = Err e

-- ---- packages that are left

abbrev pub rest : Stock → List Package → ℕ → List Package → Result (List CheckedCrate) VendorFault
rest s all i ps = all_checked s (filter (is_looked all) (enumerate_from i ps))

next_case : (cs : List CheckedCrate) (c : CheckedCrate) (r : Result (List CheckedCrate) VendorFault) → behind cs (and_then (λ (ds : List CheckedCrate). Ok (c ∷ ds)) r) ≡ behind (cs ++ c ∷ []) r
next_case cs c (Ok ds) = ap Ok (sym (append_assoc cs (c ∷ []) ds))
next_case cs c (Err e) = refl

pub rest_taken : (s : Stock) (all : List Package) (i : ℕ) (p : Package) (ps : List Package) (cs : List CheckedCrate) (c : CheckedCrate) → is_looked all (i, p) ≡ true → checked s i p ≡ Ok c
    → behind cs (rest s all i (p ∷ ps)) ≡ behind (cs ++ c ∷ []) (rest s all (i + 1) ps)
rest_taken s all i p ps cs c is done =
    ap (λ b. behind cs (all_checked s (cond b ((i, p) ∷ filter (is_looked all) (enumerate_from (i + 1) ps)) (filter (is_looked all) (enumerate_from (i + 1) ps))))) is
    ∙ ap (λ r. behind cs (and_then (λ d. and_then (λ (ds : List CheckedCrate). Ok (d ∷ ds)) (rest s all (i + 1) ps)) r)) done
    ∙ next_case cs c (rest s all (i + 1) ps)

pub rest_passed : (s : Stock) (all : List Package) (i : ℕ) (p : Package) (ps : List Package) → is_looked all (i, p) ≡ false
    → rest s all i (p ∷ ps) ≡ rest s all (i + 1) ps
rest_passed s all i p ps is =
    ap (λ b. all_checked s (cond b ((i, p) ∷ filter (is_looked all) (enumerate_from (i + 1) ps)) (filter (is_looked all) (enumerate_from (i + 1) ps)))) is

pub rest_refused : (s : Stock) (all : List Package) (i : ℕ) (p : Package) (ps : List Package) (e : VendorFault) → is_looked all (i, p) ≡ true → checked s i p ≡ Err e
    → rest s all i (p ∷ ps) ≡ Err e
rest_refused s all i p ps e is done =
    ap (λ b. all_checked s (cond b ((i, p) ∷ filter (is_looked all) (enumerate_from (i + 1) ps)) (filter (is_looked all) (enumerate_from (i + 1) ps)))) is
    ∙ ap (λ r. and_then (λ d. and_then (λ (ds : List CheckedCrate). Ok (d ∷ ds)) (rest s all (i + 1) ps)) r) done

-- ---- a disk that stays

-- over files that are read as before a package is checked as before
pub checked_same : (past now : List ℕ → List Step) (index : SparseIndex) (host : Host) (crates : List ℕ) (i : ℕ) (p : Package) → ((q : List ℕ) → now q ≡ past q)
    → checked (stock_of now index host crates) i p ≡ checked (stock_of past index host crates) i p
checked_same past now index host crates i p same = named_case (path p.name)
  where
    named_case : (o : Option (List ℕ)) → and_then (checked_at (stock_of now index host crates) i p) (or_fault (fault.Name i) o)
        ≡ and_then (checked_at (stock_of past index host crates) i p) (or_fault (fault.Name i) o)
    named_case None = refl
    named_case (Some q) =
        ap (λ (steps : List Step). and_then (crate_checked (stock_of past index host crates) i q)
        (and_then (decided i p) (file_records i index.cache.index (reads steps)))) (same (cache_file index.cache.path q))

-- ---- where a loop begins and ends

-- ---- the next package

pub texts_more : (cs : List CheckedCrate) (c : CheckedCrate) → AreTexts cs → IsUtf8 c.version.name → AreTexts (cs ++ c ∷ [])
texts_more [] c all is = (is, tt)
texts_more (d ∷ ds) c all is = (all.0, texts_more ds c all.1 is)

pub same_check : (past now : List ℕ → List Step) (index : SparseIndex) (host mid : Host) (crates : List ℕ) (i : ℕ) (p : Package) → ((q : List ℕ) → now q ≡ past q) → mid ≡ host
    → checked (stock_of past index host crates) i p ≡ checked (stock_of now index mid crates) i p
same_check past now index host mid crates i p same files =
    sym (checked_same past now index host crates i p same) ∙ ap (λ h. checked (stock_of now index h crates) i p) (sym files)

pub taken_here : (past now : List ℕ → List Step) (index : SparseIndex) (host mid : Host) (crates : List ℕ) (all ps left : List Package) (i : ℕ) (p : Package) (cs : List CheckedCrate) (c : CheckedCrate)
    → ((q : List ℕ) → now q ≡ past q) → mid ≡ host → left ≡ p ∷ ps → is_looked all (i, p) ≡ true
    → rest (stock_of past index host crates) all 0 all ≡ behind cs (rest (stock_of past index host crates) all i left)
    → checked (stock_of now index mid crates) i p ≡ Ok c
    → rest (stock_of past index host crates) all 0 all ≡ behind (cs ++ c ∷ []) (rest (stock_of past index host crates) all (i + 1) ps)
taken_here past now index host mid crates all ps left i p cs c same files at is so_far done =
    let s : Stock = stock_of past index host crates in
    so_far ∙ ap (λ l. behind cs (rest s all i l)) at ∙ rest_taken s all i p ps cs c is (same_check past now index host mid crates i p same files ∙ done)

pub passed_here : (s : Stock) (all ps left : List Package) (i : ℕ) (p : Package) (cs : List CheckedCrate) → left ≡ p ∷ ps → is_looked all (i, p) ≡ false
    → rest s all 0 all ≡ behind cs (rest s all i left) → rest s all 0 all ≡ behind cs (rest s all (i + 1) ps)
passed_here s all ps left i p cs at is so_far =
    so_far ∙ ap (λ l. behind cs (rest s all i l)) at ∙ ap (behind cs) (rest_passed s all i p ps is)

pub refused_here : (past now : List ℕ → List Step) (index : SparseIndex) (host mid : Host) (crates : List ℕ) (all ps left : List Package) (i : ℕ) (p : Package) (cs : List CheckedCrate) (e : VendorFault)
    → ((q : List ℕ) → now q ≡ past q) → mid ≡ host → left ≡ p ∷ ps → is_looked all (i, p) ≡ true
    → rest (stock_of past index host crates) all 0 all ≡ behind cs (rest (stock_of past index host crates) all i left)
    → checked (stock_of now index mid crates) i p ≡ Err e
    → rest (stock_of past index host crates) all 0 all ≡ Err e
refused_here past now index host mid crates all ps left i p cs e same files at is so_far done =
    let s : Stock = stock_of past index host crates in
    so_far ∙ ap (λ l. behind cs (rest s all i l)) at ∙ ap (behind cs) (rest_refused s all i p ps e is (same_check past now index host mid crates i p same files ∙ done))
