-- The records of a file of the cache are those of its entry.
use Rattle.std.proofs.Common.{◌≡◌, ◌⊎◌, inl, inr, ℕ, List, [], ◌∷◌, ◌++◌, map, Option, Some, None, option_map, Result, Ok, Err, IsTrue, refl, sym, ap, ◌∙◌, subst, append_assoc}
use Rattle.std.specs.Prelude.{option_and_then, IfOk, IfErr}
use Rattle.std.proofs.lemmas.Bool.{false≢true}
use Rattle.tame_names.specs.Pieces.{pieces}
use Rattle.tame_names.specs.declared.errors.CacheError.{CacheError}
use Rattle.tame_records.specs.Krates.{records_of}
use Rattle.tame_records.specs.Record.{record_of}
use Rattle.tame_records.specs.declared.versions.IndexVersion.{IndexVersion}
use Rattle.tame_entry.specs.Entry.{ReadEntry, read_entry, second_pieces}
use Rattle.tame_entry.specs.Krates.{Item, items_of_file, iterated, paired}
use Rattle.tame_entry.specs.declared.index_entries.IndexEntry.{IndexEntry}
use Rattle.tame_entry.specs.declared.index_entries.IndexEntry.TheVariants.{Remote, Cache, Local}
use Rattle.tame_cache.specs.CacheFiles.{HandsOut}
use Rattle.tame_cache.specs.Disk.{File}
use Rattle.vendor_registry.proofs.Ahead.{before}
use Rattle.vendor_registry.specs.Checks.{entry_records, file_records, is_of_package, items_records, or_fault}
use Rattle.vendor_registry.specs.declared.faults.VendorFault.{VendorFault}
use Rattle.vendor_registry.specs.declared.faults.VendorFault.TheVariants as fault

-- ---- one more line

pub before_more : (xs : List IndexVersion) (x : IndexVersion) (o : Option (List IndexVersion)) → before xs (option_map (λ (ys : List IndexVersion). x ∷ ys) o) ≡ before (xs ++ x ∷ []) o
before_more xs x None = refl
before_more xs x (Some ys) = ap Some (sym (append_assoc xs (x ∷ []) ys))

abbrev behind : List Item → Option (List IndexVersion)
behind items = records_of (map (λ (i : Item). i.1) items)

pub read_more : (all left next : List Item) (rs more : List IndexVersion) (i : Item) (r : IndexVersion) → behind all ≡ before rs (behind left) → left ≡ i ∷ next → record_of i.1 ≡ Some r → more ≡ rs ++ r ∷ []
    → behind all ≡ before more (behind next)
read_more all left next rs more i r so_far steps is added =
    so_far ∙ ap (λ (s : List Item). before rs (behind s)) steps
    ∙ ap (λ (o : Option IndexVersion). before rs (option_and_then (λ x. option_map (λ (ys : List IndexVersion). x ∷ ys) (behind next)) o)) is
    ∙ before_more rs r (behind next) ∙ ap (λ (xs : List IndexVersion). before xs (behind next)) (sym added)

-- ---- of a file

lines_paired : (ps : List (List ℕ)) → map (λ (i : Item). i.1) (paired ps) ≡ second_pieces ps
lines_paired [] = refl
lines_paired (version ∷ []) = refl
lines_paired (version ∷ line ∷ more) = ap (λ (ls : List (List ℕ)). line ∷ ls) (lines_paired more)

of_read : (place : ℕ) (r : Result ReadEntry CacheError) → items_records place (items_of_file r) ≡ entry_records place r
of_read place (Ok e) = ap (λ (ls : List (List ℕ)). or_fault (fault.Record place) (records_of ls)) (lines_paired (pieces 0 e.versions))
of_read place (Err f) = refl

-- what is returned of a file has its records
pub of_file : (place : ℕ) (url : List ℕ) (entry : IndexEntry) (file : File) → HandsOut url (Some entry) file → items_records place (iterated entry) ≡ file_records place url file
of_file place url (Cache bytes index) file h = rw (h.0, h.1) (of_read place (read_entry url bytes))
of_file place url (Remote json_lines) file h = absurd h
of_file place url (Local bytes) file h = absurd h

pub ok_of_file : (place : ℕ) (url : List ℕ) (entry : IndexEntry) (o : Option IndexEntry) (file : File) (r : Result (List IndexVersion) VendorFault) → o ≡ Some entry → HandsOut url o file
    → IfOk r (λ vs. items_records place (iterated entry) ≡ Ok vs) → IfOk r (λ vs. file_records place url file ≡ Ok vs)
ok_of_file place url entry o file (Ok vs) there h is =
    sym (of_file place url entry file (subst (λ x. HandsOut url x file) there h)) ∙ is
ok_of_file place url entry o file (Err e) there h is = tt

untold : (e : VendorFault) → e ≡ fault.NoMemory → IsTrue (is_of_package e) → ⊥
untold e is told = false≢true (subst (λ (x : VendorFault). IsTrue (is_of_package x)) is told)

pub refused_of_file : (place : ℕ) (url : List ℕ) (entry : IndexEntry) (o : Option IndexEntry) (file : File) (r : Result (List IndexVersion) VendorFault) → o ≡ Some entry → HandsOut url o file
    → IfErr r (λ e. (e ≡ fault.NoMemory) ⊎ (IsTrue (is_of_package e) × (items_records place (iterated entry) ≡ Err e)))
    → IfErr r (λ e. IsTrue (is_of_package e) → file_records place url file ≡ Err e)
refused_of_file place url entry o file (Ok vs) there h is = tt
refused_of_file place url entry o file (Err e) there h (inl is) = λ told. absurd (untold e is told)
refused_of_file place url entry o file (Err e) there h (inr is) = λ told.
    sym (of_file place url entry file (subst (λ x. HandsOut url x file) there h)) ∙ is.1
