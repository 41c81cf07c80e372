-- Registries of the same packages, over caches with the same records and hosts that hold the same.
use Rattle.std.proofs.Common.{◌≡◌, ◌⊎◌, inl, inr, ℕ, ◌+◌, ◌-◌, ◌^◌, min, List, [], ◌∷◌, length, IsTrue, Bool, true, false, Option, Some, None, Result, Ok, Err, refl, sym, ap, ◌∙◌, subst}
use Rattle.std.specs.Prelude.{IsOk, slice_get}
use Rattle.std.specs.List.{AllByRecursion}
use Rattle.tame_names.specs.Changes.{is_nothing, with_folders_at, with_standing}
use Rattle.tame_names.specs.Names.{path}
use Rattle.tame_names.specs.Paths.{join, ways_to}
use Rattle.tame_names.specs.Standing.{Host, Standing, Nothing, File}
use Rattle.tame_names.specs.declared.errors.CacheError.{CacheError}
use Rattle.tame_names.specs.declared.errors.Error.{Error}
use Rattle.tame_names.specs.declared.host.Listed.{Listed}
use Rattle.tame_records.specs.declared.versions.IndexVersion.{IndexVersion}
use Rattle.tame_entry.specs.Entry.{ReadEntry, read_entry}
use Rattle.tame_cache.specs.Disk as disk
use Rattle.tame_cache.specs.Kept.{Disk}
use Rattle.tame_sparse.specs.Exchanges.{crates_io_index}
use Rattle.tame_local.specs.Builders.{HostChange, Makes, Creates, after, after_change, created}
use Rattle.tame_local.specs.CrateFiles.{components}
use Rattle.tame_local.specs.Refusals.{LocalRefusal}
use Rattle.tame_local.specs.Refusals as local
use Rattle.tame_local.specs.Registries.{crate_file_names, crates_folder, file_if_parts, files_checked, folder_at, index_of, parts_checked, registry_at, validated}
use Rattle.audit_lock.specs.declared.resolving.Package.{Package}
use Rattle.audit_core.specs.Paths.{is_default}
use Rattle.audit_core.specs.Turns.{index_file}
use Rattle.audit_remedies.specs.FaultLines.{vendor_words}
use Rattle.audit_remedies.specs.Makings.{crates_io_stock}
use Rattle.upgrade_plan.specs.Recorded.{if_recorded, read_records}
use Rattle.upgrade_plan.specs.Recorded as plan
use Rattle.upgrade_plan.specs.declared.records.NoRecord.TheVariants as why
use Rattle.upgrade_plan.specs.declared.records.Recorded.{Recorded}
use Rattle.upgrade_plan.specs.declared.records.Recorded.TheVariants.{Versions, Missing}
use Rattle.vendor_registry.specs.Built.{AreFilled, IsFilled, IsOccupied, IsTaken, IsTakenAt, all_made, free_fault, path_made}
use Rattle.vendor_registry.specs.Checks.{Stock, all_checked, and_then, checked, checked_at, crate_checked, decided, entry_records, file_records, is_of_package, or_fault}
use Rattle.vendor_registry.specs.Looked.{AreInOrder, looked}
use Rattle.vendor_registry.specs.Vendored.{on, paths_of}
use Rattle.vendor_registry.specs.Vendoring.{IsRegistryMade, IsRegistryRefused, vendoring}
use Rattle.vendor_registry.specs.declared.checks.CheckedCrate.{CheckedCrate}
use Rattle.vendor_registry.specs.declared.faults.VendorFault.{VendorFault}
use Rattle.vendor_registry.specs.declared.faults.VendorFault.TheVariants as fault
use Rattle.vendor_registry.specs.declared.vendoring.Vendored.{Vendored}
use Rattle.vendor_registry.proofs.Pairs.{each_pair}
use Rattle.vendor_registry.proofs.Whole.{checked_pathed}
use Rattle.audit_program.proofs.LeftAlike.{StockSame}

-- ---- records of the cache, as a plan sees them

abbrev of_recorded : ℕ → Recorded → Result (List IndexVersion) VendorFault
of_recorded place (Versions krate) = Ok krate.versions
of_recorded place (Missing why.Record) = Err (fault.Record place)
of_recorded place (Missing why.Absent) = Err (fault.Absent place)
of_recorded place (Missing why.Source) = Err (fault.Absent place)
of_recorded place (Missing why.Name) = Err (fault.Absent place)
of_recorded place (Missing why.Store) = Err (fault.Absent place)

lines_recorded : (place : ℕ) (o : Option (List IndexVersion)) → or_fault (fault.Record place) o ≡ of_recorded place (if_recorded o)
lines_recorded place None = refl
lines_recorded place (Some versions) = refl

entry_recorded : (place : ℕ) (r : Result ReadEntry CacheError) → entry_records place r ≡ of_recorded place (read_records r)
entry_recorded place (Ok e) = lines_recorded place _
entry_recorded place (Err f) = refl

file_recorded : (place : ℕ) (url : List ℕ) (file : disk.File) → file_records place url file ≡ of_recorded place (plan.file_records url file)
file_recorded place url None = refl
file_recorded place url (Some bytes) = entry_recorded place (read_entry url bytes)

-- ---- checks over the same records and crate files

one_files : (F G : Disk) (host : Host) (crates : List ℕ) (place : ℕ) (p : Package)
    → ((q : List ℕ) → path p.name ≡ Some q → plan.file_records crates_io_index (disk.reads (F (index_file q))) ≡ plan.file_records crates_io_index (disk.reads (G (index_file q))))
    → checked (crates_io_stock F host crates) place p ≡ checked (crates_io_stock G host crates) place p
one_files F G host crates place p same = go (path p.name) refl
  where
    s : Stock
    s = crates_io_stock F host crates

    t : Stock
    t = crates_io_stock G host crates

    go : (o : Option (List ℕ)) → path p.name ≡ o → and_then (checked_at (crates_io_stock F host crates) place p) (or_fault (fault.Name place) o) ≡ and_then (checked_at (crates_io_stock G host crates) place p) (or_fault (fault.Name place) o)
    go None at = refl
    go (Some q) at =
        ap (λ (r : Result (List IndexVersion) VendorFault). and_then (crate_checked (crates_io_stock F host crates) place q) (and_then (decided place p) r))
        (file_recorded place crates_io_index (disk.reads (F (index_file q))) ∙ ap (of_recorded place) (same q at) ∙ sym (file_recorded place crates_io_index (disk.reads (G (index_file q)))))

one_host : (F : Disk) (host there : Host) (crates : List ℕ) (place : ℕ) (p : Package) → host.stands ≡ there.stands → checked (crates_io_stock F host crates) place p ≡ checked (crates_io_stock F there crates) place p
one_host F host there crates place p same = ap (λ (s : List ℕ → Standing). checked (crates_io_stock F (record host { stands = s }) crates) place p) same

all_same : (s t : Stock) (ps : List (ℕ × Package)) → AllByRecursion (λ p. checked s p.0 p.1 ≡ checked t p.0 p.1) ps → all_checked s ps ≡ all_checked t ps
all_same s t [] h = refl
all_same s t (p ∷ ps) h =
    ap (λ (r : Result CheckedCrate VendorFault). and_then (λ c. and_then (λ (cs : List CheckedCrate). Ok (c ∷ cs)) (all_checked s ps)) r) h.0
    ∙ ap (λ (r : Result (List CheckedCrate) VendorFault). and_then (λ c. and_then (λ (cs : List CheckedCrate). Ok (c ∷ cs)) r) (checked t p.0 p.1)) (all_same s t ps h.1)

each_looked : (P : ℕ → Package → Type 0) (packages : List Package) (from : ℕ) (found : List (ℕ × Package)) → AllByRecursion (λ p. is_default p.1 ≡ true) found → AreInOrder packages from found
    → ((place : ℕ) (p : Package) → slice_get packages place ≡ Some p → is_default p ≡ true → P place p) → AllByRecursion (λ p. P p.0 p.1) found
each_looked P packages from [] defaults order f = tt
each_looked P packages from (p ∷ ps) defaults order f = (f p.0 p.1 order.1 defaults.0, each_looked P packages (p.0 + 1) ps defaults.1 order.2 f)

pub stocks_same : (F G : Disk) (host there : Host) (crates : List ℕ) (packages : List Package) → StockSame F G packages → host.stands ≡ there.stands
    → all_checked (crates_io_stock F host crates) (looked packages) ≡ all_checked (crates_io_stock G there crates) (looked packages)
stocks_same F G host there crates packages stock same =
    let pairs = each_pair packages in
    all_same (crates_io_stock F host crates) (crates_io_stock G there crates) (looked packages)
    (each_looked (λ place p. checked (crates_io_stock F host crates) place p ≡ checked (crates_io_stock G there crates) place p) packages 0 (looked packages) pairs.default pairs.order
    (λ place p at default. one_files F G host crates place p (stock place p at default) ∙ one_host G host there crates place p same))

-- ---- hosts that hold the same

after_same : (cs : List HostChange) (h k : Host) → h.stands ≡ k.stands → (after cs h).stands ≡ (after cs k).stands
after_same [] h k same = same
after_same (Makes folder ∷ cs) h k same = after_same cs (after_change (Makes folder) h) (after_change (Makes folder) k) (ap (λ (s : List ℕ → Standing). with_folders_at (ways_to folder) s) same)
after_same (Creates at bytes ∷ cs) h k same = after_same cs (after_change (Creates at bytes) h) (after_change (Creates at bytes) k) (ap (λ (s : List ℕ → Standing). with_standing at (File bytes) s) same)

never_at : (folder q : List ℕ) (cs : List CheckedCrate) (h k : Host) → h.stands ≡ k.stands → IsTakenAt folder q cs h → IsFilled folder q cs k → ⊥
never_at folder q [] h k same taken filled = taken
never_at folder q (c ∷ cs) h k same taken filled =
    let none : is_nothing (h.stands (join (index_of folder) q)) ≡ true = ap (λ (s : List ℕ → Standing). is_nothing (s (join (index_of folder) q))) same ∙ ap is_nothing filled.0 in
    cc (none, taken)

taken_same : (folder : List ℕ) (cs : List CheckedCrate) (qs : List (List ℕ)) (h k now now_too : Host) → h.stands ≡ k.stands → IsTaken folder cs qs h now → IsTaken folder cs qs k now_too → now.stands ≡ now_too.stands
taken_same folder cs [] h k now now_too same taken taken_too = absurd taken
taken_same folder cs (q ∷ qs) h k now now_too same (inl a) (inl b) = ap (λ (x : Host). x.stands) a.1 ∙ same ∙ sym (ap (λ (x : Host). x.stands) b.1)
taken_same folder cs (q ∷ qs) h k now now_too same (inl a) (inr b) = absurd (never_at folder q (on q cs) h k same a.0 b.0)
taken_same folder cs (q ∷ qs) h k now now_too same (inr a) (inl b) = absurd (never_at folder q (on q cs) k h (sym same) b.0 a.0)
taken_same folder cs (q ∷ qs) h k now now_too same (inr a) (inr b) =
    taken_same folder cs qs (after (path_made folder q (on q cs)) h) (after (path_made folder q (on q cs)) k) now now_too (after_same (path_made folder q (on q cs)) h k same) a.1 b.1

taken_filled : (folder : List ℕ) (cs : List CheckedCrate) (qs : List (List ℕ)) (h k now : Host) → h.stands ≡ k.stands → IsTaken folder cs qs h now → AreFilled folder cs qs k → ⊥
taken_filled folder cs [] h k now same taken filled = taken
taken_filled folder cs (q ∷ qs) h k now same (inl a) filled = never_at folder q (on q cs) h k same a.0 filled.0
taken_filled folder cs (q ∷ qs) h k now same (inr a) filled =
    taken_filled folder cs qs (after (path_made folder q (on q cs)) h) (after (path_made folder q (on q cs)) k) now (after_same (path_made folder q (on q cs)) h k same) a.1 filled.1

-- ---- a registry that is opened

parts_same : (h k : Host) (index folder file : List ℕ) (o : Option (List ℕ × List ℕ)) → h.stands ≡ k.stands → file_if_parts h index folder file o ≡ file_if_parts k index folder file o
parts_same h k index folder file None same = refl
parts_same h k index folder file (Some parts) same = ap (λ (s : List ℕ → Standing). parts_checked (record h { stands = s }) index folder file parts) same

files_same : (h k : Host) (index folder : List ℕ) (files : List (List ℕ)) → h.stands ≡ k.stands → files_checked h index folder files ≡ files_checked k index folder files
files_same h k index folder [] same = refl
files_same h k index folder (file ∷ files) same =
    ap (λ (r : Result Unit LocalRefusal). local.and_then (λ done. files_checked h index folder files) r) (parts_same h k index folder file (components file) same)
    ∙ ap (λ (r : Result Unit LocalRefusal). local.and_then (λ done. r) (file_if_parts k index folder file (components file))) (files_same h k index folder files same)

entries_same : (h k : Host) (index : List ℕ) (r : Result (List Listed) LocalRefusal) → h.stands ≡ k.stands
    → local.and_then (λ entries. files_checked h index (crates_folder index) (crate_file_names [] entries)) r ≡ local.and_then (λ entries. files_checked k index (crates_folder index) (crate_file_names [] entries)) r
entries_same h k index (Ok entries) same = files_same h k index (crates_folder index) (crate_file_names [] entries) same
entries_same h k index (Err e) same = refl

validated_same : (h k : Host) (index : List ℕ) → h.stands ≡ k.stands → validated h index ≡ validated k index
validated_same h k index same =
    ap (λ (s : List ℕ → Standing). local.and_then (λ entries. files_checked h index (crates_folder index) (crate_file_names [] entries)) (folder_at (crates_folder index) (s (crates_folder index)))) same
    ∙ entries_same h k index (folder_at (crates_folder index) (k.stands (crates_folder index))) same

registry_same : (h k : Host) (folder : List ℕ) → h.stands ≡ k.stands → registry_at h folder true ≡ registry_at k folder true
registry_same h k folder same =
    let index : List ℕ = index_of folder in
    ap (λ (s : List ℕ → Standing). local.and_then (λ entries. local.and_then (λ done. Ok index) (validated h index)) (folder_at index (s index))) same
    ∙ ap (λ (r : Result Unit LocalRefusal). local.and_then (λ entries. local.and_then (λ done. Ok index) r) (folder_at index (k.stands index))) (validated_same h k index same)

-- ---- why none is created, by what is there

-- a refusal that comes neither from a failed call nor from out of memory
abbrev pub is_said : VendorFault → Bool
is_said (fault.Store at) = false
is_said (fault.File at) = false
is_said fault.NoMemory = false
is_said e = true

-- a package is refused; or the folder; or an index file has come; or what was built doesn't agree
abbrev IsPackage : Stock → List Package → Host → VendorFault → Type 0
IsPackage stock packages now e = (all_checked stock (looked packages) ≡ Err e) × (now ≡ stock.host)

record IsFolder (stock : Stock) (packages : List Package) (to : List ℕ) (now : Host) (e : VendorFault) : Type 0 where
  pub cs : List CheckedCrate
  pub are : all_checked stock (looked packages) ≡ Ok cs
  pub there : free_fault (stock.host.stands to) ≡ Some e
  pub same : now ≡ stock.host

record IsCome (stock : Stock) (packages : List Package) (to : List ℕ) (now : Host) (e : VendorFault) : Type 0 where
  pub cs : List CheckedCrate
  pub are : all_checked stock (looked packages) ≡ Ok cs
  pub one : e ≡ fault.NotEmpty 1
  pub free : free_fault (stock.host.stands to) ≡ None
  pub taken : IsTaken to cs (paths_of cs) (after_change (created to) stock.host) now

record IsOtherwise (stock : Stock) (packages : List Package) (to : List ℕ) (now : Host) (e : VendorFault) : Type 0 where
  pub cs : List CheckedCrate
  pub are : all_checked stock (looked packages) ≡ Ok cs
  pub why : Error
  pub one : e ≡ fault.ReadBack why
  pub free : free_fault (stock.host.stands to) ≡ None
  pub filled : AreFilled to cs (paths_of cs) (after_change (created to) stock.host)
  pub made : now ≡ after (all_made to cs) stock.host
  pub refused : registry_at now to true ≡ Err (local.refused why)

abbrev IsSo : Stock → List Package → List ℕ → Host → VendorFault → Type 0
IsSo stock packages to now e =
    IsPackage stock packages now e ⊎ (IsFolder stock packages to now e ⊎ (IsCome stock packages to now e ⊎ IsOtherwise stock packages to now e))

ok_of : (r : Result (List CheckedCrate) VendorFault) → IsOk r → (cs : List CheckedCrate) × (r ≡ Ok cs)
ok_of (Ok cs) is = (cs, refl)
ok_of (Err e) is = cc (is)

so_is : (F D : Type 0) (stock : Stock) (packages : List Package) (to : List ℕ) (now : Host) (n n_now : ℕ) (e : VendorFault) → F → D → IsTrue (is_said e)
    → IsRegistryRefused (vendoring F D stock packages to now n n_now) e → IsSo stock packages to now e
so_is F D stock packages to now n n_now (fault.Name at) f d said h = inl (h.refused f d refl, h.unwritten f refl)
so_is F D stock packages to now n n_now (fault.Absent at) f d said h = inl (h.refused f d refl, h.unwritten f refl)
so_is F D stock packages to now n n_now (fault.Record at) f d said h = inl (h.refused f d refl, h.unwritten f refl)
so_is F D stock packages to now n n_now (fault.NoVersion at) f d said h = inl (h.refused f d refl, h.unwritten f refl)
so_is F D stock packages to now n n_now (fault.NoCrate at) f d said h = inl (h.refused f d refl, h.unwritten f refl)
so_is F D stock packages to now n n_now (fault.TooLarge at len) f d said h = inl (h.refused f d refl, h.unwritten f refl)
so_is F D stock packages to now n n_now (fault.Digest at found) f d said h = inl (h.refused f d refl, h.unwritten f refl)
so_is F D stock packages to now n n_now (fault.Store at) f d said h = cc (said)
so_is F D stock packages to now n n_now (fault.File at) f d said h = cc (said)
so_is F D stock packages to now n n_now fault.NoMemory f d said h = cc (said)
so_is F D stock packages to now n n_now fault.NotADirectory f d said h =
    let checks = ok_of (all_checked stock (looked packages)) (h.behind f d refl) in
    inr (inl (record { cs = checks.0; are = checks.1; there = h.occupied f; same = h.unmade f (h.occupied f) }))
so_is F D stock packages to now n n_now (fault.ReadBack why) f d said h =
    let back = h.read_back f why refl in
    let checks = back.1 d in
    let pathed = checked_pathed stock packages back.0 checks in
    inr (inr (inr (record { cs = back.0; are = checks; why = why; one = refl; free = back.2.free; filled = back.2.filled pathed; made = back.2.made pathed; refused = back.2.refused })))
so_is F D stock packages to now n n_now (fault.NotEmpty count) f d said h = go (h.occupied f)
  where
    go : IsOccupied (stock.host.stands to) (fault.NotEmpty count) → IsSo stock packages to now (fault.NotEmpty count)
    go (inl there) =
        let checks = ok_of (all_checked stock (looked packages)) (h.behind f d refl) in
        inr (inl (record { cs = checks.0; are = checks.1; there = there; same = h.unmade f there }))
    go (inr free) =
        let taken = h.taken f d count refl free.0 in
        inr (inr (inl (record { cs = taken.0; are = taken.1; one = ap (λ (x : ℕ). fault.NotEmpty x) free.1; free = free.0; taken = taken.2 })))

-- ---- two of them

both_ok : (r s : Result (List CheckedCrate) VendorFault) (cs ds : List CheckedCrate) → r ≡ s → r ≡ Ok cs → s ≡ Ok ds → cs ≡ ds
both_ok r s cs ds same is too = cc (same, is, too)

never_both : {X : Type 0} (r s : Result (List CheckedCrate) VendorFault) (e : VendorFault) (ds : List CheckedCrate) → r ≡ s → r ≡ Err e → s ≡ Ok ds → X
never_both r s e ds same is too = cc (same, is, too)

never_free : {X : Type 0} (a b : List ℕ → Standing) (to : List ℕ) (e : VendorFault) → a ≡ b → free_fault (a to) ≡ Some e → free_fault (b to) ≡ None → X
never_free a b to e same is free = let one : free_fault (a to) ≡ free_fault (b to) = ap (λ (s : List ℕ → Standing). free_fault (s to)) same in cc (one, is, free)

module _ (stock other : Stock) (packages packages_too : List Package) (to : List ℕ) (checks : all_checked stock (looked packages) ≡ all_checked other (looked packages_too)) (stands : stock.host.stands ≡ other.host.stands) where
  created_same : (after_change (created to) stock.host).stands ≡ (after_change (created to) other.host).stands
  created_same = after_same (created to ∷ []) stock.host other.host stands

  come_otherwise : (now now_too : Host) (e g : VendorFault) → IsCome stock packages to now e → IsOtherwise other packages_too to now_too g → ⊥
  come_otherwise now now_too e g h k =
      let same = both_ok _ _ h.cs k.cs checks h.are k.are in
      taken_filled to k.cs (paths_of k.cs) (after_change (created to) stock.host) (after_change (created to) other.host) now created_same
      (subst (λ (cs : List CheckedCrate). IsTaken to cs (paths_of cs) (after_change (created to) stock.host) now) same h.taken) k.filled

  otherwise_come : (now now_too : Host) (e g : VendorFault) → IsOtherwise stock packages to now e → IsCome other packages_too to now_too g → ⊥
  otherwise_come now now_too e g h k =
      let same = both_ok _ _ h.cs k.cs checks h.are k.are in
      taken_filled to k.cs (paths_of k.cs) (after_change (created to) other.host) (after_change (created to) stock.host) now_too (sym created_same) k.taken
      (subst (λ (cs : List CheckedCrate). AreFilled to cs (paths_of cs) (after_change (created to) stock.host)) same h.filled)

  built_same : (now now_too : Host) (cs ds : List CheckedCrate) → cs ≡ ds → now ≡ after (all_made to cs) stock.host → now_too ≡ after (all_made to ds) other.host → now.stands ≡ now_too.stands
  built_same now now_too cs ds same h k =
      ap (λ (x : Host). x.stands) h ∙ ap (λ (xs : List CheckedCrate). (after (all_made to xs) stock.host).stands) same ∙ after_same (all_made to ds) stock.host other.host stands ∙ sym (ap (λ (x : Host). x.stands) k)

  unmoved : (now now_too : Host) → now ≡ stock.host → now_too ≡ other.host → now.stands ≡ now_too.stands
  unmoved now now_too h k = ap (λ (x : Host). x.stands) h ∙ stands ∙ sym (ap (λ (x : Host). x.stands) k)

  so_same : (now now_too : Host) (e g : VendorFault) → IsSo stock packages to now e → IsSo other packages_too to now_too g → (vendor_words e ≡ vendor_words g) × (now.stands ≡ now_too.stands)
  so_same now now_too e g (inl h) (inl k) =
      let one = h.0 in
      let two = k.0 in
      let same : e ≡ g = cc (checks, one, two) in
      (ap vendor_words same, unmoved now now_too h.1 k.1)
  so_same now now_too e g (inl h) (inr (inl k)) = never_both _ _ e k.cs checks h.0 k.are
  so_same now now_too e g (inl h) (inr (inr (inl k))) = never_both _ _ e k.cs checks h.0 k.are
  so_same now now_too e g (inl h) (inr (inr (inr k))) = never_both _ _ e k.cs checks h.0 k.are
  so_same now now_too e g (inr (inl h)) (inl k) = never_both _ _ g h.cs (sym checks) k.0 h.are
  so_same now now_too e g (inr (inr (inl h))) (inl k) = never_both _ _ g h.cs (sym checks) k.0 h.are
  so_same now now_too e g (inr (inr (inr h))) (inl k) = never_both _ _ g h.cs (sym checks) k.0 h.are
  so_same now now_too e g (inr (inl h)) (inr (inl k)) =
      let one = h.there in
      let two = k.there in
      let places : free_fault (stock.host.stands to) ≡ free_fault (other.host.stands to) = ap (λ (s : List ℕ → Standing). free_fault (s to)) stands in
      let same : e ≡ g = cc (places, one, two) in
      (ap vendor_words same, unmoved now now_too h.same k.same)
  so_same now now_too e g (inr (inl h)) (inr (inr (inl k))) = never_free stock.host.stands other.host.stands to e stands h.there k.free
  so_same now now_too e g (inr (inl h)) (inr (inr (inr k))) = never_free stock.host.stands other.host.stands to e stands h.there k.free
  so_same now now_too e g (inr (inr (inl h))) (inr (inl k)) = never_free other.host.stands stock.host.stands to g (sym stands) k.there h.free
  so_same now now_too e g (inr (inr (inr h))) (inr (inl k)) = never_free other.host.stands stock.host.stands to g (sym stands) k.there h.free
  so_same now now_too e g (inr (inr (inl h))) (inr (inr (inl k))) =
      let same = both_ok _ _ h.cs k.cs checks h.are k.are in (
        ap vendor_words (h.one ∙ sym k.one),
        taken_same to k.cs (paths_of k.cs) (after_change (created to) stock.host) (after_change (created to) other.host) now now_too created_same
            (subst (λ (cs : List CheckedCrate). IsTaken to cs (paths_of cs) (after_change (created to) stock.host) now) same h.taken) k.taken,
      )
  so_same now now_too e g (inr (inr (inl h))) (inr (inr (inr k))) = absurd (come_otherwise now now_too e g h k)
  so_same now now_too e g (inr (inr (inr h))) (inr (inr (inl k))) = absurd (otherwise_come now now_too e g h k)
  so_same now now_too e g (inr (inr (inr h))) (inr (inr (inr k))) =
      (ap vendor_words h.one ∙ sym (ap vendor_words k.one), built_same now now_too h.cs k.cs (both_ok _ _ h.cs k.cs checks h.are k.are) h.made k.made)

  -- a registry that was created excludes each of them
  made_so : {F D : Type 0} (now now_too : Host) (n n_now : ℕ) (w : Vendored) (g : VendorFault) → F → D → IsRegistryMade (vendoring F D stock packages to now n n_now) w → IsSo other packages_too to now_too g → ⊥
  made_so now now_too n n_now w g f d h (inl k) = let built = h.built f d in never_both _ _ g built.0 (sym checks) k.0 built.1
  made_so now now_too n n_now w g f d h (inr (inl k)) = never_free other.host.stands stock.host.stands to g (sym stands) k.there (h.free f)
  made_so now now_too n n_now w g f d h (inr (inr (inl k))) =
      taken_filled to k.cs (paths_of k.cs) (after_change (created to) other.host) (after_change (created to) stock.host) now_too (sym created_same) k.taken (h.filled f d k.cs (checks ∙ k.are))
  made_so now now_too n n_now w g f d h (inr (inr (inr k))) =
      let built = h.built f d in
      let same = built_same now now_too built.0 k.cs (both_ok _ _ built.0 k.cs checks built.1 k.are) built.2 k.made in
      let one = h.opened f in
      let two = k.refused in
      let three = registry_same now now_too to same in
      cc (one, two, three)

  pub refused_same : {F D G E : Type 0} (now now_too : Host) (n n_now n_too n_now_too : ℕ) (e g : VendorFault) → F → D → G → E → IsTrue (is_said e) → IsTrue (is_said g)
      → IsRegistryRefused (vendoring F D stock packages to now n n_now) e → IsRegistryRefused (vendoring G E other packages_too to now_too n_too n_now_too) g
      → (vendor_words e ≡ vendor_words g) × (now.stands ≡ now_too.stands)
  refused_same {F} {D} {G} {E} now now_too n n_now n_too n_now_too e g f d f_too d_too said said_too h k =
      so_same now now_too e g (so_is F D stock packages to now n n_now e f d said h) (so_is G E other packages_too to now_too n_too n_now_too g f_too d_too said_too k)

  pub made_refused : {F D G E : Type 0} (now now_too : Host) (n n_now n_too n_now_too : ℕ) (w : Vendored) (g : VendorFault) → F → D → G → E → IsTrue (is_said g)
      → IsRegistryMade (vendoring F D stock packages to now n n_now) w → IsRegistryRefused (vendoring G E other packages_too to now_too n_too n_now_too) g → ⊥
  made_refused {F} {D} {G} {E} now now_too n n_now n_too n_now_too w g f d f_too d_too said h k =
      made_so now now_too n n_now w g f d h (so_is G E other packages_too to now_too n_too n_now_too g f_too d_too said k)

  pub made_both : {F D G E : Type 0} (now now_too : Host) (n n_now n_too n_now_too : ℕ) (w x : Vendored) → F → D → G → E
      → IsRegistryMade (vendoring F D stock packages to now n n_now) w → IsRegistryMade (vendoring G E other packages_too to now_too n_too n_now_too) x
      → (w.packages ≡ x.packages) × (w.bytes ≡ x.bytes) × (now.stands ≡ now_too.stands)
  made_both now now_too n n_now n_too n_now_too w x f d f_too d_too h k =
      let built = h.built f d in
      let built_too = k.built f_too d_too in
      let one = h.counted f d built_too.0 (checks ∙ built_too.1) in
      let two = k.counted f_too d_too built_too.0 built_too.1 in
      (one.0 ∙ sym two.0, one.1 ∙ sym two.1, built_same now now_too built.0 built_too.0 (both_ok _ _ built.0 built_too.0 checks built.1 built_too.1) built.2 built_too.2)
