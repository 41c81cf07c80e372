-- A folder that was built of what was checked is vendored, and agrees with its index.
use Rattle.std.proofs.Common.{◌≡◌, ℕ, ◌-◌, ◌^◌, List, [], ◌∷◌, length, true, None, Some, inl, inr, Result, Ok, Err, refl, sym, ap, ◌∙◌, subst, ◌⊎◌, ◌++◌}
use Rattle.std.specs.Prelude.{min, IfErr, IsOk}
use Rattle.tame_names.specs.Changes.{is_folder}
use Rattle.tame_names.specs.Standing.{Host, Standing, Nothing, File, Folder, Other}
use Rattle.tame_names.specs.declared.host.Listed.{Listed}
use Rattle.tame_local.specs.Builders.{after, after_change, created, free_at}
use Rattle.tame_local.specs.Builders as builders
use Rattle.tame_local.specs.Inserts.{StandsPlain}
use Rattle.tame_names.specs.declared.errors.Error.{Error}
use Rattle.tame_local.specs.Refusals.{LocalRefusal}
use Rattle.tame_local.specs.Refusals.{refused as refused_by}
use Rattle.tame_local.specs.Refusals as local
use Rattle.tame_local.specs.Registries.{folder_at, index_of, registry_at, validated}
use Rattle.audit_lock.specs.declared.resolving.Package.{Package}
use Rattle.vendor_registry.specs.declared.faults.VendorFault.{VendorFault}
use Rattle.vendor_registry.specs.declared.faults.VendorFault.TheVariants as fault
use Rattle.vendor_registry.proofs.Absent.{never_taken}
use Rattle.tame_local.proofs.Agreed.{registry_agrees, start_sound}
use Rattle.tame_local.proofs.Agreeing.{Sound}
use Rattle.tame_local.proofs.Beginnings.{begin_empty}
use Rattle.vendor_registry.proofs.Decided.{all_decided, stocked_on}
use Rattle.vendor_registry.proofs.Exact.{all_size, holds_each, holds_no_other, known}
use Rattle.vendor_registry.proofs.Facts.{facts_of, pathed}
use Rattle.vendor_registry.proofs.Places.{read_back_same}
use Rattle.vendor_registry.proofs.Stocked.{paths_sound}
use Rattle.vendor_registry.specs.Built.{IsBuildFault, IsOccupied, IsReadBack, IsStoppedBy, IsTaken, all_made, free_fault}
use Rattle.vendor_registry.specs.Checks.{IsStopped, Stock, all_checked}
use Rattle.vendor_registry.specs.Failed.{IsToldIn, IsWithin}
use Rattle.vendor_registry.specs.Looked.{looked}
use Rattle.vendor_registry.specs.Named.{ArePathed, AreTexts, AreVersioned, IsFolderPath, IsPlace}
use Rattle.vendor_registry.specs.Vendored.{HoldsEach, HoldsNoOther, IsBare, IsVendored, paths_of, size_of, vendored_files}
use Rattle.vendor_registry.specs.declared.checks.CheckedCrate.{CheckedCrate}
use Rattle.vendor_registry.specs.declared.vendoring.Vendored.{Vendored}

-- ---- a registry that was opened

parts : {A B : Type 0} (f : A → Result B LocalRefusal) (r : Result A LocalRefusal) (b : B) → local.and_then f r ≡ Ok b → (a : A) × (r ≡ Ok a) × (f a ≡ Ok b)
parts f (Ok a) b h = (a, refl, h)
parts f (Err e) b h = cc

folder_there : (path : List ℕ) (s : Standing) (entries : List Listed) → folder_at path s ≡ Ok entries → is_folder s ≡ true
folder_there path Nothing entries h = cc
folder_there path (File bs) entries h = cc
folder_there path (Folder es) entries h = refl
folder_there path Other entries h = cc

done_ok : (r : Result Unit LocalRefusal) (a : Unit) → r ≡ Ok a → r ≡ Ok tt
done_ok r a h = h

abbrev path_in : Result (List ℕ) LocalRefusal → List ℕ
path_in (Ok p) = p
path_in (Err e) = []

pub record IsOpened (host : Host) (folder path : List ℕ) : Type 0 where
  pub index : is_folder (host.stands (index_of folder)) ≡ true
  pub agrees : validated host (index_of folder) ≡ Ok tt
  pub path_is : path ≡ index_of folder

pub opened : (host : Host) (folder path : List ℕ) → registry_at host folder true ≡ Ok path → IsOpened host folder path
opened host folder path h =
    let index : List ℕ = index_of folder in
    let entries = parts (λ entries. local.and_then (λ done. Ok index) (validated host index)) (folder_at index (host.stands index)) path h in
    let done = parts (λ done. Ok index) (validated host index) path entries.2 in
    record {
      index = folder_there index (host.stands index) entries.0 entries.1;
      agrees = done_ok (validated host index) done.0 done.1;
      path_is = sym (ap path_in done.2);
    }

-- ---- the paths of what was checked

pub checked_pathed : (stock : Stock) (packages : List Package) (cs : List CheckedCrate) → all_checked stock (looked packages) ≡ Ok cs → ArePathed cs
checked_pathed stock packages cs h = pathed stock (looked packages) cs (facts_of stock (looked packages) cs h)

-- ---- the folder

pub is_vendored : (stock : Stock) (packages : List Package) (to : List ℕ) (now : Host) (made : Vendored) (cs : List CheckedCrate)
    → all_checked stock (looked packages) ≡ Ok cs → AreTexts cs → StandsPlain stock.host.stands
    → now ≡ after (all_made to cs) stock.host → registry_at now to true ≡ Ok made.registry.index.path → made.packages ≡ length cs
    → made.bytes ≡ min (builders.size_of (all_made to cs)) (2 ^ 64 - 1) → IsVendored stock packages to now made
is_vendored stock packages to now made cs checks texts plain built open_at count bytes =
    let known_all = known stock (looked packages) cs (facts_of stock (looked packages) cs checks) texts in
    let there = opened now to made.registry.index.path open_at in
    record {
      checked = cs;
      are_checked = checks;
      files = subst (λ host. HoldsEach host to (vendored_files cs)) (sym built) (holds_each stock to cs stock.host plain known_all);
      no_other = λ bare. subst (λ host. HoldsNoOther host to (vendored_files cs)) (sym built) (holds_no_other stock to cs stock.host plain known_all bare);
      index_folder = there.index;
      agrees = there.agrees;
      registry = there.path_is;
      crate_files = count;
      bytes = bytes ∙ ap (λ n. min n (2 ^ 64 - 1)) (all_size to cs);
    }

-- ---- an index that it agrees with

free_back : (path : List ℕ) (s : Standing) → free_fault s ≡ None → free_at path s ≡ Ok tt
free_back path Nothing h = refl
free_back path (File bs) h = cc
free_back path (Folder []) h = refl
free_back path (Folder (e ∷ es)) h = cc
free_back path Other h = cc

ok_no_err : {A : Type 0} (a : A) (e : LocalRefusal) → Ok a ≡ Err e → ⊥
ok_no_err a e h = cc

never_read_back : (stock : Stock) (packages : List Package) (to : List ℕ) (cs : List CheckedCrate) (before now : Host) (why : Error)
    → all_checked stock (looked packages) ≡ Ok cs → AreTexts cs → StandsPlain before.stands → IsPlace to → AreVersioned packages
    → IsReadBack to cs before now why → ⊥
never_read_back stock packages to cs before now why checks texts plain place versioned back =
    let facts = facts_of stock (looked packages) cs checks in
    let named : ArePathed cs = pathed stock (looked packages) cs facts in
    let decided = all_decided stock packages cs facts texts versioned in
    let start : Host = after_change (created to) before in
    let begun = begin_empty to before place.0 place.1 plain (free_back to (before.stands to) back.free) back.possible in
    let sound : Sound to (after (all_made to cs) before).stands =
    paths_sound to cs (paths_of cs) start place (λ q. stocked_on stock q cs decided) (back.filled named) (start_sound to start place begun.1 begun.0) in
    let whole : Host = after (all_made to cs) before in
    ok_no_err (index_of to) (refused_by why)
    (sym (registry_agrees to whole place sound) ∙ ap (λ h. registry_at h to true) (sym (back.made named)) ∙ back.refused)

-- the same for a folder that is named with a slash at its end
place_case : (stock : Stock) (packages : List Package) (w to : List ℕ) (cs : List CheckedCrate) (before now : Host) (why : Error)
    → all_checked stock (looked packages) ≡ Ok cs → AreTexts cs → StandsPlain before.stands → IsPlace w → AreVersioned packages
    → (to ≡ w) ⊎ (to ≡ w ++ 47 ∷ []) → IsReadBack to cs before now why → ⊥
place_case stock packages w to cs before now why checks texts plain place versioned (inl is) back =
    never_read_back stock packages w cs before now why checks texts plain place versioned (subst (λ p. IsReadBack p cs before now why) is back)
place_case stock packages w to cs before now why checks texts plain place versioned (inr is) back =
    never_read_back stock packages w cs before now why checks texts plain place versioned
    (read_back_same stock w cs before now why place (known stock (looked packages) cs (facts_of stock (looked packages) cs checks) texts) plain
    (subst (λ p. IsReadBack p cs before now why) is back))

pub no_read_back : (stock : Stock) (packages : List Package) (to : List ℕ) (cs : List CheckedCrate) (before now : Host) (why : Error)
    → all_checked stock (looked packages) ≡ Ok cs → AreTexts cs → StandsPlain before.stands → IsFolderPath to → AreVersioned packages
    → IsReadBack to cs before now why → ⊥
no_read_back stock packages to cs before now why checks texts plain path versioned back =
    place_case stock packages path.0 to cs before now why checks texts plain path.1 versioned path.2 back

-- ---- an index file that has come meanwhile

pub occupied_before : (stock : Stock) (packages : List Package) (to : List ℕ) (cs : List CheckedCrate) (before now : Host) (n : ℕ)
    → all_checked stock (looked packages) ≡ Ok cs → AreTexts cs → IsBare before to → IsOccupied (before.stands to) (fault.NotEmpty n)
    → (free_fault (before.stands to) ≡ None → IsTaken to cs (paths_of cs) (after_change (created to) before) now)
    → free_fault (before.stands to) ≡ Some (fault.NotEmpty n)
occupied_before stock packages to cs before now n checks texts bare (inl is) taken = is
occupied_before stock packages to cs before now n checks texts bare (inr h) taken =
    absurd (never_taken stock to cs before now (known stock (looked packages) cs (facts_of stock (looked packages) cs checks) texts) bare (taken h.0))

-- ---- a call that failed

pub by_build : (stock : Stock) (packages : List Package) (folder : List ℕ) (e : VendorFault) {cs : List CheckedCrate} → IsBuildFault e → IsToldIn folder e
    → all_checked stock (looked packages) ≡ Ok cs → IsStoppedBy stock packages folder e
by_build stock packages folder e fault within checks = inr (fault, within, is_ok (all_checked stock (looked packages)) checks)
  where
    is_ok : (a : Result (List CheckedCrate) VendorFault) {cs : List CheckedCrate} → a ≡ Ok cs → IsOk a
    is_ok (Ok cs) h = refl
    is_ok (Err e) h = cc

-- a call that failed at a path outside of the registry was none of its builder
pub outside_unwritten : (folder at : List ℕ) (e : VendorFault) (P : Type 0) → IsToldIn folder e → e ≡ fault.File at → (IsWithin folder at → ⊥) → P
outside_unwritten folder at e P within is outside =
    absurd (outside (subst (IsToldIn folder) is within))

-- ---- what was checked is so alone

pub one_checked : (r : Result (List CheckedCrate) VendorFault) (a b : List CheckedCrate) → r ≡ Ok a → r ≡ Ok b → a ≡ b
one_checked r a b h k = cc (h, k)

-- the numbers of crate files and of bytes by what was checked
pub numbers_of : (to : List ℕ) (packages bytes : ℕ) (cs others : List CheckedCrate) → cs ≡ others → packages ≡ length cs → bytes ≡ min (builders.size_of (all_made to cs)) (2 ^ 64 - 1)
    → (packages ≡ length others) × (bytes ≡ min (size_of (vendored_files others)) (2 ^ 64 - 1))
numbers_of to packages bytes cs others same count size =
    subst (λ (ds : List CheckedCrate). (packages ≡ length ds) × (bytes ≡ min (size_of (vendored_files ds)) (2 ^ 64 - 1))) same
    (count, size ∙ ap (λ m. min m (2 ^ 64 - 1)) (all_size to cs))
