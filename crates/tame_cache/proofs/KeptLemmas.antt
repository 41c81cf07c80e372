-- Kept disks, and histories that keep them.
use Rattle.std.proofs.Common.{◌≡◌, ◌≢◌, ◌⊎◌, inl, inr, ◌≤◌, ℕ, List, [], ◌∷◌, ◌++◌, length, Some, None, Bool, true, false, cond, refl, sym, ◌∙◌, ap, subst, arith, codes, length-append}
use Rattle.std.specs.Prelude.{◌==◌, ◌||◌, ◌&&◌, IsErr, Result, Ok, Err}
use Rattle.std.specs.Str.{bytes_eq}
use Rattle.std.proofs.lemmas.Bool.Decides.{nat_tests}
use Rattle.std.proofs.lemmas.Slice.Eq.{bytes_eq-Decides}
use Rattle.tame_names.specs.Names.{IsIndexPath}
use Rattle.tame_names.specs.Paths.{ends_with_slash, join}
use Rattle.tame_names.specs.declared.errors.CacheError.{CacheError}
use Rattle.tame_names.specs.declared.errors.CacheError.TheVariants.{OtherIndex}
use Rattle.tame_names.proofs.Relative.{join_same, path_relative}
use Rattle.tame_entry.specs.Entry.{Pair, ReadEntry, entry, has_no_zero, is_storable, read_entry}
use Rattle.tame_entry.specs.ServerMaps.{ServerMap}
use Rattle.tame_entry.specs.Revision.{EntryRevision, Http, Commit, Unknown, IsFormed, IsRevision, entry_text}
use Rattle.tame_entry.specs.declared.revisions.OwnedRevision.TheVariants.{Etag, LastModified}
use Rattle.tame_entry.proofs.EntryLemmas.{entry_revision, honest_utf8, other_index}
use Rattle.tame_cache.specs.Disk.{File, Step, Synced, reads, content, may_leave, EachMoment}
use Rattle.tame_cache.specs.Gate.{IsOrderly, IsUnreadable, MayStore}
use Rattle.tame_cache.specs.Kept.{AreRefused, Disk, History, IsAddedTo, IsFileKept, IsGood, IsGoodRead, IsGoodUnder, IsKept, IsRefused, IsUnbelieved, IsWithoutFiles, IsWrittenFor, Keeps, KeepsFile, begins, cache_file, calls, crashes}
use Rattle.tame_cache.proofs.Moments.{started, joined, ends, weaker}

-- ---- places

folder_some : (root : List ℕ) → (length (join root (codes ".cache")) == 0) ≡ false
folder_some root = go (length root == 0) (ends_with_slash root)
  where
    some : (n : ℕ) → 1 ≤ n → (n == 0) ≡ false
    some n h = grind (arith, nat_tests)

    go : (s t : Bool) → (length (cond (s || false) (codes ".cache") (cond t (root ++ codes ".cache") (root ++ 47 ∷ codes ".cache"))) == 0) ≡ false
    go true t = refl
    go false true = some _ (omega (arith, length-append root (codes ".cache")))
    go false false = some _ (omega (arith, length-append root (47 ∷ codes ".cache")))

-- two index paths with one cache file are one path
pub one_file : (root p q : List ℕ) → IsIndexPath p → IsIndexPath q → cache_file root p ≡ cache_file root q → p ≡ q
one_file root p q hp hq same = join_same (join root (codes ".cache")) p q (folder_some root) (path_relative p hp) (path_relative q hq) same

-- a name has one path
pub one_path : (p q : List ℕ) → Some p ≡ Some q → p ≡ q
one_path p q h = cc

-- ---- good files

good_read : (m : ServerMap) (index : List ℕ) (p bytes : List ℕ) (r : Result ReadEntry CacheError) → IsErr r → IsGoodRead m index p bytes r
good_read m index p bytes (Ok e) h = cc
good_read m index p bytes (Err f) h = tt

pub refused_good : (m : ServerMap) (index : List ℕ) (p : List ℕ) (file : File) → IsUnreadable file → IsGood m index p file
refused_good m index p None h = tt
refused_good m index p (Some bytes) h = good_read m index p bytes (read_entry index bytes) (h index)

pub under_good : (m : ServerMap) (index : List ℕ) (p bytes : List ℕ) (r : EntryRevision) (o : Result ReadEntry CacheError) → ((e : ReadEntry) → o ≡ Ok e → e.revision ≡ r) → IsGoodUnder m index p bytes r → IsGoodRead m index p bytes o
under_good m index p bytes r (Ok e) same good = subst (IsGoodUnder m index p bytes) (sym (same e refl)) good
under_good m index p bytes r (Err f) same good = tt

formed : (m : ServerMap) (index : List ℕ) (p : List ℕ) (r : EntryRevision) (ps : List Pair) → IsFormed r → IsWrittenFor m p r ps → IsRevision r
formed m index p (Http (Etag text)) ps f w = honest_utf8 text w.1.0
formed m index p (Http (LastModified text)) ps f w = honest_utf8 text w.1.0
formed m index p (Commit digits) ps f w = f
formed m index p Unknown ps f w = tt

written_under : (m : ServerMap) (index : List ℕ) (p : List ℕ) (r : EntryRevision) (ps : List Pair) → IsWrittenFor m p r ps → IsGoodUnder m index p (entry index r ps) r
written_under m index p (Http r) ps w = (w.0, w.1, w.2, ap (entry index (Http r)) (sym w.3))
written_under m index p (Commit digits) ps w = tt
written_under m index p Unknown ps w = tt

-- the entry that is written is good
pub written_good : (m : ServerMap) (index : List ℕ) (p : List ℕ) (r : EntryRevision) (ps : List Pair) → IsFormed r → IsWrittenFor m p r ps → has_no_zero index ≡ true → has_no_zero (entry_text r) ≡ true → IsGood m index p (Some (entry index r ps))
written_good m index p r ps f w url_whole whole =
    let is = formed m index p r ps f w in
    under_good m index p (entry index r ps) r (read_entry index (entry index r ps)) (λ e h. entry_revision index r ps e url_whole is whole h) (written_under m index p r ps w)

-- ---- one call after another, of a file and of a disk

pub file_kept_after : (m : ServerMap) (index : List ℕ) (p : List ℕ) (old new : List Step) → KeepsFile m index p old new → IsFileKept m index p new
file_kept_after m index p old new keeps = record { orderly = keeps.orderly; all_good = ends old new (IsGood m index p) keeps.any_moment }

pub keeps_file_none : (m : ServerMap) (index : List ℕ) (p : List ℕ) (past : List Step) → IsFileKept m index p past → KeepsFile m index p past past
keeps_file_none m index p past kept = record { orderly = kept.orderly; any_moment = started past (IsGood m index p) kept.all_good }

pub kept_after : (m : ServerMap) (index : List ℕ) (root : List ℕ) (old new : Disk) → Keeps m index root old new → IsKept m index root new
kept_after m index root old new keeps p is = file_kept_after m index p (old (cache_file root p)) (new (cache_file root p)) (keeps p is)

pub keeps_none : (m : ServerMap) (index : List ℕ) (root : List ℕ) (disk : Disk) → IsKept m index root disk → Keeps m index root disk disk
keeps_none m index root disk kept p is = keeps_file_none m index p (disk (cache_file root p)) (kept p is)

-- if no file changes
pub keeps_same : (m : ServerMap) (index : List ℕ) (root : List ℕ) (old new : Disk) → ((q : List ℕ) → new q ≡ old q) → IsKept m index root old → Keeps m index root old new
keeps_same m index root old new same kept p is =
    subst (λ (past : List Step). KeepsFile m index p (old (cache_file root p)) past) (sym (same (cache_file root p))) (keeps_file_none m index p (old (cache_file root p)) (kept p is))

pub keeps_then : (m : ServerMap) (index : List ℕ) (root : List ℕ) (old mid new : Disk) → Keeps m index root old mid → (IsKept m index root mid → Keeps m index root mid new) → Keeps m index root old new
keeps_then m index root old mid new first then_keeps p is =
    let second = then_keeps (kept_after m index root old mid first) p is in
    record {
      orderly = second.orderly;
      any_moment = joined (old (cache_file root p)) (mid (cache_file root p)) (new (cache_file root p)) (IsGood m index p) (first p is).any_moment second.any_moment;
    }

-- ---- a write of a file

module _ (m : ServerMap) (index : List ℕ) (path entry : List ℕ) (old new : List Step) (whole : IsGood m index path (Some entry)) (kept : IsFileKept m index path old)
    (each : IsOrderly old → EachMoment old new (λ file. may_leave old file ⊎ (IsUnreadable file ⊎ (file ≡ Some entry)))) (ordered : IsOrderly old → IsOrderly new) where
  one : (file : File) → may_leave old file ⊎ (IsUnreadable file ⊎ (file ≡ Some entry)) → IsGood m index path file
  one file (inl now) = kept.all_good file now
  one file (inr (inl none)) = refused_good m index path file none
  one file (inr (inr is)) = subst (IsGood m index path) (sym is) whole

  pub write_keeps_file : KeepsFile m index path old new
  write_keeps_file = record { orderly = ordered kept.orderly; any_moment = weaker old new _ (IsGood m index path) one (each kept.orderly) }

-- of a disk whose other files stay
pub write_keeps : (m : ServerMap) (index : List ℕ) (root path : List ℕ) (old new : Disk) → IsIndexPath path → IsKept m index root old → ((q : List ℕ) → q ≢ cache_file root path → new q ≡ old q)
    → KeepsFile m index path (old (cache_file root path)) (new (cache_file root path)) → Keeps m index root old new
write_keeps m index root path old new there kept others here p is = go (bytes_eq (cache_file root p) (cache_file root path)) refl
  where
    go : (b : Bool) → bytes_eq (cache_file root p) (cache_file root path) ≡ b → KeepsFile m index p (old (cache_file root p)) (new (cache_file root p))
    go true e =
        let same : p ≡ path = one_file root p path is there ((bytes_eq-Decides (cache_file root p) (cache_file root path)).0 e) in
        subst (λ (q : List ℕ). KeepsFile m index q (old (cache_file root q)) (new (cache_file root q))) (sym same) here
    go false differs =
        let same = others (cache_file root p) (λ e. let both = (bytes_eq-Decides (cache_file root p) (cache_file root path)).1 e in cc (both, differs)) in
        subst (λ (past : List Step). KeepsFile m index p (old (cache_file root p)) past) (sym same) (keeps_file_none m index p (old (cache_file root p)) (kept p is))

-- ---- laws

pub empty_kept : (m : ServerMap) (index : List ℕ) (root : List ℕ) (disk : Disk) → IsWithoutFiles root disk → IsKept m index root disk
empty_kept m index root disk none p is = record {
  orderly = λ absent file now. omega (arith, ap (λ (f : File). length (content f)) (none p is file now));
  all_good = λ file now. subst (IsGood m index p) (sym (none p is file now)) tt;
}

refused_file : (m : ServerMap) (index p : List ℕ) (file : File) → IsRefused index file → IsGood m index p file
refused_file m index p None refused = tt
refused_file m index p (Some bytes) refused = good_read m index p bytes (read_entry index bytes) refused

pub refused_kept : (m : ServerMap) (index : List ℕ) (root : List ℕ) (disk : Disk) → AreRefused index root disk → IsKept m index root disk
refused_kept m index root disk refused p is =
    let there = refused p is in
    record {
      orderly = λ absent file now. omega (arith, ap (λ (f : File). length (content f)) (there.0 file now ∙ absent));
      all_good = λ file now. subst (IsGood m index p) (sym (there.0 file now)) (refused_file m index p (reads (disk (cache_file root p))) there.1);
    }

pub unbelieved_kept : (m : ServerMap) (index : List ℕ) (root : List ℕ) (disk : Disk) → IsUnbelieved index root disk → IsKept m index root disk
unbelieved_kept m index root disk (inl none) = empty_kept m index root disk none
unbelieved_kept m index root disk (inr refused) = refused_kept m index root disk refused

more_under : (m more : ServerMap) (index : List ℕ) (p bytes : List ℕ) (r : EntryRevision) → IsAddedTo m more → IsGoodUnder m index p bytes r → IsGoodUnder more index p bytes r
more_under m more index p bytes (Http r) added good = (good.0, (good.1.0, added p r good.0 good.1.1), good.2, good.3)
more_under m more index p bytes (Commit digits) added good = tt
more_under m more index p bytes Unknown added good = tt

more_read : (m more : ServerMap) (index : List ℕ) (p bytes : List ℕ) (r : Result ReadEntry CacheError) → IsAddedTo m more → IsGoodRead m index p bytes r → IsGoodRead more index p bytes r
more_read m more index p bytes (Ok e) added good = more_under m more index p bytes e.revision added good
more_read m more index p bytes (Err f) added good = tt

more_good : (m more : ServerMap) (index : List ℕ) (p : List ℕ) (file : File) → IsAddedTo m more → IsGood m index p file → IsGood more index p file
more_good m more index p None added good = tt
more_good m more index p (Some bytes) added good = more_read m more index p bytes (read_entry index bytes) added good

pub more_kept : (m more : ServerMap) (index : List ℕ) (root : List ℕ) (disk : Disk) → IsAddedTo m more → IsKept m index root disk → IsKept more index root disk
more_kept m more index root disk added kept p is = record { orderly = (kept p is).orderly; all_good = λ file now. more_good m more index p file added ((kept p is).all_good file now) }

-- the disk is kept, and was at each moment since the last call began
record SoFar (m : ServerMap) (index : List ℕ) (root : List ℕ) (began now : Disk) : Type 0 where
  kept : IsKept m index root now
  since : (p : List ℕ) → IsIndexPath p → EachMoment (began (cache_file root p)) (now (cache_file root p)) (IsGood m index p)

at_rest : (m : ServerMap) (index : List ℕ) (root : List ℕ) (disk : Disk) → IsKept m index root disk → SoFar m index root disk disk
at_rest m index root disk kept = record { kept = kept; since = λ p is. started (disk (cache_file root p)) (IsGood m index p) (kept p is).all_good }

synced_orderly : (past : List Step) (file : File) → past ≡ Synced file ∷ [] → IsOrderly past
synced_orderly past file is none left now =
    let same : left ≡ file = subst (λ (l : List Step). may_leave l left) is now in
    let absent : file ≡ None = sym (ap reads is) ∙ none in
    omega (arith, ap (λ (f : File). length (content f)) (same ∙ absent))

so_far : (m : ServerMap) (index : List ℕ) (root : List ℕ) (began now : Disk) → History m index root began now → SoFar m index root began now
so_far m index root began now (begins disk unbelieved) = at_rest m index root disk (unbelieved_kept m index root disk unbelieved)
so_far m index root began now (calls first mid next run keeps) =
    let last = keeps (so_far m index root first mid run).kept in
    record { kept = kept_after m index root mid next last; since = λ p is. (last p is).any_moment }
so_far m index root began now (crashes first mid next run crash) =
    let before = so_far m index root first mid run in
    at_rest m index root next (λ p is.
    let at = crash (cache_file root p) in
    record {
      orderly = synced_orderly (next (cache_file root p)) at.0 at.2;
      all_good = λ file now.
          let same : file ≡ at.0 = subst (λ (l : List Step). may_leave l file) at.2 now in
          subst (IsGood m index p) (sym same) ((before.since p is).each at.0 at.1);
    })

pub history_kept : (m : ServerMap) (index : List ℕ) (root : List ℕ) (began now : Disk) → History m index root began now → IsKept m index root now
history_kept m index root began now run = (so_far m index root began now run).kept

-- ---- an entry of another index

is_refused : (r : Result ReadEntry CacheError) → r ≡ Err OtherIndex → IsErr r
is_refused r h = rw h refl

-- a file that is kept for an index stays so through a write of another one
pub shared_kept : (m : ServerMap) (one other p : List ℕ) (r : EntryRevision) (ps : List Pair) (old new : List Step) → has_no_zero other ≡ true → (other ≡ one → ⊥) → IsFileKept m one p old
    → (IsOrderly old → EachMoment old new (MayStore old (entry other r ps))) → (IsOrderly old → IsOrderly new) → KeepsFile m one p old new
shared_kept m one other p r ps old new whole differs kept each ordered =
    let bytes = entry other r ps in
    let refused : IsErr (read_entry one bytes) = is_refused (read_entry one bytes) (other_index one other r ps whole differs) in
    write_keeps_file m one p bytes old new (good_read m one p bytes (read_entry one bytes) refused) kept each ordered

-- ---- an entry stored at a path

first_true : (a b : Bool) → (a && b) ≡ true → a ≡ true
first_true true b h = refl
first_true false b h = h

second_true : (a b : Bool) → (a && b) ≡ true → b ≡ true
second_true true b h = h
second_true false b h = cc (h)

-- the same for another name of the entry
pub moments_of : (old new : List Step) (bytes made : List ℕ) → bytes ≡ made → (IsOrderly old → EachMoment old new (MayStore old bytes)) → IsOrderly old → EachMoment old new (MayStore old made)
moments_of old new bytes made is each = subst (λ (b : List ℕ). IsOrderly old → EachMoment old new (MayStore old b)) is each

-- the same for another name of the file and the entry
pub moments_at : (old new : Disk) (q place bytes made : List ℕ) → place ≡ q → bytes ≡ made → (IsOrderly (old q) → EachMoment (old q) (new q) (MayStore (old q) bytes)) → IsOrderly (old place) → EachMoment (old place) (new place) (MayStore (old place) made)
moments_at old new q place bytes made there is each =
    subst (λ (x : List ℕ). IsOrderly (old x) → EachMoment (old x) (new x) (MayStore (old x) made)) (sym there)
    (subst (λ (b : List ℕ). IsOrderly (old q) → EachMoment (old q) (new q) (MayStore (old q) b)) is each)

-- the file of a path is kept
pub store_keeps_file : (m : ServerMap) (index : List ℕ) (p q bytes : List ℕ) (r : EntryRevision) (ps : List Pair) (old new : Disk) (place : List ℕ) → q ≡ place → bytes ≡ entry index r ps → IsFormed r → IsWrittenFor m p r ps → is_storable index r ps ≡ true
    → IsFileKept m index p (old place) → (IsOrderly (old q) → EachMoment (old q) (new q) (MayStore (old q) bytes)) → (IsOrderly (old q) → IsOrderly (new q)) → KeepsFile m index p (old place) (new place)
store_keeps_file m index p q bytes r ps old new place there is formed written storable kept each ordered =
    write_keeps_file m index p (entry index r ps) (old place) (new place) (written_good m index p r ps formed written (first_true (has_no_zero index) _ storable) (first_true (has_no_zero (entry_text r)) _ (second_true (has_no_zero index) _ storable))) kept
    (moments_at old new q place bytes (entry index r ps) (sym there) is each)
    (subst (λ (x : List ℕ). IsOrderly (old x) → IsOrderly (new x)) there ordered)

pub store_keeps : (m : ServerMap) (index : List ℕ) (root p q bytes : List ℕ) (r : EntryRevision) (ps : List Pair) (old new : Disk) → IsIndexPath p → q ≡ cache_file root p → bytes ≡ entry index r ps → IsFormed r → IsWrittenFor m p r ps → is_storable index r ps ≡ true
    → IsKept m index root old → ((x : List ℕ) → x ≢ q → new x ≡ old x) → (IsOrderly (old q) → EachMoment (old q) (new q) (MayStore (old q) bytes)) → (IsOrderly (old q) → IsOrderly (new q)) → Keeps m index root old new
store_keeps m index root p q bytes r ps old new there place is formed written storable kept others each ordered =
    write_keeps m index root p old new there kept (λ x other. others x (λ same. other (same ∙ place)))
    (store_keeps_file m index p q bytes r ps old new (cache_file root p) place is formed written storable (kept p there) each ordered)
