-- Files of the answers to exchanges.
use Rattle.std.proofs.Common.{◌≡◌, ◌≢◌, ◌⊎◌, inl, inr, ℕ, List, [], ◌∷◌, ◌++◌, Bool, true, false, Option, Some, None, option_map, IsTrue, refl, sym, ap, subst}
use Rattle.std.specs.Prelude.{IsSomeAnd, bytes_eq}
use Rattle.std.proofs.lemmas.Slice.Eq.{bytes_eq-Decides}
use Rattle.tame_names.specs.Names.{IsIndexPath, path}
use Rattle.tame_entry.specs.Entry.{has_no_zero}
use Rattle.tame_entry.specs.Lines.{plain}
use Rattle.tame_entry.specs.Revision.{entry_text}
use Rattle.tame_cache.specs.Disk.{File, Step, may_leave}
use Rattle.tame_cache.specs.Gate.{IsUnreadable}
use Rattle.tame_cache.specs.Kept.{Disk, IsRefused, cache_file, cache_file_of}
use Rattle.tame_cache.proofs.KeptLemmas.{one_file}
use Rattle.tame_cache.proofs.Moments.{ends, joined, started, weaker}
use Rattle.tame_sparse.specs.Exchanges.{crates_io_index}
use Rattle.tame_sparse.specs.ResponseResults.{IsToStore, Stores, entry_of, stored_under}
use Rattle.tame_sparse.specs.declared.network.Exchange.{Exchange}
use Rattle.tame_sparse.specs.declared.network.WireAnswer.{WireAnswer}
use Rattle.audit_core.specs.Sent.{HoldsSent, HoldsSentFile, IsEntryOf, IsSentFile, KeepsSent, KeepsSentFile, WasSent}
use Rattle.audit_core.proofs.ResultLemmas.{equal_or}

-- ---- more exchanges

sent_front : (es fs : List Exchange) (p : List ℕ) (file : File) → WasSent es p file → WasSent (es ++ fs) p file
sent_front [] fs p file is = absurd is
sent_front (e ∷ es) fs p file (inl is) = inl is
sent_front (e ∷ es) fs p file (inr is) = inr (sent_front es fs p file is)

sent_back : (es fs : List Exchange) (p : List ℕ) (file : File) → WasSent fs p file → WasSent (es ++ fs) p file
sent_back [] fs p file is = is
sent_back (e ∷ es) fs p file is = inr (sent_back es fs p file is)

file_front : (es fs : List Exchange) (p : List ℕ) (file : File) → IsSentFile es p file → IsSentFile (es ++ fs) p file
file_front es fs p file (inl is) = inl is
file_front es fs p file (inr is) = inr (sent_front es fs p file is)

-- ---- files

file_none : (es fs : List Exchange) (p : List ℕ) (past : List Step) → HoldsSentFile es p past → KeepsSentFile (es ++ fs) p past past
file_none es fs p past holds = record {
  orderly = holds.orderly;
  any_moment = started past (IsSentFile (es ++ fs) p) (λ file now. file_front es fs p file (holds.all file now));
}

file_after : (es : List Exchange) (p : List ℕ) (old new : List Step) → KeepsSentFile es p old new → HoldsSentFile es p new
file_after es p old new keeps = record { orderly = keeps.orderly; all = ends old new (IsSentFile es p) keeps.any_moment }

file_then : (es fs : List Exchange) (p : List ℕ) (old mid new : List Step) → KeepsSentFile es p old mid → KeepsSentFile (es ++ fs) p mid new → KeepsSentFile (es ++ fs) p old new
file_then es fs p old mid new first second = record {
  orderly = second.orderly;
  any_moment = joined old mid new (IsSentFile (es ++ fs) p) (weaker old mid (IsSentFile es p) (IsSentFile (es ++ fs) p) (λ file is. file_front es fs p file is) first.any_moment) second.any_moment;
}

-- ---- disks

pub sent_none : (es fs : List Exchange) (old : Disk) → HoldsSent es old → KeepsSent (es ++ fs) old old
sent_none es fs old holds p is = file_none es fs p (old (cache_file [] p)) (holds p is)

pub sent_same : (es fs : List Exchange) (old new : Disk) → ((q : List ℕ) → new q ≡ old q) → HoldsSent es old → KeepsSent (es ++ fs) old new
sent_same es fs old new same holds p is =
    subst (λ (past : List Step). KeepsSentFile (es ++ fs) p (old (cache_file [] p)) past) (sym (same (cache_file [] p))) (file_none es fs p (old (cache_file [] p)) (holds p is))

pub holds_same : (es : List Exchange) (old new : Disk) → ((q : List ℕ) → new q ≡ old q) → HoldsSent es old → HoldsSent es new
holds_same es old new same holds p is = subst (HoldsSentFile es p) (sym (same (cache_file [] p))) (holds p is)

pub holds_after : (es : List Exchange) (old new : Disk) → KeepsSent es old new → HoldsSent es new
holds_after es old new keeps p is = file_after es p (old (cache_file [] p)) (new (cache_file [] p)) (keeps p is)

pub sent_then : (es fs : List Exchange) (old mid new : Disk) → KeepsSent es old mid → (HoldsSent es mid → KeepsSent (es ++ fs) mid new) → KeepsSent (es ++ fs) old new
sent_then es fs old mid new first then_keeps p is =
    file_then es fs p (old (cache_file [] p)) (mid (cache_file [] p)) (new (cache_file [] p)) (first p is) (then_keeps (holds_after es old mid first) p is)

-- from a disk that is the same
pub sent_from : (es : List Exchange) (old mid new : Disk) → ((q : List ℕ) → mid q ≡ old q) → KeepsSent es mid new → KeepsSent es old new
sent_from es old mid new same keeps p is =
    subst (λ (past : List Step). KeepsSentFile es p past (new (cache_file [] p))) (same (cache_file [] p)) (keeps p is)

-- to a disk that is the same
pub sent_after : (es : List Exchange) (old mid new : Disk) → ((q : List ℕ) → new q ≡ mid q) → KeepsSent es old mid → KeepsSent es old new
sent_after es old mid new same keeps p is =
    subst (λ (past : List Step). KeepsSentFile es p (old (cache_file [] p)) past) (sym (same (cache_file [] p))) (keeps p is)

-- ---- what is stored

true_or : (b : Bool) → IsTrue b ⊎ (IsTrue b → ⊥)
true_or true = inl refl
true_or false = inr (λ is. cc)

stored_or : (a : WireAnswer) → IsToStore crates_io_index a ⊎ (IsToStore crates_io_index a → ⊥)
stored_or a = go (equal_or a.status 200) (true_or (plain a.body)) (true_or (has_no_zero (entry_text (stored_under a.revision)))) (true_or (has_no_zero crates_io_index))
  where
    go : (a.status ≡ 200) ⊎ (a.status ≢ 200) → IsTrue (plain a.body) ⊎ (IsTrue (plain a.body) → ⊥) → IsTrue (has_no_zero (entry_text (stored_under a.revision))) ⊎ (IsTrue (has_no_zero (entry_text (stored_under a.revision))) → ⊥)
        → IsTrue (has_no_zero crates_io_index) ⊎ (IsTrue (has_no_zero crates_io_index) → ⊥) → IsToStore crates_io_index a ⊎ (IsToStore crates_io_index a → ⊥)
    go (inl w) (inl x) (inl y) (inl z) = inl (record { sent = w; plain = x; storable = y; named = z })
    go (inr w) x y z = inr (λ is. w is.sent)
    go w (inr x) y z = inr (λ is. x is.plain)
    go w x (inr y) z = inr (λ is. y is.storable)
    go w x y (inr z) = inr (λ is. z is.named)

refused_any : (file : File) → IsUnreadable file → IsRefused crates_io_index file
refused_any None is = tt
refused_any (Some bytes) is = is crates_io_index

was_answered : (a : WireAnswer) (o : Option WireAnswer) (file : File) → o ≡ Some a → IsEntryOf file a → IsSomeAnd o (IsEntryOf file)
was_answered a o file is entry = rw is entry

stored_file : (name : List ℕ) (old new : Disk) (write : Bool) (a : WireAnswer) (e : Exchange) (es : List Exchange) → e.answer ≡ Some a → path name ≡ Some e.path → Stores crates_io_index [] name a write old new
    → HoldsSentFile es e.path (old (cache_file [] e.path)) → KeepsSentFile (es ++ e ∷ []) e.path (old (cache_file [] e.path)) (new (cache_file [] e.path))
stored_file name old new write a e es answered named stores holds = go (stored_or a)
  where
    place : cache_file_of [] name ≡ Some (cache_file [] e.path)
    place = ap (λ (o : Option (List ℕ)). option_map (cache_file []) o) named

    one : IsToStore crates_io_index a → (file : File) → may_leave (old (cache_file [] e.path)) file ⊎ (IsUnreadable file ⊎ (file ≡ Some (entry_of crates_io_index a))) → IsSentFile (es ++ e ∷ []) e.path file
    one store file (inl now) = file_front es (e ∷ []) e.path file (holds.all file now)
    one store file (inr (inl none)) = inl (refused_any file none)
    one store file (inr (inr is)) = inr (sent_back es (e ∷ []) e.path file (inl (refl, was_answered a e.answer file answered (store, is))))

    go : IsToStore crates_io_index a ⊎ (IsToStore crates_io_index a → ⊥) → KeepsSentFile (es ++ e ∷ []) e.path (old (cache_file [] e.path)) (new (cache_file [] e.path))
    go (inl store) = record {
      orderly = stores.orderly (cache_file [] e.path) place holds.orderly;
      any_moment = weaker (old (cache_file [] e.path)) (new (cache_file [] e.path)) _ (IsSentFile (es ++ e ∷ []) e.path) (one store) (stores.any_moment (cache_file [] e.path) place holds.orderly);
    }
    go (inr other) =
        subst (λ (past : List Step). KeepsSentFile (es ++ e ∷ []) e.path (old (cache_file [] e.path)) past) (sym (stores.unstored other (cache_file [] e.path))) (file_none es (e ∷ []) e.path (old (cache_file [] e.path)) holds)

-- what the files are if the answer of an exchange is stored, or isn't
pub stored_sent : (name : List ℕ) (old new : Disk) (write : Bool) (a : WireAnswer) (e : Exchange) (es : List Exchange) → e.answer ≡ Some a → path name ≡ Some e.path → IsIndexPath e.path → Stores crates_io_index [] name a write old new
    → HoldsSent es old → KeepsSent (es ++ e ∷ []) old new
stored_sent name old new write a e es answered named there stores holds p is = go (bytes_eq (cache_file [] p) (cache_file [] e.path)) refl
  where
    go : (b : Bool) → bytes_eq (cache_file [] p) (cache_file [] e.path) ≡ b → KeepsSentFile (es ++ e ∷ []) p (old (cache_file [] p)) (new (cache_file [] p))
    go true tests =
        let same : p ≡ e.path = one_file [] p e.path is there ((bytes_eq-Decides (cache_file [] p) (cache_file [] e.path)).0 tests) in
        subst (λ (q : List ℕ). KeepsSentFile (es ++ e ∷ []) q (old (cache_file [] q)) (new (cache_file [] q))) (sym same) (stored_file name old new write a e es answered named stores (holds e.path there))
    go false differs =
        let place : cache_file_of [] name ≡ Some (cache_file [] e.path) = ap (λ (o : Option (List ℕ)). option_map (cache_file []) o) named in
        let other : cache_file_of [] name ≢ Some (cache_file [] p) = λ at.
        let back : cache_file [] p ≡ cache_file [] e.path = cc (at, place) in
        let tests = (bytes_eq-Decides (cache_file [] p) (cache_file [] e.path)).1 back in
        cc (tests, differs) in
        subst (λ (past : List Step). KeepsSentFile (es ++ e ∷ []) p (old (cache_file [] p)) past) (sym (stores.others (cache_file [] p) other)) (file_none es (e ∷ []) p (old (cache_file [] p)) (holds p is))
