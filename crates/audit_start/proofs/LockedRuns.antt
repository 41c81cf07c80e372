-- Runs under a lock that excludes are a history.
use Rattle.std.proofs.Common.{◌≡◌, ◌≢◌, ℕ, List, [], ◌∷◌, ◌++◌, sym, ap, subst, ◌∙◌}
use Rattle.std.specs.List.{AllByRecursion}
use Rattle.tame_cache.specs.Kept.{Disk}
use Rattle.tame_entry.specs.ServerMaps.{ServerMap}
use Rattle.tame_names.specs.declared.locks.LockState.TheVariants as state
use Rattle.audit_program.specs.Jobs.{Asking}
use Rattle.audit_program.specs.RunHistories.{RunHistory}
use Rattle.audit_program.specs.RunHistories as run
use Rattle.audit_program.specs.Worlds.{Telling, World}
use Rattle.audit_start.specs.LockHistories.{Alone, Holders, IsHolder, IsLockedRun, IsSameCache, LockHistory, Together}
use Rattle.audit_start.specs.LockHistories as locked
use Rattle.audit_start.specs.Needs.{lock_of}
use Rattle.audit_start.proofs.Sufficing.{left_unless_exclusive}

-- each run that holds the lock took it when the cache was as it is now
abbrev AreSame : World → Holders → Type 0
AreSame now (Alone taken) = IsSameCache now taken
AreSame now (Together all) = AllByRecursion (IsSameCache now) all

of_middle : (P : World → Type 0) (front back : List World) (w : World) → AllByRecursion P (front ++ w ∷ back) → P w
of_middle P [] back w h = h.0
of_middle P (x ∷ front) back w h = of_middle P front back w h.1

of_others : (P : World → Type 0) (front back : List World) (w : World) → AllByRecursion P (front ++ w ∷ back) → AllByRecursion P (front ++ back)
of_others P [] back w h = h.1
of_others P (x ∷ front) back w h = (h.0, of_others P front back w h.1)

all_by : (P Q : World → Type 0) (ws : List World) → ((w : World) → P w → Q w) → AllByRecursion P ws → AllByRecursion Q ws
all_by P Q [] each h = tt
all_by P Q (w ∷ ws) each h = (each w h.0, all_by P Q ws each h.1)

-- a run that shares the lock leaves the cache
shared_left : {F P R W D : Type 0} (past : D → Disk) (tells : Telling) (m : ServerMap) (asking : Asking) (before now : World)
    → tells.files → tells.disk → lock_of asking ≡ state.Shared → IsLockedRun F P R W D past tells m asking before now → (q : List ℕ) → now.cache q ≡ before.cache q
shared_left past tells m asking before now told told_disk shared made =
    left_unless_exclusive tells asking _ before now made.outcome made.run
    (λ same q. let caches : now.cache ≡ before.cache = made.cache_now ∙ (ap past same ∙ sym made.cache) in ap (λ (c : Disk). c q) caches)
    told told_disk (λ alone. cc (shared, alone))

pub histories : {F P R W D : Type 0} (past : D → Disk) (tells : Telling) (m : ServerMap) (began now : World) (holders : Holders) → tells.files → tells.disk
    → LockHistory F P R W D past tells m began now holders → RunHistory F P R W D tells m began now × AreSame now holders
histories past tells m began now holders told told_disk (locked.begins world unbelieved) = (run.begins world unbelieved, tt)
histories past tells m began now holders told told_disk (locked.takes_alone start mid taken earlier same) =
    let so_far = histories past tells m start mid (Together []) told told_disk earlier in
    (so_far.0, same)
histories past tells m began now holders told told_disk (locked.takes_shared start mid taken all earlier same) =
    let so_far = histories past tells m start mid (Together all) told told_disk earlier in
    (so_far.0, (same, so_far.1))
histories past tells m began now holders told told_disk (locked.ends_alone start mid taken next asking earlier made) =
    let so_far = histories past tells m start mid (Alone taken) told told_disk earlier in
    (run.runs taken taken next asking made.objects made.objects_next made.outcome made.added (run.others start mid taken so_far.0 so_far.1) made.run made.follow made.honest, tt)
histories past tells m began now holders told told_disk (locked.ends_shared start mid taken next front back asking earlier shared made) =
    let so_far = histories past tells m start mid (Together (front ++ taken ∷ back)) told told_disk earlier in
    let found = of_middle (IsSameCache mid) front back taken so_far.1 in
    let left = shared_left past tells m asking taken next told told_disk shared made in (
      run.runs taken taken next asking made.objects made.objects_next made.outcome made.added (run.others start mid taken so_far.0 found) made.run made.follow made.honest,
      all_by (IsSameCache mid) (IsSameCache next) (front ++ back) (λ w same q. same q ∙ (sym (found q) ∙ sym (left q))) (of_others (IsSameCache mid) front back taken so_far.1),
    )
histories past tells m began now holders told told_disk (locked.crashes start mid next all earlier crash) =
    let so_far = histories past tells m start mid (Together all) told told_disk earlier in
    (run.crashes start mid next so_far.0 crash, tt)

-- a run that holds the lock found the cache as it is
holder_same : (now taken : World) (holders : Holders) → IsHolder taken holders → AreSame now holders → IsSameCache now taken
holder_same now taken (Alone w) is same = subst (IsSameCache now) is same
holder_same now taken (Together all) is same = of_middle (IsSameCache now) is.0 is.1 taken (subst (AllByRecursion (IsSameCache now)) is.2 same)

-- so it began in a history
pub began_in : {F P R W D : Type 0} (past : D → Disk) (tells : Telling) (m : ServerMap) (began now taken : World) (holders : Holders) → tells.files → tells.disk
    → LockHistory F P R W D past tells m began now holders → IsHolder taken holders → RunHistory F P R W D tells m taken taken
began_in past tells m began now taken holders told told_disk history is =
    let so_far = histories past tells m began now holders told told_disk history in
    run.others began now taken so_far.0 (holder_same now taken holders is so_far.1)
