use Rattle.std.proofs.Common.{◌≡◌, ◌≤◌, ◌-◌, Result}
use Rattle.tame_names.specs.declared.errors.LockError.{LockError}
use Rattle.tame_location.specs.Locks.{AreTries, IsLeft, LockMoment, lock_moment}
use Rattle.tame_location.proofs.locks.take_tries.Given as goal

-- the host as it was; the tries so far, before those that are left, are those that are wanted
abbrev pub invariant-loop-number : goal.invariant-loop-number
invariant-loop-number g l = record {
  later : g.F.Files.faults l.fn.files ≤ g.F.Files.faults l.files;
  stays : g.F.Files.tells → IsLeft (g.F.Files.locks l.fn.files) (g.F.Files.locks l.files);
  same : g.F.Files.tells → g.F.Files.host l.files ≡ g.F.Files.host l.fn.files;
  left : g.F.Files.tells → (now : LockMoment) (r : Result Unit LockError)
      → AreTries (l.times - l._number) l.path l.exclusive (lock_moment (g.F.Files.locks l.files) (g.F.Files.host l.files) (g.F.Files.faults l.files) (g.F.Files.failed l.files)) now r
      → AreTries l.times l.path l.exclusive (lock_moment (g.F.Files.locks l.fn.files) (g.F.Files.host l.fn.files) (g.F.Files.faults l.fn.files) (g.F.Files.failed l.fn.files)) now r;
}
