-- What the program starts with, by its parts.
use Rattle.std.proofs.Common.{◌≡◌, ℕ, List, Ok, refl}
use Rattle.tame_names.specs.Standing.{Host}
use Rattle.tame_names.specs.declared.locks.LockState.{LockState}
use Rattle.audit_program.specs.Jobs.{asking_of}
use Rattle.audit_start.specs.Needs.{lock_of}
use Rattle.audit_start.specs.Starts.{folder_of, lock_file, start_of}
use Rattle.audit_start.specs.declared.faults.FolderVariable.TheVariants as variable

pub started : (arguments : List (List ℕ)) (host : Host) (mirror cache lock : List ℕ) (taken : LockState) → folder_of variable.Mirror host ≡ Ok mirror → folder_of variable.Cache host ≡ Ok cache
    → lock ≡ lock_file cache → taken ≡ lock_of (asking_of arguments) → start_of arguments host ≡ Ok (record { mirror = mirror; cache = cache; lock = lock; taken = taken })
started arguments host mirror cache lock taken one two at how = rw (one, two, at, how) refl
