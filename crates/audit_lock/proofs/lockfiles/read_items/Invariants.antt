use Rattle.std.proofs.Common.{◌≡◌, drop}
use Rattle.toml.specs.View.{items_view}
use Rattle.audit_lock.specs.Locked.{listed_from}
use Rattle.audit_lock.proofs.Ahead.{before_read}
use Rattle.audit_lock.proofs.lockfiles.read_items.Given as goal

-- the packages so far, before those of what is left
abbrev pub invariant-loop-i : goal.invariant-loop-i
invariant-loop-i l =
    listed_from 0 (items_view l.items) ≡ before_read l.packages (listed_from l.i (items_view (drop l.i l.items)))
