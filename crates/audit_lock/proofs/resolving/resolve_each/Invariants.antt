use Rattle.std.proofs.Common.{◌≡◌, length}
use Rattle.std.specs.BTreeMap.{get_by_text}
use Rattle.std.specs.Vec.Iter.{into_iter_items}
use Rattle.audit_lock.specs.Locked.{resolve_from}
use Rattle.audit_lock.proofs.Ahead.{before_read}
use Rattle.audit_lock.proofs.resolving.resolve_each.Given as goal

-- the packages so far, before those of what is left
abbrev pub invariant-loop-package : goal.invariant-loop-package
invariant-loop-package l =
    resolve_from (get_by_text l.places) 0 l.fn.listed.items
    ≡ before_read l.packages (resolve_from (get_by_text l.places) (length l.packages) (into_iter_items l.package-iterator))
