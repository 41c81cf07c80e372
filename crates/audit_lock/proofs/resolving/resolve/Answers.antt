use Rattle.std.proofs.Common.{◌≡◌}
use Rattle.std.specs.BTreeMap.{get_by_text}
use Rattle.audit_lock.specs.Locked.{place_of, resolve_from}
use Rattle.audit_lock.proofs.Steps.{resolve_from-same}
use Rattle.audit_lock.proofs.resolving.resolve.Goals as goal

pub returns-clause-refused : goal.returns-clause-refused
returns-clause-refused c =
    let same : resolve_from (get_by_text c.in_ok-places.places) 0 c.into_vec.result.items ≡ resolve_from (place_of c.args.listed) 0 c.args.listed =
    rw c.into_vec.ensures (resolve_from-same _ _ (λ q. rw c.as_slice.ensures at (c.in_ok-places.ensures q)) 0 c.args.listed) in
    rw same at c.resolve_each.ensures.refused
