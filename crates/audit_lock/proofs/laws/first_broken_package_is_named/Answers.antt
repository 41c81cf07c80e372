use Rattle.audit_lock.proofs.InOrder.{all_are_listed, all_are_placed, first_is_named, first_without_place}
use Rattle.audit_lock.proofs.laws.first_broken_package_is_named.Goals as goal

pub returns : goal.returns
returns c = record {
  listed = all_are_listed;
  broken = first_is_named;
  placed = all_are_placed;
  unnamed = first_without_place;
}
