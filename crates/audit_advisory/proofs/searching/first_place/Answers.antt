use Rattle.std.proofs.Common.{◌≡◌, ◌+◌, ◌-◌, ◌/◌, slice_index, true, false, arith}
use Rattle.std.specs.Cmp.Lexicographic.{slice_cmp}
use Rattle.std.specs.Ordering.{nat_cmp}
use Rattle.std.proofs.lemmas.Cmp.{nat_list_cmp_total}
use Rattle.audit_advisory.specs.Names.{goes_on, name_at}
use Rattle.audit_advisory.proofs.Halving.{Halved-more}
use Rattle.audit_advisory.proofs.Ordered.{goes_on-before, goes_on-behind}
use Rattle.audit_advisory.proofs.searching.first_place.Goals as goal

pub loop-low-preserved-then-goes_on : goal.loop-low-preserved-then-goes_on
loop-low-preserved-then-goes_on c =
    let middle = c.loop-low.low + (c.loop-low.high - c.loop-low.low) / 2 in
    let here : goes_on c.args.past (slice_cmp nat_cmp (name_at c.args.advisories.now (slice_index c.args.by_name.now middle)) c.args.name.now) ≡ true = cc in
    record {
      ordered = omega arith;
      within = c.loop-low.invariant.within;
      before = λ k below. goes_on-before nat_list_cmp_total (name_at c.args.advisories.now) c.args.by_name.now c.args.name.now c.args.past c.requires.sorted k middle 0 (omega arith) (omega arith) here;
      behind = c.loop-low.invariant.behind;
      most = λ d. Halved-more _ _ _ (c.loop-low.high - c.loop-low.low) _ _ d (omega arith) (omega arith) (omega arith) (c.loop-low.invariant.most d);
      least = omega arith;
    }

pub loop-low-preserved : goal.loop-low-preserved
loop-low-preserved c =
    let middle = c.loop-low.low + (c.loop-low.high - c.loop-low.low) / 2 in
    let here : goes_on c.args.past (slice_cmp nat_cmp (name_at c.args.advisories.now (slice_index c.args.by_name.now middle)) c.args.name.now) ≡ false = cc in
    record {
      ordered = omega arith;
      within = omega arith;
      before = c.loop-low.invariant.before;
      behind = λ k from within. goes_on-behind nat_list_cmp_total (name_at c.args.advisories.now) c.args.by_name.now c.args.name.now c.args.past c.requires.sorted middle k 0 from within here;
      most = λ d. Halved-more _ _ _ (c.loop-low.high - c.loop-low.low) _ _ d (omega arith) (omega arith) (omega arith) (c.loop-low.invariant.most d);
      least = omega arith;
    }
