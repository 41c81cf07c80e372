use Rattle.std.proofs.Common.{◌∙◌, ◌≤◌, length, sym, arith}
use Rattle.std.proofs.lemmas.Bool.Decides.{nat_tests}
use Rattle.tame_entry.proofs.ScanLemmas.{back_other, comma_none, comma_some}
use Rattle.tame_entry.proofs.scan.line_flag.Goals as goal

pub returns-in-Some-part_flag : goal.returns-in-Some-part_flag
returns-in-Some-part_flag c =
    let within : c.loop-at.at ≤ length c.args.line.now = grind (arith, c.loop-at.invariant.ordered, c.loop-at.invariant.within) in
    sym (c.loop-at.invariant.left ∙ comma_some _ _ _ _ c.loop-at-test.true within c.in-44.is (sym c.part_flag.ensures ∙ c.in-Some-part_flag.is))

pub loop-at-preserved-in-44 : goal.loop-at-preserved-in-44
loop-at-preserved-in-44 c =
    let within : c.loop-at.at ≤ length c.args.line.now = grind (arith, c.loop-at.invariant.ordered, c.loop-at.invariant.within) in record {
      ordered = search arith;
      within = search arith;
      left = c.loop-at.invariant.left ∙ comma_none _ _ _ c.loop-at-test.true within c.in-44.is (sym c.part_flag.ensures ∙ c.in_default-part_flag.is);
    }

pub loop-at-preserved : goal.loop-at-preserved
loop-at-preserved c = record {
  ordered = search arith;
  within = c.loop-at.invariant.within;
  left = c.loop-at.invariant.left ∙ back_other _ _ _ c.loop-at-test.true c.loop-at.invariant.ordered c.loop-at.invariant.within (grind (arith, nat_tests)) (grind (arith, nat_tests));
}
