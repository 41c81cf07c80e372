use Rattle.std.proofs.Common.{◌≡◌, get_or, refl, arith}
use Rattle.serde_json.specs.Data.{number, unsigned}
use Rattle.tame_records.proofs.QuickNumbers.{small_at_49, small_at_50}
use Rattle.tame_records.proofs.quick_values.small_end.Goals as goal

pub returns-then-first-eq49-clause-value : goal.returns-then-first-eq49-clause-value
returns-then-first-eq49-clause-value c =
    let is : get_or c.args.bytes.now c.args.at 0 ≡ 49 = omega (arith, c.byte_at-first.ensures.value) in
    (number (unsigned 1), small_at_49 c.args.bytes.now c.args.at is, refl)

pub returns-then-first-eq50-clause-value : goal.returns-then-first-eq50-clause-value
returns-then-first-eq50-clause-value c =
    let is : get_or c.args.bytes.now c.args.at 0 ≡ 50 = omega (arith, c.byte_at-first.ensures.value) in
    (number (unsigned 2), small_at_50 c.args.bytes.now c.args.at is, refl)
