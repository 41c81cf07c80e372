use Rattle.std.proofs.Common.{arith, inl, ap, length}
use Rattle.tame_names.proofs.Counted.{length-pieces}
use Rattle.tame_entry.proofs.json_lines.first_bad_line.Goals as goal

pub position-requires-clause-fits : goal.position-requires-clause-fits
position-requires-clause-fits c =
    let few = length-pieces 10 c.args.text.now in
    let same = ap length c.split.ensures.pieces in
    inl (omega (arith, few, same))
