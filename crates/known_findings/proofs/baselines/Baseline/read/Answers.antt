use Rattle.std.proofs.Common.{arith}
use Rattle.known_findings.proofs.FirstLines.{fewer_pieces}
use Rattle.known_findings.proofs.baselines.Baseline.read.Goals as goal

pub overflow_add-n : goal.overflow_add-n
overflow_add-n c = omega (arith, c.loop-line.invariant.count, fewer_pieces c.args.text.now)
