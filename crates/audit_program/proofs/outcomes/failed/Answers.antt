use Rattle.std.proofs.Common.{Some}
use Rattle.audit_program.proofs.FaultCases.{some_of}
use Rattle.audit_remedies.proofs.Putting.{put_failed}
use Rattle.audit_program.proofs.outcomes.failed.Goals as goal

pub returns-clause-ended : goal.returns-clause-ended
returns-clause-ended g c told before text put = (
  g.E.Sink.holds c.args.err.now,
  put_failed before text (g.E.Sink.holds c.args.err.now) c.args.fault (Some c.put_line-fault.result) (some_of c.args.fault c.put_line-fault.result c.put_line-fault.ensures.fault) put,
  c.put_line-fault.ensures.line told,
)
