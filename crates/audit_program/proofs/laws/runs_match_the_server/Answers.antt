use Rattle.std.proofs.Common.{Some}
use Rattle.audit_program.specs.Jobs.{asking_of}
use Rattle.audit_remedies.specs.Endings.{ending}
use Rattle.audit_program.specs.Worlds.{telling}
use Rattle.audit_program.proofs.HeldVerdicts.{held_verdicts}
use Rattle.audit_program.proofs.laws.runs_match_the_server.Goals as goal

pub returns : goal.returns
returns g c files files_now decoder decoder_now runner runner_now wire wire_now disk disk_now words before now outcome audited added run has told online honest =
    held_verdicts (telling g.F.Files.tells g.P.Decoder.tells g.R.Runner.tells g.W.Wire.tells g.D.CacheDisk.tells g.O.Sink.tells g.E.Sink.tells) (asking_of words) before now
    (ending outcome.fault outcome.status outcome.plan) audited added (rw has at run.audits.audited) told online honest
