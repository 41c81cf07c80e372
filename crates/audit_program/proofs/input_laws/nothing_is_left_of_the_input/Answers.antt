use Rattle.audit_remedies.specs.Endings.{ending}
use Rattle.audit_program.specs.Worlds.{telling}
use Rattle.audit_program.proofs.InputUsedUp.{input_used_up}
use Rattle.audit_program.proofs.input_laws.nothing_is_left_of_the_input.Goals as goal

pub returns : goal.returns
returns g c files files_now decoder decoder_now runner runner_now wire wire_now disk disk_now task before now outcome audited run told has is disk_told =
    input_used_up (telling g.F.Files.tells g.P.Decoder.tells g.R.Runner.tells g.W.Wire.tells g.D.CacheDisk.tells g.O.Sink.tells g.E.Sink.tells) task before now
    (ending outcome.fault outcome.status outcome.plan) audited (rw has at run.audits.audited) told is disk_told
