use Rattle.audit_program.specs.Jobs.{asking_of}
use Rattle.audit_remedies.specs.Endings.{ending}
use Rattle.audit_program.specs.Worlds.{telling}
use Rattle.audit_program.proofs.RunHistoryLemmas.{held_binaries}
use Rattle.audit_program.proofs.laws.binaries_match_the_server.Goals as goal

pub returns : goal.returns
returns g c files files_now decoder decoder_now runner runner_now wire wire_now disk disk_now words before now outcome b added run has told online honest =
    held_binaries (telling g.F.Files.tells g.P.Decoder.tells g.R.Runner.tells g.W.Wire.tells g.D.CacheDisk.tells g.O.Sink.tells g.E.Sink.tells) (asking_of words) before now
    (ending outcome.fault outcome.status outcome.plan) b added (rw has at run.audits.binaries) told online honest
