use Rattle.audit_remedies.specs.Endings.{ending}
use Rattle.audit_program.specs.Worlds.{telling}
use Rattle.audit_program.proofs.HeldVerdicts.{held_verdicts}
use Rattle.audit_program.proofs.RunHistoryLemmas.{honest_run}
use Rattle.audit_start.proofs.LockedRuns.{began_in}
use Rattle.audit_start.proofs.laws.runs_at_once_match_the_server.Goals as goal

pub returns : goal.returns
returns g c files files_now decoder decoder_now runner runner_now wire wire_now disk disk_now m began now taken next holders asking outcome audited added told told_wire told_disk history is run has online follow honest =
    let tells = telling g.F.Files.tells g.P.Decoder.tells g.R.Runner.tells g.W.Wire.tells g.D.CacheDisk.tells g.O.Sink.tells g.E.Sink.tells in
    held_verdicts tells asking taken next (ending outcome.fault outcome.status outcome.plan) audited added (rw has at run.audits.audited) told online
    (honest_run tells m taken taken next added told_wire told_disk (began_in g.D.CacheDisk.past tells m began now taken holders told told_disk history is) follow honest)
