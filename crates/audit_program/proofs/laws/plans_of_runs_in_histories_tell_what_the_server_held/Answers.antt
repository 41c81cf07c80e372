use Rattle.audit_remedies.specs.Endings.{ending}
use Rattle.audit_program.specs.Worlds.{telling}
use Rattle.audit_program.proofs.HeldItems.{asked_items}
use Rattle.audit_program.proofs.RunHistoryLemmas.{honest_run}
use Rattle.audit_program.proofs.laws.plans_of_runs_in_histories_tell_what_the_server_held.Goals as goal

pub returns : goal.returns
returns g c files files_now decoder decoder_now runner runner_now wire wire_now disk disk_now task given m began before now outcome items audited added told told_wire told_disk history run has planned gives online follow honest =
    let tells = telling g.F.Files.tells g.P.Decoder.tells g.R.Runner.tells g.W.Wire.tells g.D.CacheDisk.tells g.O.Sink.tells g.E.Sink.tells in
    asked_items tells task given before now (ending outcome.fault outcome.status outcome.plan) items audited added (rw has at run.audits.audited) told gives planned online
    (honest_run tells m began before now added told_wire told_disk history follow honest)
