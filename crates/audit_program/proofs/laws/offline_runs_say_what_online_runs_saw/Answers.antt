use Rattle.audit_remedies.specs.Endings.{ending}
use Rattle.audit_program.specs.Worlds.{telling}
use Rattle.audit_program.proofs.LaterRuns.{later_tasks}
use Rattle.audit_program.proofs.laws.offline_runs_say_what_online_runs_saw.Goals as goal

pub returns : goal.returns
returns g c files files_now files_too files_now_too decoder decoder_now decoder_too decoder_now_too runner runner_now runner_too runner_now_too wire wire_now wire_too wire_now_too disk disk_now disk_too disk_now_too
    asking asking_too before now before_too now_too outcome outcome_too audited again added began told told_wire told_disk run run_too has has_too online offline follow kept stayed stayed_too alone between packages =
    let tells = telling g.F.Files.tells g.P.Decoder.tells g.R.Runner.tells g.W.Wire.tells g.D.CacheDisk.tells g.O.Sink.tells g.E.Sink.tells in
    later_tasks tells asking asking_too before now before_too now_too (ending outcome.fault outcome.status outcome.plan) (ending outcome_too.fault outcome_too.status outcome_too.plan) audited again added began told told_wire told_disk
    (rw has at run.audits.audited) (rw has_too at run_too.audits.audited) online offline follow kept stayed stayed_too alone between packages
