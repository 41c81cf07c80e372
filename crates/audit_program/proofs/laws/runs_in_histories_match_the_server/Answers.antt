use Rattle.audit_program.specs.Jobs.{asking_of}
use Rattle.audit_remedies.specs.Endings.{ending}
use Rattle.audit_program.specs.Worlds.{telling}
use Rattle.audit_program.proofs.HeldVerdicts.{held_verdicts}
use Rattle.audit_program.proofs.RunHistoryLemmas.{held_binaries, honest_run}
use Rattle.audit_program.proofs.laws.runs_in_histories_match_the_server.Goals as goal

pub returns : goal.returns
returns g c =
    let tells = telling g.F.Files.tells g.P.Decoder.tells g.R.Runner.tells g.W.Wire.tells g.D.CacheDisk.tells g.O.Sink.tells g.E.Sink.tells in
    record {
      lockfiles = λ files files_now decoder decoder_now runner runner_now wire wire_now disk disk_now words m began before now outcome audited added told told_wire told_disk history run has online follow honest.
          held_verdicts tells (asking_of words) before now (ending outcome.fault outcome.status outcome.plan) audited added (rw has at run.audits.audited) told online
          (honest_run tells m began before now added told_wire told_disk history follow honest);
      binaries = λ files files_now decoder decoder_now runner runner_now wire wire_now disk disk_now words m began before now outcome b added told told_wire told_disk history run has online follow honest.
          held_binaries tells (asking_of words) before now (ending outcome.fault outcome.status outcome.plan) b added (rw has at run.audits.binaries) told online
          (honest_run tells m began before now added told_wire told_disk history follow honest);
    }
