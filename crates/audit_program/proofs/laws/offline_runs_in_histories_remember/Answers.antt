use Rattle.audit_program.specs.Jobs.{asking_of}
use Rattle.audit_remedies.specs.Endings.{ending}
use Rattle.audit_program.specs.Worlds.{telling}
use Rattle.audit_program.proofs.RunsRemember.{binaries_remember, runs_honest, runs_sent, task_remembers}
use Rattle.audit_program.proofs.laws.offline_runs_in_histories_remember.Goals as goal

pub returns : goal.returns
returns g c =
    let tells = telling g.F.Files.tells g.P.Decoder.tells g.R.Runner.tells g.W.Wire.tells g.D.CacheDisk.tells g.O.Sink.tells g.E.Sink.tells in
    record {
      lockfiles = λ files files_now decoder decoder_now runner runner_now wire wire_now disk disk_now words m began before now outcome audited history told told_wire told_disk run has offline.
          task_remembers tells (asking_of words) before now (ending outcome.fault outcome.status outcome.plan) audited m _ (rw has at run.audits.audited) told told_disk offline
          (runs_honest _ _ _ _ _ tells m began before told_wire told_disk history) (runs_sent _ _ _ _ _ tells m began before told_wire told_disk history);
      binaries = λ files files_now decoder decoder_now runner runner_now wire wire_now disk disk_now words m began before now outcome b history told told_wire told_disk run has offline.
          binaries_remember tells (asking_of words) before now (ending outcome.fault outcome.status outcome.plan) b m _ (rw has at run.audits.binaries) told told_wire told_disk offline
          (runs_honest _ _ _ _ _ tells m began before told_wire told_disk history) (runs_sent _ _ _ _ _ tells m began before told_wire told_disk history);
    }
