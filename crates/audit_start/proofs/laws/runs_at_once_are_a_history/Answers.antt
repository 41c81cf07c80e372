use Rattle.audit_program.specs.Worlds.{telling}
use Rattle.audit_start.proofs.LockedRuns.{began_in, histories}
use Rattle.audit_start.proofs.laws.runs_at_once_are_a_history.Goals as goal

pub returns : goal.returns
returns g c =
    let tells = telling g.F.Files.tells g.P.Decoder.tells g.R.Runner.tells g.W.Wire.tells g.D.CacheDisk.tells g.O.Sink.tells g.E.Sink.tells in
    record {
      all = λ m began now holders told told_disk history. (histories g.D.CacheDisk.past tells m began now holders told told_disk history).0;
      each = λ m began now taken holders told told_disk history is. began_in g.D.CacheDisk.past tells m began now taken holders told told_disk history is;
    }
