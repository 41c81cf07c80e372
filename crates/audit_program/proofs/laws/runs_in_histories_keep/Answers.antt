use Rattle.audit_program.specs.Worlds.{telling}
use Rattle.audit_program.proofs.RunHistoryLemmas.{runs_keep}
use Rattle.audit_program.proofs.laws.runs_in_histories_keep.Goals as goal

pub returns : goal.returns
returns g c m began now wire disk history =
    runs_keep (telling g.F.Files.tells g.P.Decoder.tells g.R.Runner.tells g.W.Wire.tells g.D.CacheDisk.tells g.O.Sink.tells g.E.Sink.tells) m began now wire disk history
