use Rattle.std.proofs.Common.{◌≡◌}
use Rattle.audit_program.specs.Worlds.{telling, uncalled}
use Rattle.audit_program.proofs.AgreedRuns.{all_agree}
use Rattle.audit_program.proofs.laws.runs_agree.Goals as goal

pub returns : goal.returns
returns g c files files_now files_too files_now_too decoder decoder_now decoder_too decoder_now_too runner runner_now runner_too runner_now_too wire wire_now wire_too wire_now_too disk disk_now disk_too disk_now_too asking before now before_too now_too outcome outcome_too told run run_too =
    all_agree (telling g.F.Files.tells g.P.Decoder.tells g.R.Runner.tells g.W.Wire.tells g.D.CacheDisk.tells g.O.Sink.tells g.E.Sink.tells)
    (telling g.F.Files.tells g.P.Decoder.tells g.R.Runner.tells g.W.Wire.tells g.D.CacheDisk.tells g.O.Sink.tells g.E.Sink.tells)
    (uncalled (files_now ≡ files) (decoder_now ≡ decoder) (runner_now ≡ runner) (wire_now ≡ wire) (disk_now ≡ disk))
    (uncalled (files_now_too ≡ files_too) (decoder_now_too ≡ decoder_too) (runner_now_too ≡ runner_too) (wire_now_too ≡ wire_too) (disk_now_too ≡ disk_too))
    asking before now before_too now_too outcome outcome_too told told run run_too
