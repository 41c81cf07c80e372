use Rattle.std.proofs.Common.{inr}
use Rattle.audit_asked.specs.Calls.{AddsFailed}
use Rattle.audit_asked.specs.ForBinaries.{IsAdvisedCall}
use Rattle.audit_asked.proofs.Widened.{widen}
use Rattle.audit_asked.proofs.binaries.ask_for_binaries.Goals as goal

pub returns-clause-failed : goal.returns-clause-failed
returns-clause-failed g c = λ told.
    let h : AddsFailed (IsAdvisedCall (g.F.Files.host c.args.files.now) c.in_ok-config.config) (g.F.Files.failed c.args.files.now) (g.F.Files.failed c.advised.new.files) c.advised.result =
    rw (c.in_ok-config.ensures.same told, c.in_ok-config.ensures.failed told) at (c.advised.ensures.failed told) in
    widen _ _ _ _ c.advised.result (λ path call k. inr (c.in_ok-config.config, c.in_ok-config.ensures.ok told, k)) h
