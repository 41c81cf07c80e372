use Rattle.std.proofs.Common.{inr}
use Rattle.audit_asked.specs.Calls.{AddsFailed, IsReadingCall}
use Rattle.audit_asked.proofs.Widened.{widen}
use Rattle.audit_asked.proofs.advisories.advisories.Goals as goal

pub returns-in_ok-paths-in-Some-clause-failed : goal.returns-in_ok-paths-in-Some-clause-failed
returns-in_ok-paths-in-Some-clause-failed g c = λ told.
    let h : AddsFailed (IsReadingCall (g.F.Files.host c.args.files.now) c.in_ok-paths-in-Some.paths) (g.F.Files.failed c.args.files.now) (g.F.Files.failed c.advisories_at.new.files) c.advisories_at.result =
    rw (c.as_slice.ensures, c.in_ok-paths-in-Some.ensures.same told, c.in_ok-paths-in-Some.ensures.failed told) at (c.advisories_at.ensures.failed told) in
    let all = rw c.as_str.ensures at c.in_ok-paths-in-Some.ensures.ok told in
    rw c.in-Some.is (widen _ _ _ _ c.advisories_at.result (λ path call k. inr (rw (← all) k)) h)
