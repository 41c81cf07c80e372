use Rattle.audit_advisory.proofs.Joined.{segments-apart, segments-joined}
use Rattle.audit_advisory.proofs.laws.segments_give_the_path.Goals as goal

pub returns : goal.returns
returns c = record { joined = segments-joined; apart = segments-apart }
