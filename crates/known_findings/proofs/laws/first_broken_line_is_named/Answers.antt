use Rattle.known_findings.proofs.Broken.{first_named, whole}
use Rattle.known_findings.proofs.laws.first_broken_line_is_named.Goals as goal

pub returns-clause-whole : goal.returns-clause-whole
returns-clause-whole c = whole

pub returns-clause-broken : goal.returns-clause-broken
returns-clause-broken c = first_named
