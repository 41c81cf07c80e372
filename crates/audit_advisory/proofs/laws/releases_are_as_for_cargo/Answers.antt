use Rattle.audit_advisory.proofs.Agreeing.{all_agree, one_agrees}
use Rattle.audit_advisory.proofs.laws.releases_are_as_for_cargo.Goals as goal

pub returns-clause-one : goal.returns-clause-one
returns-clause-one c = one_agrees

pub returns-clause-all : goal.returns-clause-all
returns-clause-all c = all_agree
