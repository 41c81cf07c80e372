use Rattle.known_findings.proofs.Sets.{is_set, one_set}
use Rattle.known_findings.proofs.laws.baselines_are_sets.Goals as goal

pub returns-clause-set : goal.returns-clause-set
returns-clause-set c = is_set

pub returns-clause-one : goal.returns-clause-one
returns-clause-one c = one_set
