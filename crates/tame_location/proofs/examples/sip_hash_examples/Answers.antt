use Rattle.std.proofs.Common.{refl}
use Rattle.tame_location.specs.SipHash.{sip_hash_2_4}
use Rattle.tame_location.proofs.examples.sip_hash_examples.Goals as goal

pub returns-clause-empty : goal.returns-clause-empty
unfolding sip_hash_2_4
returns-clause-empty c = refl

pub returns-clause-seven : goal.returns-clause-seven
unfolding sip_hash_2_4
returns-clause-seven c = refl

pub returns-clause-whole : goal.returns-clause-whole
unfolding sip_hash_2_4
returns-clause-whole c = refl

pub returns-clause-authors : goal.returns-clause-authors
unfolding sip_hash_2_4
returns-clause-authors c = refl
