use Rattle.std.proofs.Common.{refl}
use Rattle.hex.proofs.OnLiterals.{hex_on_literals}
use Rattle.tame_location.specs.SipHash.{sip_hash_2_4}
use Rattle.tame_location.proofs.examples.folder_examples.Goals as goal

pub returns-clause-github : goal.returns-clause-github
unfolding sip_hash_2_4 hex_on_literals
returns-clause-github c = refl

pub returns-clause-cloudsmith : goal.returns-clause-cloudsmith
unfolding sip_hash_2_4 hex_on_literals
returns-clause-cloudsmith c = refl

pub returns-clause-advisories : goal.returns-clause-advisories
unfolding sip_hash_2_4 hex_on_literals
returns-clause-advisories c = refl

pub returns-clause-git : goal.returns-clause-git
unfolding sip_hash_2_4 hex_on_literals
returns-clause-git c = refl

pub returns-clause-sparse : goal.returns-clause-sparse
unfolding sip_hash_2_4 hex_on_literals
returns-clause-sparse c = refl
