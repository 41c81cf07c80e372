use Rattle.std.proofs.Common.{refl}
use lib.Utf8.{encode}
use Rattle.std.specs.Str.{chars}
use Rattle.computed_rows.proofs.formats.names.Goals as goal

pub returns-clause-four : goal.returns-clause-four
unfolding chars encode
returns-clause-four c = refl

pub returns-clause-underscore : goal.returns-clause-underscore
unfolding chars encode
returns-clause-underscore c = refl

pub returns-clause-longer : goal.returns-clause-longer
unfolding chars encode
returns-clause-longer c = refl

pub returns-clause-dot : goal.returns-clause-dot
unfolding chars encode
returns-clause-dot c = refl

pub returns-clause-long : goal.returns-clause-long
unfolding chars encode
returns-clause-long c = refl

pub returns-clause-unlimited : goal.returns-clause-unlimited
unfolding chars encode
returns-clause-unlimited c = refl

pub returns-clause-character : goal.returns-clause-character
unfolding chars encode
returns-clause-character c = refl

pub returns-clause-digit : goal.returns-clause-digit
unfolding chars encode
returns-clause-digit c = refl

pub returns-clause-reserved : goal.returns-clause-reserved
unfolding chars encode
returns-clause-reserved c = refl
