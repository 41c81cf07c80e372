use Rattle.std.proofs.Common.{refl}
use lib.Utf8.{encode}
use Rattle.std.specs.Str.{chars}
use Rattle.computed_rows.proofs.formats.downloads.Goals as goal

pub returns-clause-nameless : goal.returns-clause-nameless
unfolding chars encode
returns-clause-nameless c = refl
