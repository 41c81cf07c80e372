use Rattle.std.proofs.Common.{refl}
use Rattle.std.specs.Str.{chars}
use Rattle.index_rows.proofs.formats.names.underscored.Goals as goal

pub from_static-requires : goal.from_static-requires
unfolding chars
from_static-requires c = refl
