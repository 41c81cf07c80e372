use Rattle.std.proofs.Common.{refl}
use lib.Utf8.{encode}
use Rattle.std.specs.Str.{chars, is_utf8}
use Rattle.computed_rows.proofs.formats.entries.Goals as goal

pub returns-clause-bytes : goal.returns-clause-bytes
unfolding chars is_utf8 encode
returns-clause-bytes c = refl

pub returns-clause-version : goal.returns-clause-version
unfolding chars is_utf8 encode
returns-clause-version c = refl

pub returns-clause-count : goal.returns-clause-count
unfolding chars is_utf8 encode
returns-clause-count c = refl

pub returns-clause-revision : goal.returns-clause-revision
unfolding chars is_utf8 encode
returns-clause-revision c = refl
