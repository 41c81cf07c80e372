use lib.Utf8.{encode}
use Rattle.std.proofs.Common.{refl}
use Rattle.std.specs.Str.{chars, trim_start, trim_end}
use Rattle.computed_rows.proofs.formats.requests.Goals as goal

pub returns-clause-spaced : goal.returns-clause-spaced
unfolding trim_start trim_end chars encode
returns-clause-spaced c = refl

pub returns-clause-broken : goal.returns-clause-broken
unfolding trim_start trim_end chars encode
returns-clause-broken c = refl

pub returns-clause-nothing : goal.returns-clause-nothing
unfolding trim_start trim_end chars encode
returns-clause-nothing c = refl

pub returns-clause-crate_file : goal.returns-clause-crate_file
unfolding trim_start trim_end chars encode
returns-clause-crate_file c = refl
