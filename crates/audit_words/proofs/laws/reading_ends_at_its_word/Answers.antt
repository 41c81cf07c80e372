use Rattle.audit_words.proofs.Stops.{ends_behind, ends_within}
use Rattle.audit_words.proofs.laws.reading_ends_at_its_word.Goals as goal

pub returns : goal.returns
returns c = record { within = ends_within; behind = ends_behind }
