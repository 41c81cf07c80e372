use Rattle.audit_words.proofs.Behind.{no_command}
use Rattle.audit_words.proofs.Lone.{no_verdicts_beside, no_verdicts_written}
use Rattle.audit_words.proofs.Order.{one_replaces}
use Rattle.audit_words.proofs.laws.baselines_stand_alone.Goals as goal

pub returns : goal.returns
returns c = record {
  options = one_replaces;
  commands = no_command;
  compared = no_verdicts_beside;
  written = no_verdicts_written;
}
