use Rattle.std.proofs.Common.{arith}
use Rattle.std.proofs.lemmas.Str.Pattern.{split_once_first}
use Rattle.tame_entry.proofs.BraceLemmas.{cut_first}
use Rattle.tame_entry.proofs.config.cut_brace.Goals as goal

pub returns : goal.returns
returns c = cut_first c.args.text.now c.split_once.result (split_once_first 123 c.args.text.now c.split_once.result c.split_once.ensures.cases (omega arith))
