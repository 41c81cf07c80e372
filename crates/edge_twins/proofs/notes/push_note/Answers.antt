use Rattle.std.proofs.Common.{rules, string_bytes}
use Rattle.edge_twins.proofs.Adding.{part_of_note}
use Rattle.edge_twins.proofs.notes.push_note.Goals as goal

pub returns-then-is_err-2-clause-part : goal.returns-then-is_err-2-clause-part
returns-then-is_err-2-clause-part c = part_of_note (string_bytes c.args.notes.now) c.args.text.now (string_bytes c.push_str.new.self) (string_bytes c.push_str-2.new.self) (search rules) (search rules)
