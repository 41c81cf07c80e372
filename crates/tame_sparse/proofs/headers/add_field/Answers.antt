use Rattle.std.proofs.Common.{arith}
use Rattle.tame_sparse.proofs.Fields.{count_more, names_more}
use Rattle.tame_sparse.proofs.headers.add_field.Goals as goal

pub returns-in-Ok-clause-count : goal.returns-in-Ok-clause-count
returns-in-Ok-clause-count c = rw c.in-Ok.ensures.ok (omega (arith, count_more c.args.fields.now c.args.name c.args.value))

pub returns-in-Ok-clause-names : goal.returns-in-Ok-clause-names
returns-in-Ok-clause-names c = rw c.in-Ok.ensures.ok (names_more c.args.fields.now c.args.name c.args.value)
