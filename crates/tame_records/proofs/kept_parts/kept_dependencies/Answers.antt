use Rattle.tame_records.specs.Orders.{dependencies_cmp, dependencies_total}
use Rattle.tame_records.proofs.PartLemmas.{own_dependencies, sought}
use Rattle.tame_records.proofs.kept_parts.kept_dependencies.Goals as goal

pub returns : goal.returns
returns c = sought dependencies_cmp dependencies_total own_dependencies (λ r. r.now) c.args.wanted.now c.args.kept.now.keys c.get.result c.get.ensures.key c.get.ensures.same_key
