use Rattle.tame_records.specs.Orders.{features_cmp, features_total}
use Rattle.tame_records.proofs.PartLemmas.{own_features, sought}
use Rattle.tame_records.proofs.kept_parts.kept_features.Goals as goal

pub returns : goal.returns
returns c = sought features_cmp features_total own_features (λ r. r.now) c.args.wanted.now c.args.kept.now.keys c.get.result c.get.ensures.key c.get.ensures.same_key
