use Rattle.std.proofs.Common.{sym, subst}
use Rattle.tame_records.specs.Kept.{IsOneMore}
use Rattle.tame_records.specs.Orders.{features_cmp, features_total}
use Rattle.tame_records.proofs.PartLemmas.{one_more, own_features}
use Rattle.tame_records.proofs.kept_parts.keep_features.Goals as goal

pub returns : goal.returns
returns c =
    let kept = c.args.kept.now.keys in
    subst (IsOneMore kept c.args.features) (sym c.in_ok-_is_new.ensures.keys) (one_more features_cmp features_total own_features c.args.features kept c.requires)
