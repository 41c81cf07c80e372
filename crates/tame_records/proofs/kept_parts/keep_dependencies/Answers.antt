use Rattle.std.proofs.Common.{sym, subst}
use Rattle.tame_records.specs.Kept.{IsOneMore}
use Rattle.tame_records.specs.Orders.{dependencies_cmp, dependencies_total}
use Rattle.tame_records.proofs.PartLemmas.{one_more, own_dependencies}
use Rattle.tame_records.proofs.kept_parts.keep_dependencies.Goals as goal

pub returns : goal.returns
returns c =
    let kept = c.args.kept.now.keys in
    subst (IsOneMore kept c.args.list) (sym c.in_ok-_is_new.ensures.keys) (one_more dependencies_cmp dependencies_total own_dependencies c.args.list kept c.requires)
