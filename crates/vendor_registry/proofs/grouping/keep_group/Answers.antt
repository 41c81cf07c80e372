use Rattle.std.proofs.Common.{Some}
use Rattle.std.specs.Prelude.{string_bytes}
use Rattle.std.proofs.lemmas.Map.Text.{btree_map_updates_text}
use Rattle.vendor_registry.proofs.Groups.{kept}
use Rattle.vendor_registry.proofs.grouping.keep_group.Goals as goal

pub returns : goal.returns
returns c = λ q.
    kept c.args.groups.now c.insert.new.self (string_bytes c.args.path) c.args.group q
    (btree_map_updates_text (string_bytes c.args.path) c.args.groups.now c.insert.new.self (Some c.args.group) c.in_ok-_before.ensures.updates q)
