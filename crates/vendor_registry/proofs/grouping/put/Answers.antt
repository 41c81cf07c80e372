use Rattle.std.proofs.Common.{◌≡◌, ◌∷◌, ◌++◌, [], List, ℕ, cond, bytes_eq, sym, ap, ◌∙◌}
use Rattle.std.specs.Prelude.{string_bytes}
use Rattle.vendor_registry.specs.Grouped.{group_at}
use Rattle.vendor_registry.specs.declared.checks.CheckedCrate.{CheckedCrate}
use Rattle.vendor_registry.proofs.Groups.{on_ok, one_put}
use Rattle.vendor_registry.proofs.grouping.put.Goals as goal

pub returns : goal.returns
returns c = λ q.
    let path : List ℕ = string_bytes c.in_ok-path.path in
    let old = c.args.groups.now in
    let mid = c.take_group-group.new.groups in
    let key : c.as_str-2.result.now ≡ path = c.as_str-2.ensures.value in
    on_ok c.keep_group.result
    (λ kept. one_put old mid c.keep_group.new.groups path c.args.one q (sym (c.in_ok-path.ensures.ok ∙ c.as_str.ensures))
    (c.take_group-group.ensures.left q ∙ ap (λ (p : List ℕ). cond (bytes_eq p q) [] (group_at old q)) key)
    (kept ∙ ap (λ (g : List CheckedCrate). cond (bytes_eq path q) g (group_at mid q))
    (c.in_ok-add.ensures.ok ∙ ap (λ (g : List CheckedCrate). g ++ c.args.one ∷ []) (c.take_group-group.ensures.group ∙ ap (group_at old) key))))
    (c.keep_group.ensures q)
