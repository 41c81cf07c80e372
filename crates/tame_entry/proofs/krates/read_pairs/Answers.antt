use Rattle.std.proofs.Common.{◌≡◌, ◌∙◌, ◌∷◌, ap}
use Rattle.tame_entry.proofs.KrateLemmas.{pair_on}
use Rattle.tame_entry.proofs.krates.read_pairs.Goals as goal

pub loop-left-preserved : goal.loop-left-preserved
loop-left-preserved c =
    let steps : c.loop-left.left ≡ c.in-Some.field-0.now ∷ c.in-Some-next.line.now ∷ c.next-in-Some.new.self = c.in-Some.ensures.steps ∙ ap (λ k. c.in-Some.field-0.now ∷ k) c.in-Some-next.ensures.steps in
    c.loop-left.invariant ∙ pair_on _ _ _ _ _ _ _ steps c.in_ok-read_line.ensures.ok c.in_ok-add.ensures.ok
