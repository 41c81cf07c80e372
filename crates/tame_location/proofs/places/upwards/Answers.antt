use Rattle.std.proofs.Common.{◌≡◌, ℕ, List, [], Option, Some, None, option_map, sym, ap, ◌∙◌, append-nil, subst}
use Rattle.tame_names.specs.Paths.{parent}
use Rattle.tame_location.specs.Places.{AreUpwards}
use Rattle.tame_location.proofs.places.upwards.Goals as goal

pub returns : goal.returns
returns c =
    let none : parent c.loop-above.last.now ≡ None = sym c.parent.ensures.folder ∙ ap (option_map (λ f. f.now)) c.in_default.is in
    let P : Option (List ℕ) → Type 0 = λ o. AreUpwards o [] in
    let Q : List (List ℕ) → Type 0 = λ l. AreUpwards (Some c.args.folder.now) l in
    subst Q (append-nil c.loop-above.folders) (c.loop-above.invariant.so_far [] (subst P (sym none) tt))
