use Rattle.std.proofs.Common.{◌≡◌, ℕ, List, Option, Some, length, option_map, refl, sym, ap, ◌∙◌, subst, take}
use Rattle.std.proofs.Math.Seq.{take-length}
use Rattle.tame_names.specs.Changes.{with_folders}
use Rattle.tame_names.specs.Paths.{parent, ways_to}
use Rattle.tame_location.specs.Locks.{folder_ways}
use Rattle.tame_location.proofs.locks.make_folder.Goals as goal

pub returns-in-Ok-clause-left : goal.returns-in-Ok-clause-left
returns-in-Ok-clause-left g c = λ told.
    let folder = c.in-Some.folder.now in
    let is : Some folder ≡ parent c.args.path.now = sym (ap (option_map (λ f. f.now)) c.in-Some.is) ∙ c.parent.ensures.folder in
    let P : Option (List ℕ) → Type 0 = λ o. (n : ℕ) × (g.F.Files.host c.make_dirs.new.self ≡ with_folders (take n (folder_ways o)) (g.F.Files.host c.args.files.now)) in
    subst P is (length (ways_to folder), c.in-Ok.ensures.made told ∙ rw (take-length (ways_to folder)) refl)
