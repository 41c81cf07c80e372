use Rattle.std.proofs.Common.{◌≡◌, ◌+◌, sym, ap, ◌∙◌, add-one}
use Rattle.tame_names.specs.Changes.{is_folder, with_folder_at}
use Rattle.tame_names.specs.MemoryFiles.{standing_in}
use Rattle.tame_names.proofs.Placed.{folders_left, folders_were, more_folders}
use Rattle.tame_names.proofs.memory_changes.add_folders.Goals as goal

pub returns-then-not-branch-clause-part : goal.returns-then-not-branch-clause-part
returns-then-not-branch-clause-part c =
    let made : standing_in c.add_folder.new.files ≡ with_folder_at c.path-item.result (standing_in c.loop-path.files) =
    c.in_ok-add_folder.ensures.ok ∙ ap (λ p. with_folder_at p (standing_in c.loop-path.files)) c.as_str.ensures in
    (c.loop-path.path-index + 1, more_folders _ _ _ _ _ _ c.loop-path-test.true c.path-item.is c.loop-path.invariant.part made)

pub loop-path-preserved : goal.loop-path-preserved
loop-path-preserved c =
    let made : standing_in c.add_folder.new.files ≡ with_folder_at c.path-item.result (standing_in c.loop-path.files) =
    c.in_ok-add_folder.ensures.ok ∙ ap (λ p. with_folder_at p (standing_in c.loop-path.files)) c.as_str.ensures in
    record {
      part = more_folders _ _ _ _ _ _ c.loop-path-test.true c.path-item.is c.loop-path.invariant.part made;
      were = folders_were _ _ _ _ _ c.loop-path-test.true c.path-item.is c.loop-path.invariant.part (sym (ap (λ p. is_folder (with_folder_at p (standing_in c.loop-path.files) p)) c.as_str.ensures) ∙ sym c.in_ok-add_folder.ensures.there ∙ c.if-not-branch.false) c.loop-path.invariant.were;
      can = λ all. rw add-one (folders_left _ _ _ _ _ c.loop-path-test.true c.path-item.is made (c.loop-path.invariant.can all));
    }
