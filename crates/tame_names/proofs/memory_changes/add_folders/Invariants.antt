use Rattle.std.proofs.Common.{◌≡◌, take, drop}
use Rattle.tame_names.specs.Changes.{AreFolders, with_folders_at}
use Rattle.tame_names.specs.MemoryFiles.{standing_in}
use Rattle.tame_names.proofs.memory_changes.add_folders.Given as goal

abbrev pub invariant-loop-path : goal.invariant-loop-path
invariant-loop-path l = record {
  part : standing_in l.files ≡ with_folders_at (take l.path-index l.paths) (standing_in l.initial.files);
  were : AreFolders (take l.path-index l.paths) (standing_in l.initial.files);
  can : AreFolders l.paths (standing_in l.initial.files) → AreFolders (drop l.path-index l.paths) (standing_in l.files);
}
