use Rattle.std.proofs.Common.{◌≡◌, ◌∙◌, ap, Ok, subst}
use Rattle.tame_names.specs.Changes.{AreFolders, with_folders_at}
use Rattle.tame_names.specs.MemoryFiles.{standing_in}
use Rattle.tame_names.specs.Paths.{ways_to}
use Rattle.tame_names.proofs.Placed.{folder_there}
use Rattle.tame_names.proofs.memory_files.MemFilesFiles.make_dirs.Goals as goal

pub returns-in-Ok-true-clause-there : goal.returns-in-Ok-true-clause-there
returns-in-Ok-true-clause-there c =
    let same : c.as_slice.result.now ≡ ways_to c.args.path.now = c.as_slice.ensures ∙ c.in_ok-ways.ensures in
    let done = ap Ok c.in-Ok-true.field-0-test in
    let stands = standing_in c.begin.new.self.files in
    let were = subst (λ ways. AreFolders ways stands) same (c.in-Ok-true.ensures.were done) in
    let made = c.in-Ok-true.ensures.all done ∙ ap (λ ways. with_folders_at ways stands) same in
    folder_there c.args.path.now stands _ were made
