use Rattle.std.proofs.Common.{◌≡◌, map}
use Rattle.std.specs.String.{string_bytes}
use Rattle.tame_cache.specs.MemoryDisk.{folders_in}
use Rattle.tame_cache.proofs.FolderLemmas.{one_made}
use Rattle.tame_cache.proofs.memory_disk.MemCacheDiskCacheDisk.make_dirs.Goals as goal

pub returns-in-Ok-clause-folders : goal.returns-in-Ok-clause-folders
returns-in-Ok-clause-folders c =
    let same : map (λ p. string_bytes p) c.begin.new.self.folders.items ≡ folders_in c.args.self.now = cc c.begin.ensures.folders in
    one_made _ _ _ c.args.path.now c.in-Ok.ensures.added same
