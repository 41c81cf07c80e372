-- Histories of audits and crashes on one disk that begins without files, or with files that are all
-- refused (this project).
use Rattle.std.specs.Prelude.{◌≡◌, List, [], ◌++◌}
use Rattle.tame_entry.specs.ServerMaps.{ServerMap}
use Rattle.tame_cache.specs.Kept.{Disk, IsCrash, IsUnbelieved}
use Rattle.tame_sparse.specs.Exchanges.{crates_io_index}
use Rattle.tame_sparse.specs.Honest.{AreHonest}
use Rattle.tame_sparse.specs.declared.network.Exchange.{Exchange}
use Rattle.audit_core.specs.Turns.{StaysKept}

-- audits whose exchanges are honest for a map, and crashes: the disk when the last audit began,
-- and the disk now
pub data AuditHistory (m : ServerMap) : Disk → Disk → Type 0 where
  begins : (disk : Disk) → IsUnbelieved crates_io_index [] disk → AuditHistory m disk disk
  audits : (began now next : Disk) (before after added : List Exchange) → AuditHistory m began now
      → after ≡ before ++ added → AreHonest m added → StaysKept before after now next
      → AuditHistory m now next
  crashes : (began now next : Disk) → AuditHistory m began now → IsCrash began now next
      → AuditHistory m next next
