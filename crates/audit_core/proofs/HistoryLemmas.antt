-- Histories of audits keep the disk.
use Rattle.std.proofs.Common.{[]}
use Rattle.tame_entry.specs.ServerMaps.{ServerMap}
use Rattle.tame_cache.specs.Kept.{Disk, History, IsKept, begins, calls, crashes}
use Rattle.tame_cache.proofs.KeptLemmas.{history_kept}
use Rattle.tame_sparse.specs.Exchanges.{crates_io_index}
use Rattle.audit_core.specs.Histories.{AuditHistory}
use Rattle.audit_core.specs.Histories as audit

as_history : (m : ServerMap) (began now : Disk) → AuditHistory m began now → History m crates_io_index [] began now
as_history m began now (audit.begins disk unbelieved) = begins disk unbelieved
as_history m began now (audit.audits start now_ next before after added earlier follow honest keeps) = calls start now_ next (as_history m start now_ earlier) (λ kept. keeps.kept m added follow honest kept)
as_history m began now (audit.crashes start now_ next earlier crash) = crashes start now_ next (as_history m start now_ earlier) crash

pub audits_keep : (m : ServerMap) (began now : Disk) → AuditHistory m began now → IsKept m crates_io_index [] now
audits_keep m began now history = history_kept m crates_io_index [] began now (as_history m began now history)
