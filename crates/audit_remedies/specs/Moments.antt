-- A moment, by its fields in their order (this project).
use Rattle.std.specs.Prelude.{ℕ, List}
use Rattle.tame_cache.specs.FailedCalls.{FailedDiskCalls}
use Rattle.tame_cache.specs.Kept.{Disk}
use Rattle.tame_sparse.specs.declared.network.Exchange.{Exchange}
use Rattle.audit_core.specs.Audits.{Moment}

abbrev pub moment : List Exchange → Disk → ℕ → ℕ → FailedDiskCalls → Moment
moment exchanges files wire_faults disk_faults disk_failed = record {
  exchanges = exchanges;
  files = files;
  wire_faults = wire_faults;
  disk_faults = disk_faults;
  disk_failed = disk_failed;
}
