-- The server and the cache of two audits of generated packages (this project).
use Rattle.std.specs.Prelude.{◌≡◌, ℕ, List, [], ⊤}
use Rattle.tame_cache.specs.MemoryDisk.{past_in}
use Rattle.tame_cache.specs.declared.memory_disk.MemCacheDisk.{MemCacheDisk}
use Rattle.tame_sparse.specs.declared.serving.ServeWire.{ServeWire}
use Rattle.audit_settings.specs.Defaults.{default_settings}
use Rattle.audit_core.specs.Auditors.{auditor_of}
use Rattle.audit_core.specs.Audits.{IsAuditOf, Moment}
use Rattle.audit_core.specs.declared.auditors.Auditor.{Auditor}
use Rattle.audit_generator.specs.Advisories.{advisories}
use Rattle.audit_generator.specs.Packages.{lockfile_text}
use Rattle.audit_generator.specs.Outcomes.{AreStored, SaysOf, exchanges_of}
use Rattle.audit_generator.specs.declared.generating.Generated.{Generated}

-- the exchanges so far, the files, and the counts of faults
abbrev pub moment_of : ServeWire → MemCacheDisk → Moment
moment_of wire disk = record {
  exchanges = wire.exchanges;
  files = past_in disk;
  wire_faults = 0;
  disk_faults = disk.counts.faults;
  disk_failed = disk.failed;
}

-- the auditor of the default settings and of the advisories on n packages
abbrev pub auditor_for : ℕ → Auditor
auditor_for n = auditor_of default_settings (advisories n)

-- nothing was asked, there is no file, and nothing has failed
pub record IsStart (moment : Moment) : Type 0 where
  pub exchanges : moment.exchanges ≡ []
  pub files : (q : List ℕ) → moment.files q ≡ []
  pub wire_faults : moment.wire_faults ≡ 0
  pub disk_faults : moment.disk_faults ≡ 0

-- two audits of the lockfile of n packages: the first from a start to a moment between, the second
-- from there to the end
pub record IsAuditedTwice (n : ℕ) (generated : Generated) (began between : Moment) : Type 0 where
  pub start : IsStart began
  pub first : IsAuditOf (auditor_for n) ⊤ ⊤ began between (lockfile_text n) generated.first
  pub second : IsAuditOf (auditor_for n) ⊤ ⊤ between (moment_of generated.wire generated.disk)
      (lockfile_text n) generated.second

-- two audits, one after the other: each file was sent once and confirmed once, its entry is in
-- the cache, and both audits say what that auditor says about the packages
pub record IsGenerated (n : ℕ) (generated : Generated) : Type 0 where
  pub audits : (began : Moment) × (between : Moment) × IsAuditedTwice n generated began between
  pub exchanges : generated.wire.exchanges ≡ exchanges_of n
  pub stored : AreStored n (past_in generated.disk)
  pub first : SaysOf n (auditor_for n) generated.first
  pub second : SaysOf n (auditor_for n) generated.second
