-- What a run makes of an audit before anything is printed: a plan, the findings that a baseline
-- doesn't list, a baseline, or a local registry (this project).
use Rattle.std.specs.Prelude.{◌≡◌, ◌≢◌, ◌≤◌, ℕ, List, [], unwrap_or, Option, Some, None, Result, Ok, Err}
use Rattle.tame_names.specs.Changes.{Creates}
use Rattle.tame_names.specs.Standing.{Host}
use Rattle.tame_cache.specs.Disk.{reads}
use Rattle.tame_cache.specs.Kept.{Disk}
use Rattle.tame_sparse.specs.Exchanges.{crates_io_index}
use Rattle.known_findings.specs.Baselines.{listed, written}
use Rattle.known_findings.specs.declared.findings.Finding.{Finding}
use Rattle.audit_advisory.specs.declared.advisories.Advisory.{Advisory}
use Rattle.audit_remedies.specs.declared.faults.RunFault.{RunFault}
use Rattle.audit_remedies.specs.declared.faults.RunFault.TheVariants as fault
use Rattle.audit_core.specs.Audits.{Moment}
use Rattle.audit_core.specs.FailedTurns.{InSteps}
use Rattle.audit_core.specs.declared.auditing.Audited.{Audited}
use Rattle.audit_words.specs.declared.commands.VendorCommand.{VendorCommand}
use Rattle.baseline_gate.specs.Gates.{unlisted}
use Rattle.baseline_gate.specs.Reports.{audit_findings}
use Rattle.upgrade_plan.specs.Plans.{IsPlanBy, ReadsOwn, crates_io_cache}
use Rattle.upgrade_plan.specs.declared.plans.PlanItem.{PlanItem}
use Rattle.vendor_registry.specs.declared.faults.VendorFault.{VendorFault}
use Rattle.vendor_registry.specs.declared.faults.VendorFault.TheVariants as vendor_fault
use Rattle.vendor_registry.specs.Checks.{Stock}
use Rattle.vendor_registry.specs.Vendoring.{IsRegistryMade, IsRegistryRefused, Vendoring, vendoring}
use Rattle.audit_remedies.specs.Remedies.{MakesRegistry}
use Rattle.audit_remedies.specs.declared.makings.Made.{Made}
use Rattle.audit_remedies.specs.declared.makings.Made.TheVariants as made
use Rattle.audit_remedies.specs.declared.remedies.Remedy.{Remedy}
use Rattle.audit_remedies.specs.declared.remedies.Remedy.TheVariants.{Report, Fix, Plan, Baseline, WriteBaseline, Vendor}

-- what there is to make something of: whether files and disk are told, the advisories, the baseline
-- that was asked for, the audit; the moment at which the audit left the outside, and the one after
-- what was made; what the host had, and has
pub record Making : Type 1 where
  pub files_tell : Type 0
  pub disk_tells : Type 0
  pub advisories : List Advisory
  pub known : Option (List Finding)
  pub audited : Audited
  pub left : Moment
  pub ended : Moment
  pub host : Host
  pub host_now : Host

abbrev pub making : Type 0 → Type 0 → List Advisory → Option (List Finding) → Audited → Moment
    → Moment → Host → Host → Making
making files_tell disk_tells advisories known audited left ended host host_now = record {
  files_tell = files_tell;
  disk_tells = disk_tells;
  advisories = advisories;
  known = known;
  audited = audited;
  left = left;
  ended = ended;
  host = host;
  host_now = host_now;
}

-- ---- what stays

-- the cache was only read
pub record IsReadSince (told : Type 0) (left ended : Moment) : Type 0 where
  pub exchanges : ended.exchanges ≡ left.exchanges
  pub wire_faults : ended.wire_faults ≡ left.wire_faults
  pub files : told → (q : List ℕ) → ended.files q ≡ left.files q
  pub disk_faults : left.disk_faults ≤ ended.disk_faults

abbrev pub IsReadOnly : Making → Type 0
IsReadOnly m = IsReadSince m.disk_tells m.left m.ended

-- the cache was left as it was
abbrev pub IsUncalled : Making → Type 0
IsUncalled m = m.ended ≡ m.left

-- no file of the host was written
abbrev pub IsUnwritten : Making → Type 0
IsUnwritten m = m.files_tell → m.host_now ≡ m.host

-- ---- a plan

-- it is one by the files of the cache; and the calls on the disk that failed are the reads of the
-- files that it says couldn't be read
abbrev pub IsPlanMade : Making → Result Made RunFault → Type 0
IsPlanMade m (Ok (made.Planned items)) =
    IsPlanBy m.disk_tells m.advisories m.audited m.left.files m.left.disk_faults
    m.ended.disk_faults items
    × InSteps (ReadsOwn crates_io_cache m.audited.lockfile) m.left.disk_failed items
    m.ended.disk_failed
IsPlanMade m (Err fault.NoMemory) = Unit {0}
IsPlanMade m _ = ⊥

-- ---- baselines

abbrev pub making_findings : Making → List Finding
making_findings m = audit_findings m.advisories m.audited

-- the findings of the audit that the baseline doesn't list, in the report's order; no baseline
-- lists nothing
abbrev pub IsGateMade : Making → Result Made RunFault → Type 0
IsGateMade m (Ok (made.Unlisted found)) =
    found ≡ unlisted (unwrap_or m.known []) (making_findings m)
IsGateMade m (Err fault.NoMemory) = Unit {0}
IsGateMade m _ = ⊥

-- whether all was made
abbrev pub done_of : Result Made RunFault → Result Unit RunFault
done_of (Ok it) = Ok tt
done_of (Err reason) = Err reason

-- a file with the lines of the audit's baseline was created at this path; or after a fault, which
-- is reported with this path, nothing or a part of them from the first on
abbrev pub IsFileMade : List ℕ → Making → Result Made RunFault → Type 0
IsFileMade path m r =
    m.files_tell → Creates path (written (listed (making_findings m))) m.host m.host_now (done_of r)

abbrev pub IsToldOf : List ℕ → Result Made RunFault → Type 0
IsToldOf path (Ok made.Written) = Unit {0}
IsToldOf path (Err (fault.File told)) = told ≡ path
IsToldOf path (Err fault.NoMemory) = Unit {0}
IsToldOf path _ = ⊥

-- ---- a registry

-- what a registry of the audit's packages is created of: the cache as the audit left it, and a
-- folder of crate files
abbrev pub crates_io_stock : Disk → Host → List ℕ → Stock
crates_io_stock files host crates = record {
  files = λ q. reads (files q);
  root = [];
  url = crates_io_index;
  host = host;
  crates = crates;
}

abbrev pub stock_in : VendorCommand → Making → Stock
stock_in more m = crates_io_stock m.left.files m.host more.crates

-- how it is created of them: from the cache as the audit left it, in the folder of the arguments
abbrev pub vendoring_in : VendorCommand → Making → Vendoring
vendoring_in more m =
    vendoring m.files_tell m.disk_tells (stock_in more m) m.audited.lockfile more.to m.host_now
    m.left.disk_faults m.ended.disk_faults

-- it was created; or there is none for a reason; or it is out of memory
abbrev pub IsVendorMade : VendorCommand → Making → Result Made RunFault → Type 0
IsVendorMade more m (Ok (made.Vendored v)) = IsRegistryMade (vendoring_in more m) v
IsVendorMade more m (Err (fault.Vendor reason)) =
    (reason ≢ vendor_fault.NoMemory) × IsRegistryRefused (vendoring_in more m) reason
IsVendorMade more m (Err fault.NoMemory) =
    IsRegistryRefused (vendoring_in more m) vendor_fault.NoMemory
IsVendorMade more m _ = ⊥

-- ---- by what is to be done

-- for a report or for `fix` nothing is made but what is to be printed
abbrev pub IsMade : Remedy → Making → Result Made RunFault → Type 0
IsMade Report m r = (r ≡ Ok made.Report) × IsUncalled m × IsUnwritten m
IsMade (Fix dry_run) m r = (r ≡ Ok (made.Fix dry_run)) × IsUncalled m × IsUnwritten m
IsMade Plan m r = IsPlanMade m r × IsReadOnly m × IsUnwritten m
IsMade (Baseline path) m r = IsGateMade m r × IsUncalled m × IsUnwritten m
IsMade (WriteBaseline path) m r = IsToldOf path r × IsUncalled m × IsFileMade path m r
IsMade (Vendor more) m r = IsVendorMade more m r × IsReadOnly m

-- the plan, if one was made
abbrev pub plan_in : Result Made RunFault → Option (List PlanItem)
plan_in (Ok (made.Planned items)) = Some items
plan_in _ = None

-- a file that is to be made at this path
abbrev pub IsFileOf : Remedy → List ℕ → Type 0
IsFileOf (WriteBaseline path) told = told ≡ path
IsFileOf remedy told = ⊥

-- the faults that making may end with
abbrev pub IsMakingFault : Remedy → RunFault → Type 0
IsMakingFault remedy fault.NoMemory = Unit {0}
IsMakingFault remedy (fault.File told) = IsFileOf remedy told
IsMakingFault remedy (fault.Vendor reason) =
    MakesRegistry remedy × (reason ≢ vendor_fault.NoMemory)
IsMakingFault remedy reason = ⊥

-- the fault that reports a refusal of a registry; out of memory has one of its own
abbrev pub IsVendorEnd : VendorFault → RunFault → Type 0
IsVendorEnd vendor_fault.NoMemory end = end ≡ fault.NoMemory
IsVendorEnd reason end = (end ≡ fault.Vendor reason) × (reason ≢ vendor_fault.NoMemory)
