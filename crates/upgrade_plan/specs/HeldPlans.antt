-- What is planned from what the server held when an audit asked it (this project).
use Rattle.std.specs.Prelude.{◌≡◌, ◌⊎◌, ℕ, List, [], ◌++◌, Bool, true, false, IsTrue, Option, Some, None, IsSomeAnd}
use Rattle.std.specs.List.{AllByRecursion}
use Rattle.tame_names.specs.Counts.{CountStayed}
use Rattle.tame_names.specs.Names.{path}
use Rattle.tame_entry.specs.Lines.{plain}
use Rattle.tame_entry.specs.ServerMaps.{ServerMap}
use Rattle.tame_cache.specs.Kept.{IsKept}
use Rattle.tame_sparse.specs.Exchanges.{crates_io_index}
use Rattle.tame_sparse.specs.Honest.{AreHonest}
use Rattle.tame_sparse.specs.declared.network.Exchange.{Exchange}
use Rattle.tame_sparse.specs.declared.network.Representation.{Representation}
use Rattle.tame_sparse.specs.declared.network.WireAnswer.{WireAnswer}
use Rattle.audit_lock.specs.declared.resolving.Package.{Package}
use Rattle.audit_advisory.specs.Hits.{is_from_default}
use Rattle.audit_advisory.specs.declared.advisories.Advisory.{Advisory}
use Rattle.audit_advisory.specs.declared.settings.Settings.{Settings}
use Rattle.audit_core.specs.Audits.{IsAuditOf, Moment}
use Rattle.audit_core.specs.Verdicts.{exchange_of, turn_of}
use Rattle.audit_core.specs.declared.asking.Turn.{Turn}
use Rattle.audit_core.specs.declared.auditing.Audited.{Audited}
use Rattle.audit_core.specs.declared.auditors.Auditor.{Auditor}
use Rattle.audit_core.specs.declared.checking.Checks.TheVariants.{Online}
use Rattle.upgrade_plan.specs.Plans.{IsOutcome, IsPlannedAt}
use Rattle.upgrade_plan.specs.Recorded.{body_records}
use Rattle.upgrade_plan.specs.declared.records.NoRecord.TheVariants as why
use Rattle.upgrade_plan.specs.declared.plans.PlanItem.{PlanItem}
use Rattle.upgrade_plan.specs.declared.plans.PlanOutcome.{PlanOutcome}
use Rattle.upgrade_plan.specs.declared.plans.PlanOutcome.TheVariants as outcome

-- ---- of a path

-- the answer says that the kept body is the held one, or it sends a plain one
abbrev pub ConfirmsOrSends : WireAnswer → Type 0
ConfirmsOrSends a = (a.status ≡ 304) ⊎ ((a.status ≡ 200) × IsTrue (plain a.body))

-- what a turn leaves in the cache is what the server held: no call on the disk failed in it, and
-- the answer confirmed the held body or sent it
pub record LeavesHeld (e : Exchange) (t : Turn) : Type 0 where
  pub answer : IsSomeAnd e.answer ConfirmsOrSends
  pub stayed : CountStayed t.disk_before t.disk_after

-- ---- of a package

-- it follows from the records of the held body's lines, or the cache entry couldn't be read
abbrev pub IsHeldOutcome : Settings → List Advisory → Package → Option Representation
    → PlanOutcome → Type 0
IsHeldOutcome settings advisories p held o =
    IsSomeAnd held (λ h. IsOutcome settings advisories p (body_records h.body) o)
    ⊎ (o ≡ outcome.NoRecord why.Store)

-- its name has no path; else the path has an exchange and a turn; if that leaves what the server
-- held, the outcome follows from what was held
abbrev pub IsPathHeldPlan : Settings → List Advisory → List Exchange → List Turn → Package
    → Option (List ℕ) → PlanOutcome → Type 0
IsPathHeldPlan settings advisories exchanges turns p None o = o ≡ outcome.NoRecord why.Name
IsPathHeldPlan settings advisories exchanges turns p (Some q) o =
    IsSomeAnd (exchange_of q exchanges) (λ e. IsSomeAnd (turn_of q turns)
    (λ t. LeavesHeld e t → IsHeldOutcome settings advisories p e.held o))

-- it isn't from the default registry, or the outcome is by its name
abbrev pub IsSourceHeldPlan : Settings → List Advisory → List Exchange → List Turn → Package
    → Bool → PlanOutcome → Type 0
IsSourceHeldPlan settings advisories exchanges turns p false o = o ≡ outcome.NoRecord why.Source
IsSourceHeldPlan settings advisories exchanges turns p true o =
    IsPathHeldPlan settings advisories exchanges turns p (path p.name) o

-- what is planned for a package, from what was held in these exchanges
abbrev pub IsHeldPlan : Settings → List Advisory → List Exchange → List Turn → Package
    → PlanOutcome → Type 0
IsHeldPlan settings advisories exchanges turns p o =
    IsSourceHeldPlan settings advisories exchanges turns p (is_from_default p.source) o

-- ---- of an audit

-- an online audit with these exchanges over an honest server, on a disk that was kept for what the
-- server held; the wire and the disk tell it
pub record IsHonestAudit (auditor : Auditor) (wire disk : Type 0) (began left : Moment)
    (added : List Exchange) (text : List ℕ) (audited : Audited) : Type 0 where
  pub wire_tells : wire
  pub disk_tells : disk
  pub audit : IsAuditOf auditor wire disk began left text audited
  pub online : auditor.checks ≡ Online
  pub follow : left.exchanges ≡ began.exchanges ++ added
  pub server : ServerMap
  pub honest : AreHonest server added
  pub kept : IsKept server crates_io_index [] began.files

-- each item of a plan follows from what was held in the exchanges of the audit
abbrev pub ArePlannedByHeld : List Advisory → Audited → List Exchange → List PlanItem → Type 0
ArePlannedByHeld advisories audited exchanges items =
    AllByRecursion (IsPlannedAt (IsHeldPlan audited.report.settings advisories exchanges
    audited.turns) audited.lockfile) items

-- exchanges over an honest server, from a moment when the disk was kept for what it held; the
-- wire and the disk tell it
pub record IsHonestServing (wire disk : Type 0) (began : Moment) (added : List Exchange)
    : Type 0 where
  pub wire_tells : wire
  pub disk_tells : disk
  pub server : ServerMap
  pub honest : AreHonest server added
  pub kept : IsKept server crates_io_index [] began.files
