use Rattle.std.proofs.Common.{◌≡◌, ◌≤◌, ◌++◌, ℕ, List, drop, map}
use Rattle.std.specs.List.{AllByRecursion, filter}
use Rattle.tame_names.specs.Counts.{CountRoseBy}
use Rattle.tame_cache.specs.Disk.{reads}
use Rattle.audit_advisory.specs.Places.{places_from}
use Rattle.audit_core.specs.FailedTurns.{InSteps}
use Rattle.upgrade_plan.specs.Plans.{IsPlannedAt, IsPlanOf, ReadsOwn, has_vulnerability, stores, vulnerable_places}
use Rattle.upgrade_plan.specs.declared.plans.PlanItem.{PlanItem}
use Rattle.upgrade_plan.proofs.plans.plan.Given as goal

-- the items so far
abbrev pub invariant-loop-i : goal.invariant-loop-i
invariant-loop-i g l = record {
  packages : vulnerable_places l.audited.report.vulnerabilities l.audited.lockfile
      ≡ map (λ (item : PlanItem). item.«package») l.items
      ++ filter (has_vulnerability l.audited.report.vulnerabilities) (places_from l.i (drop l.i l.audited.lockfile));
  planned : AllByRecursion
      (IsPlannedAt
      (IsPlanOf g.D.CacheDisk.tells l.audited.report.settings l.database l.index.cache
      (λ q. reads (g.D.CacheDisk.past l.initial.disk q)))
      l.audited.lockfile)
      l.items;
  stores : CountRoseBy (stores l.items) (g.D.CacheDisk.faults l.initial.disk) (g.D.CacheDisk.faults l.disk);
  reads : InSteps (ReadsOwn l.index.cache l.audited.lockfile) (g.D.CacheDisk.failed l.initial.disk) l.items (g.D.CacheDisk.failed l.disk);
  later : g.D.CacheDisk.faults l.initial.disk ≤ g.D.CacheDisk.faults l.disk;
  same : g.D.CacheDisk.tells → (q : List ℕ) → g.D.CacheDisk.past l.disk q ≡ g.D.CacheDisk.past l.initial.disk q;
  folders : g.D.CacheDisk.tells → g.D.CacheDisk.folders l.disk ≡ g.D.CacheDisk.folders l.initial.disk;
}
