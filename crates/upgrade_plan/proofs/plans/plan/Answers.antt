use Rattle.std.proofs.Common.{rules, ◌≡◌, ◌∷◌, [], List, ℕ, suc, true, false, map, drop, length, ◌≤◌, Some, sym, ap, subst, refl, ◌∙◌, arith, add-one}
use Rattle.std.specs.Prelude.{IfSome, slice_get}
use Rattle.std.proofs.lemmas.Grind.{common_steps}
use Rattle.std.proofs.lemmas.List.{map-append}
use Rattle.std.proofs.lemmas.Option.{slice_get_read}
use Rattle.tame_cache.specs.Disk.{reads}
use Rattle.audit_core.proofs.FailedLemmas.{steps_more}
use Rattle.audit_core.proofs.Lists.{drop_at}
use Rattle.upgrade_plan.specs.Plans.{IsPlannedAt, IsPlanOf, ReadsOwn, has_vulnerability, vulnerable_places}
use Rattle.audit_advisory.specs.declared.reports.Report.{Report}
use Rattle.upgrade_plan.specs.declared.plans.PlanItem.{PlanItem}
use Rattle.upgrade_plan.proofs.Lowering.{both}
use Rattle.upgrade_plan.proofs.Hitting.{vulnerable_are_hit}
use Rattle.upgrade_plan.proofs.Planning.{all_places, place_kept, place_passed, read_own, rose_more, same_plan}
use Rattle.upgrade_plan.proofs.plans.plan.Goals as goal
use Rattle.upgrade_plan.proofs.plans.plan.Goals.{then-index+in_ok-outcome+in_ok-add, else-index}

pub loop-i-preserved : goal.loop-i-preserved
loop-i-preserved g c =
    let packages = c.args.audited.now.lockfile in
    let settings = c.args.audited.now.report.settings in
    let database = c.args.database.now in
    let cache = c.args.index.now.cache in
    let test = has_vulnerability c.args.audited.now.report.vulnerabilities in
    let files = λ (q : List ℕ). reads (g.D.CacheDisk.past c.args.disk.now q) in
    let Planned = IsPlannedAt (IsPlanOf g.D.CacheDisk.tells settings database cache files) packages in
    let i = c.loop-i.i in
    let p = c.index-packages-i.result in
    let inv = c.loop-i.invariant in
    let left : drop i packages ≡ p ∷ drop (suc i) packages = rw c.packages-packages.ensures at (drop_at c.packages-packages.result.now i p c.loop-i-test.true c.index-packages-i.is) in
    let flag = c.in_ok-flags.ensures.each i (first_of (search rules, grind (arith, common_steps))) in
    let there : slice_get packages i ≡ Some p = rw c.packages-packages.ensures at (slice_get_read c.packages-packages.result.now _ i p refl c.loop-i-test.true c.index-packages-i.is) in
    elim c.if-index.branch [
      | then-index+in_ok-outcome+in_ok-add w ↦
          let tested : test i ≡ true = first_of (search rules, grind (arith, common_steps, flag)) in
          let item : PlanItem = record { «package» = i; outcome = w.in_ok-outcome.outcome } in
          let one = same_plan settings database cache p (λ (q : List ℕ). reads (g.D.CacheDisk.past c.loop-i.disk q)) files w.in_ok-outcome.outcome (λ t q. ap reads (inv.same t q)) w.in_ok-outcome.ensures.planned in
          rw (w.items-is, w.disk-is, w.in_ok-add.ensures.ok) record {
            packages = rw (map-append, add-one) (place_kept test _ (map (λ (x : PlanItem). x.«package») c.loop-i.items) i p _ _ left tested inv.packages);
            planned = both Planned c.loop-i.items (item ∷ []) inv.planned (subst (λ o. IfSome o (λ x. IsPlanOf g.D.CacheDisk.tells settings database cache files x w.in_ok-outcome.outcome)) (sym there) one, tt);
            stores = rose_more c.loop-i.items item _ _ _ inv.stores w.outcome_of.ensures.later w.in_ok-outcome.ensures.store;
            reads = steps_more (ReadsOwn cache packages) _ c.loop-i.items (item ∷ []) _ _ inv.reads (_, read_own cache packages item p _ _ there w.in_ok-outcome.ensures.reads, refl);
            later = omega (arith, inv.later, w.outcome_of.ensures.later);
            same = λ t q. w.outcome_of.ensures.same t q ∙ inv.same t q;
            folders = λ t. w.outcome_of.ensures.folders t ∙ inv.folders t;
          }
      | else-index w ↦
          let tested : test i ≡ false = first_of (search rules, grind (arith, common_steps, flag)) in
          rw (w.items-is, w.disk-is) record {
            packages = rw add-one (place_passed test _ (map (λ (x : PlanItem). x.«package») c.loop-i.items) i p _ _ left tested inv.packages);
            planned = inv.planned;
            stores = inv.stores;
            reads = inv.reads;
            later = inv.later;
            same = inv.same;
            folders = inv.folders;
          }
    ]

pub returns-clause-hit : goal.returns-clause-hit
returns-clause-hit g c yanked is =
    let settings = c.args.audited.now.report.settings in
    let packages = c.args.audited.now.lockfile in
    let test = has_vulnerability c.args.audited.now.report.vulnerabilities in
    let past : length packages ≤ c.loop-i.i = rw c.packages-packages.ensures at c.loop-i-test.false in
    sym (all_places test packages (map (λ (x : PlanItem). x.«package») c.loop-i.items) c.loop-i.i past c.loop-i.invariant.packages)
    ∙ ap (λ (r : Report). vulnerable_places r.vulnerabilities packages) is
    ∙ vulnerable_are_hit settings c.args.database.now packages
