use Rattle.std.proofs.Common.{arith, add-one}
use Rattle.std.proofs.lemmas.Grind.{common_steps}
use Rattle.audit_lock.proofs.Steps.{drop_at}
use Rattle.audit_advisory.specs.Reports.{is_vulnerability, is_warning, vulnerability_at, warning_at}
use Rattle.audit_advisory.specs.declared.outputs.WarningKind.TheVariants as kind
use Rattle.audit_advisory.proofs.Picking.{told_more}
use Rattle.audit_advisory.proofs.finding.find_all.Goals as goal

pub loop-i-preserved : goal.loop-i-preserved
loop-i-preserved c =
    let settings = c.args.settings.now in
    let left = drop_at c.args.packages.now c.loop-i.i c.index-packages-i.result c.loop-i-test.true c.index-packages-i.is in
    record {
      vulnerabilities = rw (c.in_ok-add_package.ensures.vulnerabilities, c.advisories-advisories.ensures, add-one) (told_more vulnerability_at (is_vulnerability settings) c.args.database.now _ c.loop-i.found.vulnerabilities c.loop-i.i _ _ _ left c.loop-i.invariant.vulnerabilities);
      notices = rw (c.in_ok-add_package.ensures.notices, c.advisories-advisories.ensures, add-one) (told_more (warning_at kind.Notice) (is_warning settings kind.Notice) c.args.database.now _ c.loop-i.found.notices c.loop-i.i _ _ _ left c.loop-i.invariant.notices);
      unmaintained = rw (c.in_ok-add_package.ensures.unmaintained, c.advisories-advisories.ensures, add-one) (told_more (warning_at kind.Unmaintained) (is_warning settings kind.Unmaintained) c.args.database.now _ c.loop-i.found.unmaintained c.loop-i.i _ _ _ left c.loop-i.invariant.unmaintained);
      unsound = rw (c.in_ok-add_package.ensures.unsound, c.advisories-advisories.ensures, add-one) (told_more (warning_at kind.Unsound) (is_warning settings kind.Unsound) c.args.database.now _ c.loop-i.found.unsound c.loop-i.i _ _ _ left c.loop-i.invariant.unsound);
      most = λ d few.
          let so_far = c.loop-i.invariant.most d few in
          let one = c.places_of-places.ensures.most d few in
          grind (arith, common_steps, so_far, one);
      least = omega (arith, c.loop-i.invariant.least, c.places_of-places.ensures.least);
    }
