use Rattle.audit_advisory.specs.declared.outputs.WarningKind.TheVariants as kind
use Rattle.audit_advisory.proofs.Picking.{vulnerability_places, warning_places}
use Rattle.audit_advisory.proofs.finding.add_package.Goals as goal

-- it is enough to look at the places of the name

pub returns-clause-vulnerabilities : goal.returns-clause-vulnerabilities
returns-clause-vulnerabilities c =
    rw (vulnerability_places c.args.settings.now c.args.locked.now c.args.advisories.now, ← c.requires, ← c.in_ok-speaking.ensures, ← c.as_slice-places.ensures)
    c.in_ok-add_vulnerabilities.ensures

pub returns-clause-notices : goal.returns-clause-notices
returns-clause-notices c =
    rw (warning_places c.args.settings.now kind.Notice c.args.locked.now c.args.advisories.now, ← c.requires, ← c.in_ok-speaking.ensures, ← c.as_slice-places.ensures)
    c.in_ok-add_warnings.ensures

pub returns-clause-unmaintained : goal.returns-clause-unmaintained
returns-clause-unmaintained c =
    rw (warning_places c.args.settings.now kind.Unmaintained c.args.locked.now c.args.advisories.now, ← c.requires, ← c.in_ok-speaking.ensures, ← c.as_slice-places.ensures)
    c.in_ok-add_warnings-2.ensures

pub returns-clause-unsound : goal.returns-clause-unsound
returns-clause-unsound c =
    rw (warning_places c.args.settings.now kind.Unsound c.args.locked.now c.args.advisories.now, ← c.requires, ← c.in_ok-speaking.ensures, ← c.as_slice-places.ensures)
    c.in_ok-add_warnings-3.ensures
