-- An audit that checks nothing.
use Rattle.std.proofs.Common.{◌≡◌, List, [], refl, sym, subst}
use Rattle.audit_lock.specs.declared.resolving.Package.{Package}
use Rattle.audit_core.specs.Audits.{AuditSays, Moment}
use Rattle.audit_core.specs.Checks.{asked_of, judged_of}
use Rattle.audit_core.specs.declared.checking.Checks.{Checks}
use Rattle.audit_core.specs.declared.checking.Checks.TheVariants.{Off}

says_nothing : (wire_tells disk_tells : Type 0) (m : Moment) → AuditSays Off wire_tells disk_tells m m [] [] [] []
says_nothing wire_tells disk_tells m = record {
  headline = λ online. absurd (cc);
  audited = λ online. absurd (cc);
  recalled = λ offline. absurd (cc);
  counted = record { paths = refl; counts = (refl, refl) };
  caused = tt;
  failed = record { exchanged = λ online. absurd (cc); asked = λ online. absurd (cc); read = λ offline. absurd (cc); off = λ off. refl };
}

-- the same by checks that are off
pub says_off : (wire_tells disk_tells : Type 0) (m : Moment) (checks : Checks) (packages : List Package) → checks ≡ Off → AuditSays checks wire_tells disk_tells m m (asked_of checks packages) (judged_of checks packages) [] []
says_off wire_tells disk_tells m checks packages off =
    let P : Checks → Type 0 = λ c. AuditSays c wire_tells disk_tells m m (asked_of c packages) (judged_of c packages) [] [] in
    subst P (sym off) (says_nothing wire_tells disk_tells m)
