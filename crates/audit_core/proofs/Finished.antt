-- An audit of a text by its parts.
use Rattle.std.proofs.Common.{◌≡◌, ◌<◌, ℕ, List, [], ◌∷◌, length, map, Ok, refl, sym, ap, ◌∙◌, subst}
use Rattle.std.specs.Prelude.{All}
use Rattle.audit_lock.specs.Locked.{locked}
use Rattle.audit_lock.specs.declared.resolving.Package.{Package}
use Rattle.audit_advisory.specs.Reports.{IsPlaced, report_of, with_yanked}
use Rattle.audit_advisory.specs.declared.reports.Report.{Report}
use Rattle.audit_core.specs.Auditors.{audit_exit, yanked_in}
use Rattle.audit_core.specs.Audits.{AuditSays, IsAuditOf, IsCausedAt, Moment}
use Rattle.audit_core.specs.Checks.{asked_of, judged_of}
use Rattle.audit_core.specs.Verdicts.{AreVerdicts}
use Rattle.audit_core.specs.declared.asking.Turn.{Turn}
use Rattle.audit_core.specs.declared.auditing.Audited.{Audited}
use Rattle.audit_core.specs.declared.auditors.Auditor.{Auditor}
use Rattle.audit_core.specs.declared.checking.Checks.{Checks}
use Rattle.audit_core.specs.declared.checking.Checks.TheVariants.{Off}
use Rattle.audit_core.specs.declared.verdicts.Judged.{Judged}
use Rattle.audit_core.proofs.Yanked.{yanked_below}

no_turns : (turns : List Turn) → map (λ t. t.path) turns ≡ [] → turns ≡ []
no_turns [] h = refl
no_turns (t ∷ ts) h = cc

no_verdicts : (turns : List Turn) (verdicts : List Judged) → AreVerdicts (IsCausedAt turns) [] verdicts → verdicts ≡ []
no_verdicts turns [] h = refl
no_verdicts turns (j ∷ js) h = absurd h

-- what an audit says while checks are off
off_says : (checks : Checks) (wire_tells disk_tells : Type 0) (began ended : Moment) (packages : List Package) (turns : List Turn) (verdicts : List Judged)
    → AuditSays checks wire_tells disk_tells began ended (asked_of checks packages) (judged_of checks packages) turns verdicts → checks ≡ Off → (verdicts ≡ []) × (turns ≡ [])
off_says checks wire_tells disk_tells began ended packages turns verdicts says off =
    let P : Checks → Type 0 = λ c. AuditSays c wire_tells disk_tells began ended (asked_of c packages) (judged_of c packages) turns verdicts in
    let mine = subst P off says in
    (no_verdicts turns verdicts mine.caused, no_turns turns mine.counted.paths)

pub finished : (auditor : Auditor) (wire_tells disk_tells : Type 0) (began ended : Moment) (text : List ℕ) (packages : List Package) (turns : List Turn) (verdicts : List Judged) (report : Report) (a : Audited)
    → locked text ≡ Ok packages → report ≡ report_of auditor.settings auditor.database packages → IsPlaced report
    → AuditSays auditor.checks wire_tells disk_tells began ended (asked_of auditor.checks packages) (judged_of auditor.checks packages) turns verdicts
    → a.lockfile ≡ packages → a.report ≡ with_yanked report (yanked_in verdicts) → a.verdicts ≡ verdicts → a.turns ≡ turns
    → (IsPlaced report → All (λ place. place < report.dependency_count) (yanked_in verdicts) → IsPlaced a.report)
    → a.exit ≡ audit_exit auditor a.report → IsAuditOf auditor wire_tells disk_tells began ended text a
finished auditor wire_tells disk_tells began ended text packages turns verdicts report a read made placed says lockfile with_them verdicts_same turns_same both exit =
    let count : report.dependency_count ≡ length packages = ap (λ (r : Report). r.dependency_count) made in
    let below = yanked_below (IsCausedAt turns) auditor.checks packages verdicts says.caused in
    record {
      lockfile = read ∙ ap Ok (sym lockfile);
      report = with_them ∙ ap (λ (r : Report). with_yanked r (yanked_in verdicts)) made ∙ rw (lockfile, verdicts_same) refl;
      placed = both placed (subst (λ n. All (λ place. place < n) (yanked_in verdicts)) (sym count) below);
      exit = exit;
      says = rw (lockfile, verdicts_same, turns_same) says;
      off = λ off. let none = off_says auditor.checks wire_tells disk_tells began ended packages turns verdicts says off in (verdicts_same ∙ none.0, turns_same ∙ none.1);
    }
