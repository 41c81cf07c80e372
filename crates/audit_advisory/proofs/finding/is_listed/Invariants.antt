use Rattle.std.proofs.Common.{◌≡◌, drop}
use Rattle.std.specs.List.{list_any}
use Rattle.audit_advisory.specs.Reports.{tells}
use Rattle.audit_advisory.proofs.finding.is_listed.Given as goal

-- what is left decides
abbrev pub invariant-loop-informational : goal.invariant-loop-informational
invariant-loop-informational l =
    list_any (λ i. tells l.kind i) l.settings.informational_warnings
    ≡ list_any (λ i. tells l.kind i) (drop l.informational-index l.settings.informational_warnings)
