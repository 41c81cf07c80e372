-- The summary of a report (this project, after cargo-audit).
use Rattle.std.specs.Prelude.{ℕ, ◌-◌, codes, decimal, List, [], ◌++◌, length, ◌==◌, Option, if◌then◌else◌}
use Rattle.std.specs.List.{count_by}
use Rattle.std.specs.Option.{option_map_or}
use Rattle.audit_advisory.specs.Exits.{is_denied}
use Rattle.audit_advisory.specs.declared.outputs.DenyOption.{DenyOption}
use Rattle.audit_advisory.specs.declared.reports.Report.{Report}
use Rattle.audit_advisory.specs.declared.reports.Warning.{Warning}

-- ---- the lines

-- a number with its word, singular or plural
abbrev pub counted : ℕ → List ℕ → List ℕ → List ℕ
counted n one several = decimal n ++ codes " " ++ (if n == 1 then one else several)

-- where it was found: a binary's path, or the text without one
abbrev pub ending : List ℕ → Option (List ℕ) → List ℕ
ending without path = option_map_or (λ p. codes " in " ++ p) path without

-- without findings, no line
abbrev pub found_line : List ℕ → ℕ → List ℕ → List ℕ → List ℕ → List ℕ
found_line level n one several end =
    if n == 0 then []
    else level ++ codes ": " ++ counted n one several ++ codes " found" ++ end ++ codes "\n"

abbrev pub vulnerabilities_line : Option (List ℕ) → ℕ → List ℕ
vulnerabilities_line path n =
    found_line (codes "error") n (codes "vulnerability") (codes "vulnerabilities")
    (ending (codes "!") path)

abbrev pub denied_line : Option (List ℕ) → ℕ → List ℕ
denied_line path n =
    found_line (codes "error") n (codes "denied warning") (codes "denied warnings")
    (ending (codes "!") path)

abbrev pub allowed_line : Option (List ℕ) → ℕ → List ℕ
allowed_line path n =
    found_line (codes "warning") n (codes "allowed warning") (codes "allowed warnings")
    (ending (codes "") path)

-- ---- the counts

-- the warnings of denied kinds; the others are allowed
abbrev pub denied_count : List DenyOption → List Warning → ℕ
denied_count deny warnings = count_by (λ w. is_denied deny w.kind) warnings

unfoldable pub summary : List DenyOption → Option (List ℕ) → Report → List ℕ
summary deny path report =
    vulnerabilities_line path (length report.vulnerabilities)
    ++ denied_line path (denied_count deny report.warnings)
    ++ allowed_line path (length report.warnings - denied_count deny report.warnings)
