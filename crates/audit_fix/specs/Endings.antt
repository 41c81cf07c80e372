-- The status that `fix` ends with (this project, after cargo-audit).
use Rattle.std.specs.Prelude.{ℕ, List, length, Bool, not, ◌&&◌, ◌==◌, if◌then◌else◌}
use Rattle.audit_advisory.specs.declared.reports.Vulnerability.{Vulnerability}

-- from the vulnerabilities, the advisories without a patch, and how many steps couldn't be started
abbrev pub fix_status : Bool → List Vulnerability → List ℕ → ℕ → ℕ
fix_status dry_run vulnerabilities unpatchable failed =
    if length vulnerabilities == 0 then 0
    else if not (failed == 0) then 2
    else if dry_run && not (length unpatchable == 0) then 1
    else 0
