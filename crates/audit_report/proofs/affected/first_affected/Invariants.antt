use Rattle.std.proofs.Common.{◌≡◌, length, option_map}
use Rattle.semver.specs.Identifiers.{parts_of}
use Rattle.audit_report.specs.Affected.{affected_paths}
use Rattle.audit_report.proofs.affected.first_affected.Given as goal

-- those before aren't affected
abbrev pub invariant-loop-function : goal.invariant-loop-function
invariant-loop-function l =
    affected_paths l.symbols (option_map parts_of l.version) l.functions
    ≡ affected_paths l.symbols (option_map parts_of l.version) l.left

abbrev pub decreases-loop-function : goal.decreases-loop-function
decreases-loop-function l = length l.left
