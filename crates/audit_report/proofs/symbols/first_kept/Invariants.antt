use Rattle.std.proofs.Common.{◌≡◌, length}
use Rattle.std.specs.List.{filter}
use Rattle.audit_report.specs.Symbols.{is_kept}
use Rattle.audit_report.proofs.symbols.first_kept.Given as goal

-- those before aren't kept
abbrev pub invariant-loop-path : goal.invariant-loop-path
invariant-loop-path l = filter (is_kept l.symbols) l.affected ≡ filter (is_kept l.symbols) l.left

abbrev pub decreases-loop-path : goal.decreases-loop-path
decreases-loop-path l = length l.left
