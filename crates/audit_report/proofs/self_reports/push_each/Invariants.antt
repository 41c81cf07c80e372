use Rattle.std.proofs.Common.{◌≡◌, ◌++◌, drop, string_bytes}
use Rattle.std.specs.List.{flat_map}
use Rattle.audit_report.specs.SelfReports.{metadata_at}
use Rattle.audit_report.proofs.self_reports.push_each.Given as goal

-- what is written, and what is left to write
abbrev pub invariant-loop-place : goal.invariant-loop-place
invariant-loop-place l =
    string_bytes l.initial.out ++ flat_map (metadata_at l.advisories) l.places
    ≡ string_bytes l.out ++ flat_map (metadata_at l.advisories) (drop l.place-index l.places)
