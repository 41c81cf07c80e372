use Rattle.std.proofs.Common.{◌≡◌}
use Rattle.toml.specs.View.{members_view}
use Rattle.audit_advisory.specs.Advisories.{functions_of}
use Rattle.toml_tables.proofs.Ahead.{before}
use Rattle.audit_advisory.proofs.affected.functions_of.Given as goal

-- the functions so far, before those of what is left
abbrev pub invariant-loop-path : goal.invariant-loop-path
invariant-loop-path l = functions_of (members_view l.table.entries) ≡ before l.functions (functions_of (members_view l.path-iterator))
