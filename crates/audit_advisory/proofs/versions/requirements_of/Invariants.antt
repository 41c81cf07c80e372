use Rattle.std.proofs.Common.{◌≡◌, drop}
use Rattle.audit_advisory.specs.Requirements.{requirements_of}
use Rattle.toml_tables.proofs.Ahead.{before}
use Rattle.audit_advisory.proofs.versions.requirements_of.Given as goal

-- the requirements so far, before those of what is left
abbrev pub invariant-loop-text : goal.invariant-loop-text
invariant-loop-text l = requirements_of l.texts ≡ before l.requirements (requirements_of (drop l.text-index l.texts))
