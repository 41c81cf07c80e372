use Rattle.std.proofs.Common.{◌≡◌}
use Rattle.tame_entry.specs.JsonLines.{lines_of}
use Rattle.tame_entry.specs.VersionStatuses.{version_flags}
use Rattle.tame_entry.proofs.Ahead.{before}
use Rattle.tame_entry.proofs.version_status.read_version_flags.Given as goal

-- the heads so far, before those of what is left
abbrev pub invariant-loop-line : goal.invariant-loop-line
invariant-loop-line l = version_flags (lines_of l.fn.lines) ≡ before l.flags (version_flags l.line-iterator)
