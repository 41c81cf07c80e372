use Rattle.std.proofs.Common.{◌≡◌}
use Rattle.toml.specs.View.{members_view}
use Rattle.audit_settings.specs.Unknown.{noted, unknown_in}
use Rattle.audit_settings.proofs.unknown.note_unknown.Given as goal

-- what is left, from the first so far
abbrev pub invariant-loop-key : goal.invariant-loop-key
invariant-loop-key l =
    noted l.initial.first (unknown_in l.section (members_view l.table.entries))
    ≡ noted l.first (unknown_in l.section (members_view l.key-iterator))
