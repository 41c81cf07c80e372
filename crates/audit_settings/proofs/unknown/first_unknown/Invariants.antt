use Rattle.std.proofs.Common.{◌≡◌, None}
use Rattle.toml.specs.View.{members_view}
use Rattle.audit_settings.specs.Unknown.{noted, unknown_keys}
use Rattle.audit_settings.proofs.unknown.first_unknown.Given as goal

-- what is left, from the first so far
abbrev pub invariant-loop-name : goal.invariant-loop-name
invariant-loop-name l =
    noted None (unknown_keys (members_view l.table.entries))
    ≡ noted l.first (unknown_keys (members_view l.name-iterator))
