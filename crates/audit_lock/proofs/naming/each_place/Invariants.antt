use Rattle.std.proofs.Common.{◌≡◌, drop}
use Rattle.std.specs.BTreeMap.{get_by_text}
use Rattle.audit_lock.specs.Naming.{each_place}
use Rattle.toml_tables.proofs.Ahead.{before}
use Rattle.audit_lock.proofs.naming.each_place.Given as goal

-- the places so far, before those of what is left
abbrev pub invariant-loop-text : goal.invariant-loop-text
invariant-loop-text l =
    each_place (get_by_text l.places) l.texts ≡ before l.found (each_place (get_by_text l.places) (drop l.text-index l.texts))
