use Rattle.std.proofs.Common.{◌≡◌, [], drop}
use Rattle.audit_asked.specs.Advisories.{names_with}
use Rattle.audit_asked.proofs.listings.names_of.Given as goal

-- the names so far, and those of what is left
abbrev pub invariant-loop-entry : goal.invariant-loop-entry
invariant-loop-entry l =
    names_with l.wanted [] l.entries ≡ names_with l.wanted l.names.keys (drop l.entry-index l.entries)
