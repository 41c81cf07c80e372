use Rattle.std.proofs.Common.{◌≡◌}
use Rattle.audit_generator.specs.Advisories.{advisory_texts}
use Rattle.audit_generator.proofs.advisories.advisory_texts.Given as goal

abbrev pub invariant-loop-k : goal.invariant-loop-k
invariant-loop-k l = l.texts ≡ advisory_texts l.k
