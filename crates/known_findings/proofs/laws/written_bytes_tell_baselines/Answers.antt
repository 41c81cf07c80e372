use Rattle.std.proofs.Common.{ap, subst, ◌≡◌, List, true}
use Rattle.known_findings.specs.Baselines.{is_equal, written}
use Rattle.known_findings.specs.declared.findings.Finding.{Finding}
use Rattle.known_findings.proofs.RoundTrip.{same_written}
use Rattle.known_findings.proofs.Same.{equal_lists, equals_itself}
use Rattle.known_findings.proofs.laws.written_bytes_tell_baselines.Goals as goal

pub returns-clause-bytes : goal.returns-clause-bytes
returns-clause-bytes c fs gs = (same_written fs gs, ap written)

pub returns-clause-equal : goal.returns-clause-equal
returns-clause-equal c fs gs =
    (equal_lists fs gs, λ h. subst (λ (x : List Finding). is_equal fs x ≡ true) h (equals_itself fs))
