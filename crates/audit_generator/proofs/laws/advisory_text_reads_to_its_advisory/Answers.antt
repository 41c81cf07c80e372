use Rattle.audit_generator.proofs.Advised.{advisory_read}
use Rattle.audit_generator.proofs.laws.advisory_text_reads_to_its_advisory.Goals as goal

pub returns : goal.returns
returns c = advisory_read
