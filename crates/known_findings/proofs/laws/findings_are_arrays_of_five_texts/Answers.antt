use Rattle.known_findings.proofs.FiveTexts.{from_line, to_line}
use Rattle.known_findings.proofs.laws.findings_are_arrays_of_five_texts.Goals as goal

pub returns : goal.returns
returns c text f = (from_line text f, to_line text f)
