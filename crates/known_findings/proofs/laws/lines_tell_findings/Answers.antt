use Rattle.std.proofs.Common.{sym, ap, ◌∙◌}
use Rattle.known_findings.specs.Findings.{is_same, line}
use Rattle.known_findings.proofs.Among.{among, contained}
use Rattle.known_findings.proofs.RoundTrip.{line_back, line_text}
use Rattle.known_findings.proofs.Same.{is_itself, same_finding, same_line}
use Rattle.known_findings.proofs.laws.lines_tell_findings.Goals as goal

pub returns-clause-text : goal.returns-clause-text
returns-clause-text c = line_text

pub returns-clause-read : goal.returns-clause-read
returns-clause-read c = line_back

pub returns-clause-equal : goal.returns-clause-equal
returns-clause-equal c f g = (same_finding f g, λ h. ap (is_same f) (sym h) ∙ is_itself f)

pub returns-clause-lines : goal.returns-clause-lines
returns-clause-lines c f g = (same_line f g, ap line)

pub returns-clause-among : goal.returns-clause-among
returns-clause-among c f fs = (contained f fs, λ h. among f fs h.0 h.1 h.2)
