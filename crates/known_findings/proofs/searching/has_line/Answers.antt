use Rattle.std.proofs.Common.{◌∙◌}
use Rattle.known_findings.proofs.Searches.{searched}
use Rattle.known_findings.proofs.searching.has_line.Goals as goal

pub returns : goal.returns
returns c =
    c.is_ok.ensures.value ∙ searched c.args.line.now c.args.lines.now c.binary_search.result c.requires c.binary_search.ensures.bound c.binary_search.ensures.position
