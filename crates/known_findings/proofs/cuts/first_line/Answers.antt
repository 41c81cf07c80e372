use Rattle.std.proofs.Common.{arith}
use Rattle.std.proofs.lemmas.Str.Pattern.{split_once_first}
use Rattle.known_findings.proofs.FirstLines.{first_line}
use Rattle.known_findings.proofs.cuts.first_line.Goals as goal

pub returns-in-Some : goal.returns-in-Some
returns-in-Some c =
    let found = split_once_first 10 c.args.text.now c.split_once.result c.split_once.ensures.cases (omega arith) in
    rw c.in-Some.is at (first_line c.args.text.now c.split_once.result c.requires found)

pub returns-in-None : goal.returns-in-None
returns-in-None c =
    let found = split_once_first 10 c.args.text.now c.split_once.result c.split_once.ensures.cases (omega arith) in
    rw c.in-None.is at (first_line c.args.text.now c.split_once.result c.requires found)
