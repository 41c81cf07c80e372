use Rattle.std.proofs.Common.{◌≡◌, map, ap, ◌∙◌, subst, nat_cmp}
use Rattle.std.specs.Cmp.Lexicographic.{slice_cmp}
use Rattle.std.specs.List.Sorted.{IsStrictlySortedBy}
use Rattle.known_findings.specs.Findings.{line}
use Rattle.known_findings.proofs.RoundTrip.{written_back}
use Rattle.known_findings.proofs.baselines.Baseline.text.Goals as goal

pub returns-clause-reads_back : goal.returns-clause-reads_back
returns-clause-reads_back c =
    let lines : c.self.inside.lines ≡ map line c.args.self.now = c.self.invariant.0 ∙ ap (map line) c.self.view_is in
    written_back c.args.self.now (subst (IsStrictlySortedBy (slice_cmp nat_cmp)) lines c.self.invariant.1)
