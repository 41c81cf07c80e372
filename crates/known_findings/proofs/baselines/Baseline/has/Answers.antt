use Rattle.std.proofs.Common.{◌≡◌, List, ℕ, map, ap, ap₂, ◌∙◌, bytes_eq}
use Rattle.std.specs.List.{list_any}
use Rattle.known_findings.specs.Findings.{line}
use Rattle.known_findings.proofs.Same.{among_lines}
use Rattle.known_findings.proofs.baselines.Baseline.has.Goals as goal

pub returns : goal.returns
returns c =
    let lines : c.as_slice.result.now ≡ map line c.args.self.now =
    c.as_slice.ensures ∙ c.self.invariant.0 ∙ ap (map line) c.self.view_is in
    c.has_line.ensures
    ∙ ap₂ (λ (ls : List (List ℕ)) (x : List ℕ). list_any (λ l. bytes_eq l x) ls) lines c.in_ok-line.ensures
    ∙ among_lines c.args.finding.now c.args.self.now
