use Rattle.std.proofs.Common.{◌≡◌, List, ℕ, IfOk, map, ap, ◌∙◌, subst}
use Rattle.std.specs.Map.{keys_of, values_of}
use Rattle.known_findings.specs.Findings.{line}
use Rattle.known_findings.proofs.Entries.{keys_back}
use Rattle.known_findings.proofs.listings.Listing.into_parts.Goals as goal

pub returns-clause-lines : goal.returns-clause-lines
returns-clause-lines c =
    let entries = c.self.inside.by_line.entries in
    let same : keys_of entries ≡ map line c.args.self =
    ap keys_of c.self.invariant ∙ keys_back (values_of entries) ∙ ap (map line) c.self.view_is in
    subst (λ (ls : List (List ℕ)). IfOk c.part.result (λ p. p.lines ≡ ls)) same c.part.ensures.lines
