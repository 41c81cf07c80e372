use Rattle.std.proofs.Common.{ap, ◌∙◌}
use Rattle.known_findings.specs.Baselines.{put}
use Rattle.known_findings.proofs.Entries.{keeps, put_values}
use Rattle.known_findings.proofs.listings.Listing.put.Goals as goal

pub invariant_of-self : goal.invariant_of-self
invariant_of-self c =
    keeps c.insert.result c.self.inside.by_line.entries c.insert.new.self.entries _ c.args.finding c.self.invariant c.in_ok-line.ensures
    c.insert.ensures.entries c.insert.ensures.err

pub returns-in-Ok : goal.returns-in-Ok
returns-in-Ok c =
    put_values c.self.inside.by_line.entries c.insert.new.self.entries _ c.args.finding c.self.invariant c.in_ok-line.ensures
    c.in-Ok.ensures.entries ∙ ap (λ fs. put fs c.args.finding) c.self.view_is
