use Rattle.std.proofs.Common.{◌∙◌, ◌<◌, ◌≤◌, arith}
use Rattle.audit_advisory.specs.Names.{has_name}
use Rattle.audit_advisory.proofs.Filtering.{filter_range}
use Rattle.audit_advisory.proofs.Ordered.{not_both, between, lower, higher}
use Rattle.audit_advisory.proofs.searching.piece_of.Goals as goal

pub returns-clause-ordered : goal.returns-clause-ordered
returns-clause-ordered c =
    let no : c.first_place-end.result < c.first_place-first.result → ⊥ = λ less.
    not_both _ (c.first_place-first.ensures.before c.first_place-end.result less) (c.first_place-end.ensures.behind c.first_place-end.result (omega arith) (omega (arith, less))) in
    omega (arith, no)

pub returns-clause-piece : goal.returns-clause-piece
returns-clause-piece c =
    let no : c.first_place-end.result < c.first_place-first.result → ⊥ = λ less.
    not_both _ (c.first_place-first.ensures.before c.first_place-end.result less) (c.first_place-end.ensures.behind c.first_place-end.result (omega arith) (omega (arith, less))) in
    let up : c.first_place-first.result ≤ c.first_place-end.result = omega (arith, no) in
    filter_range (has_name c.args.advisories.now c.args.name.now) c.args.by_name.now c.first_place-first.result c.first_place-end.result
    up c.first_place-end.ensures.within
    (λ k below. lower _ (c.first_place-first.ensures.before k below))
    (λ k from below. between _ (c.first_place-first.ensures.behind k from (omega arith)) (c.first_place-end.ensures.before k below))
    (λ k from within. higher _ (c.first_place-end.ensures.behind k from within))
    ∙ c.requires.same c.args.name.now
