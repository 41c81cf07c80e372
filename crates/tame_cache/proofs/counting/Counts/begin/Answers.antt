use Rattle.std.proofs.Common.{inr, subst, rules}
use Rattle.tame_names.specs.Counts.{IsListed}
use Rattle.tame_cache.proofs.counting.Counts.begin.Goals as goal

-- its number is listed
pub returns-then-contains-clause-only : goal.returns-then-contains-clause-only
returns-then-contains-clause-only c = λ failed.
    let listed : IsListed c.saturating_add-self.result c.args.self.now.failing.items =
    subst (λ ns. IsListed c.saturating_add-self.result ns) c.deref.ensures.value (search (rules, c.contains.ensures.value, c.if-contains.true)) in
    inr (subst (λ n. IsListed n c.args.self.now.failing.items) c.saturating_add-self.ensures listed)
