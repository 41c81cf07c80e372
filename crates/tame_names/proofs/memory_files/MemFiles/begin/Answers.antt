use Rattle.std.proofs.Common.{sym, subst, rules}
use Rattle.tame_names.specs.Counts.{IsListed}
use Rattle.tame_names.proofs.memory_files.MemFiles.begin.Goals as goal

-- its number is listed
pub returns-then-contains-clause-counted : goal.returns-then-contains-clause-counted
returns-then-contains-clause-counted c =
    let listed : IsListed c.saturating_add-self.result c.args.self.now.fails = subst (λ ns. IsListed c.saturating_add-self.result ns) c.as_slice.ensures (search (rules, c.contains.ensures.value, c.if-contains.true)) in
    record {
      count = search rules;
      listed = search rules;
      fails = search rules;
      unlisted = λ unlisted. absurd (unlisted (subst (λ n. IsListed n c.args.self.now.fails) (sym c.fail.ensures.calls) listed));
      fed = λ unlisted. absurd (unlisted (subst (λ n. IsListed n c.args.self.now.fails) (sym c.fail.ensures.calls) listed));
      counted = search rules;
      uncounted = search rules;
      locks = search rules;
    }
