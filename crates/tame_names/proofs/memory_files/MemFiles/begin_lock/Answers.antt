use Rattle.std.proofs.Common.{subst, rules}
use Rattle.tame_names.specs.Counts.{IsListed}
use Rattle.tame_names.proofs.memory_files.MemFiles.begin_lock.Goals as goal

-- its number is listed
pub returns-then-contains-clause-fed : goal.returns-then-contains-clause-fed
returns-then-contains-clause-fed c =
    let listed : IsListed c.saturating_add-self.result c.args.self.now.fails = subst (λ ns. IsListed c.saturating_add-self.result ns) c.as_slice.ensures (search (rules, c.contains.ensures.value, c.if-contains.true)) in
    λ unlisted. absurd (unlisted listed)
