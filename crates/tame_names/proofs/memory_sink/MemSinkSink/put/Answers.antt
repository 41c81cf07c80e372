use Rattle.std.proofs.Common.{sym, subst, rules, arith}
use Rattle.tame_names.specs.Counts.{IsListed}
use Rattle.tame_names.proofs.memory_sink.MemSinkSink.put.Goals as goal

-- its number is listed
pub returns-then-contains-clause-unlisted : goal.returns-then-contains-clause-unlisted
returns-then-contains-clause-unlisted c =
    let listed : IsListed c.saturating_add-self.result c.args.self.now.fails = subst (λ ns. IsListed c.saturating_add-self.result ns) c.as_slice.ensures (search (rules, c.contains.ensures.value, c.if-contains.true)) in
    λ unlisted. absurd (unlisted (subst (λ n. IsListed n c.args.self.now.fails) (sym c.fail.ensures.calls) listed))

pub returns-then-contains-clause-cause : goal.returns-then-contains-clause-cause
returns-then-contains-clause-cause c = record { later = omega (arith, c.fail.ensures.later); failed = λ _. omega (arith, c.fail.ensures.counted); stayed = search rules }

pub returns-in-Err-clause-cause : goal.returns-in-Err-clause-cause
returns-in-Err-clause-cause c = record { later = omega (arith, c.fail-in-Err.ensures.later); failed = λ _. omega (arith, c.fail-in-Err.ensures.counted); stayed = search rules }
