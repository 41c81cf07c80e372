use Rattle.std.proofs.Common.{rules, ◌≡◌, true, false}
use Rattle.std.proofs.lemmas.List.MinMax.{ranks_by}
use Rattle.std.specs.Ordering.{is_lt}
use Rattle.itertools.specs.Extremes.{by_cmp, by_cmp_reversed, position_of, wins}
use Rattle.itertools.proofs.ExtremeLemmas.{position-greatest}
use Rattle.tame_records.proofs.Greatest.{placed}
use Rattle.tame_records.proofs.HighestLemmas.{if_found}
use Rattle.tame_records.proofs.highest.last_greatest.Goals as goal

pub returns-clause-within : goal.returns-clause-within
returns-clause-within g c =
    let xs = c.args.items.items in
    let e : c.position_max.result ≡ position_of (wins true (by_cmp_reversed g.T.Ord.cmp)) xs = search rules in
    let facts = position-greatest (by_cmp g.T.Ord.cmp) (ranks_by g.met.T.Ord.total (λ x. x)) xs in
    rw e (placed (λ y b. is_lt (g.T.Ord.cmp b y) ≡ false) xs _ facts)

pub returns-clause-greatest : goal.returns-clause-greatest
returns-clause-greatest g c =
    let xs = c.args.items.items in
    let e : c.position_max.result ≡ position_of (wins true (by_cmp_reversed g.T.Ord.cmp)) xs = search rules in
    rw e (if_found g.T.Ord.cmp (ranks_by g.met.T.Ord.total (λ x. x)) xs)
