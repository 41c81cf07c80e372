use Rattle.std.proofs.Common.{arith, length, drop, length-drop}
use Rattle.std.proofs.lemmas.List.{take_rest}
use Rattle.std.proofs.lemmas.Result.{on_ok_weaker}
use Rattle.tame_cache.specs.Gate.{BeginsWithZero}
use Rattle.tame_cache.proofs.Moments.{synced}
use Rattle.tame_cache.proofs.Steps.{laid_write, laid_cut, laid}
use Rattle.tame_cache.proofs.laying.lay.Goals as goal

pub returns-in_err-write_at-clause-any_moment : goal.returns-in_err-write_at-clause-any_moment
returns-in_err-write_at-clause-any_moment g c told =
    laid_write _ (c.requires.closed told) 1 _ _ (omega arith) (c.write_at.ensures.step told)

pub returns-in_err-cut-clause-any_moment : goal.returns-in_err-cut-clause-any_moment
returns-in_err-cut-clause-any_moment g c told =
    laid_cut _ (c.requires.closed told) _ _ _ _ (omega arith) (c.write_at.ensures.step told) (c.cut.ensures.step told)

pub returns-clause-any_moment : goal.returns-clause-any_moment
returns-clause-any_moment g c told =
    synced _ _ _ BeginsWithZero (laid_cut _ (c.requires.closed told) _ _ _ _ (omega arith) (c.write_at.ensures.step told) (c.cut.ensures.step told)) (c.sync.ensures.step told)

pub returns-clause-laid : goal.returns-clause-laid
returns-clause-laid g c told =
    let past = g.D.CacheDisk.past in
    let entry = c.args.entry.now in
    on_ok_weaker c.sync.result (λ same.
    laid _ (c.requires.closed told) (drop 1 entry) _ (length entry)
    (past c.write_at.new.self c.args.path.now) (past c.cut.new.self c.args.path.now) _
    (take_rest entry 1) (omega (arith, length-drop 1 entry)) (c.in_ok-write_at.ensures.written told) (c.in_ok-cut.ensures.cut told) same)
    (c.sync.ensures.synced told)
