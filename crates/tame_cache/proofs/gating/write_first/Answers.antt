use Rattle.std.proofs.Common.{◌⊎◌, inl, inr}
use Rattle.tame_cache.specs.Disk.{File, may_leave, TornFile}
use Rattle.tame_cache.proofs.Moments.{started, written, synced}
use Rattle.tame_cache.proofs.gating.write_first.Goals as goal

pub returns-in_err-write_at-clause-any_moment : goal.returns-in_err-write_at-clause-any_moment
returns-in_err-write_at-clause-any_moment g c told =
    let past = g.D.CacheDisk.past in
    let old = past c.args.disk.now c.args.path.now in
    let P : File → Type 0 = λ file. may_leave old file ⊎ ((from : File) × may_leave old from × TornFile 0 1 from file) in
    written old old (past c.write_at.new.self c.args.path.now) P 0 1 (started old P (λ file now. inl now)) (c.write_at.ensures.step told) (λ from file now torn. inr (from, now, torn))

pub returns-clause-any_moment : goal.returns-clause-any_moment
returns-clause-any_moment g c told =
    let past = g.D.CacheDisk.past in
    let old = past c.args.disk.now c.args.path.now in
    let P : File → Type 0 = λ file. may_leave old file ⊎ ((from : File) × may_leave old from × TornFile 0 1 from file) in
    let torn = written old old (past c.write_at.new.self c.args.path.now) P 0 1 (started old P (λ file now. inl now)) (c.write_at.ensures.step told) (λ from file now torn. inr (from, now, torn)) in
    synced old (past c.write_at.new.self c.args.path.now) (past c.sync.new.self c.args.path.now) P torn (c.sync.ensures.step told)
