use Rattle.tame_cache.specs.Disk.{may_leave}
use Rattle.tame_cache.proofs.Moments.{started, same_past, synced}
use Rattle.tame_cache.proofs.settling.settle.Goals as goal

pub returns-in_err-peek-clause-any_moment : goal.returns-in_err-peek-clause-any_moment
returns-in_err-peek-clause-any_moment g c told =
    let past = g.D.CacheDisk.past in
    let old = past c.args.disk.now c.args.path.now in
    same_past old old (past c.peek.new.self c.args.path.now) (may_leave old) (started old (may_leave old) (λ file now. now)) (c.peek.ensures.same told c.args.path.now)

pub returns-clause-any_moment : goal.returns-clause-any_moment
returns-clause-any_moment g c told =
    let past = g.D.CacheDisk.past in
    let old = past c.args.disk.now c.args.path.now in
    let P = may_leave old in
    let peeked = same_past old old (past c.peek.new.self c.args.path.now) P (started old P (λ file now. now)) (c.peek.ensures.same told c.args.path.now) in
    let kept = synced old (past c.peek.new.self c.args.path.now) (past c.sync.new.self c.args.path.now) P peeked (c.sync.ensures.step told) in
    same_past old (past c.sync.new.self c.args.path.now) (past c.peek-2.new.self c.args.path.now) P kept (c.peek-2.ensures.same told c.args.path.now)

pub returns-in_err-sync-clause-any_moment : goal.returns-in_err-sync-clause-any_moment
returns-in_err-sync-clause-any_moment g c told =
    let past = g.D.CacheDisk.past in
    let old = past c.args.disk.now c.args.path.now in
    let P = may_leave old in
    let peeked = same_past old old (past c.peek.new.self c.args.path.now) P (started old P (λ file now. now)) (c.peek.ensures.same told c.args.path.now) in
    synced old (past c.peek.new.self c.args.path.now) (past c.sync.new.self c.args.path.now) P peeked (c.sync.ensures.step told)
