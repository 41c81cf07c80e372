use Rattle.tame_cache.proofs.KeptLemmas.{keeps_none, keeps_same}
use Rattle.tame_sparse.proofs.sparse.SparseIndex.make_remote_request.Goals as goal

pub returns-in_err-path-clause-kept : goal.returns-in_err-path-clause-kept
returns-in_err-path-clause-kept g c told m kept = keeps_none m c.args.self.now.cache.index c.args.self.now.cache.path (g.D.CacheDisk.past c.args.disk.now) kept

pub returns-in_err-uri-clause-kept : goal.returns-in_err-uri-clause-kept
returns-in_err-uri-clause-kept g c told m kept = keeps_none m c.args.self.now.cache.index c.args.self.now.cache.path (g.D.CacheDisk.past c.args.disk.now) kept

pub returns-in_err-named-clause-kept : goal.returns-in_err-named-clause-kept
returns-in_err-named-clause-kept g c told m kept =
    let past = g.D.CacheDisk.past in
    keeps_same m c.args.self.now.cache.index c.args.self.now.cache.path (past c.args.disk.now) (past c.named.new.disk) (c.named.ensures.same told) kept

pub returns-clause-kept : goal.returns-clause-kept
returns-clause-kept g c told m kept =
    let past = g.D.CacheDisk.past in
    keeps_same m c.args.self.now.cache.index c.args.self.now.cache.path (past c.args.disk.now) (past c.named.new.disk) (c.named.ensures.same told) kept
