use Rattle.std.proofs.Common.{refl}
use Rattle.tame_names.specs.KrateNames.{text_of}
use Rattle.tame_sparse.specs.ResponseResults.{came}
use Rattle.tame_sparse.proofs.Stored.{stores_same}
use Rattle.tame_sparse.proofs.sparse.SparseIndex.parse_remote_response.Goals as goal

pub returns-in-304-clause-stores : goal.returns-in-304-clause-stores
returns-in-304-clause-stores g c told =
    let past = g.D.CacheDisk.past in
    stores_same c.args.self.now.cache.index c.args.self.now.cache.path (text_of c.args.name) (came c.args.response) c.args.write_cache_entry (past c.args.disk.now) (past c.cached_krate.new.disk) (c.cached_krate.ensures.same told)

pub returns-in-404-clause-stores : goal.returns-in-404-clause-stores
returns-in-404-clause-stores g c told =
    let past = g.D.CacheDisk.past in
    stores_same c.args.self.now.cache.index c.args.self.now.cache.path (text_of c.args.name) (came c.args.response) c.args.write_cache_entry (past c.args.disk.now) (past c.args.disk.now) (λ q. refl)

pub returns-in-401-clause-stores : goal.returns-in-401-clause-stores
returns-in-401-clause-stores g c told =
    let past = g.D.CacheDisk.past in
    stores_same c.args.self.now.cache.index c.args.self.now.cache.path (text_of c.args.name) (came c.args.response) c.args.write_cache_entry (past c.args.disk.now) (past c.args.disk.now) (λ q. refl)

pub returns-in_default-clause-stores : goal.returns-in_default-clause-stores
returns-in_default-clause-stores g c told =
    let past = g.D.CacheDisk.past in
    stores_same c.args.self.now.cache.index c.args.self.now.cache.path (text_of c.args.name) (came c.args.response) c.args.write_cache_entry (past c.args.disk.now) (past c.args.disk.now) (λ q. refl)
