use Rattle.std.proofs.Common.{rules, ◌≡◌, Some, refl, ap, ◌∙◌}
use Rattle.tame_names.specs.KrateNames.{text_of}
use Rattle.tame_cache.specs.Kept.{cache_file_of}
use Rattle.tame_sparse.specs.Exchanges.{crates_io_index}
use Rattle.uses.proofs.indexes.request_for.Goals as goal

pub returns-clause-named : goal.returns-clause-named
returns-clause-named g c = λ told q at.
    let url : c.in_ok-index.index.cache.index ≡ crates_io_index = search rules in
    let root : c.in_ok-index.index.cache.path ≡ c.args.folder.now = search rules in
    let there : cache_file_of c.in_ok-index.index.cache.path (text_of c.args.name) ≡ Some q = ap (λ r. cache_file_of r (text_of c.args.name)) root ∙ at in
    rw url at (c.make_remote_request.ensures.kept_named told refl q there)
