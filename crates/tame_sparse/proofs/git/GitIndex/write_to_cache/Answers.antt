use Rattle.std.proofs.Common.{◌≡◌, ap, ◌∙◌}
use Rattle.tame_names.specs.KrateNames.{text_of}
use Rattle.tame_cache.specs.Kept.{cache_file_of}
use Rattle.tame_cache.proofs.KeptLemmas.{keeps_none}
use Rattle.tame_sparse.specs.Git.{first_name}
use Rattle.tame_sparse.proofs.git.GitIndex.write_to_cache.Goals as goal

pub returns-in_default-clause-kept : goal.returns-in_default-clause-kept
returns-in_default-clause-kept g c told m kept = keeps_none m c.args.self.now.cache.index c.args.self.now.cache.path (g.D.CacheDisk.past c.args.disk.now) kept

pub returns-in-Err-clause-kept : goal.returns-in-Err-clause-kept
returns-in-Err-clause-kept g c told m kept = keeps_none m c.args.self.now.cache.index c.args.self.now.cache.path (g.D.CacheDisk.past c.args.disk.now) kept

pub returns-in-Ok-write_to_cache-clause-any_moment : goal.returns-in-Ok-write_to_cache-clause-any_moment
returns-in-Ok-write_to_cache-clause-any_moment g c told id known q is ordered =
    let named : text_of c.in-Ok.name ≡ first_name c.args.krate.now.versions = c.in-Ok.ensures.ok.0 ∙ c.first_name.ensures in
    let same : c.in-Some.id ≡ id = cc (c.in-Some.ensures, known) in
    rw same at (c.write_to_cache.ensures.any_moment told q (ap (cache_file_of c.args.self.now.cache.path) named ∙ is) ordered)

pub returns-in-Err-Disk-clause-any_moment : goal.returns-in-Err-Disk-clause-any_moment
returns-in-Err-Disk-clause-any_moment g c told id known q is ordered =
    let named : text_of c.in-Ok.name ≡ first_name c.args.krate.now.versions = c.in-Ok.ensures.ok.0 ∙ c.first_name.ensures in
    let same : c.in-Some.id ≡ id = cc (c.in-Some.ensures, known) in
    rw same at (c.write_to_cache.ensures.any_moment told q (ap (cache_file_of c.args.self.now.cache.path) named ∙ is) ordered)

pub returns-in-Ok-write_to_cache-clause-kept : goal.returns-in-Ok-write_to_cache-clause-kept
returns-in-Ok-write_to_cache-clause-kept g c told m kept = c.write_to_cache.ensures.disk_kept told m (λ p is storable. tt) kept

pub returns-in-Err-Disk-clause-kept : goal.returns-in-Err-Disk-clause-kept
returns-in-Err-Disk-clause-kept g c told m kept = c.write_to_cache.ensures.disk_kept told m (λ p is storable. tt) kept

pub returns-in-Err-NoMemory-clause-kept : goal.returns-in-Err-NoMemory-clause-kept
returns-in-Err-NoMemory-clause-kept g c told m kept = c.write_to_cache.ensures.disk_kept told m (λ p is storable. tt) kept

pub returns-in-Ok-write_to_cache-clause-folders : goal.returns-in-Ok-write_to_cache-clause-folders
returns-in-Ok-write_to_cache-clause-folders g c told =
    let named : text_of c.in-Ok.name ≡ first_name c.args.krate.now.versions = c.in-Ok.ensures.ok.0 ∙ c.first_name.ensures in
    rw named at (c.write_to_cache.ensures.folders told)

pub returns-in-Err-Disk-clause-folders : goal.returns-in-Err-Disk-clause-folders
returns-in-Err-Disk-clause-folders g c told =
    let named : text_of c.in-Ok.name ≡ first_name c.args.krate.now.versions = c.in-Ok.ensures.ok.0 ∙ c.first_name.ensures in
    rw named at (c.write_to_cache.ensures.folders told)
