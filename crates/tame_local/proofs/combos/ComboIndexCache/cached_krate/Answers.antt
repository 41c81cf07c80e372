use Rattle.std.proofs.Common.{◌≡◌, Some, IfOk, sym, subst}
use Rattle.tame_names.specs.KrateNames.{text_of}
use Rattle.tame_names.specs.declared.errors.Error.TheVariants as error
use Rattle.tame_cache.specs.Disk.{reads}
use Rattle.tame_cache.specs.FailedCalls.{AddsFailedBut, FailedReading}
use Rattle.tame_local.specs.Combos.{IsCached, cached_file_of, kept_in}
use Rattle.tame_local.proofs.combos.ComboIndexCache.cached_krate.Goals as goal

pub returns-in-Git-clause-cached : goal.returns-in-Git-clause-cached
returns-in-Git-clause-cached g c = λ told q is.
    subst (λ combo. cached_file_of (kept_in combo) (text_of c.args.name) ≡ Some q → IfOk c.cached_krate.result (IsCached (kept_in combo) (reads (g.D.CacheDisk.past c.args.disk.now q))))
    (sym c.in-Git.is) (λ h. c.cached_krate.ensures.read told q h) is

pub returns-in-Sparse-clause-cached : goal.returns-in-Sparse-clause-cached
returns-in-Sparse-clause-cached g c = λ told q is.
    subst (λ combo. cached_file_of (kept_in combo) (text_of c.args.name) ≡ Some q → IfOk c.cached_krate-in-Sparse.result (IsCached (kept_in combo) (reads (g.D.CacheDisk.past c.args.disk.now q))))
    (sym c.in-Sparse.is) (λ h. c.cached_krate-in-Sparse.ensures.read told q h) is

pub returns-in-Git-clause-failed_disk : goal.returns-in-Git-clause-failed_disk
returns-in-Git-clause-failed_disk g c = λ q is.
    subst (λ combo. cached_file_of (kept_in combo) (text_of c.args.name) ≡ Some q → AddsFailedBut error.NoMemory (FailedReading q) (g.D.CacheDisk.failed c.args.disk.now) (g.D.CacheDisk.failed c.cached_krate.new.disk) c.cached_krate.result)
    (sym c.in-Git.is) (λ h. c.cached_krate.ensures.failed q h) is

pub returns-in-Sparse-clause-failed_disk : goal.returns-in-Sparse-clause-failed_disk
returns-in-Sparse-clause-failed_disk g c = λ q is.
    subst (λ combo. cached_file_of (kept_in combo) (text_of c.args.name) ≡ Some q → AddsFailedBut error.NoMemory (FailedReading q) (g.D.CacheDisk.failed c.args.disk.now) (g.D.CacheDisk.failed c.cached_krate-in-Sparse.new.disk) c.cached_krate-in-Sparse.result)
    (sym c.in-Sparse.is) (λ h. c.cached_krate-in-Sparse.ensures.failed q h) is
