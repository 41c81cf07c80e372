use Rattle.std.proofs.Common.{◌≡◌, ℕ, List, Some, refl, sym, ap, ◌∙◌}
use Rattle.std.specs.Prelude.{option_map}
use Rattle.tame_names.specs.KrateNames.{text_of}
use Rattle.tame_names.specs.Names.{path}
use Rattle.tame_cache.specs.Kept.{cache_file, cache_file_of}
use Rattle.vendor_registry.specs.Checks.{Stock, checked, crate_checked, stock_of}
use Rattle.vendor_registry.proofs.Decided.{crate_read, deciding_text}
use Rattle.vendor_registry.proofs.Facts.{checked_is, decided_ok, package_ok, package_refused, text_ok}
use Rattle.vendor_registry.specs.Failed.{FailsReadingOf}
use Rattle.vendor_registry.proofs.Unread.{read_of, unread_adds}
use Rattle.vendor_registry.proofs.checks.check_package.Goals as goal

pub returns-clause-ok : goal.returns-clause-ok
returns-clause-ok g c told_f told_d =
    let stock : Stock = stock_of (g.D.CacheDisk.past c.args.disk.now) c.args.index.now (g.F.Files.host c.args.files.now) c.args.crates.now in
    let q : List ℕ = c.in_ok-path.path in
    let text : path (text_of c.in-Ok.name) ≡ Some q = c.in_ok-path.ensures.path refl in
    let named : path c.args.locked.now.name ≡ Some q = ap path (sym (c.in-Ok.ensures.ok.0 ∙ c.as_str.ensures)) ∙ text in
    let there : cache_file_of c.args.index.now.cache.path (text_of c.in-Ok.name) ≡ Some (cache_file c.args.index.now.cache.path q) = ap (option_map (cache_file c.args.index.now.cache.path)) text in
    let kept = c.in_ok-records.ensures.ok told_d (cache_file c.args.index.now.cache.path q) there in
    package_ok (checked stock c.args.place c.args.locked.now) (crate_checked stock c.args.place q c.in_ok-version.version) c.check_crate.result
    (checked_is stock c.args.place c.args.locked.now q c.in_ok-records.records c.in_ok-version.version named kept (sym c.in_ok-version.ensures.decided))
    (c.check_crate.ensures.ok told_f stock refl refl)

pub returns-clause-refused : goal.returns-clause-refused
returns-clause-refused g c told_f told_d =
    let stock : Stock = stock_of (g.D.CacheDisk.past c.args.disk.now) c.args.index.now (g.F.Files.host c.args.files.now) c.args.crates.now in
    let q : List ℕ = c.in_ok-path.path in
    let text : path (text_of c.in-Ok.name) ≡ Some q = c.in_ok-path.ensures.path refl in
    let named : path c.args.locked.now.name ≡ Some q = ap path (sym (c.in-Ok.ensures.ok.0 ∙ c.as_str.ensures)) ∙ text in
    let there : cache_file_of c.args.index.now.cache.path (text_of c.in-Ok.name) ≡ Some (cache_file c.args.index.now.cache.path q) = ap (option_map (cache_file c.args.index.now.cache.path)) text in
    let kept = c.in_ok-records.ensures.ok told_d (cache_file c.args.index.now.cache.path q) there in
    package_refused (checked stock c.args.place c.args.locked.now) (crate_checked stock c.args.place q c.in_ok-version.version) c.check_crate.result
    (checked_is stock c.args.place c.args.locked.now q c.in_ok-records.records c.in_ok-version.version named kept (sym c.in_ok-version.ensures.decided))
    (c.check_crate.ensures.refused told_f stock refl refl)

pub returns-clause-text : goal.returns-clause-text
returns-clause-text g c =
    let same = decided_ok c.args.place c.args.locked.now c.in_ok-records.records c.in_ok-version.version (sym c.in_ok-version.ensures.decided) in
    text_ok c.in_ok-version.version c.as_str.result.now c.check_crate.result c.as_str.utf8 (same.1 ∙ sym c.as_str.ensures) c.check_crate.ensures.version

pub returns-clause-file : goal.returns-clause-file
returns-clause-file g c = λ at is.
    let same = decided_ok c.args.place c.args.locked.now c.in_ok-records.records c.in_ok-version.version (sym c.in_ok-version.ensures.decided) in
    let version = deciding_text c.args.locked.now.version c.in_ok-records.records c.in_ok-version.version same.0 in
    crate_read c.args.crates.now c.in_ok-version.version c.args.locked.now c.check_crate.result _ same.1 version at is c.check_crate.ensures.settled

pub returns-clause-failed_disk : goal.returns-clause-failed_disk
returns-clause-failed_disk g c =
    let q : List ℕ = c.in_ok-path.path in
    let text : path (text_of c.in-Ok.name) ≡ Some q = c.in_ok-path.ensures.path refl in
    let there : cache_file_of c.args.index.now.cache.path (text_of c.in-Ok.name) ≡ Some (cache_file c.args.index.now.cache.path q) = ap (option_map (cache_file c.args.index.now.cache.path)) text in
    unread_adds (FailsReadingOf c.args.index.now.cache.path c.args.locked.now) (g.D.CacheDisk.failed c.args.disk.now) (g.D.CacheDisk.failed c.kept_records.new.disk) c.check_crate.result
    c.check_crate.ensures.unread (c.in_ok-records.ensures.failed (cache_file c.args.index.now.cache.path q) there)
