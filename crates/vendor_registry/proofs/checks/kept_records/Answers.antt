use Rattle.std.proofs.Common.{◌≡◌, Some}
use Rattle.vendor_registry.proofs.Entries.{ok_of_file, refused_of_file}
use Rattle.tame_cache.specs.FailedCalls.{FailedReading}
use Rattle.vendor_registry.proofs.Unread.{unread_adds}
use Rattle.vendor_registry.proofs.checks.kept_records.Goals as goal

pub returns-in-Ok-Some-clause-ok : goal.returns-in-Ok-Some-clause-ok
returns-in-Ok-Some-clause-ok g c told q there =
    let k = c.in-Ok-Some.field-0-is in
    let l = c.in-Ok-Some.is in
    let m = c.in-Ok-Some.entry-is in
    let is : c.in-Ok-Some.field-0 ≡ Some c.in-Ok-Some.entry = cc in
    ok_of_file c.args.place c.args.index.now.cache.index c.in-Ok-Some.entry _ _ c.entry_records.result is (c.in-Ok-Some.ensures.read told q there) c.entry_records.ensures.ok

pub returns-in-Ok-Some-clause-refused : goal.returns-in-Ok-Some-clause-refused
returns-in-Ok-Some-clause-refused g c told q there =
    let k = c.in-Ok-Some.field-0-is in
    let l = c.in-Ok-Some.is in
    let m = c.in-Ok-Some.entry-is in
    let is : c.in-Ok-Some.field-0 ≡ Some c.in-Ok-Some.entry = cc in
    refused_of_file c.args.place c.args.index.now.cache.index c.in-Ok-Some.entry _ _ c.entry_records.result is (c.in-Ok-Some.ensures.read told q there) c.entry_records.ensures.refused

pub returns-in-Ok-Some-clause-failed : goal.returns-in-Ok-Some-clause-failed
returns-in-Ok-Some-clause-failed g c q there =
    unread_adds (λ place. FailedReading q) (g.D.CacheDisk.failed c.args.disk.now) (g.D.CacheDisk.failed c.cached_krate.new.disk) c.entry_records.result c.entry_records.ensures.unread
    (c.in-Ok-Some.ensures.failed q there)
