use Rattle.tame_cache.specs.Disk.{reads}
use Rattle.audit_core.proofs.Lists.{if_ok}
use Rattle.upgrade_plan.proofs.Recording.{handed_records, read_quiet, store_failed, store_read, taken_of_cache}
use Rattle.upgrade_plan.proofs.records.kept_records.Goals as goal

pub returns-clause-read : goal.returns-clause-read
returns-clause-read g c told q place =
    let t = c.cached_krate-taken in
    if_ok c.taken_records.result
    (λ r h. handed_records c.args.index.now.cache.index t.result (reads (g.D.CacheDisk.past c.args.disk.now q)) r (t.ensures.read told q place) h)
    c.taken_records.ensures

pub returns-clause-store : goal.returns-clause-store
returns-clause-store g c =
    let t = c.cached_krate-taken in
    if_ok c.taken_records.result
    (λ r h store. store_failed t.result r h store t.ensures.cause.failed)
    c.taken_records.ensures

pub returns-clause-own : goal.returns-clause-own
returns-clause-own g c = if_ok c.taken_records.result (taken_of_cache c.cached_krate-taken.result) c.taken_records.ensures

pub returns-clause-store_failed : goal.returns-clause-store_failed
returns-clause-store_failed g c q place =
    let t = c.cached_krate-taken in
    if_ok c.taken_records.result (λ r h store. store_read q _ _ t.result r (t.ensures.failed q place) h store) c.taken_records.ensures

pub returns-clause-unfailed : goal.returns-clause-unfailed
returns-clause-unfailed g c q place =
    let t = c.cached_krate-taken in
    if_ok c.taken_records.result (λ r h other. read_quiet q _ _ t.result r (t.ensures.failed q place) h other) c.taken_records.ensures
