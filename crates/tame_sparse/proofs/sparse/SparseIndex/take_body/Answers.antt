use Rattle.std.proofs.Common.{◌≡◌, map, refl, ap}
use Rattle.tame_names.specs.KrateNames.{text_of}
use Rattle.tame_entry.specs.Entry.{pair_of, pairs}
use Rattle.tame_entry.specs.JsonLines.{lines_of}
use Rattle.tame_sparse.specs.ResponseResults.{came}
use Rattle.tame_sparse.proofs.FailedLemmas.{fails_nowhere, fails_writing, no_both}
use Rattle.tame_sparse.proofs.Stored.{passes, stores_same, stores_written}
use Rattle.tame_sparse.proofs.sparse.SparseIndex.take_body.Goals as goal
use Rattle.tame_sparse.proofs.sparse.SparseIndex.take_body.Goals.{then-write_cache_entry+in-Ok-keep, else-write_cache_entry}

pub returns-in-Err-clause-stores : goal.returns-in-Err-clause-stores
returns-in-Err-clause-stores g c told =
    let past = g.D.CacheDisk.past in
    stores_same c.args.self.now.cache.index c.args.self.now.cache.path (text_of c.args.name) (came c.args.response) c.args.write_cache_entry (past c.args.disk.now) (past c.args.disk.now) (λ q. refl)

pub returns-in-Err-keep-clause-stores : goal.returns-in-Err-keep-clause-stores
returns-in-Err-keep-clause-stores g c told =
    let past = g.D.CacheDisk.past in
    let same : map pair_of (lines_of c.in-Ok.lines) ≡ pairs c.args.response.body.now = ap (map pair_of) c.in-Ok.ensures.ok.0 in
    stores_written c.args.self.now.cache.index c.args.self.now.cache.path (text_of c.args.name) (came c.args.response) c.args.write_cache_entry (past c.args.disk.now) (past c.keep.new.disk)
    c.requires c.if-write_cache_entry.true c.in-Ok.ensures.ok.1
    (rw (c.stored_under-revision.ensures, same) at (c.keep.ensures.unstored told))
    (c.keep.ensures.others told)
    (rw (c.stored_under-revision.ensures, same) at (c.keep.ensures.any_moment told))
    (c.keep.ensures.orderly told)
    (rw (c.stored_under-revision.ensures, same) at (c.keep.ensures.kept told))

pub returns-clause-stores : goal.returns-clause-stores
returns-clause-stores g c told =
    let past = g.D.CacheDisk.past in
    let same : map pair_of (lines_of c.in-Ok.lines) ≡ pairs c.args.response.body.now = ap (map pair_of) c.in-Ok.ensures.ok.0 in
    elim c.if-write_cache_entry.branch [
      | then-write_cache_entry+in-Ok-keep w ↦
          rw w.disk-is
          (stores_written c.args.self.now.cache.index c.args.self.now.cache.path (text_of c.args.name) (came c.args.response) c.args.write_cache_entry (past c.args.disk.now) (past w.keep.new.disk)
          c.requires w.if-write_cache_entry.true c.in-Ok.ensures.ok.1
          (rw (w.stored_under-revision.ensures, same) at (w.keep.ensures.unstored told))
          (w.keep.ensures.others told)
          (rw (w.stored_under-revision.ensures, same) at (w.keep.ensures.any_moment told))
          (w.keep.ensures.orderly told)
          (rw (w.stored_under-revision.ensures, same) at (w.keep.ensures.kept told)))
      | else-write_cache_entry w ↦
          rw w.disk-is
          (stores_same c.args.self.now.cache.index c.args.self.now.cache.path (text_of c.args.name) (came c.args.response) c.args.write_cache_entry (past c.args.disk.now) (past c.args.disk.now) (λ q. refl))
    ]

pub returns-clause-stored : goal.returns-clause-stored
returns-clause-stored g c told quiet asked is q file =
    let same : map pair_of (lines_of c.in-Ok.lines) ≡ pairs c.args.response.body.now = ap (map pair_of) c.in-Ok.ensures.ok.0 in
    elim c.if-write_cache_entry.branch [
      | then-write_cache_entry+in-Ok-keep w ↦
          let stored = rw (w.stored_under-revision.ensures, same) at (w.keep.ensures.stored told) in
          rw w.disk-is (rw w.in-Ok-keep.is at (stored (rw w.disk-is at quiet) (passes c.args.self.now.cache.index (came c.args.response) is) q file))
      | else-write_cache_entry w ↦ absurd (let no = w.if-write_cache_entry.false in cc (asked, no))
    ]

pub returns-in-Err-keep-clause-failed : goal.returns-in-Err-keep-clause-failed
returns-in-Err-keep-clause-failed g c q place =
    let failed = g.D.CacheDisk.failed in
    let same : map pair_of (lines_of c.in-Ok.lines) ≡ pairs c.args.response.body.now = ap (map pair_of) c.in-Ok.ensures.ok.0 in
    fails_writing c.args.self.now.cache.index q (came c.args.response) c.args.write_cache_entry (failed c.args.disk.now) (failed c.keep.new.disk) _
    c.requires c.if-write_cache_entry.true c.in-Ok.ensures.ok.1
    (λ other. (rw (c.stored_under-revision.ensures, same) at c.keep.ensures.unstored_unfailed) other q place)
    (c.keep.ensures.failed q place)

pub returns-clause-failed : goal.returns-clause-failed
returns-clause-failed g c q place =
    let failed = g.D.CacheDisk.failed in
    let same : map pair_of (lines_of c.in-Ok.lines) ≡ pairs c.args.response.body.now = ap (map pair_of) c.in-Ok.ensures.ok.0 in
    elim c.if-write_cache_entry.branch [
      | then-write_cache_entry+in-Ok-keep w ↦
          rw w.disk-is
          (fails_writing c.args.self.now.cache.index q (came c.args.response) c.args.write_cache_entry (failed c.args.disk.now) (failed w.keep.new.disk) _
          c.requires w.if-write_cache_entry.true c.in-Ok.ensures.ok.1
          (λ other. (rw (w.stored_under-revision.ensures, same) at w.keep.ensures.unstored_unfailed) other q place)
          (w.keep.ensures.failed q place))
      | else-write_cache_entry w ↦
          rw w.disk-is
          (fails_nowhere c.args.self.now.cache.index q (came c.args.response) c.args.write_cache_entry (failed c.args.disk.now) (failed c.args.disk.now) _ (λ is. no_both _ c.requires is) refl)
    ]

pub returns-clause-stored_unless_failed : goal.returns-clause-stored_unless_failed
returns-clause-stored_unless_failed g c told asked is q place =
    let same : map pair_of (lines_of c.in-Ok.lines) ≡ pairs c.args.response.body.now = ap (map pair_of) c.in-Ok.ensures.ok.0 in
    elim c.if-write_cache_entry.branch [
      | then-write_cache_entry+in-Ok-keep w ↦
          let stored = rw (w.stored_under-revision.ensures, same) at (w.keep.ensures.stored_unless_failed told) in
          rw w.disk-is (rw w.in-Ok-keep.is at (stored (passes c.args.self.now.cache.index (came c.args.response) is) q place))
      | else-write_cache_entry w ↦ absurd (let no = w.if-write_cache_entry.false in cc (asked, no))
    ]
