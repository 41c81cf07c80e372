use Rattle.std.proofs.Common.{◌≡◌, ◌<◌, ℕ, suc, ◌+◌, List, [], ◌∷◌, ◌++◌, length, drop, take, get_or, sym, ap, ◌∙◌, subst, arith, Some, Err}
use Rattle.std.specs.List.{slice_get}
use Rattle.std.proofs.lemmas.List.{take_more}
use Rattle.std.proofs.lemmas.Option.{slice_get-get_or}
use Rattle.audit_core.proofs.Lists.{drop_at}
use Rattle.audit_lock.specs.declared.resolving.Package.{Package}
use Rattle.vendor_registry.specs.Checks.{Stock, stock_of}
use Rattle.vendor_registry.specs.Looked.{HasPairs, looked}
use Rattle.vendor_registry.specs.declared.looking.Pair.{Pair}
use Rattle.vendor_registry.proofs.Firsts.{looked_is}
use Rattle.vendor_registry.proofs.Ahead.{passed_here, refused_here, same_check, taken_here, texts_more}
use Rattle.vendor_registry.proofs.Unread.{read_at}
use Rattle.vendor_registry.proofs.Reached.{front_passed, front_taken, reached_at, stopped_by}
use Rattle.vendor_registry.proofs.looking.check_packages.Goals as goal
use Rattle.vendor_registry.proofs.looking.check_packages.Goals.{then-first+in-Ok+in_ok-add-in-Ok, else-first}

next_left : (ps : List Package) (i : ℕ) (p : Package) → drop i ps ≡ p ∷ drop (suc i) ps → drop i ps ≡ p ∷ drop (i + 1) ps
next_left ps i p h = let next : suc i ≡ i + 1 = omega arith in h ∙ ap (λ n. p ∷ drop n ps) next

-- the pairs after the next package
pairs_next : (all : List Package) (i : ℕ) (p : Package) (keys : List Pair) → i < length all → p ≡ get_or all i p → HasPairs keys (take i all ++ p ∷ []) → HasPairs keys (take (i + 1) all)
pairs_next all i p keys low at h = subst (HasPairs keys) (ap (λ (q : Package). take i all ++ q ∷ []) at ∙ sym (take_more all i p low)) h

-- the package at a place
got_at : (all : List Package) (i : ℕ) (p : Package) → i < length all → p ≡ get_or all i p → slice_get all i ≡ Some p
got_at all i p low at = slice_get-get_or all i p low ∙ ap Some (sym at)

pub returns-in-Err-clause-refused : goal.returns-in-Err-clause-refused
returns-in-Err-clause-refused g c told_f told_d told =
    let all : List Package = c.args.packages.now in
    let i : ℕ = c.loop-place.place in
    let p : Package = c.index-packages-place.result in
    let inv = c.loop-place.invariant in
    let at = next_left all i p (drop_at all i p c.loop-place-test.true c.index-packages-place.is) in
    let first = looked_is all i p (drop (i + 1) all) c.loop-place-test.true at ∙ sym (c.in_ok-first.ensures.first (take i all) inv.pairs) in
    refused_here (g.D.CacheDisk.past c.args.disk.now) (g.D.CacheDisk.past c.loop-place.disk) c.args.index.now (g.F.Files.host c.args.files.now) (g.F.Files.host c.loop-place.files) c.args.crates.now
    all (drop (i + 1) all) (drop i all) i p c.loop-place.checked c.in-Err.fault (inv.disk_same told_d) (inv.files_same told_f)
    at (first ∙ c.if-first.true) (inv.checked told_f told_d)
    (c.in-Err.ensures.refused told_f told_d told)

pub returns-in-Err-clause-stopped : goal.returns-in-Err-clause-stopped
returns-in-Err-clause-stopped g c told_f told_d =
    let all : List Package = c.args.packages.now in
    let i : ℕ = c.loop-place.place in
    let p : Package = c.index-packages-place.result in
    let inv = c.loop-place.invariant in
    let stock : Stock = stock_of (g.D.CacheDisk.past c.args.disk.now) c.args.index.now (g.F.Files.host c.args.files.now) c.args.crates.now in
    let at = next_left all i p (drop_at all i p c.loop-place-test.true c.index-packages-place.is) in
    let first = looked_is all i p (drop (i + 1) all) c.loop-place-test.true at ∙ sym (c.in_ok-first.ensures.first (take i all) inv.pairs) in
    stopped_by stock (looked all) i p c.in-Err.fault
    (reached_at stock all i p c.loop-place.checked c.loop-place-test.true c.index-packages-place.is (first ∙ c.if-first.true) (inv.done told_f told_d))
    (λ n is. (c.in-Err.ensures.store n (ap Err is)).0) (λ path is. (c.in-Err.ensures.file path (ap Err is)).0)

pub returns-in-Err-clause-failed_disk : goal.returns-in-Err-clause-failed_disk
returns-in-Err-clause-failed_disk g c =
    let all : List Package = c.args.packages.now in
    let i : ℕ = c.loop-place.place in
    let p : Package = c.index-packages-place.result in
    read_at (Unit {0}) (Unit {0}) c.args.index.now.cache.path all i p (g.D.CacheDisk.failed c.args.disk.now) (g.D.CacheDisk.failed c.loop-place.disk) (g.D.CacheDisk.failed c.check_package.new.disk) c.in-Err.fault
    (got_at all i p c.loop-place-test.true c.index-packages-place.is) (λ n is. (c.in-Err.ensures.store n (ap Err is)).0) c.loop-place.invariant.failed_disk c.in-Err.ensures.failed_disk

pub loop-place-preserved : goal.loop-place-preserved
loop-place-preserved g c =
    let all : List Package = c.args.packages.now in
    let i : ℕ = c.loop-place.place in
    let p : Package = c.index-packages-place.result in
    let inv = c.loop-place.invariant in
    let at = next_left all i p (drop_at all i p c.loop-place-test.true c.index-packages-place.is) in
    let first = looked_is all i p (drop (i + 1) all) c.loop-place-test.true at ∙ sym (c.in_ok-first.ensures.first (take i all) inv.pairs) in
    let pairs = pairs_next all i p c.is_first.new.pairs.keys c.loop-place-test.true c.index-packages-place.is (c.in_ok-first.ensures.pairs (take i all) inv.pairs) in
    elim c.if-first.branch [
      | then-first+in-Ok+in_ok-add-in-Ok w ↦
          rw (w.files-is, w.disk-is, w.checked-is, w.in_ok-add-in-Ok.ensures.ok) (record {
            checked = λ told_f told_d.
                taken_here (g.D.CacheDisk.past c.args.disk.now) (g.D.CacheDisk.past c.loop-place.disk) c.args.index.now (g.F.Files.host c.args.files.now) (g.F.Files.host c.loop-place.files) c.args.crates.now
                all (drop (i + 1) all) (drop i all) i p c.loop-place.checked w.in-Ok.one (inv.disk_same told_d) (inv.files_same told_f) at (first ∙ w.if-first.true)
                (inv.checked told_f told_d) (w.in-Ok.ensures.ok told_f told_d);
            done = λ told_f told_d.
                front_taken (stock_of (g.D.CacheDisk.past c.args.disk.now) c.args.index.now (g.F.Files.host c.args.files.now) c.args.crates.now) all i p c.loop-place.checked w.in-Ok.one
                c.loop-place-test.true c.index-packages-place.is (first ∙ w.if-first.true) (inv.done told_f told_d)
                (same_check (g.D.CacheDisk.past c.args.disk.now) (g.D.CacheDisk.past c.loop-place.disk) c.args.index.now (g.F.Files.host c.args.files.now) (g.F.Files.host c.loop-place.files) c.args.crates.now i p
                (inv.disk_same told_d) (inv.files_same told_f) ∙ w.in-Ok.ensures.ok told_f told_d);
            pairs = pairs;
            texts = texts_more c.loop-place.checked w.in-Ok.one inv.texts w.in-Ok.ensures.text;
            disk_later = omega (arith, inv.disk_later, w.in-Ok.ensures.disk_later);
            files_later = omega (arith, inv.files_later, w.in-Ok.ensures.files_later);
            failed = λ told. w.in-Ok.ensures.failed told ∙ inv.failed told;
            failed_disk = w.in-Ok.ensures.failed_disk ∙ inv.failed_disk;
            disk_same = λ told q. w.in-Ok.ensures.disk_same told q ∙ inv.disk_same told q;
            folders_same = λ told. w.in-Ok.ensures.folders_same told ∙ inv.folders_same told;
            files_same = λ told. w.in-Ok.ensures.files_same told ∙ inv.files_same told;
          })
      | else-first w ↦
          rw (w.files-is, w.disk-is, w.checked-is) (record {
            checked = λ told_f told_d.
                passed_here (stock_of (g.D.CacheDisk.past c.args.disk.now) c.args.index.now (g.F.Files.host c.args.files.now) c.args.crates.now) all (drop (i + 1) all) (drop i all) i p c.loop-place.checked
                at (first ∙ w.if-first.false) (inv.checked told_f told_d);
            done = λ told_f told_d.
                front_passed (stock_of (g.D.CacheDisk.past c.args.disk.now) c.args.index.now (g.F.Files.host c.args.files.now) c.args.crates.now) all i p c.loop-place.checked
                c.loop-place-test.true c.index-packages-place.is (first ∙ w.if-first.false) (inv.done told_f told_d);
            pairs = pairs;
            texts = inv.texts;
            disk_later = inv.disk_later;
            files_later = inv.files_later;
            failed = inv.failed;
            failed_disk = inv.failed_disk;
            disk_same = inv.disk_same;
            folders_same = inv.folders_same;
            files_same = inv.files_same;
          })
    ]
