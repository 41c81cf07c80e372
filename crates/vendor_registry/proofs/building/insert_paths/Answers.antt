use Rattle.std.proofs.Common.{◌≡◌, ◌≤◌, ℕ, suc, ◌+◌, ◌-◌, ◌^◌, min, List, ◌∷◌, drop, sym, ap, ◌∙◌, arith}
use Rattle.audit_core.proofs.Lists.{drop_at}
use Rattle.tame_local.specs.Builders.{after, size_of}
use Rattle.vendor_registry.specs.Built.{path_made, paths_made}
use Rattle.vendor_registry.specs.Vendored.{on}
use Rattle.vendor_registry.proofs.Begun.{begun_here, begun_more, filled_more, filled_none, taken_here, taken_more}
use Rattle.vendor_registry.proofs.Inserting.{count_more, made_more, none_left, size_more}
use Rattle.vendor_registry.proofs.building.insert_paths.Goals as goal

next_left : (ps : List (List ℕ)) (i : ℕ) (p : List ℕ) → drop i ps ≡ p ∷ drop (suc i) ps → drop i ps ≡ p ∷ drop (i + 1) ps
next_left ps i p h = let next : suc i ≡ i + 1 = omega arith in h ∙ ap (λ n. p ∷ drop n ps) next

pub loop-path-preserved : goal.loop-path-preserved
loop-path-preserved g c =
    let ps : List (List ℕ) = c.args.paths.now in
    let i : ℕ = c.loop-path.path-index in
    let q : List ℕ = c.path-item.result in
    let folder : List ℕ = c.args.builder.now.path in
    let inv = c.loop-path.invariant in
    let at = next_left ps i q (drop_at ps i q c.loop-path-test.true c.path-item.is) in
    let same : c.as_str.result.now ≡ q = c.as_str.ensures in
    record {
      later = omega (arith, inv.later, c.in-Ok.ensures.later);
      made = λ told cs groups pathed.
          made_more folder cs q (drop (i + 1) ps) (drop i ps) _ (g.F.Files.host c.loop-path.files) _ at (inv.made told cs groups pathed)
          (c.in-Ok.ensures.made told cs groups pathed ∙ ap (λ p. after (path_made folder p (on p cs)) (g.F.Files.host c.loop-path.files)) same);
      begun = λ told cs groups pathed now is.
          inv.begun told cs groups pathed now
          (begun_more folder cs q c.as_str.result.now (drop (i + 1) ps) (drop i ps) (g.F.Files.host c.loop-path.files) _ now at same (c.in-Ok.ensures.made told cs groups pathed) is);
      filled = λ told cs groups pathed is.
          inv.filled told cs groups pathed
          (filled_more folder cs q c.as_str.result.now (drop (i + 1) ps) (drop i ps) (g.F.Files.host c.loop-path.files) _ at same (c.in-Ok.ensures.made told cs groups pathed) (c.in-Ok.ensures.filled told cs groups pathed) is);
      taken = λ told cs groups pathed now is.
          inv.taken told cs groups pathed now
          (taken_more folder cs q c.as_str.result.now (drop (i + 1) ps) (drop i ps) (g.F.Files.host c.loop-path.files) _ now at same (c.in-Ok.ensures.made told cs groups pathed) (c.in-Ok.ensures.filled told cs groups pathed) is);
      failed = λ told. c.in-Ok.ensures.failed told ∙ inv.failed told;
      fits = omega (arith, c.saturating_add-written.ensures);
      count = λ cs groups pathed.
          count_more _ c.loop-path.written c.in-Ok.count _ (size_of (path_made folder q (on q cs))) (size_of (paths_made folder cs (drop (i + 1) ps))) (size_of (paths_made folder cs (drop i ps)))
          (inv.count cs groups pathed) (size_more folder cs q (drop (i + 1) ps) (drop i ps) at)
          (c.in-Ok.ensures.count cs groups pathed ∙ ap (λ p. min (size_of (path_made folder p (on p cs))) (2 ^ 64 - 1)) same) c.saturating_add-written.ensures;
    }

pub returns-clause-made : goal.returns-clause-made
returns-clause-made g c = λ told cs groups pathed.
    let none = none_left c.args.paths.now c.loop-path.path-index (omega (arith, c.loop-path-test.false)) in
    sym (c.loop-path.invariant.made told cs groups pathed ∙ ap (λ l. after (paths_made c.args.builder.now.path cs l) (g.F.Files.host c.loop-path.files)) none)

pub returns-clause-filled : goal.returns-clause-filled
returns-clause-filled g c = λ told cs groups pathed.
    let none = none_left c.args.paths.now c.loop-path.path-index (omega (arith, c.loop-path-test.false)) in
    c.loop-path.invariant.filled told cs groups pathed (filled_none c.args.builder.now.path cs _ (g.F.Files.host c.loop-path.files) none)

pub returns-in-Err-clause-begun : goal.returns-in-Err-clause-begun
returns-in-Err-clause-begun g c = λ told cs groups pathed.
    let ps : List (List ℕ) = c.args.paths.now in
    let i : ℕ = c.loop-path.path-index in
    let q : List ℕ = c.path-item.result in
    let at = next_left ps i q (drop_at ps i q c.loop-path-test.true c.path-item.is) in
    c.loop-path.invariant.begun told cs groups pathed _
    (begun_here c.args.builder.now.path cs q c.as_str.result.now (drop (i + 1) ps) (drop i ps) (g.F.Files.host c.loop-path.files) _ at c.as_str.ensures
    (c.in-Err.ensures.begun told cs groups pathed))

pub returns-in-Err-clause-taken : goal.returns-in-Err-clause-taken
returns-in-Err-clause-taken g c = λ told cs groups pathed n is.
    let ps : List (List ℕ) = c.args.paths.now in
    let i : ℕ = c.loop-path.path-index in
    let q : List ℕ = c.path-item.result in
    let at = next_left ps i q (drop_at ps i q c.loop-path-test.true c.path-item.is) in
    c.loop-path.invariant.taken told cs groups pathed _
    (taken_here c.args.builder.now.path cs q c.as_str.result.now (drop (i + 1) ps) (drop i ps) (g.F.Files.host c.loop-path.files) _ at c.as_str.ensures
    (c.in-Err.ensures.taken told cs groups pathed n is) (c.in-Err.ensures.unmade told n is))

last_count : (all w l : ℕ) → min all (2 ^ 64 - 1) ≡ min (w + l) (2 ^ 64 - 1) → l ≡ 0 → w ≤ 2 ^ 64 - 1 → w ≡ min all (2 ^ 64 - 1)
last_count all w l h k i = omega (arith, h, k, i)

pub returns-clause-count : goal.returns-clause-count
returns-clause-count g c = λ cs groups pathed.
    let none = none_left c.args.paths.now c.loop-path.path-index (omega (arith, c.loop-path-test.false)) in
    last_count _ c.loop-path.written _ (c.loop-path.invariant.count cs groups pathed) (ap (λ l. size_of (paths_made c.args.builder.now.path cs l)) none) c.loop-path.invariant.fits
