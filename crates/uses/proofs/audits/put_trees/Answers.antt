use Rattle.std.proofs.Common.{rules, ◌≡◌, ◌++◌, ℕ, List, true, false, drop, add-one, suc, sym, ap, ◌∙◌, subst, arith}
use Rattle.std.specs.Prelude.{bytes_eq}
use Rattle.tame_names.specs.Output.{AddsPrefix}
use Rattle.audit_lock.specs.Rendering.{rendering}
use Rattle.audit_lock.specs.declared.resolving.Package.{Package}
use Rattle.audit_lock.proofs.Steps.{drop_at}
use Rattle.report_parts.proofs.Puts.{part_whole}
use Rattle.uses.proofs.Parts.{part_next, put_next, trees_next, trees_passed}
use Rattle.uses.specs.Trees.{trees_from, trees_of}
use Rattle.uses.proofs.audits.put_trees.Goals as goal
use Rattle.uses.proofs.audits.put_trees.Goals.{then-eq+in_ok-render, else-eq}

pub returns-in_err-render-clause-part : goal.returns-in_err-render-clause-part
returns-in_err-render-clause-part g c = λ tells.
    let packages = c.packages-packages.result.now in
    let name = c.args.name.now in
    let place = c.loop-place.place in
    let p = c.index-packages-place.result in
    let same : packages ≡ c.args.lockfile.now = search rules in
    let left = drop_at packages place p c.loop-place-test.true c.index-packages-place.is in
    let named : bytes_eq p.name name ≡ true = search rules in
    let all = ap (λ (xs : List ℕ). g.S.Sink.holds c.loop-place.sink ++ xs) (sym (trees_next packages name place p _ left named)) ∙ c.loop-place.invariant.put tells in
    let part = subst (λ (ps : List Package). AddsPrefix (g.S.Sink.holds c.loop-place.sink) (rendering ps place) (g.S.Sink.holds c.render.new.sink)) (sym same) (c.render.ensures.part tells) in
    subst (λ (ps : List Package). AddsPrefix (g.S.Sink.holds c.args.sink.now) (trees_of name ps) (g.S.Sink.holds c.render.new.sink)) same
    (part_next _ _ _ _ _ _ (c.loop-place.invariant.part tells) all part)

pub loop-place-preserved : goal.loop-place-preserved
loop-place-preserved g c =
    let packages = c.packages-packages.result.now in
    let name = c.args.name.now in
    let place = c.loop-place.place in
    let p = c.index-packages-place.result in
    let inv = c.loop-place.invariant in
    let same : packages ≡ c.args.lockfile.now = search rules in
    let left = drop_at packages place p c.loop-place-test.true c.index-packages-place.is in
    elim c.if-eq.branch [
      | then-eq+in_ok-render w ↦
          let named : bytes_eq p.name name ≡ true = search rules in
          let all = λ (tells : g.S.Sink.tells). ap (λ (xs : List ℕ). g.S.Sink.holds c.loop-place.sink ++ xs) (sym (trees_next packages name place p _ left named)) ∙ inv.put tells in
          let put = λ (tells : g.S.Sink.tells). subst (λ (ps : List Package). g.S.Sink.holds w.render.new.sink ≡ g.S.Sink.holds c.loop-place.sink ++ rendering ps place) (sym same) (w.in_ok-render.ensures.put tells) in
          rw (w.sink-is, add-one) record {
            put = λ tells. put_next (g.S.Sink.holds c.args.sink.now) (trees_of name packages) (g.S.Sink.holds c.loop-place.sink) (rendering packages place) (trees_from packages name (suc place) (drop (suc place) packages)) (g.S.Sink.holds w.render.new.sink) (put tells) (all tells);
            part = λ tells. part_next _ _ _ _ _ _ (inv.part tells) (all tells) (part_whole _ _ _ (put tells));
            later = omega (arith, inv.later, w.render.ensures.later);
          }
      | else-eq w ↦
          let other : bytes_eq p.name name ≡ false = search rules in
          rw (w.sink-is, add-one) record {
            put = λ tells. ap (λ (xs : List ℕ). g.S.Sink.holds c.loop-place.sink ++ xs) (sym (trees_passed packages name place p _ left other)) ∙ inv.put tells;
            part = inv.part;
            later = inv.later;
          }
    ]
