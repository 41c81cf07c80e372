use Rattle.std.proofs.Common.{◌≡◌, sym, subst, ◌∙◌, ap, arith, true, false}
use Rattle.std.specs.Str.{bytes_eq}
use Rattle.std.specs.String.{string_bytes}
use Rattle.tame_cache.specs.declared.calls.Call.{Call}
use Rattle.tame_cache.proofs.CrashLemmas.{drop_changed, drop_other}
use Rattle.tame_cache.proofs.crashing.half.Goals as goal

pub loop-left-preserved-then-eq : goal.loop-left-preserved-then-eq
loop-left-preserved-then-eq c =
    let test : bytes_eq (string_bytes c.index-calls-end.result.path) c.args.path.now ≡ true =
    subst (λ (x : Call). bytes_eq (string_bytes x.path) c.args.path.now ≡ true) (sym c.index-calls-end.is) (sym (c.eq.ensures ∙ ap (λ l. bytes_eq l c.args.path.now) c.as_str.ensures.value) ∙ c.if-eq.true) in
    record {
      within = omega (arith, c.loop-left.invariant.within);
      dropped = drop_changed c.args.path.now c.args.calls.now c.loop-left.end c.loop-left.left c.index-calls-end.result (omega arith) (omega arith) c.loop-left.invariant.within c.index-calls-end.is test ∙ c.loop-left.invariant.dropped;
    }

pub loop-left-preserved : goal.loop-left-preserved
loop-left-preserved c =
    let test : bytes_eq (string_bytes c.index-calls-end.result.path) c.args.path.now ≡ false =
    subst (λ (x : Call). bytes_eq (string_bytes x.path) c.args.path.now ≡ false) (sym c.index-calls-end.is) (sym (c.eq.ensures ∙ ap (λ l. bytes_eq l c.args.path.now) c.as_str.ensures.value) ∙ c.if-eq.false) in
    record {
      within = omega (arith, c.loop-left.invariant.within);
      dropped = drop_other c.args.path.now c.args.calls.now c.loop-left.end c.loop-left.left c.index-calls-end.result (omega arith) c.loop-left.invariant.within c.index-calls-end.is test ∙ c.loop-left.invariant.dropped;
    }
