use Rattle.std.proofs.Common.{◌≡◌, true, false, get_or, sym, ap, ◌∙◌, add-one, arith, subst}
use Rattle.std.proofs.lemmas.Grind.{get_or_default_zero}
use Rattle.std.specs.Str.{IsUtf8}
use Rattle.tame_location.specs.Registries as spec
use Rattle.tame_location.proofs.Mapped.{map-step}
use Rattle.tame_location.proofs.Raised.{all-raised, raised-text}
use Rattle.tame_location.proofs.registries.raised.Goals as goal

pub loop-byte-preserved : goal.loop-byte-preserved
loop-byte-preserved c =
    let xs = c.as_bytes-byte-items.result.now in
    let i = c.loop-byte.byte-index in
    rw (c.in_ok-push.ensures.items, add-one, c.raised_byte.ensures)
    (map-step spec.raised xs c.loop-byte.bytes.items _ i (get_or xs i 0) (omega arith) (sym (get_or_default_zero xs i (get_or xs i 0) (omega arith))) c.loop-byte.invariant)

clash : false ≡ true → ⊥
clash e = cc

pub unreachable-requires : goal.unreachable-requires
unreachable-requires c =
    let all = all-raised c.args.name.now c.as_bytes-byte-items.result.now c.loop-byte.bytes.items c.loop-byte.byte-index c.loop-byte-test.false c.as_bytes-byte-items.ensures.value c.loop-byte.invariant in
    clash (c.in-Err.ensures.succeeds (subst IsUtf8 (sym all) (raised-text c.args.name.now c.utf8.name)))

pub returns : goal.returns
returns c =
    let all = all-raised c.args.name.now c.as_bytes-byte-items.result.now c.loop-byte.bytes.items c.loop-byte.byte-index c.loop-byte-test.false c.as_bytes-byte-items.ensures.value c.loop-byte.invariant in
    ap (λ v. v.items) c.in-Ok.ensures.ok ∙ all
