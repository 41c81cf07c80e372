use Rattle.std.proofs.Common.{◌≡◌, Some, true, false, ap, sym, refl}
use Rattle.http_header.specs.FieldValue.{IsVisibleAscii, is_visible_text}
use Rattle.http_header.specs.HeaderMap.{get}
use Rattle.tame_sparse.proofs.Visible.{visible_false, visible_true}
use Rattle.tame_sparse.proofs.responses.visible_value.Goals as goal

pub returns-in-Ok : goal.returns-in-Ok
returns-in-Ok c =
    let found : get c.args.headers.now c.args.name ≡ Some c.in-Some.value.now = sym c.in-Some.ensures.value in
    let visible : is_visible_text c.in-Some.value.now.bytes ≡ true = visible_true _ (c.in-Ok.ensures.succeeds.0 refl) in
    rw (found, visible) (ap Some c.in-Ok.ensures.ok)

pub returns-in-Err : goal.returns-in-Err
returns-in-Err c =
    let found : get c.args.headers.now c.args.name ≡ Some c.in-Some.value.now = sym c.in-Some.ensures.value in
    let hidden : is_visible_text c.in-Some.value.now.bytes ≡ false = visible_false _ (λ (visible : IsVisibleAscii c.in-Some.value.now.bytes). cc (c.in-Err.ensures.succeeds.1 visible)) in
    rw (found, hidden) refl
