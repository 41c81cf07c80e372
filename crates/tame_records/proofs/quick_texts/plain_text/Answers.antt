use Rattle.std.proofs.Common.{◌≡◌, get_or, arith}
use Rattle.tame_records.proofs.QuickLex.{text_slice}
use Rattle.tame_records.proofs.quick_texts.plain_text.Goals as goal

pub returns-clause-value : goal.returns-clause-value
returns-clause-value c =
    let bytes = c.args.bytes.now in
    let first : get_or bytes c.args.at 0 ≡ 34 = omega (arith, c.byte_at.ensures.value) in
    let last : get_or bytes c.plain_end-end.result 0 ≡ 34 = omega (arith, c.byte_at-2.ensures.value) in
    text_slice bytes c.args.at c.plain_end-end.result first c.plain_end-end.ensures.value last
