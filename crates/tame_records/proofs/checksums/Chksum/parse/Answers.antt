use Rattle.std.proofs.Common.{sym, ◌∙◌}
use Rattle.tame_records.proofs.Digits.{decodes}
use Rattle.tame_records.proofs.checksums.Chksum.parse.Goals as goal

pub unreachable-requires : goal.unreachable-requires
unreachable-requires c =
    decodes c.args.text.now _ _ _ c.if-text-ne64.false (sym c.first_bad_digit.ensures ∙ c.in_default.is) c.decode_to_slice.ensures.value c.in-Err.is
