use Rattle.std.proofs.Common.{◌≡◌, ◌==◌, [], ◌∷◌, length, map, arith, refl, ap, sym, ◌∙◌}
use Rattle.std.proofs.lemmas.List.{drop_all}
use Rattle.std.proofs.lemmas.Bool.Decides.{nat_tests}
use Rattle.audit_report.specs.Symbols.{Segments, is_subsequence, plain}
use Rattle.audit_report.proofs.symbols.is_subsequence.Goals as goal

none_left : (left : Segments) → is_subsequence (map plain left) [] ≡ (length left == 0)
none_left [] = refl
none_left (s ∷ ss) = grind (arith, nat_tests)

pub returns : goal.returns
returns c =
    c.is_empty.ensures
    ∙ sym (none_left c.loop-segment.left.now)
    ∙ sym (ap (is_subsequence (map plain c.loop-segment.left.now)) (drop_all c.loop-segment.segment-index c.args.symbol.now c.loop-segment-test.false))
    ∙ sym c.loop-segment.invariant
