-- The first broken line is that after all that aren't broken.
use Rattle.std.proofs.Common.{◌≡◌, ℕ, suc, ◌+◌, List, [], ◌∷◌, ◌++◌, length, true, false, Some, None, arith, refl, ap, ◌∙◌}
use Rattle.std.specs.Prelude.{Ok, Err}
use Rattle.std.proofs.lemmas.List.Elements.{All-head, All-tail}
use Rattle.tame_names.specs.Pieces.{pieces}
use Rattle.known_findings.specs.Baselines.{baseline_of, findings_in, first_broken, is_broken, listed, unless_broken}
use Rattle.known_findings.specs.Laws.{NoneIsBroken}
use Rattle.known_findings.specs.declared.baselines.BaselineFault.TheVariants as fault

abbrev Line : Type 0
Line = List ℕ

none : (n : ℕ) (ls : List Line) → NoneIsBroken ls → first_broken n ls ≡ None
none n [] h = refl
none n (l ∷ ls) h =
    rw (All-head (λ x. is_broken x ≡ false) l ls h) (none (suc n) ls (All-tail (λ x. is_broken x ≡ false) l ls h))

named : (n : ℕ) (front back : List Line) (l : Line) → NoneIsBroken front → is_broken l ≡ true
    → first_broken n (front ++ l ∷ back) ≡ Some (n + length front)
named n [] back l h broken = rw broken (ap Some (omega arith))
named n (x ∷ front) back l h broken =
    rw (All-head (λ y. is_broken y ≡ false) x front h)
    (named (suc n) front back l (All-tail (λ y. is_broken y ≡ false) x front h) broken ∙ ap Some (omega arith))

pub whole : (text : List ℕ) → NoneIsBroken (pieces 10 text) → baseline_of text ≡ Ok (listed (findings_in (pieces 10 text)))
whole text h = ap (λ o. unless_broken o (listed (findings_in (pieces 10 text)))) (none 0 (pieces 10 text) h)

pub first_named : (text : List ℕ) (front back : List Line) (l : Line) → pieces 10 text ≡ front ++ l ∷ back → NoneIsBroken front
    → is_broken l ≡ true → baseline_of text ≡ Err (fault.Line (length front))
first_named text front back l cut h broken =
    ap (λ o. unless_broken o (listed (findings_in (pieces 10 text))))
    (ap (first_broken 0) cut ∙ named 0 front back l h broken ∙ ap Some (omega arith))
