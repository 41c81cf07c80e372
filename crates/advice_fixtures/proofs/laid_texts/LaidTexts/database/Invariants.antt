use Rattle.std.proofs.Common.{◌≡◌, map, take, Ok}
use Rattle.audit_advisory.specs.Advisories.{advisory_of}
use Rattle.advice_fixtures.proofs.laid_texts.LaidTexts.database.Given as goal

-- the advisories read so far are those of the texts so far
abbrev pub invariant-loop-text : goal.invariant-loop-text
invariant-loop-text l =
    (l.text-items ≡ l.self.advisories)
    × (map (λ a. Ok a) l.advisories ≡ map advisory_of (take l.text-index l.text-items))
