use Rattle.std.proofs.Common.{◌≡◌, ◌+◌, ◌-◌, ◌<◌, List, length, true}
use Rattle.json.specs.Token.{Token}
use Rattle.json.specs.Lex.{Place, fresh, may_begin}
use Rattle.tame_records.specs.Quick.{left}
use Rattle.tame_records.specs.VersionFlags.{TakesItems, is_text}
use Rattle.tame_records.proofs.quick_lists.texts_end.Given as goal

-- an item may begin here, and what is left decides
abbrev pub invariant-items : goal.invariant-items
invariant-items l = record {
  place : Place;
  begins : may_begin place ≡ true;
  more : (r : List Token) → TakesItems 0 is_text (left l.bytes place l.from) r → TakesItems 0 is_text (left l.bytes fresh (l.at + 1)) r;
  later : l.at < l.from;
}

abbrev pub decreases-items : goal.decreases-items
decreases-items l = length l.bytes - l.from
