use Rattle.std.proofs.Common.{◌≡◌, ◌+◌, ◌-◌, ◌<◌, List, length, true, false}
use Rattle.json.specs.Token.{Token}
use Rattle.json.specs.Lex.{Place, fresh, may_begin}
use Rattle.serde_json.specs.Data.{Members, no_members}
use Rattle.serde_json.specs.Written.{members_have_float}
use Rattle.tame_records.specs.Quick.{left}
use Rattle.tame_records.specs.VersionFlags.{AreMembers, all_members, are_texts}
use Rattle.tame_records.proofs.quick_lists.lists_end.Given as goal

-- one may begin here, and what is left decides
abbrev pub invariant-members : goal.invariant-members
invariant-members l = record {
  place : Place;
  begins : may_begin place ≡ true;
  found : Members;
  lists : all_members (λ k d. are_texts d) found ≡ true;
  whole : members_have_float found ≡ false;
  more : (ms : Members) (r : List Token) → AreMembers 1 (left l.bytes place l.from) found ms r → AreMembers 1 (left l.bytes fresh (l.at + 1)) no_members ms r;
  later : l.at < l.from;
}

abbrev pub decreases-members : goal.decreases-members
decreases-members l = length l.bytes - l.from
