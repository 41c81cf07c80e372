use Rattle.std.proofs.Common.{◌≡◌, ◌+◌, ◌-◌, ◌<◌, List, length, true}
use Rattle.json.specs.Token.{Token}
use Rattle.json.specs.Lex.{Place, fresh, may_begin}
use Rattle.serde_json.specs.Data.{Members, no_members}
use Rattle.tame_records.specs.Quick.{left}
use Rattle.tame_records.specs.VersionFlags.{AreMembers, KnowsDependency}
use Rattle.tame_records.proofs.quick_lists.dependency_end.Given as goal

-- one may begin here, and what is left decides
abbrev pub invariant-members : goal.invariant-members
invariant-members l = record {
  place : Place;
  begins : may_begin place ≡ true;
  found : Members;
  knows : KnowsDependency found l.seen;
  more : (ms : Members) (r : List Token) → AreMembers 1 (left l.bytes place l.from) found ms r → AreMembers 1 (left l.bytes fresh (l.at + 1)) no_members ms r;
  later : l.at < l.from;
}

abbrev pub decreases-members : goal.decreases-members
decreases-members l = length l.bytes - l.from
