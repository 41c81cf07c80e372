use Rattle.std.proofs.Common.{◌≡◌, ◌-◌, List, length, true}
use Rattle.json.specs.Token.{Token}
use Rattle.json.specs.Lex.{Place, fresh, may_begin}
use Rattle.serde_json.specs.Data.{Members, no_members}
use Rattle.tame_records.specs.Quick.{left, seen_of}
use Rattle.tame_records.specs.VersionFlags.{AreMembers, KnowsVersion}
use Rattle.tame_records.proofs.quick_version_flags.quick_members.Given as goal

-- one may begin here, and what is left decides
abbrev pub invariant-members : goal.invariant-members
invariant-members l = record {
  place : Place;
  begins : may_begin place ≡ true;
  found : Members;
  knows : KnowsVersion found (seen_of l.seen);
  more : (ms : Members) (r : List Token) → AreMembers 3 (left l.bytes place l.from) found ms r → AreMembers 3 (left l.bytes fresh 1) no_members ms r;
}

abbrev pub decreases-members : goal.decreases-members
decreases-members l = length l.bytes - l.from
