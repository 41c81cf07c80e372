use Rattle.std.proofs.Common.{◌≡◌, ◌+◌, List, [], true, Option, Some, option_map, option_and_then, get_or, refl, sym, ap, ◌∙◌, subst, arith, rules}
use Rattle.json.specs.Token.{Token}
use Rattle.json.specs.Lex.{fresh, after_value, after_comma, tokens}
use Rattle.serde_json.specs.Data.{Data, Members, no_members, put, object}
use Rattle.tame_records.specs.Quick.{left, seen_of}
use Rattle.tame_records.specs.VersionFlags.{AreMembers, IsValue, KnowsVersion, Seen}
use Rattle.serde_json.specs.Read.{read}
use Rattle.tame_records.specs.Record.{version_flag, record_of_data, unless_float}
use Rattle.tame_records.proofs.FlagForms.{head_form}
use Rattle.tame_records.proofs.VersionKeys.{version_knows_nothing, version_knows_more}
use Rattle.tame_records.proofs.FlagTokens.{object_taken, text_read}
use Rattle.tame_records.proofs.QuickLex.{last_member, none_left, object_opens, whole_before_brace, whole_before_comma, with_member}
use Rattle.tame_records.proofs.quick_version_flags.quick_members.Goals as goal

pub members-init : goal.members-init
members-init c = record {
  place = fresh;
  begins = refl;
  found = no_members;
  knows = version_knows_nothing;
  more = λ (ms : Members) (r : List Token) (h : AreMembers 3 (left c.args.bytes.now fresh 1) no_members ms r). h;
}

pub members-preserved : goal.members-preserved
members-preserved c =
    let bytes = c.args.bytes.now in
    let l = c.members in
    let k = c.in_ok-name.name.now in
    let key = c.in_ok-name.key in
    let e = c.in_ok-end.end in
    let v = c.in_ok-end.ensures.value in
    let found = l.invariant.found in
    let colon : get_or bytes key 0 ≡ 58 = omega (arith, c.byte_at-in-members.ensures.value) in
    let comma : get_or bytes e 0 ≡ 44 = omega (arith, c.byte_at-in-members-2.ensures.value, c.in-44.is) in
    let here = c.in_ok-name.ensures.value in
    let whole = whole_before_comma bytes 3 l.invariant.place l.from key e k v.0 l.invariant.begins here colon v.1 comma in
    let known = version_knows_more found (seen_of l.seen) l.invariant.knows k v.0 whole c.version_key.result (sym c.version_key.ensures) v.2 in
    record {
      place = after_comma;
      begins = refl;
      found = put k v.0 found;
      knows = subst (λ (s : Seen). KnowsVersion (put k v.0 found) s) (sym v.3) known;
      more = λ (ms : Members) (r : List Token) (h : AreMembers 3 (left bytes after_comma (e + 1)) (put k v.0 found) ms r).
          l.invariant.more ms r (with_member bytes 3 l.invariant.place l.from key e k v.0 l.invariant.begins here colon v.1 comma found ms r h);
    }

pub returns-in-Some : goal.returns-in-Some
returns-in-Some c =
    let bytes = c.args.bytes.now in
    let l = c.members in
    let k = c.in_ok-name.name.now in
    let key = c.in_ok-name.key in
    let e = c.in_ok-end.end in
    let v = c.in_ok-end.ensures.value in
    let found = l.invariant.found in
    let colon : get_or bytes key 0 ≡ 58 = omega (arith, c.byte_at-in-members.ensures.value) in
    let brace : get_or bytes e 0 ≡ 125 = omega (arith, c.byte_at-in-members-2.ensures.value, c.in-125.is) in
    let here = c.in_ok-name.ensures.value in
    let whole = whole_before_brace bytes 3 l.invariant.place l.from key e k v.0 l.invariant.begins here colon v.1 brace in
    let known = subst (λ (s : Seen). KnowsVersion (put k v.0 found) s) (sym v.3) (version_knows_more found (seen_of l.seen) l.invariant.knows k v.0 whole c.version_key.result (sym c.version_key.ensures) v.2) in
    let after = left bytes after_value (e + 1) in
    let ms = put k v.0 found in
    let all = l.invariant.more ms after (last_member bytes 3 l.invariant.place l.from key e k v.0 l.invariant.begins here colon v.1 brace found) in
    let first : get_or bytes 0 0 ≡ 123 = omega (arith, c.byte_at.ensures.value) in
    let seen = c.member_end.new.seen in
    let f1 : seen.name ≡ true = search rules in
    let f2 : seen.deps ≡ true = search rules in
    let f3 : seen.checksum ≡ true = search rules in
    let f4 : seen.features ≡ true = search rules in
    let version : option_map (λ t. t.now) seen.version ≡ Some c.in-Some.version.now = grind arith in
    let d : Data = object ms in
    let v4 = object_taken 3 (left bytes fresh 0) (left bytes fresh 1) after ms (object_opens bytes 0 fresh refl first) all known.whole in
    let none : after ≡ [] = none_left bytes (e + 1) (omega arith) in
    let read_as : read bytes ≡ Some d = text_read bytes d 4 (omega arith) (subst (λ (r : List Token). IsValue 4 (tokens bytes) d r) none v4) in
    let kept : unless_float d ≡ Some d = rw known.whole refl in
    ap (λ (o : Option Data). option_map version_flag (option_and_then record_of_data (option_and_then unless_float o))) read_as
    ∙ ap (λ (o : Option Data). option_map version_flag (option_and_then record_of_data o)) kept ∙ head_form ms (seen_of seen) c.in-Some.version.now known f1 version f2 f3 f4
