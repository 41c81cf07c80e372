use Rattle.std.proofs.Common.{◌≡◌, ◌+◌, List, true, drop, get_or, refl, sym, subst, arith, rules}
use Rattle.json.specs.Token.{Token}
use Rattle.json.specs.Lex.{Place, fresh, after_value, after_comma, may_begin}
use Rattle.serde_json.specs.Data.{Members, no_members, put, object}
use Rattle.tame_records.specs.Quick.{ends, left}
use Rattle.tame_records.specs.VersionFlags.{AreMembers, KnowsDependency}
use Rattle.tame_records.specs.declared.keys.DependencySeen.{DependencySeen}
use Rattle.tame_records.proofs.FlagForms.{dependency_form}
use Rattle.tame_records.proofs.DependencyKeys.{dependency_knows_nothing, dependency_knows_more}
use Rattle.tame_records.proofs.FlagTokens.{object_taken}
use Rattle.tame_records.proofs.QuickLex.{last_member, object_opens, whole_before_brace, whole_before_comma, with_member}
use Rattle.tame_records.proofs.quick_lists.dependency_end.Goals as goal

pub members-init : goal.members-init
members-init c = record {
  place = fresh;
  begins = refl;
  found = no_members;
  knows = dependency_knows_nothing;
  more = λ (ms : Members) (r : List Token) (h : AreMembers 1 (left c.args.bytes.now fresh (c.args.at + 1)) no_members ms r). h;
  later = omega arith;
}

pub members-preserved : goal.members-preserved
members-preserved c =
    let bytes = c.args.bytes.now in
    let l = c.members in
    let k = c.in_ok-name.name.now in
    let key = c.in_ok-name.key in
    let e = c.in_ok-end.end in
    let v = c.in_ok-end.ensures.value in
    let found = l.invariant.found in
    let colon : get_or bytes key 0 ≡ 58 = omega (arith, c.byte_at-in-members.ensures.value) in
    let comma : get_or bytes e 0 ≡ 44 = omega (arith, c.byte_at-in-members-2.ensures.value, c.in-44.is) in
    let here = c.in_ok-name.ensures.value in
    let whole = whole_before_comma bytes 1 l.invariant.place l.from key e k v.0 l.invariant.begins here colon v.1 comma in
    let known = dependency_knows_more found l.seen l.invariant.knows k v.0 whole c.dependency_key.result (sym c.dependency_key.ensures) v.2 in
    record {
      place = after_comma;
      begins = refl;
      found = put k v.0 found;
      knows = subst (λ (s : DependencySeen). KnowsDependency (put k v.0 found) s) (sym v.3) known;
      more = λ (ms : Members) (r : List Token) (h : AreMembers 1 (left bytes after_comma (e + 1)) (put k v.0 found) ms r).
          l.invariant.more ms r (with_member bytes 1 l.invariant.place l.from key e k v.0 l.invariant.begins here colon v.1 comma found ms r h);
      later = omega (arith, l.invariant.later, c.in_ok-name.ensures.within, c.in_ok-end.ensures.within);
    }

pub returns-in-125-clause-value : goal.returns-in-125-clause-value
returns-in-125-clause-value c =
    let bytes = c.args.bytes.now in
    let l = c.members in
    let k = c.in_ok-name.name.now in
    let key = c.in_ok-name.key in
    let e = c.in_ok-end.end in
    let v = c.in_ok-end.ensures.value in
    let found = l.invariant.found in
    let colon : get_or bytes key 0 ≡ 58 = omega (arith, c.byte_at-in-members.ensures.value) in
    let brace : get_or bytes e 0 ≡ 125 = omega (arith, c.byte_at-in-members-2.ensures.value, c.in-125.is) in
    let here = c.in_ok-name.ensures.value in
    let whole = whole_before_brace bytes 1 l.invariant.place l.from key e k v.0 l.invariant.begins here colon v.1 brace in
    let known = subst (λ (s : DependencySeen). KnowsDependency (put k v.0 found) s) (sym v.3) (dependency_knows_more found l.seen l.invariant.knows k v.0 whole c.dependency_key.result (sym c.dependency_key.ensures) v.2) in
    let after = left bytes after_value (e + 1) in
    let ms = put k v.0 found in
    let all = l.invariant.more ms after (last_member bytes 1 l.invariant.place l.from key e k v.0 l.invariant.begins here colon v.1 brace found) in
    let at = c.args.at in
    let first : get_or bytes at 0 ≡ 123 = omega (arith, c.byte_at.ensures.value) in
    let seen = c.part_end.new.seen in
    let f1 : seen.name ≡ true = search rules in
    let f2 : seen.req ≡ true = search rules in
    let f3 : seen.features ≡ true = search rules in
    let f4 : seen.optional ≡ true = search rules in
    let f5 : seen.default_features ≡ true = search rules in (
      object ms,
      λ (p : Place) (m : may_begin p ≡ true) (closes : ends (drop (e + 1) bytes) ≡ true). object_taken 1 (left bytes p at) (left bytes fresh (at + 1)) after ms (object_opens bytes at p m first) all known.whole,
      dependency_form ms seen known f1 f2 f3 f4 f5,
    )
