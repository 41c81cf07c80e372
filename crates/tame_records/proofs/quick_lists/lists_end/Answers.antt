use Rattle.std.proofs.Common.{◌≡◌, ℕ, ◌+◌, List, ◌∷◌, true, drop, get_or, refl, ap, ◌∙◌, arith}
use Rattle.json.specs.Token.{Token}
use Rattle.json.specs.Lex.{Place, fresh, after_value, after_comma, may_begin}
use Rattle.serde_json.specs.Data.{Members, no_members, put, object}
use Rattle.tame_records.specs.Quick.{ends, left}
use Rattle.tame_records.specs.VersionFlags.{AreMembers, are_texts}
use Rattle.tame_records.proofs.FlagForms.{lists_form}
use Rattle.tame_records.proofs.FlagMembers.{all_put, whole_put}
use Rattle.tame_records.proofs.FlagTokens.{members_end, object_taken}
use Rattle.tame_records.proofs.QuickLex.{last_member, object_empties, object_opens, whole_before_brace, whole_before_comma, with_member}
use Rattle.tame_records.proofs.quick_lists.lists_end.Goals as goal

pub returns-then-byte_at-eq125-clause-value : goal.returns-then-byte_at-eq125-clause-value
returns-then-byte_at-eq125-clause-value c =
    let bytes = c.args.bytes.now in
    let at = c.args.at in
    let first : get_or bytes at 0 ≡ 123 = omega (arith, c.byte_at.ensures.value) in
    let next : get_or bytes (at + 1) 0 ≡ 125 = omega (arith, c.byte_at-2.ensures.value) in
    let same : at + 1 + 1 ≡ at + 2 = omega arith in
    let closed : left bytes fresh (at + 1) ≡ Token.end_object ∷ left bytes after_value (at + 2) = object_empties bytes (at + 1) next ∙ ap (λ (m : ℕ). Token.end_object ∷ left bytes after_value m) same in (
      object no_members,
      λ (p : Place) (m : may_begin p ≡ true) (closes : ends (drop (at + 2) bytes) ≡ true).
          object_taken 1 (left bytes p at) (left bytes fresh (at + 1)) (left bytes after_value (at + 2)) no_members (object_opens bytes at p m first) (members_end 1 (left bytes fresh (at + 1)) (left bytes after_value (at + 2)) no_members closed) refl,
      refl,
    )

pub members-init : goal.members-init
members-init c = record {
  place = fresh;
  begins = refl;
  found = no_members;
  lists = refl;
  whole = refl;
  more = λ (ms : Members) (r : List Token) (h : AreMembers 1 (left c.args.bytes.now fresh (c.args.at + 1)) no_members ms r). h;
  later = omega arith;
}

pub members-preserved : goal.members-preserved
members-preserved c =
    let bytes = c.args.bytes.now in
    let l = c.members in
    let k = c.in_ok-key.ensures.value in
    let key = c.in_ok-key.key in
    let e = c.in_ok-end.end in
    let v = c.in_ok-end.ensures.value in
    let found = l.invariant.found in
    let colon : get_or bytes key 0 ≡ 58 = omega (arith, c.byte_at-in-members.ensures.value) in
    let comma : get_or bytes e 0 ≡ 44 = omega (arith, c.byte_at-in-members-2.ensures.value, c.in-44.is) in
    let whole = whole_before_comma bytes 1 l.invariant.place l.from key e k.0 v.0 l.invariant.begins k.1 colon v.1 comma in
    record {
      place = after_comma;
      begins = refl;
      found = put k.0 v.0 found;
      lists = all_put (λ k d. are_texts d) k.0 v.0 found v.2 l.invariant.lists;
      whole = whole_put k.0 v.0 found whole l.invariant.whole;
      more = λ (ms : Members) (r : List Token) (h : AreMembers 1 (left bytes after_comma (e + 1)) (put k.0 v.0 found) ms r).
          l.invariant.more ms r (with_member bytes 1 l.invariant.place l.from key e k.0 v.0 l.invariant.begins k.1 colon v.1 comma found ms r h);
      later = omega (arith, l.invariant.later, c.in_ok-key.ensures.within, c.in_ok-end.ensures.within);
    }

pub returns-in-125-clause-value : goal.returns-in-125-clause-value
returns-in-125-clause-value c =
    let bytes = c.args.bytes.now in
    let at = c.args.at in
    let l = c.members in
    let k = c.in_ok-key.ensures.value in
    let key = c.in_ok-key.key in
    let e = c.in_ok-end.end in
    let v = c.in_ok-end.ensures.value in
    let found = l.invariant.found in
    let first : get_or bytes at 0 ≡ 123 = omega (arith, c.byte_at.ensures.value) in
    let colon : get_or bytes key 0 ≡ 58 = omega (arith, c.byte_at-in-members.ensures.value) in
    let brace : get_or bytes e 0 ≡ 125 = omega (arith, c.byte_at-in-members-2.ensures.value, c.in-125.is) in
    let after = left bytes after_value (e + 1) in
    let ms = put k.0 v.0 found in
    let whole = whole_put k.0 v.0 found (whole_before_brace bytes 1 l.invariant.place l.from key e k.0 v.0 l.invariant.begins k.1 colon v.1 brace) l.invariant.whole in
    let all = l.invariant.more ms after (last_member bytes 1 l.invariant.place l.from key e k.0 v.0 l.invariant.begins k.1 colon v.1 brace found) in (
      object ms,
      λ (p : Place) (m : may_begin p ≡ true) (closes : ends (drop (e + 1) bytes) ≡ true). object_taken 1 (left bytes p at) (left bytes fresh (at + 1)) after ms (object_opens bytes at p m first) all whole,
      lists_form ms (all_put (λ k d. are_texts d) k.0 v.0 found v.2 l.invariant.lists),
    )
