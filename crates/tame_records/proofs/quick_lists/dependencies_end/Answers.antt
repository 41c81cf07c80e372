use Rattle.std.proofs.Common.{◌≡◌, ℕ, ◌+◌, List, ◌∷◌, true, drop, get_or, refl, ap, ◌∙◌, subst, arith}
use Rattle.json.specs.Token.{Token}
use Rattle.json.specs.Lex.{Place, fresh, after_value, after_comma, may_begin}
use Rattle.serde_json.specs.Data.{array, no_items}
use Rattle.tame_records.specs.Quick.{ends, left}
use Rattle.tame_records.specs.VersionFlags.{IsValue, Takes, TakesItems, is_dependency}
use Rattle.tame_records.proofs.FlagForms.{dependencies_form}
use Rattle.tame_records.proofs.FlagTokens.{array_taken, item_of_form, items_end, no_item_of_form}
use Rattle.tame_records.proofs.QuickLex.{array_closes, array_empties, array_opens, bracket_ends, comma_ends, comma_passes}
use Rattle.tame_records.proofs.quick_lists.dependencies_end.Goals as goal

pub returns-then-byte_at-eq93-clause-value : goal.returns-then-byte_at-eq93-clause-value
returns-then-byte_at-eq93-clause-value c =
    let bytes = c.args.bytes.now in
    let at = c.args.at in
    let first : get_or bytes at 0 ≡ 91 = omega (arith, c.byte_at.ensures.value) in
    let next : get_or bytes (at + 1) 0 ≡ 93 = omega (arith, c.byte_at-2.ensures.value) in
    let same : at + 1 + 1 ≡ at + 2 = omega arith in
    let closed : left bytes fresh (at + 1) ≡ Token.end_array ∷ left bytes after_value (at + 2) = array_empties bytes (at + 1) next ∙ ap (λ (m : ℕ). Token.end_array ∷ left bytes after_value m) same in (
      array no_items,
      λ (p : Place) (m : may_begin p ≡ true) (closes : ends (drop (at + 2) bytes) ≡ true).
          array_taken 2 (left bytes p at) (left bytes fresh (at + 1)) (left bytes after_value (at + 2)) no_items (array_opens bytes at p m first) (items_end 2 (left bytes fresh (at + 1)) (left bytes after_value (at + 2)) closed),
      refl,
    )

pub items-preserved : goal.items-preserved
items-preserved c =
    let bytes = c.args.bytes.now in
    let l = c.items in
    let e = c.in_ok-end.end in
    let t = c.in_ok-end.ensures.value in
    let comma : get_or bytes e 0 ≡ 44 = omega (arith, c.byte_at-in-items.ensures.value, c.in-44.is) in
    let v = t.1 l.invariant.place l.invariant.begins (comma_ends bytes e comma) in
    let after = left bytes after_comma (e + 1) in
    let taken : Takes 2 is_dependency (left bytes l.invariant.place l.from) after = (t.0, subst (λ (r : List Token). IsValue 2 (left bytes l.invariant.place l.from) t.0 r) (comma_passes bytes e comma) v, t.2) in
    record {
      place = after_comma;
      begins = refl;
      more = λ (r : List Token) (rest : TakesItems 2 is_dependency after r). l.invariant.more r (item_of_form 2 is_dependency (left bytes l.invariant.place l.from) after r taken rest);
      later = omega (arith, l.invariant.later, c.in_ok-end.ensures.within);
    }

pub returns-in-93-clause-value : goal.returns-in-93-clause-value
returns-in-93-clause-value c =
    let bytes = c.args.bytes.now in
    let at = c.args.at in
    let l = c.items in
    let e = c.in_ok-end.end in
    let t = c.in_ok-end.ensures.value in
    let first : get_or bytes at 0 ≡ 91 = omega (arith, c.byte_at.ensures.value) in
    let bracket : get_or bytes e 0 ≡ 93 = omega (arith, c.byte_at-in-items.ensures.value, c.in-93.is) in
    let here = left bytes l.invariant.place l.from in
    let mid = left bytes after_value e in
    let after = left bytes after_value (e + 1) in
    let taken : Takes 2 is_dependency here mid = (t.0, t.1 l.invariant.place l.invariant.begins (bracket_ends bytes e bracket), t.2) in
    let all = l.invariant.more after (item_of_form 2 is_dependency here mid after taken (no_item_of_form 2 is_dependency mid after (array_closes bytes e bracket))) in (
      array all.0,
      λ (p : Place) (m : may_begin p ≡ true) (closes : ends (drop (e + 1) bytes) ≡ true).
          array_taken 2 (left bytes p at) (left bytes fresh (at + 1)) after all.0 (array_opens bytes at p m first) all.1,
      dependencies_form all.0 all.2,
    )
