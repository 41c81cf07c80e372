use Rattle.std.proofs.Common.{◌≡◌, ◌++◌, ◌∷◌, [], ◌+◌, arith, true, false, is_some, length, string_bytes, Some, None, List, ℕ, Option, map, cond, sym, ap, ◌∙◌, refl}
use Rattle.std.specs.BTreeMap.{get_by_text}
use Rattle.std.specs.Option.{option_or}
use Rattle.std.specs.Str.{bytes_eq}
use Rattle.std.proofs.lemmas.List.{map-append}
use Rattle.std.proofs.lemmas.Map.Text.{btree_map_updates_text}
use Rattle.tame_names.specs.Names.{path}
use Rattle.audit_core.specs.Paths.{is_among, place_in}
use Rattle.audit_core.proofs.Lists.{bytes_same, position-append, put_step, same_bytes, some_place}
use Rattle.audit_core.proofs.planning.Places.place.Goals as goal

pub returns-in-Some-clause-paths : goal.returns-in-Some-clause-paths
returns-in-Some-clause-paths c =
    let place : place_in c.args.self.now.paths c.args.path ≡ Some c.in-Some.place.now = sym (c.requires.places.found c.args.path) ∙ sym (rw c.as_str.ensures at c.in-Some.ensures.value) in
    let among : is_among c.args.path c.args.self.now.paths ≡ true = sym (some_place (λ p. bytes_eq p c.args.path) 0 c.args.self.now.paths) ∙ ap is_some place in
    rw among refl

pub returns-clause-paths : goal.returns-clause-paths
returns-clause-paths c =
    let none : get_by_text c.args.self.now.map c.args.path ≡ None = sym (rw c.as_str.ensures at c.in_default.ensures.value) in
    let place : place_in c.args.self.now.paths c.args.path ≡ None = sym (c.requires.places.found c.args.path) ∙ none in
    let among : is_among c.args.path c.args.self.now.paths ≡ false = sym (some_place (λ p. bytes_eq p c.args.path) 0 c.args.self.now.paths) ∙ ap is_some place in
    rw among c.in_ok-add-2.ensures.ok

pub returns-clause-place : goal.returns-clause-place
returns-clause-place c =
    let none : get_by_text c.args.self.now.map c.args.path ≡ None = sym (rw c.as_str.ensures at c.in_default.ensures.value) in
    let place : place_in c.args.self.now.paths c.args.path ≡ None = sym (c.requires.places.found c.args.path) ∙ none in
    let count : length c.as_slice-place.result.now ≡ length c.args.self.now.paths = ap length c.as_slice-place.ensures in
    let start : 0 + length c.args.self.now.paths ≡ length c.args.self.now.paths = omega arith in
    rw (c.in_ok-add-2.ensures.ok, count) (position-append (λ p. bytes_eq p c.args.path) 0 c.args.self.now.paths c.args.path
    ∙ ap (λ (o : Option ℕ). option_or o (cond (bytes_eq c.args.path c.args.path) (Some (0 + length c.args.self.now.paths)) None)) place
    ∙ ap (λ b. cond b (Some (0 + length c.args.self.now.paths)) None) (bytes_same c.args.path) ∙ ap Some start)

pub returns-clause-places : goal.returns-clause-places
returns-clause-places c =
    let text : string_bytes c.in_ok-from_str.field-0 ≡ c.args.path = c.in_ok-from_str.ensures.ok ∙ c.as_str-2.ensures in
    let absent : get_by_text c.args.self.now.map c.args.path ≡ None = sym (rw c.as_str.ensures at c.in_default.ensures.value) in
    rw c.in_ok-add-2.ensures.ok record {
      found = λ q.
          let count : length c.as_slice-place.result.now ≡ length c.args.self.now.paths = ap length c.as_slice-place.ensures in
          let after = rw (text, count) at (btree_map_updates_text (string_bytes c.in_ok-from_str.field-0) c.args.self.now.map c.insert.new.self _ c.in_ok-insert.ensures.updates q) in
          let kept = put_step (get_by_text c.args.self.now.map q) (bytes_eq c.args.path q) (length c.args.self.now.paths)
          (λ found. ap (get_by_text c.args.self.now.map) (sym (same_bytes _ _ found)) ∙ absent) in
          let grown = position-append (λ p. bytes_eq p q) 0 c.args.self.now.paths c.args.path in
          let none : 0 + length c.args.self.now.paths ≡ length c.args.self.now.paths = omega arith in
          let place = rw none at grown in
          after ∙ kept ∙ rw (c.requires.places.found q) (sym place);
      named =
          rw (c.in_ok-add.ensures.ok, c.in_ok-copy.ensures)
          (map-append path c.args.self.now.names (c.args.name.now ∷ []) ∙ ap (λ (qs : List (Option (List ℕ))). qs ++ path c.args.name.now ∷ []) c.requires.places.named
          ∙ ap (λ (q : Option (List ℕ)). map (λ q. Some q) c.args.self.now.paths ++ q ∷ []) c.requires.path ∙ sym (map-append (λ q. Some q) c.args.self.now.paths (c.args.path ∷ [])));
    }
