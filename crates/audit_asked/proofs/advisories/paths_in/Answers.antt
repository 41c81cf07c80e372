use Rattle.std.proofs.Common.{◌≡◌, ◌∙◌, ◌∷◌, [], ℕ, List, Contains, sym, subst, arith, rules}
use Rattle.std.proofs.lemmas.Grind.{common_steps}
use Rattle.std.proofs.lemmas.List.Elements.{Contains-append_right}
use Rattle.audit_asked.proofs.advisories.paths_in.Goals as goal

pub loop-name-preserved : goal.loop-name-preserved
loop-name-preserved g c = record {
  later = omega (arith, c.add_paths.ensures.cause.later, c.loop-name.invariant.later);
  same = λ told. c.add_paths.ensures.same told ∙ c.loop-name.invariant.same told;
  failed = λ told. first_of (search rules, grind (arith, common_steps));
  paths = λ told. first_of (search rules, grind (arith, common_steps));
  listed = λ name there.
      let step : c.loop-name.name-iterator ≡ c.in-Some.name.now ∷ c.next.new.self = first_of (search rules, grind (arith, common_steps)) in
      let P : List (List ℕ) → Type 0 = λ xs. Contains xs name in
      c.loop-name.invariant.listed name (subst P (sym step) (Contains-append_right (c.in-Some.name.now ∷ []) c.next.new.self name there));
}
