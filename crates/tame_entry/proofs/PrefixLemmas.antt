-- Text without its prefix.
use Rattle.std.proofs.Common.{◌≡◌, ◌≢◌, ℕ, ◌==◌, List, [], ◌∷◌, ◌++◌, drop, Bool, true, false, cond, Option, Some, None, option_map, Bor, refl, sym, ap, ◌∙◌, rules}
use Rattle.std.specs.Prelude.{MatchOption}
use Rattle.std.specs.Str.Pattern.{FindsTextPrefix, StripsPrefix}
use Rattle.std.proofs.lemmas.Bool.Decides.{nat_tests}
use Rattle.tame_entry.specs.Prefixes.{without_prefix}

same_test : (b : ℕ) → (b == b) ≡ true
same_test b = search (rules, nat_tests)

pub prefix_gone : (name rest : List ℕ) → without_prefix name (name ++ rest) ≡ Some rest
prefix_gone [] rest = refl
prefix_gone (b ∷ bs) rest = rw (same_test b) (prefix_gone bs rest)

is_case : (t : Bool) (b p : ℕ) (bs ps rest : List ℕ) → (b == p) ≡ t → cond t (without_prefix ps bs) None ≡ Some rest → (without_prefix ps bs ≡ Some rest → bs ≡ ps ++ rest) → b ∷ bs ≡ p ∷ (ps ++ rest)
is_case true b p bs ps rest e k more =
    let same : b ≡ p = search (rules, nat_tests) in
    ap (λ x. x ∷ bs) same ∙ ap (λ (xs : List ℕ). p ∷ xs) (more k)
is_case false b p bs ps rest e k more = cc

-- a text that has something after a name begins with the name
pub begins_so : (name text rest : List ℕ) → without_prefix name text ≡ Some rest → text ≡ name ++ rest
begins_so [] text rest h = cc
begins_so (p ∷ ps) [] rest h = cc
begins_so (p ∷ ps) (b ∷ bs) rest h = is_case (b == p) b p bs ps rest refl h (begins_so ps bs rest)

-- nothing follows a name that the text doesn't begin with
pub none_behind : (name text : List ℕ) (o : Option (List ℕ)) → without_prefix name text ≡ o → ((rest : List ℕ) → text ≢ name ++ rest) → o ≡ None
none_behind name text None h lacks = refl
none_behind name text (Some rest) h lacks = absurd (lacks rest (begins_so name text rest h))

pub stripped : (name text : List ℕ) (r : Option (Bor (List ℕ))) → MatchOption r (FindsTextPrefix name text None) (λ x. StripsPrefix (FindsTextPrefix name) text x.now) → option_map (λ t. t.now) r ≡ without_prefix name text
stripped name text None h = sym (none_behind name text (without_prefix name text) refl h)
stripped name text (Some x) h =
    let n = h.0 in
    let whole : text ≡ name ++ drop n text = h.1.1 in
    sym (ap (without_prefix name) whole ∙ prefix_gone name (drop n text) ∙ ap Some (sym h.2))
