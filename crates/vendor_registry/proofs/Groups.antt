-- What was checked, group by group.
use Rattle.std.proofs.Common.{◌≡◌, ℕ, List, [], ◌∷◌, ◌++◌, Bool, true, false, cond, bytes_eq, Option, Some, None, Result, Ok, Err, refl, sym, ap, ◌∙◌, append_assoc}
use Rattle.std.specs.Prelude.{unwrap_or, IfOk, OnErr, OnOk}
use Rattle.std.specs.BTreeMap.{get_by_text}
use Rattle.std.proofs.lemmas.List.{append-nil}
use Rattle.std.proofs.lemmas.Slice.Eq.{bytes_eq-Decides}
use Rattle.tame_names.specs.Names.{path}
use Rattle.vendor_registry.specs.Grouped.{Groups, group_at}
use Rattle.vendor_registry.specs.Named.{ArePathed}
use Rattle.vendor_registry.specs.Vendored.{is_on, on}
use Rattle.vendor_registry.specs.declared.checks.CheckedCrate.{CheckedCrate}

-- ---- a map of groups

taken_case : (b : Bool) (o : Option (List CheckedCrate)) → unwrap_or (cond b None o) [] ≡ cond b [] (unwrap_or o [])
taken_case true o = refl
taken_case false o = refl

pub taken : (old now : Groups) (path q : List ℕ) → get_by_text now q ≡ cond (bytes_eq path q) None (get_by_text old q) → group_at now q ≡ cond (bytes_eq path q) [] (group_at old q)
taken old now path q h = ap (λ o. unwrap_or o []) h ∙ taken_case (bytes_eq path q) (get_by_text old q)

kept_case : (b : Bool) (g : List CheckedCrate) (o : Option (List CheckedCrate)) → unwrap_or (cond b (Some g) o) [] ≡ cond b g (unwrap_or o [])
kept_case true g o = refl
kept_case false g o = refl

pub kept : (old now : Groups) (path : List ℕ) (g : List CheckedCrate) (q : List ℕ) → get_by_text now q ≡ cond (bytes_eq path q) (Some g) (get_by_text old q)
    → group_at now q ≡ cond (bytes_eq path q) g (group_at old q)
kept old now path g q h = ap (λ o. unwrap_or o []) h ∙ kept_case (bytes_eq path q) g (get_by_text old q)

one_case : (b : Bool) (path q : List ℕ) (all : List ℕ → List CheckedCrate) (one : CheckedCrate) → bytes_eq path q ≡ b
    → cond b (all path ++ one ∷ []) (cond b [] (all q)) ≡ all q ++ cond b (one ∷ []) []
one_case true path q all one is = ap (λ p. all p ++ one ∷ []) ((bytes_eq-Decides path q).0 is)
one_case false path q all one is = sym (append-nil (all q))

pub one_put : (old mid now : Groups) (path : List ℕ) (one : CheckedCrate) (q : List ℕ) → one.path ≡ path
    → group_at mid q ≡ cond (bytes_eq path q) [] (group_at old q)
    → group_at now q ≡ cond (bytes_eq path q) (group_at old path ++ one ∷ []) (group_at mid q)
    → group_at now q ≡ group_at old q ++ on q (one ∷ [])
one_put old mid now path one q named left more =
    more ∙ ap (λ g. cond (bytes_eq path q) (group_at old path ++ one ∷ []) g) left
    ∙ one_case (bytes_eq path q) path q (group_at old) one refl ∙ ap (λ p. group_at old q ++ cond (bytes_eq p q) (one ∷ []) []) (sym named)

-- those so far, before those that are left
pub put_next : (before more all rest : List CheckedCrate) (q : List ℕ) (one : CheckedCrate) → on q all ≡ before ++ on q (one ∷ rest) → more ≡ before ++ on q (one ∷ []) → on q all ≡ more ++ on q rest
put_next before more all rest q one h k = h ∙ next_case (is_on q one) ∙ ap (λ (g : List CheckedCrate). g ++ on q rest) (sym k)
  where
    next_case : (b : Bool) → before ++ cond b (one ∷ on q rest) (on q rest) ≡ (before ++ cond b (one ∷ []) []) ++ on q rest
    next_case true = sym (append_assoc before (one ∷ []) (on q rest))
    next_case false = ap (λ (g : List CheckedCrate). g ++ on q rest) (sym (append-nil before))

pub on_ok : {A E : Type 0} {P Q : Type 0} (r : Result A E) → (P → Q) → OnOk r P → OnOk r Q
on_ok (Ok a) f h = f h
on_ok (Err e) f h = tt

pub on_err : {A E : Type 0} {P Q : Type 0} (r : Result A E) → (P → Q) → OnErr r P → OnErr r Q
on_err (Ok a) f h = tt
on_err (Err e) f h = f h

pub if_ok : {A E : Type 0} {P Q : A → Type 0} (r : Result A E) → ((a : A) → P a → Q a) → IfOk r P → IfOk r Q
if_ok (Ok a) f h = f a h
if_ok (Err e) f h = tt

-- ---- one group

again_case : (b : Bool) (q : List ℕ) (c : CheckedCrate) (cs : List CheckedCrate) → is_on q c ≡ b → on q (on q cs) ≡ on q cs → on q (cond b (c ∷ on q cs) (on q cs)) ≡ cond b (c ∷ on q cs) (on q cs)
again_case true q c cs is h = ap (λ b. cond b (c ∷ on q (on q cs)) (on q (on q cs))) is ∙ ap (λ (xs : List CheckedCrate). c ∷ xs) h
again_case false q c cs is h = h

-- the group of a path within that group is the group itself
pub on_twice : (q : List ℕ) (cs : List CheckedCrate) → on q (on q cs) ≡ on q cs
on_twice q [] = refl
on_twice q (c ∷ cs) = again_case (is_on q c) q c cs refl (on_twice q cs)

pathed_case : (b : Bool) (c : CheckedCrate) (cs : List CheckedCrate) → path c.version.name ≡ Some c.path → ArePathed cs → ArePathed (cond b (c ∷ cs) cs)
pathed_case true c cs is all = (is, all)
pathed_case false c cs is all = all

pub pathed_on : (q : List ℕ) (cs : List CheckedCrate) → ArePathed cs → ArePathed (on q cs)
pathed_on q [] all = tt
pathed_on q (c ∷ cs) all = pathed_case (is_on q c) c (on q cs) all.0 (pathed_on q cs all.1)
