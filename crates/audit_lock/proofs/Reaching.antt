-- The tree has lines of exactly the packages that reach its root, each opened once.
use Rattle.std.proofs.Common.{◌≡◌, ℕ, zero, suc, ◌+◌, ◌<◌, ◌≤◌, ◌≢◌, ◌⊎◌, List, [], ◌∷◌, ◌++◌, length, get_or, set, replicate, Bool, true, false, not, cond, refl, sym, ◌∙◌, subst, inl, inr, arith}
use Rattle.std.specs.Prelude.{◌==◌, ◌||◌, ⊤}
use Rattle.std.specs.List.{filter, range_with_len}
use Rattle.std.proofs.lemmas.Bool.{cases_eq, cases_lt}
use Rattle.std.proofs.lemmas.Bool.Decides.{nat_tests}
use Rattle.std.proofs.lemmas.List.{length-set, get_or-set_same, get_or-set_other, get_or-replicate, get_or_past, length-replicate}
use Rattle.audit_lock.specs.declared.resolving.Package.{Package}
use Rattle.audit_lock.specs.Parents.{depends_on, is_among, parents_at, tree_of}
use Rattle.audit_lock.specs.Rendering.{Line, Walked, and_on, each_parent, is_empty, one_line, unmet, walk}
use Rattle.audit_lock.specs.Shape.{Reaches, itself, over, has_line, openings}
use Rattle.audit_lock.proofs.Walks.{fewer, tree_length, tree_parents}

-- ---- definitions

abbrev pub IsMet : List Bool → ℕ → Type 0
IsMet met q = get_or met q false ≡ true

-- all of these hold
abbrev pub AllOf : (ℕ → Type 0) → List ℕ → Type 0
AllOf P [] = ⊤
AllOf P (p ∷ ps) = P p × AllOf P ps

-- it holds of the packages of all lines
abbrev pub AllLines : (ℕ → Type 0) → List Line → Type 0
AllLines P [] = ⊤
AllLines P (line ∷ lines) = P line.place × AllLines P lines

abbrev pub bit : Bool → ℕ
bit b = cond b 1 0

-- what holds after a walk that starts with these packages met
pub record Closes (tree : List (List ℕ)) (before : List Bool) (w : Walked) : Type 0 where
  pub size : length w.met ≡ length before
  pub kept : (q : ℕ) → IsMet before q → IsMet w.met q
  pub few : unmet w.met ≤ unmet before
  pub lined : (q : ℕ) → IsMet w.met q → IsMet before q ⊎ (has_line q w.lines ≡ true)
  pub closed : (q : ℕ) → IsMet w.met q → IsMet before q ⊎ AllOf (IsMet w.met) (parents_at tree q)
  pub once : (q : ℕ) → openings q w.lines + bit (get_or before q false) ≡ bit (get_or w.met q false)

-- ---- lists

all_of-more : (P Q : ℕ → Type 0) → ((q : ℕ) → P q → Q q) → (ps : List ℕ) → AllOf P ps → AllOf Q ps
all_of-more P Q h [] all = tt
all_of-more P Q h (p ∷ ps) all = (h p all.0, all_of-more P Q h ps all.1)

pub same_number : (a b : ℕ) → (a == b) ≡ true → a ≡ b
same_number a b h = grind (arith, nat_tests)

pub here_number : (a : ℕ) → (a == a) ≡ true
here_number a = grind (arith, nat_tests)

pub other_number : (a b : ℕ) → (a ≡ b → ⊥) → (a == b) ≡ false
other_number a b h = grind (arith, nat_tests)

pub either : (a b : Bool) → a || b ≡ true → (a ≡ true) ⊎ (b ≡ true)
either true b h = inl refl
either false b h = inr h

pub or_left : (a b : Bool) → a ≡ true → a || b ≡ true
or_left a b h = rw h refl

pub or_right : (a b : Bool) → b ≡ true → a || b ≡ true
or_right true b h = refl
or_right false b h = h

pub all_of-at : (P : ℕ → Type 0) (ps : List ℕ) → AllOf P ps → (q : ℕ) → is_among q ps ≡ true → P q
all_of-at P [] all q h = cc
all_of-at P (p ∷ ps) all q h = elim (either (p == q) (is_among q ps) h) [ inl e ↦ subst P (same_number p q e) all.0 | inr e ↦ all_of-at P ps all.1 q e ]

pub all_of-from : (P : ℕ → Type 0) (ps : List ℕ) → ((q : ℕ) → is_among q ps ≡ true → P q) → AllOf P ps
all_of-from P [] h = tt
all_of-from P (p ∷ ps) h = (h p (or_left (p == p) (is_among p ps) (here_number p)), all_of-from P ps (λ q e. h q (or_right (p == q) (is_among q ps) e)))

all_lines-append : (P : ℕ → Type 0) (xs ys : List Line) → AllLines P xs → AllLines P ys → AllLines P (xs ++ ys)
all_lines-append P [] ys h k = k
all_lines-append P (x ∷ xs) ys h k = (h.0, all_lines-append P xs ys h.1 k)

pub all_lines-at : (P : ℕ → Type 0) (lines : List Line) → AllLines P lines → (q : ℕ) → has_line q lines ≡ true → P q
all_lines-at P [] all q h = cc
all_lines-at P (line ∷ lines) all q h = elim (either (line.place == q) (has_line q lines) h) [ inl e ↦ subst P (same_number line.place q e) all.0 | inr e ↦ all_lines-at P lines all.1 q e ]

pub has_line-left : (q : ℕ) (xs ys : List Line) → has_line q xs ≡ true → has_line q (xs ++ ys) ≡ true
has_line-left q [] ys h = cc
has_line-left q (x ∷ xs) ys h = elim (either (x.place == q) (has_line q xs) h) [ inl e ↦ or_left (x.place == q) (has_line q (xs ++ ys)) e | inr e ↦ or_right (x.place == q) (has_line q (xs ++ ys)) (has_line-left q xs ys e) ]

pub has_line-right : (q : ℕ) (xs ys : List Line) → has_line q ys ≡ true → has_line q (xs ++ ys) ≡ true
has_line-right q [] ys h = h
has_line-right q (x ∷ xs) ys h = or_right (x.place == q) (has_line q (xs ++ ys)) (has_line-right q xs ys h)

openings-append : (q : ℕ) (xs ys : List Line) → openings q (xs ++ ys) ≡ openings q xs + openings q ys
openings-append q [] ys = omega arith
openings-append q (x ∷ xs) ys = omega (arith, openings-append q xs ys)

-- ---- soundness: a line's package is the root or depends on one with a line

each_sound : (P : ℕ → Type 0) (below : List Bool → ℕ → List Bool → Walked)
    → ((levels : List Bool) (place : ℕ) (met : List Bool) → P place → AllLines P (below levels place met).lines)
    → (levels : List Bool) (ps : List ℕ) (met : List Bool) → AllOf P ps → AllLines P (each_parent below levels ps met).lines
each_sound P below h levels [] met all = tt
each_sound P below h levels (p ∷ ps) met all =
    all_lines-append P (below (levels ++ not (is_empty ps) ∷ []) p met).lines _
    (h (levels ++ not (is_empty ps) ∷ []) p met all.0)
    (each_sound P below h levels ps (below (levels ++ not (is_empty ps) ∷ []) p met).met all.1)

pub walk_sound : (P : ℕ → Type 0) (tree : List (List ℕ)) → ((a b : ℕ) → P a → is_among b (parents_at tree a) ≡ true → P b)
    → (deep : ℕ) (levels : List Bool) (place : ℕ) (met : List Bool) → P place → AllLines P (walk tree deep levels place met).lines
walk_sound P tree step zero levels place met h = (h, tt)
walk_sound P tree step (suc deep) levels place met h =
    elim (get_or met place false) as (λ b. AllLines P (cond b (one_line false levels place met) (and_on (one_line true levels place (set met place true)) (each_parent (walk tree deep) levels (parents_at tree place)))).lines) [
      | true ↦ (h, tt)
      | false ↦ (h, each_sound P (walk tree deep) (λ l q m k. walk_sound P tree step deep l q m k) levels (parents_at tree place) (set met place true) (all_of-from P (parents_at tree place) (λ q among. step place q h among)))
    ]

-- ---- completeness: what is met at the end is closed, has lines, and is opened once

pub record Walks (tree : List (List ℕ)) (before : List Bool) (place : ℕ) (w : Walked) : Type 0 where
  pub closes : Closes tree before w
  pub here : IsMet w.met place

pub joined : (tree : List (List ℕ)) (before : List Bool) (first : Walked) (rest : List Bool → Walked) → Closes tree before first → Closes tree first.met (rest first.met) → Closes tree before (and_on first rest)
joined tree before first rest h k = record {
  size = k.size ∙ h.size;
  kept = λ q met. k.kept q (h.kept q met);
  few = omega (arith, h.few, k.few);
  lined = λ q met. elim (k.lined q met) [
    | inl early ↦ elim (h.lined q early) [ inl e ↦ inl e | inr e ↦ inr (has_line-left q first.lines (rest first.met).lines e) ]
    | inr late ↦ inr (has_line-right q first.lines (rest first.met).lines late)
  ];
  closed = λ q met. elim (k.closed q met) [
    | inl early ↦ elim (h.closed q early) [ inl e ↦ inl e | inr e ↦ inr (all_of-more (IsMet first.met) (IsMet (rest first.met).met) k.kept (parents_at tree q) e) ]
    | inr late ↦ inr late
  ];
  once = λ q. omega (arith, openings-append q first.lines (rest first.met).lines, h.once q, k.once q);
}

nothing_more : (tree : List (List ℕ)) (met : List Bool) → Closes tree met (record { lines = []; met = met })
nothing_more tree met = record {
  size = refl;
  kept = λ q h. h;
  few = omega arith;
  lined = λ q h. inl h;
  closed = λ q h. inl h;
  once = λ q. omega arith;
}

met_alone : (tree : List (List ℕ)) (levels : List Bool) (place : ℕ) (met : List Bool) → Closes tree met (one_line false levels place met)
met_alone tree levels place met = record {
  size = refl;
  kept = λ q h. h;
  few = omega arith;
  lined = λ q h. inl h;
  closed = λ q h. inl h;
  once = λ q. omega arith;
}

pub each_closes : (tree : List (List ℕ)) (n k : ℕ) (below : List Bool → ℕ → List Bool → Walked)
    → ((levels : List Bool) (place : ℕ) (met : List Bool) → length met ≡ n → place < n → unmet met ≤ k → Walks tree met place (below levels place met))
    → (levels : List Bool) (ps : List ℕ) (met : List Bool) → AllOf (λ p. p < n) ps → length met ≡ n → unmet met ≤ k
    → Closes tree met (each_parent below levels ps met) × AllOf (IsMet (each_parent below levels ps met).met) ps
each_closes tree n k below h levels [] met low size few = (nothing_more tree met, tt)
each_closes tree n k below h levels (p ∷ ps) met low size few =
    let deeper = levels ++ not (is_empty ps) ∷ [] in
    let first = h deeper p met size low.0 few in
    let met_now = (below deeper p met).met in
    let rest = each_closes tree n k below h levels ps met_now low.1 (first.closes.size ∙ size) (omega (arith, first.closes.few, few)) in
    (joined tree met (below deeper p met) (each_parent below levels ps) first.closes rest.0, (rest.0.kept p first.here, rest.1))

pub was_met : (met : List Bool) (place q : ℕ) → place < length met → IsMet (set met place true) q → (place ≡ q) ⊎ IsMet met q
was_met met place q low h = elim (cases_eq place q) [
  | inl e ↦ inl e
  | inr other ↦ let ne : q ≢ place = λ e. other (sym e) in inr (sym (get_or-set_other met place q true false ne) ∙ h)
]

stays_met : (met : List Bool) (place q : ℕ) → place < length met → IsMet met q → IsMet (set met place true) q
stays_met met place q low h = elim (cases_eq place q) [
  | inl e ↦ subst (λ x. get_or (set met place true) x false ≡ true) e (get_or-set_same met place true false low)
  | inr other ↦ let ne : q ≢ place = λ e. other (sym e) in get_or-set_other met place q true false ne ∙ h
]

opened : (tree : List (List ℕ)) (levels : List Bool) (place : ℕ) (met : List Bool) (rest : List Bool → Walked)
    → place < length met → get_or met place false ≡ false → Closes tree (set met place true) (rest (set met place true)) → AllOf (IsMet (rest (set met place true)).met) (parents_at tree place)
    → Walks tree met place (and_on (one_line true levels place (set met place true)) rest)
opened tree levels place met rest low not_met h all =
    let now = set met place true in
    let w = rest now in
    record {
      closes = record {
        size = h.size ∙ length-set met place true;
        kept = λ q e. h.kept q (stays_met met place q low e);
        few = omega (arith, h.few, fewer met place low not_met);
        lined = λ q e. elim (h.lined q e) [
          | inl early ↦ elim (was_met met place q low early) [ inl same ↦ inr (or_left (place == q) (has_line q w.lines) (rw same (here_number q))) | inr before ↦ inl before ]
          | inr late ↦ inr (or_right (place == q) (has_line q w.lines) late)
        ];
        closed = λ q e. elim (h.closed q e) [
          | inl early ↦ elim (was_met met place q low early) [ inl same ↦ inr (subst (λ x. AllOf (IsMet w.met) (parents_at tree x)) same all) | inr before ↦ inl before ]
          | inr late ↦ inr late
        ];
        once = λ q. elim (cases_eq place q) [
          | inl same ↦ subst (λ x. cond (place == x) 1 0 + openings x w.lines + bit (get_or met x false) ≡ bit (get_or w.met x false)) same
              (rw (here_number place, not_met) (omega (arith, rw (get_or-set_same met place true false low) at (h.once place))))
          | inr other ↦ let ne : q ≢ place = λ e. other (sym e) in
              rw (other_number place q other) (omega (arith, rw (get_or-set_other met place q true false ne) at (h.once q)))
        ];
      };
      here = h.kept place (get_or-set_same met place true false low);
    }

pub walk_closes : (tree : List (List ℕ)) (n : ℕ) → ((q : ℕ) → AllOf (λ p. p < n) (parents_at tree q))
    → (deep : ℕ) (levels : List Bool) (place : ℕ) (met : List Bool) → length met ≡ n → place < n → unmet met ≤ deep → Walks tree met place (walk tree deep levels place met)
walk_closes tree n low zero levels place met size within few =
    elim (get_or met place false) as (λ b. get_or met place false ≡ b → Walks tree met place (one_line false levels place met)) [
      | true ↦ λ e. record { closes = met_alone tree levels place met; here = e }
      | false ↦ λ e. absurd (omega (arith, fewer met place (omega (arith, size, within)) e, few))
    ] refl
walk_closes tree n low (suc deep) levels place met size within few =
    elim (get_or met place false) as (λ b. get_or met place false ≡ b → Walks tree met place (cond b (one_line false levels place met) (and_on (one_line true levels place (set met place true)) (each_parent (walk tree deep) levels (parents_at tree place))))) [
      | true ↦ λ e. record { closes = met_alone tree levels place met; here = e }
      | false ↦ λ e.
          let there : place < length met = omega (arith, size, within) in
          let each = each_closes tree n deep (walk tree deep) (λ l q m a b c. walk_closes tree n low deep l q m a b c) levels (parents_at tree place) (set met place true) (low place)
          (length-set met place true ∙ size) (omega (arith, fewer met place there e, few)) in
          opened tree levels place met (each_parent (walk tree deep) levels (parents_at tree place)) there e each.0 each.1
    ] refl

-- ---- parents, and the packages that depend on a package

among_kept : (b : Bool) (a q : ℕ) (rest : List ℕ) → is_among q rest ≡ true → is_among q (cond b (a ∷ rest) rest) ≡ true
among_kept true a q rest h = or_right (a == q) (is_among q rest) h
among_kept false a q rest h = h

among_range : (test : ℕ → Bool) (a n q : ℕ) → a ≤ q → q < a + n → test q ≡ true → is_among q (filter test (range_with_len a n)) ≡ true
among_range test a zero q from to h = absurd (omega (arith, from, to))
among_range test a (suc n) q from to h = elim (cases_eq a q) [
  | inl same ↦
      let first : test a ≡ true = subst (λ x. test x ≡ true) (sym same) h in
      rw first (or_left (a == q) (is_among q (filter test (range_with_len (a + 1) n))) (rw same (here_number q)))
  | inr other ↦ among_kept (test a) a q (filter test (range_with_len (a + 1) n)) (among_range test (a + 1) n q (omega (arith, from, other)) (omega (arith, to)) h)
]

passes : (test : ℕ → Bool) (b : Bool) (a n q : ℕ) (rest : List ℕ) → test a ≡ b → (is_among q rest ≡ true → (test q ≡ true) × (q < a + 1 + n)) → is_among q (cond b (a ∷ rest) rest) ≡ true → (test q ≡ true) × (q < a + suc n)
passes test true a n q rest is later h = elim (either (a == q) (is_among q rest) h) [
  | inl e ↦ let same = same_number a q e in (subst (λ x. test x ≡ true) same is, omega (arith, same))
  | inr e ↦ ((later e).0, omega (arith, (later e).1))
]
passes test false a n q rest is later h = ((later h).0, omega (arith, (later h).1))

from_range : (test : ℕ → Bool) (a n q : ℕ) → is_among q (filter test (range_with_len a n)) ≡ true → (test q ≡ true) × (q < a + n)
from_range test a zero q h = cc
from_range test a (suc n) q h = passes test (test a) a n q (filter test (range_with_len (a + 1) n)) refl (from_range test (a + 1) n q) h

pub parent_depends : (packages : List Package) (a b : ℕ) → is_among b (parents_at (tree_of packages) a) ≡ true → (b < length packages) × (depends_on packages a b ≡ true)
parent_depends packages a b h = elim (cases_lt a (length packages)) [
  | inl low ↦
      let there = rw (tree_parents packages (tree_of packages) refl a low) at h in
      let both = from_range (depends_on packages a) 0 (length packages) b there in
      (omega (arith, both.1), both.0)
  | inr past ↦
      let none : parents_at (tree_of packages) a ≡ [] = get_or_past (tree_of packages) a [] (omega (arith, tree_length packages (tree_of packages) refl, past)) in
      let there : is_among b [] ≡ true = rw none at h in
      cc
]

depends_parent : (packages : List Package) (a b : ℕ) → a < length packages → b < length packages → depends_on packages a b ≡ true → is_among b (parents_at (tree_of packages) a) ≡ true
depends_parent packages a b low_a low_b h =
    rw (tree_parents packages (tree_of packages) refl a low_a) (among_range (depends_on packages a) 0 (length packages) b (omega arith) (omega arith) h)

pub reach_met : (packages : List Package) (met : List Bool) → ((q : ℕ) → IsMet met q → AllOf (IsMet met) (parents_at (tree_of packages) q))
    → (other place : ℕ) → Reaches packages other place → place < length packages → IsMet met place → (other < length packages) × IsMet met other
reach_met packages met closed _ _ (itself place) low h = (low, h)
reach_met packages met closed _ _ (over other next place within depends rest) low h =
    let there = reach_met packages met closed next place rest low h in
    (within, all_of-at (IsMet met) (parents_at (tree_of packages) next) (closed next there.1) other (depends_parent packages next other there.0 within depends))

-- ---- the tree of a package

pub none_met : (n q : ℕ) → get_or (replicate n false) q false ≡ false
none_met n q = elim (cases_lt q n) [ inl low ↦ get_or-replicate n q false false low | inr past ↦ get_or_past (replicate n false) q false (omega (arith, length-replicate n false, past)) ]

pub first_line : (tree : List (List ℕ)) (n place : ℕ) (met : List Bool) → place < n → get_or met place false ≡ false → (more : List Line) × ((walk tree n [] place met).lines ≡ record { levels = []; place = place; opened = true } ∷ more)
first_line tree zero place met low not_met = absurd (omega (arith, low))
first_line tree (suc deep) place met low not_met = rw not_met ((each_parent (walk tree deep) [] (parents_at tree place) (set met place true)).lines, refl)

pub same_test : (a b : Bool) → (a ≡ true → b ≡ true) → (b ≡ true → a ≡ true) → a ≡ b
same_test true b h k = sym (h refl)
same_test false true h k = k refl
same_test false false h k = refl

pub not_both : {A : Type 0} (b : Bool) → b ≡ false → b ≡ true → A
not_both b h k = cc
