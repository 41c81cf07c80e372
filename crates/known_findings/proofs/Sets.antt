-- Findings that are put one after another are the set of them, in order; and there is one such
-- list.
use Rattle.std.proofs.Common.{◌≡◌, ℕ, List, [], ◌∷◌, map, Bool, true, false, true≢false, Ordering, Less, Equal, Greater, nat_cmp, refl, sym, ap, ◌∙◌, subst}
use Rattle.std.specs.Prelude.{◌||◌}
use Rattle.std.specs.Cmp.Lexicographic.{slice_cmp}
use Rattle.std.specs.List.{AllByRecursion}
use Rattle.std.specs.List.Sorted.{IsStrictlySortedBy}
use Rattle.std.specs.Ordering.{match_ordering, ordering_reverse}
use Rattle.std.proofs.lemmas.Cmp.{nat_list_cmp_total}
use Rattle.std.proofs.lemmas.Map.Lookups.{exact_bytes}
use Rattle.known_findings.specs.Baselines.{listed, put, put_all}
use Rattle.known_findings.specs.Findings.{is_among, is_same, line}
use Rattle.known_findings.specs.Laws.{AreInOrder, HaveSame, IsSetOf}
use Rattle.known_findings.specs.declared.findings.Finding.{Finding}
use Rattle.known_findings.proofs.Same.{is_itself, same_finding, same_line}

abbrev Line : Type 0
Line = List ℕ

abbrev order : Line → Line → Ordering
order = slice_cmp nat_cmp

abbrev AllAbove : Line → List Line → Type 0
AllAbove x ls = AllByRecursion (λ y. order x y ≡ Less) ls

-- ---- in order

above_more : (x y : Line) (ls : List Line) → order x y ≡ Less → AllAbove y ls → AllAbove x ls
above_more x y [] h all = tt
above_more x y (l ∷ ls) h all = (nat_list_cmp_total.trans x y l h all.0, above_more x y ls h all.1)

flipped : (x y : Line) → order x y ≡ Greater → order y x ≡ Less
flipped x y h = nat_list_cmp_total.antisymm y x ∙ ap ordering_reverse h

above_step : (x : Line) (f g : Finding) (gs : List Finding) (o : Ordering) → AllAbove x (line g ∷ map line gs) → order x (line f) ≡ Less
    → AllAbove x (map line (put gs f)) → AllAbove x (map line (match_ordering o (f ∷ g ∷ gs) (f ∷ gs) (g ∷ put gs f)))
above_step x f g gs Less h k more = (k, h)
above_step x f g gs Equal h k more = (k, h.1)
above_step x f g gs Greater h k more = (h.0, more)

above_put : (x : Line) (gs : List Finding) (f : Finding) → AllAbove x (map line gs) → order x (line f) ≡ Less → AllAbove x (map line (put gs f))
above_put x [] f h k = (k, tt)
above_put x (g ∷ gs) f h k = above_step x f g gs (order (line f) (line g)) h k (above_put x gs f h.1 k)

order_step : (f g : Finding) (gs : List Finding) (o : Ordering) → order (line f) (line g) ≡ o → AreInOrder (g ∷ gs)
    → AreInOrder (put gs f) → AreInOrder (match_ordering o (f ∷ g ∷ gs) (f ∷ gs) (g ∷ put gs f))
unfolding IsStrictlySortedBy
order_step f g gs Less e h more = ((e, above_more (line f) (line g) (map line gs) e h.0), h)
order_step f g gs Equal e h more = (subst (λ (l : Line). AllAbove l (map line gs)) (sym (exact_bytes (line f) (line g) e)) h.0, h.1)
order_step f g gs Greater e h more = (above_put (line g) gs f h.0 (flipped (line f) (line g) e), more)

order_put : (gs : List Finding) (f : Finding) → AreInOrder gs → AreInOrder (put gs f)
unfolding IsStrictlySortedBy
order_put [] f h = (tt, tt)
order_put (g ∷ gs) f h = order_step f g gs (order (line f) (line g)) refl h (order_put gs f h.1)

order_all : (done fs : List Finding) → AreInOrder done → AreInOrder (put_all done fs)
order_all done [] h = h
order_all done (f ∷ fs) h = order_all (put done f) fs (order_put done f h)

-- ---- the same findings

swap : (a b c : Bool) → (b || (a || c)) ≡ (a || (b || c))
swap true true c = refl
swap true false c = refl
swap false b c = refl

again : (a b : Bool) → (a || b) ≡ (a || (a || b))
again true b = refl
again false b = refl

join : (a b c : Bool) → (b || (a || c)) ≡ ((a || b) || c)
join true true c = refl
join true false c = refl
join false b c = refl

or-none : (a : Bool) → (a || false) ≡ a
or-none true = refl
or-none false = refl

among_step : (x f g : Finding) (gs : List Finding) (o : Ordering) → order (line f) (line g) ≡ o
    → is_among x (put gs f) ≡ (is_same x f || is_among x gs)
    → is_among x (match_ordering o (f ∷ g ∷ gs) (f ∷ gs) (g ∷ put gs f)) ≡ (is_same x f || (is_same x g || is_among x gs))
among_step x f g gs Less e more = refl
among_step x f g gs Equal e more =
    again (is_same x f) (is_among x gs)
    ∙ ap (λ (h : Finding). is_same x f || (is_same x h || is_among x gs)) (same_line f g (exact_bytes (line f) (line g) e))
among_step x f g gs Greater e more = ap (λ b. is_same x g || b) more ∙ swap (is_same x f) (is_same x g) (is_among x gs)

among_put : (x : Finding) (gs : List Finding) (f : Finding) → is_among x (put gs f) ≡ (is_same x f || is_among x gs)
among_put x [] f = refl
among_put x (g ∷ gs) f = among_step x f g gs (order (line f) (line g)) refl (among_put x gs f)

among_all : (x : Finding) (done fs : List Finding) → is_among x (put_all done fs) ≡ (is_among x fs || is_among x done)
among_all x done [] = refl
among_all x done (f ∷ fs) =
    among_all x (put done f) fs ∙ ap (λ b. is_among x fs || b) (among_put x done f)
    ∙ join (is_same x f) (is_among x fs) (is_among x done)

pub is_set : (fs : List Finding) → IsSetOf fs (listed fs)
unfolding IsStrictlySortedBy
is_set fs = record {
  ordered = order_all [] fs tt;
  same = λ f. among_all f [] fs ∙ or-none (is_among f fs);
}

-- ---- one list

not_below_itself : (x : Line) (o : Ordering) → order x x ≡ o → o ≡ ordering_reverse o → o ≡ Less → ⊥
not_below_itself x Less e h k = cc
not_below_itself x Equal e h k = cc
not_below_itself x Greater e h k = cc

apart : (a g : Finding) (b : Bool) → is_same a g ≡ b → order (line a) (line g) ≡ Less → b ≡ false
apart a g true e h =
    absurd (not_below_itself (line a) (order (line a) (line a)) refl (nat_list_cmp_total.antisymm (line a) (line a))
    (ap (λ (f : Finding). order (line a) (line f)) (same_finding a g e) ∙ h))
apart a g false e h = refl

absent : (a : Finding) (gs : List Finding) → AllAbove (line a) (map line gs) → is_among a gs ≡ false
absent a [] h = refl
absent a (g ∷ gs) h = rw (apart a g (is_same a g) refl h.0) (absent a gs h.1)

present : (a : Finding) (gs : List Finding) → is_among a (a ∷ gs) ≡ true
present a gs = rw (is_itself a) refl

rest_same : (f a : Finding) (xs ys : List Finding) (b : Bool) → is_same f a ≡ b → AllAbove (line a) (map line xs) → AllAbove (line a) (map line ys)
    → (b || is_among f xs) ≡ (b || is_among f ys) → is_among f xs ≡ is_among f ys
rest_same f a xs ys true e h k same =
    let is : f ≡ a = same_finding f a e in
    ap (λ (x : Finding). is_among x xs) is ∙ absent a xs h ∙ sym (absent a ys k) ∙ ap (λ (x : Finding). is_among x ys) (sym is)
rest_same f a xs ys false e h k same = same

heads : (a b : Finding) (xs ys : List Finding) (o : Ordering) → order (line a) (line b) ≡ o
    → AllAbove (line a) (map line xs) → AllAbove (line b) (map line ys) → HaveSame (a ∷ xs) (b ∷ ys) → a ≡ b
heads a b xs ys Less e h k same =
    absurd (true≢false (sym (present a xs) ∙ same a ∙ absent a (b ∷ ys) (e, above_more (line a) (line b) (map line ys) e k)))
heads a b xs ys Equal e h k same = same_line a b (exact_bytes (line a) (line b) e)
heads a b xs ys Greater e h k same =
    let below : order (line b) (line a) ≡ Less = flipped (line a) (line b) e in
    absurd (true≢false (sym (present b ys) ∙ sym (same b) ∙ absent b (a ∷ xs) (below, above_more (line b) (line a) (map line xs) below h)))

pub one_list : (xs ys : List Finding) → AreInOrder xs → AreInOrder ys → HaveSame xs ys → xs ≡ ys
unfolding IsStrictlySortedBy
one_list [] [] h k same = refl
one_list [] (y ∷ ys) h k same = absurd (true≢false (sym (present y ys) ∙ sym (same y)))
one_list (x ∷ xs) [] h k same = absurd (true≢false (sym (present x xs) ∙ same x))
one_list (x ∷ xs) (y ∷ ys) h k same =
    let is : x ≡ y = heads x y xs ys (order (line x) (line y)) refl h.0 k.0 same in
    let above : AllAbove (line x) (map line ys) = subst (λ (f : Finding). AllAbove (line f) (map line ys)) (sym is) k.0 in
    let rest : HaveSame xs ys = λ f. rest_same f x xs ys (is_same f x) refl h.0 above
    (same f ∙ ap (λ (g : Finding). is_same f g || is_among f ys) (sym is)) in
    ap (λ (f : Finding). f ∷ xs) is ∙ ap (λ (fs : List Finding). y ∷ fs) (one_list xs ys h.1 k.1 rest)

pub one_set : (fs gs : List Finding) → IsSetOf fs gs → gs ≡ listed fs
one_set fs gs h =
    let set = is_set fs in
    one_list gs (listed fs) h.ordered set.ordered (λ f. h.same f ∙ sym (set.same f))
