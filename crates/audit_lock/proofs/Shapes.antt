-- The shape of a tree: what is below its lines, and which of them are opened.
use Rattle.std.proofs.Common.{◌≡◌, ◌↔◌, ℕ, zero, suc, ◌<◌, ◌≤◌, ◌≢◌, List, [], ◌∷◌, ◌++◌, length, map, get_or, set, replicate, Bool, true, false, not, cond, refl, sym, ap, ◌∙◌, subst, inl, inr, arith, nat_lt, append_assoc, append-nil, length-append}
use Rattle.std.specs.Prelude.{◌==◌, ◌||◌}
use Rattle.std.specs.List.{filter}
use Rattle.std.proofs.lemmas.Bool.{cases_eq}
use Rattle.std.proofs.lemmas.Bool.Decides.{nat_tests}
use Rattle.std.proofs.lemmas.List.{length-set, get_or-set_same, get_or-set_other, length-replicate}
use Rattle.std.proofs.lemmas.List.Sums.{count_by-le-length}
use Rattle.audit_lock.specs.declared.resolving.Package.{Package}
use Rattle.audit_lock.specs.Parents.{parents_at, parents_of, tree_of}
use Rattle.audit_lock.specs.Rendering.{Line, Walked, and_on, each_parent, is_empty, lines_of, one_line, unmet, walk}
use Rattle.audit_lock.specs.Shape.{AllFurther, GoesOnWithin, HasParents, IsTree, OpensFirst, Reaches, below, children, has_line, itself, next_level, over}
use Rattle.audit_lock.proofs.Walks.{fewer, tree_parents}
use Rattle.audit_lock.proofs.Reaching.{AllLines, AllOf, IsMet, Walks, all_lines-at, all_of-at, all_of-from, first_line, here_number, none_met, not_both, other_number, parent_depends, reach_met, same_test, walk_closes, walk_sound}

-- ---- what is below a line

stops-more : (depth : ℕ) (lines : List Line) → GoesOnWithin depth lines → GoesOnWithin (suc depth) lines
stops-more depth [] h = tt
stops-more depth (line ∷ lines) h = omega (arith, h)

deeper-less : (depth : ℕ) (lines : List Line) → AllFurther (suc depth) lines → AllFurther depth lines
deeper-less depth [] h = tt
deeper-less depth (line ∷ lines) h = (omega (arith, h.0), deeper-less depth lines h.1)

deeper-append : (depth : ℕ) (xs ys : List Line) → AllFurther depth xs → AllFurther depth ys → AllFurther depth (xs ++ ys)
deeper-append depth [] ys h k = k
deeper-append depth (x ∷ xs) ys h k = (h.0, deeper-append depth xs ys h.1 k)

test_low : (a b : ℕ) → b ≤ a → nat_lt a b ≡ false
test_low a b h = grind (arith, nat_tests)

test_high : (a b : ℕ) → a < b → nat_lt a b ≡ true
test_high a b h = grind (arith, nat_tests)

unequal : (a b : ℕ) → suc b < a → (a == suc b) ≡ false
unequal a b h = grind (arith, nat_tests)

below_stops : (depth : ℕ) (lines : List Line) → GoesOnWithin depth lines → below depth lines ≡ []
below_stops depth [] h = refl
below_stops depth (line ∷ lines) h = rw (test_low depth (length line.levels) h) refl

below-append : (depth : ℕ) (xs ys : List Line) → AllFurther depth xs → below depth (xs ++ ys) ≡ xs ++ below depth ys
below-append depth [] ys h = refl
below-append depth (x ∷ xs) ys h = rw (test_high depth (length x.levels) h.0) (ap (λ zs. x ∷ zs) (below-append depth xs ys h.1))

abbrev at_level : ℕ → List Line → List Line
at_level depth lines = filter (λ line. length line.levels == suc depth) lines

passed : (depth : ℕ) (xs ys : List Line) → AllFurther (suc depth) xs → at_level depth (xs ++ ys) ≡ at_level depth ys
passed depth [] ys h = refl
passed depth (x ∷ xs) ys h = rw (unequal (length x.levels) depth h.0) (passed depth xs ys h.1)

abbrev shape : Line → List Bool × ℕ
shape line = (line.levels, line.place)

-- the lines of one walk, and of the walks of parents
record WalkShape (parents : ℕ → List ℕ) (levels : List Bool) (place : ℕ) (lines : List Line) : Type 0 where
  mark : Bool
  rest : List Line
  is : lines ≡ record { levels = levels; place = place; opened = mark } ∷ rest
  deeper : AllFurther (length levels) rest
  shown : (more : List Line) → GoesOnWithin (length levels) more → HasParents parents more → HasParents parents (lines ++ more)

record EachShape (parents : ℕ → List ℕ) (levels : List Bool) (ps : List ℕ) (lines : List Line) : Type 0 where
  deeper : AllFurther (length levels) lines
  next : (more : List Line) → GoesOnWithin (length levels) more → next_level (length levels) (lines ++ more) ≡ children levels ps
  heads : (more : List Line) → GoesOnWithin (length levels) more → GoesOnWithin (suc (length levels)) (lines ++ more)
  shown : (more : List Line) → GoesOnWithin (length levels) more → HasParents parents more → HasParents parents (lines ++ more)

next_first : (depth : ℕ) (line : Line) (rest more : List Line) → length line.levels ≡ suc depth → AllFurther (suc depth) rest
    → next_level depth ((line ∷ rest) ++ more) ≡ shape line ∷ next_level depth more
next_first depth line rest more one deep =
    let all : AllFurther depth (line ∷ rest) = (omega (arith, one), deeper-less depth rest deep) in
    let here : (length line.levels == suc depth) ≡ true = rw one (here_number (suc depth)) in
    let lines : below depth ((line ∷ rest) ++ more) ≡ (line ∷ rest) ++ below depth more = below-append depth (line ∷ rest) more all in
    let kept : at_level depth ((line ∷ rest) ++ below depth more) ≡ line ∷ at_level depth (below depth more) = rw here (ap (λ zs. line ∷ zs) (passed depth rest (below depth more) deep)) in
    ap (λ zs. map shape (at_level depth zs)) lines ∙ ap (map shape) kept

one_deeper : (levels : List Bool) (b : Bool) → length (levels ++ b ∷ []) ≡ suc (length levels)
one_deeper levels b = omega (arith, length-append levels (b ∷ []))

each_shape : (parents : ℕ → List ℕ) (walk_below : List Bool → ℕ → List Bool → Walked)
    → ((levels : List Bool) (place : ℕ) (met : List Bool) → WalkShape parents levels place (walk_below levels place met).lines)
    → (levels : List Bool) (ps : List ℕ) (met : List Bool) → EachShape parents levels ps (each_parent walk_below levels ps met).lines
each_shape parents walk_below h levels [] met = record {
  deeper = tt;
  next = λ more s. ap (λ zs. map shape (at_level (length levels) zs)) (below_stops (length levels) more s);
  heads = λ more s. stops-more (length levels) more s;
  shown = λ more s k. k;
}
each_shape parents walk_below h levels (p ∷ ps) met =
    let deep = levels ++ not (is_empty ps) ∷ [] in
    let one = one_deeper levels (not (is_empty ps)) in
    let first = h deep p met in
    let xs = (walk_below deep p met).lines in
    let ys = (each_parent walk_below levels ps (walk_below deep p met).met).lines in
    let rest = each_shape parents walk_below h levels ps (walk_below deep p met).met in
    let far : AllFurther (suc (length levels)) first.rest = subst (λ d. AllFurther d first.rest) one first.deeper in
    record {
      deeper = rw first.is (omega (arith, one), deeper-append (length levels) first.rest ys (deeper-less (length levels) first.rest far) rest.deeper);
      next = λ more s.
          ap (next_level (length levels)) (append_assoc xs ys more) ∙ ap (λ zs. next_level (length levels) (zs ++ (ys ++ more))) first.is
          ∙ next_first (length levels) (record { levels = deep; place = p; opened = first.mark }) first.rest (ys ++ more) one far
          ∙ ap (λ zs. (deep, p) ∷ zs) (rest.next more s);
      heads = λ more s. rw first.is (omega (arith, one));
      shown = λ more s k.
          let stops : GoesOnWithin (length deep) (ys ++ more) = subst (λ d. GoesOnWithin d (ys ++ more)) (sym one) (rest.heads more s) in
          subst (HasParents parents) (sym (append_assoc xs ys more)) (first.shown (ys ++ more) stops (rest.shown more s k));
    }

alone_shape : (parents : ℕ → List ℕ) (levels : List Bool) (place : ℕ) (met : List Bool) → WalkShape parents levels place (one_line false levels place met).lines
alone_shape parents levels place met = record {
  mark = false;
  rest = [];
  is = refl;
  deeper = tt;
  shown = λ more s k. (ap (λ zs. map shape (at_level (length levels) zs)) (below_stops (length levels) more s), stops-more (length levels) more s, k);
}

walk_shape : (tree : List (List ℕ)) (deep : ℕ) (levels : List Bool) (place : ℕ) (met : List Bool) → WalkShape (parents_at tree) levels place (walk tree deep levels place met).lines
walk_shape tree zero levels place met = alone_shape (parents_at tree) levels place met
walk_shape tree (suc deep) levels place met =
    elim (get_or met place false) as (λ b. WalkShape (parents_at tree) levels place (cond b (one_line false levels place met) (and_on (one_line true levels place (set met place true)) (each_parent (walk tree deep) levels (parents_at tree place)))).lines) [
      | true ↦ alone_shape (parents_at tree) levels place met
      | false ↦
          let each = each_shape (parents_at tree) (walk tree deep) (λ l q m. walk_shape tree deep l q m) levels (parents_at tree place) (set met place true) in
          record {
            mark = true;
            rest = (each_parent (walk tree deep) levels (parents_at tree place) (set met place true)).lines;
            is = refl;
            deeper = each.deeper;
            shown = λ more s k. (each.next more s, each.heads more s, each.shown more s k);
          }
    ]

has_parents-same : (f g : ℕ → List ℕ) (lines : List Line) → AllLines (λ q. f q ≡ g q) lines → HasParents f lines → HasParents g lines
has_parents-same f g [] same h = tt
has_parents-same f g (line ∷ lines) same h = (h.0 ∙ ap (λ ps. cond line.opened (children line.levels ps) []) same.0, h.1, has_parents-same f g lines same.1 h.2)

all_lines-more : (P Q : ℕ → Type 0) → ((q : ℕ) → P q → Q q) → (lines : List Line) → AllLines P lines → AllLines Q lines
all_lines-more P Q h [] all = tt
all_lines-more P Q h (line ∷ lines) all = (h line.place all.0, all_lines-more P Q h lines all.1)

-- ---- which lines are opened

-- a package is met if and only if it has a line
abbrev Seen : List Bool → List Line → Type 0
Seen met lines = (q : ℕ) → get_or met q false ≡ has_line q lines

record Opens (earlier : List Line) (w : Walked) : Type 0 where
  opens : OpensFirst earlier w.lines
  seen : Seen w.met (earlier ++ w.lines)

opens-append : (earlier xs ys : List Line) → OpensFirst earlier xs → OpensFirst (earlier ++ xs) ys → OpensFirst earlier (xs ++ ys)
opens-append earlier [] ys h k = subst (λ zs. OpensFirst zs ys) (append-nil earlier) k
opens-append earlier (x ∷ xs) ys h k = (h.0, opens-append (earlier ++ x ∷ []) xs ys h.1 (subst (λ zs. OpensFirst zs ys) (sym (append_assoc earlier (x ∷ []) xs)) k))

or_none : (b : Bool) → b || false ≡ b
or_none true = refl
or_none false = refl

or_same : (a b : Bool) → a ≡ true → b || (a || false) ≡ true
or_same a true h = refl
or_same a false h = rw h refl

has_line-added : (q : ℕ) (xs : List Line) (x : Line) → has_line q (xs ++ x ∷ []) ≡ has_line q xs || ((x.place == q) || false)
has_line-added q [] x = refl
has_line-added q (y ∷ ys) x = ap (λ b. (y.place == q) || b) (has_line-added q ys x) ∙ or_assoc (y.place == q) (has_line q ys) ((x.place == q) || false)
  where
    or_assoc : (a b c : Bool) → a || (b || c) ≡ (a || b) || c
    or_assoc true b c = refl
    or_assoc false b c = refl

other_line : (q : ℕ) (xs : List Line) (x : Line) → (x.place == q) ≡ false → has_line q (xs ++ x ∷ []) ≡ has_line q xs
other_line q xs x h = has_line-added q xs x ∙ rw h (or_none (has_line q xs))

this_line : (q : ℕ) (xs : List Line) (x : Line) → (x.place == q) ≡ true → has_line q (xs ++ x ∷ []) ≡ true
this_line q xs x h = has_line-added q xs x ∙ or_same (x.place == q) (has_line q xs) h

alone_opens : (levels : List Bool) (place : ℕ) (met : List Bool) (earlier : List Line) → get_or met place false ≡ true → Seen met earlier → Opens earlier (one_line false levels place met)
alone_opens levels place met earlier is_met seen =
    let line : Line = record { levels = levels; place = place; opened = false } in
    record {
      opens = (sym (ap not (sym (seen place) ∙ is_met)), tt);
      seen = λ q. elim (cases_eq place q) [
        | inl same ↦ subst (λ x. get_or met x false ≡ has_line x (earlier ++ line ∷ [])) same (is_met ∙ sym (this_line place earlier line (here_number place)))
        | inr other ↦ seen q ∙ sym (other_line q earlier line (other_number place q other))
      ];
    }

seen_now : (levels : List Bool) (place : ℕ) (met : List Bool) (earlier : List Line) → place < length met → Seen met earlier
    → Seen (set met place true) (earlier ++ record { levels = levels; place = place; opened = true } ∷ [])
seen_now levels place met earlier low seen q =
    let line : Line = record { levels = levels; place = place; opened = true } in
    elim (cases_eq place q) [
      | inl same ↦ subst (λ x. get_or (set met place true) x false ≡ has_line x (earlier ++ line ∷ [])) same (get_or-set_same met place true false low ∙ sym (this_line place earlier line (here_number place)))
      | inr other ↦ let ne : q ≢ place = λ e. other (sym e) in get_or-set_other met place q true false ne ∙ seen q ∙ sym (other_line q earlier line (other_number place q other))
    ]

each_opens : (tree : List (List ℕ)) (n k : ℕ) (walk_below : List Bool → ℕ → List Bool → Walked)
    → ((levels : List Bool) (place : ℕ) (met : List Bool) → length met ≡ n → place < n → unmet met ≤ k → Walks tree met place (walk_below levels place met))
    → ((levels : List Bool) (place : ℕ) (met : List Bool) (earlier : List Line) → length met ≡ n → place < n → unmet met ≤ k → Seen met earlier → Opens earlier (walk_below levels place met))
    → (levels : List Bool) (ps : List ℕ) (met : List Bool) (earlier : List Line) → AllOf (λ p. p < n) ps → length met ≡ n → unmet met ≤ k → Seen met earlier
    → Opens earlier (each_parent walk_below levels ps met)
each_opens tree n k walk_below c h levels [] met earlier low size few seen = record { opens = tt; seen = λ q. seen q ∙ ap (has_line q) (sym (append-nil earlier)) }
each_opens tree n k walk_below c h levels (p ∷ ps) met earlier low size few seen =
    let deep = levels ++ not (is_empty ps) ∷ [] in
    let w = walk_below deep p met in
    let closes = (c deep p met size low.0 few).closes in
    let first = h deep p met earlier size low.0 few seen in
    let rest = each_opens tree n k walk_below c h levels ps w.met (earlier ++ w.lines) low.1 (closes.size ∙ size) (omega (arith, closes.few, few)) first.seen in
    record {
      opens = opens-append earlier w.lines _ first.opens rest.opens;
      seen = λ q. rest.seen q ∙ ap (has_line q) (append_assoc earlier w.lines (each_parent walk_below levels ps w.met).lines);
    }

walk_opens : (tree : List (List ℕ)) (n : ℕ) → ((q : ℕ) → AllOf (λ p. p < n) (parents_at tree q))
    → (deep : ℕ) (levels : List Bool) (place : ℕ) (met : List Bool) (earlier : List Line) → length met ≡ n → place < n → unmet met ≤ deep → Seen met earlier
    → Opens earlier (walk tree deep levels place met)
walk_opens tree n low zero levels place met earlier size within few seen =
    elim (get_or met place false) as (λ b. get_or met place false ≡ b → Opens earlier (one_line false levels place met)) [
      | true ↦ λ e. alone_opens levels place met earlier e seen
      | false ↦ λ e. absurd (omega (arith, fewer met place (omega (arith, size, within)) e, few))
    ] refl
walk_opens tree n low (suc deep) levels place met earlier size within few seen =
    elim (get_or met place false) as (λ b. get_or met place false ≡ b → Opens earlier (cond b (one_line false levels place met) (and_on (one_line true levels place (set met place true)) (each_parent (walk tree deep) levels (parents_at tree place))))) [
      | true ↦ λ e. alone_opens levels place met earlier e seen
      | false ↦ λ e.
          let there : place < length met = omega (arith, size, within) in
          let line : Line = record { levels = levels; place = place; opened = true } in
          let each = each_opens tree n deep (walk tree deep) (λ l q m a b c. walk_closes tree n low deep l q m a b c) (λ l q m s a b c d. walk_opens tree n low deep l q m s a b c d)
          levels (parents_at tree place) (set met place true) (earlier ++ line ∷ []) (low place) (length-set met place true ∙ size) (omega (arith, fewer met place there e, few))
          (seen_now levels place met earlier there seen) in
          record {
            opens = (sym (ap not (sym (seen place) ∙ e)), each.opens);
            seen = λ q. each.seen q ∙ ap (has_line q) (append_assoc earlier (line ∷ []) (each_parent (walk tree deep) levels (parents_at tree place) (set met place true)).lines);
          }
    ] refl

same_rest : (x y : Line) (xs ys : List Line) → x ∷ xs ≡ y ∷ ys → xs ≡ ys
same_rest x y xs ys h = cc

-- ---- the tree of a package

pub is_tree : (packages : List Package) (place : ℕ) → place < length packages → IsTree packages place (lines_of packages place)
is_tree packages place low =
    let n = length packages in
    let tree = tree_of packages in
    let none = replicate n false in
    let w = walk tree n [] place none in
    let size : length none ≡ n = length-replicate n false in
    let low_parents : (q : ℕ) → AllOf (λ p. p < n) (parents_at tree q) = λ q. all_of-from (λ p. p < n) (parents_at tree q) (λ p among. (parent_depends packages q p among).0) in
    let walks = walk_closes tree n low_parents n [] place none size low (omega (arith, count_by-le-length not none, size)) in
    let closed : (q : ℕ) → IsMet w.met q → AllOf (IsMet w.met) (parents_at tree q) = λ q met. elim (walks.closes.closed q met) [ inl early ↦ not_both (get_or none q false) (none_met n q) early | inr e ↦ e ] in
    let lined : (q : ℕ) → IsMet w.met q → has_line q w.lines ≡ true = λ q met. elim (walks.closes.lined q met) [ inl early ↦ not_both (get_or none q false) (none_met n q) early | inr e ↦ e ] in
    let met_lines : AllLines (IsMet w.met) w.lines = walk_sound (IsMet w.met) tree (λ a b met among. all_of-at (IsMet w.met) (parents_at tree a) (closed a met) b among) n [] place none walks.here in
    let sound : AllLines (λ q. Reaches packages q place) w.lines =
    walk_sound (λ q. Reaches packages q place) tree (λ a b reaches among. let is = parent_depends packages a b among in over b a place is.0 is.1 reaches) n [] place none (itself place) in
    record {
      first =
          let line = first_line tree n place none low (none_met n place) in
          let shape = walk_shape tree n [] place none in
          (line.0, line.1, subst (AllFurther 0) (same_rest _ _ _ _ (sym shape.is ∙ line.1)) shape.deeper);
      parents =
          let end : HasParents (parents_at tree) (w.lines ++ []) = (walk_shape tree n [] place none).shown [] tt tt in
          let places : AllLines (λ q. q < n) w.lines = walk_sound (λ q. q < n) tree (λ a b h among. (parent_depends packages a b among).0) n [] place none low in
          has_parents-same (parents_at tree) (parents_of packages) w.lines
          (all_lines-more (λ q. q < n) (λ q. parents_at tree q ≡ parents_of packages q) (λ q h. tree_parents packages tree refl q h) w.lines places)
          (subst (HasParents (parents_at tree)) (append-nil w.lines) end);
      opened = (walk_opens tree n low_parents n [] place none [] size low (omega (arith, count_by-le-length not none, size)) (λ q. none_met n q)).opens;
      reached = λ other. (
        λ line. all_lines-at (λ q. Reaches packages q place) w.lines sound other line,
        λ reaches. lined other (reach_met packages w.met closed other place reaches low walks.here).1,
      );
      once = λ other.
          let same : get_or w.met other false ≡ has_line other w.lines = same_test _ _ (lined other) (all_lines-at (IsMet w.met) w.lines met_lines other) in
          let count = walks.closes.once other in
          omega (arith, rw (none_met n other, same) at count);
    }

-- ---- the shape determines the lines

-- each line is the next expected one; after an opened line, what is below it is expected next
abbrev Takes : (ℕ → List ℕ) → List (List Bool × ℕ) → List Line → Type 0
Takes parents todo [] = todo ≡ []
Takes parents todo (line ∷ lines) =
    (rest : List (List Bool × ℕ)) × (todo ≡ shape line ∷ rest)
    × Takes parents ((cond line.opened (children line.levels (parents line.place)) []) ++ rest) lines

-- what is still expected after a line of this depth
abbrev pending : ℕ → List Line → List (List Bool × ℕ)
pending zero lines = next_level 0 lines
pending (suc depth) lines = next_level (suc depth) lines ++ pending depth lines

next_here : (depth : ℕ) (line : Line) (lines : List Line) → length line.levels ≡ suc depth → next_level depth (line ∷ lines) ≡ shape line ∷ next_level depth lines
next_here depth line lines one = next_first depth line [] lines one tt

next_none : (depth : ℕ) (line : Line) (lines : List Line) → length line.levels ≤ depth → next_level depth (line ∷ lines) ≡ []
next_none depth line lines low = rw (test_low depth (length line.levels) low) refl

next_past : (depth : ℕ) (line : Line) (lines : List Line) → suc depth < length line.levels → next_level depth (line ∷ lines) ≡ next_level depth lines
next_past depth line lines far =
    let within : depth < length line.levels = omega (arith, far) in
    rw (test_high depth (length line.levels) within, unequal (length line.levels) depth far) refl

pending_past : (depth : ℕ) (line : Line) (lines : List Line) → suc depth < length line.levels → pending depth (line ∷ lines) ≡ pending depth lines
pending_past zero line lines far = next_past 0 line lines far
pending_past (suc depth) line lines far =
    ap (λ xs. xs ++ pending depth (line ∷ lines)) (next_past (suc depth) line lines far)
    ∙ ap (λ xs. next_level (suc depth) lines ++ xs) (pending_past depth line lines (omega (arith, far)))

pending_first : (depth e : ℕ) (line : Line) (lines : List Line) → length line.levels ≡ suc e → e ≤ depth → pending depth (line ∷ lines) ≡ shape line ∷ pending e lines
pending_first zero zero line lines one low = next_here 0 line lines one
pending_first zero (suc e) line lines one low = absurd (omega (arith, low))
pending_first (suc depth) e line lines one low = elim (cases_eq e (suc depth)) [
  | inl same ↦
      let this : length line.levels ≡ suc (suc depth) = one ∙ ap suc same in
      ap (λ xs. xs ++ pending depth (line ∷ lines)) (next_here (suc depth) line lines this)
      ∙ ap (λ xs. (shape line ∷ next_level (suc depth) lines) ++ xs) (pending_past depth line lines (omega (arith, this)))
      ∙ ap (λ d. shape line ∷ pending d lines) (sym same)
  | inr other ↦
      ap (λ xs. xs ++ pending depth (line ∷ lines)) (next_none (suc depth) line lines (omega (arith, one, low, other)))
      ∙ pending_first depth e line lines one (omega (arith, low, other))
]

depth_of : (n : ℕ) → 0 < n → (e : ℕ) × (n ≡ suc e)
depth_of zero h = absurd (omega (arith, h))
depth_of (suc n) h = (n, refl)

pending_takes : (parents : ℕ → List ℕ) (lines : List Line) (depth : ℕ) → GoesOnWithin (suc depth) lines → AllFurther 0 lines → HasParents parents lines → Takes parents (pending depth lines) lines
pending_takes parents [] zero within far h = refl
pending_takes parents [] (suc depth) within far h = pending_takes parents [] depth tt tt tt
pending_takes parents (line ∷ lines) depth within far h =
    let d = depth_of (length line.levels) far.0 in
    let rest = pending_takes parents lines (suc d.0) (subst (λ k. GoesOnWithin (suc k) lines) d.1 h.1) far.1 h.2 in
    let stands : next_level (suc d.0) lines ≡ cond line.opened (children line.levels (parents line.place)) [] = subst (λ k. next_level k lines ≡ cond line.opened (children line.levels (parents line.place)) []) d.1 h.0 in (
      pending d.0 lines,
      pending_first depth d.0 line lines d.1 (omega (arith, within, d.1)),
      subst (λ xs. Takes parents (xs ++ pending d.0 lines) lines) stands rest,
    )

abbrev line_with : List Bool → ℕ → Bool → Line
line_with levels place opened = record { levels = levels; place = place; opened = opened }

same_line : (x y : Line) → x.levels ≡ y.levels → x.place ≡ y.place → x.opened ≡ y.opened → x ≡ y
same_line x y levels place opened =
    ap (λ v. line_with v x.place x.opened) levels ∙ ap (λ v. line_with y.levels v x.opened) place ∙ ap (λ v. line_with y.levels y.place v) opened

takes_one : (parents : ℕ → List ℕ) (xs ys : List Line) (todo others : List (List Bool × ℕ)) (earlier : List Line) → todo ≡ others → Takes parents todo xs → Takes parents others ys → OpensFirst earlier xs → OpensFirst earlier ys → xs ≡ ys
takes_one parents [] [] todo others earlier same h k o p = refl
takes_one parents [] (y ∷ ys) todo others earlier same h k o p = let none : [] ≡ shape y ∷ k.0 = sym h ∙ same ∙ k.1 in cc
takes_one parents (x ∷ xs) [] todo others earlier same h k o p = let none : [] ≡ shape x ∷ h.0 = sym k ∙ sym same ∙ h.1 in cc
takes_one parents (x ∷ xs) (y ∷ ys) todo others earlier same h k o p =
    let both : shape x ∷ h.0 ≡ shape y ∷ k.0 = sym h.1 ∙ same ∙ k.1 in
    let shapes : shape x ≡ shape y = cc in
    let rests : h.0 ≡ k.0 = cc in
    let levels : x.levels ≡ y.levels = ap (λ (s : List Bool × ℕ). s.0) shapes in
    let place : x.place ≡ y.place = ap (λ (s : List Bool × ℕ). s.1) shapes in
    let opened : x.opened ≡ y.opened = o.0 ∙ ap (λ q. not (has_line q earlier)) place ∙ sym p.0 in
    let line = same_line x y levels place opened in
    let next = ap (λ (l : Line). cond l.opened (children l.levels (parents l.place)) []) line in
    let todo_next = ap (λ zs. zs ++ h.0) next ∙ ap (λ zs. cond y.opened (children y.levels (parents y.place)) [] ++ zs) rests in
    let opens = subst (λ l. OpensFirst (earlier ++ l ∷ []) xs) line o.1 in
    let more : xs ≡ ys = takes_one parents xs ys _ _ (earlier ++ y ∷ []) todo_next h.2 k.2 opens p.1 in
    ap (λ l. l ∷ xs) line ∙ ap (λ zs. y ∷ zs) more

tree_takes : (packages : List Package) (place : ℕ) (lines : List Line) → IsTree packages place lines → Takes (parents_of packages) (([], place) ∷ []) lines
tree_takes packages place lines h =
    let root : Line = record { levels = []; place = place; opened = true } in
    let shown : HasParents (parents_of packages) (root ∷ h.first.0) = subst (HasParents (parents_of packages)) h.first.1 h.parents in
    let rest = pending_takes (parents_of packages) h.first.0 0 shown.1 h.first.2 shown.2 in
    let next : next_level 0 h.first.0 ≡ children [] (parents_of packages place) ++ [] = shown.0 ∙ sym (append-nil (children [] (parents_of packages place))) in
    subst (Takes (parents_of packages) (([], place) ∷ [])) (sym h.first.1)
    ([], refl, subst (λ todo. Takes (parents_of packages) todo h.first.0) next rest)

-- the lines of a tree are those of the walk
pub is_the_tree : (packages : List Package) (place : ℕ) (lines : List Line) → place < length packages → IsTree packages place lines ↔ (lines ≡ lines_of packages place)
is_the_tree packages place lines low =
    let walked = is_tree packages place low in (
      λ h. takes_one (parents_of packages) lines (lines_of packages place) (([], place) ∷ []) (([], place) ∷ []) [] refl (tree_takes packages place lines h) (tree_takes packages place (lines_of packages place) walked) h.opened walked.opened,
      λ same. subst (IsTree packages place) (sym same) walked,
    )
