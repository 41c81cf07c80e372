-- A walk, one part after the other.
use Rattle.std.proofs.Common.{◌≡◌, ℕ, zero, suc, ◌+◌, ◌-◌, ◌<◌, ◌≤◌, List, [], ◌∷◌, ◌++◌, length, take, drop, get_or, set, Bool, true, false, not, cond, refl, sym, ap, ◌∙◌, arith, append_assoc, append-nil, drop-cons, length-append}
use Rattle.std.specs.Prelude.{nat_lt}
use Rattle.std.specs.List.{filter, range_with_len}
use Rattle.std.proofs.lemmas.Grind.{flat_map-append}
use Rattle.std.proofs.lemmas.Bool.Decides.{nat_tests}
use Rattle.std.proofs.lemmas.List.FromFn.{length-map-range_with_len, get_or-map-range_with_len}
use Rattle.std.proofs.lemmas.List.Sums.{sum_by-set}
use Rattle.audit_lock.specs.declared.resolving.Package.{Package}
use Rattle.audit_lock.specs.Parents.{depends_on, parents_at, parents_of, tree_of}
use Rattle.audit_lock.specs.Rendering.{Line, Walked, and_on, each_parent, is_empty, line_text, marks, shown_at, text_of, unmet, walk}
use Rattle.std.proofs.lemmas.List.{get_or_default}
use Rattle.audit_lock.proofs.Putting.{taken_whole}
use Rattle.audit_lock.specs.Walking.{Shows}

-- the text `before` and then the walk `whole` are the text `now` and then the walk `left`
pub record GoesOn (packages : List Package) (whole : Walked) (before : List ℕ) (left : Walked) (now : List ℕ) : Type 0 where
  pub added : before ++ text_of packages whole.lines ≡ now ++ text_of packages left.lines
  pub marked : whole.met ≡ left.met

text-append : (packages : List Package) (xs ys : List Line) → text_of packages (xs ++ ys) ≡ text_of packages xs ++ text_of packages ys
text-append packages xs ys = flat_map-append (line_text packages) xs ys

-- the first part is shown, the rest is left
pub one_part : (packages : List Package) (first : Walked) (rest : List Bool → Walked) (before now : List ℕ) (met : List Bool)
    → Shows packages first before now met → GoesOn packages (and_on first rest) before (rest met) now
one_part packages first rest before now met h =
    rw (h.added, h.marked) (record {
      added = ap (λ t. before ++ t) (text-append packages first.lines (rest first.met).lines) ∙ sym (append_assoc before (text_of packages first.lines) (text_of packages (rest first.met).lines));
      marked = refl;
    })

pub and_then_on : (packages : List Package) (whole left last : Walked) (before now end : List ℕ)
    → GoesOn packages whole before left now → GoesOn packages left now last end → GoesOn packages whole before last end
and_then_on packages whole left last before now end h k = record { added = h.added ∙ k.added; marked = h.marked ∙ k.marked }

-- what is left from a parent on is that parent, then what is left after it
pub drop_at : (ps : List ℕ) (i : ℕ) → i < length ps → drop i ps ≡ get_or ps i 0 ∷ drop (suc i) ps
drop_at ps i low = drop-cons ps i 0 low

next_test : (i n : ℕ) → nat_lt i n ≡ nat_lt (suc i) (suc n)
next_test i n = grind (arith, nat_tests)

-- further parents follow if the place isn't the last
pub follows_at : (ps : List ℕ) (i : ℕ) → not (is_empty (drop i ps)) ≡ nat_lt i (length ps)
follows_at [] zero = grind (arith, nat_tests)
follows_at [] (suc i) = grind (arith, nat_tests)
follows_at (p ∷ ps) zero = grind (arith, nat_tests)
follows_at (p ∷ ps) (suc i) = follows_at ps i ∙ next_test i (length ps)

-- a package that is opened is met from then on
pub fewer : (met : List Bool) (place : ℕ) → place < length met → get_or met place false ≡ false → unmet (set met place true) + 1 ≡ unmet met
fewer met place low not_met =
    let count = sum_by-set (λ b. cond (not b) 1 0) met place true false low in
    let one = rw not_met at count in
    omega (arith, one)

-- ---- the parents of a tree are places of packages

first_or_later : (b : Bool) (a n : ℕ) (xs : List ℕ) → ((i : ℕ) → i < length xs → get_or xs i 0 < a + 1 + n) → (i : ℕ) → i < length (cond b (a ∷ xs) xs) → get_or (cond b (a ∷ xs) xs) i 0 < a + suc n
first_or_later true a n xs h zero low = omega arith
first_or_later true a n xs h (suc i) low = omega (arith, h i (omega (arith, low)))
first_or_later false a n xs h i low = omega (arith, h i low)

below_range : (test : ℕ → Bool) (a n i : ℕ) → i < length (filter test (range_with_len a n)) → get_or (filter test (range_with_len a n)) i 0 < a + n
below_range test a zero i low = absurd (omega (arith, low))
below_range test a (suc n) i low = first_or_later (test a) a n (filter test (range_with_len (a + 1) n)) (λ k within. below_range test (a + 1) n k within) i low

pub tree_length : (packages : List Package) (tree : List (List ℕ)) → tree ≡ tree_of packages → length tree ≡ length packages
tree_length packages tree made = rw made (length-map-range_with_len (parents_of packages) 0 (length packages))

pub tree_parents : (packages : List Package) (tree : List (List ℕ)) → tree ≡ tree_of packages → (place : ℕ) → place < length packages → parents_at tree place ≡ parents_of packages place
tree_parents packages tree made place low = rw made (get_or-map-range_with_len (parents_of packages) 0 (length packages) place place [] low (omega arith))

pub parent_low : (packages : List Package) (tree : List (List ℕ)) → tree ≡ tree_of packages → (place : ℕ) → place < length packages → (i : ℕ) → i < length (parents_at tree place)
    → get_or (parents_at tree place) i 0 < length packages
parent_low packages tree made place low i within =
    let is = tree_parents packages tree made place low in
    let there : i < length (parents_of packages place) = rw is at within in
    rw is (omega (arith, below_range (λ other. depends_on packages place other) 0 (length packages) i there))

-- ---- one more parent, and a package that was opened

-- the walk of one parent is shown
pub parent_shown : (packages : List Package) (tree : List (List ℕ)) (deep : ℕ) (levels : List Bool) (whole : Walked) (before now next : List ℕ) (ps : List ℕ) (i : ℕ) (b : Bool) (met marked : List Bool)
    → i < length ps → b ≡ nat_lt (suc i) (length ps)
    → GoesOn packages whole before (each_parent (walk tree deep) levels (drop i ps) met) now
    → Shows packages (walk tree deep (levels ++ b ∷ []) (get_or ps i 0) met) now next marked
    → GoesOn packages whole before (each_parent (walk tree deep) levels (drop (suc i) ps) marked) next
parent_shown packages tree deep levels whole before now next ps i b met marked low is h shown =
    let follows : b ≡ not (is_empty (drop (suc i) ps)) = is ∙ sym (follows_at ps (suc i)) in
    let first = walk tree deep (levels ++ not (is_empty (drop (suc i) ps)) ∷ []) (get_or ps i 0) met in
    let rest = each_parent (walk tree deep) levels (drop (suc i) ps) in
    let left = rw (drop_at ps i low) at h in
    and_then_on packages whole (and_on first rest) (rest marked) before now next left (one_part packages first rest now next marked (rw follows at shown))

pub drop_past : (ps : List ℕ) (i : ℕ) → length ps ≤ i → drop i ps ≡ []
drop_past [] zero low = refl
drop_past [] (suc i) low = refl
drop_past (p ∷ ps) zero low = absurd (omega (arith, low))
drop_past (p ∷ ps) (suc i) low = drop_past ps i (omega (arith, low))

-- a line, and all the parents below it
pub opened_shown : (packages : List Package) (tree : List (List ℕ)) (levels : List Bool) (place : ℕ) (met : List Bool) (before lined now : List ℕ) (marked : List Bool)
    → place < length met → get_or met place false ≡ false → lined ≡ before ++ (marks levels ++ shown_at packages place)
    → ((deep : ℕ) → unmet (set met place true) ≤ deep
    → GoesOn packages (each_parent (walk tree deep) levels (parents_at tree place) (set met place true)) lined (each_parent (walk tree deep) levels [] marked) now)
    → (deep : ℕ) → unmet met ≤ deep → Shows packages (walk tree deep levels place met) before now marked
opened_shown packages tree levels place met before lined now marked low not_met line h zero few =
    absurd (omega (arith, fewer met place low not_met, few))
opened_shown packages tree levels place met before lined now marked low not_met line h (suc deep) few =
    let goes = h deep (omega (arith, fewer met place low not_met, few)) in
    let text = text_of packages (each_parent (walk tree deep) levels (parents_at tree place) (set met place true)).lines in
    rw not_met (record {
      added = sym (append-nil now) ∙ sym goes.added ∙ ap (λ t. t ++ text) line ∙ append_assoc before ((marks levels ++ shown_at packages place)) text;
      marked = sym goes.marked;
    })

-- what was added last is removed
pub popped : (xs ys zs : List Bool) (b : Bool) (n : ℕ) → zs ≡ take (n - 1) xs → xs ≡ ys ++ b ∷ [] → length xs ≡ n → zs ≡ ys
popped xs ys zs b n taken is count =
    let whole : length xs ≡ length ys + 1 = ap length is ∙ length-append ys (b ∷ []) in
    let left : length ys ≡ n - 1 = omega arith in
    taken ∙ ap (take (n - 1)) is ∙ taken_whole ys (b ∷ []) (n - 1) left

-- the list at a place that is there, whatever the default is
pub parents_is : (tree : List (List ℕ)) (place : ℕ) (ps qs : List ℕ) → place < length tree → qs ≡ ps → ps ≡ get_or tree place ps → qs ≡ parents_at tree place
parents_is tree place ps qs low same is = same ∙ is ∙ get_or_default tree place ps [] low
