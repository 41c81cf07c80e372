-- What a written value reads as: strings, lists and objects, and what is found in an object.
use Rattle.std.proofs.Common.{◌≡◌, ℕ, ◌≤◌, ◌<◌, max, List, [], ◌∷◌, ◌++◌, Bool, true, false, cond, Option, Some, None, option_map, bytes_eq, true≢false, refl, sym, ap, ◌∙◌, subst, append_assoc, append-nil, arith, rules, Ordering, Less, Equal, Greater, nat_cmp}
use Rattle.std.specs.Prelude.{◌||◌, ◌^◌, map, IfSome}
use Rattle.std.specs.BTreeMap.{insert_entry}
use Rattle.std.specs.Cmp.Lexicographic.{slice_cmp}
use Rattle.std.specs.List.{AllByRecursion}
use Rattle.std.specs.List.Sorted.{IsStrictlySortedBy}
use Rattle.std.specs.Ordering.{match_ordering, ordering_reverse}
use Rattle.std.proofs.lemmas.Cmp.{nat_list_cmp_total}
use Rattle.std.proofs.lemmas.Slice.Eq.{bytes_eq-Decides}
use Rattle.json.specs.Json as json
use Rattle.json.specs.Tree as tree
use Rattle.serde_json.specs.Data.{Data, number, string, array, object, Items, no_items, item, Members, no_members, member, put, unsigned}
use Rattle.serde_json.specs.Find.{get_member}
use Rattle.serde_json.specs.Read.{of_items, of_members}
use Rattle.serde_json.specs.Written.{has_float, items_have_float, members_have_float}
use Rattle.serde_json.proofs.Numbers.{number_of-decimal}
use Rattle.serde_json.proofs.Views.{get_member-put, get_member-put_other}
use Rattle.tame_records.specs.Members.{Lists, lists_with, lists_or_null, u32_or_null, text_or_null, texts_of}
use Rattle.tame_records.specs.Written.{AreOrdered, lists_if, lists_tree, number_if, text_if, texts_tree}

-- ---- strings

abbrev pub texts_data : List (List ℕ) → Items
texts_data [] = no_items
texts_data (t ∷ ts) = item (string t) (texts_data ts)

pub texts_read : (ts : List (List ℕ)) → of_items (texts_tree ts) ≡ Some (texts_data ts)
texts_read [] = refl
texts_read (t ∷ ts) = ap (option_map (item (string t))) (texts_read ts)

pub texts_back : (ts : List (List ℕ)) → texts_of (texts_data ts) ≡ Some ts
texts_back [] = refl
texts_back (t ∷ ts) = ap (option_map (λ us. t ∷ us)) (texts_back ts)

pub texts_whole : (ts : List (List ℕ)) → items_have_float (texts_data ts) ≡ false
texts_whole [] = refl
texts_whole (t ∷ ts) = texts_whole ts

pub texts_shallow : (ts : List (List ℕ)) → tree.items_depth (texts_tree ts) ≤ 0
texts_shallow [] = omega arith
texts_shallow (t ∷ ts) = omega (arith, texts_shallow ts)

-- ---- lists by their names

abbrev pub names : Lists → List (List ℕ)
names ls = map (λ l. l.0) ls

abbrev pub lists_data : Lists → Members
lists_data [] = no_members
lists_data (l ∷ ls) = member l.0 (array (texts_data l.1)) (lists_data ls)

below_middle : (first : List ℕ) (done : Lists) (l : List ℕ × List (List ℕ)) (more : Lists) → AllByRecursion (λ y. slice_cmp nat_cmp first y ≡ Less) (names (done ++ l ∷ more)) → slice_cmp nat_cmp first l.0 ≡ Less
below_middle first [] l more h = h.0
below_middle first (x ∷ done) l more h = below_middle first done l more h.1

above : (first : List ℕ) (done : Lists) (l : List ℕ × List (List ℕ)) (more : Lists) → AllByRecursion (λ y. slice_cmp nat_cmp first y ≡ Less) (names (done ++ l ∷ more)) → slice_cmp nat_cmp l.0 first ≡ Greater
above first done l more h = nat_list_cmp_total.antisymm l.0 first ∙ ap ordering_reverse (below_middle first done l more h)

-- a name that is above those before it goes last
put_last : (done : Lists) (l : List ℕ × List (List ℕ)) (more : Lists) → AreOrdered (done ++ l ∷ more) → put l.0 (array (texts_data l.1)) (lists_data done) ≡ lists_data (done ++ l ∷ [])
unfolding IsStrictlySortedBy
put_last [] l more h = refl
put_last (x ∷ done) l more h = rw (above x.0 done l more h.0) (ap (member x.0 (array (texts_data x.1))) (put_last done l more h.1))

insert_last : (done : Lists) (l : List ℕ × List (List ℕ)) (more : Lists) → AreOrdered (done ++ l ∷ more) → insert_entry (slice_cmp nat_cmp) done l.0 l.1 ≡ done ++ l ∷ []
unfolding IsStrictlySortedBy
insert_last [] l more h = refl
insert_last (x ∷ done) l more h = rw (above x.0 done l more h.0) (ap (λ (ls : Lists). x ∷ ls) (insert_last done l more h.1))

pub lists_read : (done ls : Lists) → AreOrdered (done ++ ls) → of_members (lists_tree ls) (lists_data done) ≡ Some (lists_data (done ++ ls))
lists_read done [] h = ap (λ (ms : Lists). Some (lists_data ms)) (sym (append-nil done))
lists_read done (l ∷ ls) h =
    let same : (done ++ l ∷ []) ++ ls ≡ done ++ l ∷ ls = append_assoc done (l ∷ []) ls in
    rw (texts_read l.1) (ap (of_members (lists_tree ls)) (put_last done l ls h)
    ∙ lists_read (done ++ l ∷ []) ls (subst AreOrdered (sym same) h) ∙ ap (λ (ms : Lists). Some (lists_data ms)) same)

pub lists_back : (done ls : Lists) → AreOrdered (done ++ ls) → lists_with done (lists_data ls) ≡ Some (done ++ ls)
lists_back done [] h = ap Some (sym (append-nil done))
lists_back done (l ∷ ls) h =
    let same : (done ++ l ∷ []) ++ ls ≡ done ++ l ∷ ls = append_assoc done (l ∷ []) ls in
    rw (texts_back l.1) (ap (λ (ms : Lists). lists_with ms (lists_data ls)) (insert_last done l ls h)
    ∙ lists_back (done ++ l ∷ []) ls (subst AreOrdered (sym same) h) ∙ ap Some same)

pub lists_whole : (ls : Lists) → members_have_float (lists_data ls) ≡ false
lists_whole [] = refl
lists_whole (l ∷ ls) = rw (texts_whole l.1) (lists_whole ls)

pub lists_shallow : (ls : Lists) → tree.members_depth (lists_tree ls) ≤ 1
lists_shallow [] = omega arith
lists_shallow (l ∷ ls) = omega (arith, texts_shallow l.1, lists_shallow ls)

-- ---- objects: members that are added one after the other, and may be absent

abbrev pub Entry : Type 0
Entry = List ℕ × Option Data

abbrev pub put_if : List ℕ → Option Data → Members → Members
put_if key None ms = ms
put_if key (Some d) ms = put key d ms

abbrev pub built : Members → List Entry → Members
built ms [] = ms
built ms (e ∷ es) = built (put_if e.0 e.1 ms) es

abbrev pub later_or : Option Data → Option Data → Option Data
later_or None earlier = earlier
later_or (Some d) earlier = Some d

-- the last value at a key
abbrev pub last_at : List ℕ → Option Data → List Entry → Option Data
last_at key found [] = found
last_at key found (e ∷ es) = last_at key (cond (bytes_eq key e.0) (later_or e.1 found) found) es

bytes_same : (xs ys : List ℕ) → xs ≡ ys → bytes_eq xs ys ≡ true
bytes_same xs ys h = search (rules, bytes_eq-Decides)

put_found : (key k : List ℕ) (d : Data) (ms : Members) → get_member key (put k d ms) ≡ cond (bytes_eq key k) (Some d) (get_member key ms)
put_found key k d ms = go (bytes_eq key k) refl
  where
    go : (b : Bool) → bytes_eq key k ≡ b → get_member key (put k d ms) ≡ cond b (Some d) (get_member key ms)
    go true e =
        let same : key ≡ k = (bytes_eq-Decides key k).0 e in
        ap (λ (l : List ℕ). get_member l (put k d ms)) same ∙ get_member-put k d ms
    go false e = get_member-put_other key k d ms (λ same. true≢false (sym (bytes_same key k same) ∙ e))

found_in_put : (key k : List ℕ) (o : Option Data) (ms : Members) → get_member key (put_if k o ms) ≡ cond (bytes_eq key k) (later_or o (get_member key ms)) (get_member key ms)
found_in_put key k None ms = go (bytes_eq key k)
  where
    go : (b : Bool) → get_member key ms ≡ cond b (get_member key ms) (get_member key ms)
    go true = refl
    go false = refl
found_in_put key k (Some d) ms = put_found key k d ms

pub found_built : (key : List ℕ) (es : List Entry) (ms : Members) → get_member key (built ms es) ≡ last_at key (get_member key ms) es
found_built key [] ms = refl
found_built key (e ∷ es) ms = found_built key es (put_if e.0 e.1 ms) ∙ ap (λ o. last_at key o es) (found_in_put key e.0 e.1 ms)

-- ---- no float comes in

float_put : (o : Ordering) (k l : List ℕ) (d e : Data) (ms : Members) → has_float d ≡ false → has_float e ≡ false → members_have_float ms ≡ false → members_have_float (put k d ms) ≡ false
    → members_have_float (match_ordering o (member k d (member l e ms)) (member l d ms) (member l e (put k d ms))) ≡ false
float_put Less k l d e ms hd he hms later = rw (hd, he) hms
float_put Equal k l d e ms hd he hms later = rw hd hms
float_put Greater k l d e ms hd he hms later = rw he later

or_left : (a b : Bool) → (a || b) ≡ false → a ≡ false
or_left true b h = h
or_left false b h = refl

or_right : (a b : Bool) → (a || b) ≡ false → b ≡ false
or_right true b h = cc
or_right false b h = h

whole_put : (k : List ℕ) (d : Data) (ms : Members) → has_float d ≡ false → members_have_float ms ≡ false → members_have_float (put k d ms) ≡ false
whole_put k d no_members hd h = rw hd refl
whole_put k d (member l e ms) hd h =
    float_put (slice_cmp nat_cmp k l) k l d e ms hd (or_left (has_float e) (members_have_float ms) h) (or_right (has_float e) (members_have_float ms) h)
    (whole_put k d ms hd (or_right (has_float e) (members_have_float ms) h))

abbrev pub is_whole : Option Data → Bool
is_whole None = false
is_whole (Some d) = has_float d

-- each value that is added has no float
abbrev pub AreWhole : List Entry → Type 0
AreWhole [] = Unit {0}
AreWhole (e ∷ es) = (is_whole e.1 ≡ false) × AreWhole es

whole_put_if : (k : List ℕ) (o : Option Data) (ms : Members) → is_whole o ≡ false → members_have_float ms ≡ false → members_have_float (put_if k o ms) ≡ false
whole_put_if k None ms ho h = h
whole_put_if k (Some d) ms ho h = whole_put k d ms ho h

pub whole_built : (es : List Entry) (ms : Members) → AreWhole es → members_have_float ms ≡ false → members_have_float (built ms es) ≡ false
whole_built [] ms hes h = h
whole_built (e ∷ es) ms hes h = whole_built es (put_if e.0 e.1 ms) hes.1 (whole_put_if e.0 e.1 ms hes.0 h)

-- ---- members that are there only if there is a value

abbrev pub text_data : Option (List ℕ) → Option Data
text_data o = option_map string o

abbrev pub features_data : Option Lists → Option Data
features_data o = option_map (λ (ls : Lists). object (lists_data ls)) o

abbrev pub number_data : Option ℕ → Option Data
number_data o = option_map (λ n. number (unsigned n)) o

pub text_if_read : (key : List ℕ) (o : Option (List ℕ)) (more : json.Members) (ms : Members) → of_members (text_if key o more) ms ≡ of_members more (put_if key (text_data o) ms)
text_if_read key None more ms = refl
text_if_read key (Some t) more ms = refl

abbrev pub AreOrderedIf : Option Lists → Type 0
AreOrderedIf o = IfSome o AreOrdered

pub lists_if_read : (key : List ℕ) (o : Option Lists) (more : json.Members) (ms : Members) → AreOrderedIf o → of_members (lists_if key o more) ms ≡ of_members more (put_if key (features_data o) ms)
lists_if_read key None more ms h = refl
lists_if_read key (Some ls) more ms h = rw (lists_read [] ls h) refl

abbrev pub IsSmallIf : Option ℕ → Type 0
IsSmallIf o = IfSome o (λ n. n < 2 ^ 32)

pub number_if_read : (key : List ℕ) (o : Option ℕ) (more : json.Members) (ms : Members) → IsSmallIf o → of_members (number_if key o more) ms ≡ of_members more (put_if key (number_data o) ms)
number_if_read key None more ms h = refl
number_if_read key (Some n) more ms h = rw (number_of-decimal n (omega (arith, h))) refl

pub text_data_back : (o : Option (List ℕ)) → text_or_null (later_or (text_data o) None) ≡ Some o
text_data_back None = refl
text_data_back (Some t) = refl

pub features_data_back : (o : Option Lists) → AreOrderedIf o → lists_or_null (later_or (features_data o) None) ≡ Some o
features_data_back None h = refl
features_data_back (Some ls) h = rw (lists_back [] ls h) refl

pub number_data_back : (o : Option ℕ) → IsSmallIf o → u32_or_null (later_or (number_data o) None) ≡ Some o
number_data_back None h = refl
number_data_back (Some n) h = search rules

pub text_data_whole : (o : Option (List ℕ)) → is_whole (text_data o) ≡ false
text_data_whole None = refl
text_data_whole (Some t) = refl

pub features_data_whole : (o : Option Lists) → is_whole (features_data o) ≡ false
features_data_whole None = refl
features_data_whole (Some ls) = lists_whole ls

pub number_data_whole : (o : Option ℕ) → is_whole (number_data o) ≡ false
number_data_whole None = refl
number_data_whole (Some n) = refl

pub text_if_shallow : (key : List ℕ) (o : Option (List ℕ)) (more : json.Members) → tree.members_depth (text_if key o more) ≤ tree.members_depth more
text_if_shallow key None more = omega arith
text_if_shallow key (Some t) more = omega arith

pub lists_if_shallow : (key : List ℕ) (o : Option Lists) (more : json.Members) → tree.members_depth (lists_if key o more) ≤ max 2 (tree.members_depth more)
lists_if_shallow key None more = omega arith
lists_if_shallow key (Some ls) more = omega (arith, lists_shallow ls)

pub number_if_shallow : (key : List ℕ) (o : Option ℕ) (more : json.Members) → tree.members_depth (number_if key o more) ≤ tree.members_depth more
number_if_shallow key None more = omega arith
number_if_shallow key (Some n) more = omega arith
