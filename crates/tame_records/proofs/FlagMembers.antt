-- Members that are added one after the other, and what is known of those found.
use Rattle.std.proofs.Common.{◌≡◌, ℕ, List, Bool, true, false, Option, Some, None, bytes_eq, is_eq, Ordering, Less, Equal, Greater, nat_cmp, true≢false, refl, sym, ap, ◌∙◌}
use Rattle.std.specs.Prelude.{is_some}
use Rattle.std.specs.Cmp.Lexicographic.{slice_cmp}
use Rattle.std.specs.Ordering.{match_ordering}
use Rattle.std.proofs.lemmas.Bool.{and_parts, or_parts}
use Rattle.std.proofs.lemmas.Map.Text.{is_eq-slice_cmp}
use Rattle.std.proofs.lemmas.Slice.Eq.{bytes_eq-Decides}
use Rattle.serde_json.specs.Data.{Data, Members, no_members, member, put}
use Rattle.serde_json.specs.Find.{get_member}
use Rattle.serde_json.specs.Written.{has_float, members_have_float}
use Rattle.serde_json.proofs.Views.{get_member-put, get_member-put_other}
use Rattle.tame_records.specs.VersionFlags.{Has, all_members}

same_names : (k l : List ℕ) → slice_cmp nat_cmp k l ≡ Equal → k ≡ l
same_names k l is = (bytes_eq-Decides k l).0 (sym (is_eq-slice_cmp k l) ∙ ap is_eq is)

all_put_at : (f : List ℕ → Data → Bool) (o : Ordering) (k l : List ℕ) (d e : Data) (ms : Members) → slice_cmp nat_cmp k l ≡ o → f k d ≡ true → f l e ≡ true → all_members f ms ≡ true → all_members f (put k d ms) ≡ true
    → all_members f (match_ordering o (member k d (member l e ms)) (member l d ms) (member l e (put k d ms))) ≡ true
all_put_at f Less k l d e ms is hd he hms later = rw (hd, he) hms
all_put_at f Equal k l d e ms is hd he hms later =
    let there : f l d ≡ true = ap (λ (q : List ℕ). f q d) (sym (same_names k l is)) ∙ hd in
    rw there hms
all_put_at f Greater k l d e ms is hd he hms later = rw he later

pub all_put : (f : List ℕ → Data → Bool) (k : List ℕ) (d : Data) (ms : Members) → f k d ≡ true → all_members f ms ≡ true → all_members f (put k d ms) ≡ true
all_put f k d no_members hd h = rw hd refl
all_put f k d (member l e ms) hd h =
    let both = and_parts (f l e) (all_members f ms) h in
    all_put_at f (slice_cmp nat_cmp k l) k l d e ms refl hd both.0 both.1 (all_put f k d ms hd both.1)

inner : (d e : Data) → Some d ≡ Some e → d ≡ e
inner d e h = cc

found_at : (f : List ℕ → Data → Bool) (o : Ordering) (k l : List ℕ) (d e : Data) (r : Option Data) → slice_cmp nat_cmp k l ≡ o → f l e ≡ true → (r ≡ Some d → f k d ≡ true) → match_ordering o r (Some e) r ≡ Some d → f k d ≡ true
found_at f Less k l d e r is he later h = later h
found_at f Equal k l d e r is he later h = ap (λ (q : List ℕ). f q d) (same_names k l is) ∙ ap (f l) (sym (inner e d h)) ∙ he
found_at f Greater k l d e r is he later h = later h

-- what is found is one of the members
pub found_fits : (f : List ℕ → Data → Bool) (k : List ℕ) (d : Data) (ms : Members) → all_members f ms ≡ true → get_member k ms ≡ Some d → f k d ≡ true
found_fits f k d no_members h e = absurd (cc)
found_fits f k d (member l x ms) h e =
    let both = and_parts (f l x) (all_members f ms) h in
    found_at f (slice_cmp nat_cmp k l) k l d x (get_member k ms) refl both.0 (found_fits f k d ms both.1) e

-- ---- what is added stays, and replaces what had its name

pub found_here : (q k : List ℕ) (d : Data) (ms : Members) → k ≡ q → get_member q (put k d ms) ≡ Some d
found_here q k d ms same = ap (λ (l : List ℕ). get_member l (put k d ms)) (sym same) ∙ get_member-put k d ms

pub has_here : (q k : List ℕ) (d : Data) (ms : Members) → k ≡ q → Has q (put k d ms)
has_here q k d ms same = ap is_some (found_here q k d ms same)

pub has_put : (q k : List ℕ) (d : Data) (ms : Members) → Has q ms → Has q (put k d ms)
has_put q k d ms h = go (bytes_eq q k) refl
  where
    go : (b : Bool) → bytes_eq q k ≡ b → Has q (put k d ms)
    go true e = has_here q k d ms (sym ((bytes_eq-Decides q k).0 e))
    go false e = ap is_some (get_member-put_other q k d ms (λ same. true≢false (sym ((bytes_eq-Decides q k).1 same) ∙ e))) ∙ h

float_put : (o : Ordering) (k l : List ℕ) (d e : Data) (ms : Members) → has_float d ≡ false → has_float e ≡ false → members_have_float ms ≡ false → members_have_float (put k d ms) ≡ false
    → members_have_float (match_ordering o (member k d (member l e ms)) (member l d ms) (member l e (put k d ms))) ≡ false
float_put Less k l d e ms hd he hms later = rw (hd, he) hms
float_put Equal k l d e ms hd he hms later = rw hd hms
float_put Greater k l d e ms hd he hms later = rw he later

pub whole_put : (k : List ℕ) (d : Data) (ms : Members) → has_float d ≡ false → members_have_float ms ≡ false → members_have_float (put k d ms) ≡ false
whole_put k d no_members hd h = rw hd refl
whole_put k d (member l e ms) hd h =
    let both = or_parts (has_float e) (members_have_float ms) h in
    float_put (slice_cmp nat_cmp k l) k l d e ms hd both.0 both.1 (whole_put k d ms hd both.1)

-- ---- a form at a name

-- of a required member
pub required : {A : Type 0} (form : Option Data → Option A) (q : List ℕ) (ms : Members) → Has q ms → ((d : Data) → get_member q ms ≡ Some d → is_some (form (Some d)) ≡ true) → is_some (form (get_member q ms)) ≡ true
required {A} form q ms has fits = go (get_member q ms) refl
  where
    go : (o : Option Data) → get_member q ms ≡ o → is_some (form (get_member q ms)) ≡ true
    go None e = absurd (true≢false (sym has ∙ ap is_some e))
    go (Some d) e = ap (λ (o : Option Data). is_some (form o)) e ∙ fits d e

-- of one that may be absent
pub optional : {A : Type 0} (form : Option Data → Option A) (q : List ℕ) (ms : Members) → is_some (form None) ≡ true → ((d : Data) → get_member q ms ≡ Some d → is_some (form (Some d)) ≡ true) → is_some (form (get_member q ms)) ≡ true
optional {A} form q ms absent fits = go (get_member q ms) refl
  where
    go : (o : Option Data) → get_member q ms ≡ o → is_some (form (get_member q ms)) ≡ true
    go None e = ap (λ (o : Option Data). is_some (form o)) e ∙ absent
    go (Some d) e = ap (λ (o : Option Data). is_some (form o)) e ∙ fits d e
