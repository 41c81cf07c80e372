-- Options that set different things set the same in either order.
use Rattle.std.proofs.Common.{◌≡◌, ℕ, List, Bool, true, false, ◌&&◌, cond, Option, Some, None, option_map, Result, Ok, Err, refl, sym, ap, ◌∙◌}
use Rattle.audit_advisory.specs.Outputs.{deny_option_of, output_format_of}
use Rattle.audit_words.specs.Values.{color_of, number, unless_empty}
use Rattle.audit_words.specs.Reading.{alone, and_then, or_wrong, repeats, set_flag, set_value}
use Rattle.audit_words.specs.Laws.{is_setting, replaces, set_by}
use Rattle.audit_words.specs.declared.options.Flag.{Flag}
use Rattle.audit_words.specs.declared.options.Flag.TheVariants.{Help, Version, Verdicts, PathsFollow}
use Rattle.audit_words.specs.declared.options.Single.TheVariants.{Color as OfColor, Format, Baseline, WriteBaseline, MaxBinarySize, AuditDataSizeLimit}
use Rattle.audit_words.specs.declared.options.Listed.TheVariants.{Deny, Ignore, TargetArch, TargetOs}
use Rattle.audit_words.specs.declared.options.Meaning.{Meaning}
use Rattle.audit_words.specs.declared.options.Meaning.TheVariants.{Alone, Once, Many}
use Rattle.audit_words.specs.declared.drafts.Draft.{Draft}
use Rattle.audit_words.specs.declared.drafts.Stop.{Stop}
use Rattle.audit_words.specs.declared.drafts.Stop.TheVariants as stop
use Rattle.audit_words.proofs.Writes.{Value, colour_value, counted, form_value, kind_value, replaced, size_value, swapped, text_value, untouched, value_of, write}

-- ---- one option

abbrev wrong : Result Draft Stop
wrong = Err stop.Wrong

-- refused, or written with the value, if there is one
abbrev step : Bool → Option Value → (Value → Draft → Draft) → Draft → Result Draft Stop
step t o u d = cond t wrong (or_wrong (option_map (λ g. u g d) o))

flag_case : (t : Bool) (f : Flag) (d : Draft) (r : Result Draft Stop) → set_flag f d ≡ r
    → and_then (λ n. alone n d) (cond t (Err stop.Wrong) (Ok (Alone f))) ≡ cond t wrong r
flag_case true f d r h = refl
flag_case false f d r h = h

value_case : (t : Bool) (m : Meaning) (v : List ℕ) (d : Draft) (r : Result Draft Stop) → set_value m v d ≡ r
    → and_then (λ n. set_value n v d) (cond t (Err stop.Wrong) (Ok m)) ≡ cond t wrong r
value_case true m v d r h = refl
value_case false m v d r h = h

option_case : {A : Type 0} (o : Option A) (f : A → Draft) (k : A → Value) (u : Value → Draft) → ((a : A) → f a ≡ u (k a))
    → or_wrong (option_map f o) ≡ or_wrong (option_map u (option_map k o))
option_case None f k u h = refl
option_case (Some a) f k u h = ap (λ (d : Draft). or_wrong (Some d)) (h a)

set_in_step : (m : Meaning) (v : List ℕ) (d : Draft) → is_setting m ≡ true → set_by m v d ≡ step (repeats m d) (value_of m v) (write m) d
set_in_step (Alone Help) v d h = cc
set_in_step (Alone Version) v d h = cc
set_in_step (Alone PathsFollow) v d h = cc
set_in_step (Once OfColor) v d h = value_case _ (Once OfColor) v d _ (option_case (color_of v) _ colour_value (λ g. write (Once OfColor) g d) (λ a. refl))
set_in_step (Once Format) v d h = value_case _ (Once Format) v d _ (option_case (output_format_of v) _ form_value (λ g. write (Once Format) g d) (λ a. refl))
set_in_step (Once MaxBinarySize) v d h = value_case _ (Once MaxBinarySize) v d _ (option_case (number v) _ size_value (λ g. write (Once MaxBinarySize) g d) (λ a. refl))
set_in_step (Once AuditDataSizeLimit) v d h = value_case _ (Once AuditDataSizeLimit) v d _ (option_case (number v) _ size_value (λ g. write (Once AuditDataSizeLimit) g d) (λ a. refl))
set_in_step (Many Deny) v d h = option_case (deny_option_of v) _ kind_value (λ g. write (Many Deny) g d) (λ a. refl)
set_in_step (Many Ignore) v d h = option_case (unless_empty v) _ text_value (λ g. write (Many Ignore) g d) (λ a. refl)
set_in_step (Many TargetArch) v d h = option_case (unless_empty v) _ text_value (λ g. write (Many TargetArch) g d) (λ a. refl)
set_in_step (Many TargetOs) v d h = option_case (unless_empty v) _ text_value (λ g. write (Many TargetOs) g d) (λ a. refl)
set_in_step (Alone f) v d h = flag_case _ f d _ refl
set_in_step (Once o) v d h = value_case _ (Once o) v d _ refl

-- ---- two options

-- refused if one of them is, else both written
abbrev joined : Bool → Option Value → Bool → Option Value → (Value → Value → Draft) → Result Draft Stop
joined true o s p both = wrong
joined false None s p both = wrong
joined false (Some g) true p both = wrong
joined false (Some g) false None both = wrong
joined false (Some g) false (Some h) both = Ok (both g h)

second_case : (g : Value) (s : Bool) (p : Option Value) (u w : Value → Draft → Draft) (d : Draft)
    → step s p w (u g d) ≡ joined false (Some g) s p (λ x y. w y (u x d))
second_case g true p u w d = refl
second_case g false None u w d = refl
second_case g false (Some h) u w d = refl

step_of : (m : Meaning) (v : List ℕ) (d : Draft) → is_setting m ≡ true → (t : Bool) → repeats m d ≡ t → (o : Option Value) → value_of m v ≡ o
    → set_by m v d ≡ step t o (write m) d
step_of m v d sets t met o read =
    set_in_step m v d sets ∙ ap (λ b. step b (value_of m v) (write m) d) met ∙ ap (λ x. step t x (write m) d) read

first_case : (m n : Meaning) (w : List ℕ) (d : Draft) → (m ≡ n → ⊥) → (replaces m && replaces n) ≡ false → is_setting n ≡ true
    → (s : Bool) → repeats n d ≡ s → (p : Option Value) → value_of n w ≡ p
    → (t : Bool) (o : Option Value) → and_then (set_by n w) (step t o (write m) d) ≡ joined t o s p (λ x y. write n y (write m x d))
first_case m n w d ne apart sets s met p read true o = refl
first_case m n w d ne apart sets s met p read false None = refl
first_case m n w d ne apart sets s met p read false (Some g) =
    step_of n w (write m g d) sets s (untouched m n ne apart g d ∙ met) p read ∙ second_case g s p (write m) (write n) d

one_after_other : (m n : Meaning) (v w : List ℕ) (d : Draft) → (m ≡ n → ⊥) → (replaces m && replaces n) ≡ false → is_setting m ≡ true → is_setting n ≡ true
    → and_then (set_by n w) (set_by m v d) ≡ joined (repeats m d) (value_of m v) (repeats n d) (value_of n w) (λ x y. write n y (write m x d))
one_after_other m n v w d ne apart sets also =
    ap (and_then (set_by n w)) (set_in_step m v d sets)
    ∙ first_case m n w d ne apart also (repeats n d) refl (value_of n w) refl (repeats m d) (value_of m v)

joined_swapped : (t : Bool) (o : Option Value) (s : Bool) (p : Option Value) (f g : Value → Value → Draft) → ((x y : Value) → f x y ≡ g y x)
    → joined t o s p f ≡ joined s p t o g
joined_swapped true o true p f g h = refl
joined_swapped true o false None f g h = refl
joined_swapped true o false (Some y) f g h = refl
joined_swapped false None true p f g h = refl
joined_swapped false None false None f g h = refl
joined_swapped false None false (Some y) f g h = refl
joined_swapped false (Some x) true p f g h = refl
joined_swapped false (Some x) false None f g h = refl
joined_swapped false (Some x) false (Some y) f g h = ap (λ (d : Draft). joined false (Some x) false (Some y) (λ a b. d)) (h x y)

-- ---- two options of which one may be given

both_case : (m n : Meaning) (w : List ℕ) (d : Draft) → is_setting n ≡ true → replaces m ≡ true → replaces n ≡ true
    → (t : Bool) (o : Option Value) → and_then (set_by n w) (step t o (write m) d) ≡ wrong
both_case m n w d also one other true o = refl
both_case m n w d also one other false None = refl
both_case m n w d also one other false (Some g) =
    step_of n w (write m g d) also true (counted n other (write m g d) ∙ replaced m one g d) (value_of n w) refl

-- the second is refused
both_refused : (m n : Meaning) (v w : List ℕ) (d : Draft) → is_setting m ≡ true → is_setting n ≡ true → replaces m ≡ true → replaces n ≡ true
    → and_then (set_by n w) (set_by m v d) ≡ wrong
both_refused m n v w d sets also one other =
    ap (and_then (set_by n w)) (set_in_step m v d sets) ∙ both_case m n w d also one other (repeats m d) (value_of m v)

both_hold : (a b : Bool) → (a && b) ≡ true → (a ≡ true) × (b ≡ true)
both_hold true true h = (refl, refl)
both_hold true false h = cc
both_hold false b h = cc

other_way : (a b : Bool) → (a && b) ≡ false → (b && a) ≡ false
other_way true true h = h
other_way true false h = refl
other_way false true h = refl
other_way false false h = refl

order_case : (d : Draft) (m n : Meaning) (v w : List ℕ) → is_setting m ≡ true → is_setting n ≡ true → (m ≡ n → ⊥)
    → (t : Bool) → (replaces m && replaces n) ≡ t → and_then (set_by n w) (set_by m v d) ≡ and_then (set_by m v) (set_by n w d)
order_case d m n v w sets also ne true both =
    let each : (replaces m ≡ true) × (replaces n ≡ true) = both_hold (replaces m) (replaces n) both in
    both_refused m n v w d sets also each.0 each.1 ∙ sym (both_refused n m w v d also sets each.1 each.0)
order_case d m n v w sets also ne false apart =
    one_after_other m n v w d ne apart sets also
    ∙ joined_swapped (repeats m d) (value_of m v) (repeats n d) (value_of n w) (λ x y. write n y (write m x d)) (λ y x. write m x (write n y d)) (λ x y. swapped m n ne x y d)
    ∙ sym (one_after_other n m w v d (λ e. ne (sym e)) (other_way (replaces m) (replaces n) apart) also sets)

setting : (m : Meaning) → replaces m ≡ true → is_setting m ≡ true
setting (Alone Verdicts) h = refl
setting (Once Baseline) h = refl
setting (Once WriteBaseline) h = refl
setting (Many Deny) h = cc
setting _ h = cc

pub one_replaces : (d : Draft) (m n : Meaning) (v w : List ℕ) → replaces m ≡ true → replaces n ≡ true → and_then (set_by n w) (set_by m v d) ≡ wrong
one_replaces d m n v w one other = both_refused m n v w d (setting m one) (setting n other) one other

pub either_order : (d : Draft) (m n : Meaning) (v w : List ℕ) → is_setting m ≡ true → is_setting n ≡ true → (m ≡ n → ⊥)
    → and_then (set_by n w) (set_by m v d) ≡ and_then (set_by m v) (set_by n w d)
either_order d m n v w sets also ne = order_case d m n v w sets also ne (replaces m && replaces n) refl
