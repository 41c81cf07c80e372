-- One word's options: if they leave a draft that isn't quiet, they do the same from a quiet one.
use Rattle.std.proofs.Common.{◌≡◌, ℕ, ◌||◌, ◌⊎◌, inl, inr, List, [], ◌∷◌, ◌++◌, Bool, true, false, cond, Option, Some, None, option_map, Result, Ok, Err, refl, sym, ap, ◌∙◌}
use Rattle.audit_words.specs.Options.{by_letter, by_long, is_flag, options}
use Rattle.audit_advisory.specs.Outputs.{deny_option_of, output_format_of}
use Rattle.audit_words.specs.Values.{color_of, is_empty, joined_value, name_part, number, unless_empty, without_equals}
use Rattle.audit_words.specs.Reading.{add_listed, allowed, alone, and_then, long_given, or_wrong, read_dashed, read_letters, read_long, repeats, set_flag, set_single, set_value}
use Rattle.audit_words.specs.declared.options.Flag.{Flag}
use Rattle.audit_words.specs.declared.options.Flag.TheVariants.{Help, Version, Quiet}
use Rattle.audit_words.specs.declared.options.Single.{Single}
use Rattle.audit_words.specs.declared.options.Single.TheVariants.{Color, Format, MaxBinarySize, AuditDataSizeLimit}
use Rattle.audit_words.specs.declared.options.Listed.{Listed}
use Rattle.audit_words.specs.declared.options.Listed.TheVariants.{Deny, Ignore, TargetArch, TargetOs}
use Rattle.audit_words.specs.declared.options.Meaning.{Meaning}
use Rattle.audit_words.specs.declared.options.Meaning.TheVariants.{Alone, Once, Many}
use Rattle.audit_words.specs.declared.drafts.Draft.{Draft}
use Rattle.audit_words.specs.declared.drafts.Stop.{Stop}
use Rattle.audit_words.specs.declared.drafts.Stop.TheVariants as stop

abbrev pub quiet : Draft → Draft
quiet d = record d { audit = record d.audit { quiet = true } }

-- a step keeps, at a draft: if it ends without quiet it began so, and from the quiet draft it ends in the quiet one
abbrev pub KeepsAt : (Draft → Result Draft Stop) → Draft → Type 0
KeepsAt f d = (e : Draft) → f d ≡ Ok e → e.audit.quiet ≡ false → (d.audit.quiet ≡ false) × (f (quiet d) ≡ Ok (quiet e))

abbrev pub Keeps : (Draft → Result Draft Stop) → Type 0
Keeps f = (d : Draft) → KeepsAt f d

abbrev pub ok : Draft → Result Draft Stop
ok d = Ok d

pub same_draft : (x y : Draft) → ok x ≡ ok y → x ≡ y
same_draft x y h = cc

not_quiet : (d e : Draft) → quiet d ≡ e → e.audit.quiet ≡ false → ⊥
not_quiet d e made q =
    let both : true ≡ false = ap (λ (x : Draft). x.audit.quiet) made ∙ q in
    cc

keeps_made : (g : Draft → Draft) → ((d : Draft) → d.audit.quiet ≡ (g d).audit.quiet) → ((d : Draft) → g (quiet d) ≡ quiet (g d)) → Keeps (λ d. Ok (g d))
keeps_made g still commutes d e h q =
    let made : g d ≡ e = same_draft (g d) e h in
    (still d ∙ ap (λ (x : Draft). x.audit.quiet) made ∙ q, ap Ok (commutes d ∙ ap quiet made))

keeps_err : (s : Stop) → Keeps (λ d. Err s)
keeps_err s d e h q = cc

keeps_option : {A : Type 0} (o : Option A) (g : A → Draft → Draft) → ((a : A) (d : Draft) → d.audit.quiet ≡ (g a d).audit.quiet) → ((a : A) (d : Draft) → g a (quiet d) ≡ quiet (g a d))
    → Keeps (λ d. or_wrong (option_map (λ a. g a d) o))
keeps_option None g still commutes = keeps_err stop.Wrong
keeps_option (Some a) g still commutes = keeps_made (g a) (still a) (commutes a)

keeps_cond : (b : Bool) (f g : Draft → Result Draft Stop) → Keeps f → Keeps g → Keeps (λ d. cond b (f d) (g d))
keeps_cond true f g kf kg = kf
keeps_cond false f g kf kg = kg

then_case : (f g : Draft → Result Draft Stop) (d : Draft) → Keeps f → KeepsAt g d → (r : Result Draft Stop) → g d ≡ r
    → (e : Draft) → and_then f r ≡ Ok e → e.audit.quiet ≡ false → (d.audit.quiet ≡ false) × (and_then f (g (quiet d)) ≡ Ok (quiet e))
then_case f g d kf kg (Ok x) s e h q =
    let after_f : (x.audit.quiet ≡ false) × (f (quiet x) ≡ Ok (quiet e)) = kf x e h q in
    let after_g : (d.audit.quiet ≡ false) × (g (quiet d) ≡ Ok (quiet x)) = kg x s after_f.0 in
    (after_g.0, ap (and_then f) after_g.1 ∙ after_f.1)
then_case f g d kf kg (Err s) t e h q = cc

keeps_then : (f g : Draft → Result Draft Stop) → Keeps f → Keeps g → Keeps (λ d. and_then f (g d))
keeps_then f g kf kg d e h q = then_case f g d kf (kg d) (g d) refl e h q

-- ---- what options set

keeps_flag : (f : Flag) → Keeps (set_flag f)
keeps_flag Help = keeps_err stop.Help
keeps_flag Version = keeps_err stop.Version
keeps_flag Quiet = λ d e h q. absurd (not_quiet d e (same_draft (quiet d) e h) q)
keeps_flag _ = keeps_made _ (λ d. refl) (λ d. refl)

keeps_single : (s : Single) (v : List ℕ) → Keeps (λ d. or_wrong (set_single s v d))
keeps_single Color v = keeps_option (color_of v) (λ c d. record d { audit = record d.audit { color = Some c } }) (λ c d. refl) (λ c d. refl)
keeps_single Format v = keeps_option (output_format_of v) (λ f d. record d { audit = record d.audit { output_format = Some f } }) (λ f d. refl) (λ f d. refl)
keeps_single MaxBinarySize v = keeps_option (number v) (λ n d. record d { bin = record d.bin { max_binary_size = Some n } }) (λ n d. refl) (λ n d. refl)
keeps_single AuditDataSizeLimit v = keeps_option (number v) (λ n d. record d { bin = record d.bin { audit_data_size_limit = Some n } }) (λ n d. refl) (λ n d. refl)
keeps_single _ v = keeps_made _ (λ d. refl) (λ d. refl)

keeps_listed : (l : Listed) (v : List ℕ) → Keeps (λ d. or_wrong (add_listed l v d))
keeps_listed Deny v = keeps_option (deny_option_of v) (λ k d. record d { audit = record d.audit { deny = d.audit.deny ++ k ∷ [] } }) (λ k d. refl) (λ k d. refl)
keeps_listed Ignore v = keeps_option (unless_empty v) (λ t d. record d { audit = record d.audit { ignore = d.audit.ignore ++ t ∷ [] } }) (λ t d. refl) (λ t d. refl)
keeps_listed TargetArch v = keeps_option (unless_empty v) (λ t d. record d { audit = record d.audit { target_arch = d.audit.target_arch ++ t ∷ [] } }) (λ t d. refl) (λ t d. refl)
keeps_listed TargetOs v = keeps_option (unless_empty v) (λ t d. record d { audit = record d.audit { target_os = d.audit.target_os ++ t ∷ [] } }) (λ t d. refl) (λ t d. refl)

pub keeps_value : (m : Meaning) (v : List ℕ) → Keeps (set_value m v)
keeps_value (Alone f) v = keeps_err stop.Wrong
keeps_value (Once s) v = keeps_single s v
keeps_value (Many l) v = keeps_listed l v

keeps_alone : (m : Meaning) → Keeps (alone m)
keeps_alone (Alone f) = keeps_flag f
keeps_alone (Once s) = keeps_made _ (λ d. refl) (λ d. refl)
keeps_alone (Many l) = keeps_made _ (λ d. refl) (λ d. refl)

-- ---- one option

-- whether an option repeats doesn't depend on quiet, but for quiet itself
same_repeats : (m : Meaning) → (m ≡ Alone Quiet → ⊥) → (d : Draft) → repeats m (quiet d) ≡ repeats m d
same_repeats (Alone Quiet) other d = absurd (other refl)
same_repeats (Once Color) other d = refl
same_repeats (Many l) other d = refl
same_repeats _ other d = refl

is_quiet : (m : Meaning) → (m ≡ Alone Quiet) ⊎ (m ≡ Alone Quiet → ⊥)
is_quiet (Alone Quiet) = inl refl
is_quiet (Once s) = inr (λ h. cc)
is_quiet (Many l) = inr (λ h. cc)
is_quiet _ = inr (λ h. cc)

-- what goes on after quiet ends quiet
abbrev Excludes : (Meaning → Draft → Result Draft Stop) → Type 0
Excludes k = (d e : Draft) → k (Alone Quiet) d ≡ Ok e → e.audit.quiet ≡ false → ⊥

abbrev behind : (Meaning → Draft → Result Draft Stop) → Draft → Result Meaning Stop → Result Draft Stop
behind k d r = and_then (λ n. k n d) r

other_case : (k : Meaning → Draft → Result Draft Stop) (m : Meaning) (d : Draft) → KeepsAt (k m) d → (t u : Bool) → u ≡ t
    → (e : Draft) → behind k d (cond t (Err stop.Wrong) (Ok m)) ≡ Ok e → e.audit.quiet ≡ false
    → (d.audit.quiet ≡ false) × (behind k (quiet d) (cond u (Err stop.Wrong) (Ok m)) ≡ Ok (quiet e))
other_case k m d kk true u same e h q = cc
other_case k m d kk false u same e h q = let kept : (d.audit.quiet ≡ false) × (k m (quiet d) ≡ Ok (quiet e)) = kk e h q in (kept.0, rw same kept.1)

quiet_case : (k : Meaning → Draft → Result Draft Stop) (d : Draft) → Excludes k → (t : Bool)
    → (e : Draft) → behind k d (cond t (Err stop.Wrong) (Ok (Alone Quiet))) ≡ Ok e → e.audit.quiet ≡ false → ⊥
quiet_case k d never true e h q = cc
quiet_case k d never false e h q = never d e h q

some_case : (k : Meaning → Draft → Result Draft Stop) (m : Meaning) (d : Draft) → ((n : Meaning) → Keeps (k n)) → Excludes k
    → (m ≡ Alone Quiet) ⊎ (m ≡ Alone Quiet → ⊥)
    → (e : Draft) → behind k d (allowed (Some m) d) ≡ Ok e → e.audit.quiet ≡ false
    → (d.audit.quiet ≡ false) × (behind k (quiet d) (allowed (Some m) (quiet d)) ≡ Ok (quiet e))
some_case k m d kk never (inl is) e h q =
    let at_quiet : behind k d (allowed (Some (Alone Quiet)) d) ≡ Ok e = ap (λ n. behind k d (allowed (Some n) d)) (sym is) ∙ h in
    absurd (quiet_case k d never (repeats (Alone Quiet) d) e at_quiet q)
some_case k m d kk never (inr other) e h q = other_case k m d (kk m d) (repeats m d) (repeats m (quiet d)) (same_repeats m other d) e h q

keeps_allowed : (o : Option Meaning) (k : Meaning → Draft → Result Draft Stop) → ((n : Meaning) → Keeps (k n)) → Excludes k
    → Keeps (λ d. behind k d (allowed o d))
keeps_allowed None k kk never = keeps_err stop.Wrong
keeps_allowed (Some m) k kk never = λ d e h q. some_case k m d kk never (is_quiet m) e h q

-- ---- one word

abbrev pub long_with : Option (List ℕ) → Meaning → Draft → Result Draft Stop
long_with o m d = long_given m o d

keeps_given : (o : Option (List ℕ)) (m : Meaning) → Keeps (long_with o m)
keeps_given None m = keeps_alone m
keeps_given (Some v) m = keeps_value m v

excludes_given : (o : Option (List ℕ)) → Excludes (long_with o)
excludes_given None d e h q = not_quiet d e (same_draft (quiet d) e h) q
excludes_given (Some v) d e h q = cc

keeps_long : (text : List ℕ) → Keeps (read_long text)
keeps_long text d e h q =
    keeps_allowed (by_long (options d.phase) (name_part text)) (long_with (joined_value text)) (keeps_given (joined_value text)) (excludes_given (joined_value text)) d e h q

abbrev letter_with : List ℕ → Meaning → Draft → Result Draft Stop
letter_with rest m d = cond (is_flag m || is_empty rest) (and_then (read_letters rest) (alone m d)) (set_value m (without_equals rest) d)

keeps_letter : (rest : List ℕ) → Keeps (read_letters rest) → (m : Meaning) → Keeps (letter_with rest m)
keeps_letter rest more m =
    keeps_cond (is_flag m || is_empty rest) (λ d. and_then (read_letters rest) (alone m d)) (set_value m (without_equals rest))
    (keeps_then (read_letters rest) (alone m) more (keeps_alone m)) (keeps_value m (without_equals rest))

excludes_letter : (rest : List ℕ) → Keeps (read_letters rest) → Excludes (letter_with rest)
excludes_letter rest more d e h q =
    let both : true ≡ false = (more (quiet d) e h q).0 in
    cc

keeps_letters : (letters : List ℕ) → Keeps (read_letters letters)
keeps_letters [] = keeps_made (λ d. d) (λ d. refl) (λ d. refl)
keeps_letters (letter ∷ rest) = λ d e h q.
    keeps_allowed (by_letter (options d.phase) letter) (letter_with rest) (keeps_letter rest (keeps_letters rest)) (excludes_letter rest (keeps_letters rest)) d e h q

pub keeps_dashed : (long letters : Option (List ℕ)) → Keeps (read_dashed long letters)
keeps_dashed (Some text) letters = keeps_long text
keeps_dashed None (Some letters) = keeps_letters letters
keeps_dashed None None = keeps_err stop.Wrong
