-- Only one option that replaces the report is met: a command with a baseline has no verdicts.
use Rattle.std.proofs.Common.{◌≡◌, ℕ, ◌||◌, ◌&&◌, List, [], ◌∷◌, ◌++◌, Bool, true, false, not, cond, Option, Some, None, is_some, option_map, Result, Ok, Err, codes, refl, sym, ap, subst, ◌∙◌, bytes_eq}
use Rattle.audit_advisory.specs.Outputs.{deny_option_of, output_format_of}
use Rattle.audit_settings.specs.declared.commands.AuditCommand.{AuditCommand}
use Rattle.tame_names.specs.Paths.{plain_path}
use Rattle.audit_words.specs.Options.{by_letter, by_long, is_flag, options}
use Rattle.audit_words.specs.Values.{after, color_of, is_empty, is_makeable, joined_value, name_part, number, packages_of, unless_empty, without_equals}
use Rattle.audit_words.specs.Reading.{add_listed, allowed, alone, and_then, audit_command, begun, begun_generate, command_of, ended, finish, finish_awaited, finish_phase, has_baseline, has_flag, has_options, is_bare, is_option, long_given, or_wrong, read_awaited, read_dashed, read_fresh, read_letters, read_long, read_option, read_plain, read_word, repeats, replaces_report, set_flag, set_single, set_value, start, unless_ended, vendor_command, with_folder, with_path}
use Rattle.audit_words.specs.Laws.{drafted, replaces}
use Rattle.audit_words.proofs.Keeps.{ok, same_draft}
use Rattle.audit_words.proofs.Places.{closed, to_drafted}
use Rattle.audit_words.specs.declared.options.Phase.{Phase}
use Rattle.audit_words.specs.declared.options.Phase.TheVariants.{Before, Audit, Fix, Bin, Paths, Plan, Vendor, Generate, Generated}
use Rattle.audit_words.specs.declared.options.Flag.{Flag}
use Rattle.audit_words.specs.declared.options.Flag.TheVariants.{Help, Version, Verdicts}
use Rattle.audit_words.specs.declared.options.Single.{Single}
use Rattle.audit_words.specs.declared.options.Single.TheVariants.{Color, Format, Baseline, WriteBaseline, MaxBinarySize, AuditDataSizeLimit}
use Rattle.audit_words.specs.declared.options.Listed.{Listed}
use Rattle.audit_words.specs.declared.options.Listed.TheVariants.{Deny, Ignore, TargetArch, TargetOs}
use Rattle.audit_words.specs.declared.options.Meaning.{Meaning}
use Rattle.audit_words.specs.declared.options.Meaning.TheVariants.{Alone, Once, Many}
use Rattle.audit_words.specs.declared.commands.Command.{Command}
use Rattle.audit_words.specs.declared.commands.Command.TheVariants as command
use Rattle.audit_words.specs.declared.drafts.Draft.{Draft}
use Rattle.audit_words.specs.declared.drafts.Stop.{Stop}
use Rattle.audit_words.specs.declared.drafts.Stop.TheVariants as stop

-- verdicts and a baseline weren't both met
abbrev Lone : Draft → Type 0
Lone d = (d.audit.verdicts && has_baseline d) ≡ false

-- the same, and no value is awaited
abbrev Still : Draft → Type 0
Still d = Lone d × (d.awaited ≡ None)

abbrev waits : Option Meaning → Bool
waits None = false
waits (Some m) = replaces m

-- the same, and if an option that replaces the report awaits its value, none was met
abbrev Fit : Draft → Type 0
Fit d = Lone d × ((waits d.awaited && replaces_report d) ≡ false)

still_fit : (d : Draft) → Still d → Fit d
still_fit d s = (s.0, ap (λ (o : Option Meaning). waits o && replaces_report d) s.1)

made : (x e : Draft) → ok x ≡ Ok e → Still x → Still e
made x e h s =
    let P : Draft → Type 0 = λ y. Still y in
    subst P (same_draft x e h) s

made_fit : (x e : Draft) → ok x ≡ Ok e → Fit x → Fit e
made_fit x e h s =
    let P : Draft → Type 0 = λ y. Fit y in
    subst P (same_draft x e h) s

option_still : {A : Type 0} (o : Option A) (g : A → Draft) (e : Draft) → ((a : A) → Still (g a)) → or_wrong (option_map g o) ≡ Ok e → Still e
option_still None g e all h = cc
option_still (Some a) g e all h = made (g a) e h (all a)

either_of : (P : Type 0) (b : Bool) (r s : Result Draft Stop) (e : Draft) → (r ≡ Ok e → P) → (s ≡ Ok e → P) → cond b r s ≡ Ok e → P
either_of P true r s e one other h = one h
either_of P false r s e one other h = other h

refused : (P : Type 0) (s : Stop) (e : Draft) → Err s ≡ ok e → P
refused P s e h = cc

-- ---- what options set

neither : (a b : Bool) → (a || b) ≡ false → (a ≡ false) × (b ≡ false)
neither true b h = cc
neither false b h = (refl, h)

flag_still : (f : Flag) (d e : Draft) → Still d → has_flag f d ≡ false → set_flag f d ≡ Ok e → Still e
flag_still Help d e s new h = cc
flag_still Version d e s new h = cc
flag_still Verdicts d e s new h =
    made (record d { audit = record d.audit { verdicts = true } }) e h ((neither d.audit.verdicts (has_baseline d) new).1, s.1)
flag_still _ d e s new h = made _ e h s

-- no option that replaces the report was met, if this one replaces it
abbrev HasRoom : Meaning → Draft → Type 0
HasRoom m d = (replaces m && replaces_report d) ≡ false

room : (m : Meaning) (d : Draft) → repeats m d ≡ false → HasRoom m d
room (Alone Verdicts) d h = h
room (Once Baseline) d h = h
room (Once WriteBaseline) d h = h
room (Many Deny) d h = refl
room _ d h = refl

no_verdicts : (d : Draft) (b : Bool) → replaces_report d ≡ false → (d.audit.verdicts && b) ≡ false
no_verdicts d b free = ap (λ t. t && b) (neither d.audit.verdicts (has_baseline d) free).0

single_still : (s : Single) (v : List ℕ) (d e : Draft) → Still d → HasRoom (Once s) d → or_wrong (set_single s v d) ≡ Ok e → Still e
single_still Color v d e s free h = option_still (color_of v) (λ c. record d { audit = record d.audit { color = Some c } }) e (λ c. s) h
single_still Format v d e s free h = option_still (output_format_of v) (λ f. record d { audit = record d.audit { output_format = Some f } }) e (λ f. s) h
single_still Baseline v d e s free h = made (record d { baseline = Some v }) e h (no_verdicts d true free, s.1)
single_still WriteBaseline v d e s free h = made (record d { write_baseline = Some v }) e h (no_verdicts d (is_some d.baseline || true) free, s.1)
single_still MaxBinarySize v d e s free h = option_still (number v) (λ n. record d { bin = record d.bin { max_binary_size = Some n } }) e (λ n. s) h
single_still AuditDataSizeLimit v d e s free h = option_still (number v) (λ n. record d { bin = record d.bin { audit_data_size_limit = Some n } }) e (λ n. s) h
single_still _ v d e s free h = made _ e h s

listed_still : (l : Listed) (v : List ℕ) (d e : Draft) → Still d → or_wrong (add_listed l v d) ≡ Ok e → Still e
listed_still Deny v d e s h = option_still (deny_option_of v) (λ k. record d { audit = record d.audit { deny = d.audit.deny ++ k ∷ [] } }) e (λ k. s) h
listed_still Ignore v d e s h = option_still (unless_empty v) (λ t. record d { audit = record d.audit { ignore = d.audit.ignore ++ t ∷ [] } }) e (λ t. s) h
listed_still TargetArch v d e s h = option_still (unless_empty v) (λ t. record d { audit = record d.audit { target_arch = d.audit.target_arch ++ t ∷ [] } }) e (λ t. s) h
listed_still TargetOs v d e s h = option_still (unless_empty v) (λ t. record d { audit = record d.audit { target_os = d.audit.target_os ++ t ∷ [] } }) e (λ t. s) h

value_still : (m : Meaning) (v : List ℕ) (d e : Draft) → Still d → HasRoom m d → set_value m v d ≡ Ok e → Still e
value_still (Alone f) v d e s free h = cc
value_still (Once o) v d e s free h = single_still o v d e s free h
value_still (Many l) v d e s free h = listed_still l v d e s h

alone_fit : (m : Meaning) (d e : Draft) → Still d → repeats m d ≡ false → alone m d ≡ Ok e → Fit e
alone_fit (Alone f) d e s new h = still_fit e (flag_still f d e s new h)
alone_fit (Once o) d e s new h = made_fit (record d { awaited = Some (Once o) }) e h (s.0, room (Once o) d new)
alone_fit (Many l) d e s new h = made_fit (record d { awaited = Some (Many l) }) e h (s.0, refl)

-- ---- one word

tested : (t : Bool) (k : Meaning → Draft → Result Draft Stop) (m : Meaning) (d e : Draft) → (t ≡ false → k m d ≡ Ok e → Fit e)
    → and_then (λ n. k n d) (cond t (Err stop.Wrong) (Ok m)) ≡ Ok e → Fit e
tested true k m d e more h = cc
tested false k m d e more h = more refl h

allowed_fit : (o : Option Meaning) (k : Meaning → Draft → Result Draft Stop) (d e : Draft) → ((m : Meaning) → repeats m d ≡ false → k m d ≡ Ok e → Fit e)
    → and_then (λ n. k n d) (allowed o d) ≡ Ok e → Fit e
allowed_fit None k d e more h = cc
allowed_fit (Some m) k d e more h = tested (repeats m d) k m d e (more m) h

given_fit : (o : Option (List ℕ)) (m : Meaning) (d e : Draft) → Still d → repeats m d ≡ false → long_given m o d ≡ Ok e → Fit e
given_fit None m d e s new h = alone_fit m d e s new h
given_fit (Some v) m d e s new h = still_fit e (value_still m v d e s (room m d new) h)

abbrev long_with : Option (List ℕ) → Meaning → Draft → Result Draft Stop
long_with o m d = long_given m o d

long_fit : (text : List ℕ) (d e : Draft) → Still d → read_long text d ≡ Ok e → Fit e
long_fit text d e s h =
    allowed_fit (by_long (options d.phase) (name_part text)) (long_with (joined_value text)) d e (λ m new k. given_fit (joined_value text) m d e s new k) h

abbrev letter_with : List ℕ → Meaning → Draft → Result Draft Stop
letter_with rest m d = cond (is_flag m || is_empty rest) (and_then (read_letters rest) (alone m d)) (set_value m (without_equals rest) d)

flag_then : (f : Flag) (rest : List ℕ) (d e : Draft) → Still d → has_flag f d ≡ false → ((x : Draft) → Still x → read_letters rest x ≡ Ok e → Fit e)
    → (r : Result Draft Stop) → set_flag f d ≡ r → and_then (read_letters rest) r ≡ Ok e → Fit e
flag_then f rest d e s new more (Ok x) is h = more x (flag_still f d x s new is) h
flag_then f rest d e s new more (Err t) is h = cc

letter_fit : (rest : List ℕ) (m : Meaning) (d e : Draft) → Still d → repeats m d ≡ false → ((x : Draft) → Still x → read_letters rest x ≡ Ok e → Fit e)
    → letter_with rest m d ≡ Ok e → Fit e
letter_fit rest (Alone f) d e s new more h = flag_then f rest d e s new more (set_flag f d) refl h
letter_fit [] (Once o) d e s new more h = alone_fit (Once o) d e s new h
letter_fit [] (Many l) d e s new more h = alone_fit (Many l) d e s new h
letter_fit (c ∷ cs) (Once o) d e s new more h = still_fit e (value_still (Once o) (without_equals (c ∷ cs)) d e s (room (Once o) d new) h)
letter_fit (c ∷ cs) (Many l) d e s new more h = still_fit e (value_still (Many l) (without_equals (c ∷ cs)) d e s refl h)

letters_fit : (letters : List ℕ) (d e : Draft) → Still d → read_letters letters d ≡ Ok e → Fit e
letters_fit [] d e s h = still_fit e (made d e h s)
letters_fit (letter ∷ rest) d e s h =
    allowed_fit (by_letter (options d.phase) letter) (letter_with rest) d e (λ m new k. letter_fit rest m d e s new (λ x t j. letters_fit rest x e t j) k) h

dashed_fit : (long letters : Option (List ℕ)) (d e : Draft) → Still d → read_dashed long letters d ≡ Ok e → Fit e
dashed_fit (Some text) letters d e s h = long_fit text d e s h
dashed_fit None (Some letters) d e s h = letters_fit letters d e s h
dashed_fit None None d e s h = cc

begun_still : (b : Bool) (d e : Draft) → Still d → begun_generate b d ≡ Ok e → Still e
begun_still true d e s h = made (record d { phase = Generate }) e h s
begun_still false d e s h = cc

to_phase : (name word : List ℕ) (p : Phase) (d e : Draft) (next : Result Draft Stop) → Still d → (next ≡ Ok e → Still e)
    → cond (bytes_eq word name) (ok (record d { phase = p })) next ≡ Ok e → Still e
to_phase name word p d e next s more h =
    either_of (Still e) (bytes_eq word name) (ok (record d { phase = p })) next e (λ k. made (record d { phase = p }) e k s) more h

command_still : (word : List ℕ) (d e : Draft) → Still d → begun word d ≡ Ok e → Still e
command_still word d e s h =
    either_of (Still e) (has_baseline d) (Err stop.Wrong) _ e (refused (Still e) stop.Wrong e)
    (to_phase (codes "fix") word Fix d e _ s (to_phase (codes "bin") word Bin d e _ s (to_phase (codes "plan") word Plan d e _ s
    (to_phase (codes "vendor") word Vendor d e _ s
    (either_of (Still e) (bytes_eq word (codes "generate")) (begun_generate (is_bare d.audit) d) (Err stop.Wrong) e
    (begun_still (is_bare d.audit) d e s) (refused (Still e) stop.Wrong e)))))) h

folder_still : (crates to : Option (List ℕ)) (word : List ℕ) (d e : Draft) → Still d → with_folder crates to word d ≡ Ok e → Still e
folder_still None to word d e s h = made (record d { vendor_crates = Some (plain_path word) }) e h s
folder_still (Some crates) None word d e s h = option_still (unless_empty word) (λ to. record d { vendor_to = Some (plain_path to) }) e (λ to. s) h
folder_still (Some crates) (Some to) word d e s h = cc

plain_still : (p : Phase) (word : List ℕ) (d e : Draft) → Still d → read_plain p word d ≡ Ok e → Still e
plain_still Before word d e s h = to_phase (codes "audit") word Audit d e (Err stop.Wrong) s (refused (Still e) stop.Wrong e) h
plain_still Audit word d e s h = command_still word d e s h
plain_still Fix word d e s h = cc
plain_still Plan word d e s h = cc
plain_still Vendor word d e s h = folder_still d.vendor_crates d.vendor_to word d e s h
plain_still Bin word d e s h = made (with_path word d) e h s
plain_still Paths word d e s h = made (with_path word d) e h s
plain_still Generate word d e s h = option_still (packages_of word) (λ n. record d { phase = Generated n }) e (λ n. s) h
plain_still (Generated n) word d e s h = cc

fresh_fit : (word : List ℕ) (d e : Draft) → Still d → read_fresh word d ≡ Ok e → Fit e
fresh_fit word d e s h =
    either_of (Fit e) (is_option word && has_options d.phase) (read_option word d) (read_plain d.phase word d) e
    (λ k. dashed_fit (after (codes "--") word) (after (codes "-") word) d e s k) (λ k. still_fit e (plain_still d.phase word d e s k)) h

awaited_fit : (o : Option Meaning) (word : List ℕ) (d e : Draft) → d.awaited ≡ o → Fit d → read_awaited o word d ≡ Ok e → Fit e
awaited_fit None word d e is f h = fresh_fit word d e (f.0, is) h
awaited_fit (Some m) word d e is f h =
    let free : HasRoom m d = ap (λ (o : Option Meaning). waits o && replaces_report d) (sym is) ∙ f.1 in
    either_of (Fit e) (is_option word) (Err stop.Missing) (set_value m word (record d { awaited = None })) e (refused (Fit e) stop.Missing e)
    (λ k. still_fit e (value_still m word (record d { awaited = None }) e (f.0, refl) free k)) h

-- ---- all words

then_fit : (words : List (List ℕ)) (r : Result Draft Stop) (e : Draft) → ((x : Draft) → r ≡ Ok x → Fit x) → ((x : Draft) → Fit x → drafted words x ≡ Ok e → Fit e)
    → and_then (drafted words) r ≡ Ok e → Fit e
then_fit words (Ok x) e one more h = more x (one x refl) h
then_fit words (Err s) e one more h = cc

words_fit : (words : List (List ℕ)) (d e : Draft) → Fit d → drafted words d ≡ Ok e → Fit e
words_fit [] d e f h = made_fit d e h f
words_fit (word ∷ words) d e f h =
    then_fit words (read_word word d) e (λ x k. awaited_fit d.awaited word d x refl f k) (λ x g k. words_fit words x e g k) h

-- a command with a baseline has no verdicts
abbrev alone_there : Command → Bool
alone_there (command.Baseline a path) = not a.verdicts
alone_there (command.WriteBaseline a path) = not a.verdicts
alone_there _ = true

abbrev ended_well : Command → Result Command Stop
ended_well c = Ok c

same_command : (x c : Command) → ended_well x ≡ ended_well c → x ≡ c
same_command x c h = cc

said : (x c : Command) → ended_well x ≡ Ok c → alone_there x ≡ true → alone_there c ≡ true
said x c h t = sym (ap alone_there (same_command x c h)) ∙ t

unset : (t : Bool) → (t && true) ≡ false → not t ≡ true
unset true h = cc
unset false h = refl

audit_said : (b w : Option (List ℕ)) (a : AuditCommand) → (a.verdicts && (is_some b || is_some w)) ≡ false → alone_there (audit_command b w a) ≡ true
audit_said (Some path) w a h = unset a.verdicts h
audit_said None (Some path) a h = unset a.verdicts h
audit_said None None a h = refl

vendor_said : (crates to : Option (List ℕ)) (a : AuditCommand) (c : Command) → vendor_command crates to a ≡ Ok c → alone_there c ≡ true
vendor_said None to a c h = cc
vendor_said (Some crates) None a c h = cc
vendor_said (Some crates) (Some to) a c h = said (command.Vendor a (record { crates = crates; to = to })) c h refl

bin_said : (b : Bool) (x c : Command) → alone_there x ≡ true → cond b (Err stop.Wrong) (ended_well x) ≡ Ok c → alone_there c ≡ true
bin_said true x c t h = cc
bin_said false x c t h = said x c h t

made_said : (b : Bool) (n : ℕ) (c : Command) → cond b (ended_well (command.Generate n)) (Err stop.Wrong) ≡ Ok c → alone_there c ≡ true
made_said true n c h = said (command.Generate n) c h refl
made_said false n c h = cc

phase_said : (p : Phase) (e : Draft) (c : Command) → Lone e → finish_phase p e ≡ Ok c → alone_there c ≡ true
phase_said Before e c l h = cc
phase_said Audit e c l h = said (audit_command e.baseline e.write_baseline e.audit) c h (audit_said e.baseline e.write_baseline e.audit l)
phase_said Fix e c l h = said (command.Fix e.audit e.fix) c h refl
phase_said Plan e c l h = said (command.Plan e.audit) c h refl
phase_said Vendor e c l h = vendor_said e.vendor_crates e.vendor_to e.audit c h
phase_said Bin e c l h = bin_said (is_empty e.bin.binary_paths) (command.Bin e.audit e.bin) c refl h
phase_said Paths e c l h = bin_said (is_empty e.bin.binary_paths) (command.Bin e.audit e.bin) c refl h
phase_said Generate e c l h = cc
phase_said (Generated n) e c l h = made_said (is_makeable n) n c h

finish_said : (o : Option Meaning) (e : Draft) (c : Command) → Lone e → finish_awaited o e ≡ Ok c → alone_there c ≡ true
finish_said None e c l h = phase_said e.phase e c l h
finish_said (Some m) e c l h = cc

answer_said : (s : Stop) (c : Command) → ended 0 s ≡ Ok c → alone_there c ≡ true
answer_said stop.Help c h = let same : ended_well command.Help ≡ Ok c = cc in said command.Help c same refl
answer_said stop.Version c h = let same : ended_well command.Version ≡ Ok c = cc in said command.Version c same refl
answer_said stop.Wrong c h = cc
answer_said stop.Missing c h = cc
answer_said stop.NoMemory c h = cc

end_said : (r : Result Command Stop) (c : Command) → ((x : Command) → r ≡ Ok x → alone_there x ≡ true) → unless_ended 0 (λ x. Ok x) r ≡ Ok c → alone_there c ≡ true
end_said (Ok x) c more h = let same : ended_well x ≡ Ok c = cc in said x c same (more x refl)
end_said (Err s) c more h = answer_said s c h

closed_said : (words : List (List ℕ)) (r : Result Draft Stop) (c : Command) → drafted words start ≡ r → closed r ≡ Ok c → alone_there c ≡ true
closed_said words (Ok e) c is h =
    let f : Fit e = words_fit words start e (refl, refl) is in
    end_said (finish e) c (λ x k. finish_said e.awaited e x f.0 k) h
closed_said words (Err s) c is h = answer_said s c h

command_said : (words : List (List ℕ)) (c : Command) → command_of words ≡ Ok c → alone_there c ≡ true
command_said words c h = closed_said words (drafted words start) c refl (to_drafted 0 words start c h)

is_unset : (t : Bool) → not t ≡ true → t ≡ false
is_unset true h = cc
is_unset false h = refl

pub no_verdicts_beside : (words : List (List ℕ)) (a : AuditCommand) (path : List ℕ) → command_of words ≡ Ok (command.Baseline a path) → a.verdicts ≡ false
no_verdicts_beside words a path h = is_unset a.verdicts (command_said words (command.Baseline a path) h)

pub no_verdicts_written : (words : List (List ℕ)) (a : AuditCommand) (path : List ℕ) → command_of words ≡ Ok (command.WriteBaseline a path) → a.verdicts ≡ false
no_verdicts_written words a path h = is_unset a.verdicts (command_said words (command.WriteBaseline a path) h)
