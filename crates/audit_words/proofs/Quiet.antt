-- A reading that ends without quiet is the same reading from a quiet draft.
use Rattle.std.proofs.Common.{◌≡◌, ℕ, ◌&&◌, List, [], ◌∷◌, ◌++◌, Bool, true, false, cond, Option, Some, None, option_map, Result, Ok, Err, codes, refl, sym, ap, subst, ◌∙◌, bytes_eq}
use Rattle.audit_advisory.specs.Outputs.{deny_option_of, output_format_of}
use Rattle.tame_names.specs.Paths.{plain_path}
use Rattle.audit_words.specs.Values.{after, color_of, is_empty, is_makeable, number, packages_of, unless_empty}
use Rattle.audit_words.specs.Reading.{add_listed, and_then, audit_command, begun, begun_generate, command_of, ended, finish, finish_awaited, finish_phase, has_baseline, has_options, is_bare, is_option, or_wrong, read_awaited, read_fresh, read_option, read_plain, read_word, set_single, set_value, start, unless_ended, vendor_command, with_folder, with_path}
use Rattle.audit_words.specs.Laws.{drafted, quieted, was_quiet}
use Rattle.audit_words.proofs.Places.{closed, drafted_append, from_drafted, to_drafted}
use Rattle.audit_words.specs.declared.options.Phase.{Phase}
use Rattle.audit_words.specs.declared.options.Phase.TheVariants.{Before, Audit, Fix, Bin, Paths, Plan, Vendor, Generate, Generated}
use Rattle.audit_words.specs.declared.options.Single.{Single}
use Rattle.audit_words.specs.declared.options.Single.TheVariants.{Color, Format, MaxBinarySize, AuditDataSizeLimit}
use Rattle.audit_words.specs.declared.options.Listed.{Listed}
use Rattle.audit_words.specs.declared.options.Listed.TheVariants.{Deny, Ignore, TargetArch, TargetOs}
use Rattle.audit_words.specs.declared.options.Meaning.{Meaning}
use Rattle.audit_words.specs.declared.options.Meaning.TheVariants.{Alone, Once, Many}
use Rattle.audit_words.specs.declared.commands.Command.{Command}
use Rattle.audit_words.specs.declared.commands.Command.TheVariants as command
use Rattle.audit_words.specs.declared.drafts.Draft.{Draft}
use Rattle.audit_words.specs.declared.drafts.Stop.{Stop}
use Rattle.audit_words.specs.declared.drafts.Stop.TheVariants as stop
use Rattle.audit_words.proofs.Keeps.{keeps_dashed, keeps_value, ok, quiet, same_draft}

-- ---- words, if nothing is generated

abbrev generates : Phase → Bool
generates Before = false
generates Audit = false
generates Fix = false
generates Bin = false
generates Plan = false
generates Vendor = false
generates Paths = false
generates Generate = true
generates (Generated n) = true

-- the draft is no `generate`, and isn't quiet
abbrev Loud : Draft → Type 0
Loud d = (generates d.phase ≡ false) × (d.audit.quiet ≡ false)

abbrev pub KeepsWell : (Draft → Result Draft Stop) → Draft → Type 0
KeepsWell f d = (e : Draft) → f d ≡ Ok e → Loud e → Loud d × (f (quiet d) ≡ Ok (quiet e))

well_err : (s : Stop) (d : Draft) → KeepsWell (λ d. Err s) d
well_err s d e h l = cc

well_made : (g : Draft → Draft) (d : Draft) → generates d.phase ≡ false → d.audit.quiet ≡ (g d).audit.quiet → g (quiet d) ≡ quiet (g d)
    → KeepsWell (λ d. Ok (g d)) d
well_made g d none still commutes e h l =
    let made : g d ≡ e = same_draft (g d) e h in
    ((none, still ∙ ap (λ (x : Draft). x.audit.quiet) made ∙ l.1), ap Ok (commutes ∙ ap quiet made))

well_cond : (b : Bool) (f g : Draft → Result Draft Stop) (d : Draft) → KeepsWell f d → KeepsWell g d → KeepsWell (λ d. cond b (f d) (g d)) d
well_cond true f g d kf kg = kf
well_cond false f g d kf kg = kg

well_case : (f : Draft → Result Draft Stop) (g : Draft → Result Draft Stop) (d : Draft) → ((x : Draft) → KeepsWell f x) → KeepsWell g d
    → (r : Result Draft Stop) → g d ≡ r → (e : Draft) → and_then f r ≡ Ok e → Loud e → Loud d × (and_then f (g (quiet d)) ≡ Ok (quiet e))
well_case f g d kf kg (Ok x) s e h l =
    let after_f : Loud x × (f (quiet x) ≡ Ok (quiet e)) = kf x e h l in
    let after_g : Loud d × (g (quiet d) ≡ Ok (quiet x)) = kg x s after_f.0 in
    (after_g.0, ap (and_then f) after_g.1 ∙ after_f.1)
well_case f g d kf kg (Err s) t e h l = cc

well_then : (f g : Draft → Result Draft Stop) (d : Draft) → ((x : Draft) → KeepsWell f x) → KeepsWell g d → KeepsWell (λ d. and_then f (g d)) d
well_then f g d kf kg e h l = well_case f g d kf kg (g d) refl e h l

not_loud : (X : Type 0) (d e : Draft) → ok d ≡ Ok e → generates d.phase ≡ true → Loud e → X
not_loud X d e h made_here l =
    let made : d ≡ e = same_draft d e h in
    let both : true ≡ false = sym made_here ∙ ap (λ (x : Draft). generates x.phase) made ∙ l.0 in
    cc

begun_case : (X : Type 0) (b : Bool) (d e : Draft) → begun_generate b d ≡ Ok e → Loud e → X
begun_case X true d e h l = not_loud X (record d { phase = Generate }) e h refl l
begun_case X false d e h l = cc

counted_case : (X : Type 0) (o : Option ℕ) (d e : Draft) → or_wrong (option_map (λ n. record d { phase = Generated n }) o) ≡ Ok e → Loud e → X
counted_case X (Some n) d e h l = not_loud X (record d { phase = Generated n }) e h refl l
counted_case X None d e h l = cc

abbrev Step : Type 0
Step = Draft → Result Draft Stop

-- the commands after `audit`, one after the other
abbrev at_generate : List ℕ → Step
at_generate word d = cond (bytes_eq word (codes "generate")) (begun_generate (is_bare d.audit) d) (Err stop.Wrong)

abbrev at_vendor : List ℕ → Step
at_vendor word d = cond (bytes_eq word (codes "vendor")) (ok (record d { phase = Vendor })) (at_generate word d)

abbrev at_plan : List ℕ → Step
at_plan word d = cond (bytes_eq word (codes "plan")) (ok (record d { phase = Plan })) (at_vendor word d)

abbrev at_bin : List ℕ → Step
at_bin word d = cond (bytes_eq word (codes "bin")) (ok (record d { phase = Bin })) (at_plan word d)

abbrev at_fix : List ℕ → Step
at_fix word d = cond (bytes_eq word (codes "fix")) (ok (record d { phase = Fix })) (at_bin word d)

well_at : (word name : List ℕ) (p : Phase) (next : Step) (d : Draft) → generates d.phase ≡ false → KeepsWell next d
    → KeepsWell (λ d. cond (bytes_eq word name) (ok (record d { phase = p })) (next d)) d
well_at word name p next d none more =
    well_cond (bytes_eq word name) (λ d. ok (record d { phase = p })) next d (well_made (λ d. record d { phase = p }) d none refl refl) more

well_generate : (word : List ℕ) (d : Draft) → KeepsWell (at_generate word) d
well_generate word d =
    well_cond (bytes_eq word (codes "generate")) (λ d. begun_generate (is_bare d.audit) d) (λ d. Err stop.Wrong) d
    (λ e h l. begun_case (Loud d × (begun_generate (is_bare (quiet d).audit) (quiet d) ≡ Ok (quiet e))) (is_bare d.audit) d e h l) (well_err stop.Wrong d)

well_begun : (word : List ℕ) (d : Draft) → generates d.phase ≡ false → KeepsWell (begun word) d
well_begun word d none =
    well_cond (has_baseline d) (λ d. Err stop.Wrong) (at_fix word) d (well_err stop.Wrong d)
    (well_at word (codes "fix") Fix (at_bin word) d none
    (well_at word (codes "bin") Bin (at_plan word) d none
    (well_at word (codes "plan") Plan (at_vendor word) d none
    (well_at word (codes "vendor") Vendor (at_generate word) d none (well_generate word d)))))

-- the folders are those of the quiet draft too
well_folder : (crates to : Option (List ℕ)) (word : List ℕ) (d : Draft) → generates d.phase ≡ false → KeepsWell (with_folder crates to word) d
well_folder None to word d none = well_made (λ d. record d { vendor_crates = Some (plain_path word) }) d none refl refl
well_folder (Some crates) None [] d none = well_err stop.Wrong d
well_folder (Some crates) None (b ∷ bs) d none = well_made (λ d. record d { vendor_to = Some (plain_path (b ∷ bs)) }) d none refl refl
well_folder (Some crates) (Some to) word d none = well_err stop.Wrong d

well_plain : (p : Phase) (word : List ℕ) (d : Draft) → generates d.phase ≡ generates p → KeepsWell (read_plain p word) d
well_plain Before word d same =
    well_cond (bytes_eq word (codes "audit")) (λ d. ok (record d { phase = Audit })) (λ d. Err stop.Wrong) d
    (well_made (λ d. record d { phase = Audit }) d same refl refl) (well_err stop.Wrong d)
well_plain Audit word d same = well_begun word d same
well_plain Vendor word d same = well_folder d.vendor_crates d.vendor_to word d same
well_plain Fix word d same = well_err stop.Wrong d
well_plain Plan word d same = well_err stop.Wrong d
well_plain Bin word d same = well_made (with_path word) d same refl refl
well_plain Paths word d same = well_made (with_path word) d same refl refl
well_plain Generate word d same = λ e h l.
    counted_case (Loud d × (read_plain Generate word (quiet d) ≡ Ok (quiet e))) (packages_of word) d e h l
well_plain (Generated n) word d same = well_err stop.Wrong d

options_generate_nothing : (p : Phase) → has_options p ≡ true → generates p ≡ false
options_generate_nothing Before h = refl
options_generate_nothing Audit h = refl
options_generate_nothing Fix h = refl
options_generate_nothing Bin h = refl
options_generate_nothing Plan h = refl
options_generate_nothing Vendor h = refl
options_generate_nothing Paths h = refl
options_generate_nothing Generate h = cc
options_generate_nothing (Generated n) h = cc

last_holds : (a b : Bool) → (a && b) ≡ true → b ≡ true
last_holds true b h = h
last_holds false b h = cc

fresh_case : (b : Bool) (word : List ℕ) (d : Draft) → (b ≡ true → generates d.phase ≡ false)
    → (e : Draft) → cond b (read_option word d) (read_plain d.phase word d) ≡ Ok e → Loud e
    → Loud d × (cond b (read_option word (quiet d)) (read_plain d.phase word (quiet d)) ≡ Ok (quiet e))
fresh_case true word d none e h l =
    let kept : (d.audit.quiet ≡ false) × (read_option word (quiet d) ≡ Ok (quiet e)) =
    keeps_dashed (after (codes "--") word) (after (codes "-") word) d e h l.1 in
    ((none refl, kept.0), kept.1)
fresh_case false word d none e h l = well_plain d.phase word d refl e h l

well_fresh : (word : List ℕ) (d : Draft) → KeepsWell (read_fresh word) d
well_fresh word d e h l =
    fresh_case (is_option word && has_options d.phase) word d
    (λ is. options_generate_nothing d.phase (last_holds (is_option word) (has_options d.phase) is)) e h l

-- ---- a value in the next word leaves the part of the arguments that is read

same_phase : (p : Phase) (d e : Draft) → ok d ≡ Ok e → d.phase ≡ p → e.phase ≡ p
same_phase p d e h is = sym (ap (λ (x : Draft). x.phase) (same_draft d e h)) ∙ is

option_phase : {A : Type 0} (p : Phase) (o : Option A) (g : A → Draft) (e : Draft) → ((a : A) → (g a).phase ≡ p)
    → or_wrong (option_map g o) ≡ Ok e → e.phase ≡ p
option_phase p None g e is h = cc
option_phase p (Some a) g e is h = same_phase p (g a) e h (is a)

single_phase : (s : Single) (v : List ℕ) (d e : Draft) → or_wrong (set_single s v d) ≡ Ok e → e.phase ≡ d.phase
single_phase Color v d e h = option_phase d.phase (color_of v) (λ c. record d { audit = record d.audit { color = Some c } }) e (λ c. refl) h
single_phase Format v d e h = option_phase d.phase (output_format_of v) (λ f. record d { audit = record d.audit { output_format = Some f } }) e (λ f. refl) h
single_phase MaxBinarySize v d e h = option_phase d.phase (number v) (λ n. record d { bin = record d.bin { max_binary_size = Some n } }) e (λ n. refl) h
single_phase AuditDataSizeLimit v d e h = option_phase d.phase (number v) (λ n. record d { bin = record d.bin { audit_data_size_limit = Some n } }) e (λ n. refl) h
single_phase _ v d e h = same_phase d.phase _ e h refl

listed_phase : (l : Listed) (v : List ℕ) (d e : Draft) → or_wrong (add_listed l v d) ≡ Ok e → e.phase ≡ d.phase
listed_phase Deny v d e h = option_phase d.phase (deny_option_of v) (λ k. record d { audit = record d.audit { deny = d.audit.deny ++ k ∷ [] } }) e (λ k. refl) h
listed_phase Ignore v d e h = option_phase d.phase (unless_empty v) (λ t. record d { audit = record d.audit { ignore = d.audit.ignore ++ t ∷ [] } }) e (λ t. refl) h
listed_phase TargetArch v d e h = option_phase d.phase (unless_empty v) (λ t. record d { audit = record d.audit { target_arch = d.audit.target_arch ++ t ∷ [] } }) e (λ t. refl) h
listed_phase TargetOs v d e h = option_phase d.phase (unless_empty v) (λ t. record d { audit = record d.audit { target_os = d.audit.target_os ++ t ∷ [] } }) e (λ t. refl) h

value_phase : (m : Meaning) (v : List ℕ) (d e : Draft) → set_value m v d ≡ Ok e → e.phase ≡ d.phase
value_phase (Alone f) v d e h = cc
value_phase (Once s) v d e h = single_phase s v d e h
value_phase (Many l) v d e h = listed_phase l v d e h

well_value : (m : Meaning) (word : List ℕ) (d : Draft) → KeepsWell (λ d. set_value m word (record d { awaited = None })) d
well_value m word d e h l =
    let kept : (d.audit.quiet ≡ false) × (set_value m word (quiet (record d { awaited = None })) ≡ Ok (quiet e)) =
    keeps_value m word (record d { awaited = None }) e h l.1 in
    let same : e.phase ≡ d.phase = value_phase m word (record d { awaited = None }) e h in
    ((sym (ap generates same) ∙ l.0, kept.0), kept.1)

well_awaited : (o : Option Meaning) (word : List ℕ) (d : Draft) → KeepsWell (read_awaited o word) d
well_awaited None word d = well_fresh word d
well_awaited (Some m) word d =
    well_cond (is_option word) (λ d. Err stop.Missing) (λ d. set_value m word (record d { awaited = None })) d (well_err stop.Missing d) (well_value m word d)

well_word : (word : List ℕ) (d : Draft) → KeepsWell (read_word word) d
well_word word d e h l = well_awaited d.awaited word d e h l

well_words : (words : List (List ℕ)) (d : Draft) → KeepsWell (drafted words) d
well_words [] d = λ e h l.
    let made : d ≡ e = same_draft d e h in
    let P : Draft → Type 0 = λ x. Loud x in
    (subst P (sym made) l, ap (λ (x : Draft). ok (quiet x)) made)
well_words (word ∷ words) d = well_then (drafted words) (read_word word) d (λ x. well_words words x) (well_word word d)

-- ---- the end

abbrev ended_well : Command → Result Command Stop
ended_well c = Ok c

same_command : (x c : Command) → ended_well x ≡ ended_well c → x ≡ c
same_command x c h = cc

some_quiet : (b : Bool) → Some b ≡ Some false → b ≡ false
some_quiet b h = cc

made_case : (e : Draft) (x c : Command) → was_quiet x ≡ Some e.audit.quiet → ended_well x ≡ Ok c → was_quiet c ≡ Some false
    → (e.audit.quiet ≡ false) × (ended_well (quieted x) ≡ Ok (quieted c))
made_case e x c was h q =
    let same : x ≡ c = same_command x c h in
    (some_quiet e.audit.quiet (sym was ∙ ap was_quiet same ∙ q), ap (λ y. ended_well (quieted y)) same)

bin_case : (b : Bool) (e : Draft) (c : Command) → cond b (Err stop.Wrong) (ended_well (command.Bin e.audit e.bin)) ≡ Ok c → was_quiet c ≡ Some false
    → (e.audit.quiet ≡ false) × (cond b (Err stop.Wrong) (ended_well (command.Bin (quiet e).audit e.bin)) ≡ Ok (quieted c))
bin_case true e c h q = cc
bin_case false e c h q = made_case e (command.Bin e.audit e.bin) c refl h q

audit_case : (b w : Option (List ℕ)) (e : Draft) (c : Command) → ended_well (audit_command b w e.audit) ≡ Ok c → was_quiet c ≡ Some false
    → (e.audit.quiet ≡ false) × (ended_well (audit_command b w (quiet e).audit) ≡ Ok (quieted c))
audit_case (Some path) w e c h q = made_case e (command.Baseline e.audit path) c refl h q
audit_case None (Some path) e c h q = made_case e (command.WriteBaseline e.audit path) c refl h q
audit_case None None e c h q = made_case e (command.Audit e.audit) c refl h q

vendor_case : (crates to : Option (List ℕ)) (e : Draft) (c : Command) → vendor_command crates to e.audit ≡ Ok c → was_quiet c ≡ Some false
    → (e.audit.quiet ≡ false) × (vendor_command crates to (quiet e).audit ≡ Ok (quieted c))
vendor_case None to e c h q = cc
vendor_case (Some crates) None e c h q = cc
vendor_case (Some crates) (Some to) e c h q = made_case e (command.Vendor e.audit (record { crates = crates; to = to })) c refl h q

-- a generated command has no quiet
generated_case : (X : Type 0) (b : Bool) (n : ℕ) (c : Command) → cond b (ended_well (command.Generate n)) (Err stop.Wrong) ≡ Ok c → was_quiet c ≡ Some false → X
generated_case X false n c h q = cc
generated_case X true n c h q =
    let same : command.Generate n ≡ c = same_command (command.Generate n) c h in
    let wrong : None ≡ Some false = ap was_quiet same ∙ q in
    cc

phase_case : (p : Phase) (e : Draft) (c : Command) → finish_phase p e ≡ Ok c → was_quiet c ≡ Some false
    → (generates p ≡ false) × ((e.audit.quiet ≡ false) × (finish_phase p (quiet e) ≡ Ok (quieted c)))
phase_case Before e c h q = cc
phase_case Audit e c h q = (refl, audit_case e.baseline e.write_baseline e c h q)
phase_case Fix e c h q = (refl, made_case e (command.Fix e.audit e.fix) c refl h q)
phase_case Plan e c h q = (refl, made_case e (command.Plan e.audit) c refl h q)
phase_case Vendor e c h q = (refl, vendor_case e.vendor_crates e.vendor_to e c h q)
phase_case Bin e c h q = (refl, bin_case (is_empty e.bin.binary_paths) e c h q)
phase_case Paths e c h q = (refl, bin_case (is_empty e.bin.binary_paths) e c h q)
phase_case Generate e c h q = cc
phase_case (Generated n) e c h q = generated_case _ (is_makeable n) n c h q

finish_case : (o : Option Meaning) (e : Draft) (c : Command) → finish_awaited o e ≡ Ok c → was_quiet c ≡ Some false
    → Loud e × (finish_awaited o (quiet e) ≡ Ok (quieted c))
finish_case None e c h q =
    let found = phase_case e.phase e c h q in
    ((found.0, found.1.0), found.1.1)
finish_case (Some m) e c h q = cc

-- a command that may be quiet is no answer for help or version
answer_case : (s : Stop) (c : Command) → ended 0 s ≡ Ok c → was_quiet c ≡ Some false → ⊥
answer_case stop.Help c h q = let both : ended 0 stop.Help ≡ Ok c = h in let same : command.Help ≡ c = cc in let wrong : None ≡ Some false = ap was_quiet same ∙ q in cc
answer_case stop.Version c h q = let both : ended 0 stop.Version ≡ Ok c = h in let same : command.Version ≡ c = cc in let wrong : None ≡ Some false = ap was_quiet same ∙ q in cc
answer_case stop.Wrong c h q = cc
answer_case stop.Missing c h q = cc
answer_case stop.NoMemory c h q = cc

end_case : (r : Result Command Stop) (c : Command) → unless_ended 0 (λ x. Ok x) r ≡ Ok c → was_quiet c ≡ Some false → r ≡ Ok c
end_case (Ok x) c h q = let same : x ≡ c = cc in ap ended_well same
end_case (Err s) c h q = absurd (answer_case s c h q)

closed_case : (words : List (List ℕ)) (d : Draft) (r : Result Draft Stop) (c : Command) → drafted words d ≡ r → closed r ≡ Ok c → was_quiet c ≡ Some false
    → Loud d × (closed (drafted words (quiet d)) ≡ Ok (quieted c))
closed_case words d (Ok e) c s h q =
    let finished : finish e ≡ Ok c = end_case (finish e) c h q in
    let end : Loud e × (finish (quiet e) ≡ Ok (quieted c)) = finish_case e.awaited e c finished q in
    let kept : Loud d × (drafted words (quiet d) ≡ Ok (quiet e)) = well_words words d e s end.0 in
    (kept.0, ap closed kept.1 ∙ ap (λ r. unless_ended 0 (λ (x : Command). Ok x) r) end.1)
closed_case words d (Err s) c t h q = absurd (answer_case s c h q)

-- ---- the word `-q`

read_there : (d : Draft) → d.audit.quiet ≡ false → read_word (codes "-q") (record d { phase = Audit; awaited = None }) ≡ ok (quiet (record d { phase = Audit; awaited = None }))
read_there d off = rw off refl

quiet_word : (d : Draft) → d.phase ≡ Audit → d.awaited ≡ None → d.audit.quiet ≡ false → read_word (codes "-q") d ≡ Ok (quiet d)
quiet_word d p free off =
    let x : Draft = record d { phase = Audit; awaited = None } in
    let same : d ≡ x = ap (λ (a : Phase). record d { phase = a }) p ∙ ap (λ (o : Option Meaning). record d { phase = Audit; awaited = o }) free in
    ap (read_word (codes "-q")) same ∙ read_there d off ∙ ap (λ (y : Draft). ok (quiet y)) (sym same)

pub quiet_anywhere : (front back : List (List ℕ)) (d : Draft) (c : Command) → drafted front start ≡ Ok d → d.phase ≡ Audit → d.awaited ≡ None
    → command_of (front ++ back) ≡ Ok c → was_quiet c ≡ Some false → command_of (front ++ (codes "-q" ∷ back)) ≡ Ok (quieted c)
quiet_anywhere front back d c h p free accepted q =
    let whole : drafted (front ++ back) start ≡ drafted back d = drafted_append front back start ∙ ap (and_then (drafted back)) h in
    let read : closed (drafted back d) ≡ Ok c = sym (ap closed whole) ∙ to_drafted 0 (front ++ back) start c accepted in
    let kept : Loud d × (closed (drafted back (quiet d)) ≡ Ok (quieted c)) = closed_case back d (drafted back d) c refl read q in
    let with_q : drafted (front ++ (codes "-q" ∷ back)) start ≡ drafted back (quiet d) =
    drafted_append front (codes "-q" ∷ back) start ∙ ap (and_then (drafted (codes "-q" ∷ back))) h
    ∙ ap (and_then (drafted back)) (quiet_word d p free kept.0.1) in
    from_drafted 0 (front ++ (codes "-q" ∷ back)) start (quieted c) (ap closed with_q ∙ kept.1)

pub quiet_behind_audit : (back : List (List ℕ)) (c : Command) → command_of (codes "audit" ∷ back) ≡ Ok c → was_quiet c ≡ Some false
    → command_of (codes "audit" ∷ codes "-q" ∷ back) ≡ Ok (quieted c)
quiet_behind_audit back c accepted q =
    quiet_anywhere (codes "audit" ∷ []) back (record start { phase = Audit }) c refl refl refl accepted q
