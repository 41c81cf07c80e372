-- What an option writes into the draft: a line of `write` for each option. In what follows, and in Keeps,
-- Lone, Order and Quiet, only an option that does more than write its value has a line of its own.
use Rattle.std.proofs.Common.{◌≡◌, ℕ, List, [], ◌∷◌, ◌++◌, Bool, true, false, ◌&&◌, ◌||◌, Option, Some, is_some, option_map, refl, ap, ◌∙◌}
use Rattle.audit_advisory.specs.Outputs.{deny_option_of, output_format_of}
use Rattle.audit_advisory.specs.declared.outputs.DenyOption.{DenyOption}
use Rattle.audit_advisory.specs.declared.outputs.DenyOption.TheVariants as deny
use Rattle.audit_advisory.specs.declared.outputs.OutputFormat.{OutputFormat}
use Rattle.audit_advisory.specs.declared.outputs.OutputFormat.TheVariants as format
use Rattle.audit_settings.specs.declared.commands.Color.{Color}
use Rattle.audit_settings.specs.declared.commands.Color.TheVariants as color
use Rattle.audit_words.specs.Values.{color_of, number, unless_empty}
use Rattle.audit_words.specs.Reading.{repeats, replaces_report}
use Rattle.audit_words.specs.Laws.{replaces}
use Rattle.audit_words.specs.declared.options.Flag.TheVariants.{Help, Version, Verbose, NoYanked, NoFetch, Stale, Quiet, Json, Verdicts, DryRun, PathsFollow}
use Rattle.audit_words.specs.declared.options.Single.TheVariants.{Color as OfColor, Db, File, Url, Format, Baseline, WriteBaseline, FixFile, MaxBinarySize, AuditDataSizeLimit}
use Rattle.audit_words.specs.declared.options.Listed.TheVariants.{Deny, Ignore, TargetArch, TargetOs}
use Rattle.audit_words.specs.declared.options.Meaning.{Meaning}
use Rattle.audit_words.specs.declared.options.Meaning.TheVariants.{Alone, Once, Many}
use Rattle.audit_words.specs.declared.drafts.Draft.{Draft}

-- a value of any option
pub record Value : Type 0 where
  pub colour : Color
  pub form : OutputFormat
  pub kind : DenyOption
  pub size : ℕ
  pub text : List ℕ

abbrev pub blank : Value
blank = record { colour = color.Auto; form = format.Terminal; kind = deny.Warnings; size = 0; text = [] }

abbrev pub colour_value : Color → Value
colour_value c = record blank { colour = c }

abbrev pub form_value : OutputFormat → Value
form_value f = record blank { form = f }

abbrev pub kind_value : DenyOption → Value
kind_value k = record blank { kind = k }

abbrev pub size_value : ℕ → Value
size_value n = record blank { size = n }

abbrev pub text_value : List ℕ → Value
text_value t = record blank { text = t }

-- the value that a string is for an option
abbrev pub value_of : Meaning → List ℕ → Option Value
value_of (Alone f) v = Some blank
value_of (Once OfColor) v = option_map colour_value (color_of v)
value_of (Once Format) v = option_map form_value (output_format_of v)
value_of (Once MaxBinarySize) v = option_map size_value (number v)
value_of (Once AuditDataSizeLimit) v = option_map size_value (number v)
value_of (Once s) v = Some (text_value v)
value_of (Many Deny) v = option_map kind_value (deny_option_of v)
value_of (Many l) v = option_map text_value (unless_empty v)

-- the draft with it
abbrev pub write : Meaning → Value → Draft → Draft
write (Alone Help) g d = d
write (Alone Version) g d = d
write (Alone PathsFollow) g d = d
write (Alone Verbose) g d = record d { verbose = true }
write (Alone NoYanked) g d = record d { audit = record d.audit { no_yanked = true } }
write (Alone NoFetch) g d = record d { audit = record d.audit { no_fetch = true } }
write (Alone Stale) g d = record d { audit = record d.audit { stale = true } }
write (Alone Quiet) g d = record d { audit = record d.audit { quiet = true } }
write (Alone Json) g d = record d { audit = record d.audit { output_json = true } }
write (Alone Verdicts) g d = record d { audit = record d.audit { verdicts = true } }
write (Alone DryRun) g d = record d { fix = record d.fix { dry_run = true } }
write (Once OfColor) g d = record d { audit = record d.audit { color = Some g.colour } }
write (Once Db) g d = record d { audit = record d.audit { db = Some g.text } }
write (Once File) g d = record d { audit = record d.audit { file = Some g.text } }
write (Once Url) g d = record d { audit = record d.audit { url = Some g.text } }
write (Once Format) g d = record d { audit = record d.audit { output_format = Some g.form } }
write (Once Baseline) g d = record d { baseline = Some g.text }
write (Once WriteBaseline) g d = record d { write_baseline = Some g.text }
write (Once FixFile) g d = record d { fix = record d.fix { file = Some g.text } }
write (Once MaxBinarySize) g d = record d { bin = record d.bin { max_binary_size = Some g.size } }
write (Once AuditDataSizeLimit) g d = record d { bin = record d.bin { audit_data_size_limit = Some g.size } }
write (Many Deny) g d = record d { audit = record d.audit { deny = d.audit.deny ++ g.kind ∷ [] } }
write (Many Ignore) g d = record d { audit = record d.audit { ignore = d.audit.ignore ++ g.text ∷ [] } }
write (Many TargetArch) g d = record d { audit = record d.audit { target_arch = d.audit.target_arch ++ g.text ∷ [] } }
write (Many TargetOs) g d = record d { audit = record d.audit { target_os = d.audit.target_os ++ g.text ∷ [] } }

-- whether another option was met stays as it was, unless both replace the report; the lines before the last
-- make the prover try each pair of options
pub untouched : (m n : Meaning) → (m ≡ n → ⊥) → (replaces m && replaces n) ≡ false → (g : Value) (d : Draft) → repeats n (write m g d) ≡ repeats n d
untouched (Alone Verbose) (Alone Verbose) ne apart g d = search
untouched (Once OfColor) (Once OfColor) ne apart g d = search
untouched (Many Deny) (Many Deny) ne apart g d = search
untouched m (Alone NoYanked) ne apart g d = search
untouched m (Once Db) ne apart g d = search
untouched m (Many Ignore) ne apart g d = search
untouched _ _ ne apart g d = search

or_true : (b : Bool) → (b || true) ≡ true
or_true true = refl
or_true false = refl

pub replaced : (m : Meaning) → replaces m ≡ true → (g : Value) (d : Draft) → replaces_report (write m g d) ≡ true
replaced (Alone Verdicts) h g d = refl
replaced (Once Baseline) h g d = or_true d.audit.verdicts
replaced (Once WriteBaseline) h g d = ap (λ b. d.audit.verdicts || b) (or_true (is_some d.baseline)) ∙ or_true d.audit.verdicts
replaced (Many Deny) h g d = cc
replaced _ h g d = cc

pub counted : (m : Meaning) → replaces m ≡ true → (d : Draft) → repeats m d ≡ replaces_report d
counted (Alone Verdicts) h d = refl
counted (Once Baseline) h d = refl
counted (Once WriteBaseline) h d = refl
counted (Many Deny) h d = cc
counted _ h d = cc

-- two options write in either order
pub swapped : (m n : Meaning) → (m ≡ n → ⊥) → (g h : Value) (d : Draft) → write n h (write m g d) ≡ write m g (write n h d)
swapped (Alone Verbose) (Alone Verbose) ne g h d = search
swapped (Once OfColor) (Once OfColor) ne g h d = search
swapped (Many Deny) (Many Deny) ne g h d = search
swapped m (Alone NoYanked) ne g h d = search
swapped m (Once Db) ne g h d = search
swapped m (Many Ignore) ne g h d = search
swapped _ _ ne g h d = search
