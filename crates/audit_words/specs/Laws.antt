-- What holds of the meaning of the arguments.
use Rattle.std.specs.Prelude.{◌≡◌, ℕ, List, [], ◌∷◌, Bool, true, false, Option, Some, None, Result, Ok}
use Rattle.audit_words.specs.Options.{by_letter, by_long, is_flag, options}
use Rattle.audit_words.specs.Values.{is_empty, without_equals}
use Rattle.audit_words.specs.Reading.{allowed, alone, and_then, read_word, set_value}
use Rattle.audit_words.specs.declared.options.Flag.TheVariants.{Help, Version, Verdicts, PathsFollow}
use Rattle.audit_words.specs.declared.options.Single.TheVariants.{Baseline, WriteBaseline}
use Rattle.audit_words.specs.declared.options.Meaning.{Meaning}
use Rattle.audit_words.specs.declared.options.Meaning.TheVariants.{Alone, Once, Many}
use Rattle.audit_words.specs.declared.commands.Command.{Command}
use Rattle.audit_words.specs.declared.commands.Command.TheVariants as command
use Rattle.audit_words.specs.declared.drafts.Draft.{Draft}
use Rattle.audit_words.specs.declared.drafts.Stop.{Stop}

-- the draft that words make from a draft, one after the other
abbrev pub drafted : List (List ℕ) → Draft → Result Draft Stop
drafted [] d = Ok d
drafted (word ∷ words) d = and_then (drafted words) (read_word word d)

-- the draft with an option's value, unless the option is repeated against the rule
abbrev pub given : Meaning → List ℕ → Draft → Result Draft Stop
given m v d = and_then (λ n. set_value n v d) (allowed (Some m) d)

-- an option with value by its long name, if a word may be an option
pub record IsNamed (d : Draft) (name : List ℕ) (m : Meaning) : Type 0 where
  pub free : d.awaited ≡ None
  pub known : by_long (options d.phase) name ≡ Some m
  pub valued : is_flag m ≡ false

-- the same by its letter
pub record IsLettered (d : Draft) (letter : ℕ) (m : Meaning) : Type 0 where
  pub free : d.awaited ≡ None
  pub known : by_letter (options d.phase) letter ≡ Some m
  pub valued : is_flag m ≡ false

-- the value may come right after the letter
pub record CanJoin (v : List ℕ) : Type 0 where
  pub some : is_empty v ≡ false
  pub plain : without_equals v ≡ v

-- ---- order

-- an option that sets something: not help, not version, not the `--` of `bin`
abbrev pub is_setting : Meaning → Bool
is_setting (Alone Help) = false
is_setting (Alone Version) = false
is_setting (Alone PathsFollow) = false
is_setting _ = true

-- the draft with an option: a flag, or an option with this value
abbrev pub set_by : Meaning → List ℕ → Draft → Result Draft Stop
set_by (Alone f) v d = and_then (λ n. alone n d) (allowed (Some (Alone f)) d)
set_by (Once s) v d = given (Once s) v d
set_by (Many l) v d = given (Many l) v d

-- an option that replaces the report
abbrev pub replaces : Meaning → Bool
replaces (Alone Verdicts) = true
replaces (Once Baseline) = true
replaces (Once WriteBaseline) = true
replaces _ = false

-- ---- quiet

-- whether a command of `audit` is quiet; help, version and `generate` have no such option
abbrev pub was_quiet : Command → Option Bool
was_quiet command.Help = None
was_quiet command.Version = None
was_quiet (command.Audit a) = Some a.quiet
was_quiet (command.Fix a f) = Some a.quiet
was_quiet (command.Bin a b) = Some a.quiet
was_quiet (command.Plan a) = Some a.quiet
was_quiet (command.Baseline a path) = Some a.quiet
was_quiet (command.WriteBaseline a path) = Some a.quiet
was_quiet (command.Vendor a v) = Some a.quiet
was_quiet (command.Generate n) = None

-- the same command, quiet
abbrev pub quieted : Command → Command
quieted command.Help = command.Help
quieted command.Version = command.Version
quieted (command.Audit a) = command.Audit (record a { quiet = true })
quieted (command.Fix a f) = command.Fix (record a { quiet = true }) f
quieted (command.Bin a b) = command.Bin (record a { quiet = true }) b
quieted (command.Plan a) = command.Plan (record a { quiet = true })
quieted (command.Baseline a path) = command.Baseline (record a { quiet = true }) path
quieted (command.WriteBaseline a path) = command.WriteBaseline (record a { quiet = true }) path
quieted (command.Vendor a v) = command.Vendor (record a { quiet = true }) v
quieted (command.Generate n) = command.Generate n
