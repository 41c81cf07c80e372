-- What the arguments mean: they are read from the first on into a draft of the command.
use Rattle.std.specs.Prelude.{◌≡◌, ◌≢◌, ℕ, suc, ◌-◌, codes, List, [], ◌∷◌, ◌++◌, Bool, true, false, not, ◌&&◌, ◌||◌, bytes_eq, Option, Some, None, is_none, is_some, option_map, Result, Ok, Err, IfErr, if◌then◌else◌}
use Rattle.tame_names.specs.Paths.{plain_path}
use Rattle.audit_advisory.specs.Outputs.{deny_option_of, output_format_of}
use Rattle.audit_settings.specs.Commands.{no_option}
use Rattle.audit_settings.specs.declared.commands.AuditCommand.{AuditCommand}
use Rattle.audit_words.specs.Options.{options, by_long, by_letter, is_flag}
use Rattle.audit_words.specs.Values.{is_empty, color_of, unless_empty, number, is_makeable, packages_of, after, without_equals, name_part, joined_value}
use Rattle.audit_words.specs.declared.options.Phase.{Phase}
use Rattle.audit_words.specs.declared.options.Phase.TheVariants.{Before, Audit, Fix, Bin, Paths, Plan, Vendor, Generate, Generated}
use Rattle.audit_words.specs.declared.options.Flag.{Flag}
use Rattle.audit_words.specs.declared.options.Flag.TheVariants.{Help, Version, Verbose, NoYanked, NoFetch, Stale, Quiet, Json, Verdicts, DryRun, PathsFollow}
use Rattle.audit_words.specs.declared.options.Single.{Single}
use Rattle.audit_words.specs.declared.options.Single.TheVariants.{Color, Db, File, Url, Format, Baseline, WriteBaseline, FixFile, MaxBinarySize, AuditDataSizeLimit}
use Rattle.audit_words.specs.declared.options.Listed.{Listed}
use Rattle.audit_words.specs.declared.options.Listed.TheVariants.{Deny, Ignore, TargetArch, TargetOs}
use Rattle.audit_words.specs.declared.options.Meaning.{Meaning}
use Rattle.audit_words.specs.declared.options.Meaning.TheVariants.{Alone, Once, Many}
use Rattle.audit_words.specs.declared.drafts.Draft.{Draft}
use Rattle.audit_words.specs.declared.drafts.Stop.{Stop}
use Rattle.audit_words.specs.declared.drafts.Stop.TheVariants as stop
use Rattle.audit_words.specs.declared.commands.Command.{Command}
use Rattle.audit_words.specs.declared.commands.Command.TheVariants as command
use Rattle.audit_words.specs.declared.commands.WordsFault.{WordsFault}
use Rattle.audit_words.specs.declared.commands.WordsFault.TheVariants as fault

abbrev pub and_then : {A B E : Type 0} → (A → Result B E) → Result A E → Result B E
and_then f (Ok a) = f a
and_then f (Err e) = Err e

abbrev pub or_wrong : {A : Type 0} → Option A → Result A Stop
or_wrong None = Err stop.Wrong
or_wrong (Some a) = Ok a

-- nothing read
abbrev pub start : Draft
start = record {
  phase = Before;
  awaited = None;
  verbose = false;
  audit = no_option;
  baseline = None;
  write_baseline = None;
  fix = record { file = None; dry_run = false };
  bin = record { max_binary_size = None; audit_data_size_limit = None; binary_paths = [] };
  vendor_crates = None;
  vendor_to = None;
}

-- ---- what an option sets

-- the draft with a flag; help and version end the reading
abbrev pub set_flag : Flag → Draft → Result Draft Stop
set_flag Help d = Err stop.Help
set_flag Version d = Err stop.Version
set_flag Verbose d = Ok (record d { verbose = true })
set_flag NoYanked d = Ok (record d { audit = record d.audit { no_yanked = true } })
set_flag NoFetch d = Ok (record d { audit = record d.audit { no_fetch = true } })
set_flag Stale d = Ok (record d { audit = record d.audit { stale = true } })
set_flag Quiet d = Ok (record d { audit = record d.audit { quiet = true } })
set_flag Json d = Ok (record d { audit = record d.audit { output_json = true } })
set_flag Verdicts d = Ok (record d { audit = record d.audit { verdicts = true } })
set_flag DryRun d = Ok (record d { fix = record d.fix { dry_run = true } })
set_flag PathsFollow d = Ok (record d { phase = Paths })

-- whether `--baseline` or `--write-baseline` was met
abbrev pub has_baseline : Draft → Bool
has_baseline d = is_some d.baseline || is_some d.write_baseline

-- whether an option was met that replaces the report
abbrev pub replaces_report : Draft → Bool
replaces_report d = d.audit.verdicts || has_baseline d

-- whether a flag was met, or one that leaves it no room: only one option may replace the report
abbrev pub has_flag : Flag → Draft → Bool
has_flag Help d = false
has_flag Version d = false
has_flag Verbose d = d.verbose
has_flag NoYanked d = d.audit.no_yanked
has_flag NoFetch d = d.audit.no_fetch
has_flag Stale d = d.audit.stale
has_flag Quiet d = d.audit.quiet
has_flag Json d = d.audit.output_json
has_flag Verdicts d = replaces_report d
has_flag DryRun d = d.fix.dry_run
has_flag PathsFollow d = false

-- the draft with a value that may be given once, unless the option has no such value
abbrev pub set_single : Single → List ℕ → Draft → Option Draft
set_single Color v d =
    option_map (λ c. record d { audit = record d.audit { color = Some c } }) (color_of v)
set_single Db v d = Some (record d { audit = record d.audit { db = Some v } })
set_single File v d = Some (record d { audit = record d.audit { file = Some v } })
set_single Url v d = Some (record d { audit = record d.audit { url = Some v } })
set_single Format v d =
    option_map (λ f. record d { audit = record d.audit { output_format = Some f } })
    (output_format_of v)
set_single Baseline v d = Some (record d { baseline = Some v })
set_single WriteBaseline v d = Some (record d { write_baseline = Some v })
set_single FixFile v d = Some (record d { fix = record d.fix { file = Some v } })
set_single MaxBinarySize v d =
    option_map (λ n. record d { bin = record d.bin { max_binary_size = Some n } }) (number v)
set_single AuditDataSizeLimit v d =
    option_map (λ n. record d { bin = record d.bin { audit_data_size_limit = Some n } }) (number v)

-- whether such a value was met, or an option that leaves it no room
abbrev pub has_single : Single → Draft → Bool
has_single Color d = is_some d.audit.color
has_single Db d = is_some d.audit.db
has_single File d = is_some d.audit.file
has_single Url d = is_some d.audit.url
has_single Format d = is_some d.audit.output_format
has_single Baseline d = replaces_report d
has_single WriteBaseline d = replaces_report d
has_single FixFile d = is_some d.fix.file
has_single MaxBinarySize d = is_some d.bin.max_binary_size
has_single AuditDataSizeLimit d = is_some d.bin.audit_data_size_limit

-- the draft with one more value of a list, unless the option has no such value
abbrev pub add_listed : Listed → List ℕ → Draft → Option Draft
add_listed Deny v d =
    option_map
    (λ k. record d { audit = record d.audit { deny = d.audit.deny ++ k ∷ [] } })
    (deny_option_of v)
add_listed Ignore v d =
    option_map
    (λ t. record d { audit = record d.audit { ignore = d.audit.ignore ++ t ∷ [] } })
    (unless_empty v)
add_listed TargetArch v d =
    option_map
    (λ t. record d { audit = record d.audit { target_arch = d.audit.target_arch ++ t ∷ [] } })
    (unless_empty v)
add_listed TargetOs v d =
    option_map
    (λ t. record d { audit = record d.audit { target_os = d.audit.target_os ++ t ∷ [] } })
    (unless_empty v)

-- ---- one option

-- whether an option was met that may be given once, or one that leaves it no room
abbrev pub repeats : Meaning → Draft → Bool
repeats (Alone f) d = has_flag f d
repeats (Once s) d = has_single s d
repeats (Many l) d = false

-- the option, if there is one and it may be given after what was met
abbrev pub allowed : Option Meaning → Draft → Result Meaning Stop
allowed None d = Err stop.Wrong
allowed (Some m) d = if repeats m d then Err stop.Wrong else Ok m

-- an option without a value in its word: a flag is set, any other awaits its value in the next word
abbrev pub alone : Meaning → Draft → Result Draft Stop
alone (Alone f) d = set_flag f d
alone (Once s) d = Ok (record d { awaited = Some (Once s) })
alone (Many l) d = Ok (record d { awaited = Some (Many l) })

-- an option with a value; a flag has none
abbrev pub set_value : Meaning → List ℕ → Draft → Result Draft Stop
set_value (Alone f) v d = Err stop.Wrong
set_value (Once s) v d = or_wrong (set_single s v d)
set_value (Many l) v d = or_wrong (add_listed l v d)

-- ---- one word

-- a word that begins with `-` and isn't `-`
abbrev pub is_option : List ℕ → Bool
is_option word = is_some (after (codes "-") word) && not (bytes_eq word (codes "-"))

abbrev pub long_given : Meaning → Option (List ℕ) → Draft → Result Draft Stop
long_given m None d = alone m d
long_given m (Some v) d = set_value m v d

-- `--name` or `--name=value`, after its dashes
abbrev pub read_long : List ℕ → Draft → Result Draft Stop
read_long text d =
    and_then
    (λ m. long_given m (joined_value text) d)
    (allowed (by_long (options d.phase) (name_part text)) d)

-- the letters after a dash: flags may be joined; a letter with value takes the rest, if any
abbrev pub read_letters : List ℕ → Draft → Result Draft Stop
read_letters [] d = Ok d
read_letters (letter ∷ rest) d =
    and_then
    (λ m. if is_flag m || is_empty rest then and_then (read_letters rest) (alone m d)
    else set_value m (without_equals rest) d)
    (allowed (by_letter (options d.phase) letter) d)

abbrev pub read_dashed : Option (List ℕ) → Option (List ℕ) → Draft → Result Draft Stop
read_dashed (Some text) letters d = read_long text d
read_dashed None (Some letters) d = read_letters letters d
read_dashed None None d = Err stop.Wrong

abbrev pub read_option : List ℕ → Draft → Result Draft Stop
read_option word d = read_dashed (after (codes "--") word) (after (codes "-") word) d

abbrev pub with_path : List ℕ → Draft → Draft
with_path word d =
    record d { bin = record d.bin { binary_paths = d.bin.binary_paths ++ word ∷ [] } }

-- no option of `audit` was given
abbrev pub is_bare : AuditCommand → Bool
is_bare a =
    is_none a.color && (is_none a.db && (is_empty a.deny && (is_none a.file && (is_empty a.ignore
    && (not a.no_yanked && (not a.no_fetch && (not a.stale && (is_empty a.target_arch
    && (is_empty a.target_os && (is_none a.url && (not a.quiet && (is_none a.output_format
    && (not a.output_json && not a.verdicts)))))))))))))

-- `generate` follows `audit` directly
abbrev pub begun_generate : Bool → Draft → Result Draft Stop
begun_generate true d = Ok (record d { phase = Generate })
begun_generate false d = Err stop.Wrong

-- the command that follows `audit` and its options; none follows an option of a baseline
abbrev pub begun : List ℕ → Draft → Result Draft Stop
begun word d =
    if has_baseline d then Err stop.Wrong
    else if bytes_eq word (codes "fix") then Ok (record d { phase = Fix })
    else if bytes_eq word (codes "bin") then Ok (record d { phase = Bin })
    else if bytes_eq word (codes "plan") then Ok (record d { phase = Plan })
    else if bytes_eq word (codes "vendor") then Ok (record d { phase = Vendor })
    else if bytes_eq word (codes "generate") then begun_generate (is_bare d.audit) d
    else Err stop.Wrong

-- the next folder of `vendor`, if these were met: first that of the crate files, then that of
-- the registry, which isn't empty; the slashes at their ends don't count
abbrev pub with_folder : Option (List ℕ) → Option (List ℕ) → List ℕ → Draft → Result Draft Stop
with_folder None to word d = Ok (record d { vendor_crates = Some (plain_path word) })
with_folder (Some crates) None word d =
    or_wrong (option_map (λ to. record d { vendor_to = Some (plain_path to) }) (unless_empty word))
with_folder (Some crates) (Some to) word d = Err stop.Wrong

-- a word that is no option
abbrev pub read_plain : Phase → List ℕ → Draft → Result Draft Stop
read_plain Before word d =
    if bytes_eq word (codes "audit") then Ok (record d { phase = Audit }) else Err stop.Wrong
read_plain Audit word d = begun word d
read_plain Fix word d = Err stop.Wrong
read_plain Plan word d = Err stop.Wrong
read_plain Vendor word d = with_folder d.vendor_crates d.vendor_to word d
read_plain Bin word d = Ok (with_path word d)
read_plain Paths word d = Ok (with_path word d)
read_plain Generate word d =
    or_wrong (option_map (λ n. record d { phase = Generated n }) (packages_of word))
read_plain (Generated n) word d = Err stop.Wrong

-- after the `--` of `bin`, and after `generate`, no word is an option
abbrev pub has_options : Phase → Bool
has_options Before = true
has_options Audit = true
has_options Fix = true
has_options Bin = true
has_options Plan = true
has_options Vendor = true
has_options Paths = false
has_options Generate = false
has_options (Generated n) = false

-- a word that is an option, or another
abbrev pub read_fresh : List ℕ → Draft → Result Draft Stop
read_fresh word d =
    if is_option word && has_options d.phase then read_option word d else read_plain d.phase word d

-- a word, if a value may be awaited; an option is no value
abbrev pub read_awaited : Option Meaning → List ℕ → Draft → Result Draft Stop
read_awaited None word d = read_fresh word d
read_awaited (Some m) word d =
    if is_option word then Err stop.Missing else set_value m word (record d { awaited = None })

abbrev pub read_word : List ℕ → Draft → Result Draft Stop
read_word word d = read_awaited d.awaited word d

-- ---- all words

-- `audit` alone, or with its baseline
abbrev pub audit_command : Option (List ℕ) → Option (List ℕ) → AuditCommand → Command
audit_command (Some path) written a = command.Baseline a path
audit_command None (Some path) a = command.WriteBaseline a path
audit_command None None a = command.Audit a

-- `vendor` with its folders
abbrev pub vendor_command : Option (List ℕ) → Option (List ℕ) → AuditCommand → Result Command Stop
vendor_command None to a = Err stop.Wrong
vendor_command (Some crates) None a = Err stop.Wrong
vendor_command (Some crates) (Some to) a =
    Ok (command.Vendor a (record { crates = crates; to = to }))

abbrev pub finish_phase : Phase → Draft → Result Command Stop
finish_phase Before d = Err stop.Wrong
finish_phase Audit d = Ok (audit_command d.baseline d.write_baseline d.audit)
finish_phase Fix d = Ok (command.Fix d.audit d.fix)
finish_phase Plan d = Ok (command.Plan d.audit)
finish_phase Vendor d = vendor_command d.vendor_crates d.vendor_to d.audit
finish_phase Bin d =
    if is_empty d.bin.binary_paths then Err stop.Wrong else Ok (command.Bin d.audit d.bin)
finish_phase Paths d =
    if is_empty d.bin.binary_paths then Err stop.Wrong else Ok (command.Bin d.audit d.bin)
finish_phase Generate d = Err stop.Wrong
finish_phase (Generated n) d =
    if is_makeable n then Ok (command.Generate n) else Err stop.Wrong

abbrev pub finish_awaited : Option Meaning → Draft → Result Command Stop
finish_awaited None d = finish_phase d.phase d
finish_awaited (Some m) d = Err stop.Missing

-- the command, when the words end
abbrev pub finish : Draft → Result Command Stop
finish d = finish_awaited d.awaited d

-- the reading is ended at a position: help and version answer; a missing value is at its option's
-- position
abbrev pub ended : ℕ → Stop → Result Command WordsFault
ended place stop.Help = Ok command.Help
ended place stop.Version = Ok command.Version
ended place stop.Wrong = Err (fault.Usage place)
ended place stop.Missing = Err (fault.Usage (place - 1))
ended place stop.NoMemory = Err fault.NoMemory

-- goes on, unless the reading is ended at a position
abbrev pub unless_ended : {A : Type 0} → ℕ → (A → Result Command WordsFault) → Result A Stop
    → Result Command WordsFault
unless_ended place more (Ok a) = more a
unless_ended place more (Err s) = ended place s

-- the words from a position on, after this draft
abbrev pub read_from : ℕ → List (List ℕ) → Draft → Result Command WordsFault
read_from place [] d = unless_ended place (λ c. Ok c) (finish d)
read_from place (word ∷ words) d =
    unless_ended place (read_from (suc place) words) (read_word word d)

-- the command that the words mean, or the position of the first that breaks a rule
abbrev pub command_of : List (List ℕ) → Result Command WordsFault
command_of words = read_from 0 words start

-- the option of the first letter
abbrev pub first_meaning : Phase → List ℕ → Option Meaning
first_meaning phase [] = None
first_meaning phase (letter ∷ rest) = by_letter (options phase) letter

-- what a call refuses, the definition refuses, unless it is out of memory
abbrev pub Refuses : {A B : Type 0} → Result A Stop → Result B Stop → Type 0
Refuses result meaning = IfErr result (λ e. e ≢ stop.NoMemory → meaning ≡ Err e)
