-- What is generated has 1 to 5,000 packages.
use Rattle.std.proofs.Common.{◌≡◌, ◌≤◌, ℕ, suc, List, [], ◌∷◌, Bool, true, false, cond, Option, Some, None, Result, Ok, Err, refl, sym, ap, ◌∙◌, arith}
use Rattle.std.proofs.lemmas.Grind.{common_steps}
use Rattle.audit_settings.specs.declared.commands.AuditCommand.{AuditCommand}
use Rattle.audit_words.specs.Reading.{audit_command, command_of, ended, finish, finish_awaited, finish_phase, read_from, read_word, start, unless_ended, vendor_command}
use Rattle.audit_words.specs.Values.{is_empty, is_makeable}
use Rattle.audit_words.specs.declared.commands.Command.{Command}
use Rattle.audit_words.specs.declared.commands.Command.TheVariants as command
use Rattle.audit_words.specs.declared.drafts.Draft.{Draft}
use Rattle.audit_words.specs.declared.drafts.Stop.{Stop}
use Rattle.audit_words.specs.declared.drafts.Stop.TheVariants as stop
use Rattle.audit_words.specs.declared.options.Meaning.{Meaning}
use Rattle.audit_words.specs.declared.options.Phase.{Phase}
use Rattle.audit_words.specs.declared.options.Phase.TheVariants.{Before, Audit, Fix, Bin, Paths, Plan, Vendor, Generate, Generated}

abbrev ended_well : Command → Result Command Stop
ended_well c = Ok c

abbrev Bounded : ℕ → Type 0
Bounded n = (1 ≤ n) × (n ≤ 5000)

makeable : (n : ℕ) → is_makeable n ≡ true → Bounded n
makeable n h = grind (arith, common_steps, h)

made_case : (b : Bool) (m n : ℕ) → b ≡ is_makeable m → cond b (Ok (command.Generate m)) (Err stop.Wrong) ≡ Ok (command.Generate n) → Bounded n
made_case true m n is h = let same : m ≡ n = cc in makeable n (sym (ap is_makeable same) ∙ sym is)
made_case false m n is h = cc

paths_case : (b : Bool) (c : Command) (n : ℕ) → (c ≡ command.Generate n → ⊥) → cond b (Err stop.Wrong) (Ok c) ≡ Ok (command.Generate n) → Bounded n
paths_case true c n other h = cc
paths_case false c n other h = let same : c ≡ command.Generate n = cc in absurd (other same)

audit_case : (b w : Option (List ℕ)) (a : AuditCommand) (n : ℕ) → ended_well (audit_command b w a) ≡ Ok (command.Generate n) → Bounded n
audit_case (Some path) w a n h = cc
audit_case None (Some path) a n h = cc
audit_case None None a n h = cc

vendor_case : (crates to : Option (List ℕ)) (a : AuditCommand) (n : ℕ) → vendor_command crates to a ≡ Ok (command.Generate n) → Bounded n
vendor_case None to a n h = cc
vendor_case (Some crates) None a n h = cc
vendor_case (Some crates) (Some to) a n h = cc

phase_case : (p : Phase) (d : Draft) (n : ℕ) → finish_phase p d ≡ Ok (command.Generate n) → Bounded n
phase_case Before d n h = cc
phase_case Audit d n h = audit_case d.baseline d.write_baseline d.audit n h
phase_case Fix d n h = cc
phase_case Plan d n h = cc
phase_case Vendor d n h = vendor_case d.vendor_crates d.vendor_to d.audit n h
phase_case Bin d n h = paths_case (is_empty d.bin.binary_paths) (command.Bin d.audit d.bin) n (λ no. cc) h
phase_case Paths d n h = paths_case (is_empty d.bin.binary_paths) (command.Bin d.audit d.bin) n (λ no. cc) h
phase_case Generate d n h = cc
phase_case (Generated m) d n h = made_case (is_makeable m) m n refl h

finish_case : (o : Option Meaning) (d : Draft) (n : ℕ) → finish_awaited o d ≡ Ok (command.Generate n) → Bounded n
finish_case None d n h = phase_case d.phase d n h
finish_case (Some m) d n h = cc

not_ended : (place : ℕ) (s : Stop) (n : ℕ) (X : Type 0) → ended place s ≡ Ok (command.Generate n) → X
not_ended place stop.Help n X h = cc
not_ended place stop.Version n X h = cc
not_ended place stop.Wrong n X h = cc
not_ended place stop.Missing n X h = cc
not_ended place stop.NoMemory n X h = cc

end_case : (place : ℕ) (d : Draft) (r : Result Command Stop) (n : ℕ) → finish d ≡ r → unless_ended place (λ c. Ok c) r ≡ Ok (command.Generate n) → Bounded n
end_case place d (Ok c) n is h = let same : c ≡ command.Generate n = cc in finish_case d.awaited d n (is ∙ ap ended_well same)
end_case place d (Err s) n is h = not_ended place s n (Bounded n) h

word_case : (place : ℕ) (words : List (List ℕ)) (r : Result Draft Stop) (n : ℕ) → ((d : Draft) → read_from (suc place) words d ≡ Ok (command.Generate n) → Bounded n)
    → unless_ended place (read_from (suc place) words) r ≡ Ok (command.Generate n) → Bounded n
word_case place words (Ok d) n more h = more d h
word_case place words (Err s) n more h = not_ended place s n (Bounded n) h

from_case : (place : ℕ) (words : List (List ℕ)) (d : Draft) (n : ℕ) → read_from place words d ≡ Ok (command.Generate n) → Bounded n
from_case place [] d n h = end_case place d (finish d) n refl h
from_case place (word ∷ words) d n h = word_case place words (read_word word d) n (λ e k. from_case (suc place) words e n k) h

pub bounded : (words : List (List ℕ)) (n : ℕ) → command_of words ≡ Ok (command.Generate n) → Bounded n
bounded words n h = from_case 0 words start n h
