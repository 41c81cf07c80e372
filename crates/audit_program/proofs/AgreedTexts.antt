-- Runs that only print text agree.
use Rattle.std.proofs.Common.{◌≡◌, ◌≢◌, ℕ, List, [], ◌++◌, Option, Some, None, Ok, Err, refl, sym, ap, subst, ◌∙◌, append-nil}
use Rattle.std.specs.Prelude.{IfSome}
use Rattle.tame_names.specs.Standing.{Host}
use Rattle.audit_words.specs.declared.commands.WordsFault.{WordsFault}
use Rattle.audit_words.specs.declared.commands.WordsFault.TheVariants as words_fault
use Rattle.audit_remedies.specs.FaultLines.{fault_line}
use Rattle.audit_remedies.specs.declared.faults.RunFault.{RunFault}
use Rattle.audit_remedies.specs.declared.faults.RunFault.TheVariants as fault
use Rattle.audit_remedies.specs.Outputs.{IsEnded, IsPutBy}
use Rattle.audit_program.specs.AgreeingRuns.{AgreeBehind, AllTell, BeginAlike, IsQuiet, ToldAlike}
use Rattle.audit_program.specs.Causes.{HasCauses, IsUsage}
use Rattle.audit_remedies.specs.Faults.{IsPrintFault}
use Rattle.audit_program.specs.Jobs.{Asking}
use Rattle.audit_program.specs.Runs.{IsRun}
use Rattle.audit_program.specs.Tasks.{asking_place}
use Rattle.audit_program.specs.Unaudited.{plain_text}
use Rattle.audit_program.specs.Worlds.{Telling, Uncalled, World}
use Rattle.audit_program.specs.declared.outcomes.Outcome.{Outcome}
use Rattle.audit_program.specs.declared.tasks.Job.TheVariants as job
use Rattle.audit_program.proofs.Nones.{of_none}
use Rattle.audit_program.proofs.QuietRuns.{ended_fault, ended_none, prefix_none, print_none}

pub not_some : {T : Type 0} (o : Option T) → IfSome o (λ x. ⊥) → o ≡ None
not_some None h = refl
not_some (Some x) h = absurd h

-- a run that prints this on standard output and this on standard error, and nothing else
pub record PutsOnly (text line : List ℕ) (o : Option RunFault) (end : ℕ) (before now : World) (outcome : Outcome) : Type 0 where
  pub out : now.out ≡ before.out ++ text
  pub err : now.err ≡ before.err ++ line
  pub starts : now.starts ≡ before.starts
  pub stands : now.host.stands ≡ before.host.stands
  pub fault : outcome.fault ≡ o
  pub status : outcome.status ≡ end

-- its causes are those of printing
printing : (before now : World) (o : Option RunFault) → HasCauses (λ reason. IsPrintFault reason) before now o → HasCauses IsPrintFault before now o
printing before now o h = record { cause = h.cause; print_rose = h.print_rose; file_rose = h.file_rose; crate_rose = h.crate_rose; store_rose = h.store_rose; start_rose = h.start_rose }

told_same : (o p q : Option RunFault) → o ≡ q → p ≡ q → ToldAlike q q → ToldAlike o p
told_same o p q one two h = let P : Option RunFault → Type 0 = λ x. ToldAlike x p in let Q : Option RunFault → Type 0 = λ x. ToldAlike q x in subst P (sym one) (subst Q (sym two) h)

told_self : (o : Option RunFault) → ToldAlike o o
told_self None = tt
told_self (Some f) = λ place. refl

-- two of them agree
pub puts_agree : (out err : List ℕ) (o : Option RunFault) (status : ℕ) (before now before_too now_too : World) (outcome outcome_too : Outcome) → BeginAlike before before_too
    → PutsOnly out err o status before now outcome → PutsOnly out err o status before_too now_too outcome_too → AgreeBehind now now_too outcome outcome_too
puts_agree out err o status before now before_too now_too outcome outcome_too begin h k = record {
  out = h.out ∙ ap (λ (xs : List ℕ). xs ++ out) begin.out ∙ sym k.out;
  err = h.err ∙ ap (λ (xs : List ℕ). xs ++ err) begin.err ∙ sym k.err;
  status = h.status ∙ sym k.status;
  fault = told_same outcome.fault outcome_too.fault o h.fault k.fault (told_self o);
  starts = h.starts ∙ begin.starts ∙ sym k.starts;
  stands = h.stands ∙ ap (λ (x : Host). x.stands) begin.host ∙ sym k.stands;
}

-- ---- help, the version and made packages

text_end : (tells : Telling) (asking : Asking) (same : Uncalled) (before now : World) (outcome : Outcome) → AllTell tells → IsRun tells asking same before now outcome → IsQuiet before now outcome.fault
    → outcome.audited ≡ None → outcome.binaries ≡ None → HasCauses IsPrintFault before now outcome.fault → now.starts ≡ before.starts → PutsOnly (plain_text asking) [] None 0 before now outcome
text_end tells asking same before now outcome told run quiet audited binaries causes starts =
    let none : outcome.fault ≡ None = print_none before now outcome.fault causes quiet in
    let without = of_none outcome.binaries _ binaries (of_none outcome.audited _ audited run.without_audit) in
    let P : Option RunFault → Type 0 = λ o. IsPutBy before.out (plain_text asking) o now.out in
    let Q : Option RunFault → Type 0 = λ o. IsEnded (asking_place asking) before.err [] o now.err before.err_faults now.err_faults in
    record {
      out = (subst P none (without.out told.out)).whole tt;
      err = ended_none (asking_place asking) before.err now.err before.err_faults now.err_faults (subst Q none (without.err told.err)) ∙ sym (append-nil before.err);
      starts = starts;
      stands = ((of_none outcome.audited _ audited run.without_lockfile).files told.files).stands;
      fault = none;
      status = of_none outcome.binaries _ binaries (of_none outcome.audited _ audited (run.ends.plain none));
    }

help_end : (tells : Telling) (same : Uncalled) (before now : World) (outcome : Outcome) → AllTell tells → IsRun tells (Ok job.Help) same before now outcome → IsQuiet before now outcome.fault
    → PutsOnly (plain_text (Ok job.Help)) [] None 0 before now outcome
help_end tells same before now outcome told run quiet =
    let audited = not_some outcome.audited run.audits.audited in
    text_end tells (Ok job.Help) same before now outcome told run quiet audited (not_some outcome.binaries run.audits.binaries) (printing before now outcome.fault run.causes)
    ((of_none outcome.audited _ audited run.without_lockfile).started told.files told.runner)

version_end : (tells : Telling) (same : Uncalled) (before now : World) (outcome : Outcome) → AllTell tells → IsRun tells (Ok job.Version) same before now outcome → IsQuiet before now outcome.fault
    → PutsOnly (plain_text (Ok job.Version)) [] None 0 before now outcome
version_end tells same before now outcome told run quiet =
    let audited = not_some outcome.audited run.audits.audited in
    text_end tells (Ok job.Version) same before now outcome told run quiet audited (not_some outcome.binaries run.audits.binaries) (printing before now outcome.fault run.causes)
    ((of_none outcome.audited _ audited run.without_lockfile).started told.files told.runner)

generate_end : (tells : Telling) (n : ℕ) (same : Uncalled) (before now : World) (outcome : Outcome) → AllTell tells → IsRun tells (Ok (job.Generate n)) same before now outcome → IsQuiet before now outcome.fault
    → PutsOnly (plain_text (Ok (job.Generate n))) [] None 0 before now outcome
generate_end tells n same before now outcome told run quiet =
    let audited = not_some outcome.audited run.audits.audited in
    text_end tells (Ok (job.Generate n)) same before now outcome told run quiet audited (not_some outcome.binaries run.audits.binaries) (printing before now outcome.fault run.causes)
    ((of_none outcome.audited _ audited run.without_lockfile).started told.files told.runner)

-- ---- arguments that break a rule

usage_only : (place : ℕ) (o : Option RunFault) → o ≢ None → IfSome o (IsUsage (words_fault.Usage place)) → o ≢ Some fault.NoMemory → o ≡ Some (fault.Usage place)
usage_only place None some h more = absurd (some refl)
usage_only place (Some (fault.Usage told)) some h more = ap (λ (n : ℕ). Some (fault.Usage n)) h
usage_only place (Some (fault.Settings reason)) some h more = absurd h
usage_only place (Some (fault.Missing path)) some h more = absurd h
usage_only place (Some (fault.NotUtf8 path)) some h more = absurd h
usage_only place (Some (fault.TooLarge path len)) some h more = absurd h
usage_only place (Some (fault.File path)) some h more = absurd h
usage_only place (Some (fault.Lockfile reason)) some h more = absurd h
usage_only place (Some (fault.Advisory n reason)) some h more = absurd h
usage_only place (Some (fault.Baseline line)) some h more = absurd h
usage_only place (Some (fault.Vendor reason)) some h more = absurd h
usage_only place (Some fault.Print) some h more = absurd h
usage_only place (Some (fault.Generate status)) some h more = absurd h
usage_only place (Some (fault.Start failed)) some h more = absurd h
usage_only place (Some fault.NoMemory) some h more = absurd (more refl)

usage_never : {X : Type 0} (o : Option RunFault) → o ≢ None → IfSome o (IsUsage words_fault.NoMemory) → o ≢ Some fault.NoMemory → X
usage_never None some h more = absurd (some refl)
usage_never (Some (fault.Usage place)) some h more = absurd h
usage_never (Some (fault.Settings reason)) some h more = absurd h
usage_never (Some (fault.Missing path)) some h more = absurd h
usage_never (Some (fault.NotUtf8 path)) some h more = absurd h
usage_never (Some (fault.TooLarge path len)) some h more = absurd h
usage_never (Some (fault.File path)) some h more = absurd h
usage_never (Some (fault.Lockfile reason)) some h more = absurd h
usage_never (Some (fault.Advisory n reason)) some h more = absurd h
usage_never (Some (fault.Baseline line)) some h more = absurd h
usage_never (Some (fault.Vendor reason)) some h more = absurd h
usage_never (Some fault.Print) some h more = absurd h
usage_never (Some (fault.Generate status)) some h more = absurd h
usage_never (Some (fault.Start failed)) some h more = absurd h
usage_never (Some fault.NoMemory) some h more = absurd (more refl)

usage_end : (tells : Telling) (place : ℕ) (same : Uncalled) (before now : World) (outcome : Outcome) → AllTell tells → IsRun tells (Err (words_fault.Usage place)) same before now outcome → IsQuiet before now outcome.fault
    → PutsOnly [] (fault_line [] (fault.Usage place)) (Some (fault.Usage place)) 2 before now outcome
usage_end tells place same before now outcome told run quiet =
    let audited = not_some outcome.audited run.audits.audited in
    let binaries = not_some outcome.binaries run.audits.binaries in
    let is : outcome.fault ≡ Some (fault.Usage place) = usage_only place outcome.fault (run.ends.usage (words_fault.Usage place) refl) run.causes.cause quiet.memory in
    let without = of_none outcome.binaries _ binaries (of_none outcome.audited _ audited run.without_audit) in
    let lockfile = of_none outcome.audited _ audited run.without_lockfile in
    let Q : Option RunFault → Type 0 = λ o. IsEnded [] before.err [] o now.err before.err_faults now.err_faults in
    record {
      out = prefix_none before.out now.out (without.out told.out).part ∙ sym (append-nil before.out);
      err = ended_fault [] before.err (fault.Usage place) now.err before.err_faults now.err_faults (subst Q is (without.err told.err)) quiet.stayed.err;
      starts = lockfile.started told.files told.runner;
      stands = (lockfile.files told.files).stands;
      fault = is;
      status = run.ends.status (fault.Usage place) is;
    }

-- ---- all of them

pub help_agree : (tells tells_too : Telling) (same same_too : Uncalled) (before now before_too now_too : World) (outcome outcome_too : Outcome) → AllTell tells → AllTell tells_too
    → IsRun tells (Ok job.Help) same before now outcome → IsRun tells_too (Ok job.Help) same_too before_too now_too outcome_too
    → IsQuiet before now outcome.fault → IsQuiet before_too now_too outcome_too.fault → BeginAlike before before_too → AgreeBehind now now_too outcome outcome_too
help_agree tells tells_too same same_too before now before_too now_too outcome outcome_too told told_too run run_too quiet quiet_too begin =
    puts_agree (plain_text (Ok job.Help)) [] None 0 before now before_too now_too outcome outcome_too begin
    (help_end tells same before now outcome told run quiet) (help_end tells_too same_too before_too now_too outcome_too told_too run_too quiet_too)

pub version_agree : (tells tells_too : Telling) (same same_too : Uncalled) (before now before_too now_too : World) (outcome outcome_too : Outcome) → AllTell tells → AllTell tells_too
    → IsRun tells (Ok job.Version) same before now outcome → IsRun tells_too (Ok job.Version) same_too before_too now_too outcome_too
    → IsQuiet before now outcome.fault → IsQuiet before_too now_too outcome_too.fault → BeginAlike before before_too → AgreeBehind now now_too outcome outcome_too
version_agree tells tells_too same same_too before now before_too now_too outcome outcome_too told told_too run run_too quiet quiet_too begin =
    puts_agree (plain_text (Ok job.Version)) [] None 0 before now before_too now_too outcome outcome_too begin
    (version_end tells same before now outcome told run quiet) (version_end tells_too same_too before_too now_too outcome_too told_too run_too quiet_too)

pub generate_agree : (tells tells_too : Telling) (n : ℕ) (same same_too : Uncalled) (before now before_too now_too : World) (outcome outcome_too : Outcome) → AllTell tells → AllTell tells_too
    → IsRun tells (Ok (job.Generate n)) same before now outcome → IsRun tells_too (Ok (job.Generate n)) same_too before_too now_too outcome_too
    → IsQuiet before now outcome.fault → IsQuiet before_too now_too outcome_too.fault → BeginAlike before before_too → AgreeBehind now now_too outcome outcome_too
generate_agree tells tells_too n same same_too before now before_too now_too outcome outcome_too told told_too run run_too quiet quiet_too begin =
    puts_agree (plain_text (Ok (job.Generate n))) [] None 0 before now before_too now_too outcome outcome_too begin
    (generate_end tells n same before now outcome told run quiet) (generate_end tells_too n same_too before_too now_too outcome_too told_too run_too quiet_too)

pub usage_agree : (tells tells_too : Telling) (broken : WordsFault) (same same_too : Uncalled) (before now before_too now_too : World) (outcome outcome_too : Outcome) → AllTell tells → AllTell tells_too
    → IsRun tells (Err broken) same before now outcome → IsRun tells_too (Err broken) same_too before_too now_too outcome_too
    → IsQuiet before now outcome.fault → IsQuiet before_too now_too outcome_too.fault → BeginAlike before before_too → AgreeBehind now now_too outcome outcome_too
usage_agree tells tells_too (words_fault.Usage place) same same_too before now before_too now_too outcome outcome_too told told_too run run_too quiet quiet_too begin =
    puts_agree [] (fault_line [] (fault.Usage place)) (Some (fault.Usage place)) 2 before now before_too now_too outcome outcome_too begin
    (usage_end tells place same before now outcome told run quiet) (usage_end tells_too place same_too before_too now_too outcome_too told_too run_too quiet_too)
usage_agree tells tells_too words_fault.NoMemory same same_too before now before_too now_too outcome outcome_too told told_too run run_too quiet quiet_too begin =
    usage_never outcome.fault (run.ends.usage words_fault.NoMemory refl) run.causes.cause quiet.memory
