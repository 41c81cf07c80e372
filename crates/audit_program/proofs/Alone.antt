-- Runs that call nothing but the outputs.
use Rattle.std.proofs.Common.{◌≡◌, ◌⊎◌, inl, inr, ℕ, List, [], Option, Some, None, Result, Ok, Err, refl, sym, ap, subst}
use Rattle.std.specs.Prelude.{IfSome}
use Rattle.tame_names.specs.Standing.{Host}
use Rattle.tame_names.specs.declared.host.FailedCall.{FailedCall}
use Rattle.report_parts.proofs.Puts.{part_none}
use Rattle.audit_core.proofs.Exchanged.{keeps_nothing}
use Rattle.audit_words.specs.declared.commands.Command.{Command}
use Rattle.audit_words.specs.declared.commands.Command.TheVariants as command
use Rattle.audit_words.specs.declared.commands.WordsFault.{WordsFault}
use Rattle.audit_words.specs.declared.commands.WordsFault.TheVariants as words_fault
use Rattle.audit_program.specs.Calls.{AddsCalls, AddsRunCall, StartsWhere}
use Rattle.audit_program.specs.Causes.{CauseOf}
use Rattle.audit_remedies.specs.Faults.{IsPrintFault, fault_status}
use Rattle.audit_program.specs.Jobs.{Asking, asking_by}
use Rattle.audit_program.specs.Outcomes.{HasAsked, PutsAlone}
use Rattle.audit_remedies.specs.Outputs.{IsEnded, IsPutBy}
use Rattle.audit_program.specs.Unaudited.{plain_text}
use Rattle.audit_program.specs.Runs.{IsGeneratedRun, IsRun}
use Rattle.audit_program.specs.Tasks.{IsOrderedTaskCall, IsTaskCall, asking_generates, asking_place}
use Rattle.audit_program.specs.Worlds.{Telling, Uncalled, World}
use Rattle.audit_program.specs.declared.outcomes.Outcome.{Outcome}
use Rattle.audit_remedies.specs.declared.faults.RunFault.{RunFault}
use Rattle.audit_remedies.specs.declared.faults.RunFault.TheVariants as fault
use Rattle.audit_program.specs.declared.tasks.Job.TheVariants as job
use Rattle.audit_program.proofs.FaultCases.{no_print}
use Rattle.audit_remedies.proofs.FaultCases.{print_case}
use Rattle.audit_program.proofs.Leaving.{IsUncalled, all_binaries, all_tasks, host_stays, leaves_nothing, printed}
use Rattle.audit_program.proofs.Nones.{all_some, if_none, if_some, none_some}
use Rattle.audit_remedies.proofs.Putting.{put_memory, put_nothing}
use Rattle.audit_program.proofs.Readings.{none_added}
use Rattle.audit_program.proofs.Starting.{memory_starts}

-- no call failed
none_called : (asking : Asking) (host : Host) (before : List FailedCall) → AddsCalls asking host before before (Some fault.NoMemory)
none_called (Ok (job.Lockfile task)) host before = inl (inl refl)
none_called (Ok (job.Binaries command more)) host before = inr (none_added more.binary_paths before)
none_called (Ok (job.Generate n)) host before = refl
none_called (Ok job.Help) host before = refl
none_called (Ok job.Version) host before = refl
none_called (Err reason) host before = refl

quiet_print : (may : List ℕ → FailedCall → Type 0) (before : List FailedCall) (o : Option RunFault) → IfSome o IsPrintFault → AddsRunCall may before before o
quiet_print may before None only = refl
quiet_print may before (Some f) only = let P : RunFault → Type 0 = λ e. AddsRunCall may before before (Some e) in print_case P f only refl (inl refl)

no_other : {X : Type 0} (o : Option RunFault) → o ≡ Some fault.NoMemory → (o ≡ None) ⊎ (o ≡ Some fault.Print) → X
no_other o is (inl none) = cc (is, none)
no_other o is (inr print) = cc (is, print)

-- ---- if out of memory at once

memory_cause : (told : Type 0) (asking : Asking) (host : Host) → CauseOf told asking host fault.NoMemory
memory_cause told (Ok (job.Lockfile task)) host = tt
memory_cause told (Ok (job.Binaries command more)) host = tt
memory_cause told (Ok (job.Generate n)) host = tt
memory_cause told (Ok job.Help) host = tt
memory_cause told (Ok job.Version) host = tt
memory_cause told (Err (words_fault.Usage place)) host = tt
memory_cause told (Err words_fault.NoMemory) host = tt

-- an outcome with a fault and nothing else
pub record IsFault (outcome : Outcome) (f : RunFault) : Type 0 where
  pub audited : outcome.audited ≡ None
  pub binaries : outcome.binaries ≡ None
  pub generated : outcome.generated ≡ None
  pub plan : outcome.plan ≡ None
  pub fault : outcome.fault ≡ Some f
  pub status : outcome.status ≡ fault_status f

status_by : (outcome : Outcome) (f e : RunFault) → outcome.fault ≡ Some f → outcome.status ≡ fault_status f → outcome.fault ≡ Some e → outcome.status ≡ fault_status e
status_by outcome f e is status other = let same : f ≡ e = cc (is, other) in let P : RunFault → Type 0 = λ x. outcome.status ≡ fault_status x in subst P same status

pub memory_run : (tells : Telling) (asking : Asking) (same : Uncalled) (before : World) (err : List ℕ) (err_faults : ℕ) (outcome : Outcome) → IsUncalled same → IsFault outcome fault.NoMemory
    → (tells.err → IsEnded (asking_place asking) before.err [] outcome.fault err before.err_faults err_faults)
    → IsRun tells asking same before (printed before before.out before.out_faults err err_faults) outcome
memory_run tells asking same before err err_faults outcome quiet fails ended =
    let is = fails.fault in
    record {
      audits = record {
        audited = none_some outcome.audited _ fails.audited;
        binaries = none_some outcome.binaries _ fails.binaries;
        partly = all_binaries _ asking (λ command more memory. if_none outcome.binaries _ (inl (quiet.wire, quiet.disk, quiet.decoder)));
        generated = none_some outcome.generated _ fails.generated;
      };
      has = record {
        has = λ other. no_other outcome.fault is other;
        vendor_audit = λ reason other. cc (is, other);
        no_audit = all_some outcome.fault _ (λ f early. (fails.audited, fails.binaries));
        no_plan = if_none outcome.audited _ fails.plan;
      };
      ends = record {
        status = λ e other. status_by outcome fault.NoMemory e is fails.status other;
        plain = λ none. cc (is, none);
        usage = λ broken words none. cc (is, none);
      };
      causes = record {
        cause = let P : Option RunFault → Type 0 = λ o. IfSome o (CauseOf tells.files asking before.host) in subst P (sym is) (memory_cause tells.files asking before.host);
        print_rose = λ other. cc (is, other);
        file_rose = λ path other. cc (is, other);
        crate_rose = λ path other. cc (is, other);
        store_rose = λ at other. cc (is, other);
        start_rose = λ failed other. cc (is, other);
      };
      without_lockfile = if_none outcome.audited _ (record {
        started = λ told_files told. memory_starts (asking_generates asking before.host) before.starts outcome.fault (inl is);
        at_most = λ told. inl refl;
        one_start = λ failed other. cc (is, other);
        files = λ told. host_stays _ before.host;
      });
      without_audit = if_none outcome.audited _ (if_none outcome.binaries _ (record {
        out = λ told. let P : Option RunFault → Type 0 = λ o. IsPutBy before.out (plain_text asking) o before.out in subst P (sym is) (put_memory before.out (plain_text asking) before.out (part_none before.out (plain_text asking)));
        err = ended;
        early = λ other. (quiet.wire, quiet.disk, quiet.decoder);
      }));
      failed = λ told. record {
        calls = let P : Option RunFault → Type 0 = λ o. AddsCalls asking before.host before.failed before.failed o in subst P (sym is) (none_called asking before.host before.failed);
        unaudited = all_tasks _ asking (λ task. if_none outcome.audited _ (record {
          call = let P : Option RunFault → Type 0 = λ o. AddsRunCall (IsTaskCall task before.host) before.failed before.failed o in subst P (sym is) (inl refl);
          ordered = λ told_starts. let P : Option RunFault → Type 0 = λ o. AddsRunCall (IsOrderedTaskCall task before.host before.starts before.starts) before.failed before.failed o in subst P (sym is) (inl refl);
        }));
      };
      kept = λ told_wire told. keeps_nothing before.exchanges before.exchanges before.cache;
      leaves = leaves_nothing tells asking same before before.out before.out_faults err err_faults quiet;
    }

-- ---- if the arguments break a rule

pub usage_run : (tells : Telling) (place : ℕ) (same : Uncalled) (before : World) (err : List ℕ) (err_faults : ℕ) (outcome : Outcome) → IsUncalled same → IsFault outcome (fault.Usage place)
    → (tells.err → IsEnded [] before.err [] outcome.fault err before.err_faults err_faults)
    → IsRun tells (Err (words_fault.Usage place)) same before (printed before before.out before.out_faults err err_faults) outcome
usage_run tells place same before err err_faults outcome quiet fails ended =
    let is = fails.fault in
    record {
      audits = record {
        audited = none_some outcome.audited _ fails.audited;
        binaries = none_some outcome.binaries _ fails.binaries;
        partly = tt;
        generated = none_some outcome.generated _ fails.generated;
      };
      has = record {
        has = λ quiet. tt;
        vendor_audit = λ reason other. cc (is, other);
        no_audit = all_some outcome.fault _ (λ f early. (fails.audited, fails.binaries));
        no_plan = if_none outcome.audited _ fails.plan;
      };
      ends = record {
        status = λ e other. status_by outcome (fault.Usage place) e is fails.status other;
        plain = λ none. cc (is, none);
        usage = λ broken words none. cc (is, none);
      };
      causes = record {
        cause = let P : Option RunFault → Type 0 = λ o. IfSome o (CauseOf tells.files (Err (words_fault.Usage place)) before.host) in subst P (sym is) refl;
        print_rose = λ other. cc (is, other);
        file_rose = λ path other. cc (is, other);
        crate_rose = λ path other. cc (is, other);
        store_rose = λ at other. cc (is, other);
        start_rose = λ failed other. cc (is, other);
      };
      without_lockfile = if_none outcome.audited _ (record {
        started = λ told_files told. refl;
        at_most = λ told. inl refl;
        one_start = λ failed other. cc (is, other);
        files = λ told. host_stays _ before.host;
      });
      without_audit = if_none outcome.audited _ (if_none outcome.binaries _ (record {
        out = λ told. put_nothing before.out outcome.fault;
        err = ended;
        early = λ other. (quiet.wire, quiet.disk, quiet.decoder);
      }));
      failed = λ told. record { calls = refl; unaudited = tt };
      kept = λ told_wire told. keeps_nothing before.exchanges before.exchanges before.cache;
      leaves = leaves_nothing tells (Err (words_fault.Usage place)) same before before.out before.out_faults err err_faults quiet;
    }

-- ---- if text is printed

-- help, the version and made packages have no other cause than that of printing, no call that fails, and
-- nothing that is started
pub record IsPlain (tells : Telling) (asking : Asking) (before : World) : Type 0 where
  pub cause : (f : RunFault) → IsPrintFault f → CauseOf tells.files asking before.host f
  pub start : (o : Option RunFault) → StartsWhere (asking_generates asking before.host) before.starts before.starts o
  pub calls : (o : Option RunFault) → AddsCalls asking before.host before.failed before.failed o
  pub place : asking_place asking ≡ []
  pub usage : (broken : WordsFault) → asking ≡ Err broken → ⊥

pub plain_run : (tells : Telling) (asking : Asking) (same : Uncalled) (before : World) (out : List ℕ) (out_faults : ℕ) (err : List ℕ) (err_faults : ℕ) (outcome : Outcome) → IsUncalled same
    → IsPlain tells asking before
    → PutsAlone tells.out tells.err (plain_text asking) before.out out before.out_faults out_faults before.err err before.err_faults err_faults outcome
    → ((outcome.fault ≡ None) ⊎ (outcome.fault ≡ Some fault.Print) → HasAsked asking outcome) → IfSome outcome.generated (IsGeneratedRun asking)
    → IsRun tells asking same before (printed before out out_faults err err_faults) outcome
plain_run tells asking same before out out_faults err err_faults outcome quiet plain puts has generated =
    record {
      audits = record {
        audited = none_some outcome.audited _ puts.audited;
        binaries = none_some outcome.binaries _ puts.binaries;
        partly = all_binaries _ asking (λ command more memory. if_none outcome.binaries _ (inl (quiet.wire, quiet.disk, quiet.decoder)));
        generated = generated;
      };
      has = record {
        has = has;
        vendor_audit = λ reason is. no_print outcome.fault (fault.Vendor reason) puts.fault is (λ no. absurd no);
        no_audit = all_some outcome.fault _ (λ f early. (puts.audited, puts.binaries));
        no_plan = if_none outcome.audited _ puts.plan;
      };
      ends = record {
        status = puts.status;
        plain = λ none. if_none outcome.audited _ (if_none outcome.binaries _ (puts.none none));
        usage = λ broken words none. plain.usage broken words;
      };
      causes = record {
        cause = if_some outcome.fault _ _ plain.cause puts.fault;
        print_rose = λ is. inl (puts.rose is);
        file_rose = λ path is. no_print outcome.fault (fault.File path) puts.fault is (λ no. absurd no);
        crate_rose = λ path is. no_print outcome.fault _ puts.fault is (λ no. absurd no);
        store_rose = λ at is. no_print outcome.fault _ puts.fault is (λ no. absurd no);
        start_rose = λ failed is. no_print outcome.fault (fault.Start failed) puts.fault is (λ no. absurd no);
      };
      without_lockfile = if_none outcome.audited _ (record {
        started = λ told_files told. plain.start outcome.fault;
        at_most = λ told. inl refl;
        one_start = λ failed is. no_print outcome.fault (fault.Start failed) puts.fault is (λ no. absurd no);
        files = λ told. host_stays _ before.host;
      });
      without_audit = if_none outcome.audited _ (if_none outcome.binaries _ (record {
        out = puts.put;
        err = λ told. let P : List ℕ → Type 0 = λ place. IsEnded place before.err [] outcome.fault err before.err_faults err_faults in subst P (sym plain.place) (puts.ended told);
        early = λ other. (quiet.wire, quiet.disk, quiet.decoder);
      }));
      failed = λ told. record {
        calls = plain.calls outcome.fault;
        unaudited = all_tasks _ asking (λ task. if_none outcome.audited _ (record {
          call = quiet_print (IsTaskCall task before.host) before.failed outcome.fault puts.fault;
          ordered = λ told_starts. quiet_print (IsOrderedTaskCall task before.host before.starts before.starts) before.failed outcome.fault puts.fault;
        }));
      };
      kept = λ told_wire told. keeps_nothing before.exchanges before.exchanges before.cache;
      leaves = leaves_nothing tells asking same before out out_faults err err_faults quiet;
    }

-- ---- made packages

-- the arguments that ask for them
pub generated_by : (r : Result Command WordsFault) (n : ℕ) → asking_by r ≡ Ok (job.Generate n) → r ≡ Ok (command.Generate n)
generated_by (Ok (command.Generate m)) n is = let same : m ≡ n = cc (is) in ap (λ (x : ℕ). Ok (command.Generate x)) same
generated_by (Ok command.Help) n is = cc (is)
generated_by (Ok command.Version) n is = cc (is)
generated_by (Ok (command.Bin audit more)) n is = cc (is)
generated_by (Ok (command.Audit audit)) n is = cc (is)
generated_by (Ok (command.Fix audit more)) n is = cc (is)
generated_by (Ok (command.Plan audit)) n is = cc (is)
generated_by (Ok (command.Baseline audit path)) n is = cc (is)
generated_by (Ok (command.WriteBaseline audit path)) n is = cc (is)
generated_by (Ok (command.Vendor audit more)) n is = cc (is)
generated_by (Err reason) n is = cc (is)

-- ---- of text

pub help_plain : (tells : Telling) (before : World) → IsPlain tells (Ok job.Help) before
help_plain tells before = record { cause = λ f only. only; start = λ o. refl; calls = λ o. refl; place = refl; usage = λ broken is. cc (is) }

pub version_plain : (tells : Telling) (before : World) → IsPlain tells (Ok job.Version) before
version_plain tells before = record { cause = λ f only. only; start = λ o. refl; calls = λ o. refl; place = refl; usage = λ broken is. cc (is) }

pub generate_plain : (tells : Telling) (n : ℕ) (before : World) → IsPlain tells (Ok (job.Generate n)) before
generate_plain tells n before = record { cause = λ f only. only; start = λ o. refl; calls = λ o. refl; place = refl; usage = λ broken is. cc (is) }

-- a run of arguments that break a rule ends with its fault, or out of memory
pub broken_run : (tells : Telling) (place : ℕ) (same : Uncalled) (before : World) (err : List ℕ) (err_faults : ℕ) (outcome : Outcome) → IsUncalled same
    → outcome.audited ≡ None → outcome.binaries ≡ None → outcome.generated ≡ None → outcome.plan ≡ None
    → ((f : RunFault) → outcome.fault ≡ Some f → outcome.status ≡ fault_status f)
    → (outcome.fault ≡ Some (fault.Usage place)) ⊎ (outcome.fault ≡ Some fault.NoMemory)
    → (tells.err → IsEnded [] before.err [] outcome.fault err before.err_faults err_faults)
    → IsRun tells (Err (words_fault.Usage place)) same before (printed before before.out before.out_faults err err_faults) outcome
broken_run tells place same before err err_faults outcome quiet audited binaries generated plan status (inl is) ended =
    usage_run tells place same before err err_faults outcome quiet
    (record { audited = audited; binaries = binaries; generated = generated; plan = plan; fault = is; status = status (fault.Usage place) is }) ended
broken_run tells place same before err err_faults outcome quiet audited binaries generated plan status (inr is) ended =
    memory_run tells (Err (words_fault.Usage place)) same before err err_faults outcome quiet
    (record { audited = audited; binaries = binaries; generated = generated; plan = plan; fault = is; status = status fault.NoMemory is }) ended

pub one_of : (o : Option RunFault) (f : RunFault) → (o ≡ Some f) ⊎ (o ≡ Some f) → o ≡ Some f
one_of o f (inl is) = is
one_of o f (inr is) = is
