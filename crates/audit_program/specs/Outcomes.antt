-- Which audits a run has, and how it ends (this project).
use Rattle.std.specs.Prelude.{◌≡◌, ◌≢◌, ◌⊎◌, ℕ, List, [], Some, None, Ok, Err, IsSome, IsTrue, IfSome, IfNone}
use Rattle.tame_names.specs.Counts.{CountRose}
use Rattle.audit_words.specs.declared.commands.WordsFault.{WordsFault}
use Rattle.vendor_registry.specs.declared.faults.VendorFault.{VendorFault}
use Rattle.audit_remedies.specs.Faults.{IsEarly, IsPrintFault, fault_status, is_early}
use Rattle.audit_program.specs.Jobs.{Asking}
use Rattle.audit_remedies.specs.Outputs.{IsEnded, IsPutBy}
use Rattle.audit_program.specs.declared.outcomes.Outcome.{Outcome}
use Rattle.audit_remedies.specs.declared.faults.RunFault.{RunFault}
use Rattle.audit_remedies.specs.declared.faults.RunFault.TheVariants as run_fault
use Rattle.audit_program.specs.declared.tasks.Job.TheVariants as job

-- it has what was asked for
abbrev pub HasAsked : Asking → Outcome → Type 0
HasAsked (Ok (job.Lockfile task)) outcome = IsSome outcome.audited
HasAsked (Ok (job.Binaries command more)) outcome = IsSome outcome.binaries
HasAsked (Ok (job.Generate n)) outcome = IsSome outcome.generated
HasAsked _ outcome = Unit {0}

-- it comes before any audit; the file of a baseline is created after it
abbrev pub IsEarlyBy : Asking → RunFault → Type 0
IsEarlyBy (Ok (job.Lockfile task)) reason = IsEarly task.remedy reason
IsEarlyBy _ reason = IsTrue (is_early reason)

-- a run without a fault has what was asked for, and so has one if printing failed; if a registry
-- couldn't be created, the audit is left; an early fault leaves no audit; and there is no plan
-- without the audit of a lockfile
pub record HasAudits (asking : Asking) (outcome : Outcome) : Type 0 where
  pub has : (outcome.fault ≡ None) ⊎ (outcome.fault ≡ Some run_fault.Print)
      → HasAsked asking outcome
  pub vendor_audit : (reason : VendorFault) → outcome.fault ≡ Some (run_fault.Vendor reason)
      → IsSome outcome.audited
  pub no_audit : IfSome outcome.fault (λ f. IsEarlyBy asking f
      → (outcome.audited ≡ None) × (outcome.binaries ≡ None))
  pub no_plan : IfNone outcome.audited (outcome.plan ≡ None)

-- the status is that of the fault, and 0 if help, the version or the lines for made packages are
-- printed; arguments that break a rule end with a fault, which is that of the rule or out of memory
-- (`CauseOf`)
pub record EndsBy (asking : Asking) (outcome : Outcome) : Type 0 where
  pub status : (f : RunFault) → outcome.fault ≡ Some f → outcome.status ≡ fault_status f
  pub plain : outcome.fault ≡ None
      → IfNone outcome.audited (IfNone outcome.binaries (outcome.status ≡ 0))
  pub usage : (broken : WordsFault) → asking ≡ Err broken → outcome.fault ≢ None

-- text is printed, and nothing is done but that: the run ends without a fault, because printing
-- failed, or out of memory
pub record PutsAlone (out_tells err_tells : Type 0) (text out out_now : List ℕ)
    (out_faults out_faults_now : ℕ) (err err_now : List ℕ) (err_faults err_faults_now : ℕ)
    (outcome : Outcome) : Type 0 where
  pub audited : outcome.audited ≡ None
  pub binaries : outcome.binaries ≡ None
  pub plan : outcome.plan ≡ None
  pub fault : IfSome outcome.fault IsPrintFault
  pub rose : outcome.fault ≡ Some run_fault.Print → CountRose out_faults out_faults_now
  pub status : (f : RunFault) → outcome.fault ≡ Some f → outcome.status ≡ fault_status f
  pub none : outcome.fault ≡ None → outcome.status ≡ 0
  pub put : out_tells → IsPutBy out text outcome.fault out_now
  pub ended : err_tells → IsEnded [] err [] outcome.fault err_now err_faults err_faults_now
