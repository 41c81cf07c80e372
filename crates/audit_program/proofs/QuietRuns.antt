-- How a run ends in which no call failed and memory sufficed.
use Rattle.std.proofs.Common.{◌≡◌, ◌⊎◌, ◌<◌, inl, inr, ℕ, List, [], ◌++◌, Option, Some, None, refl, ap, ◌∙◌, arith, append-nil}
use Rattle.std.proofs.Math.Seq.{take-nil}
use Rattle.tame_names.specs.Counts.{CountRose, CountRoseBy, CountStayed}
use Rattle.tame_names.specs.Output.{AddsPrefix}
use Rattle.audit_remedies.specs.FaultLines.{fault_line}
use Rattle.audit_remedies.specs.Faults.{IsPrintFault}
use Rattle.audit_remedies.specs.Outputs.{IsEnded}
use Rattle.audit_remedies.specs.declared.faults.RunFault.{RunFault}
use Rattle.audit_remedies.specs.declared.faults.RunFault.TheVariants as fault
use Rattle.audit_remedies.proofs.FaultCases.{print_case}
use Rattle.audit_program.specs.AgreeingRuns.{IsQuiet}
use Rattle.audit_program.specs.Causes.{HasCauses}
use Rattle.audit_program.specs.Worlds.{World}
use Rattle.audit_program.proofs.Ended.{not_both}

-- ---- what was printed

pub prefix_none : (before now : List ℕ) → AddsPrefix before [] now → now ≡ before
prefix_none before now h = h.1 ∙ ap (λ (xs : List ℕ). before ++ xs) (take-nil h.0) ∙ append-nil before

-- the fault's line alone
pub ended_fault : (place before : List ℕ) (f : RunFault) (now : List ℕ) (a b : ℕ) → IsEnded place before [] (Some f) now a b → CountStayed a b → now ≡ before ++ fault_line place f
ended_fault place before f now a b h quiet = h.2.whole quiet ∙ ap (λ (xs : List ℕ). xs ++ fault_line place f) (prefix_none before h.0 h.1.part)

-- nothing
pub ended_none : (place before : List ℕ) (now : List ℕ) (a b : ℕ) → IsEnded place before [] None now a b → now ≡ before
ended_none place before now a b h = prefix_none before now h.part

-- ---- faults that don't come

neither : (a b c d : ℕ) → CountStayed a b → CountStayed c d → CountRose a b ⊎ CountRose c d → ⊥
neither a b c d out err (inl rose) = not_both a b out rose
neither a b c d out err (inr rose) = not_both c d err rose

pub no_put_failed : (Cause : RunFault → Type 0) (before now : World) (o : Option RunFault) → HasCauses Cause before now o → IsQuiet before now o → o ≡ Some fault.Print → ⊥
no_put_failed Cause before now o h quiet is = neither before.out_faults now.out_faults before.err_faults now.err_faults quiet.stayed.out quiet.stayed.err (h.print_rose is)

pub no_file_failed : (Cause : RunFault → Type 0) (before now : World) (o : Option RunFault) (path : List ℕ) → HasCauses Cause before now o → IsQuiet before now o → o ≡ Some (fault.File path) → ⊥
no_file_failed Cause before now o path h quiet is = not_both before.file_faults now.file_faults quiet.stayed.files (h.file_rose path is)

pub none_failed : (failed before now : ℕ) → 0 < failed → CountStayed before now → CountRoseBy failed before now → ⊥
none_failed failed before now some quiet rose = let same = quiet.0 in let low = quiet.1 in omega (arith, some, same, low, rose)

-- what only prints ends without a fault
pub print_none : (before now : World) (o : Option RunFault) → HasCauses IsPrintFault before now o → IsQuiet before now o → o ≡ None
print_none before now None h quiet = refl
print_none before now (Some f) h quiet =
    let P : RunFault → Type 0 = λ e. (Some e ≡ Some fault.Print → ⊥) → (Some e ≡ Some fault.NoMemory → ⊥) → Some e ≡ None in
    print_case P f h.cause (λ never more. absurd (never refl)) (λ never more. absurd (more refl)) (no_put_failed IsPrintFault before now (Some f) h quiet) quiet.memory
