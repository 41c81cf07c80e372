-- The steps of `fix` by how a run ended.
use Rattle.std.proofs.Common.{◌≡◌, ◌⊎◌, inl, inr, ℕ, ℤ, zero, suc, Bool, true, List, [], ◌∷◌, ◌++◌, take, length, Option, Some, None, Result, Ok, Err, cond, refl, sym, ap, subst, ◌∙◌, append-nil, arith, rules}
use Rattle.std.proofs.Math.Seq.{take-length}
use Rattle.std.proofs.lemmas.Bool.Decides.{nat_tests}
use Rattle.std.specs.Prelude.{IfErr, nat_eq}
use Rattle.audit_remedies.specs.declared.faults.RunFault.{RunFault}
use Rattle.audit_remedies.specs.declared.faults.RunFault.TheVariants as fault
use Rattle.audit_asked.specs.declared.runners.Started.{Started}
use Rattle.audit_fix.specs.Steps.{StartsEach, StartsPart}
use Rattle.audit_fix.specs.declared.plans.FixStep.{FixStep}
use Rattle.audit_remedies.specs.Faults.{IsPrintFault}
use Rattle.audit_remedies.specs.Outputs.{IsPutBy, IsWhole, lines_behind}
use Rattle.audit_remedies.specs.Finishes.{Finish, IsFinished, end_of, lines_in}
use Rattle.audit_remedies.specs.Statuses.{steps_of}
use Rattle.audit_remedies.specs.Steps.{AreStarted, FailedBy}
use Rattle.audit_remedies.proofs.FaultCases.{print_case}

-- no steps are started
pub each_none : (before : List Started) → StartsEach [] [] before before
each_none before = record { one_each = refl; added = sym (append-nil before) }

pub part_nothing : (steps : List FixStep) (before : List Started) → StartsPart steps before before
part_nothing steps before = (0, [], each_none before)

pub part_all : (steps : List FixStep) (statuses : List (Option ℤ)) (before now : List Started) → StartsEach steps statuses before now → StartsPart steps before now
part_all steps statuses before now h =
    let P : List FixStep → Type 0 = λ xs. StartsEach xs statuses before now in
    (length steps, statuses, subst P (sym (take-length steps)) h)

no_length : {A : Type 0} (xs : List A) → 0 ≡ length xs → xs ≡ []
no_length [] is = refl
no_length (x ∷ xs) is = absurd (omega (arith, is))

none_taken : {A : Type 0} (n : ℕ) → take n (let xs : List A = [] in xs) ≡ []
none_taken zero = refl
none_taken (suc n) = refl

-- of no steps a part is none
none_of_none : (before now : List Started) → StartsPart [] before now → StartsEach [] [] before now
none_of_none before now h =
    let P : List FixStep → Type 0 = λ xs. StartsEach xs h.1 before now in
    let all : StartsEach [] h.1 before now = subst P (none_taken h.0) h.2 in
    let Q : List (Option ℤ) → Type 0 = λ xs. StartsEach [] xs before now in
    subst Q (no_length h.1 (sym all.one_each)) all

none_each : (told : Type 0) (steps : List FixStep) (before now : List Started) → (told → StartsPart steps before now) → told → 0 ≡ length steps → StartsEach steps [] before now
none_each told steps before now part here is =
    let same = no_length steps is in
    let P : List FixStep → Type 0 = λ xs. StartsEach xs [] before now in
    let Q : List FixStep → Type 0 = λ xs. StartsPart xs before now in
    subst P (sym same) (none_of_none before now (subst Q same (part here)))

-- nothing is said of a fault of printing
unfailed : (statuses : List (Option ℤ)) (f : RunFault) → IsPrintFault f → FailedBy statuses (Some f)
unfailed statuses f only =
    let P : RunFault → Type 0 = λ e. FailedBy statuses (Some e) in
    print_case P f only (record { none = λ is. cc; some = λ failed is. cc }) (record { none = λ is. cc; some = λ failed is. cc })

not_whole : (X : Type 0) (f : RunFault) → IsPrintFault f → IsWhole (Some f) → X
not_whole X f only w = let P : RunFault → Type 0 = λ e. IsWhole (Some e) → X in print_case P f only (λ no. absurd no) (λ no. absurd no) w

-- a part of the steps, if printing failed or it is out of memory
pub partly_started : (told : Type 0) (steps : List FixStep) (before now : List Started) (f : RunFault) → IsPrintFault f → (told → StartsPart steps before now)
    → AreStarted told steps before now [] (Some f)
partly_started told steps before now f only part = record {
  part = part;
  each = λ here is. none_each told steps before now part here is;
  one_each = λ w. not_whole (0 ≡ length steps) f only w;
  failed = unfailed [] f only;
}

-- all of them
pub all_started : (told : Type 0) (steps : List FixStep) (before now : List Started) (statuses : List (Option ℤ)) (reason : Option RunFault)
    → length statuses ≡ length steps → (told → StartsEach steps statuses before now) → FailedBy statuses reason → AreStarted told steps before now statuses reason
all_started told steps before now statuses reason is each failed = record {
  part = λ here. part_all steps statuses before now (each here);
  each = λ here same. each here;
  one_each = λ w. is;
  failed = failed;
}

pub all_printing : (told : Type 0) (steps : List FixStep) (before now : List Started) (statuses : List (Option ℤ)) (f : RunFault) → IsPrintFault f
    → length statuses ≡ length steps → (told → StartsEach steps statuses before now) → AreStarted told steps before now statuses (Some f)
all_printing told steps before now statuses f only is each = all_started told steps before now statuses (Some f) is each (unfailed statuses f only)

-- the lines are printed once each step has a status
same_number : (n : ℕ) → nat_eq n n ≡ true
same_number n = search (rules, nat_tests)

pub lines_begun : (steps : List FixStep) (statuses : List (Option ℤ)) (lines : List ℕ) → length statuses ≡ length steps → lines_behind steps statuses lines ≡ lines
lines_begun steps statuses lines is =
    ap (λ (n : ℕ). cond (nat_eq n (length steps)) lines []) is ∙ ap (λ (b : Bool). cond b lines []) (same_number (length steps))

pub lines_put : (steps : List FixStep) (statuses : List (Option ℤ)) (before lines now : List ℕ) (reason : Option RunFault) → length statuses ≡ length steps → IsPutBy before lines reason now
    → IsPutBy before (lines_behind steps statuses lines) reason now
lines_put steps statuses before lines now reason is h =
    let P : List ℕ → Type 0 = λ x. IsPutBy before x reason now in
    subst P (sym (lines_begun steps statuses lines is)) h

-- no step is planned
pub no_steps : (told : Type 0) (before : List Started) → AreStarted told [] before before [] None
no_steps told before = all_started told [] before before [] None refl (λ here. each_none before) (record { none = λ is. refl; some = λ failed is. cc })

-- nothing is started for it
none_started : (told : Type 0) (before : List Started) (r : Result ℕ RunFault) → IfErr r IsPrintFault → AreStarted told [] before before [] (end_of r)
none_started told before (Ok status) only = no_steps told before
none_started told before (Err f) only = partly_started told [] before before f only (λ here. part_nothing [] before)

-- only the text is printed on standard error, if no lines come after it
pub unfixed_finished : (runner_tells err_tells : Type 0) (f : Finish) (starts : List Started) (text before now : List ℕ) (r : Result ℕ RunFault)
    → steps_of f.it f.advisories f.audited ≡ [] → lines_in f [] ≡ [] → IfErr r IsPrintFault → (err_tells → IsPutBy before text (end_of r) now)
    → IsFinished runner_tells err_tells f starts starts text before now (end_of r)
unfixed_finished runner_tells err_tells f starts text before now r no_steps no_lines only put = record {
  statuses = [];
  started = let P : List FixStep → Type 0 = λ xs. AreStarted runner_tells xs starts starts [] (end_of r) in subst P (sym no_steps) (none_started runner_tells starts r only);
  put = λ told.
      let P : List ℕ → Type 0 = λ xs. IsPutBy before (text ++ xs) (end_of r) now in
      let Q : List ℕ → Type 0 = λ xs. IsPutBy before xs (end_of r) now in
      subst P (sym no_lines) (subst Q (sym (append-nil text)) (put told));
}

-- the same if a run ends with a fault, or out of memory
pub started_failed : (told : Type 0) (steps : List FixStep) (before now : List Started) (statuses : List (Option ℤ)) (f : RunFault) (o : Option RunFault) → (o ≡ Some f) ⊎ (o ≡ Some fault.NoMemory)
    → AreStarted told steps before now statuses (Some f) → AreStarted told steps before now statuses o
started_failed told steps before now statuses f o (inl is) h = let P : Option RunFault → Type 0 = λ x. AreStarted told steps before now statuses x in subst P (sym is) h
started_failed told steps before now statuses f o (inr is) h =
    let P : Option RunFault → Type 0 = λ x. AreStarted told steps before now statuses x in
    subst P (sym is) (record { part = h.part; each = h.each; one_each = λ no. absurd no; failed = record { none = λ is. cc; some = λ failed is. cc } })
