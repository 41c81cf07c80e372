-- A package is unchecked by the store only if the read of its path's file failed.
use Rattle.std.proofs.Common.{◌≡◌, ◌⊎◌, inl, inr, ℕ, List, [], ◌∷◌, ◌++◌, map, Bool, true, false, cond, Option, Some, None, option_map, refl, sym, ap, ◌∙◌, subst, append_assoc}
use Rattle.std.specs.Prelude.{bytes_eq, IsSomeAnd}
use Rattle.std.proofs.lemmas.List.{append-nil}
use Rattle.tame_cache.specs.FailedCalls.{FailedDiskCalls, FailedReading}
use Rattle.tame_cache.specs.declared.disk.FailedDiskCall.{FailedDiskCall}
use Rattle.tame_sparse.specs.ResponseResults.{FailedAtMostWriting}
use Rattle.audit_lock.specs.declared.resolving.Package.{Package}
use Rattle.tame_names.specs.Names.{path}
use Rattle.audit_core.specs.Audits.{AuditSays, IsAuditOf, IsCausedAt, Moment}
use Rattle.audit_core.specs.Checks.{asked_of, judged_of}
use Rattle.audit_core.specs.FailedTurns.{InSteps, IsAskedTurn, IsBlamedAt, IsReadFailed, IsReadTurn, Verdicts, read_of, verdicts_of}
use Rattle.audit_core.specs.Paths.{is_among}
use Rattle.audit_core.specs.Turns.{index_file}
use Rattle.audit_core.specs.Verdicts.{AreVerdicts, turn_of, verdict_by}
use Rattle.audit_core.specs.declared.answers.PathAnswer.{PathAnswer}
use Rattle.audit_core.specs.declared.answers.PathAnswer.TheVariants.{Settled, Lines}
use Rattle.audit_core.specs.declared.asking.Turn.{Turn}
use Rattle.audit_core.specs.declared.auditing.Audited.{Audited}
use Rattle.audit_core.specs.declared.auditors.Auditor.{Auditor}
use Rattle.audit_core.specs.declared.checking.Checks.{Checks}
use Rattle.audit_core.specs.declared.checking.Checks.TheVariants.{Online, Offline, Off}
use Rattle.audit_core.specs.declared.verdicts.Cause.TheVariants as cause
use Rattle.audit_core.specs.declared.verdicts.Judged.{Judged}
use Rattle.audit_core.specs.declared.verdicts.Verdict.{Verdict}
use Rattle.audit_core.specs.declared.verdicts.Verdict.TheVariants.{Unchecked}
use Rattle.audit_core.proofs.Lists.{or_left, or_right, same_bytes}
use Rattle.audit_core.proofs.Table.{or_cases}
use Rattle.audit_core.proofs.Whole.{settled_by}

-- ---- the list of failed calls grows

abbrev Grows : FailedDiskCalls → FailedDiskCalls → Type 0
Grows before now = (now ≡ None) ⊎ ((added : List FailedDiskCall) × (now ≡ option_map (λ calls. calls ++ added) before))

nothing_more : (o : FailedDiskCalls) → o ≡ option_map (λ calls. calls ++ []) o
nothing_more None = refl
nothing_more (Some calls) = ap Some (sym (append-nil calls))

grows_same : (before now : FailedDiskCalls) → now ≡ before → Grows before now
grows_same before now is = inr ([], is ∙ nothing_more before)

two_more : (o : FailedDiskCalls) (xs ys : List FailedDiskCall) → option_map (λ calls. calls ++ ys) (option_map (λ calls. calls ++ xs) o) ≡ option_map (λ calls. calls ++ (xs ++ ys)) o
two_more None xs ys = refl
two_more (Some calls) xs ys = ap Some (append_assoc calls xs ys)

more_of_none : (o now : FailedDiskCalls) (ys : List FailedDiskCall) → o ≡ None → now ≡ option_map (λ calls. calls ++ ys) o → now ≡ None
more_of_none o now ys none is = is ∙ ap (option_map (λ calls. calls ++ ys)) none

grows_then : (a b c : FailedDiskCalls) → Grows a b → Grows b c → Grows a c
grows_then a b c h (inl none) = inl none
grows_then a b c (inl none) (inr k) = inl (more_of_none b c k.0 none k.1)
grows_then a b c (inr h) (inr k) = inr (h.0 ++ k.0, k.1 ∙ ap (option_map (λ calls. calls ++ k.0)) h.1 ∙ two_more a h.0 k.0)

reading_grows : (q : List ℕ) (a b : FailedDiskCalls) → FailedReading q a b → Grows a b
reading_grows q a b (inl none) = inl none
reading_grows q a b (inr is) = inr (read_of q ∷ [], is)

writing_grows : (q : List ℕ) (a b : FailedDiskCalls) → FailedAtMostWriting q a b → Grows a b
writing_grows q a b (inl same) = grows_same a b same
writing_grows q a b (inr (inl none)) = inl none
writing_grows q a b (inr (inr failed)) = inr (record { call = failed.0; path = q } ∷ [], failed.2)

-- ---- a read that failed on the way

read_now : (q : List ℕ) (a b : FailedDiskCalls) → FailedReading q a b → IsReadFailed q a b
read_now q a b (inl none) = inl none
read_now q a b (inr is) = inr ([], [], is)

read_later : (q : List ℕ) (a b c : FailedDiskCalls) → IsReadFailed q a b → Grows b c → IsReadFailed q a c
read_later q a b c h (inl none) = inl none
read_later q a b c (inl none) (inr k) = inl (more_of_none b c k.0 none k.1)
read_later q a b c (inr h) (inr k) =
    inr (
      h.0,
      h.1 ++ k.0,
      k.1 ∙ ap (option_map (λ calls. calls ++ k.0)) h.2 ∙ two_more a (h.0 ++ read_of q ∷ h.1) k.0
          ∙ ap (λ (xs : List FailedDiskCall). option_map (λ calls. calls ++ xs) a) (append_assoc h.0 (read_of q ∷ h.1) k.0),
    )

read_earlier : (q : List ℕ) (a b c : FailedDiskCalls) → Grows a b → IsReadFailed q b c → IsReadFailed q a c
read_earlier q a b c h (inl none) = inl none
read_earlier q a b c (inl none) (inr k) = inl (more_of_none b c (k.0 ++ read_of q ∷ k.1) none k.2)
read_earlier q a b c (inr h) (inr k) =
    inr (
      h.0 ++ k.0,
      k.1,
      k.2 ∙ ap (option_map (λ calls. calls ++ (k.0 ++ read_of q ∷ k.1))) h.1 ∙ two_more a h.0 (k.0 ++ read_of q ∷ k.1)
          ∙ ap (λ (xs : List FailedDiskCall). option_map (λ calls. calls ++ xs) a) (sym (append_assoc h.0 k.0 (read_of q ∷ k.1))),
    )

-- ---- verdicts, one by one

both_verdicts : (A B C : List ℕ → Option (List ℕ) → Verdict → Type 0) → ((version : List ℕ) (o : Option (List ℕ)) (v : Verdict) → A version o v → B version o v → C version o v)
    → (ps : List (ℕ × Package)) (js : List Judged) → AreVerdicts A ps js → AreVerdicts B ps js → AreVerdicts C ps js
both_verdicts A B C f [] [] h k = tt
both_verdicts A B C f [] (j ∷ js) h k = absurd h
both_verdicts A B C f (p ∷ ps) [] h k = absurd h
both_verdicts A B C f (p ∷ ps) (j ∷ js) h k = (h.0, f p.1.version (path p.1.name) j.verdict h.1 k.1, both_verdicts A B C f ps js h.2 k.2)

-- ---- turns

as_asked : (v : Verdicts) (a b : FailedDiskCalls) (ts : List Turn) → InSteps (IsReadTurn v) a ts b → InSteps (IsAskedTurn v) a ts b
as_asked v a b [] x = x
as_asked v a b (t ∷ ts) x = (
  x.0,
  record {
    asked = a;
    read = inl refl;
    answer = x.1.answer;
    judged = x.1.judged;
    blames = record { store = x.1.blames.store; else_writing = λ other. inl (x.1.blames.quiet other) };
  },
  as_asked v x.0 b ts x.2,
)

-- the store is blamed, or it isn't
store_or : (c : cause.the_data) → (c ≡ cause.Store) ⊎ (c ≡ cause.Store → ⊥)
store_or cause.Name = inr (λ is. cc is)
store_or cause.Wire = inr (λ is. cc is)
store_or cause.Store = inl refl
store_or cause.Absent = inr (λ is. cc is)
store_or (cause.Status code) = inr (λ is. cc is)
store_or cause.JsonLines = inr (λ is. cc is)
store_or cause.Record = inr (λ is. cc is)
store_or cause.NoVersion = inr (λ is. cc is)

settled_or : (c : cause.the_data) → (c ≡ cause.Store) ⊎ (c ≡ cause.Store → ⊥) → (Settled c ≡ Settled cause.Store) ⊎ (Settled c ≡ Settled cause.Store → ⊥)
settled_or c (inl is) = inl (ap (λ x. Settled x) is)
settled_or c (inr other) = inr (λ is. other (let same : c ≡ cause.Store = cc is in same))

blamed_or : (a : PathAnswer) → (a ≡ Settled cause.Store) ⊎ (a ≡ Settled cause.Store → ⊥)
blamed_or (Settled c) = settled_or c (store_or c)
blamed_or (Lines flags) = inr (λ is. cc is)

asked_grows : (v : Verdicts) (t : Turn) (a b : FailedDiskCalls) (x : IsAskedTurn v t a b) → Grows a x.asked
asked_grows v t a b x = elim x.read [
  | inl same ↦ grows_same a x.asked same
  | inr failed ↦ reading_grows (index_file t.path) a x.asked failed
]

after_grows : (v : Verdicts) (t : Turn) (a b : FailedDiskCalls) (x : IsAskedTurn v t a b) → Grows x.asked b
after_grows v t a b x = elim (blamed_or x.answer) [
  | inl blamed ↦ reading_grows (index_file t.path) x.asked b (x.blames.store blamed)
  | inr other ↦ writing_grows (index_file t.path) x.asked b (x.blames.else_writing other)
]

steps_grow : (v : Verdicts) (a b : FailedDiskCalls) (ts : List Turn) → InSteps (IsAskedTurn v) a ts b → Grows a b
steps_grow v a b [] x = grows_same a b x
steps_grow v a b (t ∷ ts) x = grows_then a x.0 b (grows_then a x.1.asked x.0 (asked_grows v t a x.0 x.1) (after_grows v t a x.0 x.1)) (steps_grow v x.0 b ts x.2)

-- a package of one of these turns is blamed for a read that failed
abbrev BlamedIn : List Turn → FailedDiskCalls → FailedDiskCalls → List ℕ → Option (List ℕ) → Verdict → Type 0
BlamedIn ts a b version o verdict = (q : List ℕ) → o ≡ Some q → is_among q (map (λ (t : Turn). t.path) ts) ≡ true → verdict ≡ Unchecked cause.Store → IsReadFailed (index_file q) a b

blamed_steps : (v : Verdicts) (Shape : List ℕ → Option (List ℕ) → Verdict → Type 0) (a b : FailedDiskCalls) (ts : List Turn) → AreVerdicts Shape v.packages v.verdicts → InSteps (IsAskedTurn v) a ts b
    → AreVerdicts (BlamedIn ts a b) v.packages v.verdicts
blamed_steps v Shape a b [] shape x = both_verdicts Shape Shape (BlamedIn [] a b) (λ version o verdict h k q at among store. absurd (cc among)) v.packages v.verdicts shape shape
blamed_steps v Shape a b (t ∷ ts) shape x =
    let turn = x.1 in
    both_verdicts (λ version o verdict. o ≡ Some t.path → verdict ≡ verdict_by turn.answer version) (BlamedIn ts x.0 b) (BlamedIn (t ∷ ts) a b)
    (λ version o verdict mine rest q at among store.
    or_cases (bytes_eq t.path q) (is_among q (map (λ (t : Turn). t.path) ts)) among
    (λ here.
    let same : t.path ≡ q = same_bytes t.path q here in
    let blamed : turn.answer ≡ Settled cause.Store = settled_by turn.answer version cause.Store (inr refl) (sym (mine (at ∙ ap Some (sym same))) ∙ store) in
    let failed : IsReadFailed (index_file t.path) turn.asked x.0 = read_now (index_file t.path) turn.asked x.0 (turn.blames.store blamed) in
    subst (λ (p : List ℕ). IsReadFailed (index_file p) a b) same
    (read_later (index_file t.path) a x.0 b (read_earlier (index_file t.path) a turn.asked x.0 (asked_grows v t a x.0 turn) failed) (steps_grow v x.0 b ts x.2)))
    (λ later.
    read_earlier (index_file q) a x.0 b (grows_then a turn.asked x.0 (asked_grows v t a x.0 turn) (after_grows v t a x.0 turn)) (rest q at later store)))
    v.packages v.verdicts turn.judged (blamed_steps v Shape x.0 b ts shape x.2)

-- ---- the turn of a path is one of them

found_case : (b more : Bool) (t : Turn) (o : Option Turn) (P : Turn → Type 0) → IsSomeAnd (cond b (Some t) o) P → (IsSomeAnd o P → more ≡ true) → (b ≡ true) ⊎ (more ≡ true)
found_case true more t o P h f = inl refl
found_case false more t o P h f = inr (f h)

among_turns : (q : List ℕ) (ts : List Turn) (P : Turn → Type 0) → IsSomeAnd (turn_of q ts) P → is_among q (map (λ (t : Turn). t.path) ts) ≡ true
among_turns q [] P h = absurd h
among_turns q (t ∷ ts) P h = elim (found_case (bytes_eq t.path q) (is_among q (map (λ (t : Turn). t.path) ts)) t (turn_of q ts) P h (among_turns q ts P)) [
  | inl here ↦ or_left (bytes_eq t.path q) (is_among q (map (λ (t : Turn). t.path) ts)) here
  | inr later ↦ or_right (bytes_eq t.path q) (is_among q (map (λ (t : Turn). t.path) ts)) later
]

blamed_at : (a b : FailedDiskCalls) (ts : List Turn) (version : List ℕ) (o : Option (List ℕ)) (verdict : Verdict) → BlamedIn ts a b version o verdict → IsCausedAt ts version o verdict → IsBlamedAt a b version o verdict
blamed_at a b ts version None verdict h k = k
blamed_at a b ts version (Some q) verdict h k = λ store. h q refl (among_turns q ts _ (k.store store)) store

by_steps : (a b : FailedDiskCalls) (packages : List (ℕ × Package)) (ts : List Turn) (verdicts : List Judged) → AreVerdicts (IsCausedAt ts) packages verdicts → InSteps (IsAskedTurn (verdicts_of packages verdicts)) a ts b
    → AreVerdicts (IsBlamedAt a b) packages verdicts
by_steps a b packages ts verdicts caused x =
    both_verdicts (BlamedIn ts a b) (IsCausedAt ts) (IsBlamedAt a b) (blamed_at a b ts) packages verdicts (blamed_steps (verdicts_of packages verdicts) (IsCausedAt ts) a b ts caused x) caused

none_blamed : (a b : FailedDiskCalls) (ts : List Turn) (verdicts : List Judged) → AreVerdicts (IsCausedAt ts) [] verdicts → AreVerdicts (IsBlamedAt a b) [] verdicts
none_blamed a b ts [] h = tt
none_blamed a b ts (j ∷ js) h = absurd h

by_checks : (checks : Checks) (wire disk : Type 0) (entry exit : Moment) (packages : List Package) (turns : List Turn) (verdicts : List Judged) → disk
    → AuditSays checks wire disk entry exit (asked_of checks packages) (judged_of checks packages) turns verdicts → AreVerdicts (IsBlamedAt entry.disk_failed exit.disk_failed) (judged_of checks packages) verdicts
by_checks Online wire disk entry exit packages turns verdicts told says = by_steps entry.disk_failed exit.disk_failed (judged_of Online packages) turns verdicts says.caused (says.failed.asked refl told)
by_checks Offline wire disk entry exit packages turns verdicts told says =
    by_steps entry.disk_failed exit.disk_failed (judged_of Offline packages) turns verdicts says.caused
    (as_asked (verdicts_of (judged_of Offline packages) verdicts) entry.disk_failed exit.disk_failed turns (says.failed.read refl))
by_checks Off wire disk entry exit packages turns verdicts told says = none_blamed entry.disk_failed exit.disk_failed turns verdicts says.caused

pub reads_blamed : (auditor : Auditor) (wire disk : Type 0) (began ended : Moment) (text : List ℕ) (audited : Audited) → disk → IsAuditOf auditor wire disk began ended text audited
    → AreVerdicts (IsBlamedAt began.disk_failed ended.disk_failed) (judged_of auditor.checks audited.lockfile) audited.verdicts
reads_blamed auditor wire disk began ended text audited told h = by_checks auditor.checks wire disk began ended audited.lockfile audited.turns audited.verdicts told h.says
