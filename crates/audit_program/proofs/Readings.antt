-- Failed readings of binaries, one after the other.
use Rattle.std.proofs.Common.{◌≡◌, ◌⊎◌, inl, inr, ℕ, zero, suc, List, [], ◌∷◌, ◌++◌, take, drop, refl, sym, subst, ◌∙◌, append-nil, Option, Some, None}
use Rattle.std.specs.Prelude.{IfSome, IfNone}
use Rattle.tame_names.specs.Standing.{Host}
use Rattle.tame_names.specs.declared.host.FailedCall.{FailedCall}
use Rattle.audit_binaries.specs.Binaries.{AreBinaries, ArePartly, IsNextBegun, Outside, Scan, Tells, failed_by}
use Rattle.audit_binaries.specs.Opened.{failed_reads}
use Rattle.audit_binaries.specs.declared.answers.BinaryAnswer.{BinaryAnswer}
use Rattle.audit_binaries.specs.declared.answers.BinaryAnswer.TheVariants as answer
use Rattle.audit_binaries.specs.declared.answers.BinaryFault.{BinaryFault}
use Rattle.audit_binaries.specs.declared.answers.BinaryFault.TheVariants as fault
use Rattle.audit_settings.specs.declared.commands.AuditCommand.{AuditCommand}
use Rattle.audit_asked.specs.Calls.{AddsBy}
use Rattle.audit_asked.specs.ForBinaries.{IsForBinariesCall}
use Rattle.audit_asked.specs.declared.faults.AskFault.{AskFault}
use Rattle.audit_asked.specs.declared.faults.AskFault.TheVariants as ask
use Rattle.audit_remedies.specs.declared.faults.RunFault.{RunFault}
use Rattle.audit_remedies.specs.declared.faults.RunFault.TheVariants as run_fault
use Rattle.audit_remedies.specs.Faults.{IsPrintFault, by_ask}
use Rattle.audit_program.specs.Calls.{AddsBinCalls}
use Rattle.audit_binaries.specs.Summaries.{AddsReadings, reading_of}
use Rattle.audit_remedies.proofs.FaultCases.{print_case}

-- at most one of a path
abbrev AtMost : List ℕ → List FailedCall → List FailedCall → Type 0
AtMost path before now = (now ≡ before) ⊎ (now ≡ before ++ reading_of path ∷ [])

by_fault : (path : List ℕ) (f : BinaryFault) (before now : List FailedCall) → now ≡ before ++ failed_reads path f → AtMost path before now
by_fault path fault.Missing before now h = inl (h ∙ append-nil before)
by_fault path fault.File before now h = inr h
by_fault path (fault.TooLarge len) before now h = inl (h ∙ append-nil before)
by_fault path fault.Decode before now h = inl (h ∙ append-nil before)
by_fault path (fault.PayloadOver len) before now h = inl (h ∙ append-nil before)
by_fault path fault.NoInformation before now h = inl (h ∙ append-nil before)
by_fault path (fault.Lockfile reason) before now h = inl (h ∙ append-nil before)

by_answer : (path : List ℕ) (a : BinaryAnswer) (before now : List FailedCall) → now ≡ before ++ failed_by path a → AtMost path before now
by_answer path (answer.Audited found audited) before now h = inl (h ∙ append-nil before)
by_answer path (answer.Refused f) before now h = by_fault path f before now h

-- one path more
more : (path : List ℕ) (paths : List (List ℕ)) (before mid now : List FailedCall) → AtMost path before mid → AddsReadings paths mid now → AddsReadings (path ∷ paths) before now
more path paths before mid now (inl is) h = let P : List FailedCall → Type 0 = λ x. AddsReadings paths x now in inl (subst P is h)
more path paths before mid now (inr is) h = let P : List FailedCall → Type 0 = λ x. AddsReadings paths x now in inr (subst P is h)

-- none
pub none_added : (paths : List (List ℕ)) (before : List FailedCall) → AddsReadings paths before before
none_added [] before = refl
none_added (path ∷ paths) before = inl (none_added paths before)

-- those of the first paths
of_more : (n : ℕ) (paths : List (List ℕ)) (before now : List FailedCall) → AddsReadings (take n paths) before now → AddsReadings paths before now
of_more zero [] before now h = h
of_more (suc n) [] before now h = h
of_more zero (path ∷ paths) before now h = inl (let P : List FailedCall → Type 0 = λ x. AddsReadings paths before x in subst P (sym h) (none_added paths before))
of_more (suc n) (path ∷ paths) before now (inl h) = inl (of_more n paths before now h)
of_more (suc n) (path ∷ paths) before now (inr h) = inr (of_more n paths (before ++ reading_of path ∷ []) now h)

-- of all that were answered
pub all_added : (tells : Tells) (scan : Scan) (began ended : Outside) (paths : List (List ℕ)) (answers : List BinaryAnswer) → tells.files → AreBinaries tells scan began ended paths answers
    → AddsReadings paths began.failed ended.failed
all_added tells scan began ended [] [] told h = let P : Outside → Type 0 = λ x. x.failed ≡ began.failed in subst P (sym h) refl
all_added tells scan began ended [] (a ∷ answers) told h = absurd h
all_added tells scan began ended (path ∷ paths) [] told h = absurd h
all_added tells scan began ended (path ∷ paths) (a ∷ answers) told h =
    more path paths began.failed h.0.failed ended.failed (by_answer path a began.failed h.0.failed (h.1.counted.failed told)) (all_added tells scan h.0 ended paths answers told h.2)

-- if out of memory
next_same : (tells : Tells) (scan : Scan) (began ended : Outside) (paths : List (List ℕ)) → tells.files → IsNextBegun tells scan began ended paths → ended.failed ≡ began.failed
next_same tells scan began ended [] told h = let P : Outside → Type 0 = λ x. x.failed ≡ began.failed in subst P (sym h) refl
next_same tells scan began ended (path ∷ paths) told (inl h) = let P : Outside → Type 0 = λ x. x.failed ≡ began.failed in subst P (sym h) refl
next_same tells scan began ended (path ∷ paths) told (inr h) = h.failed told

pub partly_added : (tells : Tells) (scan : Scan) (began ended : Outside) (paths : List (List ℕ)) → tells.files → ArePartly tells scan began ended paths
    → AddsReadings paths began.failed ended.failed
partly_added tells scan began ended paths told h =
    let P : List FailedCall → Type 0 = λ x. AddsReadings paths began.failed x in
    subst P (sym (next_same tells scan h.2 ended (drop h.0 paths) told h.4))
    (of_more h.0 paths began.failed h.2.failed (all_added tells scan began h.2 (take h.0 paths) h.1 told h.3))

-- nothing is done
next_none : (tells : Tells) (scan : Scan) (began : Outside) (paths : List (List ℕ)) → IsNextBegun tells scan began began paths
next_none tells scan began [] = refl
next_none tells scan began (path ∷ paths) = inl refl

pub nothing_done : (tells : Tells) (scan : Scan) (began : Outside) (paths : List (List ℕ)) → ArePartly tells scan began began paths
nothing_done tells scan began paths = (0, [], began, refl, next_none tells scan began paths)

-- ---- by how the run ends

pub bin_calls : (command : AuditCommand) (paths : List (List ℕ)) (host : Host) (before now : List FailedCall) (o : Option RunFault) → IfSome o IsPrintFault → AddsReadings paths before now
    → AddsBinCalls command paths host before now o
bin_calls command paths host before now None only h = h
bin_calls command paths host before now (Some f) only h =
    let P : RunFault → Type 0 = λ e. AddsBinCalls command paths host before now (Some e) in print_case P f only h (inr h)

of_none : (paths : List (List ℕ)) (before now : List FailedCall) → now ≡ before → AddsReadings paths before now
of_none paths before now is = let P : List FailedCall → Type 0 = λ x. AddsReadings paths before x in subst P (sym is) (none_added paths before)

-- a fault of asking
by_asking : (command : AuditCommand) (paths : List (List ℕ)) (host : Host) (before now : List FailedCall) (e : AskFault) → AddsBy (IsForBinariesCall command host) before now e
    → AddsBinCalls command paths host before now (Some (by_ask e))
by_asking command paths host before now (ask.Settings reason) h = h
by_asking command paths host before now (ask.Missing path) h = h
by_asking command paths host before now (ask.NotUtf8 path) h = h
by_asking command paths host before now (ask.TooLarge path len) h = h
by_asking command paths host before now (ask.File path) h = h
by_asking command paths host before now (ask.Advisory n reason) h = h
by_asking command paths host before now (ask.Baseline line) h = h
by_asking command paths host before now (ask.Generate status) h = h
by_asking command paths host before now ask.Start h = h
by_asking command paths host before now ask.NoMemory h = inr (of_none paths before now h)

-- the same if it is out of memory after that
behind_asking : (command : AuditCommand) (paths : List (List ℕ)) (host : Host) (before now : List FailedCall) (e : AskFault) → AddsBy (IsForBinariesCall command host) before now e
    → AddsBinCalls command paths host before now (Some run_fault.NoMemory)
behind_asking command paths host before now (ask.Settings reason) h = inr (of_none paths before now h)
behind_asking command paths host before now (ask.Missing path) h = inr (of_none paths before now h)
behind_asking command paths host before now (ask.NotUtf8 path) h = inr (of_none paths before now h)
behind_asking command paths host before now (ask.TooLarge path len) h = inr (of_none paths before now h)
behind_asking command paths host before now (ask.File path) h = inl (path, h.0, h.1, h.2)
behind_asking command paths host before now (ask.Advisory n reason) h = inr (of_none paths before now h)
behind_asking command paths host before now (ask.Baseline line) h = inr (of_none paths before now h)
behind_asking command paths host before now (ask.Generate status) h = inr (of_none paths before now h)
behind_asking command paths host before now ask.Start h = inr (of_none paths before now h)
behind_asking command paths host before now ask.NoMemory h = inr (of_none paths before now h)

pub asking_calls : (command : AuditCommand) (paths : List (List ℕ)) (host : Host) (before now : List FailedCall) (e : AskFault) (o : Option RunFault) → (o ≡ Some (by_ask e)) ⊎ (o ≡ Some run_fault.NoMemory)
    → AddsBy (IsForBinariesCall command host) before now e → AddsBinCalls command paths host before now o
asking_calls command paths host before now e o (inl is) h = let P : Option RunFault → Type 0 = λ x. AddsBinCalls command paths host before now x in subst P (sym is) (by_asking command paths host before now e h)
asking_calls command paths host before now e o (inr is) h = let P : Option RunFault → Type 0 = λ x. AddsBinCalls command paths host before now x in subst P (sym is) (behind_asking command paths host before now e h)

-- ---- with answers for all of them, or a part

pub either_way : {T : Type 0} (o : Option T) (P : T → Type 0) (Q R : Type 0) → IfSome o P → IfNone o Q → ((x : T) → P x → R) → (Q → R) → R
either_way None P Q R some none f g = g none
either_way (Some x) P Q R some none f g = f x some
