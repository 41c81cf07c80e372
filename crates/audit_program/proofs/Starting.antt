-- The starts of a run by its fault.
use Rattle.std.proofs.Common.{◌≡◌, ◌⊎◌, inl, inr, ℕ, List, Bool, true, false, Option, Some, None, Ok, Err, refl, sym, subst}
use Rattle.std.specs.Prelude.{IfSome, IfNone, IsSome}
use Rattle.tame_names.specs.Standing.{Host}
use Rattle.audit_settings.specs.declared.commands.AuditCommand.{AuditCommand}
use Rattle.audit_asked.specs.Starts.{RunStarts, RunStartsWhere, StartsAtMost}
use Rattle.audit_asked.specs.declared.asking.Asked.{Asked}
use Rattle.audit_asked.specs.declared.faults.AskFault.{AskFault}
use Rattle.audit_asked.specs.declared.faults.AskFault.TheVariants as ask
use Rattle.audit_remedies.specs.declared.faults.RunFault.{RunFault}
use Rattle.audit_remedies.specs.declared.faults.RunFault.TheVariants as fault
use Rattle.audit_asked.specs.declared.runners.Started.{Started}
use Rattle.audit_program.specs.Calls.{StartsUnaudited, StartsWhere}
use Rattle.audit_program.specs.Causes.{BinariesCause, IsAskedFault}
use Rattle.audit_remedies.specs.Faults.{by_ask}
use Rattle.audit_program.specs.declared.tasks.Task.{Task}
use Rattle.audit_program.proofs.FaultCases.{not_read}

-- ---- if asking failed

fault_case : (before now : List Started) (e : AskFault) → StartsAtMost before now → RunStarts {T = Asked} before now (Err e) → StartsUnaudited before now (Some (by_ask e))
fault_case before now (ask.Settings reason) most h = h
fault_case before now (ask.Missing path) most h = h
fault_case before now (ask.NotUtf8 path) most h = h
fault_case before now (ask.TooLarge path len) most h = h
fault_case before now (ask.File path) most h = h
fault_case before now (ask.Advisory n reason) most h = h
fault_case before now (ask.Baseline line) most h = h
fault_case before now (ask.Generate status) most h = h
fault_case before now ask.Start most h = h
fault_case before now ask.NoMemory most h = most

pub failed_starts : (b : Bool) (before now : List Started) (e : AskFault) (o : Option RunFault) → (o ≡ Some (by_ask e)) ⊎ (o ≡ Some fault.NoMemory) → StartsAtMost before now → RunStartsWhere {T = Asked} b before now (Err e)
    → StartsWhere b before now o
failed_starts true before now e o (inl is) most h = let P : Option RunFault → Type 0 = λ x. StartsUnaudited before now x in subst P (sym is) (fault_case before now e most h)
failed_starts true before now e o (inr is) most h = let P : Option RunFault → Type 0 = λ x. StartsUnaudited before now x in subst P (sym is) most
failed_starts false before now e o is most h = h

-- ---- if asking was accepted, and nothing was audited

given_starts : (b : Bool) (before now : List Started) (task : Task) (given : Asked) (o : Option RunFault) → RunStartsWhere b before now (Ok given) → StartsAtMost before now → IfSome o (IsAskedFault task given)
    → ((n : ℕ) → o ≡ Some (fault.Start n) → ⊥) → StartsWhere b before now o
given_starts false before now task given o h most cause none = h
given_starts true before now task given None h most cause none = h
given_starts true before now task given (Some (fault.Lockfile reason)) h most cause none = h
given_starts true before now task given (Some fault.Print) h most cause none = h
given_starts true before now task given (Some fault.NoMemory) h most cause none = most
given_starts true before now task given (Some (fault.Start n)) h most cause none = absurd (none n refl)
given_starts true before now task given (Some (fault.Generate status)) h most cause none = absurd cause
given_starts true before now task given (Some (fault.File path)) h most cause none = inr h
given_starts true before now task given (Some (fault.Usage place)) h most cause none = absurd cause
given_starts true before now task given (Some (fault.Settings reason)) h most cause none = absurd cause
given_starts true before now task given (Some (fault.Missing path)) h most cause none = absurd cause
given_starts true before now task given (Some (fault.NotUtf8 path)) h most cause none = absurd cause
given_starts true before now task given (Some (fault.TooLarge path len)) h most cause none = absurd cause
given_starts true before now task given (Some (fault.Advisory n reason)) h most cause none = absurd cause
given_starts true before now task given (Some (fault.Baseline line)) h most cause none = absurd cause
given_starts true before now task given (Some (fault.Vendor reason)) h most cause none = h

pub unaudited_starts : {T : Type 0} (a : Option T) (b : Bool) (before mid now : List Started) (task : Task) (given : Asked) (o : Option RunFault) → RunStartsWhere b before mid (Ok given) → StartsAtMost before mid
    → IfSome o (IsAskedFault task given) → ((n : ℕ) → o ≡ Some (fault.Start n) → IsSome a) → IfNone a (now ≡ mid) → IfNone a (StartsWhere b before now o)
unaudited_starts (Some x) b before mid now task given o h most cause some same = tt
unaudited_starts None b before mid now task given o h most cause some same =
    let none : (n : ℕ) → o ≡ Some (fault.Start n) → ⊥ = λ n is. let no = some n is in cc in
    let P : List Started → Type 0 = λ x. StartsWhere b before x o in
    subst P (sym same) (given_starts b before mid task given o h most cause none)

-- one start failed if asking ended so
one_failed : (e : AskFault) (failed : ℕ) → by_ask e ≡ fault.Start failed → failed ≡ 1
one_failed (ask.Settings reason) failed is = cc (is)
one_failed (ask.Missing path) failed is = cc (is)
one_failed (ask.NotUtf8 path) failed is = cc (is)
one_failed (ask.TooLarge path len) failed is = cc (is)
one_failed (ask.File path) failed is = cc (is)
one_failed (ask.Advisory n reason) failed is = cc (is)
one_failed (ask.Baseline line) failed is = cc (is)
one_failed (ask.Generate status) failed is = cc (is)
one_failed ask.Start failed is = cc (is)
one_failed ask.NoMemory failed is = cc (is)

pub asked_one : (e : AskFault) (o : Option RunFault) (n : ℕ) → (o ≡ Some (by_ask e)) ⊎ (o ≡ Some fault.NoMemory) → o ≡ Some (fault.Start n) → n ≡ 1
asked_one e o n (inl is) ended = let same : by_ask e ≡ fault.Start n = cc (is, ended) in one_failed e n same
asked_one e o n (inr is) ended = cc (is, ended)

pub audited_some : {T : Type 0} (o : Option T) (P : Type 0) → IsSome o → IfNone o P
audited_some None P some = cc
audited_some (Some x) P some = tt

-- nothing is started for binaries
pub none_started : {X : Type 0} (told : Type 0) (command : AuditCommand) (host : Host) (o : Option RunFault) (n : ℕ) → IfSome o (BinariesCause told command host) → o ≡ Some (fault.Start n) → X
none_started told command host o n cause ended =
    let P : Option RunFault → Type 0 = λ x. IfSome x (BinariesCause told command host) in
    let refuses = subst P ended cause in
    not_read (fault.Start n) refuses.asked refuses.is refuses.only refl

-- nor if it is out of memory at once
pub memory_starts : (b : Bool) (before : List Started) (o : Option RunFault) → (o ≡ Some fault.NoMemory) ⊎ (o ≡ Some fault.NoMemory) → StartsWhere b before before o
memory_starts false before o end = refl
memory_starts true before o (inl is) = let P : Option RunFault → Type 0 = λ x. StartsUnaudited before before x in subst P (sym is) (inl refl)
memory_starts true before o (inr is) = let P : Option RunFault → Type 0 = λ x. StartsUnaudited before before x in subst P (sym is) (inl refl)
