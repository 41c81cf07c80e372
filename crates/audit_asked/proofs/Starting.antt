-- What a fault says about the starts.
use Rattle.std.proofs.Common.{◌≡◌, ◌≤◌, ℕ, Bool, true, false, IsTrue, List, Option, Result, Ok, Err, IfErr, refl, inl, inr}
use Rattle.audit_asked.specs.Refusals.{IsReadFault, IsTextsFault, is_told}
use Rattle.audit_asked.specs.Starts.{HasRunStartCause, IsPlaced, RunStartsWhere}
use Rattle.audit_asked.specs.declared.faults.AskFault.{AskFault}
use Rattle.audit_asked.specs.declared.faults.AskFault.TheVariants as fault
use Rattle.audit_asked.specs.declared.runners.Started.{Started}

-- a fault of reading comes before any start
early_by : (T : Type 0) (b : Bool) (xs : List Started) (e : AskFault) → IsReadFault e → (IsTrue (is_told e) → b ≡ false) → RunStartsWhere {T = T} b xs xs (Err e)
early_by T false xs e k f = refl
early_by T true xs (fault.Settings reason) k f = let h : true ≡ false = f refl in cc
early_by T true xs (fault.Missing path) k f = let h : true ≡ false = f refl in cc
early_by T true xs (fault.NotUtf8 path) k f = let h : true ≡ false = f refl in cc
early_by T true xs (fault.TooLarge path len) k f = let h : true ≡ false = f refl in cc
early_by T true xs (fault.File path) k f = inl refl
early_by T true xs (fault.Advisory n reason) k f = let h : true ≡ false = f refl in cc
early_by T true xs (fault.Baseline line) k f = absurd k
early_by T true xs (fault.Generate status) k f = absurd k
early_by T true xs fault.Start k f = absurd k
early_by T true xs fault.NoMemory k f = inl refl

pub early : {T : Type 0} (b : Bool) (xs : List Started) (r : Result T AskFault) (e : AskFault) → r ≡ Err e → IsReadFault e
    → (IsTrue (is_told e) → b ≡ false) → RunStartsWhere b xs xs r
early {T} b xs r e is k f = rw is (early_by T b xs e k f)

-- a fault of reading comes after the successful start, if there was one
pub late : {T S : Type 0} (named : Option (List ℕ)) (b : Bool) (before now : List Started) (s : S) (r : Result T AskFault) → IfErr r (IsTextsFault named)
    → RunStartsWhere b before now (Ok s) → RunStartsWhere b before now r
late named false before now s r k h = h
late named true before now s (Ok a) k h = h
late named true before now s (Err (fault.Settings reason)) k h = h
late named true before now s (Err (fault.Missing path)) k h = h
late named true before now s (Err (fault.NotUtf8 path)) k h = h
late named true before now s (Err (fault.TooLarge path len)) k h = h
late named true before now s (Err (fault.File path)) k h = inr h
late named true before now s (Err (fault.Advisory n reason)) k h = h
late named true before now s (Err (fault.Baseline line)) k h = h
late named true before now s (Err (fault.Generate status)) k h = absurd k
late named true before now s (Err fault.Start) k h = absurd k
late named true before now s (Err fault.NoMemory) k h = inr h

-- the path is known once the start succeeded
pub placed : {S : Type 0} (b : Bool) (before now : List Started) (s : S)
    → RunStartsWhere b before now (Ok s) → IsPlaced b before now
placed true before now s h = h
placed false before now s h = h

-- a fault of reading is no failed start
unstarted : (e : AskFault) → IsReadFault e → e ≡ fault.Start → ⊥
unstarted (fault.Settings reason) k is = cc
unstarted (fault.Missing path) k is = cc
unstarted (fault.NotUtf8 path) k is = cc
unstarted (fault.TooLarge path len) k is = cc
unstarted (fault.File path) k is = cc
unstarted (fault.Advisory n reason) k is = cc
unstarted (fault.Baseline line) k is = absurd k
unstarted (fault.Generate status) k is = absurd k
unstarted fault.Start k is = absurd k
unstarted fault.NoMemory k is = cc

pub quiet_cause : {T : Type 0} (before now : ℕ) (r : Result T AskFault) → before ≤ now → IfErr r IsReadFault → HasRunStartCause before now r
quiet_cause before now (Ok a) later k = record { later = later; rose = λ is. cc }
quiet_cause before now (Err e) later k = record {
  later = later;
  rose = λ is. let same : e ≡ fault.Start = cc in absurd (unstarted e k same);
}
