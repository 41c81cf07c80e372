-- If a call may fail for one reason, it may fail for a wider one.
use Rattle.std.proofs.Common.{◌≡◌, ℕ, List, codes, bytes_eq, true, false, Result, Ok, Err, refl}
use Rattle.tame_names.specs.declared.host.FailedCall.{FailedCall}
use Rattle.tame_names.specs.declared.host.FileCall.TheVariants.{Read}
use Rattle.audit_asked.specs.Calls.{AddsBy, AddsFailed, IsCallOn, IsInputCall, IsLockfileCall}
use Rattle.audit_asked.specs.declared.faults.AskFault.{AskFault}
use Rattle.audit_asked.specs.declared.faults.AskFault.TheVariants as fault

pub widen_by : (one wider : List ℕ → FailedCall → Type 0) (before now : List FailedCall) (e : AskFault)
    → ((path : List ℕ) (call : FailedCall) → one path call → wider path call) → AddsBy one before now e → AddsBy wider before now e
widen_by one wider before now (fault.Settings reason) w h = h
widen_by one wider before now (fault.Missing path) w h = h
widen_by one wider before now (fault.NotUtf8 path) w h = h
widen_by one wider before now (fault.TooLarge path len) w h = h
widen_by one wider before now (fault.File path) w h = (h.0, h.1, w path h.0 h.2)
widen_by one wider before now (fault.Advisory n reason) w h = h
widen_by one wider before now (fault.Baseline line) w h = h
widen_by one wider before now (fault.Generate status) w h = h
widen_by one wider before now fault.Start w h = h
widen_by one wider before now fault.NoMemory w h = h

-- a call that failed, with what holds if one did
pub beside : (S : Type 0) (one : List ℕ → FailedCall → Type 0) (before now : List FailedCall) (e : AskFault)
    → ((path : List ℕ) → e ≡ fault.File path → S) → AddsBy one before now e → AddsBy (λ path call. one path call × S) before now e
beside S one before now (fault.Settings reason) s h = h
beside S one before now (fault.Missing path) s h = h
beside S one before now (fault.NotUtf8 path) s h = h
beside S one before now (fault.TooLarge path len) s h = h
beside S one before now (fault.File path) s h = (h.0, h.1, (h.2, s path refl))
beside S one before now (fault.Advisory n reason) s h = h
beside S one before now (fault.Baseline line) s h = h
beside S one before now (fault.Generate status) s h = h
beside S one before now fault.Start s h = h
beside S one before now fault.NoMemory s h = h

pub widen : {T : Type 0} (one wider : List ℕ → FailedCall → Type 0) (before now : List FailedCall) (r : Result T AskFault)
    → ((path : List ℕ) (call : FailedCall) → one path call → wider path call) → AddsFailed one before now r → AddsFailed wider before now r
widen one wider before now (Ok a) w h = h
widen one wider before now (Err e) w h = widen_by one wider before now e w h

-- the call that reads standard input, and the one that reads a file
pub input_call : (path told : List ℕ) (call : FailedCall) → bytes_eq path (codes "-") ≡ true → IsInputCall path told call → IsLockfileCall path told call
input_call path told call e h = (h.0, rw e h.1)

pub read_call : (path told : List ℕ) (call : FailedCall) → bytes_eq path (codes "-") ≡ false → IsCallOn Read path told call → IsLockfileCall path told call
read_call path told call e h = (h.0, rw e h.1)

-- the same for an answer that is this fault
pub widen_err : {T : Type 0} (one wider : List ℕ → FailedCall → Type 0) (before now : List FailedCall) (r : Result T AskFault) (e : AskFault)
    → r ≡ Err e → ((path : List ℕ) (call : FailedCall) → one path call → wider path call) → AddsBy one before now e → AddsFailed wider before now r
widen_err one wider before now r e is w h = rw is (widen_by one wider before now e w h)
