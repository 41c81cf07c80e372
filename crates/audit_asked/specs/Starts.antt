-- The starts of programs that a runner makes (this project).
use Rattle.std.specs.Prelude.{◌≡◌, ◌≢◌, ◌≤◌, ◌⊎◌, ℕ, ℤ, pos, codes, List, [], ◌∷◌, ◌++◌, Bool, true, false, Option, Some, None, Result, Ok, Err}
use Rattle.tame_names.specs.Counts.{CountRose}
use Rattle.audit_asked.specs.Places.{lockfile_name, manifest_name}
use Rattle.audit_asked.specs.declared.faults.AskFault.{AskFault}
use Rattle.audit_asked.specs.declared.faults.AskFault.TheVariants as fault
use Rattle.audit_asked.specs.declared.places.LocateError.{LocateError}
use Rattle.audit_asked.specs.declared.places.LocateError.TheVariants as locate
use Rattle.audit_asked.specs.declared.runners.StartFault.{StartFault}
use Rattle.audit_asked.specs.declared.runners.StartFault.TheVariants as start_fault
use Rattle.audit_asked.specs.declared.runners.Started.{Started}

-- ---- one start

-- one more start, with these arguments, also a failed one; none if out of memory
abbrev pub with_start : List Started → List (List ℕ) → Result ℤ StartFault → List Started
with_start before words (Ok status) = before ++ record { words = words; status = Some status } ∷ []
with_start before words (Err start_fault.Failed) =
    before ++ record { words = words; status = None } ∷ []
with_start before words (Err start_fault.NoMemory) = before

-- ---- the start that generates a lockfile

abbrev pub generating_words : List (List ℕ)
generating_words = codes "update" ∷ codes "--workspace" ∷ []

-- the start that generates a lockfile, as it ended
abbrev pub generating : Option ℤ → Started
generating status = record { words = generating_words; status = status }

abbrev pub AddsStart : Option ℤ → List Started → List Started → Type 0
AddsStart status before now = now ≡ before ++ generating status ∷ []

-- if the call succeeded, a start that ended with 0; else one with the reported status or one that
-- failed; none if out of memory or if a look at the files failed
abbrev pub Generates : {T : Type 0} → List Started → List Started → Result T LocateError → Type 0
Generates before now (Ok done) = AddsStart (Some (pos 0)) before now
Generates before now (Err (locate.Generate status)) = AddsStart (Some status) before now
Generates before now (Err locate.Start) = AddsStart None before now
Generates before now (Err (locate.File path)) = now ≡ before
Generates before now (Err locate.NoMemory) = now ≡ before

-- the same if a lockfile must be generated, else no start
abbrev pub GeneratesWhere : {T : Type 0} → Bool → List Started → List Started → Result T LocateError
    → Type 0
GeneratesWhere true before now result = Generates before now result
GeneratesWhere false before now result = now ≡ before

-- at most the start that generates a lockfile
abbrev pub StartsAtMost : List Started → List Started → Type 0
StartsAtMost before now = (now ≡ before) ⊎ ((status : Option ℤ) × AddsStart status before now)

-- the count never falls, and a failed start raised it
pub record HasStartCause {T : Type 0} (before now : ℕ)
    (result : Result T LocateError) : Type 0 where
  pub later : before ≤ now
  pub rose : result ≡ Err locate.Start → CountRose before now

-- a start failed, or ended with a status other than 0
abbrev pub IsStartError : LocateError → Type 0
IsStartError locate.Start = Unit {0}
IsStartError (locate.Generate status) = Unit {0}
IsStartError _ = ⊥

-- a failed look was at `Cargo.lock` or at `Cargo.toml`, and a reported status isn't 0
abbrev pub IsLocateError : LocateError → Type 0
IsLocateError (locate.File path) = (path.now ≡ lockfile_name) ⊎ (path.now ≡ manifest_name)
IsLocateError (locate.Generate status) = status ≢ pos 0
IsLocateError _ = Unit {0}

-- ---- the starts of a run

-- after a fault: the start as it ended; if a call on the files failed or out of memory, it may have
-- been made or not
abbrev pub StartsBy : List Started → List Started → AskFault → Type 0
StartsBy before now (fault.Generate status) = AddsStart (Some status) before now
StartsBy before now fault.Start = AddsStart None before now
StartsBy before now (fault.File path) = (now ≡ before) ⊎ AddsStart (Some (pos 0)) before now
StartsBy before now fault.NoMemory = (now ≡ before) ⊎ AddsStart (Some (pos 0)) before now
StartsBy before now _ = AddsStart (Some (pos 0)) before now

-- if a lockfile must be generated
abbrev pub RunStarts : {T : Type 0} → List Started → List Started → Result T AskFault → Type 0
RunStarts before now (Ok a) = AddsStart (Some (pos 0)) before now
RunStarts before now (Err e) = StartsBy before now e

abbrev pub RunStartsWhere : {T : Type 0} → Bool → List Started → List Started → Result T AskFault
    → Type 0
RunStartsWhere true before now result = RunStarts before now result
RunStartsWhere false before now result = now ≡ before

-- the lockfile's path is known: the start that generates a lockfile ended with 0, if one must be
-- generated
abbrev pub IsPlaced : Bool → List Started → List Started → Type 0
IsPlaced true before now = AddsStart (Some (pos 0)) before now
IsPlaced false before now = now ≡ before

-- the count never falls, and a failed start raised it
pub record HasRunStartCause {T : Type 0} (before now : ℕ)
    (result : Result T AskFault) : Type 0 where
  pub later : before ≤ now
  pub rose : result ≡ Err fault.Start → CountRose before now
