-- What a disk records of the calls on it (this project).
use Rattle.std.specs.Prelude.{◌≡◌, ◌<◌, ◌-◌, ℕ, IsTrue, Bool, List, [], ◌++◌, Option, Some, None, codes, Result, Ok, Err}
use Rattle.std.specs.Fmt.{decimal}
use Rattle.tame_cache.specs.declared.disk.DiskReadFault.{DiskReadFault}
use Rattle.tame_cache.specs.declared.disk.DiskReadFault.TheVariants as fault
use Rattle.tame_cache.specs.declared.disk.Peek.{Peek}
use Rattle.tame_cache.specs.declared.disk.Peek.TheVariants as peek

-- a note: its text and a semicolon
abbrev pub note : List ℕ → List ℕ
note text = text ++ codes "; "

-- these notes were added to the record, unless memory ran out for one of them
pub record AddsNotes (notes before after : List ℕ) (was_whole is_whole : Bool) : Type 0 where
  pub whole : IsTrue is_whole → IsTrue was_whole
  pub added : IsTrue is_whole → after ≡ before ++ notes

-- what a call adds that isn't let through, behind its own note
abbrev pub stopped : {E : Type 0} → Result Unit E → List ℕ
stopped (Ok begun) = []
stopped (Err fault) = note (codes "fault")

-- the text that a call which gives nothing is answered with
abbrev pub done_text : {E : Type 0} → Result Unit E → List ℕ
done_text (Ok done) = codes "done"
done_text (Err fault) = codes "fault"

-- the text of a write; how its piece is told stays open
abbrev pub write_text : List ℕ → ℕ → List ℕ → List ℕ
write_text path at told =
    codes "write " ++ path ++ codes " " ++ decimal at ++ codes " " ++ told

-- what a file begins with
abbrev pub first_text : Peek → List ℕ
first_text peek.Absent = codes "absent"
first_text peek.Empty = codes "empty"
first_text (peek.Byte byte) = codes "byte " ++ decimal byte

-- the text that a look at a file is answered with
abbrev pub peek_text : {E : Type 0} → Result Peek E → List ℕ
peek_text (Ok first) = first_text first
peek_text (Err fault) = codes "fault"

-- the text that a read is answered with; how the bytes of a file are told stays open
abbrev pub read_text : {A : Type 0} → List ℕ → Result (Option A) DiskReadFault → List ℕ
read_text told (Ok None) = codes "absent"
read_text told (Ok (Some file)) = told
read_text told (Err fault.Failed) = codes "fault"
read_text told (Err fault.NoMemory) = codes "no memory"

-- a call took one of those that are let through and failed by the disk's own fault; one that isn't
-- let through leaves the disk
pub record IsPassed {D : Type 0} (left now_left : ℕ) (disk now_disk : D) (Cause : Type 0) : Type 0
  where
    pub counted : now_left ≡ left - 1
    pub own : 0 < left → Cause
    pub stopped : left ≡ 0 → now_disk ≡ disk
