-- A file of a disk as the list of its changes: what a read gives, what a crash now may leave, and
-- what a crash might have left (this project).
use Rattle.std.specs.Prelude.{◌≡◌, ◌⊎◌, ℕ, ◌+◌, ◌≤◌, min, max, List, [], ◌∷◌, ◌++◌, length, take, drop, Option, Some, None}
use Rattle.tame_cache.specs.declared.disk.Peek.{Peek}
use Rattle.tame_cache.specs.declared.disk.Peek.TheVariants.{Absent, Empty, Byte}

-- the bytes of a file, or that there is none
abbrev pub File : Type 0
File = Option (List ℕ)

-- an absent file counts as empty
abbrev pub content : File → List ℕ
content None = []
content (Some bytes) = bytes

-- what a look at the first byte finds
abbrev pub first_of : File → Peek
first_of None = Absent
first_of (Some []) = Empty
first_of (Some (byte ∷ rest)) = Byte byte

-- the bytes with a piece at a place
abbrev pub with_piece : List ℕ → ℕ → List ℕ → List ℕ
with_piece bytes at piece = take at bytes ++ piece ++ drop (at + length piece) bytes

-- a write of n bytes at a place that a crash may have torn: any bytes in that range and past the
-- old end, the same elsewhere, and any length between the old and the new one
pub record Torn (at n : ℕ) (old new : List ℕ) : Type 0 where
  pub before : take (min at (length old)) new ≡ take at old
  pub after : drop (at + n) new ≡ drop (at + n) old
  pub no_shorter : length old ≤ length new
  pub no_longer : length new ≤ max (length old) (at + n)

-- a cut that a crash may have torn: any length between the old and the new one, and the bytes below
-- it as they were
pub record CutShort (len : ℕ) (old new : List ℕ) : Type 0 where
  pub no_shorter : min len (length old) ≤ length new
  pub front : take (length new) old ≡ new

-- the same for files: a new one may be absent
abbrev pub TornFile : ℕ → ℕ → File → File → Type 0
TornFile at n None new = (new ≡ None) ⊎ ((bytes : List ℕ) × (new ≡ Some bytes) × Torn at n [] bytes)
TornFile at n (Some old) new = (bytes : List ℕ) × (new ≡ Some bytes) × Torn at n old bytes

abbrev pub CutFile : ℕ → File → File → Type 0
CutFile len None new = new ≡ None
CutFile len (Some old) new = (bytes : List ℕ) × (new ≡ Some bytes) × CutShort len old bytes

-- a change of a file: the range that was written, the length that it was cut to, or that it was
-- synced; and what a read gives after it
pub data Step : Type 0 where
  Wrote : (at n : ℕ) (now : File) → Step
  WasCut : (len : ℕ) (now : File) → Step
  Synced : (now : File) → Step

-- what a read gives, the newest change first
abbrev pub reads : List Step → File
reads [] = None
reads (Wrote at n now ∷ older) = now
reads (WasCut len now ∷ older) = now
reads (Synced now ∷ older) = now

-- what a crash now may leave
abbrev pub may_leave : List Step → File → Type 0
may_leave [] file = file ≡ None
may_leave (Wrote at n now ∷ older) file =
    (file ≡ now) ⊎ ((old : File) × may_leave older old × TornFile at n old file)
may_leave (WasCut len now ∷ older) file =
    (file ≡ now) ⊎ ((old : File) × may_leave older old × CutFile len old file)
may_leave (Synced now ∷ older) file = file ≡ now

-- what a crash might have left at some moment since the file had t changes
abbrev pub left_since : ℕ → List Step → File → Type 0
left_since t [] file = may_leave [] file
left_since t (step ∷ older) file =
    may_leave (step ∷ older) file ⊎ ((t ≤ length older) × left_since t older file)

-- a write of n bytes, failed or not: nothing was done, or it is one more change, which a read may
-- find torn
abbrev pub MayWrite : ℕ → ℕ → List Step → List Step → Type 0
MayWrite at n old new =
    (new ≡ old) ⊎ ((new ≡ Wrote at n (reads new) ∷ old) × TornFile at n (reads old) (reads new))

abbrev pub MayCut : ℕ → List Step → List Step → Type 0
MayCut len old new =
    (new ≡ old) ⊎ ((new ≡ WasCut len (reads new) ∷ old) × CutFile len (reads old) (reads new))

-- a sync, failed or not: nothing was done, or it is one more change
abbrev pub MaySync : List Step → List Step → Type 0
MaySync old new = (new ≡ old) ⊎ (new ≡ Synced (reads old) ∷ old)

-- a crash leaves what a read gives, and no other file
abbrev pub IsAlone : List Step → Type 0
IsAlone past = (file : File) → may_leave past file → file ≡ reads past

-- a crash at any moment from the old list to the new one leaves a file that has P
pub record EachMoment (old new : List Step) (P : File → Type 0) : Type 0 where
  pub grows : (added : List Step) × (new ≡ added ++ old)
  pub each : (file : File) → left_since (length old) new file → P file
