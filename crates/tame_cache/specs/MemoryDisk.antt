-- What a disk in memory holds, and what a crash leaves of it.
use Rattle.std.specs.Prelude.{◌≡◌, ◌/◌, ◌-◌, ◌^◌, ℕ, suc, List, [], ◌∷◌, length, take, drop, map, replicate, false, nat_le, ◌==◌, Some, None, option_map, if◌then◌else◌}
use Rattle.std.specs.String.{string_bytes}
use Rattle.tame_cache.specs.declared.memory_disk.MemCacheDisk.{MemCacheDisk}
use Rattle.tame_cache.specs.Disk.{File, IsAlone, Step, Wrote, WasCut, Synced, may_leave, reads, with_piece}
use Rattle.tame_cache.specs.Calls.{past_of}

abbrev pub past_in : MemCacheDisk → List ℕ → List Step
past_in disk path = past_of path [] disk.changes

-- the paths above which folders were created
abbrev pub folders_in : MemCacheDisk → List (List ℕ)
folders_in disk = map (λ path. string_bytes path) disk.folders.items

-- ---- what a crash leaves, by a pick: four of the files that it may leave

-- as after the last sync
abbrev pub lost : List Step → File
lost [] = None
lost (Wrote at n now ∷ older) = lost older
lost (WasCut len now ∷ older) = lost older
lost (Synced now ∷ older) = now

-- a range of fours at a place; past the end there is none
abbrev pub with_fours : ℕ → ℕ → File → File
with_fours at n None = if at == 0 then Some (replicate n 4) else None
with_fours at n (Some bytes) =
    if nat_le at (length bytes) then Some (with_piece bytes at (replicate n 4)) else Some bytes

-- each byte that was written since the last sync is a four
abbrev pub spoiled : List Step → File
spoiled [] = None
spoiled (Wrote at n now ∷ older) = with_fours at n (spoiled older)
spoiled (WasCut len now ∷ older) = option_map (take len) (spoiled older)
spoiled (Synced now ∷ older) = now

-- how many changes aren't synced
abbrev pub pending : List Step → ℕ
pending [] = 0
pending (Wrote at n now ∷ older) = suc (pending older)
pending (WasCut len now ∷ older) = suc (pending older)
pending (Synced now ∷ older) = 0

-- the first half of these changes
abbrev pub half : List Step → File
half past = reads (drop (pending past - pending past / 2) past)

-- 0 as after the last sync, 1 as a read gives, 2 with fours, else the first half
abbrev pub picked : ℕ → List Step → File
picked pick past =
    if pick == 0 then lost past
    else if pick == 1 then reads past
    else if pick == 2 then spoiled past
    else half past

-- after a crash the file is the picked one, which is one that a crash may leave, and nothing is
-- pending
pub record IsCrashed (pick : ℕ) (path : List ℕ) (old new : MemCacheDisk) : Type 0 where
  pub picked : reads (past_in new path) ≡ picked pick (past_in old path)
  pub possible : may_leave (past_in old path) (reads (past_in new path))
  pub only : IsAlone (past_in new path)

-- there was no call, and none is to fail
pub record IsFresh (disk : MemCacheDisk) : Type 0 where
  pub folders : folders_in disk ≡ []
  pub tears : disk.tears ≡ false
  pub failing : disk.counts.failing.items ≡ []
  pub stop : disk.counts.stop ≡ 2 ^ 64 - 1
  pub made : disk.counts.made ≡ 0
  pub faults : disk.counts.faults ≡ 0
  pub starved : disk.counts.starved ≡ 0
