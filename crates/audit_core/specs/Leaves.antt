-- What a call leaves, whatever its result (this project).
use Rattle.std.specs.Prelude.{◌≡◌, ◌≢◌, ℕ, List}
use Rattle.tame_cache.specs.Kept.{Disk}
use Rattle.tame_sparse.specs.declared.network.Exchange.{Exchange}
use Rattle.audit_core.specs.Audits.{KeepsOthers, MakesAskedFolders}
use Rattle.audit_core.specs.Turns.{AddsPart}
use Rattle.audit_core.specs.declared.checking.Checks.{Checks}
use Rattle.audit_core.specs.declared.checking.Checks.TheVariants.{Online, Off}

-- what wire and disk hold at a moment: the exchanges so far, the files and the folders
pub record Holding : Type 0 where
  pub exchanges : List Exchange
  pub files : Disk
  pub folders : List (List ℕ)

abbrev pub holding : List Exchange → Disk → List (List ℕ) → Holding
holding exchanges files folders =
    record { exchanges = exchanges; files = files; folders = folders }

-- the first few paths were asked for; no file changed that belongs to no path, and no folders
-- were created except those above such files
pub record AsksOnly (wire_tells disk_tells : Type 0) (paths : List (List ℕ))
    (before now : Holding) : Type 0 where
  pub part : wire_tells → AddsPart paths before.exchanges now.exchanges
  pub others : disk_tells → KeepsOthers paths before.files now.files
  pub folders : disk_tells → MakesAskedFolders paths before.folders now.folders

-- only online is the wire called, and only then may a file have changed or a folder been created;
-- if checks are off the disk isn't called
pub record CallsBy (checks : Checks) (disk_tells wire_same disk_same : Type 0)
    (before now : Holding) : Type 0 where
  pub unasked : checks ≢ Online → wire_same
  pub unchanged : checks ≢ Online → disk_tells → (q : List ℕ) → now.files q ≡ before.files q
  pub unmade : checks ≢ Online → disk_tells → now.folders ≡ before.folders
  pub off : checks ≡ Off → disk_same
