-- All that is outside of a run, at a moment (this project).
use Rattle.std.specs.Prelude.{ℕ, List}
use Rattle.tame_names.specs.Standing.{Host}
use Rattle.tame_names.specs.declared.host.FailedCall.{FailedCall}
use Rattle.tame_cache.specs.FailedCalls.{FailedDiskCalls}
use Rattle.tame_cache.specs.Kept.{Disk}
use Rattle.tame_sparse.specs.declared.network.Exchange.{Exchange}
use Rattle.audit_asked.specs.declared.runners.Started.{Started}
use Rattle.audit_core.specs.Audits.{Moment}
use Rattle.audit_core.specs.Leaves.{Holding}
use Rattle.audit_binaries.specs.Binaries.{Outside, outside}
use Rattle.audit_binaries.specs.Decoding.{DecoderAnswers}
use Rattle.audit_remedies.specs.Moments.{moment}

-- the exchanges with the server so far; the cache's files and folders, and the calls on its disk
-- that failed; what the host has, and the calls on it that failed; what its decoder answers; the
-- programs that were started, with how they ended; what the two outputs hold; and of each how often
-- it has failed
pub record World : Type 0 where
  pub exchanges : List Exchange
  pub wire_faults : ℕ
  pub cache : Disk
  pub folders : List (List ℕ)
  pub disk_faults : ℕ
  pub disk_failed : FailedDiskCalls
  pub host : Host
  pub failed : List FailedCall
  pub file_faults : ℕ
  pub decodes : DecoderAnswers
  pub decode_faults : ℕ
  pub starts : List Started
  pub start_faults : ℕ
  pub out : List ℕ
  pub out_faults : ℕ
  pub err : List ℕ
  pub err_faults : ℕ

-- by its fields in their order
abbrev pub world : List Exchange → ℕ → Disk → List (List ℕ) → ℕ → FailedDiskCalls → Host
    → List FailedCall → ℕ → DecoderAnswers → ℕ → List Started → ℕ → List ℕ → ℕ → List ℕ → ℕ → World
world exchanges wire_faults cache folders disk_faults disk_failed host failed file_faults decodes
    decode_faults starts start_faults out out_faults err err_faults = record {
      exchanges = exchanges;
      wire_faults = wire_faults;
      cache = cache;
      folders = folders;
      disk_faults = disk_faults;
      disk_failed = disk_failed;
      host = host;
      failed = failed;
      file_faults = file_faults;
      decodes = decodes;
      decode_faults = decode_faults;
      starts = starts;
      start_faults = start_faults;
      out = out;
      out_faults = out_faults;
      err = err;
      err_faults = err_faults;
    }

-- which of them are told: objects in memory are, real ones aren't
pub record Telling : Type 1 where
  pub files : Type 0
  pub decoder : Type 0
  pub runner : Type 0
  pub wire : Type 0
  pub disk : Type 0
  pub out : Type 0
  pub err : Type 0

abbrev pub telling : Type 0 → Type 0 → Type 0 → Type 0 → Type 0 → Type 0 → Type 0 → Telling
telling files decoder runner wire disk out err = record {
  files = files;
  decoder = decoder;
  runner = runner;
  wire = wire;
  disk = disk;
  out = out;
  err = err;
}

-- that each of them but the outputs is the very object that it was
pub record Uncalled : Type 1 where
  pub files : Type 0
  pub decoder : Type 0
  pub runner : Type 0
  pub wire : Type 0
  pub disk : Type 0

abbrev pub uncalled : Type 0 → Type 0 → Type 0 → Type 0 → Type 0 → Uncalled
uncalled files decoder runner wire disk = record {
  files = files;
  decoder = decoder;
  runner = runner;
  wire = wire;
  disk = disk;
}

-- ---- as the crates below speak of it

abbrev pub moment_of : World → Moment
moment_of w = moment w.exchanges w.cache w.wire_faults w.disk_faults w.disk_failed

abbrev pub outside_of : World → Outside
outside_of w =
    outside w.exchanges w.cache w.wire_faults w.disk_faults w.disk_failed w.folders w.failed
    w.file_faults w.decode_faults

abbrev pub holding_of : World → Holding
holding_of w = record { exchanges = w.exchanges; files = w.cache; folders = w.folders }
