-- What two audits of generated packages do (this project).
use Rattle.std.specs.Prelude.{◌≡◌, ◌<◌, ℕ, List, ◌++◌, map, Some, None}
use Rattle.std.specs.List.{range_with_len}
use Rattle.tame_entry.specs.Entry.{entry, pairs}
use Rattle.tame_entry.specs.Revision.{Http}
use Rattle.tame_entry.specs.declared.revisions.OwnedRevision.TheVariants.{Etag}
use Rattle.tame_cache.specs.Disk.{reads}
use Rattle.tame_cache.specs.Kept.{Disk}
use Rattle.tame_sparse.specs.Exchanges.{crates_io_index, crates_io_uri}
use Rattle.tame_sparse.specs.Serving.{found, not_modified, representation_of}
use Rattle.tame_sparse.specs.declared.network.Exchange.{Exchange}
use Rattle.audit_core.specs.Answers.{body_answer}
use Rattle.audit_core.specs.Auditors.{audit_exit, audit_report}
use Rattle.audit_core.specs.Turns.{index_file}
use Rattle.audit_core.specs.Verdicts.{verdict_by}
use Rattle.audit_core.specs.declared.asking.Turn.{Turn}
use Rattle.audit_core.specs.declared.auditing.Audited.{Audited}
use Rattle.audit_core.specs.declared.auditors.Auditor.{Auditor}
use Rattle.audit_core.specs.declared.verdicts.Judged.{Judged}
use Rattle.audit_generator.specs.Packages.{packages, version_at}
use Rattle.audit_generator.specs.Hosted.{body_at, etag_at, held_for, path_at}

-- the file of package k is asked for and sent; nothing is named
abbrev pub sent : ℕ → Exchange
sent k = record {
  url = crates_io_uri (path_at k);
  path = path_at k;
  named = None;
  held = Some (representation_of (held_for k));
  answer = Some (found (held_for k));
}

-- it is asked for again, its entity tag is named, and it is not modified
abbrev pub confirmed : ℕ → Exchange
confirmed k = record {
  url = crates_io_uri (path_at k);
  path = path_at k;
  named = Some (Etag (etag_at k));
  held = Some (representation_of (held_for k));
  answer = Some (not_modified (held_for k));
}

-- each file is sent once, and then confirmed once
abbrev pub exchanges_of : ℕ → List Exchange
exchanges_of n = map sent (range_with_len 0 n) ++ map confirmed (range_with_len 0 n)

-- the entry of package k in the cache: its index, its entity tag, and the lines of its body
abbrev pub entry_at : ℕ → List ℕ
entry_at k = entry crates_io_index (Http (Etag (etag_at k))) (pairs (body_at k))

-- a read of the file of each path gives its entry
abbrev pub AreStored : ℕ → Disk → Type 0
AreStored n files = (k : ℕ) → k < n → reads (files (index_file (path_at k))) ≡ Some (entry_at k)

-- by what the lines of its body say about its version
abbrev pub judged_at : ℕ → Judged
judged_at k = record {
  «package» = k;
  verdict = verdict_by (body_answer (body_at k)) (version_at k);
}

abbrev pub verdicts_of : ℕ → List Judged
verdicts_of n = map judged_at (range_with_len 0 n)

-- the turn of package k: its path, with no fault at any time
abbrev pub turn_at : ℕ → Turn
turn_at k = record {
  path = path_at k;
  wire_before = 0;
  wire_after = 0;
  disk_before = 0;
  disk_asked = 0;
  disk_after = 0;
}

abbrev pub turns_of : ℕ → List Turn
turns_of n = map turn_at (range_with_len 0 n)

-- an audit of n packages says this: the packages, the verdicts, the turns, and the report and the
-- exit of the auditor over the packages and the verdicts
pub record SaysOf (n : ℕ) (auditor : Auditor) (audited : Audited) : Type 0 where
  pub lockfile : audited.lockfile ≡ packages n
  pub verdicts : audited.verdicts ≡ verdicts_of n
  pub turns : audited.turns ≡ turns_of n
  pub report : audited.report ≡ audit_report auditor (packages n) (verdicts_of n)
  pub exit : audited.exit ≡ audit_exit auditor (audit_report auditor (packages n) (verdicts_of n))
