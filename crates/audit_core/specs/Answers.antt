-- What came for a path says about every version of its crate: the table of verdicts, read once
-- for a path (Cargo Book, "Registry Index", sparse protocol).
use Rattle.std.specs.Prelude.{◌≡◌, ◌⊎◌, ℕ, List, map, Bool, ◌==◌, ◌||◌, Option, Some, None, Result, Ok, Err, if◌then◌else◌}
use Rattle.tame_names.specs.Counts.{CountRose}
use Rattle.tame_names.specs.declared.errors.CacheError.{CacheError}
use Rattle.tame_records.specs.Lines.{lines}
use Rattle.tame_entry.specs.Entry.{ReadEntry, lines_in, read_entry}
use Rattle.tame_entry.specs.Krates.{Item, iterated}
use Rattle.tame_entry.specs.Lines.{valid}
use Rattle.tame_entry.specs.VersionStatuses.{version_flags}
use Rattle.tame_entry.specs.declared.index_entries.IndexEntry.{IndexEntry}
use Rattle.tame_cache.specs.Disk.{File}
use Rattle.tame_sparse.specs.Exchanges.{crates_io_index}
use Rattle.tame_sparse.specs.declared.network.Representation.{Representation}
use Rattle.tame_sparse.specs.declared.network.WireAnswer.{WireAnswer}
use Rattle.audit_core.specs.declared.answers.PathAnswer.{PathAnswer}
use Rattle.audit_core.specs.declared.answers.PathAnswer.TheVariants.{Settled, Lines}
use Rattle.audit_core.specs.declared.verdicts.Cause.TheVariants as cause

-- ---- the table

abbrev pub status_says_absent : ℕ → Bool
status_says_absent status = status == 404 || status == 410 || status == 451

-- by the status of what came: absent, what the body that was sent says, what the body that is kept
-- says, or the status itself
abbrev pub by_status : ℕ → PathAnswer → PathAnswer → PathAnswer
by_status status sent kept =
    if status_says_absent status then Settled cause.Absent
    else if status == 200 then sent
    else if status == 304 then kept
    else Settled (cause.Status status)

abbrev pub IsNotModified : Option WireAnswer → Type 0
IsNotModified None = ⊥
IsNotModified (Some a) = a.status ≡ 304

-- ---- what bodies and files say

-- by the lines of a body that is valid
abbrev pub body_answer : List ℕ → PathAnswer
body_answer body =
    if valid body then Lines (version_flags (lines body)) else Settled cause.JsonLines

-- by the lines of a readable entry; a refused file counts as none
abbrev pub read_answer : Result ReadEntry CacheError → PathAnswer
read_answer (Ok e) = Lines (version_flags (lines_in e.versions))
read_answer (Err f) = Settled cause.Absent

-- by the file of the cache
abbrev pub file_answer : File → PathAnswer
file_answer None = Settled cause.Absent
file_answer (Some bytes) = read_answer (read_entry crates_io_index bytes)

-- ---- the table over what came

-- at not-modified by what is kept
abbrev pub answer_of : PathAnswer → Option WireAnswer → PathAnswer
answer_of kept None = Settled cause.Wire
answer_of kept (Some a) = by_status a.status (body_answer a.body) kept

-- over the file of the cache; at not-modified it may be that this couldn't be read
abbrev pub IsAnswer : File → Option WireAnswer → PathAnswer → Type 0
IsAnswer file came a =
    (a ≡ answer_of (file_answer file) came) ⊎ (IsNotModified came × (a ≡ Settled cause.Store))

-- ---- the table over what the server held

-- a held body if it is sent; if nothing is held an honest server doesn't send 200
abbrev pub sent_held : Option Representation → PathAnswer
sent_held None = Settled cause.Absent
sent_held (Some h) = body_answer h.body

-- a held body if it is confirmed; if nothing is held an honest server doesn't send 304
abbrev pub kept_held : Option Representation → PathAnswer
kept_held None = Settled cause.Absent
kept_held (Some h) = Lines (version_flags (lines h.body))

abbrev pub held_answer : Option Representation → Option WireAnswer → PathAnswer
held_answer held None = Settled cause.Wire
held_answer held (Some a) = by_status a.status (sent_held held) (kept_held held)

-- at not-modified it may be that the kept entry couldn't be read, if the disk's count of faults
-- rose
abbrev pub IsHeldAnswer : Option Representation → Option WireAnswer → ℕ → ℕ → PathAnswer → Type 0
IsHeldAnswer held came asked after a =
    (a ≡ held_answer held came)
    ⊎ (IsNotModified came × CountRose asked after × (a ≡ Settled cause.Store))

-- ---- by the lines of an index entry

abbrev pub items_answer : Result (List Item) CacheError → PathAnswer
items_answer (Ok items) = Lines (version_flags (map (λ i. i.1) items))
items_answer (Err f) = Settled cause.Absent

abbrev pub entry_answer : IndexEntry → PathAnswer
entry_answer e = items_answer (iterated e)
