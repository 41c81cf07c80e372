-- A binary over the host and the decoder as an earlier moment had them, which are the same.
use Rattle.std.proofs.Common.{◌≡◌, inl, inr, ℕ, List, Result, Ok, Err, subst}
use Rattle.tame_names.specs.Standing.{Host}
use Rattle.audit_core.specs.declared.auditors.Auditor.{Auditor}
use Rattle.audit_binaries.specs.Binaries.{IsAnswered, IsBegun, IsBinary, IsCutOff, IsRefusedFor, IsUnlocked, Outside, Says, Scan, Tells}
use Rattle.audit_binaries.specs.Decoding.{Answer, DecoderAnswers}
use Rattle.audit_binaries.specs.Opened.{IsOpened, IsSaid, IsUnopened, HasNoBytes, IsUnsaid, bytes_at, said_text}
use Rattle.audit_binaries.specs.declared.answers.BinaryAnswer.{BinaryAnswer}
use Rattle.audit_binaries.specs.declared.answers.BinaryAnswer.TheVariants as answer
use Rattle.audit_binaries.specs.declared.answers.BinaryFault.{BinaryFault}
use Rattle.audit_binaries.specs.declared.answers.BinaryFault.TheVariants as fault
use Rattle.audit_binaries.specs.declared.limits.BinaryLimits.{BinaryLimits}
use Rattle.audit_binaries.specs.declared.opening.FoundText.{FoundText}

-- the same auditor and limits, over another host and decoder
abbrev pub With : Auditor → BinaryLimits → Host → DecoderAnswers → Scan
With auditor limits host answers = record { auditor = auditor; limits = limits; host = host; answers = answers }

module _ (files_tell decoder_tells : Type 0) (limits : BinaryLimits) (host later : Host) (answers then : DecoderAnswers)
    (hosts : files_tell → later ≡ host) (same : decoder_tells → (bytes : List ℕ) (bound : ℕ) → then bytes bound ≡ answers bytes bound) where
  bytes_moved : (path : List ℕ) (r : Result (List ℕ) BinaryFault) → (files_tell → bytes_at limits.binary (later.stands path) ≡ r) → files_tell → bytes_at limits.binary (host.stands path) ≡ r
  bytes_moved path r h told = subst (λ (x : Host). bytes_at limits.binary (x.stands path) ≡ r) (hosts told) (h told)

  said_moved : (bytes : List ℕ) (r : Result FoundText BinaryFault) → IsSaid decoder_tells (then bytes limits.payload) r → IsSaid decoder_tells (answers bytes limits.payload) r
  said_moved bytes r h told = subst (λ (x : Answer). said_text x ≡ r) (same told bytes limits.payload) (h told)

  opened_moved : (path : List ℕ) (said : FoundText) → IsOpened files_tell decoder_tells limits (later.stands path) then said → IsOpened files_tell decoder_tells limits (host.stands path) answers said
  opened_moved path said h = (h.0, bytes_moved path (Ok h.0) h.1, said_moved h.0 (Ok said) h.2)

  unread_moved : (path : List ℕ) (f : BinaryFault) → HasNoBytes files_tell limits.binary (later.stands path) f → HasNoBytes files_tell limits.binary (host.stands path) f
  unread_moved path fault.Missing h = bytes_moved path (Err fault.Missing) h
  unread_moved path fault.File h = tt
  unread_moved path (fault.TooLarge n) h = (h.0, bytes_moved path (Err (fault.TooLarge n)) h.1)
  unread_moved path fault.Decode h = absurd h
  unread_moved path (fault.PayloadOver n) h = absurd h
  unread_moved path fault.NoInformation h = absurd h
  unread_moved path (fault.Lockfile f) h = absurd h

  unsaid_moved : (bytes : List ℕ) (f : BinaryFault) → IsUnsaid decoder_tells limits.payload (then bytes limits.payload) f → IsUnsaid decoder_tells limits.payload (answers bytes limits.payload) f
  unsaid_moved bytes fault.Missing h = absurd h
  unsaid_moved bytes fault.File h = absurd h
  unsaid_moved bytes (fault.TooLarge n) h = absurd h
  unsaid_moved bytes fault.Decode h = tt
  unsaid_moved bytes (fault.PayloadOver n) h = (h.0, said_moved bytes (Err (fault.PayloadOver n)) h.1)
  unsaid_moved bytes fault.NoInformation h = said_moved bytes (Err fault.NoInformation) h
  unsaid_moved bytes (fault.Lockfile f) h = absurd h

  unopened_moved : (path : List ℕ) (f : BinaryFault) → IsUnopened files_tell decoder_tells limits (later.stands path) then f → IsUnopened files_tell decoder_tells limits (host.stands path) answers f
  unopened_moved path f (inl h) = inl (unread_moved path f h)
  unopened_moved path f (inr h) = inr (h.0, bytes_moved path (Ok h.0) h.1, unsaid_moved h.0 f h.2)

module _ (tells : Tells) (auditor : Auditor) (limits : BinaryLimits) (host later : Host) (answers then : DecoderAnswers)
    (hosts : tells.files → later ≡ host) (same : tells.decoder → (bytes : List ℕ) (bound : ℕ) → then bytes bound ≡ answers bytes bound) where
  says_moved : (path : List ℕ) (said : FoundText) → Says tells (With auditor limits later then) path said → Says tells (With auditor limits host answers) path said
  says_moved path said h = opened_moved tells.files tells.decoder limits host later answers then hosts same path said h

  unlocked_moved : (path : List ℕ) (f : BinaryFault) → IsUnlocked tells (With auditor limits later then) path f → IsUnlocked tells (With auditor limits host answers) path f
  unlocked_moved path fault.Missing h = absurd h
  unlocked_moved path fault.File h = absurd h
  unlocked_moved path (fault.TooLarge n) h = absurd h
  unlocked_moved path fault.Decode h = absurd h
  unlocked_moved path (fault.PayloadOver n) h = absurd h
  unlocked_moved path fault.NoInformation h = absurd h
  unlocked_moved path (fault.Lockfile f) h = (h.0, h.1, says_moved path h.1 h.2, h.3)

  reason_moved : (path : List ℕ) (f : BinaryFault) → IsRefusedFor tells (With auditor limits later then) path f → IsRefusedFor tells (With auditor limits host answers) path f
  reason_moved path f (inl h) = inl (unopened_moved tells.files tells.decoder limits host later answers then hosts same path f h)
  reason_moved path f (inr h) = inr (unlocked_moved path f h)

  answered_moved : (began ended : Outside) (path : List ℕ) (a : BinaryAnswer) → IsAnswered tells (With auditor limits later then) began ended path a → IsAnswered tells (With auditor limits host answers) began ended path a
  answered_moved began ended path (answer.Audited found audited) h = record {
    text = h.text;
    said = says_moved path (record { found = found; text = h.text }) h.said;
    audit = h.audit;
    unasked = h.unasked;
    unchanged = h.unchanged;
    others = h.others;
    folders = h.folders;
    kept = h.kept;
  }
  answered_moved began ended path (answer.Refused f) h = (reason_moved path f h.0, h.1)

  pub binary_moved : (began ended : Outside) (path : List ℕ) (a : BinaryAnswer) → IsBinary tells (With auditor limits later then) began ended path a → IsBinary tells (With auditor limits host answers) began ended path a
  binary_moved began ended path a h = record { answered = answered_moved began ended path a h.answered; counted = h.counted }

  begun_moved : (began ended : Outside) (path : List ℕ) → IsBegun tells (With auditor limits later then) began ended path → IsBegun tells (With auditor limits host answers) began ended path
  begun_moved began ended path (inl h) = inl h
  begun_moved began ended path (inr h) = inr (h.0, h.1, says_moved path h.0 h.2, h.3, record { asked = h.4.asked; others = h.4.others; folders = h.4.folders })

  pub cut_moved : (began ended : Outside) (path : List ℕ) → IsCutOff tells (With auditor limits later then) began ended path → IsCutOff tells (With auditor limits host answers) began ended path
  cut_moved began ended path h = record { files = h.files; decoder = h.decoder; failed = h.failed; begun = begun_moved began ended path h.begun }
