-- An answer is that of what the binary says.
use Rattle.std.proofs.Common.{◌≡◌, ◌≢◌, inl, inr, ℕ, List, Result, Ok, Err, refl, sym, ap, ◌∙◌, subst}
use Rattle.audit_binaries.specs.Binaries.{IsAnswered, IsBinary, IsExactly, IsRefusedFor, IsUnlocked, Outside, Scan, all_tell, said_at, said_of}
use Rattle.audit_binaries.specs.Opened.{HasNoBytes, IsUnsaid, bytes_at, said_text}
use Rattle.audit_binaries.specs.declared.answers.BinaryAnswer.{BinaryAnswer}
use Rattle.audit_binaries.specs.declared.answers.BinaryAnswer.TheVariants as answer
use Rattle.audit_binaries.specs.declared.answers.BinaryFault.{BinaryFault}
use Rattle.audit_binaries.specs.declared.answers.BinaryFault.TheVariants as fault
use Rattle.audit_binaries.specs.declared.opening.FoundText.{FoundText}

said_is : (scan : Scan) (path bytes : List ℕ) (r : Result FoundText BinaryFault) → bytes_at scan.limits.binary (scan.host.stands path) ≡ Ok bytes → said_text (scan.answers bytes scan.limits.payload) ≡ r → said_at scan path ≡ r
said_is scan path bytes r read said = ap (said_of scan) read ∙ said

unread_is : (scan : Scan) (path : List ℕ) (f : BinaryFault) → bytes_at scan.limits.binary (scan.host.stands path) ≡ Err f → IsExactly (said_at scan path) (answer.Refused f)
unread_is scan path f read = subst (λ (r : Result FoundText BinaryFault). IsExactly r (answer.Refused f)) (sym (ap (said_of scan) read)) refl

unsaid_is : (scan : Scan) (path bytes : List ℕ) (f : BinaryFault) → bytes_at scan.limits.binary (scan.host.stands path) ≡ Ok bytes → said_text (scan.answers bytes scan.limits.payload) ≡ Err f → IsExactly (said_at scan path) (answer.Refused f)
unsaid_is scan path bytes f read said = subst (λ (r : Result FoundText BinaryFault). IsExactly r (answer.Refused f)) (sym (said_is scan path bytes (Err f) read said)) refl

exact_unread : (scan : Scan) (path : List ℕ) (f : BinaryFault) → answer.Refused f ≢ answer.Refused fault.File → HasNoBytes (Unit {0}) scan.limits.binary (scan.host.stands path) f → IsExactly (said_at scan path) (answer.Refused f)
exact_unread scan path fault.Missing file h = unread_is scan path fault.Missing (h tt)
exact_unread scan path fault.File file h = absurd (file refl)
exact_unread scan path (fault.TooLarge n) file h = unread_is scan path (fault.TooLarge n) (h.1 tt)
exact_unread scan path fault.Decode file h = absurd h
exact_unread scan path (fault.PayloadOver n) file h = absurd h
exact_unread scan path fault.NoInformation file h = absurd h
exact_unread scan path (fault.Lockfile x) file h = absurd h

exact_unsaid : (scan : Scan) (path bytes : List ℕ) (f : BinaryFault) → answer.Refused f ≢ answer.Refused fault.Decode → bytes_at scan.limits.binary (scan.host.stands path) ≡ Ok bytes
    → IsUnsaid (Unit {0}) scan.limits.payload (scan.answers bytes scan.limits.payload) f → IsExactly (said_at scan path) (answer.Refused f)
exact_unsaid scan path bytes fault.Missing decode read h = absurd h
exact_unsaid scan path bytes fault.File decode read h = absurd h
exact_unsaid scan path bytes (fault.TooLarge n) decode read h = absurd h
exact_unsaid scan path bytes fault.Decode decode read h = absurd (decode refl)
exact_unsaid scan path bytes (fault.PayloadOver n) decode read h = unsaid_is scan path bytes (fault.PayloadOver n) read (h.1 tt)
exact_unsaid scan path bytes fault.NoInformation decode read h = unsaid_is scan path bytes fault.NoInformation read (h tt)
exact_unsaid scan path bytes (fault.Lockfile x) decode read h = absurd h

exact_unlocked : (scan : Scan) (path : List ℕ) (f : BinaryFault) → IsUnlocked all_tell scan path f → IsExactly (said_at scan path) (answer.Refused f)
exact_unlocked scan path fault.Missing h = absurd h
exact_unlocked scan path fault.File h = absurd h
exact_unlocked scan path (fault.TooLarge n) h = absurd h
exact_unlocked scan path fault.Decode h = absurd h
exact_unlocked scan path (fault.PayloadOver n) h = absurd h
exact_unlocked scan path fault.NoInformation h = absurd h
exact_unlocked scan path (fault.Lockfile x) h =
    subst (λ (r : Result FoundText BinaryFault). IsExactly r (answer.Refused (fault.Lockfile x))) (sym (said_is scan path h.2.0 (Ok h.1) (h.2.1 tt) (h.2.2 tt))) (x, refl, h.3)

exact_reason : (scan : Scan) (path : List ℕ) (f : BinaryFault) → answer.Refused f ≢ answer.Refused fault.File → answer.Refused f ≢ answer.Refused fault.Decode → IsRefusedFor all_tell scan path f → IsExactly (said_at scan path) (answer.Refused f)
exact_reason scan path f file decode (inl (inl h)) = exact_unread scan path f file h
exact_reason scan path f file decode (inl (inr h)) = exact_unsaid scan path h.0 f decode (h.1 tt) h.2
exact_reason scan path f file decode (inr h) = exact_unlocked scan path f h

exact_answered : (scan : Scan) (began ended : Outside) (path : List ℕ) (a : BinaryAnswer) → IsAnswered all_tell scan began ended path a → a ≢ answer.Refused fault.File → a ≢ answer.Refused fault.Decode → IsExactly (said_at scan path) a
exact_answered scan began ended path (answer.Audited found audited) h file decode =
    let said : FoundText = record { found = found; text = h.text } in
    subst (λ (r : Result FoundText BinaryFault). IsExactly r (answer.Audited found audited)) (sym (said_is scan path h.said.0 (Ok said) (h.said.1 tt) (h.said.2 tt))) (refl, h.audit.lockfile)
exact_answered scan began ended path (answer.Refused f) h file decode = exact_reason scan path f file decode h.0

pub exact_binary : (scan : Scan) (began ended : Outside) (path : List ℕ) (a : BinaryAnswer) → IsBinary all_tell scan began ended path a → a ≢ answer.Refused fault.File → a ≢ answer.Refused fault.Decode → IsExactly (said_at scan path) a
exact_binary scan began ended path a h file decode = exact_answered scan began ended path a h.answered file decode
