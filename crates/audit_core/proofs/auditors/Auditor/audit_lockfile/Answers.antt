use Rattle.std.proofs.Common.{◌≡◌, ◌∙◌, ℕ, List, [], Result, Ok, Err, ap, refl, sym}
use Rattle.audit_lock.specs.Locked.{locked}
use Rattle.audit_lock.specs.declared.lockfiles.LockfileFault.{LockfileFault}
use Rattle.audit_lock.specs.declared.resolving.Package.{Package}
use Rattle.audit_core.specs.declared.opening.FileAuditError.{FileAuditError}
use Rattle.audit_core.proofs.Exchanged.{keeps_nothing}
use Rattle.audit_core.proofs.Left.{asks_nothing}
use Rattle.audit_core.proofs.auditors.Auditor.audit_lockfile.Goals as goal

pub returns-in_err-text-clause-asks : goal.returns-in_err-text-clause-asks
returns-in_err-text-clause-asks g c told_files text packages stands is = asks_nothing _ _ _ _

pub returns-in_err-text-clause-kept : goal.returns-in_err-text-clause-kept
returns-in_err-text-clause-kept g c told_wire told = keeps_nothing (g.W.Wire.exchanges c.args.wire.now) (g.W.Wire.exchanges c.args.wire.now) (g.D.CacheDisk.past c.args.disk.now)

-- the text of what was read, and none of a fault
abbrev text_in : Result (List ℕ) FileAuditError → List ℕ
text_in (Ok text) = text
text_in (Err e) = []

one_text : (read : Result (List ℕ) FileAuditError) (text other : List ℕ) → read ≡ Ok text → read ≡ Ok other → text ≡ other
one_text read text other is too = ap text_in (sym is ∙ too)

pub returns-in-Ok-clause-asks : goal.returns-in-Ok-clause-asks
returns-in-Ok-clause-asks g c told_files text packages stands is =
    let same : c.in_ok-text.text ≡ text = one_text _ _ _ (c.in_ok-text.ensures.text told_files) stands in
    c.audit_text.ensures.asks packages (rw (c.as_str.ensures, same) is)

-- if no packages are listed the text is refused
refused : (r : Result (List Package) LockfileFault) → ((packages : List Package) → r ≡ Ok packages → ⊥) → (f : LockfileFault) × (r ≡ Err f)
refused (Ok packages) none = absurd (none packages refl)
refused (Err f) none = (f, refl)

pub returns-in-Ok-clause-uncalled : goal.returns-in-Ok-clause-uncalled
returns-in-Ok-clause-uncalled g c told_files none =
    let why = refused (locked c.in_ok-text.text) (λ packages is. none c.in_ok-text.text packages (c.in_ok-text.ensures.text told_files) is) in
    c.audit_text.ensures.uncalled why.0 (rw c.as_str.ensures why.1)

pub returns-clause-uncalled : goal.returns-clause-uncalled
returns-clause-uncalled g c told_files none =
    let why = refused (locked c.in_ok-text.text) (λ packages is. none c.in_ok-text.text packages (c.in_ok-text.ensures.text told_files) is) in
    c.audit_text.ensures.uncalled why.0 (rw c.as_str.ensures why.1)
