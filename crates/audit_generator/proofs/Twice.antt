-- Two audits, one after the other.
use Rattle.std.proofs.Common.{◌≡◌, ℕ, ◌≤◌, List, [], refl, sym, ap, ◌∙◌, subst, arith}
use Rattle.tame_cache.specs.MemoryDisk.{past_in}
use Rattle.tame_cache.specs.declared.memory_disk.MemCacheDisk.{MemCacheDisk}
use Rattle.tame_sparse.specs.Serving.{AreServed}
use Rattle.tame_sparse.specs.declared.network.Exchange.{Exchange}
use Rattle.tame_sparse.specs.declared.serving.Held.{Held}
use Rattle.tame_sparse.specs.declared.serving.ServeWire.{ServeWire}
use Rattle.audit_core.specs.Audits.{IsAuditOf, Moment}
use Rattle.audit_core.specs.Turns.{StaysKept}
use Rattle.audit_core.specs.declared.auditing.Audited.{Audited}
use Rattle.audit_core.specs.declared.auditors.Auditor.{Auditor}
use Rattle.audit_core.specs.declared.checking.Checks.TheVariants.{Online}
use Rattle.audit_generator.specs.Packages.{lockfile_text}
use Rattle.audit_generator.specs.Hosted.{hosted}
use Rattle.audit_generator.specs.Moments.{IsAuditedTwice, IsGenerated, IsStart, auditor_for, moment_of}
use Rattle.audit_generator.specs.Outcomes.{SaysOf}
use Rattle.audit_generator.proofs.Audits.{IsBare, IsFirst, IsSecond, first_done, second_done}

-- what one audit over the server and the cache does
pub record IsStep (auditor : Auditor) (text : List ℕ) (wire : ServeWire) (disk : MemCacheDisk) (next : ServeWire) (after : MemCacheDisk) (a : Audited) : Type 0 where
  pub audited : IsAuditOf auditor (Unit {0}) (Unit {0}) (moment_of wire disk) (moment_of next after) text a
  pub quiet : after.counts.faults ≡ 0
  pub kept : StaysKept wire.exchanges next.exchanges (past_in disk) (past_in after)
  pub held : next.held ≡ wire.held
  pub served : AreServed wire.held wire.exchanges → AreServed next.held next.exchanges

serves : (held other : List Held) (es : List Exchange) → other ≡ held → AreServed other es → AreServed held es
serves held other es same h = subst (λ (hs : List Held). AreServed hs es) same h

audit_for : (n : ℕ) (auditor : Auditor) (began ended : Moment) (text : List ℕ) (a : Audited) → auditor ≡ auditor_for n → text ≡ lockfile_text n → IsAuditOf auditor (Unit {0}) (Unit {0}) began ended text a
    → IsAuditOf (auditor_for n) (Unit {0}) (Unit {0}) began ended (lockfile_text n) a
audit_for n auditor began ended text a ours is h =
    let by_auditor = subst (λ (z : Auditor). IsAuditOf z (Unit {0}) (Unit {0}) began ended text a) ours h in
    subst (λ (t : List ℕ). IsAuditOf (auditor_for n) (Unit {0}) (Unit {0}) began ended t a) is by_auditor

pub twice_done : (n : ℕ) (auditor : Auditor) (text : List ℕ) (w0 w1 w2 : ServeWire) (d0 d1 d2 : MemCacheDisk) (a b : Audited) → n ≤ 5000 → auditor ≡ auditor_for n → text ≡ lockfile_text n
    → w0.held ≡ hosted n → w0.exchanges ≡ [] → IsBare (past_in d0) → d0.counts.faults ≡ 0 → IsStep auditor text w0 d0 w1 d1 a → IsStep auditor text w1 d1 w2 d2 b
    → IsGenerated n (record { first = a; second = b; wire = w2; disk = d2 })
twice_done n auditor text w0 w1 w2 d0 d1 d2 a b small ours is held none bare quiet one two =
    let online : auditor.checks ≡ Online = ap (λ (z : Auditor). z.checks) ours in
    let nothing : AreServed w0.held w0.exchanges = subst (λ (es : List Exchange). AreServed w0.held es) (sym none) tt in
    let served_one = one.served nothing in
    let first : IsFirst n auditor (moment_of w1 d1) a = first_done n auditor (moment_of w0 d0) (moment_of w1 d1) text a (omega (arith, small)) online is one.audited none bare refl refl quiet one.quiet (serves (hosted n) w1.held w1.exchanges (one.held ∙ held) served_one) in
    let second : IsSecond n auditor (moment_of w2 d2) b =
    second_done n auditor (moment_of w0 d0) (moment_of w1 d1) (moment_of w2 d2) text a b (omega (arith, small)) online is one.audited two.audited none bare refl refl quiet one.quiet two.quiet one.kept
    (serves (hosted n) w2.held w2.exchanges (two.held ∙ one.held ∙ held) (two.served served_one)) first in
    let start : IsStart (moment_of w0 d0) = record { exchanges = none; files = bare; wire_faults = refl; disk_faults = quiet } in
    let twice : IsAuditedTwice n (record { first = a; second = b; wire = w2; disk = d2 }) (moment_of w0 d0) (moment_of w1 d1) = record {
      start = start;
      first = audit_for n auditor (moment_of w0 d0) (moment_of w1 d1) text a ours is one.audited;
      second = audit_for n auditor (moment_of w1 d1) (moment_of w2 d2) text b ours is two.audited;
    } in
    record {
      audits = (moment_of w0 d0, moment_of w1 d1, twice);
      exchanges = second.exchanges;
      stored = second.stored;
      first = subst (λ (z : Auditor). SaysOf n z a) ours first.says;
      second = subst (λ (z : Auditor). SaysOf n z b) ours second.says;
    }
