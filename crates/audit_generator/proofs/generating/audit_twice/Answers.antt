use Rattle.std.proofs.Common.{◌≡◌, List, ℕ, arith, sym, ap, ◌∙◌, subst}
use Rattle.audit_lock.specs.Locked.{locked}
use Rattle.audit_generator.specs.Packages.{lockfile_text, packages}
use Rattle.audit_generator.proofs.Resolved.{lockfile_locked}
use Rattle.audit_generator.proofs.Twice.{IsStep, twice_done}
use Rattle.audit_generator.proofs.generating.audit_twice.Goals as goal

pub quiet_audit-requires : goal.quiet_audit-requires
quiet_audit-requires c =
    let is : c.as_str.result.now ≡ lockfile_text c.args.n = c.as_str.ensures ∙ c.in_ok-text.ensures in
    (packages c.args.n, ap locked is ∙ lockfile_locked c.args.n (omega (arith, c.requires.number)))

pub returns-clause-made : goal.returns-clause-made
returns-clause-made c =
    let auditor = c.args.auditor.now in
    let is : c.as_str.result.now ≡ lockfile_text c.args.n = c.as_str.ensures ∙ c.in_ok-text.ensures in
    let again : c.as_str-2.result.now ≡ c.as_str.result.now = c.as_str-2.ensures ∙ sym c.as_str.ensures in
    let one : IsStep auditor c.as_str.result.now c.new-wire.result c.new-disk.result c.quiet_audit.new.wire c.quiet_audit.new.disk c.in_ok-first.first = record {
      audited = c.in_ok-first.ensures.audited;
      quiet = c.in_ok-first.ensures.quiet;
      kept = c.quiet_audit.ensures.kept;
      held = c.quiet_audit.ensures.held;
      served = c.quiet_audit.ensures.served;
    } in
    let two : IsStep auditor c.as_str-2.result.now c.quiet_audit.new.wire c.quiet_audit.new.disk c.quiet_audit-2.new.wire c.quiet_audit-2.new.disk c.in_ok-second.second = record {
      audited = c.in_ok-second.ensures.audited;
      quiet = c.in_ok-second.ensures.quiet;
      kept = c.quiet_audit-2.ensures.kept;
      held = c.quiet_audit-2.ensures.held;
      served = c.quiet_audit-2.ensures.served;
    } in
    twice_done c.args.n auditor c.as_str.result.now c.new-wire.result c.quiet_audit.new.wire c.quiet_audit-2.new.wire c.new-disk.result c.quiet_audit.new.disk c.quiet_audit-2.new.disk c.in_ok-first.first c.in_ok-second.second
    c.requires.number c.requires.auditor is (c.new-wire.ensures.held ∙ c.in_ok-hosted.ensures) c.new-wire.ensures.exchanges c.new-disk.ensures.files c.new-disk.ensures.faults one
    (subst (λ (t : List ℕ). IsStep auditor t c.quiet_audit.new.wire c.quiet_audit.new.disk c.quiet_audit-2.new.wire c.quiet_audit-2.new.disk c.in_ok-second.second) again two)
