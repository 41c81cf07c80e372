use Rattle.std.proofs.Common.{refl}
use Rattle.audit_remedies.specs.Makings.{Making, making}
use Rattle.audit_remedies.specs.Moments.{moment}
use Rattle.audit_remedies.proofs.Registries.{registry_refused}
use Rattle.audit_remedies.proofs.makings.make.Goals as goal

pub returns-in-Err-clause-made : goal.returns-in-Err-clause-made
returns-in-Err-clause-made g c exchanges wire_faults =
    let does = c.in-Err.ensures in
    let m : Making = making g.F.Files.tells g.D.CacheDisk.tells c.args.auditor.now.database c.args.known.now c.args.audited.now
    (moment exchanges (g.D.CacheDisk.past c.args.disk.now) wire_faults (g.D.CacheDisk.faults c.args.disk.now) (g.D.CacheDisk.failed c.args.disk.now))
    (moment exchanges (g.D.CacheDisk.past c.registry_of.new.disk) wire_faults (g.D.CacheDisk.faults c.registry_of.new.disk) (g.D.CacheDisk.failed c.registry_of.new.disk))
    (g.F.Files.host c.args.files.now) (g.F.Files.host c.registry_of.new.files) in
    rw c.in-Vendor.is (registry_refused c.in-Vendor.more m c.in-Err.reason c.vendor_fault.result c.vendor_fault.ensures does.answered
    (record { exchanges = refl; wire_faults = refl; files = does.disk_same; disk_faults = does.disk_later }))
