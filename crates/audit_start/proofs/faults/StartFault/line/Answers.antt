use Rattle.std.proofs.Common.{◌≡◌, refl, rules}
use Rattle.audit_start.specs.declared.faults.FolderVariable.{FolderVariable}
use Rattle.audit_start.specs.declared.faults.FolderVariable.TheVariants as variable
use Rattle.audit_start.specs.declared.faults.StartFault.{StartFault}
use Rattle.audit_start.specs.declared.faults.StartFault.TheVariants as fault
use Rattle.audit_start.proofs.faults.StartFault.line.Goals as goal

pub returns-in-NotUtf8-Mirror : goal.returns-in-NotUtf8-Mirror
returns-in-NotUtf8-Mirror c =
    let is : c.args.self ≡ fault.NotUtf8 variable.Mirror = search rules in
    rw is refl

pub returns-in-NotUtf8-Cache : goal.returns-in-NotUtf8-Cache
returns-in-NotUtf8-Cache c =
    let is : c.args.self ≡ fault.NotUtf8 variable.Cache = search rules in
    rw is refl

pub returns-in-Unread-Mirror : goal.returns-in-Unread-Mirror
returns-in-Unread-Mirror c =
    let is : c.args.self ≡ fault.Unread variable.Mirror = search rules in
    rw is refl

pub returns-in-Unread-Cache : goal.returns-in-Unread-Cache
returns-in-Unread-Cache c =
    let is : c.args.self ≡ fault.Unread variable.Cache = search rules in
    rw is refl
