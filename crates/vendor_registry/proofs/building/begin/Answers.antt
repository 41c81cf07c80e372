use Rattle.std.proofs.Common.{◌≡◌}
use Rattle.tame_names.specs.declared.errors.Error.TheVariants as error
use Rattle.tame_names.specs.declared.errors.IoKind.TheVariants as io_kind
use Rattle.tame_local.specs.Calls.{IsCreateCall}
use Rattle.vendor_registry.specs.Failed.{IsWithin}
use Rattle.vendor_registry.proofs.Told.{told_so}
use Rattle.vendor_registry.proofs.Within.{create_within}
use Rattle.vendor_registry.proofs.building.begin.Goals as goal

pub returns-in-Err-IoPath-Failed-default-clause-within : goal.returns-in-Err-IoPath-Failed-default-clause-within
returns-in-Err-IoPath-Failed-default-clause-within g c = λ told.
    let e = c.in-Err-IoPath-Failed-default in
    let l = e.field-0-is in
    let m = e.field-0-0-is in
    let p = e.path-is in
    let whole : e.field-0 ≡ error.IoPath io_kind.Failed e.path = cc in
    let host = g.F.Files.host c.args.files.now in
    told_so (IsCreateCall host c.args.to) (g.F.Files.failed c.args.files.now) (g.F.Files.failed c.create.new.files) e.field-0 e.path (IsWithin c.args.to e.path) whole
    (λ call is. create_within c.args.to host e.path call is) (e.ensures.failed told)
