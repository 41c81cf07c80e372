use Rattle.std.proofs.Common.{◌≡◌}
use Rattle.tame_names.specs.declared.errors.Error.TheVariants as error
use Rattle.tame_names.specs.declared.errors.IoKind.TheVariants as io_kind
use Rattle.audit_program.proofs.Ended.{line_put, rose_of}
use Rattle.audit_start.proofs.faults.put_line.Goals as goal

pub returns-clause-line : goal.returns-clause-line
returns-clause-line g c told =
    line_put c.put_counted.result _ _ _ _ _ (c.put_counted.ensures.put told) (c.put_counted.ensures.part told)
    (rose_of (λ e. e ≡ error.Io io_kind.Failed) c.put_counted.result _ _ c.put_counted.ensures.failed)
