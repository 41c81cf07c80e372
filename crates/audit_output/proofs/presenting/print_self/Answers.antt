use Rattle.audit_output.proofs.Placing.{self_placed}
use Rattle.audit_output.proofs.presenting.print_self.Goals as goal

pub print_fault-requires : goal.print_fault-requires
print_fault-requires g c tree =
    c.in-Err.ensures.placed (rw (c.database.ensures, c.in_ok-own.ensures) (self_placed c.args.auditor.now.database)) tree
