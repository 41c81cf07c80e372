use Rattle.audit_program.proofs.Completing.{all_complete}
use Rattle.audit_program.proofs.laws.runs_are_complete.Goals as goal

pub returns : goal.returns
returns g c files files_now decoder decoder_now runner runner_now wire wire_now disk disk_now asking before now outcome run told ready quiet =
    all_complete g.F.Files.tells asking before now outcome.fault told run.causes ready quiet
