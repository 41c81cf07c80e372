use Rattle.audit_program.proofs.laws.texts_need_no_host.Goals as goal

pub returns : goal.returns
returns g c files files_now decoder decoder_now runner runner_now wire wire_now disk disk_now asking before now outcome run nothing = run.leaves.uncalled nothing
