use Rattle.audit_program.proofs.laws.nothing_is_asked_without_a_lockfile.Goals as goal

pub returns : goal.returns
returns g c files files_now decoder decoder_now runner runner_now wire wire_now disk disk_now task before now outcome run told none =
    run.leaves.unaccepted told none
