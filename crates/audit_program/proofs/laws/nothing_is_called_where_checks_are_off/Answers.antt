use Rattle.audit_program.proofs.laws.nothing_is_called_where_checks_are_off.Goals as goal

pub returns : goal.returns
returns g c files files_now decoder decoder_now runner runner_now wire wire_now disk disk_now asking before now outcome config run told settles off unread =
    let calls = run.leaves.calls told config settles in
    (calls.unasked (λ online. cc (off, online)), calls.off off unread)
