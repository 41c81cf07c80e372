use Rattle.std.proofs.Common.{◌≡◌, codes, bytes_eq, true, false, rules}
use Rattle.audit_asked.proofs.Widened.{widen, input_call, read_call}
use Rattle.audit_asked.proofs.texts.input_or_text.Goals as goal

pub returns-then-eq-clause-failed : goal.returns-then-eq-clause-failed
returns-then-eq-clause-failed g c = λ told.
    let e : bytes_eq c.args.path.now (codes "-") ≡ true = search rules in
    widen _ _ _ _ c.input_text.result (λ path call h. input_call _ path call e h) (c.input_text.ensures.failed told)

pub returns-else-eq-clause-failed : goal.returns-else-eq-clause-failed
returns-else-eq-clause-failed g c = λ told.
    let e : bytes_eq c.args.path.now (codes "-") ≡ false = search rules in
    widen _ _ _ _ c.file_text.result (λ path call h. read_call _ path call e h) (c.file_text.ensures.failed told)
