use Rattle.std.proofs.Common.{Some, ap, sym, ◌∙◌}
use Rattle.tame_names.proofs.Utf8Lemmas.{utf8_text-utf8, utf8_text-other}
use Rattle.tame_names.proofs.texts.utf8_text.Goals as goal

pub returns-in-Ok : goal.returns-in-Ok
returns-in-Ok c = ap Some c.in-Ok.ensures.cases.0 ∙ sym (utf8_text-utf8 _ c.in-Ok.ensures.cases.1)

pub returns-in-Err : goal.returns-in-Err
returns-in-Err c = sym (utf8_text-other _ c.in-Err.ensures.cases.0)
