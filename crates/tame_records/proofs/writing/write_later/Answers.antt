use Rattle.std.proofs.Common.{◌∙◌}
use Rattle.std.proofs.lemmas.Result.{on_ok_weaker}
use Rattle.json.specs.Json.{no_members}
use Rattle.tame_records.proofs.writing.write_later.Goals as goal

pub returns-clause-written : goal.returns-clause-written
returns-clause-written c =
    on_ok_weaker c.write_number_if.result (λ last.
    last no_members ∙ c.in_ok-write_text_if-3.ensures.written _ ∙ c.in_ok-write_text_if-2.ensures.written _ ∙ c.in_ok-write_text_if.ensures.written _
    ∙ c.in_ok-write_flag.ensures.written _ ∙ c.in_ok-write_lists_if.ensures.written _)
    c.write_number_if.ensures.written
