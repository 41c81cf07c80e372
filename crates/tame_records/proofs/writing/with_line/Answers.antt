use Rattle.std.proofs.Common.{◌≡◌, ◌++◌, ap, sym, ◌∙◌, subst, IsUtf8}
use Rattle.json.specs.Print.{print}
use Rattle.json.specs.Tree.{json_tokens}
use Rattle.json.specs.Lex.{tokens}
use Rattle.tame_records.specs.Written.{version_tree}
use Rattle.tame_records.proofs.RoundTrip.{reads_back}
use Rattle.tame_records.proofs.writing.with_line.Goals as goal

pub returns-clause-reads_back : goal.returns-clause-reads_back
returns-clause-reads_back c =
    let v = c.args.version.now in
    let written : c.write_version.new.writer.tokens ≡ json_tokens (version_tree v) = c.in_ok-write_version.ensures.written ∙ ap (λ ts. ts ++ json_tokens (version_tree v)) c.new-writer.ensures.tokens in
    reads_back v c.in_ok-write_version.ensures.form (subst (λ ts. IsUtf8 (print ts)) written c.into_inner.ensures.utf8)
    (sym (ap (λ ts. tokens (print ts)) written) ∙ c.into_inner.ensures.reads_back ∙ written)
