use Rattle.std.proofs.Common.{◌∙◌, codes}
use Rattle.std.proofs.lemmas.Result.{on_ok_weaker}
use Rattle.json.specs.Json.{Members, array, boolean, member, no_members, string}
use Rattle.tame_records.specs.Written.{kind_text, text_if, text_or_null_tree, texts_tree}
use Rattle.tame_records.proofs.WrittenTokens.{opened, keyed}
use Rattle.tame_records.proofs.writing.write_dependency.Goals as goal

pub returns-clause-written : goal.returns-clause-written
returns-clause-written c =
    let d = c.args.dependency.now in
    let last : Members = text_if (codes "package") d.«package» no_members in
    let kinds : Members = member (codes "kind") (string (kind_text d.kind)) last in
    let targets : Members = member (codes "target") (text_or_null_tree d.target) kinds in
    let defaults : Members = member (codes "default_features") (boolean d.default_features) targets in
    let optionals : Members = member (codes "optional") (boolean d.optional) defaults in
    let features : Members = member (codes "features") (array (texts_tree d.features)) optionals in
    let reqs : Members = member (codes "req") (string d.req) features in
    let names : Members = member (codes "name") (string d.name) reqs in
    on_ok_weaker c.end_object.result (λ ended.
    ended ∙ c.in_ok-write_text_if.ensures.written no_members ∙ c.in_ok-write_kind.ensures.written last
    ∙ keyed _ _ _ (codes "target") (text_or_null_tree d.target) kinds c.in_ok-key-2.ensures.ok c.in_ok-write_target.ensures.written
    ∙ c.in_ok-write_flag-2.ensures.written targets ∙ c.in_ok-write_flag.ensures.written defaults
    ∙ keyed _ _ _ (codes "features") (array (texts_tree d.features)) optionals c.in_ok-key.ensures.ok c.in_ok-write_texts.ensures.written
    ∙ c.in_ok-write_text-2.ensures.written features ∙ c.in_ok-write_text.ensures.written reqs
    ∙ opened _ _ names c.in_ok-begin_object.ensures.ok)
    c.end_object.ensures.ok
