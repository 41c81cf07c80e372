use Rattle.std.proofs.Common.{◌∙◌, ◌++◌, ap, codes, List, ℕ}
use Rattle.std.proofs.lemmas.Result.{on_ok_weaker}
use Rattle.json.specs.Json.{Members, array, member, object, string}
use Rattle.json.specs.Tree.{json_tokens}
use Rattle.tame_records.specs.Written.{dependencies_tree, later_members, lists_tree}
use Rattle.tame_records.proofs.WrittenTokens.{opened, keyed}
use Rattle.tame_records.proofs.writing.write_version.Goals as goal

pub returns-clause-written : goal.returns-clause-written
returns-clause-written c =
    let v = c.args.version.now in
    let later : Members = later_members v in
    let features : Members = member (codes "features") (object (lists_tree v.features)) later in
    let digits : Members = member (codes "cksum") (string c.args.digits.now) features in
    let deps : Members = member (codes "deps") (array (dependencies_tree v.deps)) digits in
    let versions : Members = member (codes "vers") (string v.version) deps in
    let names : Members = member (codes "name") (string v.name) versions in
    let with_digits : List ℕ → Members =
    λ t. member (codes "name") (string v.name) (member (codes "vers") (string v.version) (member (codes "deps") (array (dependencies_tree v.deps)) (member (codes "cksum") (string t) features))) in
    on_ok_weaker c.end_object.result (λ ended.
    ended ∙ c.in_ok-write_later.ensures.written
    ∙ keyed _ _ _ (codes "features") (object (lists_tree v.features)) later c.in_ok-key-2.ensures.ok c.in_ok-write_lists.ensures.written
    ∙ c.in_ok-write_text-3.ensures.written features
    ∙ keyed _ _ _ (codes "deps") (array (dependencies_tree v.deps)) digits c.in_ok-key.ensures.ok c.in_ok-write_dependencies.ensures.written
    ∙ c.in_ok-write_text-2.ensures.written deps ∙ c.in_ok-write_text.ensures.written versions
    ∙ opened _ _ names c.in_ok-begin_object.ensures.ok
    ∙ ap (λ t. c.args.writer.now.tokens ++ json_tokens (object (with_digits t))) c.requires.digits)
    c.end_object.ensures.ok
