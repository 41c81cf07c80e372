use Rattle.std.proofs.Common.{◌≡◌, Some, arith}
use Rattle.std.proofs.lemmas.Grind.{common_steps}
use Rattle.std.proofs.lemmas.Str.{IsUtf8-from_ascii}
use Rattle.tame_names.specs.Names.{path}
use Rattle.tame_names.proofs.Cases.{one_path}
use Rattle.tame_names.proofs.names.KrateName.relative_path.Goals as goal

pub returns-in_err-push_prefix-clause-one_path : goal.returns-in_err-push_prefix-clause-one_path
returns-in_err-push_prefix-clause-one_path c = λ other named same. one_path other c.args.self.now.text.now named c.args.self.now.named same

pub returns-in_err-push-clause-one_path : goal.returns-in_err-push-clause-one_path
returns-in_err-push-clause-one_path c = λ other named same. one_path other c.args.self.now.text.now named c.args.self.now.named same

pub returns-in_err-push_str-clause-one_path : goal.returns-in_err-push_str-clause-one_path
returns-in_err-push_str-clause-one_path c = λ other named same. one_path other c.args.self.now.text.now named c.args.self.now.named same

pub returns-clause-one_path : goal.returns-clause-one_path
returns-clause-one_path c = λ other named same. one_path other c.args.self.now.text.now named c.args.self.now.named same

pub returns-clause-index_path : goal.returns-clause-index_path
returns-clause-index_path c none =
    let text = c.args.self.now.text.now in
    let is : path text ≡ Some c.from_string.result = grind (arith, common_steps, c.args.self.now.named) in
    (text, IsUtf8-from_ascii text c.args.self.now.ascii, is)
