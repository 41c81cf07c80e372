use Rattle.std.proofs.Common.{◌∙◌, rules, ◌≡◌}
use Rattle.std.specs.Prelude.{is_none}
use Rattle.tame_entry.specs.Raw.{cut_at}
use Rattle.tame_entry.proofs.Zeros.{uncut}
use Rattle.tame_entry.proofs.raw.has_no_zero.Goals as goal

pub returns : goal.returns
returns c =
    let test : c.is_none.result ≡ is_none (cut_at 0 c.args.bytes.now) = search rules in
    test ∙ uncut c.args.bytes.now
