use Rattle.std.proofs.Common.{◌≡◌, length, rules}
use Rattle.hex.specs.Hex.{IsBytes, encode_lower}
use Rattle.tame_entry.proofs.CommitLemmas.{lower_commit}
use Rattle.tame_entry.proofs.sha1.Sha1Hex.of.Goals as goal

pub invariant_of-result : goal.invariant_of-result
invariant_of-result c =
    let raw = c.args.raw.now in
    let is : c.encode_to_slice.new.output ≡ encode_lower raw = search rules in
    let fits : IsBytes raw = c.fits-raw in
    let len : length raw ≡ 20 = c.told-raw in
    lower_commit raw c.encode_to_slice.new.output is len fits
