use Rattle.std.proofs.Common.{◌≡◌, length, ap, ◌∙◌}
use Rattle.hex.specs.Hex.{IsBytes, encode_lower}
use Rattle.tame_records.proofs.Digits.{parses}
use Rattle.tame_records.proofs.checksums.digits_of.Goals as goal

pub returns-in-Ok-clause-parses : goal.returns-in-Ok-clause-parses
returns-in-Ok-clause-parses c =
    let bytes = c.args.bytes.now in
    let is : c.from_string.result ≡ encode_lower bytes = c.from_string.ensures ∙ c.in-Ok.ensures ∙ ap encode_lower c.as_slice.ensures in
    let fits : IsBytes bytes = c.fits-bytes in
    let len : length bytes ≡ 32 = c.told-bytes in
    parses c.from_string.result bytes is len fits
