use Rattle.std.proofs.Common.{refl}
use Rattle.hex.specs.Hex.{encode_lower}
use Rattle.tame_records.proofs.Digits.{parses, parse_digits}
use Rattle.tame_records.proofs.checksums.digests_are_digits.Goals as goal

pub returns-clause-parsed : goal.returns-clause-parsed
returns-clause-parsed c text = parse_digits text

pub returns-clause-printed : goal.returns-clause-printed
returns-clause-printed c bytes len fits = parses (encode_lower bytes) bytes refl len fits
