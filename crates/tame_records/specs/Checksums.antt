-- SHA-256 digests as hex text: 64 digits of either case, two for each byte, the high four bits
-- first.
use Rattle.std.specs.Prelude.{ℕ, List, [], length, Option, Some, None, find, not, ◌==◌, if◌then◌else◌, Result, Ok, Err}
use Rattle.std.specs.Char.{is_ascii_hexdigit}
use Rattle.std.specs.Result.{result_unwrap_or}
use Rattle.hex.specs.Hex.{decode_of}
use Rattle.tame_records.specs.declared.checksums.Chksum.{Chksum}
use Rattle.tame_records.specs.declared.checksums.ChksumParseError.{ChksumParseError}
use Rattle.tame_records.specs.declared.checksums.ChksumParseError.TheVariants.{InvalidLength, InvalidValue}

abbrev pub first_bad_digit : List ℕ → Option ℕ
first_bad_digit text = find (λ c. not (is_ascii_hexdigit c)) text

-- the bytes that pairs of hex digits spell
abbrev pub hex_bytes : List ℕ → List ℕ
hex_bytes text = result_unwrap_or (decode_of text) []

abbrev pub unless_bad : Option ℕ → List ℕ → Result Chksum ChksumParseError
unless_bad (Some c) bytes = Err (InvalidValue c)
unless_bad None bytes = Ok (record { 0 = bytes })

-- the digest, or that the length is another one, or the first byte that isn't a digit
abbrev pub chksum_of : List ℕ → Result Chksum ChksumParseError
chksum_of text =
    if length text == 64 then unless_bad (first_bad_digit text) (hex_bytes text)
    else Err (InvalidLength (length text))
