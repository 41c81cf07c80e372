-- What a decoder reads from the bytes of a binary (this project).
use Rattle.std.specs.Prelude.{◌≡◌, ◌≢◌, ◌≤◌, ℕ, List, length, nat_lt, Option, Some, None, if◌then◌else◌, Result, Ok, Err}
use Rattle.std.specs.Str.{is_utf8}
use Rattle.tame_names.specs.Counts.{CountRose}
use Rattle.audit_binaries.specs.Payloads.{payload_of}
use Rattle.audit_binaries.specs.declared.decoders.DecodeFault.{DecodeFault}
use Rattle.audit_binaries.specs.declared.decoders.DecodeFault.TheVariants as fault
use Rattle.audit_binaries.specs.declared.decoders.Decoded.{Decoded}
use Rattle.audit_binaries.specs.declared.decoders.Decoded.TheVariants.{Complete, Nothing}

-- ---- answers

-- what bytes say, or its length in bytes if it is over the limit
abbrev pub Answer : Type 0
Answer = Result Decoded ℕ

-- one answer for each bytes and limit
abbrev pub DecoderAnswers : Type 0
DecoderAnswers = List ℕ → ℕ → Answer

-- a call gives the answer; a fault or out of memory says nothing about it
abbrev pub Decodes : Answer → Result Decoded DecodeFault → Type 0
Decodes answer (Ok decoded) = answer ≡ Ok decoded
Decodes answer (Err (fault.Over n)) = answer ≡ Err n
Decodes answer (Err fault.Failed) = Unit {0}
Decodes answer (Err fault.NoMemory) = Unit {0}

-- the count rises if a call failed, and stays otherwise; an answer over the limit is no fault
pub record HasDecodeCause (before now : ℕ) (result : Result Decoded DecodeFault) : Type 0 where
  pub later : before ≤ now
  pub failed : result ≡ Err fault.Failed → CountRose before now
  pub quiet : result ≢ Err fault.Failed → now ≡ before

-- ---- the answers by payloads

-- for a payload within the limit: all of it, if it is UTF-8
abbrev pub text_answer : List ℕ → Answer
text_answer payload = if is_utf8 payload then Ok (Complete payload) else Ok Nothing

abbrev pub payload_answer : ℕ → Option (List ℕ) → Answer
payload_answer limit None = Ok Nothing
payload_answer limit (Some payload) =
    if nat_lt limit (length payload) then Err (length payload) else text_answer payload

-- by the payload of the bytes: nothing without one, its length if it is over the limit
abbrev pub plain_answer : DecoderAnswers
plain_answer bytes limit = payload_answer limit (payload_of bytes)
