-- Exchanges with a registry's sparse index (Cargo Book, "Registry Index", sparse protocol).
use Rattle.std.specs.Prelude.{◌≡◌, ℕ, codes, List, [], ◌∷◌, ◌++◌, Option, Some, None, Result, Ok, Err}
use Rattle.tame_sparse.specs.declared.network.Exchange.{Exchange}
use Rattle.tame_sparse.specs.declared.network.Representation.{Representation}
use Rattle.tame_sparse.specs.declared.network.Request.{Request}
use Rattle.tame_sparse.specs.declared.network.WireAnswer.{WireAnswer}
use Rattle.tame_sparse.specs.declared.network.WireFault.{WireFault}
use Rattle.tame_sparse.specs.declared.network.WireFault.TheVariants as wire_fault

-- the url of the index of crates.io
abbrev pub crates_io_index : List ℕ
crates_io_index = codes "sparse+https://index.crates.io/"

-- the address of a path in it
abbrev pub crates_io_uri : List ℕ → List ℕ
crates_io_uri path = codes "https://index.crates.io/" ++ path

-- one exchange more, of this request and with this answer, whatever was held
abbrev pub AddsOne : List Exchange → List Exchange → Request → Option WireAnswer → Type 0
AddsOne before now request answer =
    (held : Option Representation) × (now ≡ before ++ record {
      url = request.uri;
      path = request.path;
      named = request.named;
      held = held;
      answer = answer;
    } ∷ [])

-- an answer and a fault are one exchange more each, out of memory is none
abbrev pub AddsExchange : List Exchange → List Exchange → Request → Result WireAnswer WireFault
    → Type 0
AddsExchange before now request (Ok answer) = AddsOne before now request (Some answer)
AddsExchange before now request (Err wire_fault.Failed) = AddsOne before now request None
AddsExchange before now request (Err wire_fault.NoMemory) = now ≡ before
