-- What a wire in memory gives: the items of a list, one at each call.
use Rattle.std.specs.Prelude.{◌≡◌, ◌⊎◌, ℕ, List, [], ◌∷◌, ◌++◌, slice_get, Some, None, Result, Ok, Err, unwrap_or}
use Rattle.tame_sparse.specs.declared.memory_wire.Scripted.{Scripted}
use Rattle.tame_sparse.specs.declared.network.Exchange.{Exchange}
use Rattle.tame_sparse.specs.declared.network.Request.{Request}
use Rattle.tame_sparse.specs.declared.network.WireAnswer.{WireAnswer}
use Rattle.tame_sparse.specs.declared.network.WireFault.{WireFault}
use Rattle.tame_sparse.specs.declared.network.WireFault.TheVariants as wire_fault

-- the item of a call by its number, from 0; after the last one nothing is held and the call fails
abbrev pub item_at : List Scripted → ℕ → Scripted
item_at script number = unwrap_or (slice_get script number) (record { held = None; answer = None })

-- the exchange of a request and an item was added, or none
abbrev pub MayAddItem : List Exchange → List Exchange → Request → Scripted → Type 0
MayAddItem before now request item =
    (now ≡ before) ⊎ (now ≡ before ++ record {
      url = request.uri;
      path = request.path;
      named = request.named;
      held = item.held;
      answer = item.answer;
    } ∷ [])

-- an item's answer is given, and a call fails exactly if it has none; it may be out of memory
abbrev pub GivesItem : Scripted → Result WireAnswer WireFault → Type 0
GivesItem item (Ok answer) = item.answer ≡ Some answer
GivesItem item (Err wire_fault.Failed) = item.answer ≡ None
GivesItem item (Err wire_fault.NoMemory) = Unit {0}
