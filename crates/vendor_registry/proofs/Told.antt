-- A call of a local registry that failed is one for the reported path.
use Rattle.std.proofs.Common.{◌≡◌, [], ◌∷◌, ◌++◌, ℕ, List, Result, Err, subst}
use Rattle.tame_names.specs.declared.errors.Error.{Error}
use Rattle.tame_names.specs.declared.errors.Error.TheVariants as error
use Rattle.tame_names.specs.declared.errors.IoKind.TheVariants as io_kind
use Rattle.tame_names.specs.declared.host.FailedCall.{FailedCall}
use Rattle.tame_local.specs.Calls.{AddsBy, IsCallFor}

-- what holds for each call that may fail holds for the one that did
pub told_so : (may : List ℕ → FailedCall → Type 0) (before now : List FailedCall) (e : Error) (path : List ℕ) (P : Type 0)
    → e ≡ error.IoPath io_kind.Failed path → ((call : FailedCall) → may path call → P) → AddsBy may before now e → P
told_so may before now e path P is so h =
    let k : AddsBy may before now (error.IoPath io_kind.Failed path) = subst (λ (x : Error). AddsBy may before now x) is h in
    so k.0 k.2

pub told_for : (may : List ℕ → FailedCall → Type 0) (before now : List FailedCall) (e : Error) (path : List ℕ)
    → e ≡ error.IoPath io_kind.Failed path → ((call : FailedCall) → may path call → IsCallFor path call) → AddsBy may before now e
    → (call : FailedCall) × (now ≡ before ++ call ∷ []) × IsCallFor path call
told_for may before now e path is for h =
    let k : AddsBy may before now (error.IoPath io_kind.Failed path) = subst (λ (x : Error). AddsBy may before now x) is h in
    (k.0, k.1, for k.0 k.2)
