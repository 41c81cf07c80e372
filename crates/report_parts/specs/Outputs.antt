-- What an output holds after a text was put.
use Rattle.std.specs.Prelude.{◌≡◌, ℕ, List, ◌++◌, Result, OnOk}
use Rattle.tame_names.specs.Output.{AddsPrefix}

-- after what it held comes the whole text on success, else the first part of it
pub record IsPut {E : Type 0} (before text now : List ℕ) (result : Result Unit E) : Type 0 where
  pub whole : OnOk result (now ≡ before ++ text)
  pub part : AddsPrefix before text now
