-- Steps, each of which may fail.
use Rattle.std.specs.Prelude.{Option, Some, None, Result, Ok, Err}

abbrev pub and_then : {A B E : Type 0} → (A → Result B E) → Result A E → Result B E
and_then f (Ok a) = f a
and_then f (Err e) = Err e

abbrev pub or_fault : {A E : Type 0} → E → Option A → Result A E
or_fault e None = Err e
or_fault e (Some a) = Ok a
