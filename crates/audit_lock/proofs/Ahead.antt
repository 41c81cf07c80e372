-- What was read, before the reading of what is left.
use Rattle.std.proofs.Common.{List, ◌++◌, Result, Ok, Err}

abbrev pub before_read : {A E : Type 0} → List A → Result (List A) E → Result (List A) E
before_read xs (Ok ys) = Ok (xs ++ ys)
before_read xs (Err e) = Err e
