-- What a put leaves is a part of its piece from the front.
use Rattle.std.proofs.Common.{ℕ, List, ◌++◌, length, Result, Ok, Err, sym, ap, ◌∙◌}
use Rattle.std.proofs.Math.Seq.{take-length}
use Rattle.tame_names.specs.Output.{AddsPrefix, Puts}

pub part_put : {E : Type 0} (before piece now : List ℕ) (result : Result Unit E) → Puts before piece now result → AddsPrefix before piece now
part_put before piece now (Ok done) h = (length piece, h ∙ ap (λ xs. before ++ xs) (sym (take-length piece)))
part_put before piece now (Err fault) h = h
