use Rattle.std.proofs.Common.{◌≡◌, drop, map, List, ℕ, Bor}
use Rattle.tame_names.specs.Names.{stands_in}
use Rattle.tame_names.proofs.reserved.found_in.Given as goal

-- what is left decides
abbrev pub invariant-loop-word : goal.invariant-loop-word
invariant-loop-word l = stands_in l.name (map (λ (word : Bor (List ℕ)). word.now) l.table) ≡ stands_in l.name (map (λ (word : Bor (List ℕ)). word.now) (drop l.word-index l.table))
