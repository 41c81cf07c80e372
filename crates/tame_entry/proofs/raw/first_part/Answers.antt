use Rattle.std.proofs.Common.{Bor, List, ℕ}
use Rattle.tame_entry.proofs.CutLemmas.{by_parts}
use Rattle.tame_entry.proofs.raw.first_part.Goals as goal

pub returns : goal.returns
returns c = by_parts c.args.bytes.now c.cut_at.result (λ (p : Bor (List ℕ) × Bor (List ℕ)). p.0.now) (λ (p : Bor (List ℕ) × Bor (List ℕ)). p.1.now) c.cut_at.ensures
