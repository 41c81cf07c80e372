use Rattle.std.proofs.Common.{◌≡◌, ◌+◌, ◌-◌, ◌<◌, ℕ, suc, ◌∷◌, replicate, arith, refl}
use Rattle.std.proofs.lemmas.Grind.{common_steps}
use Rattle.report_parts.proofs.attributes.push_filled.Goals as goal

spaces_from : (i : ℕ) → i < 10 → replicate {A = ℕ} (10 - i) 32 ≡ 32 ∷ replicate {A = ℕ} (10 - (i + 1)) 32
spaces_from i h =
    let e : 10 - i ≡ suc (10 - (i + 1)) = omega arith in
    rw e refl

pub loop-column-preserved : goal.loop-column-preserved
loop-column-preserved c = grind (arith, common_steps, spaces_from)
