use Rattle.std.proofs.Common.{◌≡◌, [], inl, inr, Some, option_map, ap, refl}
use Rattle.tame_names.specs.KrateNames.{text_of}
use Rattle.tame_names.specs.Names.{path}
use Rattle.tame_cache.specs.Kept.{cache_file, cache_file_of}
use Rattle.audit_core.proofs.recalling.recall_turn.Goals as goal

pub returns-clause-recalled : goal.returns-clause-recalled
returns-clause-recalled g c = (
  λ told.
      let at : path (text_of c.krate_name-krate.result) ≡ Some c.in_ok-path.path = c.in_ok-path.ensures.path refl in
      let place : cache_file_of [] (text_of c.krate_name-krate.result) ≡ Some (cache_file [] c.in_ok-path.path) = ap (λ o. option_map (cache_file []) o) at in
      elim (c.in_ok-answer.ensures.answer told _ place) [
        | inl is ↦ inl is
        | inr store ↦ inr (rw (c.disk_faults-disk_before.ensures, c.disk_faults.ensures) (c.in_ok-answer.ensures.store store), store)
      ],
  tt,
)

pub returns-clause-blames : goal.returns-clause-blames
returns-clause-blames g c =
    let at : path (text_of c.krate_name-krate.result) ≡ Some c.in_ok-path.path = c.in_ok-path.ensures.path refl in
    let place : cache_file_of [] (text_of c.krate_name-krate.result) ≡ Some (cache_file [] c.in_ok-path.path) = ap (λ o. option_map (cache_file []) o) at in
    (_, c.in_ok-answer.ensures.blames _ place, refl)
