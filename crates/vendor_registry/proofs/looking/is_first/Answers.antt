use Rattle.std.proofs.Common.{◌≡◌, ◌∷◌, ◌++◌, [], true, not, sym, ap, ◌∙◌, subst, List}
use Rattle.std.specs.Prelude.{◌&&◌}
use Rattle.std.specs.List.{list_any}
use Rattle.std.specs.BTreeMap.{is_at}
use Rattle.std.specs.BTreeSet.{insert_key}
use Rattle.audit_core.specs.Paths.{is_default}
use Rattle.vendor_registry.specs.Looked.{HasPairs, pair_cmp, stands_for}
use Rattle.vendor_registry.specs.declared.looking.Pair.{Pair}
use Rattle.vendor_registry.proofs.Sets.{pair_among, pairs_more}
use Rattle.vendor_registry.proofs.looking.is_first.Goals as goal

pub returns-clause-first : goal.returns-clause-first
returns-clause-first c = λ front h.
    let p = c.args.locked.now in
    let default : is_default p ≡ true = sym c.is_default.ensures ∙ c.if-not-is_default.false in
    c.in_ok-first.ensures.added ∙ ap (λ (k : Pair). not (list_any (is_at (pair_cmp k)) c.args.pairs.now.keys)) c.in_ok-pair.ensures
    ∙ ap not (pair_among c.args.pairs.now.keys front p h) ∙ ap (λ b. b && not (list_any (stands_for p) front)) (sym default)

pub returns-clause-pairs : goal.returns-clause-pairs
returns-clause-pairs c = λ front h.
    let p = c.args.locked.now in
    let default : is_default p ≡ true = sym c.is_default.ensures ∙ c.if-not-is_default.false in
    subst (λ (keys : List Pair). HasPairs keys (front ++ p ∷ []))
    (sym (c.in_ok-first.ensures.keys ∙ ap (insert_key pair_cmp c.args.pairs.now.keys) c.in_ok-pair.ensures))
    (pairs_more c.args.pairs.now.keys front p default h)
