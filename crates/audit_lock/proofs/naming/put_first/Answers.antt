use Rattle.std.proofs.Common.{◌≡◌, false, is_some, string_bytes, sym, ap, ◌∙◌}
use Rattle.std.specs.BTreeMap.{get_by_text}
use Rattle.std.proofs.lemmas.Map.Text.{btree_map_updates_text}
use Rattle.audit_lock.proofs.Steps.{put_step, none_of, same_bytes}
use Rattle.audit_lock.proofs.naming.put_first.Goals as goal

pub returns-in_ok-insert : goal.returns-in_ok-insert
returns-in_ok-insert c = λ q.
    let after = btree_map_updates_text (string_bytes c.args.text) c.args.places.now c.insert.new.self _ c.in_ok-insert.ensures.updates q in
    let absent : is_some (get_by_text c.args.places.now (string_bytes c.args.text)) ≡ false = rw c.as_str.ensures.value at (sym c.contains_key.ensures ∙ c.if-not-contains_key.true) in
    after ∙ put_step _ _ _ (λ same. ap (get_by_text c.args.places.now) (sym (same_bytes _ _ same)) ∙ none_of _ absent)
