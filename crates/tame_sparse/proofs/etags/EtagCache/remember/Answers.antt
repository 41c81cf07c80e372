use Rattle.std.proofs.Common.{string_bytes}
use Rattle.std.proofs.lemmas.Map.Text.{btree_map_updates_text}
use Rattle.tame_sparse.proofs.etags.EtagCache.remember.Goals as goal

pub returns-in-Ok-clause-remembered : goal.returns-in-Ok-clause-remembered
returns-in-Ok-clause-remembered c = λ n.
    rw (c.in_ok-key.ensures.ok, c.in_ok-text.ensures) at
    (btree_map_updates_text (string_bytes c.in_ok-key.key) c.args.self.now.etags c.insert.new.self _ c.in-Ok.ensures.updates n)
