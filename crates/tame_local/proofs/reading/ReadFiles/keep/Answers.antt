use Rattle.std.proofs.Common.{sym, subst, Ok, ◌≡◌, Some, string_bytes}
use Rattle.std.proofs.lemmas.Map.Text.{btree_map_updates_text}
use Rattle.tame_local.proofs.Kept.{one_read}
use Rattle.tame_local.specs.Registries.{records_at}
use Rattle.tame_local.proofs.reading.ReadFiles.keep.Goals as goal

pub returns-in-Ok-clause-kept : goal.returns-in-Ok-clause-kept
returns-in-Ok-clause-kept c host kept read path =
    one_read host (string_bytes c.in_ok-key.key) path c.args.krate _ _
    (btree_map_updates_text (string_bytes c.in_ok-key.key) c.args.self.now.krates c.insert.new.self (Some c.args.krate) c.in-Ok.ensures.updates path)
    (subst (λ key. records_at host key ≡ Ok c.args.krate.versions) (sym c.in_ok-key.ensures.ok) read) (kept path)
