use Rattle.std.proofs.Common.{◌≡◌, Global}
use Rattle.std.specs.Prelude.{map, string_bytes}
use Rattle.audit_start.specs.Starts.{lock_file}
use Rattle.audit_start.proofs.Begun.{started}
use Rattle.audit_start.proofs.starting.begin.Goals as goal

pub returns-clause-ok : goal.returns-clause-ok
returns-clause-ok g c told =
    let lock : c.in_ok-lock.lock ≡ lock_file c.in_ok-cache.cache = rw c.as_str.ensures at c.in_ok-lock.ensures in
    started (map (string_bytes {Z = Global}) c.args.arguments.now) (g.F.Files.host c.args.files.now) c.in_ok-mirror.mirror c.in_ok-cache.cache c.in_ok-lock.lock c.in_ok-taken.taken
    (c.in_ok-mirror.ensures.ok told) (rw (c.in_ok-mirror.ensures.same told) at (c.in_ok-cache.ensures.ok told)) lock c.in_ok-taken.ensures

pub returns-clause-lock : goal.returns-clause-lock
returns-clause-lock g c = rw c.as_str.ensures at c.in_ok-lock.ensures
