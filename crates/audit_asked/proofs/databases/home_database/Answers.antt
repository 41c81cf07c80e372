use Rattle.std.proofs.Common.{◌≡◌, ℕ, List, codes, Option, Some, Ok, ap, sym, ◌∙◌}
use Rattle.tame_names.specs.Paths.{join}
use Rattle.audit_asked.specs.Databases.{default_database}
use Rattle.audit_asked.specs.Settings.{known_home}
use Rattle.audit_asked.proofs.databases.home_database.Goals as goal

-- the folder of advisories in a home
in_home : (home : Option (List ℕ)) (folder path : List ℕ) → home ≡ Some folder → path ≡ join folder (codes "advisory-db") → default_database home ≡ Some path
in_home home folder path is at = rw (is, at)

pub returns-in_ok-join-in-Some-clause-ok : goal.returns-in_ok-join-in-Some-clause-ok
returns-in_ok-join-in-Some-clause-ok g c = λ told.
    let at : c.in_ok-join-in-Some.field-0 ≡ join c.in-Some.home (codes "advisory-db") = rw c.as_str.ensures at c.in_ok-join-in-Some.ensures in
    ap Ok (in_home (known_home (g.F.Files.host c.args.files.now)) c.in-Some.home c.in_ok-join-in-Some.field-0 (sym (c.in_ok-known_home.ensures.ok told) ∙ c.in-Some.is) at)
