use Rattle.std.proofs.Common.{◌≡◌, refl}
use Rattle.tame_entry.specs.declared.revisions.HttpRevision.TheVariants.{Etag}
use Rattle.tame_sparse.proofs.etags.EtagCache.make_remote_request.Goals as goal

pub returns-in-Some-clause-handed : goal.returns-in-Some-clause-handed
returns-in-Some-clause-handed g c etag known =
    let same : c.in-Some.etag.now ≡ etag = cc (c.in-Some.ensures, known, c.as_str.ensures) in
    rw same at (c.make_remote_request.ensures.handed (Etag c.in-Some.etag) refl)

pub returns-in-None-clause-kept_named : goal.returns-in-None-clause-kept_named
returns-in-None-clause-kept_named g c told known q is = c.make_remote_request-in-None.ensures.kept_named told refl q is
