-- The advisories that make a version of a package vulnerable (RustSec's advisory database).
use Rattle.std.specs.Prelude.{ℕ, List, Bool, ◌&&◌, is_none, bytes_eq}
use Rattle.audit_advisory.specs.Places.{places_where}
use Rattle.audit_advisory.specs.Points.{Point}
use Rattle.audit_advisory.specs.Versions.{is_vulnerable}
use Rattle.audit_advisory.specs.declared.advisories.Advisory.{Advisory}

-- an advisory, neither withdrawn nor informational, makes a version vulnerable
abbrev pub warns_of : Point → Advisory → Bool
warns_of v a =
    is_none a.metadata.withdrawn && is_none a.metadata.informational && is_vulnerable a.versions v

-- it is also about this name
abbrev pub concerns : List ℕ → Point → Advisory → Bool
concerns name v a = bytes_eq a.metadata.«package» name && warns_of v a

-- the places of those advisories, in their order
abbrev pub query : List ℕ → Point → List Advisory → List ℕ
query name v advisories = places_where (concerns name v) advisories
