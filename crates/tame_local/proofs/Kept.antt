-- Index files that were read, one more.
use Rattle.std.proofs.Common.{◌≡◌, List, ℕ, Bool, true, false, cond, Option, Some, bytes_eq, Ok, refl, sym, subst}
use Rattle.std.specs.Prelude.{IfSome}
use Rattle.std.proofs.lemmas.Slice.Eq.{bytes_eq-Decides}
use Rattle.tame_names.specs.Standing.{Host}
use Rattle.tame_records.specs.declared.krates.IndexKrate.{IndexKrate}
use Rattle.tame_local.specs.Registries.{records_at}

abbrev pub IsReadAt : Host → List ℕ → Option IndexKrate → Type 0
IsReadAt host path kept = IfSome kept (λ krate. records_at host path ≡ Ok krate.versions)

kept_case : (t : Bool) (host : Host) (key path : List ℕ) (krate : IndexKrate) (old : Option IndexKrate) → bytes_eq key path ≡ t
    → records_at host key ≡ Ok krate.versions → IsReadAt host path old → IsReadAt host path (cond t (Some krate) old)
kept_case true host key path krate old same read is =
    subst (λ p. records_at host p ≡ Ok krate.versions) ((bytes_eq-Decides key path).0 same) read
kept_case false host key path krate old other read is = is

pub one_read : (host : Host) (key path : List ℕ) (krate : IndexKrate) (old now : Option IndexKrate) → now ≡ cond (bytes_eq key path) (Some krate) old
    → records_at host key ≡ Ok krate.versions → IsReadAt host path old → IsReadAt host path now
one_read host key path krate old now step read is =
    subst (IsReadAt host path) (sym step) (kept_case (bytes_eq key path) host key path krate old refl read is)

pub is_read : (host : Host) (path : List ℕ) (krate : IndexKrate) (kept : Option IndexKrate) → kept ≡ Some krate → IsReadAt host path kept → records_at host path ≡ Ok krate.versions
is_read host path krate kept is read = subst (IsReadAt host path) is read
