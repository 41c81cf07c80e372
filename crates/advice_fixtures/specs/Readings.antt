-- What becomes of a text that a row lays (this project).
use Rattle.std.specs.Prelude.{◌≡◌, ◌≢◌, Result, IsErr}
use Rattle.row_fixtures.specs.declared.faults.RowFault.{RowFault}
use Rattle.row_fixtures.specs.declared.faults.RowFault.TheVariants as fault

-- unless memory ran out, the text itself was refused, and the row is one that isn't read
abbrev pub IsUnread : {T E : Type 0} → Result T E → RowFault → Type 0
IsUnread read e = e ≢ fault.NoMemory → (e ≡ fault.Unread) × IsErr read
