-- What is printed for advisories on the auditor itself (this project, after cargo-audit).
use Rattle.std.specs.Prelude.{ℕ, codes, List, [], ◌∷◌, ◌++◌, slice_get, if◌then◌else◌}
use Rattle.std.specs.List.{flat_map}
use Rattle.std.specs.Option.{option_map_or}
use Rattle.audit_advisory.specs.Exits.{denies_self}
use Rattle.audit_advisory.specs.declared.advisories.Advisory.{Advisory}
use Rattle.audit_advisory.specs.declared.outputs.DenyOption.{DenyOption}
use Rattle.audit_report.specs.Blocks.{metadata_lines}

unfoldable pub self_message : List ℕ
self_message =
    codes "This copy of cargo-audit has known advisories! "
    ++ codes "Upgrade cargo-audit to the latest version: "
    ++ codes "cargo install --force cargo-audit\n"

-- an error, if such advisories are denied
abbrev pub self_level : List DenyOption → List ℕ
self_level deny = if denies_self deny then codes "error: " else codes "warning: "

unfoldable pub self_line : List DenyOption → List ℕ
self_line deny = self_level deny ++ self_message

-- what the advisory at a place says about itself; a place without an item gives nothing
abbrev pub metadata_at : List Advisory → ℕ → List ℕ
metadata_at advisories place =
    option_map_or (λ a. metadata_lines a.metadata) (slice_get advisories place) []

-- for each, and then an empty line
unfoldable pub self_lines : List Advisory → List ℕ → List ℕ
self_lines advisories places = flat_map (metadata_at advisories) places ++ codes "\n"

-- the line on standard error, and the text on standard output; nothing if there are none
abbrev pub self_summary : List DenyOption → List ℕ → List ℕ
self_summary deny [] = []
self_summary deny (place ∷ places) = self_line deny

abbrev pub self_text : List Advisory → List ℕ → List ℕ
self_text advisories [] = []
self_text advisories (place ∷ places) = self_lines advisories (place ∷ places)
