-- What a run asks of its host, in its order (this project, after cargo-audit).
use Rattle.std.specs.Prelude.{◌≡◌, ◌⊎◌, ℕ, ℤ, pos, List, Bool, false, Option, Some, None, Result, Ok, Err}
use Rattle.tame_names.specs.Standing.{Host}
use Rattle.tame_names.specs.declared.host.FailedCall.{FailedCall}
use Rattle.known_findings.specs.declared.findings.Finding.{Finding}
use Rattle.audit_advisory.specs.declared.advisories.Advisory.{Advisory}
use Rattle.audit_settings.specs.declared.commands.AuditCommand.{AuditCommand}
use Rattle.audit_settings.specs.declared.configs.AuditConfig.{AuditConfig}
use Rattle.audit_asked.specs.Advisories.{advisories_asked, advisory_paths}
use Rattle.audit_asked.specs.Calls.{IsBaselineCall, IsDatabaseCall, IsListingCall, IsLockfileCall, IsPlaceCall, IsReadingCall, IsSettingsCall}
use Rattle.audit_asked.specs.Databases.{database_asked, database_path}
use Rattle.audit_asked.specs.KnownFindings.{baseline_asked}
use Rattle.audit_asked.specs.Places.{is_to_generate, place_asked, place_of}
use Rattle.audit_asked.specs.Refusals.{Refused}
use Rattle.audit_asked.specs.Settings.{settled}
use Rattle.audit_asked.specs.Starts.{IsPlaced}
use Rattle.audit_asked.specs.Texts.{go_on, input_or_text}
use Rattle.audit_asked.specs.declared.asking.Asked.{Asked}
use Rattle.audit_asked.specs.declared.asking.Found.{Found}
use Rattle.audit_asked.specs.declared.faults.AskFault.{AskFault}
use Rattle.audit_asked.specs.declared.faults.AskFault.TheVariants as fault
use Rattle.audit_asked.specs.declared.runners.Started.{Started}

-- what was found with these settings, and the lockfile at this path
abbrev pub asked_by : AuditConfig → List ℕ → Found → Asked
asked_by config place found = record {
  config = config;
  place = place;
  database = found.database;
  advisories = found.advisories;
  baseline = found.baseline;
  text = found.text;
}

-- with these settings, and the lockfile at this path: the database, the advisories, the baseline
-- if one is named, and the lockfile's text; or the first refusal
abbrev pub texts_asked : Host → AuditConfig → Option (List ℕ) → List ℕ → Result Asked Refused
texts_asked host config named place =
    go_on (database_asked config.database.path host) (λ database.
    go_on (advisories_asked host database) (λ advisories.
    go_on (baseline_asked named host) (λ baseline.
    go_on (input_or_text host place) (λ text.
    Ok (record {
      config = config;
      place = place;
      database = database_path database;
      advisories = advisories;
      baseline = baseline;
      text = text;
    })))))

-- the settings, the lockfile's path, the database, the advisories, the baseline if one is named,
-- and the lockfile's text; or the first refusal. If a lockfile must be generated, that start ends
-- with this status
abbrev pub asked : AuditCommand → Option (List ℕ) → Host → ℤ → Result Asked Refused
asked command named host status =
    go_on (settled command host) (λ config.
    go_on (place_asked command.file host status) (λ place.
    texts_asked host config named place))

-- the status of the start that generates, from the answer: 0, or the one that is reported
abbrev pub status_of : AskFault → ℤ
status_of (fault.Generate status) = status
status_of _ = pos 0

abbrev pub status_told : {T : Type 0} → Result T AskFault → ℤ
status_told (Ok a) = pos 0
status_told (Err e) = status_of e

-- a lockfile is generated: the settings are accepted, and one must be generated
abbrev pub generates : AuditCommand → Host → Result AuditConfig Refused → Bool
generates command host (Ok config) = is_to_generate command.file host
generates command host (Err reason) = false

-- ---- the calls that may fail, each after the parts before it were accepted

-- a call for the advisories of a database
abbrev pub IsAdvisoriesCall : Host → Option (List ℕ) → List ℕ → FailedCall → Type 0
IsAdvisoriesCall host None told call = IsReadingCall host (advisory_paths host None) told call
IsAdvisoriesCall host (Some database) told call =
    IsListingCall host database told call
    ⊎ IsReadingCall host (advisory_paths host (Some database)) told call

-- a call once the advisories are known
abbrev pub IsLastCall : Host → Option (List ℕ) → List ℕ → List ℕ → FailedCall → Type 0
IsLastCall host named place told call =
    IsBaselineCall named told call
    ⊎ ((baseline : Option (List Finding)) × (baseline_asked named host ≡ Ok baseline)
    × IsLockfileCall place told call)

-- a call once the database is known
abbrev pub IsKnownCall : Host → Option (List ℕ) → Option (List ℕ) → List ℕ → List ℕ → FailedCall
    → Type 0
IsKnownCall host database named place told call =
    IsAdvisoriesCall host database told call
    ⊎ ((advisories : List Advisory) × (advisories_asked host database ≡ Ok advisories)
    × IsLastCall host named place told call)

-- a call once the settings and the lockfile's path are known
abbrev pub IsTextsCall : Host → AuditConfig → Option (List ℕ) → List ℕ → List ℕ → FailedCall
    → Type 0
IsTextsCall host config named place told call =
    IsDatabaseCall host config.database.path told call
    ⊎ ((database : Option (List ℕ)) × (database_asked config.database.path host ≡ Ok database)
    × IsKnownCall host database named place told call)

-- a call once the settings are known
abbrev pub IsLaterCall : AuditCommand → Option (List ℕ) → Host → AuditConfig → List ℕ → FailedCall
    → Type 0
IsLaterCall command named host config told call =
    IsPlaceCall command.file host told call
    ⊎ IsTextsCall host config named (place_of command.file) told call

abbrev pub IsAskedCall : AuditCommand → Option (List ℕ) → Host → List ℕ → FailedCall → Type 0
IsAskedCall command named host told call =
    IsSettingsCall host told call
    ⊎ ((config : AuditConfig) × (settled command host ≡ Ok config)
    × IsLaterCall command named host config told call)

-- a call that failed, and what was started until then: nothing before the lockfile's path is
-- known; after that the start that generates a lockfile, if one must be generated
abbrev pub IsOrderedCall : AuditCommand → Option (List ℕ) → Host → List Started → List Started
    → List ℕ → FailedCall → Type 0
IsOrderedCall command named host before now told call =
    (IsSettingsCall host told call × (now ≡ before))
    ⊎ ((config : AuditConfig) × (settled command host ≡ Ok config)
    × ((IsPlaceCall command.file host told call × (now ≡ before))
    ⊎ (IsTextsCall host config named (place_of command.file) told call
    × IsPlaced (is_to_generate command.file host) before now)))
