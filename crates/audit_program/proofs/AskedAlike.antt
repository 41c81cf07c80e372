-- What is asked of a host, whatever a start ends with that isn't made.
use Rattle.std.proofs.Common.{◌≡◌, ℕ, ℤ, List, Bool, true, false, Option, Result, Ok, Err, refl, ap}
use Rattle.std.specs.Prelude.{if◌then◌else◌}
use Rattle.tame_names.specs.Standing.{Host}
use Rattle.audit_settings.specs.declared.commands.AuditCommand.{AuditCommand}
use Rattle.audit_settings.specs.declared.configs.AuditConfig.{AuditConfig}
use Rattle.audit_asked.specs.Asked.{asked, generates, texts_asked}
use Rattle.audit_asked.specs.Places.{generated, is_to_generate, place_asked, place_of}
use Rattle.audit_asked.specs.Refusals.{Refused}
use Rattle.audit_asked.specs.Settings.{settled}
use Rattle.audit_asked.specs.Texts.{go_on}
use Rattle.audit_asked.specs.declared.asking.Asked.{Asked}

abbrev asked_with : AuditCommand → Option (List ℕ) → Host → ℤ → Result AuditConfig Refused → Result Asked Refused
asked_with command named host status r = go_on r (λ config. go_on (place_asked command.file host status) (λ place. texts_asked host config named place))

place_case : (b : Bool) (p : Result (List ℕ) Refused) (a c : ℤ) → b ≡ false → (if b then generated a else p) ≡ (if b then generated c else p)
place_case true p a c none = cc (none)
place_case false p a c none = refl

asked_case : (command : AuditCommand) (named : Option (List ℕ)) (host : Host) (s t : ℤ) (r : Result AuditConfig Refused) → generates command host r ≡ false → asked_with command named host s r ≡ asked_with command named host t r
asked_case command named host s t (Err e) none = refl
asked_case command named host s t (Ok config) none =
    ap (λ (p : Result (List ℕ) Refused). go_on p (λ place. texts_asked host config named place)) (place_case (is_to_generate command.file host) (Ok (place_of command.file)) s t none)

pub asked_alike : (command : AuditCommand) (named : Option (List ℕ)) (host : Host) (s t : ℤ) → generates command host (settled command host) ≡ false → asked command named host s ≡ asked command named host t
asked_alike command named host s t none = asked_case command named host s t (settled command host) none
