-- Why a text gives no settings.
use Rattle.std.specs.Prelude.{◌≡◌, ◌≢◌, ℕ, List, Result, Err, IfErr}
use Rattle.audit_settings.specs.declared.configs.SettingsFault.{SettingsFault}
use Rattle.audit_settings.specs.declared.configs.SettingsFault.TheVariants as fault

-- the text is no TOML; it has a float; a key is unknown, is missing, or has a value of another
-- form; no text is refused with `no_memory`
pub data Refusal : Type 0 where
  no_toml : Refusal
  has_a_float : Refusal
  unknown : (key : List ℕ) → Refusal
  missing : (key : List ℕ) → Refusal
  wrong : (key : List ℕ) → Refusal
  no_memory : Refusal

-- the refusal that a fault reports
abbrev pub refusal : SettingsFault → Refusal
refusal fault.Toml = no_toml
refusal fault.Float = has_a_float
refusal (fault.Unknown key) = unknown key
refusal (fault.Missing key) = missing key.now
refusal (fault.Value key) = wrong key.now
refusal fault.NoMemory = no_memory

-- what a call refuses, the definition refuses, except out of memory
abbrev pub Refuses : {A B : Type 0} → Result A SettingsFault → Result B Refusal → Type 0
Refuses result meaning = IfErr result (λ e. e ≢ fault.NoMemory → meaning ≡ Err (refusal e))
