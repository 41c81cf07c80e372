-- The line that says why a run ended without its output (this project).
use Rattle.std.specs.Prelude.{ℕ, codes, decimal, List, ◌++◌, Some, None}
use Rattle.std.specs.Fmt.{signed_decimal}
use Rattle.audit_lock.specs.declared.listed.LockRule.TheVariants as rule
use Rattle.audit_lock.specs.declared.lockfiles.LockfileFault.{LockfileFault}
use Rattle.audit_lock.specs.declared.lockfiles.LockfileFault.TheVariants as lockfile_fault
use Rattle.audit_output.specs.LockfileWords.{lockfile_words, of_package}
use Rattle.audit_remedies.specs.declared.faults.RunFault.{RunFault}
use Rattle.audit_remedies.specs.declared.faults.RunFault.TheVariants as fault
use Rattle.audit_settings.specs.declared.configs.SettingsFault.{SettingsFault}
use Rattle.audit_settings.specs.declared.configs.SettingsFault.TheVariants as settings_fault
use Rattle.vendor_registry.specs.declared.faults.VendorFault.{VendorFault}
use Rattle.vendor_registry.specs.declared.faults.VendorFault.TheVariants as vendor_fault

-- ---- settings

abbrev pub settings_words : SettingsFault → List ℕ
settings_words settings_fault.Toml = codes "invalid TOML"
settings_words settings_fault.Float = codes "a float"
settings_words (settings_fault.Unknown key) = codes "unknown key " ++ key
settings_words (settings_fault.Missing key) = codes "missing key " ++ key.now
settings_words (settings_fault.Value key) = codes "wrong value " ++ key.now
settings_words settings_fault.NoMemory = codes "out of memory"

-- ---- lockfiles

-- a wrong version is an error of its own kind
abbrev pub lockfile_kind : LockfileFault → List ℕ
lockfile_kind (lockfile_fault.Rule package_ rule.Version) = codes "version error"
lockfile_kind _ = codes "parse error"

-- ---- vendored registries

-- a refusal by its name, in lower case, and the package that it is of
abbrev pub vendor_words : VendorFault → List ℕ
vendor_words (vendor_fault.Name n) = codes "name" ++ of_package (Some n)
vendor_words (vendor_fault.Store n) = codes "store" ++ of_package (Some n)
vendor_words (vendor_fault.Absent n) = codes "absent" ++ of_package (Some n)
vendor_words (vendor_fault.Record n) = codes "record" ++ of_package (Some n)
vendor_words (vendor_fault.NoVersion n) = codes "noversion" ++ of_package (Some n)
vendor_words (vendor_fault.NoCrate n) = codes "nocrate" ++ of_package (Some n)
vendor_words (vendor_fault.TooLarge n len) = codes "toolarge" ++ of_package (Some n)
vendor_words (vendor_fault.Digest n found) = codes "digest" ++ of_package (Some n)
vendor_words (vendor_fault.NotEmpty count) = codes "notempty" ++ of_package None
vendor_words vendor_fault.NotADirectory = codes "notadirectory" ++ of_package None
vendor_words (vendor_fault.File path) = codes "file" ++ of_package None
vendor_words (vendor_fault.ReadBack why) = codes "readback" ++ of_package None
vendor_words vendor_fault.NoMemory = codes "nomemory" ++ of_package None

-- ---- the line

-- why a run ended; a lockfile's fault is reported with the lockfile's path
abbrev pub fault_words : List ℕ → RunFault → List ℕ
fault_words place (fault.Usage n) = codes "bad word at place " ++ decimal n
fault_words place (fault.Settings reason) = codes "config error: " ++ settings_words reason
fault_words place (fault.Missing path) = path ++ codes " isn't there"
fault_words place (fault.NotUtf8 path) = path ++ codes " isn't UTF-8"
fault_words place (fault.TooLarge path len) =
    path ++ codes " has " ++ decimal len ++ codes " bytes"
fault_words place (fault.File path) = codes "I/O error: " ++ path
fault_words place (fault.Lockfile reason) =
    lockfile_kind reason ++ codes ": couldn't load " ++ place ++ codes ": "
    ++ lockfile_words reason
fault_words place (fault.Advisory n reason) = codes "parse error: advisory " ++ decimal n
fault_words place (fault.Baseline line) = codes "baseline line " ++ decimal line
fault_words place (fault.Vendor reason) = codes "vendor: " ++ vendor_words reason
fault_words place fault.Print = codes "I/O error: output"
fault_words place (fault.Generate status) =
    codes "non-zero exit status running `cargo update --workspace`: " ++ signed_decimal status
fault_words place (fault.Start failed) =
    decimal failed ++ codes " programs couldn't be started"
fault_words place fault.NoMemory = codes "out of memory"

abbrev pub fault_line : List ℕ → RunFault → List ℕ
fault_line place reason = codes "error: " ++ fault_words place reason ++ codes "\n"
