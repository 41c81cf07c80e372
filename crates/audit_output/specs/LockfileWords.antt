-- Why a text is no lockfile, in words (this project).
use Rattle.std.specs.Prelude.{ℕ, codes, decimal, List, ◌++◌, [], Option, Some, None}
use Rattle.audit_lock.specs.declared.listed.LockRule.{LockRule}
use Rattle.audit_lock.specs.declared.listed.LockRule.TheVariants as rule
use Rattle.audit_lock.specs.declared.lockfiles.LockfileFault.{LockfileFault}
use Rattle.audit_lock.specs.declared.lockfiles.LockfileFault.TheVariants as lockfile_fault

-- the name of a rule, in lower case
abbrev pub rule_word : LockRule → List ℕ
rule_word rule.Version = codes "version"
rule_word rule.Packages = codes "packages"
rule_word rule.Name = codes "name"
rule_word rule.PackageVersion = codes "packageversion"
rule_word rule.Source = codes "source"
rule_word rule.Checksum = codes "checksum"
rule_word rule.Dependencies = codes "dependencies"
rule_word rule.Replace = codes "replace"
rule_word rule.Root = codes "root"
rule_word rule.Names = codes "names"

-- the package that breaks a rule, if it is known
abbrev pub of_package : Option ℕ → List ℕ
of_package None = []
of_package (Some n) = codes " of package " ++ decimal n

abbrev pub lockfile_words : LockfileFault → List ℕ
lockfile_words lockfile_fault.Toml = codes "invalid TOML"
lockfile_words lockfile_fault.Float = codes "a float"
lockfile_words (lockfile_fault.Rule package_ r) =
    codes "rule " ++ rule_word r ++ of_package package_
lockfile_words lockfile_fault.NoMemory = codes "out of memory"
