-- The largest binaries and payloads (this project, after cargo-audit).
use Rattle.std.specs.Prelude.{ℕ, ◌^◌, ◌-◌, ◌==◌, Option, Some, None, if◌then◌else◌}
use Rattle.audit_binaries.specs.declared.limits.BinaryLimits.{BinaryLimits}

-- 100 MiB by default; 0 is no limit
abbrev pub binary_limit : Option ℕ → ℕ
binary_limit None = 104857600
binary_limit (Some size) = if size == 0 then 2 ^ 64 - 1 else size

-- 8 MiB by default
abbrev pub payload_limit : Option ℕ → ℕ
payload_limit None = 8388608
payload_limit (Some size) = size

abbrev pub limits_of : Option ℕ → Option ℕ → BinaryLimits
limits_of binary payload = record { binary = binary_limit binary; payload = payload_limit payload }
