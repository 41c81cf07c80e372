-- The places in a report and in a list: below the numbers of advisories and of packages.
use Rattle.std.specs.Prelude.{ℕ, List, Bool, true, ◌&&◌, nat_lt, Option}
use Rattle.std.specs.List.{list_all}
use Rattle.std.specs.Option.{option_map_or}
use Rattle.audit_advisory.specs.declared.reports.Report.{Report}
use Rattle.audit_advisory.specs.declared.reports.Vulnerability.{Vulnerability}
use Rattle.audit_advisory.specs.declared.reports.Warning.{Warning}

-- no place, or one below a count
abbrev pub is_place : ℕ → Option ℕ → Bool
is_place count place = option_map_or (λ n. nat_lt n count) place true

abbrev pub is_placed_vulnerability : ℕ → ℕ → Vulnerability → Bool
is_placed_vulnerability advisories packages v =
    nat_lt v.advisory advisories && nat_lt v.«package» packages

abbrev pub is_placed_warning : ℕ → ℕ → Warning → Bool
is_placed_warning advisories packages w =
    is_place advisories w.advisory && nat_lt w.«package» packages

-- each place in a report has an advisory or a package
abbrev pub is_placed : ℕ → ℕ → Report → Bool
is_placed advisories packages report =
    list_all (is_placed_vulnerability advisories packages) report.vulnerabilities
    && list_all (is_placed_warning advisories packages) report.warnings

-- each of these places has an advisory
abbrev pub are_placed : ℕ → List ℕ → Bool
are_placed advisories places = list_all (λ n. nat_lt n advisories) places
