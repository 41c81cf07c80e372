-- Requirements on versions.
use Rattle.std.specs.Prelude.{ℕ, List, [], ◌∷◌, map, Bool, false, is_some, Option, Some, None, option_map, option_and_then, if◌then◌else◌, Result, Ok, Err}
use Rattle.std.specs.List.{list_any}
use Rattle.semver.specs.Parse.{Held, req_of}
use Rattle.audit_advisory.specs.Points.{Point}
use Rattle.audit_advisory.specs.Intervals.{interval_of, lies_in_each}
use Rattle.audit_advisory.specs.declared.intervals.Interval.{Interval}

abbrev pub intervals_from : {E : Type 0} → Result (List Held) E → Option (List Interval)
intervals_from (Ok comparators) = Some (map interval_of comparators)
intervals_from (Err e) = None

-- the interval of each comparator that `semver` reads in a text; none if it refuses the text
abbrev pub intervals_of : List ℕ → Option (List Interval)
intervals_of text = intervals_from (req_of text)

-- a string that is a requirement
abbrev pub requirement_of : List ℕ → Option (List ℕ)
requirement_of text = if is_some (intervals_of text) then Some text else None

-- the strings, if each is a requirement
abbrev pub requirements_of : List (List ℕ) → Option (List (List ℕ))
requirements_of [] = Some []
requirements_of (text ∷ texts) =
    option_and_then (λ r. option_map (λ rs. r ∷ rs) (requirements_of texts)) (requirement_of text)

-- there are intervals, and a version lies in each of them
abbrev pub meets_in : Option (List Interval) → Point → Bool
meets_in None v = false
meets_in (Some is) v = lies_in_each is v

-- a version meets a requirement
abbrev pub meets : List ℕ → Point → Bool
meets text v = meets_in (intervals_of text) v

-- a version meets one of these requirements
abbrev pub meets_any : List (List ℕ) → Point → Bool
meets_any requirements v = list_any (λ r. meets r v) requirements
