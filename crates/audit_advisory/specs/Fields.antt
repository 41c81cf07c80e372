-- The fields of an advisory's head, or the first rule that one breaks.
use Rattle.std.specs.Prelude.{ℕ, codes, List, [], ◌∷◌, length, Bool, true, false, ◌&&◌, ◌==◌, nat_le, bytes_eq, Option, Some, None, option_map, option_and_then, if◌then◌else◌, Result, Ok}
use Rattle.std.specs.Char.{is_ascii_digit}
use Rattle.toml.specs.Data.{Data, string, Members, as_str, get_member}
use Rattle.toml_tables.specs.Results.{and_then, or_fault}
use Rattle.toml_tables.specs.Members.{natural, optional, required}
use Rattle.audit_advisory.specs.declared.faults.AdvisoryRule.{AdvisoryRule}
use Rattle.audit_advisory.specs.declared.faults.AdvisoryRule.TheVariants as rule
use Rattle.audit_advisory.specs.declared.faults.AdvisoryFault.{AdvisoryFault}
use Rattle.audit_advisory.specs.declared.faults.AdvisoryFault.TheVariants as fault
use Rattle.audit_advisory.specs.declared.metadata.Informational.{Informational}
use Rattle.audit_advisory.specs.declared.metadata.Informational.TheVariants as informational
use Rattle.audit_advisory.specs.declared.metadata.Metadata.{Metadata}

-- what is read, or a broken rule
abbrev pub or_rule : {A : Type 0} → AdvisoryRule → Option A → Result A AdvisoryFault
or_rule r read = or_fault (fault.Rule r) read

-- a string that isn't empty
abbrev pub as_filled : Data → Option (List ℕ)
as_filled (string s) = if length s == 0 then None else Some s
as_filled _ = None

-- a string has this form: a digit for each `d`, and every other byte as it is
abbrev pub has_form : List ℕ → List ℕ → Bool
has_form [] [] = true
has_form [] (b ∷ bs) = false
has_form (f ∷ fs) [] = false
has_form (f ∷ fs) (b ∷ bs) = (if f == 100 then is_ascii_digit b else b == f) && has_form fs bs

abbrev pub is_date : List ℕ → Bool
is_date s = has_form (codes "dddd-dd-dd") s

-- a string in the form of a date: year, month and day in digits, whatever they are
abbrev pub as_date : Data → Option (List ℕ)
as_date (string s) = if is_date s then Some s else None
as_date _ = None

-- what an advisory informs about
abbrev pub kind_of : List ℕ → Informational
kind_of s =
    if bytes_eq s (codes "notice") then informational.Notice
    else if bytes_eq s (codes "unmaintained") then informational.Unmaintained
    else if bytes_eq s (codes "unsound") then informational.Unsound
    else informational.Other s

-- a score in tenths is at most 100
abbrev pub score_in : Option ℕ → Option (Option ℕ)
score_in None = Some None
score_in (Some n) = if nat_le n 100 then Some (Some n) else None

-- absent, or a score in tenths, 0 to 100
abbrev pub score_or_absent : Option Data → Option (Option ℕ)
score_or_absent m = option_and_then score_in (optional natural m)

-- ---- the fields of `[advisory]`, each with its rule

abbrev pub filled_field : List ℕ → AdvisoryRule → Members → Result (List ℕ) AdvisoryFault
filled_field key r ms = or_rule r (required as_filled (get_member key ms))

abbrev pub text_field : List ℕ → AdvisoryRule → Members → Result (Option (List ℕ)) AdvisoryFault
text_field key r ms = or_rule r (optional as_str (get_member key ms))

abbrev pub date_field : Members → Result (List ℕ) AdvisoryFault
date_field ms = or_rule rule.Date (required as_date (get_member (codes "date") ms))

abbrev pub withdrawn_field : Members → Result (Option (List ℕ)) AdvisoryFault
withdrawn_field ms = or_rule rule.Withdrawn (optional as_date (get_member (codes "withdrawn") ms))

abbrev pub informational_field : Members → Result (Option Informational) AdvisoryFault
informational_field ms =
    or_rule rule.Informational (option_map (option_map kind_of)
    (optional as_str (get_member (codes "informational") ms)))

abbrev pub score_field : Members → Result (Option ℕ) AdvisoryFault
score_field ms = or_rule rule.Score (score_or_absent (get_member (codes "score_tenths") ms))

-- in this order: id, package, date, withdrawn, url, source, license, cvss, informational, score
abbrev pub metadata_of : List ℕ × List ℕ → Members → Result Metadata AdvisoryFault
metadata_of titles ms =
    and_then (λ id. and_then (λ «package». and_then
    (λ date. and_then (λ withdrawn. and_then (λ url. and_then (λ source.
    and_then (λ license. and_then (λ cvss. and_then (λ informs. and_then (λ score.
    Ok (record {
      id = id;
      «package» = «package»;
      title = titles.0;
      description = titles.1;
      date = date;
      url = url;
      source = source;
      informational = informs;
      withdrawn = withdrawn;
      license = license;
      cvss = cvss;
      score_tenths = score;
    }))
    (score_field ms)) (informational_field ms))
    (text_field (codes "cvss") rule.Cvss ms)) (text_field (codes "license") rule.License ms))
    (text_field (codes "source") rule.Source ms)) (text_field (codes "url") rule.Url ms))
    (withdrawn_field ms)) (date_field ms))
    (filled_field (codes "package") rule.Package ms)) (filled_field (codes "id") rule.Id ms)
