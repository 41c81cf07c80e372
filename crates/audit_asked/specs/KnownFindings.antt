-- The baseline that a run asks for: the findings that it lists (this project).
use Rattle.std.specs.Prelude.{ℕ, List, Option, Some, None, Result, Ok, Err}
use Rattle.known_findings.specs.Baselines.{baseline_of}
use Rattle.known_findings.specs.declared.baselines.BaselineFault.{BaselineFault}
use Rattle.known_findings.specs.declared.baselines.BaselineFault.TheVariants as baseline_fault
use Rattle.known_findings.specs.declared.findings.Finding.{Finding}
use Rattle.tame_names.specs.Standing.{Host}
use Rattle.audit_asked.specs.Refusals.{Refused, baseline, untold}
use Rattle.audit_asked.specs.Texts.{file_text, go_on}

-- the findings of a text, or the first line that is none
abbrev pub findings_read : Result (List Finding) BaselineFault
    → Result (Option (List Finding)) Refused
findings_read (Ok findings) = Ok (Some findings)
findings_read (Err (baseline_fault.Line n)) = Err (baseline n)
findings_read (Err baseline_fault.NoMemory) = Err untold

-- those of the file at a path, if one is named; the file must be there
abbrev pub baseline_asked : Option (List ℕ) → Host → Result (Option (List Finding)) Refused
baseline_asked None host = Ok None
baseline_asked (Some path) host =
    go_on (file_text path (host.stands path)) (λ text. findings_read (baseline_of text))
