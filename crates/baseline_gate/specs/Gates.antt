-- Which findings of an audit a baseline doesn't list, and what a gate ends with (this project).
use Rattle.std.specs.Prelude.{ℕ, List, [], ◌∷◌, not}
use Rattle.std.specs.List.{filter}
use Rattle.known_findings.specs.Findings.{is_among}
use Rattle.known_findings.specs.declared.findings.Finding.{Finding}

-- those that aren't in a baseline, in their order; repeats are kept
abbrev pub unlisted : List Finding → List Finding → List Finding
unlisted baseline findings = filter (λ f. not (is_among f baseline)) findings

-- from the findings that aren't listed: 0 if there are none, else 1
abbrev pub gate_status : List Finding → ℕ
gate_status [] = 0
gate_status (f ∷ fs) = 1
