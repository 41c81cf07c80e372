-- Advisories on generated packages, each a function of its package's number (this project).
use Rattle.std.specs.Prelude.{ℕ, ◌%◌, ◌==◌, nat_lt, codes, decimal, List, [], ◌∷◌, ◌++◌, None, filter, map, Bool, if◌then◌else◌}
use Rattle.std.specs.List.{range_with_len}
use Rattle.audit_advisory.specs.declared.advisories.Advisory.{Advisory}
use Rattle.audit_generator.specs.Packages.{name_at, text_line}

-- package k has an advisory
abbrev pub has_advisory : ℕ → Bool
has_advisory k = k % 10 == 0

-- zeros before a number below 10000, so that it has four digits
abbrev pub zeros_before : ℕ → List ℕ
zeros_before k =
    if nat_lt k 10 then codes "000"
    else if nat_lt k 100 then codes "00"
    else if nat_lt k 1000 then codes "0"
    else codes ""

-- the id of the advisory on package k
abbrev pub id_at : ℕ → List ℕ
id_at k = codes "RUSTSEC-2099-" ++ zeros_before k ++ decimal k

-- the advisory on package k
abbrev pub advisory_at : ℕ → Advisory
advisory_at k = record {
  metadata = record {
    id = id_at k;
    «package» = name_at k;
    title = codes "Generated";
    description = [];
    date = codes "2099-01-01";
    url = None;
    source = None;
    informational = None;
    withdrawn = None;
    license = None;
    cvss = None;
    score_tenths = None;
  };
  versions = record { patched = codes ">=1.3.0" ∷ []; unaffected = [] };
  arch = [];
  os = [];
  functions = [];
}

-- the packages below n that have one
abbrev pub advised : ℕ → List ℕ
advised n = filter has_advisory (range_with_len 0 n)

-- the advisories on n packages
abbrev pub advisories : ℕ → List Advisory
advisories n = map advisory_at (advised n)

-- ---- as texts

abbrev pub advisory_text : ℕ → List ℕ
advisory_text k =
    codes "```toml\n[advisory]\n" ++ text_line (codes "id") (id_at k)
    ++ text_line (codes "package") (name_at k)
    ++ codes "date = \"2099-01-01\"\n\n[versions]\npatched = [\">=1.3.0\"]\n```\n\n# Generated\n"

abbrev pub advisory_texts : ℕ → List (List ℕ)
advisory_texts n = map advisory_text (advised n)
