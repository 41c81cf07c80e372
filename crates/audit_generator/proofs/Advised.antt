-- Each generated text reads to its advisory.
use Rattle.std.proofs.Common.{◌≡◌, ℕ, ◌<◌, ◌^◌, true, false, ◌==◌, List, [], ◌∷◌, ◌++◌, length, codes, None, Some, Ok, refl, ap, ◌∙◌}
use Rattle.std.specs.List.{list_all}
use Rattle.std.specs.Fmt.{decimal}
use Rattle.std.proofs.lemmas.Bool.Decides.{nat_tests}
use Rattle.std.proofs.Common.{arith}
use Rattle.semver.proofs.OnLiterals.{semver_on_literals}
use Rattle.audit_advisory.specs.Advisories.{advisory_of, fields_of}
use Rattle.audit_advisory.specs.Requirements.{requirement_of}
use Rattle.audit_advisory.specs.declared.advisories.Advisory.{Advisory}
use Rattle.audit_generator.specs.Packages.{name_at}
use Rattle.audit_generator.specs.Advisories.{advisory_at, advisory_text, id_at, zeros_before}
use Rattle.audit_generator.proofs.Texts.{is_simple, name_simple}
use Rattle.audit_generator.proofs.Fenced.{behind, ending, fenced_with, from_id, head_same, id_simple, text_same, title_read}
use Rattle.audit_generator.proofs.Heads.{head_members, head_parses}

requirement_read : requirement_of (codes ">=1.3.0") ≡ Some (codes ">=1.3.0")
unfolding semver_on_literals
requirement_read = refl

-- the advisory with this id on the package of this name
abbrev advisory_with : List ℕ → List ℕ → Advisory
advisory_with id name = record {
  metadata = record {
    id = id;
    «package» = name;
    title = codes "Generated";
    description = [];
    date = codes "2099-01-01";
    url = None;
    source = None;
    informational = None;
    withdrawn = None;
    license = None;
    cvss = None;
    score_tenths = None;
  };
  versions = record { patched = codes ">=1.3.0" ∷ []; unaffected = [] };
  arch = [];
  os = [];
  functions = [];
}

some_length : (c : ℕ) (cs : List ℕ) → (length (c ∷ cs) == 0) ≡ false
some_length c cs = grind (arith, nat_tests)

fields_read : (c d : ℕ) (cs ds : List ℕ) → fields_of (head_members (c ∷ cs) (d ∷ ds)) (codes "Generated", []) ≡ Ok (advisory_with (c ∷ cs) (d ∷ ds))
fields_read c d cs ds = rw (some_length c cs, some_length d ds, requirement_read) refl

read_with : (c d : ℕ) (cs ds : List ℕ) → list_all is_simple (c ∷ cs) ≡ true → list_all is_simple (d ∷ ds) ≡ true
    → advisory_of (codes "```toml\n[advisory]\nid = \"" ++ from_id (c ∷ cs) (d ∷ ds) (behind ++ ending)) ≡ Ok (advisory_with (c ∷ cs) (d ∷ ds))
read_with c d cs ds a b =
    rw (fenced_with (c ∷ cs) (d ∷ ds) a b, head_same (c ∷ cs) (d ∷ ds), head_parses (c ∷ cs) (d ∷ ds) a b, title_read) (fields_read c d cs ds)

pub advisory_read : (k : ℕ) → k < 2 ^ 64 → advisory_of (advisory_text k) ≡ Ok (advisory_at k)
advisory_read k h =
    ap advisory_of (text_same (id_at k) (name_at k)) ∙ read_with 82 103 (codes "USTSEC-2099-" ++ zeros_before k ++ decimal k) (decimal k) (id_simple k h) (name_simple k h)
