-- What is between the fences of a generated advisory.
use lib.Utf8.{encode}
use Rattle.std.proofs.Common.{◌≡◌, ℕ, ◌<◌, ◌^◌, Bool, true, false, ◌==◌, cond, List, [], ◌∷◌, ◌++◌, codes, Some, refl, sym, ap, ◌∙◌, arith, append_assoc, nat_lt}
use Rattle.std.specs.List.{list_all, slice_split}
use Rattle.std.specs.Fmt.{decimal}
use Rattle.std.specs.Str.{trim_start, trim_end, chars}
use Rattle.std.proofs.lemmas.Bool.{and_parts}
use Rattle.std.proofs.lemmas.Bool.Decides.{nat_tests}
use Rattle.std.proofs.lemmas.List.Folds.{list_all-append}
use Rattle.audit_advisory.specs.Fences.{fenced, is_newline, titled}
use Rattle.audit_generator.specs.Packages.{text_line}
use Rattle.audit_generator.proofs.Texts.{decimal_simple, is_simple}
use Rattle.audit_generator.specs.Advisories.{id_at, zeros_before}

-- ---- a text of simple bytes has no newline

other_byte : (c : ℕ) → is_simple c ≡ true → (c == 10) ≡ false
other_byte c h = grind (arith, nat_tests)

-- a quoted text ends its line
quoted_cut : (v rest : List ℕ) → list_all is_simple v ≡ true → slice_split is_newline (v ++ 34 ∷ 10 ∷ rest) ≡ (v ++ 34 ∷ []) ∷ slice_split is_newline rest
quoted_cut [] rest h = refl
quoted_cut (c ∷ cs) rest h =
    let (here, more) = and_parts (is_simple c) (list_all is_simple cs) h in
    rw (other_byte c here, quoted_cut cs rest more) refl

-- ---- the fences

abbrev pub quote_end : List ℕ
quote_end = codes "\"\n"

abbrev pub behind : List ℕ
behind = codes "date = \"2099-01-01\"\n\n[versions]\npatched = [\">=1.3.0\"]\n"

abbrev pub ending : List ℕ
ending = codes "```\n\n# Generated\n"

-- the text from its id on
abbrev pub from_id : List ℕ → List ℕ → List ℕ → List ℕ
from_id id name rest = id ++ (quote_end ++ (codes "package = \"" ++ (name ++ (quote_end ++ rest))))

abbrev pub head_with : List ℕ → List ℕ → List ℕ
head_with id name =
    codes "[advisory]\n" ++ (text_line (codes "id") id ++ (text_line (codes "package") name ++ behind))

pub head_same : (id name : List ℕ) → codes "[advisory]\nid = \"" ++ from_id id name behind ≡ head_with id name
head_same id name =
    ap (λ (xs : List ℕ). codes "[advisory]\nid = \"" ++ xs)
    (sym (append_assoc id quote_end (text_line (codes "package") name ++ behind)
    ∙ ap (λ (ys : List ℕ). id ++ (quote_end ++ (codes "package = \"" ++ ys))) (append_assoc name quote_end behind)))

four : (a b c d : List ℕ) → a ++ b ++ c ++ d ≡ a ++ (b ++ (c ++ d))
four a b c d = simp append_assoc refl

pub text_same : (id name : List ℕ) → codes "```toml\n[advisory]\n" ++ text_line (codes "id") id ++ text_line (codes "package") name ++ (behind ++ ending)
    ≡ codes "```toml\n[advisory]\nid = \"" ++ from_id id name (behind ++ ending)
text_same id name =
    ap (λ (xs : List ℕ). codes "```toml\n[advisory]\nid = \"" ++ xs)
    (four id quote_end (text_line (codes "package") name) (behind ++ ending)
    ∙ ap (λ (ys : List ℕ). id ++ (quote_end ++ (codes "package = \"" ++ ys))) (append_assoc name quote_end (behind ++ ending)))

pub fenced_with : (id name : List ℕ) → list_all is_simple id ≡ true → list_all is_simple name ≡ true
    → fenced (codes "```toml\n[advisory]\nid = \"" ++ from_id id name (behind ++ ending)) ≡ Some (codes "[advisory]\nid = \"" ++ from_id id name behind, codes "\n# Generated\n")
fenced_with id name a b =
    rw (quoted_cut id (codes "package = \"" ++ (name ++ (quote_end ++ (behind ++ ending)))) a, quoted_cut name (behind ++ ending) b)
    (rw (append_assoc id (34 ∷ []), append_assoc name (34 ∷ [])) refl)

pub title_read : titled (codes "\n# Generated\n") ≡ Some (codes "Generated", [])
unfolding trim_start trim_end chars encode
title_read = refl

-- ---- each text

both : (p : ℕ → Bool) (xs ys : List ℕ) → list_all p xs ≡ true → list_all p ys ≡ true → list_all p (xs ++ ys) ≡ true
both p xs ys a b = rw (list_all-append p xs ys, a, b) refl

zeros_simple : (k : ℕ) → list_all is_simple (zeros_before k) ≡ true
zeros_simple k = elim (nat_lt k 10) as (λ b. list_all is_simple (cond b (codes "000") (cond (nat_lt k 100) (codes "00") (cond (nat_lt k 1000) (codes "0") (codes "")))) ≡ true) [
  | true ↦ refl
  | false ↦ elim (nat_lt k 100) as (λ b. list_all is_simple (cond b (codes "00") (cond (nat_lt k 1000) (codes "0") (codes ""))) ≡ true) [
    | true ↦ refl
    | false ↦ elim (nat_lt k 1000) as (λ b. list_all is_simple (cond b (codes "0") (codes "")) ≡ true) [
      | true ↦ refl
      | false ↦ refl
    ]
  ]
]

pub id_simple : (k : ℕ) → k < 2 ^ 64 → list_all is_simple (id_at k) ≡ true
id_simple k h = both is_simple (codes "RUSTSEC-2099-" ++ zeros_before k) (decimal k) (both is_simple (codes "RUSTSEC-2099-") (zeros_before k) refl (zeros_simple k)) (decimal_simple k h)
