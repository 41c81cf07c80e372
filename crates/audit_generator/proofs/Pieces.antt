-- Generated texts, piece by piece.
use Rattle.std.proofs.Common.{◌≡◌, ℕ, suc, ◌+◌, ◌%◌, true, false, List, [], ◌∷◌, ◌++◌, codes, sym, ap, ◌∙◌, arith, append_assoc}
use Rattle.std.specs.List.{flat_map, range_with_len}
use Rattle.audit_generator.specs.Packages.{package_text}
use Rattle.audit_generator.specs.Hosted.{body_at, held_for, hosted, line_text, object_text}
use Rattle.audit_generator.specs.Advisories.{advisory_text, advisory_texts, has_advisory}
use Rattle.audit_generator.proofs.Ranges.{flat_more, kept_more, left_out, map_more}

pub lockfile_more : (k : ℕ) → codes "version = 4\n" ++ flat_map package_text (range_with_len 0 (k + 1)) ≡ codes "version = 4\n" ++ flat_map package_text (range_with_len 0 k) ++ package_text k
lockfile_more k = rw (flat_more package_text k) (sym (append_assoc (codes "version = 4\n") (flat_map package_text (range_with_len 0 k)) (package_text k)))

pub body_more : (k j : ℕ) → flat_map (line_text k) (range_with_len 0 (j + 1)) ≡ flat_map (line_text k) (range_with_len 0 j) ++ object_text k j ++ codes "\n"
body_more k j = rw (flat_more (line_text k) j) (sym (append_assoc (flat_map (line_text k) (range_with_len 0 j)) (object_text k j) (codes "\n")))

pub body_whole : (k : ℕ) → body_at k ≡ flat_map (line_text k) (range_with_len 0 (k % 7 + 1))
body_whole k =
    let e : suc (k % 7) ≡ k % 7 + 1 = omega arith in
    ap (λ (n : ℕ). flat_map (line_text k) (range_with_len 0 n)) e

pub hosted_more : (k : ℕ) → hosted (k + 1) ≡ hosted k ++ held_for k ∷ []
hosted_more k = map_more held_for k

pub advised_more : (k : ℕ) → has_advisory k ≡ true → advisory_texts (k + 1) ≡ advisory_texts k ++ advisory_text k ∷ []
advised_more k h = kept_more advisory_text has_advisory k h

pub advised_same : (k : ℕ) → has_advisory k ≡ false → advisory_texts (k + 1) ≡ advisory_texts k
advised_same k h = left_out advisory_text has_advisory k h

pub lockfile_step : (k : ℕ) (old new piece : List ℕ) → old ≡ codes "version = 4\n" ++ flat_map package_text (range_with_len 0 k) → piece ≡ package_text k → new ≡ old ++ piece
    → new ≡ codes "version = 4\n" ++ flat_map package_text (range_with_len 0 (k + 1))
lockfile_step k old new piece before is more =
    more ∙ ap (λ (xs : List ℕ). xs ++ piece) before ∙ ap (λ (xs : List ℕ). codes "version = 4\n" ++ flat_map package_text (range_with_len 0 k) ++ xs) is ∙ sym (lockfile_more k)
