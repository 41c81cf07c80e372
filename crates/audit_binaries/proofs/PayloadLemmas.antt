-- Lines up to the end line.
use Rattle.std.proofs.Common.{◌≡◌, ◌≢◌, ℕ, List, [], ◌∷◌, ◌++◌, length, take, ◌-◌, Option, Some, None, option_map, true, false, refl, sym, ap, ◌∙◌, subst, append_assoc, arith}
use Rattle.std.specs.Prelude.{bytes_eq}
use Rattle.std.proofs.lemmas.List.{append-nil, length-append}
use Rattle.std.proofs.Math.Seq.{take-append_seam}
use Rattle.tame_names.specs.Pieces.{pieces}
use Rattle.audit_binaries.specs.Payloads.{before_end, end_line, with_newlines}

-- the text of the lines before the end line
abbrev Front : List ℕ → Option (List ℕ)
Front bytes = option_map with_newlines (before_end (pieces 10 bytes))

-- what is left is the end of the bytes, and there is no end line before it
abbrev pub IsReached : List ℕ → List ℕ → Type 0
IsReached bytes left = (done : List ℕ) × (bytes ≡ done ++ left) × (option_map with_newlines (before_end (pieces 10 bytes)) ≡ option_map (λ more. done ++ more) (option_map with_newlines (before_end (pieces 10 left))))

unmoved : (o : Option (List ℕ)) → o ≡ option_map (λ (more : List ℕ). [] ++ more) o
unmoved None = refl
unmoved (Some x) = refl

pub reached_first : (bytes : List ℕ) → IsReached bytes bytes
reached_first bytes = ([], refl, unmoved (Front bytes))

-- a line that isn't the end line comes first
line_more : (line : List ℕ) (lines : List (List ℕ)) → bytes_eq line end_line ≡ false → before_end (line ∷ lines) ≡ option_map (λ more. line ∷ more) (before_end lines)
line_more line lines other = rw other refl

line_end : (line : List ℕ) (lines : List (List ℕ)) → bytes_eq line end_line ≡ true → before_end (line ∷ lines) ≡ Some []
line_end line lines here = rw here refl

line_moved : (done line : List ℕ) (o : Option (List (List ℕ)))
    → option_map (λ (more : List ℕ). done ++ more) (option_map with_newlines (option_map (λ more. line ∷ more) o)) ≡ option_map (λ (more : List ℕ). (done ++ (line ++ 10 ∷ [])) ++ more) (option_map with_newlines o)
line_moved done line None = refl
line_moved done line (Some lines) = ap (λ (x : List ℕ). Some x) (sym (append_assoc done (line ++ 10 ∷ []) (with_newlines lines) ∙ ap (λ (x : List ℕ). done ++ x) (append_assoc line (10 ∷ []) (with_newlines lines))))

pub reached_more : (bytes left line rest : List ℕ) → pieces 10 left ≡ line ∷ pieces 10 rest → (rest ≢ [] → left ≡ line ++ 10 ∷ rest) → bytes_eq line end_line ≡ false → IsReached bytes left → IsReached bytes rest
reached_more bytes left line [] lines whole other h = (
  bytes,
  sym (append-nil bytes),
  h.2 ∙ ap (λ (ls : List (List ℕ)). option_map (λ (more : List ℕ). h.0 ++ more) (option_map with_newlines (before_end ls))) lines
      ∙ ap (λ (o : Option (List (List ℕ))). option_map (λ (more : List ℕ). h.0 ++ more) (option_map with_newlines o)) (line_more line [] other),
)
reached_more bytes left line (b ∷ rest) lines whole other h = (
  h.0 ++ (line ++ 10 ∷ []),
  h.1 ∙ ap (λ (x : List ℕ). h.0 ++ x) (whole (λ e. cc)) ∙ sym (append_assoc h.0 (line ++ 10 ∷ []) (b ∷ rest) ∙ ap (λ (x : List ℕ). h.0 ++ x) (append_assoc line (10 ∷ []) (b ∷ rest))),
  h.2 ∙ ap (λ (ls : List (List ℕ)). option_map (λ (more : List ℕ). h.0 ++ more) (option_map with_newlines (before_end ls))) lines
      ∙ ap (λ (o : Option (List (List ℕ))). option_map (λ (more : List ℕ). h.0 ++ more) (option_map with_newlines o)) (line_more line (pieces 10 (b ∷ rest)) other)
      ∙ line_moved h.0 line (before_end (pieces 10 (b ∷ rest))),
)

front_of : (done left : List ℕ) → take (length (done ++ left) - length left) (done ++ left) ≡ done
front_of done left =
    let short : length (done ++ left) - length left ≡ length done = simp length-append (omega arith) in
    ap (λ n. take n (done ++ left)) short ∙ take-append_seam done left

pub reached_end : (bytes left line rest : List ℕ) → pieces 10 left ≡ line ∷ pieces 10 rest → bytes_eq line end_line ≡ true → IsReached bytes left
    → Some (take (length bytes - length left) bytes) ≡ option_map with_newlines (before_end (pieces 10 bytes))
reached_end bytes left line rest lines here h =
    let P : List ℕ → Type 0 = λ bs. take (length bs - length left) bs ≡ h.0 in
    let front = subst P (sym h.1) (front_of h.0 left) in
    ap (λ (x : List ℕ). Some x) (front ∙ sym (append-nil h.0))
    ∙ sym (h.2 ∙ ap (λ (ls : List (List ℕ)). option_map (λ (more : List ℕ). h.0 ++ more) (option_map with_newlines (before_end ls))) lines
    ∙ ap (λ (o : Option (List (List ℕ))). option_map (λ (more : List ℕ). h.0 ++ more) (option_map with_newlines o)) (line_end line (pieces 10 rest) here))
