-- Notes that are added one after the other.
use Rattle.std.proofs.Common.{◌≡◌, ℕ, List, [], ◌++◌, length, codes, Bool, refl, sym, ap, ◌∙◌, append_assoc, append-nil}
use Rattle.std.proofs.lemmas.List.{take_at}
use Rattle.tame_names.specs.Output.{AddsPrefix}
use Rattle.edge_twins.specs.Recordings.{AddsNotes, note}

-- a note without what ends it is a part of the note
pub part_of_note : (before text mid now : List ℕ) → mid ≡ before ++ text → now ≡ mid → AddsPrefix before (note text) now
part_of_note before text mid now first same =
    (length text, same ∙ first ∙ ap (λ (zs : List ℕ). before ++ zs) (sym (take_at text (codes "; ") (length text) refl)))

-- what one step adds, and then another
pub adds_then : (xs ys before mid now : List ℕ) (a b c : Bool) → AddsNotes (xs ++ []) before mid a b → AddsNotes ys mid now b c → AddsNotes (xs ++ ys) before now a c
adds_then xs ys before mid now a b c first next = record {
  whole = λ t. first.whole (next.whole t);
  added = λ t. next.added t ∙ ap (λ (zs : List ℕ). zs ++ ys) (first.added (next.whole t) ∙ ap (λ (zs : List ℕ). before ++ zs) (append-nil xs)) ∙ append_assoc before xs ys;
}
