-- Trees that are put one after the other.
use Rattle.std.proofs.Common.{◌≡◌, ℕ, suc, List, ◌∷◌, ◌++◌, drop, take, true, false, sym, ap, ◌∙◌, subst, append_assoc}
use Rattle.std.proofs.lemmas.List.{append_cancel_left}
use Rattle.std.specs.Prelude.{bytes_eq}
use Rattle.tame_names.specs.Output.{AddsPrefix}
use Rattle.audit_lock.specs.Rendering.{rendering}
use Rattle.audit_lock.specs.declared.resolving.Package.{Package}
use Rattle.report_parts.proofs.Puts.{part_first, part_then}
use Rattle.uses.specs.Trees.{trees_from}

-- behind a part of the whole a part of the next text, where that and the rest complete the whole
pub part_next : (before whole mid text rest now : List ℕ) → AddsPrefix before whole mid → mid ++ (text ++ rest) ≡ before ++ whole → AddsPrefix mid text now → AddsPrefix before whole now
part_next before whole mid text rest now h all is =
    let done = take h.0 whole in
    let P : List ℕ → Type 0 = λ xs. AddsPrefix before xs now in
    let left : done ++ (text ++ rest) ≡ whole = append_cancel_left before _ _ (sym (append_assoc before done (text ++ rest)) ∙ ap (λ (xs : List ℕ). xs ++ (text ++ rest)) (sym h.1) ∙ all) in
    subst P left (part_then before done (text ++ rest) mid now h.1 (part_first mid text rest now is))

-- the next text whole
pub put_next : (before whole mid text rest now : List ℕ) → now ≡ mid ++ text → mid ++ (text ++ rest) ≡ before ++ whole → now ++ rest ≡ before ++ whole
put_next before whole mid text rest now put all = ap (λ (xs : List ℕ). xs ++ rest) put ∙ append_assoc mid text rest ∙ all

-- the tree of a package that has the name, and then those of what is left
pub trees_next : (all : List Package) (name : List ℕ) (place : ℕ) (p : Package) (packages : List Package) → drop place packages ≡ p ∷ drop (suc place) packages → bytes_eq p.name name ≡ true
    → trees_from all name place (drop place packages) ≡ rendering all place ++ trees_from all name (suc place) (drop (suc place) packages)
trees_next all name place p packages left named = rw (left, named)

-- none of one that has another
pub trees_passed : (all : List Package) (name : List ℕ) (place : ℕ) (p : Package) (packages : List Package) → drop place packages ≡ p ∷ drop (suc place) packages → bytes_eq p.name name ≡ false
    → trees_from all name place (drop place packages) ≡ trees_from all name (suc place) (drop (suc place) packages)
trees_passed all name place p packages left other = rw (left, other)
