-- Text that was printed, in full or in part.
use Rattle.std.proofs.Common.{◌≡◌, ◌⊎◌, inl, inr, ℕ, List, [], ◌++◌, length, take, Option, Some, sym, ap, subst, ◌∙◌, append_assoc, append-nil}
use Rattle.std.proofs.Math.Seq.{take-length}
use Rattle.tame_names.specs.Output.{AddsPrefix}
use Rattle.audit_remedies.specs.declared.faults.RunFault.{RunFault}
use Rattle.audit_remedies.specs.declared.faults.RunFault.TheVariants as fault
use Rattle.audit_remedies.specs.Faults.{IsPrintFault}
use Rattle.report_parts.proofs.Puts.{part_first, part_none, part_then}
use Rattle.audit_remedies.specs.Outputs.{IsPutBy, IsPutFirst, IsWhole}
use Rattle.audit_remedies.proofs.FaultCases.{print_case}

-- all of it is a part of it
pub part_whole : (before text now : List ℕ) → now ≡ before ++ text → AddsPrefix before text now
part_whole before text now whole = (length text, whole ∙ ap (λ (xs : List ℕ). before ++ xs) (sym (take-length text)))

pub put_all : (before text now : List ℕ) (reason : Option RunFault) → now ≡ before ++ text → IsPutBy before text reason now
put_all before text now reason whole = record { part = part_whole before text now whole; whole = λ w. whole }

-- of no text nothing is printed
pub put_nothing : (before : List ℕ) (reason : Option RunFault) → IsPutBy before [] reason before
put_nothing before reason = record { part = part_none before []; whole = λ w. sym (append-nil before) }

-- the part that was printed, if printing failed
pub put_part : (before text now : List ℕ) (f : RunFault) → IsPrintFault f → AddsPrefix before text now → IsPutBy before text (Some f) now
put_part before text now f only part = record {
  part = part;
  whole = λ w. let P : RunFault → Type 0 = λ e. IsWhole (Some e) → now ≡ before ++ text in print_case P f only (λ no. absurd no) (λ no. absurd no) w;
}

-- out of memory, only a part is asked for
pub put_memory : (before text now : List ℕ) → AddsPrefix before text now → IsPutBy before text (Some fault.NoMemory) now
put_memory before text now part = record { part = part; whole = λ no. absurd no }

-- the same for another reason
pub put_for : (before text now : List ℕ) (one other : Option RunFault) → one ≡ other → IsPutBy before text one now → IsPutBy before text other now
put_for before text now one other is h = let P : Option RunFault → Type 0 = λ o. IsPutBy before text o now in subst P is h

-- if a run ends with a fault, or out of memory
pub put_failed : (before text now : List ℕ) (f : RunFault) (o : Option RunFault) → (o ≡ Some f) ⊎ (o ≡ Some fault.NoMemory) → IsPutBy before text (Some f) now → IsPutBy before text o now
put_failed before text now f o (inl is) h = put_for before text now (Some f) o (sym is) h
put_failed before text now f o (inr is) h = put_for before text now (Some fault.NoMemory) o (sym is) (put_memory before text now h.part)

-- text after other text that was printed in full
pub put_behind : (before xs ys mid now : List ℕ) (reason : Option RunFault) → mid ≡ before ++ xs → IsPutBy mid ys reason now → IsPutBy before (xs ++ ys) reason now
put_behind before xs ys mid now reason first h = record {
  part = part_then before xs ys mid now first h.part;
  whole = λ w. h.whole w ∙ ap (λ (zs : List ℕ). zs ++ ys) first ∙ append_assoc before xs ys;
}

-- the first text alone, or a part of it
pub put_first : (before xs ys now : List ℕ) (f : RunFault) → IsPrintFault f → AddsPrefix before xs now → IsPutBy before (xs ++ ys) (Some f) now
put_first before xs ys now f only part = put_part before (xs ++ ys) now f only (part_first before xs ys now part)

-- text that was printed in full, and a part of other text after it
pub first_put : (before text mid ys now : List ℕ) → mid ≡ before ++ text → AddsPrefix mid ys now → IsPutFirst before text now
first_put before text mid ys now whole part = record { more = take part.0 ys; whole = part.1 ∙ ap (λ (zs : List ℕ). zs ++ take part.0 ys) whole }

-- more after it
pub first_more : (before text mid more now : List ℕ) → IsPutFirst before text mid → now ≡ mid ++ more → IsPutFirst before text now
first_more before text mid more now h is = record { more = h.more ++ more; whole = is ∙ ap (λ (zs : List ℕ). zs ++ more) h.whole ∙ append_assoc (before ++ text) h.more more }
