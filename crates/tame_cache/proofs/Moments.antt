-- How the moments of a run of calls add up.
use Rattle.std.proofs.Common.{◌≡◌, ◌⊎◌, inl, inr, ⊎_elim, ℕ, List, [], ◌∷◌, ◌++◌, length, refl, sym, ◌∙◌, ap, subst, arith, append_assoc, length-append}
use Rattle.tame_cache.specs.Disk.{File, Step, Wrote, WasCut, Synced, TornFile, CutFile, reads, may_leave, left_since, MayWrite, MayCut, MaySync, EachMoment}

-- this moment is one of those since an earlier one
pub counts_now : (t : ℕ) (past : List Step) (file : File) → may_leave past file → left_since t past file
counts_now t [] file now = now
counts_now t (step ∷ older) file now = inl now

-- since this moment there is no other
pub only_now : (past : List Step) (file : File) → left_since (length past) past file → may_leave past file
only_now [] file left = left
only_now (step ∷ older) file (inl now) = now
only_now (step ∷ older) file (inr earlier) = absurd (omega (arith, earlier.0))

-- what a read gives is one of the files that a crash may leave
pub reads_left : (past : List Step) → may_leave past (reads past)
reads_left [] = refl
reads_left (Wrote at n now ∷ older) = inl refl
reads_left (WasCut len now ∷ older) = inl refl
reads_left (Synced now ∷ older) = refl

-- a moment since t is one up to the middle, or one since it
splits : (t : ℕ) (added mid : List Step) (file : File) → left_since t (added ++ mid) file → left_since t mid file ⊎ left_since (length mid) (added ++ mid) file
splits t [] mid file left = inl left
splits t (step ∷ added) mid file (inl now) = inr (inl now)
splits t (step ∷ added) mid file (inr earlier) = elim (splits t added mid file earlier.1) [
  | inl early ↦ inl early
  | inr late ↦ inr (inr (omega (arith, length-append added mid), late))
]

pub started : (past : List Step) (P : File → Type 0) → ((file : File) → may_leave past file → P file) → EachMoment past past P
started past P here = record { grows = ([], refl); each = λ file left. here file (only_now past file left) }

pub joined : (old mid new : List Step) (P : File → Type 0) → EachMoment old mid P → EachMoment mid new P → EachMoment old new P
joined old mid new P first second =
    record {
      grows = (second.grows.0 ++ first.grows.0, second.grows.1 ∙ ap (λ (l : List Step). second.grows.0 ++ l) first.grows.1 ∙ sym (append_assoc second.grows.0 first.grows.0 old));
      each = λ file left. ⊎_elim (first.each file) (λ late. second.each file (subst (λ (l : List Step). left_since (length mid) l file) (sym second.grows.1) late))
          (splits (length old) second.grows.0 mid file (subst (λ (l : List Step). left_since (length old) l file) second.grows.1 left));
    }

pub weaker : (old new : List Step) (P Q : File → Type 0) → ((file : File) → P file → Q file) → EachMoment old new P → EachMoment old new Q
weaker old new P Q more each = record { grows = each.grows; each = λ file left. more file (each.each file left) }

-- at its end
pub ends : (old new : List Step) (P : File → Type 0) → EachMoment old new P → (file : File) → may_leave new file → P file
ends old new P each file now = each.each file (counts_now (length old) new file now)

-- one more change
stepped : (mid new : List Step) (P : File → Type 0) (step : Step) → new ≡ step ∷ mid → ((file : File) → may_leave mid file → P file) → ((file : File) → may_leave new file → P file) → EachMoment mid new P
stepped mid new P step is before here = record {
  grows = (step ∷ [], is);
  each = λ file left. one file (subst (λ (l : List Step). left_since (length mid) l file) is left);
}
  where
    one : (file : File) → left_since (length mid) (step ∷ mid) file → P file
    one file (inl now) = here file (subst (λ (l : List Step). may_leave l file) (sym is) now)
    one file (inr earlier) = before file (only_now mid file earlier.1)

-- if nothing changes
stays : (mid new : List Step) (P : File → Type 0) → new ≡ mid → ((file : File) → may_leave mid file → P file) → EachMoment mid new P
stays mid new P same before = subst (λ (l : List Step). EachMoment mid l P) (sym same) (started mid P before)

pub same_past : (old mid new : List Step) (P : File → Type 0) → EachMoment old mid P → new ≡ mid → EachMoment old new P
same_past old mid new P so_far same = subst (λ (l : List Step). EachMoment old l P) (sym same) so_far

-- one more write
pub written : (old mid new : List Step) (P : File → Type 0) (at n : ℕ) → EachMoment old mid P → MayWrite at n mid new → ((from file : File) → may_leave mid from → TornFile at n from file → P file) → EachMoment old new P
written old mid new P at n so_far may torn = elim may [
  | inl same ↦ same_past old mid new P so_far same
  | inr step ↦ joined old mid new P so_far (stepped mid new P (Wrote at n (reads new)) step.0 (ends old mid P so_far) (λ file now. here step.1 file (subst (λ (l : List Step). may_leave l file) step.0 now)))
]
  where
    here : TornFile at n (reads mid) (reads new) → (file : File) → may_leave (Wrote at n (reads new) ∷ mid) file → P file
    here shows file (inl is) = torn (reads mid) file (reads_left mid) (subst (λ (f : File). TornFile at n (reads mid) f) (sym is) shows)
    here shows file (inr from) = torn from.0 file from.1 from.2

-- one more cut
pub shortened : (old mid new : List Step) (P : File → Type 0) (len : ℕ) → EachMoment old mid P → MayCut len mid new → ((from file : File) → may_leave mid from → CutFile len from file → P file) → EachMoment old new P
shortened old mid new P len so_far may short = elim may [
  | inl same ↦ same_past old mid new P so_far same
  | inr step ↦ joined old mid new P so_far (stepped mid new P (WasCut len (reads new)) step.0 (ends old mid P so_far) (λ file now. here step.1 file (subst (λ (l : List Step). may_leave l file) step.0 now)))
]
  where
    here : CutFile len (reads mid) (reads new) → (file : File) → may_leave (WasCut len (reads new) ∷ mid) file → P file
    here shows file (inl is) = short (reads mid) file (reads_left mid) (subst (λ (f : File). CutFile len (reads mid) f) (sym is) shows)
    here shows file (inr from) = short from.0 file from.1 from.2

-- one more sync
pub synced : (old mid new : List Step) (P : File → Type 0) → EachMoment old mid P → MaySync mid new → EachMoment old new P
synced old mid new P so_far may = elim may [
  | inl same ↦ same_past old mid new P so_far same
  | inr step ↦ joined old mid new P so_far (stepped mid new P (Synced (reads mid)) step (ends old mid P so_far) (λ file now.
      subst P (sym (alone file (subst (λ (l : List Step). may_leave l file) step now))) (ends old mid P so_far (reads mid) (reads_left mid))))
]
  where
    alone : (file : File) → may_leave (Synced (reads mid) ∷ mid) file → file ≡ reads mid
    alone file is = is
