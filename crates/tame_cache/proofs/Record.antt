-- One more call in the record of a disk in memory.
use Rattle.std.proofs.Common.{◌≡◌, inl, inr, ℕ, ◌+◌, ◌-◌, ◌≤◌, min, List, [], ◌∷◌, ◌++◌, length, take, drop, Some, None, Bool, true, false, cond, refl, sym, ◌∙◌, ap, subst, arith, append_assoc, length-append, length-drop, drop-drop}
use Rattle.std.specs.Prelude.{option_map, Result, Ok, Err, OnOk, OnErr}
use Rattle.std.specs.String.{string_bytes}
use Rattle.std.specs.Str.{bytes_eq}
use Rattle.std.proofs.lemmas.Slice.Eq.{bytes_eq-Decides}
use Rattle.std.proofs.lemmas.List.{take_at, drop_at, take_min, length-take, length-take-le}
use Rattle.tame_cache.specs.declared.calls.Call.{Call}
use Rattle.tame_cache.specs.declared.calls.Change.{Change}
use Rattle.tame_cache.specs.declared.calls.Change.TheVariants.{Write, Cut, Sync}
use Rattle.tame_cache.specs.Disk.{File, Step, Wrote, Torn, CutShort, TornFile, CutFile, content, with_piece, reads, MayWrite}
use Rattle.tame_cache.specs.Calls.{step_of, file_of, past_of, with_change}

pub past_more : (path : List ℕ) (past : List Step) (calls : List Call) (call : Call) → past_of path past (calls ++ call ∷ []) ≡ with_change path (past_of path past calls) (string_bytes call.path) call.change (file_of call.file)
past_more path past [] call = refl
past_more path past (first ∷ calls) call = past_more path (with_change path past (string_bytes first.path) first.change (file_of first.file)) calls call

pub after_same : (path : List ℕ) (past : List Step) (change : Change) (now : File) → with_change path past path change now ≡ step_of change now ∷ past
after_same path past change now = let same = (bytes_eq-Decides path path).1 refl in rw same

reads_step : (change : Change) (file : File) (past : List Step) → reads (step_of change file ∷ past) ≡ file
reads_step (Write at n) file past = refl
reads_step (Cut len) file past = refl
reads_step Sync file past = refl

-- what a read gives after a call, by what a test of its path answered
pub reads_same : (path changed : List ℕ) (past : List Step) (change : Change) (now : File) → bytes_eq changed path ≡ true → reads (with_change path past changed change now) ≡ now
reads_same path changed past change now same = rw same (reads_step change now past)

pub reads_other : (path changed : List ℕ) (past : List Step) (change : Change) (now : File) → bytes_eq changed path ≡ false → reads (with_change path past changed change now) ≡ reads past
reads_other path changed past change now differs = rw differs

-- a write that is whole is one that may be torn
pub whole_torn : (old piece : List ℕ) (at : ℕ) → at ≤ length old → Torn at (length piece) old (with_piece old at piece)
whole_torn old piece at le =
    let front : length (take at old) ≡ at = length-take-le at old le in
    let behind : length (take at old ++ piece) ≡ at + length piece = length-append (take at old) piece ∙ ap (λ (n : ℕ). n + length piece) front in
    let size : length (with_piece old at piece) ≡ (at + length piece) + (length old - (at + length piece)) = omega (arith, behind, length-append (take at old ++ piece) (drop (at + length piece) old), length-drop (at + length piece) old) in
    let same : min at (length old) ≡ at = omega arith in
    record {
      before = ap (λ (n : ℕ). take n (with_piece old at piece)) same ∙ ap (λ (l : List ℕ). take at l) (append_assoc (take at old) piece (drop (at + length piece) old)) ∙ take_at (take at old) (piece ++ drop (at + length piece) old) at front;
      after = drop_at (take at old ++ piece) (drop (at + length piece) old) (at + length piece) behind;
      no_shorter = omega (arith, size);
      no_longer = omega (arith, size);
    }

-- so is the front of one
pub part_torn : (old front : List ℕ) (at n : ℕ) → at ≤ length old → length front ≤ n → Torn at n old (with_piece old at front)
part_torn old front at n le short =
    let torn = whole_torn old front at le in
    let more : at + n ≡ (at + length front) + (n - length front) = omega (arith, short) in
    record {
      before = torn.before;
      after = rw (more, sym (drop-drop (n - length front) (at + length front) (with_piece old at front)), sym (drop-drop (n - length front) (at + length front) old)) (ap (λ (l : List ℕ). drop (n - length front) l) torn.after);
      no_shorter = torn.no_shorter;
      no_longer = omega (arith, torn.no_longer, short);
    }

pub part_torn_file : (old : File) (front : List ℕ) (at n : ℕ) → at ≤ length (content old) → length front ≤ n → TornFile at n old (Some (with_piece (content old) at front))
part_torn_file None front at n le short = inr (with_piece [] at front, refl, part_torn [] front at n le short)
part_torn_file (Some bytes) front at n le short = (with_piece bytes at front, refl, part_torn bytes front at n le short)

pub whole_torn_file : (old : File) (piece : List ℕ) (at : ℕ) → at ≤ length (content old) → TornFile at (length piece) old (Some (with_piece (content old) at piece))
whole_torn_file None piece at le = inr (with_piece [] at piece, refl, whole_torn [] piece at le)
whole_torn_file (Some bytes) piece at le = (with_piece bytes at piece, refl, whole_torn bytes piece at le)

pub whole_cut : (old : List ℕ) (len : ℕ) → CutShort len old (take len old)
whole_cut old len = record {
  no_shorter = omega (arith, length-take len old);
  front = ap (λ (n : ℕ). take n old) (length-take len old) ∙ take_min len old;
}

pub whole_cut_file : (old : File) (len : ℕ) → CutFile len old (option_map (take len) old)
whole_cut_file None len = refl
whole_cut_file (Some bytes) len = (take len bytes, refl, whole_cut bytes len)

-- a write that was noted, or failed
pub noted_write : {E : Type 0} (r : Result (Unit {0}) E) (old new : List Step) (at n : ℕ) (now : File) → OnOk r (new ≡ Wrote at n now ∷ old) → OnErr r (new ≡ old) → TornFile at n (reads old) now → MayWrite at n old new
noted_write (Ok u) old new at n now done failed torn =
    let shown : reads new ≡ now = ap reads done in
    inr (done ∙ ap (λ (f : File). Wrote at n f ∷ old) (sym shown), subst (λ (f : File). TornFile at n (reads old) f) (sym shown) torn)
noted_write (Err e) old new at n now done failed torn = inl failed

-- anything that is said about a file's changes after a call, by what a test of its path answered
pub told_same : {X : Type 0} (f : List Step → X) (path changed : List ℕ) (past : List Step) (change : Change) (now : File) → bytes_eq changed path ≡ true → f (with_change path past changed change now) ≡ f (step_of change now ∷ past)
told_same f path changed past change now same = rw same refl

pub told_other : {X : Type 0} (f : List Step → X) (path changed : List ℕ) (past : List Step) (change : Change) (now : File) → bytes_eq changed path ≡ false → f (with_change path past changed change now) ≡ f past
told_other f path changed past change now differs = rw differs refl

-- what a read gives after a change, by the test of its path
pub reads_with : (path changed : List ℕ) (past : List Step) (change : Change) (now : File) → reads (with_change path past changed change now) ≡ cond (bytes_eq changed path) now (reads past)
reads_with path changed past change now = go (bytes_eq changed path) refl
  where
    go : (b : Bool) → bytes_eq changed path ≡ b → reads (with_change path past changed change now) ≡ cond b now (reads past)
    go true same = reads_same path changed past change now same
    go false differs = reads_other path changed past change now differs

-- what was put last is taken off
pub popped : {A : Type 0} (xs ys zs : List A) (x : A) (n : ℕ) → zs ≡ take (n - 1) xs → xs ≡ ys ++ x ∷ [] → length xs ≡ n → zs ≡ ys
popped xs ys zs x n taken is count =
    let whole : length xs ≡ length ys + 1 = ap length is ∙ length-append ys (x ∷ []) in
    let left : length ys ≡ n - 1 = omega arith in
    taken ∙ ap (take (n - 1)) is ∙ take_at ys (x ∷ []) (n - 1) left
