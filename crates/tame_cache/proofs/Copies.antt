-- A disk in memory is copied file by file.
use Rattle.std.proofs.Common.{◌≡◌, ◌⊎◌, inl, inr, ℕ, List, [], ◌∷◌, Bool, true, false, cond, None, refl, sym, ◌∙◌, ap, subst}
use Rattle.std.specs.Prelude.{◌==◌}
use Rattle.std.specs.Str.{bytes_eq}
use Rattle.std.specs.String.{string_bytes}
use Rattle.std.proofs.lemmas.Slice.Eq.{bytes_eq-Decides}
use Rattle.tame_cache.specs.declared.calls.Call.{Call}
use Rattle.tame_cache.specs.declared.calls.Change.TheVariants.{Sync}
use Rattle.tame_cache.specs.Disk.{File, Step, Synced, reads, IsAlone}
use Rattle.tame_cache.specs.MemoryDisk.{half, lost, picked, spoiled}
use Rattle.tame_cache.specs.Calls.{file_of, past_of, with_change}

-- no change of the file was seen, or the copy has the picked one
abbrev pub IsCopied : ℕ → List ℕ → List Step → List Step → List Step → Type 0
IsCopied pick q copy seen all = ((copy ≡ []) × (seen ≡ [])) ⊎ ((file : File) × (rest : List Step) × (copy ≡ Synced file ∷ rest) × (file ≡ picked pick all))

pub copied_more : (pick : ℕ) (q path : List ℕ) (copy new seen : List Step) (more : List Step) (calls : List Call) (item : Call) (file : File) → path ≡ string_bytes item.path → new ≡ with_change q copy path Sync file → more ≡ with_change q seen (string_bytes item.path) item.change (file_of item.file)
    → file ≡ picked pick (past_of path [] calls) → IsCopied pick q copy seen (past_of q [] calls) → IsCopied pick q new more (past_of q [] calls)
copied_more pick q path copy new seen more calls item file names added is possible copied = go (bytes_eq path q) refl
  where
    go : (b : Bool) → bytes_eq path q ≡ b → IsCopied pick q new more (past_of q [] calls)
    go true same = inr (file, copy, (added ∙ rw same), subst (λ (p : List ℕ). file ≡ picked pick (past_of p [] calls)) ((bytes_eq-Decides path q).0 same) possible)
    go false differs =
        let new_same : new ≡ copy = added ∙ rw differs in
        let more_same : more ≡ seen = is ∙ ap (λ (p : List ℕ). with_change q seen p item.change (file_of item.file)) (sym names) ∙ rw differs in
        rw (new_same, more_same) copied

none_picked : (a b c : Bool) → cond a (lost []) (cond b (reads []) (cond c (spoiled []) (half []))) ≡ None
none_picked true b c = refl
none_picked false true c = refl
none_picked false false true = refl
none_picked false false false = refl

pub copied_reads : (pick : ℕ) (q : List ℕ) (copy all : List Step) → IsCopied pick q copy all all → reads copy ≡ picked pick all
copied_reads pick q copy all (inl none) = rw (none.0, none.1) (sym (none_picked (pick == 0) (pick == 1) (pick == 2)))
copied_reads pick q copy all (inr one) = rw one.2 one.3

pub copied_alone : (pick : ℕ) (q : List ℕ) (copy all : List Step) → IsCopied pick q copy all all → IsAlone copy
copied_alone pick q copy all (inl none) = rw none.0 (λ file is. is)
copied_alone pick q copy all (inr one) = rw one.2 (λ file is. is)
