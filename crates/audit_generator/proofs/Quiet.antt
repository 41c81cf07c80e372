-- Turns in which the disk's count stayed, and what they leave.
use Rattle.std.proofs.Common.{◌≡◌, ℕ, zero, suc, ◌+◌, ◌-◌, ◌<◌, ◌≤◌, ◌^◌, List, [], ◌∷◌, map, Some, refl, ap, ◌∙◌, subst, inl, inr, arith}
use Rattle.std.specs.List.{range_with_len}
use Rattle.std.proofs.lemmas.Bool.{cases_eq}
use Rattle.tame_cache.specs.Disk.{reads}
use Rattle.tame_cache.specs.Kept.{Disk}
use Rattle.tame_sparse.specs.Exchanges.{crates_io_index}
use Rattle.tame_sparse.specs.ResponseResults.{IsToStore}
use Rattle.tame_sparse.specs.Serving.{not_modified}
use Rattle.audit_core.specs.Audits.{TurnsNameAndLeave}
use Rattle.audit_core.specs.Turns.{Chains, index_file}
use Rattle.audit_core.specs.declared.asking.Turn.{Turn}
use Rattle.audit_core.proofs.Lists.{cons_head, cons_tail}
use Rattle.audit_generator.specs.Hosted.{held_for, path_at}
use Rattle.audit_generator.specs.Outcomes.{AreStored, confirmed, entry_at, sent, turn_at}
use Rattle.audit_generator.proofs.Exchanges.{AllBelow, AreQuiet, all_below}
use Rattle.audit_generator.proofs.Stored.{sent_stored}

-- ---- counts

counts_grow : (wire disk : ℕ) (ts : List Turn) (last_wire last_disk : ℕ) → Chains wire disk ts last_wire last_disk → disk ≤ last_disk
counts_grow wire disk [] last_wire last_disk h = omega (arith, h.1)
counts_grow wire disk (t ∷ ts) last_wire last_disk h =
    let more = counts_grow t.wire_after t.disk_after ts last_wire last_disk h.5 in
    omega (arith, more, h.2, h.3, h.4)

pub all_quiet : (wire disk : ℕ) (ts : List Turn) (last_wire last_disk : ℕ) → Chains wire disk ts last_wire last_disk → last_disk ≡ disk → disk < 2 ^ 64 - 1 → AreQuiet ts
all_quiet wire disk [] last_wire last_disk h same low = tt
all_quiet wire disk (t ∷ ts) last_wire last_disk h same low =
    let more = counts_grow t.wire_after t.disk_after ts last_wire last_disk h.5 in
    let asked : t.disk_asked ≡ t.disk_before = omega (arith, more, same, h.2, h.3, h.4) in
    let after : t.disk_after ≡ t.disk_asked = omega (arith, more, same, h.2, h.3, h.4) in (
      ((asked, omega (arith, low, h.2)), (after, omega (arith, low, h.2, asked))),
      all_quiet t.wire_after t.disk_after ts last_wire last_disk h.5 (omega (arith, same, asked, after, h.2)) (omega (arith, low, asked, after, h.2)),
    )

wires_grow : (wire disk : ℕ) (ts : List Turn) (last_wire last_disk : ℕ) → Chains wire disk ts last_wire last_disk → wire ≤ last_wire
wires_grow wire disk [] last_wire last_disk h = omega (arith, h.0)
wires_grow wire disk (t ∷ ts) last_wire last_disk h =
    let more = wires_grow t.wire_after t.disk_after ts last_wire last_disk h.5 in
    omega (arith, more, h.0, h.1)

same_turn : (t : Turn) (k : ℕ) → t.path ≡ path_at k → t.wire_before ≡ 0 → t.wire_after ≡ 0 → t.disk_before ≡ 0 → t.disk_asked ≡ 0 → t.disk_after ≡ 0 → t ≡ turn_at k
same_turn t k path wire_before wire_after disk_before disk_asked disk_after =
    ap (λ (p : List ℕ). record { path = p; wire_before = t.wire_before; wire_after = t.wire_after; disk_before = t.disk_before; disk_asked = t.disk_asked; disk_after = t.disk_after }) path
    ∙ ap (λ (c : ℕ). record { path = path_at k; wire_before = c; wire_after = t.wire_after; disk_before = t.disk_before; disk_asked = t.disk_asked; disk_after = t.disk_after }) wire_before
    ∙ ap (λ (c : ℕ). record { path = path_at k; wire_before = 0; wire_after = c; disk_before = t.disk_before; disk_asked = t.disk_asked; disk_after = t.disk_after }) wire_after
    ∙ ap (λ (c : ℕ). record { path = path_at k; wire_before = 0; wire_after = 0; disk_before = c; disk_asked = t.disk_asked; disk_after = t.disk_after }) disk_before
    ∙ ap (λ (c : ℕ). record { path = path_at k; wire_before = 0; wire_after = 0; disk_before = 0; disk_asked = c; disk_after = t.disk_after }) disk_asked
    ∙ ap (λ (c : ℕ). record { path = path_at k; wire_before = 0; wire_after = 0; disk_before = 0; disk_asked = 0; disk_after = c }) disk_after

-- turns for these paths in which no count rose
pub counted_turns : (ks : List ℕ) (wire disk : ℕ) (ts : List Turn) (last_wire last_disk : ℕ) → map (λ (t : Turn). t.path) ts ≡ map path_at ks → Chains wire disk ts last_wire last_disk → wire ≡ 0 → last_wire ≡ 0 → disk ≡ 0 → last_disk ≡ 0 → ts ≡ map turn_at ks
counted_turns [] wire disk [] last_wire last_disk paths h w lw d ld = refl
counted_turns [] wire disk (t ∷ ts) last_wire last_disk paths h w lw d ld = cc
counted_turns (k ∷ ks) wire disk [] last_wire last_disk paths h w lw d ld = cc
counted_turns (k ∷ ks) wire disk (t ∷ ts) last_wire last_disk paths h w lw d ld =
    let wires = wires_grow t.wire_after t.disk_after ts last_wire last_disk h.5 in
    let disks = counts_grow t.wire_after t.disk_after ts last_wire last_disk h.5 in
    let wire_after : t.wire_after ≡ 0 = omega (arith, wires, lw) in
    let disk_after : t.disk_after ≡ 0 = omega (arith, disks, ld) in
    let at : t.path ≡ path_at k = cons_head t.path (path_at k) (map (λ (x : Turn). x.path) ts) (map path_at ks) paths in
    let more = cons_tail t.path (path_at k) (map (λ (x : Turn). x.path) ts) (map path_at ks) paths in
    let here = same_turn t k at (h.0 ∙ w) wire_after (h.2 ∙ d) (omega (arith, h.4, disk_after)) disk_after in
    ap (λ (x : Turn). x ∷ ts) here ∙ ap (λ (xs : List Turn). turn_at k ∷ xs) (counted_turns ks t.wire_after t.disk_after ts last_wire last_disk more h.5 wire_after lw disk_after ld)

-- ---- files

abbrev EachStored : List ℕ → Disk → Type 0
EachStored [] files = Unit {0}
EachStored (k ∷ ks) files = (reads (files (index_file (path_at k))) ≡ Some (entry_at k)) × EachStored ks files

sent_files : (n : ℕ) (ks : List ℕ) (old new : Disk) (ts : List Turn) → n < 2 ^ 64 → AllBelow n ks → TurnsNameAndLeave old new (map sent ks) ts → AreQuiet ts → EachStored ks new
sent_files n [] old new ts small below turned quiet = tt
sent_files n (k ∷ ks) old new [] small below turned quiet = absurd turned
sent_files n (k ∷ ks) old new (t ∷ ts) small below turned quiet =
    ((turned.0.leaves.stored (sent_stored k (omega (arith, below.0))) quiet.0.1).whole, sent_files n ks old new ts small below.1 turned.1 quiet.1)

not_stored : (k : ℕ) → IsToStore crates_io_index (not_modified (held_for k)) → ⊥
not_stored k h = let e : 304 ≡ 200 = h.sent in omega (arith, e)

confirmed_files : (ks : List ℕ) (old new : Disk) (ts : List Turn) → TurnsNameAndLeave old new (map confirmed ks) ts → EachStored ks old → EachStored ks new
confirmed_files [] old new ts turned kept = tt
confirmed_files (k ∷ ks) old new [] turned kept = absurd turned
confirmed_files (k ∷ ks) old new (t ∷ ts) turned kept =
    (ap reads (turned.0.leaves.unstored (not_stored k)) ∙ kept.0, confirmed_files ks old new ts turned.1 kept.1)

stored_at : (n a : ℕ) (files : Disk) → EachStored (range_with_len a n) files → (k : ℕ) → a ≤ k → k < a + n → reads (files (index_file (path_at k))) ≡ Some (entry_at k)
stored_at zero a files h k low high = absurd (omega arith)
stored_at (suc n) a files h k low high =
    elim (cases_eq a k) [
      | inl here ↦ subst (λ (j : ℕ). reads (files (index_file (path_at j))) ≡ Some (entry_at j)) here h.0
      | inr later ↦ stored_at n (a + 1) files h.1 k (omega (arith, later)) (omega arith)
    ]

at_range : (n a : ℕ) (files : Disk) → ((k : ℕ) → a ≤ k → k < a + n → reads (files (index_file (path_at k))) ≡ Some (entry_at k)) → EachStored (range_with_len a n) files
at_range zero a files h = tt
at_range (suc n) a files h = (h a (omega arith) (omega arith), at_range n (a + 1) files (λ k low high. h k (omega arith) (omega arith)))

-- after the first audit each file is stored, and after the second still
pub first_stored : (n : ℕ) (old new : Disk) (ts : List Turn) → n < 2 ^ 64 → TurnsNameAndLeave old new (map sent (range_with_len 0 n)) ts → AreQuiet ts → AreStored n new
first_stored n old new ts small turned quiet k below =
    stored_at n 0 new (sent_files n (range_with_len 0 n) old new ts small (all_below n) turned quiet) k (omega arith) (omega arith)

pub second_stored : (n : ℕ) (old new : Disk) (ts : List Turn) → TurnsNameAndLeave old new (map confirmed (range_with_len 0 n)) ts → AreStored n old → AreStored n new
second_stored n old new ts turned kept k below =
    stored_at n 0 new (confirmed_files (range_with_len 0 n) old new ts turned (at_range n 0 old (λ j low high. kept j (omega arith)))) k (omega arith) (omega arith)
