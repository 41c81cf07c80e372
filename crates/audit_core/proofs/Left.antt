-- What calls leave, one after the other.
use Rattle.std.proofs.Common.{◌≡◌, ℕ, List, refl, sym, ◌∙◌}
use Rattle.tame_cache.proofs.FolderLemmas.{none_made}
use Rattle.audit_core.specs.Leaves.{AsksOnly, CallsBy, Holding}
use Rattle.audit_core.specs.declared.checking.Checks.{Checks}
use Rattle.audit_core.proofs.Exchanged.{part_none}

-- nothing was done
pub asks_nothing : (wire_tells disk_tells : Type 0) (paths : List (List ℕ)) (s : Holding) → AsksOnly wire_tells disk_tells paths s s
asks_nothing wire_tells disk_tells paths s = record {
  part = λ told. part_none _ _ _ refl;
  others = λ told q other. refl;
  folders = λ told. none_made _ _ _ refl;
}

pub calls_nothing : (checks : Checks) (disk_tells wire_same disk_same : Type 0) (s : Holding) → wire_same → disk_same → CallsBy checks disk_tells wire_same disk_same s s
calls_nothing checks disk_tells wire_same disk_same s wire disk = record {
  unasked = λ other. wire;
  unchanged = λ other told q. refl;
  unmade = λ other told. refl;
  off = λ is. disk;
}

-- then the disk was only read
pub asks_then_read : (wire_tells disk_tells : Type 0) (paths : List (List ℕ)) (a b c : Holding) → AsksOnly wire_tells disk_tells paths a b → c.exchanges ≡ b.exchanges
    → (disk_tells → (q : List ℕ) → c.files q ≡ b.files q) → (disk_tells → c.folders ≡ b.folders) → AsksOnly wire_tells disk_tells paths a c
asks_then_read wire_tells disk_tells paths a b c h exchanges files folders = record {
  part = λ told. rw exchanges (h.part told);
  others = λ told q other. files told q ∙ h.others told q other;
  folders = λ told. rw (folders told) (h.folders told);
}

pub calls_then_read : (checks : Checks) (disk_tells wire_same disk_same more : Type 0) (a b c : Holding) → CallsBy checks disk_tells wire_same disk_same a b
    → (disk_tells → (q : List ℕ) → c.files q ≡ b.files q) → (disk_tells → c.folders ≡ b.folders) → (disk_same → more) → CallsBy checks disk_tells wire_same more a c
calls_then_read checks disk_tells wire_same disk_same more a b c h files folders same = record {
  unasked = h.unasked;
  unchanged = λ other told q. files told q ∙ h.unchanged other told q;
  unmade = λ other told. folders told ∙ h.unmade other told;
  off = λ is. same (h.off is);
}
