-- Two audits of one text over servers that held the same (this project).
use Rattle.std.specs.Prelude.{◌≡◌, ◌⊎◌, List, [], ◌∷◌, ◌++◌, ℕ, Option, Some, None}
use Rattle.tame_names.specs.Counts.{CountStayed}
use Rattle.tame_entry.specs.ServerMaps.{ServerMap}
use Rattle.tame_cache.specs.Kept.{IsKept}
use Rattle.tame_sparse.specs.Exchanges.{crates_io_index}
use Rattle.tame_sparse.specs.Honest.{AreHonest}
use Rattle.tame_sparse.specs.declared.network.Exchange.{Exchange}
use Rattle.tame_sparse.specs.declared.network.WireAnswer.{WireAnswer}
use Rattle.audit_core.specs.Audits.{IsAuditOf, Moment}
use Rattle.audit_core.specs.declared.auditing.Audited.{Audited}
use Rattle.audit_core.specs.declared.auditors.Auditor.{Auditor}

-- one is 200 or not-modified and the other is 200, else both have the same status, or both failed
abbrev pub AreAlikeAnswers : Option WireAnswer → Option WireAnswer → Type 0
AreAlikeAnswers None None = Unit {0}
AreAlikeAnswers (Some a) (Some b) =
    (((a.status ≡ 200) ⊎ (a.status ≡ 304)) × (b.status ≡ 200)) ⊎ (a.status ≡ b.status)
AreAlikeAnswers _ _ = ⊥

-- the same path and the same held, and alike answers
pub record AreAlike (e f : Exchange) : Type 0 where
  pub path : e.path ≡ f.path
  pub held : e.held ≡ f.held
  pub answers : AreAlikeAnswers e.answer f.answer

abbrev pub AreAllAlike : List Exchange → List Exchange → Type 0
AreAllAlike [] [] = Unit {0}
AreAllAlike (e ∷ es) (f ∷ fs) = AreAlike e f × AreAllAlike es fs
AreAllAlike _ _ = ⊥

-- an audit with these exchanges over an honest server and a disk that is kept for it, in which no
-- call of the disk failed
pub record IsSoundAudit (auditor : Auditor) (began ended : Moment) (added : List Exchange)
    (text : List ℕ) (audited : Audited) : Type 0 where
  pub server : ServerMap
  pub audit : IsAuditOf auditor (Unit {0}) (Unit {0}) began ended text audited
  pub follow : ended.exchanges ≡ began.exchanges ++ added
  pub honest : AreHonest server added
  pub kept : IsKept server crates_io_index [] began.files
  pub disk_faults : CountStayed began.disk_faults ended.disk_faults
