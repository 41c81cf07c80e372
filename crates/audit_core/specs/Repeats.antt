-- Exchanges after which an offline audit says the same (this project).
use Rattle.std.specs.Prelude.{◌≡◌, ◌⊎◌, List, [], ◌∷◌, IsSomeAnd}
use Rattle.tame_entry.specs.Revision.{IsRevision}
use Rattle.tame_sparse.specs.Exchanges.{crates_io_index}
use Rattle.tame_sparse.specs.ResponseResults.{IsToStore, stored_under}
use Rattle.tame_sparse.specs.declared.network.Exchange.{Exchange}
use Rattle.tame_sparse.specs.declared.network.WireAnswer.{WireAnswer}

-- the cache has afterwards what the answer says: it is not-modified, or it is stored, under a
-- revision whose text is UTF-8
abbrev pub IsKeptAnswer : WireAnswer → Type 0
IsKeptAnswer a =
    (a.status ≡ 304) ⊎ (IsToStore crates_io_index a × IsRevision (stored_under a.revision))

abbrev pub AreKeptAnswers : List Exchange → Type 0
AreKeptAnswers [] = Unit {0}
AreKeptAnswers (e ∷ es) = IsSomeAnd e.answer IsKeptAnswer × AreKeptAnswers es
