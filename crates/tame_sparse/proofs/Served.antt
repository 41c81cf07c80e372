-- Exchanges that are served.
use Rattle.std.proofs.Common.{◌≡◌, List, [], ◌∷◌, ◌++◌, refl, sym, subst}
use Rattle.tame_sparse.specs.Serving.{AreServed, exchange_of}
use Rattle.tame_sparse.specs.declared.network.Exchange.{Exchange}
use Rattle.tame_sparse.specs.declared.network.Request.{Request}
use Rattle.tame_sparse.specs.declared.serving.Held.{Held}

-- one exchange more
pub served_more : (held : List Held) (es : List Exchange) (request : Request) → AreServed held es → AreServed held (es ++ exchange_of held request ∷ [])
served_more held [] request h = (record { shown = refl; answered = refl }, tt)
served_more held (e ∷ es) request h = (h.0, served_more held es request h.1)

pub served_then : (held : List Held) (before now : List Exchange) (request : Request) → now ≡ before ++ exchange_of held request ∷ [] → AreServed held before → AreServed held now
served_then held before now request more served =
    let P : List Exchange → Type 0 = AreServed held in
    subst P (sym more) (served_more held before request served)
