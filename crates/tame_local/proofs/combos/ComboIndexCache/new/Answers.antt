use Rattle.std.proofs.Common.{◌≡◌, List, ℕ, Option, Some, option_map, sym, ap, ◌∙◌, subst}
use Rattle.tame_location.specs.IndexUrls.{is_sparse}
use Rattle.tame_local.specs.Combos.{IsOpened, kind_by, local_path}
use Rattle.tame_local.proofs.combos.ComboIndexCache.new.Goals as goal

pub returns-in-Some-clause-opened : goal.returns-in-Some-clause-opened
returns-in-Some-clause-opened g c = λ told.
    let location = c.args.location in
    let ident = g.I.Ident.number c.args.ident.now in
    let is : local_path location.url ≡ Some c.in-Some.path.now = sym c.local_path.ensures ∙ ap (option_map (λ path. path.now)) c.in-Some.is in
    let P : Option (List ℕ) → Type 0
    = λ o. IsOpened ident location (g.F.Files.host c.args.files.now) (kind_by o (is_sparse location.url)) c.folder_index.result in
    subst P (sym is) (c.folder_index.ensures.opened told ident location)
