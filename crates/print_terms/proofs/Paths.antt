-- What is drawn of a path.
use Rattle.std.proofs.Common.{◌≡◌, ℕ, List, [], ◌∷◌, get_or, map, fold, ap, sym, ◌∙◌}
use Rattle.ilasm_grammar.specs.declared.productions.TheConstants as p
use Rattle.type_terms.specs.declared.name.TypeId.{TypeId}
use Rattle.listing_model.specs.Shown.{none}
use Rattle.listing_model.specs.Types.{path_below, slash_name, type_id}
use Rattle.print_leaves.specs.Page.{Page, drawn}
use Rattle.print_terms.specs.Rows.{under}
use Rattle.print_terms.proofs.Rows.{star_map}

pub path_drawn : (q : Page) (id : TypeId) (ids : List TypeId) →
    drawn q (path_below (id ∷ ids)) ≡ fold (λ q id. under q (slash_name id)) (drawn q (type_id id none)) ids
path_drawn q id ids = star_map p.SLASH_NAME_STAR_MORE p.SLASH_NAME_STAR_END slash_name (drawn q (type_id id none)) ids

pub path_done : (q a new : Page) (id : TypeId) (ids more : List TypeId) → ids ≡ get_or ids 0 id ∷ more → a ≡ drawn q (type_id id none) →
    new ≡ fold (λ q id. under q (slash_name id)) a more → id ≡ get_or ids 0 id → new ≡ drawn q (path_below ids)
path_done q a new id ids more e ha hn f =
    hn
    ∙ (ap (λ r. fold (λ q id. under q (slash_name id)) r more) ha
    ∙ (sym (path_drawn q id more) ∙ ap (λ ys. drawn q (path_below ys)) (ap (λ y. y ∷ more) f ∙ sym e)))
