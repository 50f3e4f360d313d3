use Rattle.std.proofs.Common.{rules, ◌≡◌, ℕ, [], ◌∷◌, ◌++◌, Some, cond, length, get_or, ◌∙◌, ap, sym}
use Rattle.std.specs.Prelude.{nat_eq}
use Rattle.hash_places.specs.Slots.{place_of}
use Rattle.image_tokens.specs.Rows.{cells_hash}
use Rattle.image_tokens.specs.declared.row_set.Cells.{Cells}
use Rattle.image_tokens.proofs.RowLinkLemmas.{more_linked, same_linked}
use Rattle.image_tokens.proofs.row_links.Links.link_next.Goals as goal

pub returns-in-Ok-clause-linked : goal.returns-in-Ok-clause-linked
returns-in-Ok-clause-linked c =
    let old = c.args.self.now in
    let rows = c.args.rows.now in
    let none : Cells = record { first = 0; second = 0; third = 0 } in
    let cells = get_or rows c.len-place.result none in
    let newest : (q : ℕ) → place_of c.insert.new.self q ≡ cond (nat_eq (cells_hash cells) q) (Some (length old.nexts)) (place_of old.newest q) = search rules in
    let nexts : c.push.new.self ≡ old.nexts ++ c.get-next.result ∷ [] = search rules in
    more_linked (place_of old.newest) (place_of c.insert.new.self) rows old.nexts c.push.new.self cells none c.requires.linked c.requires.more
    (ap (λ k. get_or rows k none) (sym c.len-place.ensures))
    (nexts ∙ ap (λ x. old.nexts ++ x ∷ []) (c.get-next.ensures ∙ ap (place_of old.newest) c.hash_of-hash.ensures)) newest

pub returns-in-Err-clause-linked : goal.returns-in-Err-clause-linked
returns-in-Err-clause-linked c =
    let old = c.args.self.now in
    same_linked (place_of old.newest) (place_of c.insert.new.self) c.args.rows.now old.nexts c.push.new.self c.truncate.new.self c.get-next.result c.len-place.result
    c.requires.linked (search rules) c.len-place.ensures (search rules) c.truncate.ensures
