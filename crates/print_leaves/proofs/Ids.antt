-- Identifiers by their first byte and the others.
use Rattle.std.proofs.Common.{◌≡◌, ℕ, ◌≤◌, true, ◌&&◌, List, [], ◌∷◌, length, take, drop, ◌-◌, get_or, ap, sym, ◌∙◌, arith}
use Rattle.std.specs.List.{list_all}
use Rattle.il_lexer.specs.Classes.{is_id_start, is_id_part}
use Rattle.listing_leaves.specs.Names.{is_id}
use Rattle.print_leaves.proofs.Lists.{rest_all}

pub id_true : (text : List ℕ) → 1 ≤ length text → is_id_start (get_or text 0 0) ≡ true → list_all is_id_part (take (length text - 1) (drop 1 text)) ≡ is_id text
id_true [] h e = absurd (omega arith)
id_true (b ∷ bs) h e = ap (list_all is_id_part) (rest_all b bs) ∙ ap (λ t. t && list_all is_id_part bs) (sym e)
