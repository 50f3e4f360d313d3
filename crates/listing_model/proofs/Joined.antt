-- Texts of rows of leaves, one behind the other.
use Rattle.std.proofs.Common.{◌≡◌, List, [], ◌∷◌, ◌++◌, refl, ap, sym, ◌∙◌, append_assoc}
use Rattle.listing_model.specs.Laws.{TextsJoin}
use Rattle.listing_model.specs.Shown.{Leaf}
use Rattle.listing_model.specs.Text.{State, lead, next, text_from, state_after}

text_joins : (s : State) (xs ys : List Leaf) → text_from s (xs ++ ys) ≡ text_from s xs ++ text_from (state_after s xs) ys
text_joins s [] ys = refl
text_joins s (l ∷ ls) ys =
    let rest = text_from (next s l) ls in
    let end = text_from (state_after (next s l) ls) ys in
    ap (λ t. lead s l ++ (l.text ++ t)) (text_joins (next s l) ls ys)
    ∙ (ap (λ t. lead s l ++ t) (sym (append_assoc l.text rest end)) ∙ sym (append_assoc (lead s l) (l.text ++ rest) end))

state_joins : (s : State) (xs ys : List Leaf) → state_after s (xs ++ ys) ≡ state_after (state_after s xs) ys
state_joins s [] ys = refl
state_joins s (l ∷ ls) ys = state_joins (next s l) ls ys

pub texts_join : TextsJoin
texts_join = record { text = text_joins; state = state_joins }
