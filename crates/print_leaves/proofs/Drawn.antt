-- Drawing a piece adds the text of its leaves.
use Rattle.std.proofs.Common.{◌≡◌, ◌*◌, List, [], ◌∷◌, ◌++◌, Option, None, Some, cond, refl, ap, sym, ◌∙◌, append_assoc, append-nil}
use Rattle.il_lexer.specs.declared.types.TokenKind.{TokenKind}
use Rattle.listing_model.specs.Shown.{Leaf, leaves}
use Rattle.listing_model.specs.Shown.{Shown as s}
use Rattle.listing_model.specs.Text.{State, lead, next, gap, line_end, line_depth, blanks, text_from, state_after}
use Rattle.print_leaves.specs.Laws.{DrawnIsText}
use Rattle.print_leaves.specs.Page.{Page, begun, written, drawn, leaf_of}

text_joins : (s : State) (xs ys : List Leaf) → text_from s (xs ++ ys) ≡ text_from s xs ++ text_from (state_after s xs) ys
text_joins s [] ys = refl
text_joins s (l ∷ ls) ys =
    let rest = text_from (next s l) ls in
    let end = text_from (state_after (next s l) ls) ys in
    ap (λ t. lead s l ++ (l.text ++ t)) (text_joins (next s l) ls ys)
    ∙ (ap (λ t. lead s l ++ t) (sym (append_assoc l.text rest end)) ∙ sym (append_assoc (lead s l) (l.text ++ rest) end))

state_joins : (s : State) (xs ys : List Leaf) → state_after s (xs ++ ys) ≡ state_after (state_after s xs) ys
state_joins s [] ys = refl
state_joins s (l ∷ ls) ys = state_joins (next s l) ls ys

gap_same : (last : Option TokenKind) (l : Leaf) → gap last (leaf_of l.starts l.apart l.kind) ≡ gap last l
gap_same None l = refl
gap_same (Some before) l = refl

lead_same : (s : State) (l : Leaf) → lead s (leaf_of l.starts l.apart l.kind) ≡ lead s l
lead_same s l = ap (λ g. cond l.starts (line_end s.last ++ blanks (2 * line_depth s.depth l)) g) (gap_same s.last l)

-- a page with these tokens behind it
abbrev printed : Page → List Leaf → Page
printed p ls = record { text = p.text ++ text_from p.state ls; state = state_after p.state ls }

written_is : (p : Page) (l : Leaf) → written p l ≡ record { text = (p.text ++ lead p.state l) ++ l.text; state = next p.state l }
unfolding written begun
written_is p l = ap (λ b. record { text = (p.text ++ b) ++ l.text; state = next p.state l }) (lead_same p.state l)

one_more : (p : Page) (l : Leaf) (ls : List Leaf) → printed (written p l) ls ≡ printed p (l ∷ ls)
one_more p l ls =
    ap (λ q. printed q ls) (written_is p l)
    ∙ ap (λ t. record { text = t; state = state_after (next p.state l) ls })
    (append_assoc (p.text ++ lead p.state l) l.text (text_from (next p.state l) ls)
    ∙ append_assoc p.text (lead p.state l) (l.text ++ text_from (next p.state l) ls))

joined : (p : Page) (xs ys : List Leaf) → printed (printed p xs) ys ≡ printed p (xs ++ ys)
joined p xs ys =
    ap (λ t. record { text = t; state = state_after (state_after p.state xs) ys })
    (append_assoc p.text (text_from p.state xs) (text_from (state_after p.state xs) ys) ∙ ap (λ t. p.text ++ t) (sym (text_joins p.state xs ys)))
    ∙ ap (λ q. record { text = p.text ++ text_from p.state (xs ++ ys); state = q }) (sym (state_joins p.state xs ys))

pub drawn_is_text : DrawnIsText
drawn_is_text p s.none = ap (λ t. record { text = t; state = p.state }) (sym (append-nil p.text))
drawn_is_text p (s.leaf l after) = drawn_is_text (written p l) after ∙ one_more p l (leaves after)
drawn_is_text p (s.branch production below after) =
    drawn_is_text (drawn p below) after ∙ (ap (λ q. printed q (leaves after)) (drawn_is_text p below) ∙ joined p (leaves below) (leaves after))
