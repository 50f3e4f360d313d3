-- What is sought in rows, item by item.
use Rattle.std.proofs.Common.{◌≡◌, ℕ, ◌+◌, Bool, false, if◌then◌else◌, List, [], ◌∷◌, ◌++◌, refl, ap, sym, subst, ◌∙◌, append-nil, append_assoc}
use Rattle.ilasm_grammar.specs.declared.symbol.Symbol.TheVariants.{Nonterminal}
use Rattle.source_model.specs.Forest as f
use Rattle.listing_model.specs.Grown.{body_of, Grows}
use Rattle.listing_model.specs.Shown.{Item, size, star_production, star_below}
use Rattle.listing_reading.specs.Laws.{SearchesPass}
use Rattle.listing_reading.specs.Numbered.{numbered}
use Rattle.listing_reading.specs.Rows.{AreAmong, parts_at}
use Rattle.listing_rows.specs.Laws.{PiecesAreRead}
use Rattle.listing_rows.specs.Segments.{end_of, pieces_of, pieces_at, EachGrown, EachLacks}

row : (sought : List ℕ) (more end : ℕ) → f.is_among sought more ≡ false → f.is_among sought end ≡ false → (items : List Item) (at : ℕ) (after : f.Forest) →
    f.parts sought (f.branch (star_production more end items) (numbered at (star_below more end items)) after) ≡ pieces_at sought at items ++ f.parts sought after
row sought more end m e [] at after = ap (λ (c : Bool). (if c then f.part end f.none ∷ [] else []) ++ f.parts sought after) e
row sought more end m e (i ∷ is) at after =
    let next = at + size i.below in
    let others = f.branch (star_production more end is) (numbered next (star_below more end is)) f.none in
    let own = numbered at i.below in
    ap (λ (c : Bool). (if c then f.part more (f.branch i.production own others) ∷ [] else pieces_of sought at i ++ f.parts sought others) ++ f.parts sought after) m
    ∙ ap (λ ps. (pieces_of sought at i ++ ps) ++ f.parts sought after) (row sought more end m e is next f.none ∙ append-nil (pieces_at sought next is))

joined : (sought : List ℕ) (at : ℕ) (xs ys : List Item) → pieces_at sought at (xs ++ ys) ≡ pieces_at sought at xs ++ pieces_at sought (end_of at xs) ys
joined sought at [] ys = refl
joined sought at (x ∷ xs) ys =
    let next = at + size x.below in
    ap (λ ps. pieces_of sought at x ++ ps) (joined sought next xs ys)
    ∙ sym (append_assoc (pieces_of sought at x) (pieces_at sought next xs) (pieces_at sought (end_of next xs) ys))

all : (sought : List ℕ) (at : ℕ) (xs : List Item) → AreAmong sought xs → pieces_at sought at xs ≡ parts_at at xs
all sought at [] h = refl
all sought at (x ∷ xs) h =
    let next = at + size x.below in
    ap (λ c. (if c then f.part x.production (numbered at x.below) ∷ [] else f.parts sought (numbered at x.below)) ++ pieces_at sought next xs) h.0
    ∙ ap (λ ps. f.part x.production (numbered at x.below) ∷ ps) (all sought next xs h.1)

module _ (searches : SearchesPass) where
  none_there : (sought : List ℕ) (x at : ℕ) (xs : List Item) → EachGrown x xs → EachLacks sought xs → pieces_at sought at xs ≡ []
  none_there sought x at [] g h = refl
  none_there sought x at (i ∷ is) g h =
      let next = at + size i.below in
      ap (λ c. (if c then f.part i.production (numbered at i.below) ∷ [] else f.parts sought (numbered at i.below)) ++ pieces_at sought next is) h.0
      ∙ (ap (λ ps. ps ++ pieces_at sought next is) (searches.nothing sought (body_of i.production) h.1 i.below g.1 at) ∙ none_there sought x next is g.2 h.2)

grown : (x n more end : ℕ) → body_of more ≡ Nonterminal x ∷ Nonterminal n ∷ [] → (items : List Item) →
    Grows (body_of (star_production more end items)) (star_below more end items) → EachGrown x items
grown x n more end body [] g = tt
grown x n more end body (i ∷ is) g =
    let h = subst (λ b. Grows b (star_below more end (i ∷ is))) body g in
    (h.0, h.1, grown x n more end body is h.2.1)

each : (x : ℕ) (xs ys : List Item) → EachGrown x (xs ++ ys) → EachGrown x xs × EachGrown x ys
each x [] ys g = (tt, g)
each x (i ∷ is) ys g = let more = each x is ys g.2 in ((g.0, g.1, more.0), more.1)

lack : (sought : List ℕ) (xs ys : List Item) → EachLacks sought xs → EachLacks sought ys → EachLacks sought (xs ++ ys)
lack sought [] ys h k = k
lack sought (x ∷ xs) ys h k = (h.0, h.1, lack sought xs ys h.2 k)

pub pieces_are_read : SearchesPass → PiecesAreRead
pieces_are_read searches = record { row = row; joined = joined; all = all; none = none_there searches; grown = grown; each = each; lack = lack }
