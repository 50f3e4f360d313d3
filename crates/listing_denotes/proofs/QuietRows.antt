-- A row breaks no rule where none of its items does.
use Rattle.std.proofs.Common.{◌≡◌, ℕ, zero, suc, ◌+◌, ◌&&◌, nat_eq, Bool, true, false, if◌then◌else◌, List, [], ◌∷◌, ◌++◌, take, refl, ap, sym, subst, ◌∙◌}
use Rattle.std.proofs.lemmas.Bool.{and_parts, eqb-true, false≢true}
use Rattle.ilasm_grammar.specs.declared.productions.TheConstants as p
use Rattle.ilasm_grammar.specs.declared.symbol.Symbol.{Symbol}
use Rattle.ilasm_grammar.specs.declared.symbol.Symbol.TheVariants.{Terminal, Nonterminal}
use Rattle.source_model.specs.Forest as f
use Rattle.source_model.specs.Nodes.{Around, Node, nodes_in, entered, type_id, class_token}
use Rattle.source_model.specs.Source.{Source}
use Rattle.faultless_nodes.specs.Laws.{EachBreaksNothing, asked, UnaskedBreakNothing}
use Rattle.listing_model.specs.Grown.{body_of, Grows}
use Rattle.listing_model.specs.Shown.{Shown, Item, size, star_production, star_below}
use Rattle.listing_model.specs.Shown.{Shown as shown}
use Rattle.listing_reading.specs.Below.{below, are_apart_from, cant_stand}
use Rattle.listing_reading.specs.Laws.{SearchesPass}
use Rattle.listing_reading.specs.Numbered.{numbered, rest, place}
use Rattle.listing_rows.specs.Segments.{end_of, EachGrown, EachLacks}
use Rattle.listing_denotes.specs.Quiet.{ItemsBreakNothing, RowsBreakNothing}

-- ---- what is asked is neither of these

apart_of : (q x : ℕ) → f.is_among asked q ≡ false → f.is_among asked x ≡ true → nat_eq q x ≡ false
apart_of q x e i = by (nat_eq q x) refl
  where
    by : (c : Bool) → nat_eq q x ≡ c → nat_eq q x ≡ false
    by true h = let there : f.is_among asked q ≡ true = subst (λ y. f.is_among asked y ≡ true) (sym (eqb-true q x h)) i in absurd (false≢true (sym e ∙ there))
    by false h = h

-- a production that isn't asked leaves what surrounds it as it is
pub stays : (s : Source) (a : Around) (q : ℕ) (b : f.Forest) → f.is_among asked q ≡ false → entered s a q b ≡ a
stays s a q b e =
    ap (λ (x : Bool). if x then record { path = a.path ++ type_id s (class_token b) ∷ []; class = b; method = f.none } else if nat_eq q p.METHOD then record { path = a.path; class = a.class; method = b } else a) (apart_of q p.CLASS e refl)
    ∙ ap (λ (x : Bool). if x then record { path = a.path; class = a.class; method = b } else a) (apart_of q p.METHOD e refl)

-- ---- lists of productions

module _ (s : Source) where
  pub each_join : (xs ys : List Node) → EachBreaksNothing s xs → EachBreaksNothing s ys → EachBreaksNothing s (xs ++ ys)
  each_join [] ys h k = k
  each_join (x ∷ xs) ys h k = (h.0, each_join xs ys h.1 k)

  pub each_front : (xs ys : List Node) → EachBreaksNothing s (xs ++ ys) → EachBreaksNothing s xs
  each_front [] ys h = tt
  each_front (x ∷ xs) ys h = (h.0, each_front xs ys h.1)

  pub each_behind : (xs ys : List Node) → EachBreaksNothing s (xs ++ ys) → EachBreaksNothing s ys
  each_behind [] ys h = h
  each_behind (x ∷ xs) ys h = each_behind xs ys h.1

module _ (unasked : UnaskedBreakNothing) (s : Source) (a : Around) where
  -- one that isn't asked, what stands below it, and what stands behind it
  pub over : (q : ℕ) (b after : f.Forest) → f.is_among asked q ≡ false → EachBreaksNothing s (nodes_in s a b) → EachBreaksNothing s (nodes_in s a after) →
      EachBreaksNothing s (nodes_in s a (f.branch q b after))
  over q b after e inside behind =
      unasked.branch s a q b after (unasked.node s (record { production = q; below = b; around = entered s a q b }) e)
      (subst (λ (x : Around). EachBreaksNothing s (nodes_in s x b)) (sym (stays s a q b e)) inside) behind

  -- what stands behind a production stands apart
  pub behind_it : (q : ℕ) (b after : f.Forest) → EachBreaksNothing s (nodes_in s a (f.branch q b f.none)) → EachBreaksNothing s (nodes_in s a after) →
      EachBreaksNothing s (nodes_in s a (f.branch q b after))
  behind_it q b after h k =
      let inner = nodes_in s (entered s a q b) b in (h.0, each_join s inner (nodes_in s a after) (each_front s inner [] h.1) k)

  row : (more end : ℕ) → f.is_among asked more ≡ false → f.is_among asked end ≡ false → (items : List Item) (at : ℕ) (after : f.Forest) →
      ItemsBreakNothing s a at items → EachBreaksNothing s (nodes_in s a after) →
      EachBreaksNothing s (nodes_in s a (f.branch (star_production more end items) (numbered at (star_below more end items)) after))
  row more end m e [] at after h k = over end f.none after e tt k
  row more end m e (i ∷ is) at after h k =
      let next = at + size i.below in
      let own = numbered at i.below in
      let others = f.branch (star_production more end is) (numbered next (star_below more end is)) f.none in
      over more (f.branch i.production own others) after m (behind_it i.production own others h.0 (row more end m e is next f.none h.1 tt)) k

  joined : (at : ℕ) (xs ys : List Item) → ItemsBreakNothing s a at xs → ItemsBreakNothing s a (end_of at xs) ys → ItemsBreakNothing s a at (xs ++ ys)
  joined at [] ys h k = k
  joined at (x ∷ xs) ys h k = (h.0, joined (at + size x.below) xs ys h.1 k)

  module _ (searches : SearchesPass) where
    quiet : (x at : ℕ) (xs : List Item) → EachGrown x xs → EachLacks asked xs → ItemsBreakNothing s a at xs
    quiet x at [] g h = tt
    quiet x at (i ∷ is) g h =
        let own = numbered at i.below in
        let inside = unasked.forest s a own (searches.nothing asked (body_of i.production) h.1 i.below g.1 at) in
        (over i.production own f.none h.0 inside tt, quiet x (at + size i.below) is g.2 h.2)

    past : (k : ℕ) (symbols : List Symbol) → cant_stand asked (take k symbols) ≡ true → (g : Shown) → Grows symbols g → (at : ℕ) →
        EachBreaksNothing s (nodes_in s a (numbered (place k at g) (rest k g))) → EachBreaksNothing s (nodes_in s a (numbered at g))
    past zero symbols c g h at e = e
    past (suc k) symbols c shown.none h at e = tt
    past (suc k) [] c (shown.leaf l after) h at e = absurd h
    past (suc k) [] c (shown.branch q b after) h at e = absurd h
    past (suc k) (Terminal t ∷ more) c (shown.leaf l after) h at e = past k more c after h.1 (suc at) e
    past (suc k) (Terminal t ∷ more) c (shown.branch q b after) h at e = absurd h
    past (suc k) (Nonterminal m ∷ more) c (shown.leaf l after) h at e = absurd h
    past (suc k) (Nonterminal m ∷ more) c (shown.branch q b after) h at e =
        let cs = and_parts (are_apart_from (below m) asked) (cant_stand asked (take k more)) c in
        let alone = searches.nothing asked (Nonterminal m ∷ []) (both (are_apart_from (below m) asked) true cs.0 refl) (shown.branch q b shown.none) (h.0, h.1, tt) at in
        behind_it q (numbered at b) (numbered (at + size b) after) (unasked.forest s a (f.branch q (numbered at b) f.none) alone) (past k more cs.1 after h.2 (at + size b) e)
      where
        both : (x y : Bool) → x ≡ true → y ≡ true → (x && y) ≡ true
        both true y i j = j
        both false y i j = i

pub rows_break_nothing : UnaskedBreakNothing → SearchesPass → RowsBreakNothing
rows_break_nothing unasked searches = record {
  row = λ s a more end m e items at after h k. row unasked s a more end m e items at after h k;
  joined = λ s a at xs ys h k. joined unasked s a at xs ys h k;
  quiet = λ s a x at xs g h. quiet unasked s a searches x at xs g h;
  past = λ s a k symbols c g h at e. past unasked s a searches k symbols c g h at e;
}
