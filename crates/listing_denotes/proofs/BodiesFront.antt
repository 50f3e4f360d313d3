-- What stands in the body of a method alone is sought in its body alone.
use Rattle.std.proofs.Common.{◌≡◌, ℕ, suc, nat_eq, Bool, true, false, cond, List, [], ◌∷◌, ◌++◌, map, length, take, refl, ap, ◌∙◌, append-nil}
use Rattle.std.specs.List.{flat_map}
use Rattle.ilasm_grammar.specs.Ilasm.{ilasm, rule_by}
use Rattle.ilasm_grammar.specs.declared.nonterminals.TheConstants as n
use Rattle.ilasm_grammar.specs.declared.productions.TheConstants as p
use Rattle.ilasm_grammar.specs.declared.symbol.Symbol.TheVariants.{Nonterminal}
use Rattle.type_terms.specs.declared.reference.MethodRef.{MethodRef}
use Rattle.assembly_tree.specs.declared.assembly.Assembly.{Assembly}
use Rattle.assembly_tree.specs.declared.assembly.ExternAssembly.{ExternAssembly}
use Rattle.assembly_tree.specs.declared.members.Attribute.{Attribute}
use Rattle.assembly_tree.specs.declared.members.Generic.{Generic}
use Rattle.assembly_tree.specs.declared.members.Method.{Method}
use Rattle.assembly_tree.specs.declared.members.Param.{Param}
use Rattle.source_model.specs.Forest as f
use Rattle.source_model.specs.Source.{Source}
use Rattle.listing_bodies.specs.Laws.{LacksIn}
use Rattle.listing_model.specs.Grown.{body_of, Grows}
use Rattle.listing_model.specs.Members.{typar_line, typar_lines}
use Rattle.listing_model.specs.Methods as written
use Rattle.listing_model.specs.Shown.{Shown, Item}
use Rattle.listing_model.specs.Values.{customs}
use Rattle.listing_reading.specs.Below.{cant_stand}
use Rattle.listing_reading.specs.Laws.{SearchesPass}
use Rattle.listing_reading.specs.Numbered.{numbered, Agrees, place}
use Rattle.listing_rows.specs.Laws.{SegmentsAreRead, PiecesAreRead}
use Rattle.listing_rows.specs.Segments.{end_of, ItemsAgree, pieces_at, EachGrown, EachLacks}

-- what is sought stands neither in the head of a method nor in items before its body
pub record FrontLacks (sought : List ℕ) : Type 0 where
  pub head : cant_stand sought (take 11 (body_of p.METHOD)) ≡ true
  pub custom : LacksIn sought p.ITEM_CUSTOM
  pub param : LacksIn sought p.ITEM_PARAM
  pub override : LacksIn sought p.ITEM_OVERRIDE
  pub entry : LacksIn sought p.ITEM_ENTRYPOINT
  pub more : f.is_among sought p.ITEM_STAR_MORE ≡ false
  pub end : f.is_among sought p.ITEM_STAR_END ≡ false

module _ (pieces : PiecesAreRead) (externs : List ExternAssembly) (sought : List ℕ) (l : FrontLacks sought) where
  customs_lack : (xs : List Attribute) → EachLacks sought (customs externs p.ITEM_CUSTOM xs)
  customs_lack [] = tt
  customs_lack (x ∷ xs) = (l.custom.own, l.custom.inside, customs_lack xs)

  typar_by : (c : Bool) (k : ℕ) (x : Generic) → EachLacks sought (cond c [] (written.typar_item k ∷ customs externs p.ITEM_CUSTOM x.attributes))
  typar_by true k x = tt
  typar_by false k x = (l.param.own, l.param.inside, customs_lack x.attributes)

  typars_lack : (k : ℕ) (gs : List Generic) → EachLacks sought (typar_lines externs written.typar_item p.ITEM_CUSTOM k gs)
  typars_lack k [] = tt
  typars_lack k (x ∷ gs) =
      pieces.lack sought (typar_line externs written.typar_item p.ITEM_CUSTOM k x) (typar_lines externs written.typar_item p.ITEM_CUSTOM (suc k) gs)
      (typar_by (nat_eq (length x.attributes) 0) k x) (typars_lack (suc k) gs)

  row_by : (c : Bool) (r : Param) → EachLacks sought (cond c (written.param_line r ∷ customs externs p.ITEM_CUSTOM r.attributes) [])
  row_by true r = (l.param.own, l.param.inside, customs_lack r.attributes)
  row_by false r = tt

  rows_lack : (rs : List Param) → EachLacks sought (flat_map (written.row_lines externs) rs)
  rows_lack [] = tt
  rows_lack (r ∷ rs) = pieces.lack sought (written.row_lines externs r) (flat_map (written.row_lines externs) rs) (row_by (written.wants_line r) r) (rows_lack rs)

  overrides_lack : (rs : List MethodRef) → EachLacks sought (map (written.override externs) rs)
  overrides_lack [] = tt
  overrides_lack (r ∷ rs) = (l.override.own, l.override.inside, overrides_lack rs)

  entry_lacks : (b : Bool) → EachLacks sought (written.entrypoint externs b)
  entry_lacks true = (l.entry.own, l.entry.inside, tt)
  entry_lacks false = tt

item_row : body_of p.ITEM_STAR_MORE ≡ Nonterminal n.ITEM ∷ Nonterminal n.ITEM_STAR ∷ []
unfolding ilasm rule_by
item_row = refl

module _ (searches : SearchesPass) (pieces : PiecesAreRead) (segments : SegmentsAreRead) (s : Source) (a : Assembly) (m : Method) (grown : Grows (body_of p.METHOD) (written.method a.externs m).below) (at : ℕ)
    (ag : Agrees s at (written.method a.externs m).below) where
  abbrev shown : Shown
  shown = (written.method a.externs m).below

  abbrev c_items : List Item
  c_items = customs a.externs p.ITEM_CUSTOM m.attributes

  abbrev t_items : List Item
  t_items = typar_lines a.externs written.typar_item p.ITEM_CUSTOM 1 m.generics

  abbrev r_items : List Item
  r_items = flat_map (written.row_lines a.externs) m.params

  abbrev o_items : List Item
  o_items = map (written.override a.externs) m.overrides

  abbrev e_items : List Item
  e_items = written.entrypoint a.externs m.entry

  abbrev b_items : List Item
  b_items = written.body_opt a.externs m.body

  abbrev items_at : ℕ
  items_at = place 11 at shown

  abbrev t_at : ℕ
  t_at = end_of items_at c_items

  abbrev r_at : ℕ
  r_at = end_of t_at t_items

  abbrev o_at : ℕ
  o_at = end_of r_at r_items

  abbrev e_at : ℕ
  e_at = end_of o_at o_items

  -- where the body begins
  abbrev pub body_at : ℕ
  body_at = end_of e_at e_items

  abbrev all_items : List Item
  all_items = c_items ++ (t_items ++ (r_items ++ (o_items ++ (e_items ++ b_items))))

  pub record Grew : Type 0 where
    pub c : EachGrown n.ITEM c_items
    pub t : EachGrown n.ITEM t_items
    pub r : EachGrown n.ITEM r_items
    pub o : EachGrown n.ITEM o_items
    pub e : EachGrown n.ITEM e_items
    pub b : EachGrown n.ITEM b_items

  grew : Grew
  unfolding ilasm rule_by written.method
  grew =
      let all = pieces.grown n.ITEM n.ITEM_STAR p.ITEM_STAR_MORE p.ITEM_STAR_END item_row all_items (searches.rest 11 (body_of p.METHOD) shown grown).1 in
      let one = pieces.each n.ITEM c_items (t_items ++ (r_items ++ (o_items ++ (e_items ++ b_items)))) all in
      let two = pieces.each n.ITEM t_items (r_items ++ (o_items ++ (e_items ++ b_items))) one.1 in
      let three = pieces.each n.ITEM r_items (o_items ++ (e_items ++ b_items)) two.1 in
      let four = pieces.each n.ITEM o_items (e_items ++ b_items) three.1 in
      let five = pieces.each n.ITEM e_items b_items four.1 in
      record { c = one.0; t = two.0; r = three.0; o = four.0; e = five.0; b = five.1 }

  -- the body has grown, and its tokens are there
  pub body_grown : EachGrown n.ITEM (written.body_opt a.externs m.body)
  body_grown = grew.b

  pub body_agrees : ItemsAgree s body_at (written.body_opt a.externs m.body)
  unfolding written.method
  body_agrees =
      let all = segments.row s p.ITEM_STAR_MORE p.ITEM_STAR_END all_items items_at ag.1.1.1.1.1.1.1.1.1.1.1.0 in
      let one = segments.agree s items_at c_items (t_items ++ (r_items ++ (o_items ++ (e_items ++ b_items)))) all in
      let two = segments.agree s t_at t_items (r_items ++ (o_items ++ (e_items ++ b_items))) one.1 in
      let three = segments.agree s r_at r_items (o_items ++ (e_items ++ b_items)) two.1 in
      let four = segments.agree s o_at o_items (e_items ++ b_items) three.1 in
      (segments.agree s e_at e_items b_items four.1).1

  in_items : (sought : List ℕ) → cant_stand sought (take 11 (body_of p.METHOD)) ≡ true → f.is_among sought p.ITEM_STAR_MORE ≡ false → f.is_among sought p.ITEM_STAR_END ≡ false →
      f.parts sought (numbered at shown)
      ≡ pieces_at sought items_at c_items ++ (pieces_at sought t_at t_items ++ (pieces_at sought r_at r_items ++ (pieces_at sought o_at o_items ++ (pieces_at sought e_at e_items ++ pieces_at sought body_at b_items))))
  unfolding ilasm rule_by written.method
  in_items sought head more end =
      searches.parts sought 11 (body_of p.METHOD) head shown grown at
      ∙ (pieces.row sought p.ITEM_STAR_MORE p.ITEM_STAR_END more end all_items items_at (f.leaf (place 12 at shown) f.none)
      ∙ (append-nil (pieces_at sought items_at all_items)
      ∙ (pieces.joined sought items_at c_items (t_items ++ (r_items ++ (o_items ++ (e_items ++ b_items))))
      ∙ ap (λ ps. pieces_at sought items_at c_items ++ ps)
      (pieces.joined sought t_at t_items (r_items ++ (o_items ++ (e_items ++ b_items)))
      ∙ ap (λ ps. pieces_at sought t_at t_items ++ ps)
      (pieces.joined sought r_at r_items (o_items ++ (e_items ++ b_items))
      ∙ ap (λ ps. pieces_at sought r_at r_items ++ ps)
      (pieces.joined sought o_at o_items (e_items ++ b_items) ∙ ap (λ ps. pieces_at sought o_at o_items ++ ps) (pieces.joined sought e_at e_items b_items)))))))

  pub only_body : (sought : List ℕ) → FrontLacks sought → f.parts sought (numbered at (written.method a.externs m).below) ≡ pieces_at sought body_at (written.body_opt a.externs m.body)
  only_body sought l =
      let body = pieces_at sought body_at b_items in
      let no1 = pieces.none sought n.ITEM items_at c_items grew.c (customs_lack pieces a.externs sought l m.attributes) in
      let no2 = pieces.none sought n.ITEM t_at t_items grew.t (typars_lack pieces a.externs sought l 1 m.generics) in
      let no3 = pieces.none sought n.ITEM r_at r_items grew.r (rows_lack pieces a.externs sought l m.params) in
      let no4 = pieces.none sought n.ITEM o_at o_items grew.o (overrides_lack pieces a.externs sought l m.overrides) in
      let no5 = pieces.none sought n.ITEM e_at e_items grew.e (entry_lacks pieces a.externs sought l m.entry) in
      in_items sought l.head l.more l.end ∙ (λ i. no1 i ++ (no2 i ++ (no3 i ++ (no4 i ++ (no5 i ++ body)))))
