-- Methods have `.entrypoint` as often as they say.
use Rattle.std.proofs.Common.{◌≡◌, ℕ, suc, ◌+◌, nat_eq, Bool, true, false, cond, List, [], ◌∷◌, ◌++◌, map, take, length, length-append, Option, None, Some, if◌then◌else◌, refl, ap, subst, ◌∙◌, append-nil, arith}
use Rattle.std.proofs.lemmas.List.Sums.{sum_by-cons}
use Rattle.std.specs.List.{flat_map}
use Rattle.ilasm_grammar.specs.Ilasm.{ilasm, rule_by, has_bit}
use Rattle.ilasm_grammar.specs.declared.nonterminals.TheConstants as n
use Rattle.ilasm_grammar.specs.declared.productions.TheConstants as p
use Rattle.ilasm_grammar.specs.declared.symbol.Symbol.TheVariants.{Nonterminal}
use Rattle.type_terms.specs.declared.reference.MethodRef.{MethodRef}
use Rattle.assembly_tree.specs.WellFormedTypes.{entries_in}
use Rattle.assembly_tree.specs.declared.assembly.Assembly.{Assembly}
use Rattle.assembly_tree.specs.declared.assembly.ExternAssembly.{ExternAssembly}
use Rattle.assembly_tree.specs.declared.body.Body.{Body}
use Rattle.assembly_tree.specs.declared.members.Attribute.{Attribute}
use Rattle.assembly_tree.specs.declared.members.Generic.{Generic}
use Rattle.assembly_tree.specs.declared.members.Method.{Method}
use Rattle.assembly_tree.specs.declared.members.Param.{Param}
use Rattle.source_model.specs.Forest as f
use Rattle.listing_bodies.specs.Laws.{LacksIn, PassesClauses, LinesLack}
use Rattle.listing_groups.specs.Laws.{method_items}
use Rattle.listing_model.specs.Grown.{body_of, Grows}
use Rattle.listing_model.specs.Members.{typar_line, typar_lines}
use Rattle.listing_model.specs.Methods as written
use Rattle.listing_model.specs.Shown.{none, put, Item, size}
use Rattle.listing_model.specs.Values.{customs}
use Rattle.listing_reading.specs.Below.{below, cant_stand}
use Rattle.listing_reading.specs.BelowMasks.{below_masks}
use Rattle.listing_reading.specs.Laws.{SearchesPass}
use Rattle.listing_reading.specs.Numbered.{numbered, rest, place}
use Rattle.listing_rows.specs.Laws.{PiecesAreRead}
use Rattle.listing_rows.specs.Segments.{end_of, pieces_at, EachGrown, EachLacks}
use Rattle.listing_denotes.specs.Entries.{entry_parts}

pub record NoEntry : Type 0 where
  pub head : cant_stand entry_parts (take 11 (body_of p.METHOD)) ≡ true
  pub custom : LacksIn entry_parts p.ITEM_CUSTOM
  pub param : LacksIn entry_parts p.ITEM_PARAM
  pub override : LacksIn entry_parts p.ITEM_OVERRIDE
  pub bound : LacksIn entry_parts p.ITEM_MAXSTACK
  pub locals : LacksIn entry_parts p.ITEM_LOCALS
  pub label : LacksIn entry_parts p.ITEM_NAME
  pub code : LacksIn entry_parts p.ITEM_INSTRUCTION
  pub clauses : PassesClauses entry_parts

no_entry : NoEntry
unfolding ilasm rule_by has_bit below below_masks
no_entry = record {
  head = refl;
  custom = record { own = refl; inside = refl };
  param = record { own = refl; inside = refl };
  override = record { own = refl; inside = refl };
  bound = record { own = refl; inside = refl };
  locals = record { own = refl; inside = refl };
  label = record { own = refl; inside = refl };
  code = record { own = refl; inside = refl };
  clauses = record { range = refl; catch = refl; filter = refl; finally = refl; fault = refl; filter_start = refl; handler = refl; end = refl; owners = refl };
}

module _ (pieces : PiecesAreRead) (externs : List ExternAssembly) where
  customs_lack : (xs : List Attribute) → EachLacks entry_parts (customs externs p.ITEM_CUSTOM xs)
  customs_lack [] = tt
  customs_lack (x ∷ xs) = (no_entry.custom.own, no_entry.custom.inside, customs_lack xs)

  typar_by : (c : Bool) (k : ℕ) (x : Generic) → EachLacks entry_parts (cond c [] (written.typar_item k ∷ customs externs p.ITEM_CUSTOM x.attributes))
  typar_by true k x = tt
  typar_by false k x = (no_entry.param.own, no_entry.param.inside, customs_lack x.attributes)

  typars_lack : (k : ℕ) (gs : List Generic) → EachLacks entry_parts (typar_lines externs written.typar_item p.ITEM_CUSTOM k gs)
  typars_lack k [] = tt
  typars_lack k (x ∷ gs) =
      pieces.lack entry_parts (typar_line externs written.typar_item p.ITEM_CUSTOM k x) (typar_lines externs written.typar_item p.ITEM_CUSTOM (suc k) gs)
      (typar_by (nat_eq (length x.attributes) 0) k x) (typars_lack (suc k) gs)

  row_by : (c : Bool) (r : Param) → EachLacks entry_parts (cond c (written.param_line r ∷ customs externs p.ITEM_CUSTOM r.attributes) [])
  row_by true r = (no_entry.param.own, no_entry.param.inside, customs_lack r.attributes)
  row_by false r = tt

  rows_lack : (rs : List Param) → EachLacks entry_parts (flat_map (written.row_lines externs) rs)
  rows_lack [] = tt
  rows_lack (r ∷ rs) = pieces.lack entry_parts (written.row_lines externs r) (flat_map (written.row_lines externs) rs) (row_by (written.wants_line r) r) (rows_lack rs)

  overrides_lack : (rs : List MethodRef) → EachLacks entry_parts (map (written.override externs) rs)
  overrides_lack [] = tt
  overrides_lack (r ∷ rs) = (no_entry.override.own, no_entry.override.inside, overrides_lack rs)

module _ (searches : SearchesPass) (pieces : PiecesAreRead) (lines : LinesLack) (a : Assembly) where
  -- a segment without any, and those behind it
  pub past_segment : (x : ℕ) (xs ys : List Item) (j : ℕ) → EachLacks entry_parts xs → EachGrown x (xs ++ ys) → (pieces_at entry_parts j (xs ++ ys) ≡ pieces_at entry_parts (end_of j xs) ys) × EachGrown x ys
  past_segment x xs ys j lack grew =
      let gs = pieces.each x xs ys grew in
      (pieces.joined entry_parts j xs ys ∙ ap (λ ps. ps ++ pieces_at entry_parts (end_of j xs) ys) (pieces.none entry_parts x j xs gs.0 lack), gs.1)

  abbrev as_said : Bool → ℕ
  as_said c = cond c 1 0

  said_by : (c : Bool) (j : ℕ) → length (pieces_at entry_parts j (written.entrypoint a.externs c)) ≡ as_said c
  said_by true j = refl
  said_by false j = refl

  body_none : (b : Option Body) (j : ℕ) → EachGrown n.ITEM (written.body_opt a.externs b) → pieces_at entry_parts j (written.body_opt a.externs b) ≡ []
  body_none None j grew = refl
  body_none (Some b) j grew = lines.body a b entry_parts no_entry.clauses refl no_entry.bound no_entry.locals no_entry.label no_entry.code grew j

  items_count : (m : Method) (j : ℕ) → EachGrown n.ITEM (written.method_items a.externs m) → length (pieces_at entry_parts j (written.method_items a.externs m)) ≡ as_said m.entry
  items_count m j grew =
      let is1 = customs a.externs p.ITEM_CUSTOM m.attributes in
      let is2 = typar_lines a.externs written.typar_item p.ITEM_CUSTOM 1 m.generics in
      let is3 = flat_map (written.row_lines a.externs) m.params in
      let is4 = map (written.override a.externs) m.overrides in
      let is5 = written.entrypoint a.externs m.entry in
      let is6 = written.body_opt a.externs m.body in
      let e5 = is5 ++ is6 in
      let e4 = is4 ++ e5 in
      let e3 = is3 ++ e4 in
      let e2 = is2 ++ e3 in
      let p1 = past_segment n.ITEM is1 e2 j (customs_lack pieces a.externs m.attributes) grew in
      let j2 = end_of j is1 in
      let p2 = past_segment n.ITEM is2 e3 j2 (typars_lack pieces a.externs 1 m.generics) p1.1 in
      let j3 = end_of j2 is2 in
      let p3 = past_segment n.ITEM is3 e4 j3 (rows_lack pieces a.externs m.params) p2.1 in
      let j4 = end_of j3 is3 in
      let p4 = past_segment n.ITEM is4 e5 j4 (overrides_lack pieces a.externs m.overrides) p3.1 in
      let j5 = end_of j4 is4 in
      let j6 = end_of j5 is5 in
      let gs = pieces.each n.ITEM is5 is6 p4.1 in
      let own = pieces_at entry_parts j5 is5 in
      ap (λ ps. length ps)
      (p1.0 ∙ (p2.0 ∙ (p3.0 ∙ (p4.0 ∙ (pieces.joined entry_parts j5 is5 is6 ∙ (ap (λ ps. own ++ ps) (body_none m.body j6 gs.1) ∙ append-nil own))))))
      ∙ said_by m.entry j5

  method_count : (m : Method) → Grows (body_of p.METHOD) (written.method a.externs m).below → (at : ℕ) → length (f.parts entry_parts (numbered at (written.method a.externs m).below)) ≡ as_said m.entry
  unfolding written.method ilasm rule_by
  method_count m grown at =
      let shown = (written.method a.externs m).below in
      let from = place 11 at shown in
      let items = written.method_items a.externs m in
      let grew = pieces.grown n.ITEM n.ITEM_STAR p.ITEM_STAR_MORE p.ITEM_STAR_END refl items (searches.rest 11 (body_of p.METHOD) shown grown).1 in
      ap (λ ps. length ps)
      (searches.parts entry_parts 11 (body_of p.METHOD) no_entry.head shown grown at
      ∙ (pieces.row entry_parts p.ITEM_STAR_MORE p.ITEM_STAR_END refl refl items from (numbered (place 12 at shown) (rest 12 shown)) ∙ append-nil (pieces_at entry_parts from items)))
      ∙ items_count m from grew

  -- ---- one after another, each below a production that holds it

  one_count : (m : Method) → Grows (Nonterminal n.METHOD ∷ []) (put (written.method a.externs m) none) → (at : ℕ) →
      length (f.parts entry_parts (numbered at (put (written.method a.externs m) none))) ≡ as_said m.entry
  unfolding written.method
  one_count m grown at = ap (λ ps. length ps) (append-nil (f.parts entry_parts (numbered at (written.method a.externs m).below))) ∙ method_count m grown.1 at

  pub methods_count : (production x : ℕ) → f.is_among entry_parts production ≡ false → body_of production ≡ Nonterminal n.METHOD ∷ [] → (ms : List Method) →
      EachGrown x (method_items a.externs production ms) → (at : ℕ) → length (pieces_at entry_parts at (method_items a.externs production ms)) ≡ entries_in ms
  methods_count production x apart body [] grown at = refl
  methods_count production x apart body (m ∷ ms) grown at =
      let shown = put (written.method a.externs m) none in
      let own = f.parts entry_parts (numbered at shown) in
      let behind = pieces_at entry_parts (at + size shown) (method_items a.externs production ms) in
      let first : length own ≡ as_said m.entry = one_count m (subst (λ b. Grows b shown) body grown.1) at in
      let later = methods_count production x apart body ms grown.2 (at + size shown) in
      let joined = length-append own behind in
      let more = sum_by-cons (λ (x : Method). cond x.entry 1 0) m ms in
      let all : length (own ++ behind) ≡ entries_in (m ∷ ms) = omega arith in
      ap (λ c. length ((if c then f.part production (numbered at shown) ∷ [] else own) ++ behind)) apart ∙ all
