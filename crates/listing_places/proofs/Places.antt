-- The classes of a listing are the types of the tree.
use Rattle.std.proofs.Common.{◌≡◌, ℕ, zero, suc, ◌+◌, Bool, true, false, if◌then◌else◌, List, [], ◌∷◌, ◌++◌, map, take, length, refl, ap, sym, subst, ◌∙◌, append-nil}
use Rattle.std.proofs.lemmas.List.{map-append}
use Rattle.ilasm_grammar.specs.Ilasm.{ilasm, rule_by, has_bit}
use Rattle.ilasm_grammar.specs.declared.nonterminals.TheConstants as n
use Rattle.ilasm_grammar.specs.declared.productions.TheConstants as p
use Rattle.ilasm_grammar.specs.declared.symbol.Symbol.TheVariants.{Nonterminal}
use Rattle.type_terms.specs.declared.name.TypeId.{TypeId}
use Rattle.assembly_tree.specs.declared.assembly.Assembly.{Assembly}
use Rattle.assembly_tree.specs.declared.typedef.TypeDef.{TypeDef}
use Rattle.assembly_tree.specs.declared.typedef.TypeDef.TheFolds.{fold_out-TypeDef}
use Rattle.assembly_tree.specs.declared.typedef.TypeDef.TheViews.{out-TypeDef}
use Rattle.source_model.specs.Data.{layout}
use Rattle.source_model.specs.Forest as f
use Rattle.source_model.specs.Items.{members}
use Rattle.source_model.specs.Names.{classes}
use Rattle.source_model.specs.Nodes.{Around, nodes, nothing_around, entered}
use Rattle.source_model.specs.Source.{Source}
use Rattle.listing_class_heads.specs.Laws.{Head, class_shown, ClassHeadsAreRead}
use Rattle.listing_classes.specs.Laws.{layout_in, members_place, ClassBodiesAreRead, ClassMembersAreRead}
use Rattle.listing_groups.specs.Laws.{method_items, property_items, event_items}
use Rattle.listing_growth.specs.Laws.{CanonStands}
use Rattle.listing_model.specs.Canon.{canon, contents}
use Rattle.listing_model.specs.Canon as written
use Rattle.listing_model.specs.Classes.{ClassShown, all_contents, classes_from, layout_lines, typar_member, class_members, class_step, class}
use Rattle.listing_model.specs.Grown.{body_of, Grows}
use Rattle.listing_model.specs.Manifests.{manifest_lines}
use Rattle.listing_model.specs.Members.{fields, field_contents, typar_lines}
use Rattle.listing_model.specs.Shown.{Shown, none, put, Item, size}
use Rattle.listing_model.specs.Values.{customs}
use Rattle.listing_reading.specs.Below.{below, cant_stand}
use Rattle.listing_reading.specs.BelowMasks.{below_masks}
use Rattle.listing_reading.specs.Laws.{SearchesPass}
use Rattle.listing_reading.specs.Numbered.{numbered, Agrees, rest, place}
use Rattle.listing_rows.specs.Laws.{class_parts, SegmentsAreRead, PiecesAreRead}
use Rattle.listing_rows.specs.Segments.{end_of, ItemsAgree, pieces_at, EachGrown, EachLacks}
use Rattle.listing_nesting.specs.Laws.{AreNested, head_of_type, opened, IsNested, EachNested, TypesAreFormed, MembersLack}
use Rattle.listing_nesting.proofs.Lacks.{lack_lines, lack_customs, lack_typars, lack_fields, lack_methods, lack_properties, lack_events}
use Rattle.listing_declarations.specs.Laws.{IsListingOf, extern_items, manifest_items, type_items, field_items, global_items, data_items, manifest_place, types_place, fields_place, methods_place, data_place, HasDeclarations, DeclarationsAreRead}
use Rattle.listing_declarations.proofs.Elsewhere.{IsWithout, fields_lack, methods_lack, data_lack, externs_lack, IsNoLine, lines_lack}
use Rattle.listing_data.specs.Laws.{TypesStand}
use Rattle.type_places.specs.Places.{Placed, places_step, places_of, places}
use Rattle.listing_places.specs.Laws.{place_of, PlacesAreRead}
use Rattle.listing_places.proofs.Nodes.{class_nodes, part_nodes, nodes_of_parts, parts_join, by_parts}

-- ---- where types stand

pub record NoType : Type 0 where
  pub members : MembersLack class_parts
  pub head : cant_stand class_parts (take 7 (body_of p.CLASS)) ≡ true
  pub nested : body_of p.MEMBER_CLASS ≡ Nonterminal n.CLASS ∷ []
  pub top : body_of p.DECL_CLASS ≡ Nonterminal n.CLASS ∷ []
  pub externs : IsWithout class_parts p.DECL_ASSEMBLY
  pub lines : IsNoLine class_parts
  pub fields : IsWithout class_parts p.DECL_FIELD
  pub customs : IsWithout class_parts p.DECL_CUSTOM
  pub methods : IsWithout class_parts p.DECL_METHOD
  pub contents : IsWithout class_parts p.DECL_DATA

no_type : NoType
unfolding ilasm rule_by has_bit below below_masks
no_type = record {
  members = record {
    others = record { pack = (refl, refl); size = (refl, refl); custom = (refl, refl); param = (refl, refl); field = (refl, refl); property = (refl, refl); event = (refl, refl) };
    method = (refl, refl);
  };
  head = refl;
  nested = refl;
  top = refl;
  externs = record { own = refl; body = refl };
  lines = record {
    names = record { own = refl; body = refl };
    customs = record { own = refl; body = refl };
    bases = record { own = refl; body = refl };
    alignments = record { own = refl; body = refl };
    stacks = record { own = refl; body = refl };
    subsystems = record { own = refl; body = refl };
    cor_flags = record { own = refl; body = refl };
  };
  fields = record { own = refl; body = refl };
  customs = record { own = refl; body = refl };
  methods = record { own = refl; body = refl };
  contents = record { own = refl; body = refl };
}

pub record PlaceLaws : Type 0 where
  pub searches : SearchesPass
  pub segments : SegmentsAreRead
  pub pieces : PiecesAreRead
  pub heads : ClassHeadsAreRead
  pub bodies : ClassBodiesAreRead
  pub members : ClassMembersAreRead
  pub formed : TypesAreFormed

module _ (laws : PlaceLaws) (s : Source) (a : Assembly) where
  -- the places of classes that are parts
  abbrev places_in : Around → List f.Part → List Placed
  places_in around ps = map (place_of s) (nodes_of_parts s around ps)

  places_join : (around : Around) (xs ys : List f.Part) → places_in around (xs ++ ys) ≡ places_in around xs ++ places_in around ys
  places_join around xs ys = ap (map (place_of s)) (parts_join s around xs ys) ∙ map-append (place_of s) (nodes_of_parts s around xs) (nodes_of_parts s around ys)

  abbrev RowPlaced : List TypeId → List TypeDef → Type 0
  RowPlaced outer ts =
      (around : Around) → around.path ≡ outer → (production x : ℕ) → body_of production ≡ Nonterminal n.CLASS ∷ [] → f.is_among class_parts production ≡ false → (k at : ℕ) →
      EachGrown x (classes_from production outer k (map (class a.externs) ts)) → ItemsAgree s at (classes_from production outer k (map (class a.externs) ts)) →
      places_in around (pieces_at class_parts at (classes_from production outer k (map (class a.externs) ts))) ≡ places outer ts

  -- ---- one type

  module _ (top : Bool) (depth : ℕ) (outer : List TypeId) (t : TypeDef) (nested : IsNested a top depth outer t) (inner_placed : RowPlaced (outer ++ (out-TypeDef t).id ∷ []) (out-TypeDef t).nested) (around : Around) (is_outer : around.path ≡ outer) (k at : ℕ) where
    abbrev path : List TypeId
    path = outer ++ (out-TypeDef t).id ∷ []

    abbrev head : Head
    head = head_of_type t

    abbrev items : List Item
    items = class_members a.externs (opened a.externs t) path k

    abbrev shown : Shown
    shown = class_shown a.externs head items

    abbrev g : f.Forest
    g = numbered at shown

    abbrev inside : Around
    inside = entered s around p.CLASS g

    abbrev from : ℕ
    from = members_place a.externs head items at

    module _ (grown : Grows (body_of p.CLASS) shown) (ag : Agrees s at shown) where
      path_is : inside.path ≡ path
      path_is i = is_outer i ++ laws.heads.ids s a head nested.head items grown at ag i ∷ []

      items_agree : ItemsAgree s from items
      items_agree = laws.bodies.agree s a.externs head items at ag

      layout_is : layout s g ≡ (out-TypeDef t).layout
      layout_is =
          ap (layout_in s) (laws.bodies.parts a.externs head items (laws.bodies.among a.externs (opened a.externs t) path k) grown at)
          ∙ laws.members.layout s a path (opened a.externs t) nested.members k from items_agree

      past_segment : (xs ys : List Item) (j : ℕ) → EachLacks class_parts xs → EachGrown n.MEMBER (xs ++ ys) → ItemsAgree s j (xs ++ ys) →
          (pieces_at class_parts j (xs ++ ys) ≡ pieces_at class_parts (end_of j xs) ys) × EachGrown n.MEMBER ys × ItemsAgree s (end_of j xs) ys
      past_segment xs ys j lack grew agree =
          let gs = laws.pieces.each n.MEMBER xs ys grew in (
            laws.pieces.joined class_parts j xs ys ∙ ap (λ ps. ps ++ pieces_at class_parts (end_of j xs) ys) (laws.pieces.none class_parts n.MEMBER j xs gs.0 lack),
            gs.1,
            (laws.segments.agree s j xs ys agree).1,
          )

      members_placed : places_in inside (pieces_at class_parts from items) ≡ places path (out-TypeDef t).nested
      members_placed =
          let o = out-TypeDef t in
          let w = no_type.members.others in
          let is1 = layout_lines o.layout in
          let is2 = customs a.externs p.MEMBER_CUSTOM o.attributes in
          let is3 = typar_lines a.externs typar_member p.MEMBER_CUSTOM 1 o.generics in
          let is4 = fields a.externs p.MEMBER_FIELD p.MEMBER_CUSTOM k o.fields in
          let is5 = method_items a.externs p.MEMBER_METHOD o.methods in
          let is6 = property_items a.externs path o.methods o.properties in
          let is7 = event_items a.externs path o.methods o.events in
          let is8 = classes_from p.MEMBER_CLASS path (k + length (field_contents o.fields)) (map (class a.externs) o.nested) in
          let e7 = is7 ++ is8 in
          let e6 = is6 ++ e7 in
          let e5 = is5 ++ e6 in
          let e4 = is4 ++ e5 in
          let e3 = is3 ++ e4 in
          let e2 = is2 ++ e3 in
          let p1 = past_segment is1 e2 from (lack_lines class_parts w laws.pieces a.externs o.layout) (laws.bodies.grown a.externs head items grown) items_agree in
          let j2 = end_of from is1 in
          let p2 = past_segment is2 e3 j2 (lack_customs class_parts w laws.pieces a.externs o.attributes) p1.1 p1.2 in
          let j3 = end_of j2 is2 in
          let p3 = past_segment is3 e4 j3 (lack_typars class_parts w laws.pieces a.externs o.generics 1) p2.1 p2.2 in
          let j4 = end_of j3 is3 in
          let p4 = past_segment is4 e5 j4 (lack_fields class_parts w laws.pieces a.externs o.fields k) p3.1 p3.2 in
          let j5 = end_of j4 is4 in
          let p5 = past_segment is5 e6 j5 (lack_methods class_parts no_type.members.method a.externs o.methods) p4.1 p4.2 in
          let j6 = end_of j5 is5 in
          let p6 = past_segment is6 e7 j6 (lack_properties class_parts w laws.pieces a.externs path o.methods o.properties) p5.1 p5.2 in
          let j7 = end_of j6 is6 in
          let p7 = past_segment is7 is8 j7 (lack_events class_parts w laws.pieces a.externs path o.methods o.events) p6.1 p6.2 in
          ap (places_in inside) (p1.0 ∙ (p2.0 ∙ (p3.0 ∙ (p4.0 ∙ (p5.0 ∙ (p6.0 ∙ p7.0))))))
          ∙ inner_placed inside path_is p.MEMBER_CLASS n.MEMBER no_type.nested refl (k + length (field_contents o.fields)) (end_of j7 is7) p7.1 p7.2

      inner_places : map (place_of s) (class_nodes s inside g) ≡ places path (out-TypeDef t).nested
      inner_places =
          ap (map (place_of s)) (by_parts s laws.searches (body_of p.CLASS) shown grown inside at)
          ∙ (ap (places_in inside)
          (laws.searches.parts class_parts 7 (body_of p.CLASS) no_type.head shown grown at
          ∙ (laws.pieces.row class_parts p.MEMBER_STAR_MORE p.MEMBER_STAR_END refl refl items from (numbered (place 8 at shown) (rest 8 shown)) ∙ append-nil (pieces_at class_parts from items)))
          ∙ members_placed)

      type_placed : places_in around (f.part p.CLASS g ∷ []) ≡ places_of t outer
      unfolding places_of
      type_placed =
          let own : List Placed = record { path = path; layout = (out-TypeDef t).layout } ∷ places path (out-TypeDef t).nested in
          ap (map (place_of s)) (append-nil (part_nodes s around (f.part p.CLASS g)))
          ∙ ((λ i. record { path = path_is i; layout = layout_is i } ∷ inner_places i)
          ∙ sym (ap (λ h. h outer) (fold_out-TypeDef (List TypeId → List Placed) places_step t)))

  -- ---- below a production that holds it

  class_is : (t : TypeDef) → class a.externs t ≡ class_step a.externs (opened a.externs t)
  unfolding class
  class_is t = fold_out-TypeDef ClassShown (class_step a.externs) t

  abbrev ItemPlaced : List TypeId → TypeDef → Around → ℕ → ℕ → ClassShown → Type 0
  ItemPlaced outer t around k at c =
      Grows (Nonterminal n.CLASS ∷ []) (put (c.shown outer k) none) → Agrees s at (put (c.shown outer k) none) →
      places_in around (f.parts class_parts (numbered at (put (c.shown outer k) none))) ≡ places_of t outer

  item_placed : (top : Bool) (depth : ℕ) (outer : List TypeId) (t : TypeDef) → IsNested a top depth outer t → RowPlaced (outer ++ (out-TypeDef t).id ∷ []) (out-TypeDef t).nested →
      (around : Around) → around.path ≡ outer → (k at : ℕ) → ItemPlaced outer t around k at (class a.externs t)
  item_placed top depth outer t nested inner around is_outer k at =
      subst (ItemPlaced outer t around k at) (sym (class_is t)) (λ grown ag. type_placed top depth outer t nested inner around is_outer k at grown.1 ag.0)

  -- ---- side by side

  row_placed : (depth : ℕ) (top : Bool) (outer : List TypeId) (ts : List TypeDef) → AreNested a top depth outer ts → RowPlaced outer ts
  row_placed zero top outer ts nested =
      subst (RowPlaced outer) (sym (laws.formed.none a top outer ts nested)) (λ around is_outer production x body apart k at grown ag. refl)
  row_placed (suc depth) top outer ts nested =
      go (λ inner us h. row_placed depth false inner us h) ts (laws.formed.each a top depth outer ts nested)
    where
      go : ((inner : List TypeId) (us : List TypeDef) → AreNested a false depth inner us → RowPlaced inner us) → (us : List TypeDef) → EachNested a top depth outer us → RowPlaced outer us
      go deeper [] each around is_outer production x body apart k at grown ag = refl
      go deeper (t ∷ us) each around is_outer production x body apart k at grown ag =
          let c = class a.externs t in
          let own = numbered at (put (c.shown outer k) none) in
          let next = at + size (put (c.shown outer k) none) in
          let behind = pieces_at class_parts next (classes_from production outer (k + length c.contents) (map (class a.externs) us)) in
          let first =
          item_placed top depth outer t each.0 (deeper (outer ++ (out-TypeDef t).id ∷ []) (out-TypeDef t).nested each.0.nested) around is_outer k at
          (subst (λ b. Grows b (put (c.shown outer k) none)) body grown.1) ag.0 in
          let later = go deeper us each.1 around is_outer production x body apart (k + length c.contents) next grown.2 ag.1 in
          ap (λ b. places_in around ((if b then f.part production own ∷ [] else f.parts class_parts own) ++ behind)) apart
          ∙ (places_join around (f.parts class_parts own) behind ∙ (λ i. first i ++ later i))

-- ---- the whole

manifest_lacks : PiecesAreRead → (a : Assembly) → EachLacks class_parts (manifest_items a)
unfolding manifest_lines
manifest_lacks pieces a = (no_type.externs.own, no_type.externs.body, lines_lack pieces class_parts no_type.lines a)

module _ (stands : CanonStands) (laws : PlaceLaws) (stand : TypesStand) (s : Source) (a : Assembly) (listed : IsListingOf s a) (has : HasDeclarations s a) where
  parts_are : f.parts class_parts s.tree ≡ pieces_at class_parts (types_place a) (type_items a)
  parts_are =
      let own = pieces_at class_parts (types_place a) (type_items a) in
      let no1 = laws.pieces.none class_parts n.DECL 0 (extern_items a) has.externs_grown (externs_lack class_parts a.externs no_type.externs 0 a.externs) in
      let no2 = laws.pieces.none class_parts n.DECL (manifest_place a) (manifest_items a) has.manifest_grown (manifest_lacks laws.pieces a) in
      let no4 = laws.pieces.none class_parts n.DECL (fields_place a) (field_items a) has.fields_grown (fields_lack class_parts laws.pieces a.externs no_type.fields no_type.customs (length (all_contents (written.classes a))) a.fields) in
      let no5 = laws.pieces.none class_parts n.DECL (methods_place a) (global_items a) has.methods_grown (methods_lack class_parts a.externs no_type.methods a.methods) in
      let no6 = laws.pieces.none class_parts n.DECL (data_place a) (data_items a) has.contents_grown (data_lack class_parts no_type.contents 0 (contents a)) in
      has.pieces class_parts refl refl refl ∙ ((λ i. no1 i ++ (no2 i ++ (own ++ (no4 i ++ (no5 i ++ no6 i))))) ∙ append-nil own)

  classes_are : classes s ≡ nodes_of_parts s nothing_around (f.parts class_parts s.tree)
  unfolding nodes
  classes_are =
      let tree = listed.tree in
      ap (class_nodes s nothing_around) tree
      ∙ (by_parts s laws.searches (Nonterminal n.SOURCE ∷ []) (canon a) (stands a listed.formed listed.held) nothing_around 0
      ∙ sym (ap (λ x. nodes_of_parts s nothing_around (f.parts class_parts x)) tree))

  all_placed : map (place_of s) (classes s) ≡ places [] a.types
  all_placed =
      ap (map (place_of s)) (classes_are ∙ ap (nodes_of_parts s nothing_around) parts_are)
      ∙ row_placed laws s a 100 true [] a.types (stand s a listed) nothing_around refl p.DECL_CLASS n.DECL no_type.top refl 0 (types_place a) has.types_grown has.types

pub places_are_read : CanonStands → SearchesPass → SegmentsAreRead → PiecesAreRead → ClassHeadsAreRead → ClassBodiesAreRead → ClassMembersAreRead → TypesAreFormed → TypesStand → DeclarationsAreRead → PlacesAreRead
places_are_read stands searches segments pieces heads bodies members formed stand declared s a listed =
    let laws : PlaceLaws = record { searches = searches; segments = segments; pieces = pieces; heads = heads; bodies = bodies; members = members; formed = formed } in
    all_placed stands laws stand s a listed (declared s a listed)
