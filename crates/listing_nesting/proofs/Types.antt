-- Types are read with those that they nest.
use Rattle.std.proofs.Common.{◌≡◌, ℕ, zero, suc, ◌+◌, ◌==◌, ◌&&◌, ◌||◌, not, nat_eq, Bool, true, false, List, [], ◌∷◌, ◌++◌, map, take, length, refl, ap, sym, subst, ◌∙◌, append-nil}
use Rattle.std.proofs.lemmas.Bool.{and_parts, eqb-true, false≢true}
use Rattle.std.specs.List.{list_all}
use Rattle.ilasm_grammar.specs.Ilasm.{ilasm, rule_by, has_bit}
use Rattle.ilasm_grammar.specs.declared.nonterminals.TheConstants as n
use Rattle.ilasm_grammar.specs.declared.productions.TheConstants as p
use Rattle.ilasm_grammar.specs.declared.symbol.Symbol.TheVariants.{Nonterminal}
use Rattle.type_terms.specs.declared.name.TypeId.{TypeId}
use Rattle.assembly_tree.specs.WellFormedNames.{is_system_object}
use Rattle.assembly_tree.specs.declared.assembly.Assembly.{Assembly}
use Rattle.assembly_tree.specs.declared.typedef.TypeDef.{TypeDef}
use Rattle.assembly_tree.specs.declared.typedef.TypeDef.TheFolds.{fold_out-TypeDef}
use Rattle.assembly_tree.specs.declared.typedef.TypeDef.TheViews.{out-TypeDef, roll-TypeDef, roll-out-TypeDef}
use Rattle.source_model.specs.Classes.{classes_in, class_from, is_root}
use Rattle.source_model.specs.Classes as read_class
use Rattle.source_model.specs.Data.{layout}
use Rattle.source_model.specs.Forest as f
use Rattle.source_model.specs.Items.{members, runs, own_customs}
use Rattle.source_model.specs.Manifests.{attributes}
use Rattle.source_model.specs.Members as read
use Rattle.source_model.specs.Nodes.{Around, entered, type_id, class_token}
use Rattle.source_model.specs.Parameters.{generics}
use Rattle.source_model.specs.Source.{Source}
use Rattle.listing_class_heads.specs.Laws.{Head, class_shown, typars_place, ClassHeadsAreRead}
use Rattle.listing_classes.specs.Laws.{layout_in, member_parts, members_place, ClassBodiesAreRead, ClassMembersAreRead}
use Rattle.listing_formed.specs.Laws.{Knows}
use Rattle.listing_groups.specs.Laws.{HaveContents, method_items, property_items, event_items}
use Rattle.listing_model.specs.Canon.{contents}
use Rattle.listing_model.specs.Classes.{ClassShown, all_contents, classes_from, layout_lines, typar_member, class_members, class_step, class}
use Rattle.listing_model.specs.Grown.{body_of, Grows}
use Rattle.listing_model.specs.Members.{fields, field_contents, typar_lines}
use Rattle.listing_model.specs.Shown.{Shown, none, put, Item, size}
use Rattle.listing_model.specs.Values.{customs}
use Rattle.listing_reading.specs.Below.{below, cant_stand}
use Rattle.listing_reading.specs.BelowMasks.{below_masks}
use Rattle.listing_reading.specs.Numbered.{numbered, Agrees, rest, place}
use Rattle.listing_reading.specs.Rows.{AreAmong, parts_at}
use Rattle.listing_rows.specs.Laws.{class_parts, SegmentsAreRead, PiecesAreRead, WalksPass}
use Rattle.listing_rows.specs.Segments.{end_of, ItemsAgree, EachGrown, EachLacks}
use Rattle.listing_nesting.specs.Laws.{AreOther, types_at, TypeRowsAreRead, AreNested, head_of_type, opened, IsNested, EachNested, TypesAreFormed, HasData, StandAt, NestedAreRead, MembersLack}
use Rattle.listing_nesting.proofs.Lacks.{lack_lines, lack_customs, lack_typars, lack_fields, lack_methods, lack_properties, lack_events}
use Rattle.listing_nesting.proofs.Data.{stand_front, stand_behind, contents_there}

-- ---- members that hold no type

pub record HoldNoType : Type 0 where
  pub members : MembersLack class_parts
  pub head : cant_stand class_parts (take 7 (body_of p.CLASS)) ≡ true

hold_no_type : HoldNoType
unfolding ilasm rule_by has_bit below below_masks
hold_no_type = record {
  members = record {
    others = record { pack = (refl, refl); size = (refl, refl); custom = (refl, refl); param = (refl, refl); field = (refl, refl); property = (refl, refl); event = (refl, refl) };
    method = (refl, refl);
  };
  head = refl;
}

-- ---- no member is a type itself

other_of : (sought : List ℕ) (q : ℕ) → list_all (λ x. not (x == p.CLASS)) sought ≡ true → f.is_among sought q ≡ true → nat_eq q p.CLASS ≡ false
other_of [] q h e = absurd (false≢true e)
other_of (x ∷ xs) q h e =
    let hs = and_parts (not (nat_eq x p.CLASS)) (list_all (λ y. not (y == p.CLASS)) xs) h in by (nat_eq x q) refl hs.0 (λ i. other_of xs q hs.1 i)
  where
    turned : (b : Bool) → not b ≡ true → b ≡ false
    turned true i = absurd (false≢true i)
    turned false i = refl

    by : (c : Bool) → nat_eq x q ≡ c → not (nat_eq x p.CLASS) ≡ true → (f.is_among xs q ≡ true → nat_eq q p.CLASS ≡ false) → nat_eq q p.CLASS ≡ false
    by true is own later = subst (λ y. nat_eq y p.CLASS ≡ false) (eqb-true x q is) (turned (nat_eq x p.CLASS) own)
    by false apart own later = let step : (nat_eq x q || f.is_among xs q) ≡ f.is_among xs q = ap (λ c. c || f.is_among xs q) apart in later (sym step ∙ e)

are_other : (sought : List ℕ) → list_all (λ x. not (x == p.CLASS)) sought ≡ true → (items : List Item) → AreAmong sought items → AreOther items
are_other sought h [] m = tt
are_other sought h (i ∷ is) m = (other_of sought i.production h m.0, are_other sought h is m.1)

-- ---- one type

pub record TypeLaws : Type 0 where
  pub rows : TypeRowsAreRead
  pub formed : TypesAreFormed
  pub segments : SegmentsAreRead
  pub pieces : PiecesAreRead
  pub walks : WalksPass
  pub heads : ClassHeadsAreRead
  pub bodies : ClassBodiesAreRead
  pub members : ClassMembersAreRead

-- what a row of types is read as
abbrev RowReads : Source → Assembly → List TypeId → List TypeDef → Type 0
RowReads s a outer ts =
    (around : Around) → around.path ≡ outer → (production x : ℕ) → body_of production ≡ Nonterminal n.CLASS ∷ [] → (k at : ℕ) →
    StandAt k (all_contents (map (class a.externs) ts)) (contents a) → EachGrown x (classes_from production outer k (map (class a.externs) ts)) →
    ItemsAgree s at (classes_from production outer k (map (class a.externs) ts)) →
    types_at s around at (classes_from production outer k (map (class a.externs) ts)) ≡ ts

module _ (laws : TypeLaws) (s : Source) (a : Assembly) (knows : Knows s a) (has : HasData s a) where
  module _ (top : Bool) (depth : ℕ) (outer : List TypeId) (outermost : top ≡ true → outer ≡ []) (t : TypeDef) (nested : IsNested a top depth outer t) (inner_reads : RowReads s a (outer ++ (out-TypeDef t).id ∷ []) (out-TypeDef t).nested) (around : Around) (is_outer : around.path ≡ outer) (k at : ℕ) (stand : StandAt k (field_contents (out-TypeDef t).fields ++ all_contents (map (class a.externs) (out-TypeDef t).nested)) (contents a)) where
    abbrev path : List TypeId
    path = outer ++ (out-TypeDef t).id ∷ []

    abbrev head : Head
    head = head_of_type t

    abbrev items : List Item
    items = class_members a.externs (opened a.externs t) path k

    abbrev shown : Shown
    shown = class_shown a.externs head items

    abbrev g : f.Forest
    g = numbered at shown

    abbrev inside : Around
    inside = entered s around p.CLASS g

    abbrev from : ℕ
    from = members_place a.externs head items at

    module _ (grown : Grows (body_of p.CLASS) shown) (ag : Agrees s at shown) where
      id_is : type_id s (class_token g) ≡ (out-TypeDef t).id
      id_is = laws.heads.ids s a head nested.head items grown at ag

      path_is : inside.path ≡ path
      path_is i = is_outer i ++ id_is i ∷ []

      all_members : AreAmong member_parts items
      all_members = laws.bodies.among a.externs (opened a.externs t) path k

      parts_are : members g ≡ parts_at from items
      parts_are = laws.bodies.parts a.externs head items all_members grown at

      items_agree : ItemsAgree s from items
      items_agree = laws.bodies.agree s a.externs head items at ag

      items_grown : EachGrown n.MEMBER items
      items_grown = laws.bodies.grown a.externs head items grown

      is_base_root : (top && is_system_object (out-TypeDef t).id) ≡ true → is_root inside.path ≡ true
      is_base_root e =
          let es = and_parts top (is_system_object (out-TypeDef t).id) e in
          ap is_root (path_is ∙ ap (λ q. q ++ (out-TypeDef t).id ∷ []) (outermost es.0)) ∙ es.1

      layout_is : layout s g ≡ (out-TypeDef t).layout
      layout_is =
          ap (layout_in s) parts_are ∙ laws.members.layout s a path (opened a.externs t) nested.members k from items_agree

      -- ---- the types that it nests

      abbrev is1 : List Item
      is1 = layout_lines (out-TypeDef t).layout

      abbrev is2 : List Item
      is2 = customs a.externs p.MEMBER_CUSTOM (out-TypeDef t).attributes

      abbrev is3 : List Item
      is3 = typar_lines a.externs typar_member p.MEMBER_CUSTOM 1 (out-TypeDef t).generics

      abbrev is4 : List Item
      is4 = fields a.externs p.MEMBER_FIELD p.MEMBER_CUSTOM k (out-TypeDef t).fields

      abbrev is5 : List Item
      is5 = method_items a.externs p.MEMBER_METHOD (out-TypeDef t).methods

      abbrev is6 : List Item
      is6 = property_items a.externs path (out-TypeDef t).methods (out-TypeDef t).properties

      abbrev is7 : List Item
      is7 = event_items a.externs path (out-TypeDef t).methods (out-TypeDef t).events

      abbrev next : ℕ
      next = k + length (field_contents (out-TypeDef t).fields)

      abbrev is8 : List Item
      is8 = classes_from p.MEMBER_CLASS path next (map (class a.externs) (out-TypeDef t).nested)

      -- a segment without types, and those behind it
      past_segment : (xs ys : List Item) (j : ℕ) → EachLacks class_parts xs → EachGrown n.MEMBER (xs ++ ys) → ItemsAgree s j (xs ++ ys) →
          (types_at s inside j (xs ++ ys) ≡ types_at s inside (end_of j xs) ys) × EachGrown n.MEMBER ys × ItemsAgree s (end_of j xs) ys
      past_segment xs ys j lack grew agree =
          let gs = laws.pieces.each n.MEMBER xs ys grew in (
            laws.rows.joined s inside j xs ys ∙ ap (λ us. us ++ types_at s inside (end_of j xs) ys) (laws.rows.none s inside n.MEMBER j xs gs.0 lack),
            gs.1,
            (laws.segments.agree s j xs ys agree).1,
          )

      member_class : body_of p.MEMBER_CLASS ≡ Nonterminal n.CLASS ∷ []
      unfolding ilasm rule_by
      member_class = refl

      nested_types : types_at s inside from items ≡ (out-TypeDef t).nested
      nested_types =
          let e7 = is7 ++ is8 in
          let e6 = is6 ++ e7 in
          let e5 = is5 ++ e6 in
          let e4 = is4 ++ e5 in
          let e3 = is3 ++ e4 in
          let e2 = is2 ++ e3 in
          let p1 = past_segment is1 e2 from (lack_lines class_parts hold_no_type.members.others laws.pieces a.externs (out-TypeDef t).layout) items_grown items_agree in
          let j2 = end_of from is1 in
          let p2 = past_segment is2 e3 j2 (lack_customs class_parts hold_no_type.members.others laws.pieces a.externs (out-TypeDef t).attributes) p1.1 p1.2 in
          let j3 = end_of j2 is2 in
          let p3 = past_segment is3 e4 j3 (lack_typars class_parts hold_no_type.members.others laws.pieces a.externs (out-TypeDef t).generics 1) p2.1 p2.2 in
          let j4 = end_of j3 is3 in
          let p4 = past_segment is4 e5 j4 (lack_fields class_parts hold_no_type.members.others laws.pieces a.externs (out-TypeDef t).fields k) p3.1 p3.2 in
          let j5 = end_of j4 is4 in
          let p5 = past_segment is5 e6 j5 (lack_methods class_parts hold_no_type.members.method a.externs (out-TypeDef t).methods) p4.1 p4.2 in
          let j6 = end_of j5 is5 in
          let p6 = past_segment is6 e7 j6 (lack_properties class_parts hold_no_type.members.others laws.pieces a.externs path (out-TypeDef t).methods (out-TypeDef t).properties) p5.1 p5.2 in
          let j7 = end_of j6 is6 in
          let p7 = past_segment is7 is8 j7 (lack_events class_parts hold_no_type.members.others laws.pieces a.externs path (out-TypeDef t).methods (out-TypeDef t).events) p6.1 p6.2 in
          p1.0
          ∙ (p2.0 ∙ (p3.0 ∙ (p4.0 ∙ (p5.0 ∙ (p6.0
          ∙ (p7.0
          ∙ inner_reads inside path_is p.MEMBER_CLASS n.MEMBER member_class next (end_of j7 is7)
          (stand_behind k (field_contents (out-TypeDef t).fields) (all_contents (map (class a.externs) (out-TypeDef t).nested)) (contents a) stand) p7.1 p7.2))))))

      behind_braces : (j : ℕ) → classes_in s inside (numbered j (rest 8 shown)) ≡ []
      unfolding classes_in
      behind_braces j = refl

      inner_types : classes_in s inside g ≡ (out-TypeDef t).nested
      inner_types =
          laws.walks.classes s inside 7 (body_of p.CLASS) hold_no_type.head shown grown at
          ∙ (laws.rows.row s inside p.MEMBER_STAR_MORE p.MEMBER_STAR_END refl refl items (are_other member_parts refl items all_members) from (numbered (place 8 at shown) (rest 8 shown))
          ∙ (ap (λ us. types_at s inside from items ++ us) (behind_braces (place 8 at shown))
          ∙ (append-nil (types_at s inside from items) ∙ nested_types)))

      -- ---- the whole

      abbrev data_there : HaveContents s k (out-TypeDef t).fields
      data_there =
          contents_there s a has (out-TypeDef t).fields nested.members.fields k
          (stand_front k (field_contents (out-TypeDef t).fields) (all_contents (map (class a.externs) (out-TypeDef t).nested)) (contents a) stand)

      type_is : class_from s inside g (classes_in s inside g) ≡ t
      type_is =
          let m = nested.members in
          let o = opened a.externs t in
          let flags = laws.heads.flags s a head nested.head items grown at ag in
          let there = laws.heads.typars s a head nested.head items grown at ag in
          let generics_are =
          ap (λ ps. generics s inside g (runs ps)) parts_are
          ∙ laws.members.generics s inside a knows path o m k from items_agree (typars_place a head items at) there.1 g there.0 in
          let base = laws.heads.bases s inside a knows head nested.head items grown at ag top nested.base is_base_root in
          let faces = laws.heads.interfaces s inside a knows head nested.head items grown at ag in
          let fields_are = ap (read.fields s inside) parts_are ∙ laws.members.fields s inside a knows path o m k from items_agree data_there in
          let methods_are = ap (read.methods s inside) parts_are ∙ laws.members.methods s inside a knows path o m k from items_agree items_grown in
          let properties_are = ap (read.properties s inside) parts_are ∙ laws.members.properties s inside a knows path o m k from items_agree items_grown in
          let events_are = ap (read.events s inside) parts_are ∙ laws.members.events s inside a knows path o m k from items_agree items_grown in
          let own = ap (λ ps. attributes s inside (own_customs ps)) parts_are ∙ laws.members.attributes s inside a knows path o m k from items_agree in
          ap roll-TypeDef (λ i. record {
            id = id_is i;
            flags = flags i;
            layout = layout_is i;
            generics = generics_are i;
            extends = base i;
            implements = faces i;
            fields = fields_are i;
            methods = methods_are i;
            properties = properties_are i;
            events = events_are i;
            nested = inner_types i;
            attributes = own i;
          })
          ∙ roll-out-TypeDef t

  -- ---- one below a production that holds it

  class_is : (t : TypeDef) → class a.externs t ≡ class_step a.externs (opened a.externs t)
  unfolding class
  class_is t = fold_out-TypeDef ClassShown (class_step a.externs) t

  abbrev ItemReads : List TypeId → TypeDef → Around → ℕ → ℕ → ClassShown → Type 0
  ItemReads outer t around k at c =
      StandAt k c.contents (contents a) → Grows (Nonterminal n.CLASS ∷ []) (put (c.shown outer k) none) → Agrees s at (put (c.shown outer k) none) →
      classes_in s around (numbered at (put (c.shown outer k) none)) ≡ t ∷ []

  item_reads : (top : Bool) (depth : ℕ) (outer : List TypeId) → (top ≡ true → outer ≡ []) → (t : TypeDef) → IsNested a top depth outer t →
      RowReads s a (outer ++ (out-TypeDef t).id ∷ []) (out-TypeDef t).nested → (around : Around) → around.path ≡ outer → (k at : ℕ) → ItemReads outer t around k at (class a.externs t)
  unfolding classes_in
  item_reads top depth outer outermost t nested inner around is_outer k at = subst (ItemReads outer t around k at) (sym (class_is t)) here
    where
      here : ItemReads outer t around k at (class_step a.externs (opened a.externs t))
      here stand grown ag = ap (λ u. u ∷ []) (type_is top depth outer outermost t nested inner around is_outer k at stand grown.1 ag.0)

  -- ---- side by side

  row_reads : (depth : ℕ) (top : Bool) (outer : List TypeId) (ts : List TypeDef) → AreNested a top depth outer ts → RowReads s a outer ts
  row_reads zero top outer ts nested =
      subst (RowReads s a outer) (sym (laws.formed.none a top outer ts nested)) (λ around is_outer production x body k at stand grown ag. refl)
  row_reads (suc depth) top outer ts nested =
      go (λ inner us h. row_reads depth false inner us h) ts (laws.formed.each a top depth outer ts nested)
    where
      go : ((inner : List TypeId) (us : List TypeDef) → AreNested a false depth inner us → RowReads s a inner us) → (us : List TypeDef) → EachNested a top depth outer us → RowReads s a outer us
      go deeper [] each around is_outer production x body k at stand grown ag = refl
      go deeper (t ∷ us) each around is_outer production x body k at stand grown ag =
          let c = class a.externs t in
          let cs = map (class a.externs) us in
          let first =
          item_reads top depth outer nested.outermost t each.0 (deeper (outer ++ (out-TypeDef t).id ∷ []) (out-TypeDef t).nested each.0.nested) around is_outer k at
          (stand_front k c.contents (all_contents cs) (contents a) stand) (subst (λ b. Grows b (put (c.shown outer k) none)) body grown.1) ag.0 in
          let later =
          go deeper us each.1 around is_outer production x body (k + length c.contents) (at + size (put (c.shown outer k) none))
          (stand_behind k c.contents (all_contents cs) (contents a) stand) grown.2 ag.1 in
          λ i. first i ++ later i

pub nested_are_read : TypeRowsAreRead → TypesAreFormed → SegmentsAreRead → PiecesAreRead → WalksPass → ClassHeadsAreRead → ClassBodiesAreRead → ClassMembersAreRead → NestedAreRead
nested_are_read rows formed segments pieces walks heads bodies members s a knows has top depth outer ts nested =
    let laws : TypeLaws = record {
      rows = rows;
      formed = formed;
      segments = segments;
      pieces = pieces;
      walks = walks;
      heads = heads;
      bodies = bodies;
      members = members;
    } in
    row_reads laws s a knows has depth top outer ts nested
