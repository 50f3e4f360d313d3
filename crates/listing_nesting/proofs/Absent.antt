-- What stands in no type isn't found in types.
use Rattle.std.proofs.Common.{◌≡◌, ℕ, zero, suc, ◌+◌, Bool, false, if◌then◌else◌, List, [], ◌∷◌, ◌++◌, map, length, refl, ap, sym, subst, ◌∙◌, append-nil}
use Rattle.ilasm_grammar.specs.Ilasm.{ilasm, rule_by}
use Rattle.ilasm_grammar.specs.declared.nonterminals.TheConstants as n
use Rattle.ilasm_grammar.specs.declared.productions.TheConstants as p
use Rattle.ilasm_grammar.specs.declared.symbol.Symbol.TheVariants.{Nonterminal}
use Rattle.type_terms.specs.declared.name.TypeId.{TypeId}
use Rattle.assembly_tree.specs.declared.assembly.Assembly.{Assembly}
use Rattle.assembly_tree.specs.declared.typedef.TypeDef.{TypeDef}
use Rattle.assembly_tree.specs.declared.typedef.TypeDef.TheFolds.{fold_out-TypeDef}
use Rattle.assembly_tree.specs.declared.typedef.TypeDef.TheViews.{out-TypeDef}
use Rattle.source_model.specs.Forest as f
use Rattle.listing_class_heads.specs.Laws.{Head, class_shown}
use Rattle.listing_classes.specs.Laws.{ClassBodiesAreRead}
use Rattle.listing_groups.specs.Laws.{method_items, property_items, event_items}
use Rattle.listing_model.specs.Classes.{ClassShown, classes_from, layout_lines, typar_member, class_members, class_step, class}
use Rattle.listing_model.specs.Grown.{body_of, Grows}
use Rattle.listing_model.specs.Members.{fields, field_contents, typar_lines}
use Rattle.listing_model.specs.Shown.{Shown, none, put, Item, size}
use Rattle.listing_model.specs.Values.{customs}
use Rattle.listing_reading.specs.Laws.{SearchesPass}
use Rattle.listing_reading.specs.Numbered.{numbered, rest, place}
use Rattle.listing_rows.specs.Laws.{SegmentsAreRead, PiecesAreRead}
use Rattle.listing_rows.specs.Segments.{end_of, pieces_at, EachGrown, EachLacks}
use Rattle.listing_nesting.specs.Laws.{AreNested, head_of_type, opened, TypesLack, TypesAreFormed, EachNested, TypesAreWithout}
use Rattle.listing_nesting.proofs.Lacks.{lack_lines, lack_customs, lack_typars, lack_fields, lack_methods, lack_properties, lack_events}

pub record AbsentLaws : Type 0 where
  pub formed : TypesAreFormed
  pub searches : SearchesPass
  pub segments : SegmentsAreRead
  pub pieces : PiecesAreRead
  pub bodies : ClassBodiesAreRead

module _ (laws : AbsentLaws) (sought : List ℕ) (w : TypesLack sought) (a : Assembly) where
  abbrev RowLacks : List TypeId → List TypeDef → Type 0
  RowLacks outer ts =
      (production x : ℕ) → body_of production ≡ Nonterminal n.CLASS ∷ [] → f.is_among sought production ≡ false → (k at : ℕ) →
      EachGrown x (classes_from production outer k (map (class a.externs) ts)) → pieces_at sought at (classes_from production outer k (map (class a.externs) ts)) ≡ []

  -- ---- one type

  module _ (path : List TypeId) (t : TypeDef) (inner_lacks : RowLacks path (out-TypeDef t).nested) (k at : ℕ) where
    abbrev head : Head
    head = head_of_type t

    abbrev items : List Item
    items = class_members a.externs (opened a.externs t) path k

    abbrev shown : Shown
    shown = class_shown a.externs head items

    past_segment : (xs ys : List Item) (j : ℕ) → EachLacks sought xs → EachGrown n.MEMBER (xs ++ ys) →
        (pieces_at sought j (xs ++ ys) ≡ pieces_at sought (end_of j xs) ys) × EachGrown n.MEMBER ys
    past_segment xs ys j lack grew =
        let gs = laws.pieces.each n.MEMBER xs ys grew in
        (laws.pieces.joined sought j xs ys ∙ ap (λ ps. ps ++ pieces_at sought (end_of j xs) ys) (laws.pieces.none sought n.MEMBER j xs gs.0 lack), gs.1)

    member_class : body_of p.MEMBER_CLASS ≡ Nonterminal n.CLASS ∷ []
    unfolding ilasm rule_by
    member_class = refl

    members_lack : EachGrown n.MEMBER items → (j : ℕ) → pieces_at sought j items ≡ []
    members_lack grew j =
        let o = out-TypeDef t in
        let is1 = layout_lines o.layout in
        let is2 = customs a.externs p.MEMBER_CUSTOM o.attributes in
        let is3 = typar_lines a.externs typar_member p.MEMBER_CUSTOM 1 o.generics in
        let is4 = fields a.externs p.MEMBER_FIELD p.MEMBER_CUSTOM k o.fields in
        let is5 = method_items a.externs p.MEMBER_METHOD o.methods in
        let is6 = property_items a.externs path o.methods o.properties in
        let is7 = event_items a.externs path o.methods o.events in
        let is8 = classes_from p.MEMBER_CLASS path (k + length (field_contents o.fields)) (map (class a.externs) o.nested) in
        let e7 = is7 ++ is8 in
        let e6 = is6 ++ e7 in
        let e5 = is5 ++ e6 in
        let e4 = is4 ++ e5 in
        let e3 = is3 ++ e4 in
        let e2 = is2 ++ e3 in
        let p1 = past_segment is1 e2 j (lack_lines sought w.members.others laws.pieces a.externs o.layout) grew in
        let j2 = end_of j is1 in
        let p2 = past_segment is2 e3 j2 (lack_customs sought w.members.others laws.pieces a.externs o.attributes) p1.1 in
        let j3 = end_of j2 is2 in
        let p3 = past_segment is3 e4 j3 (lack_typars sought w.members.others laws.pieces a.externs o.generics 1) p2.1 in
        let j4 = end_of j3 is3 in
        let p4 = past_segment is4 e5 j4 (lack_fields sought w.members.others laws.pieces a.externs o.fields k) p3.1 in
        let j5 = end_of j4 is4 in
        let p5 = past_segment is5 e6 j5 (lack_methods sought w.members.method a.externs o.methods) p4.1 in
        let j6 = end_of j5 is5 in
        let p6 = past_segment is6 e7 j6 (lack_properties sought w.members.others laws.pieces a.externs path o.methods o.properties) p5.1 in
        let j7 = end_of j6 is6 in
        let p7 = past_segment is7 is8 j7 (lack_events sought w.members.others laws.pieces a.externs path o.methods o.events) p6.1 in
        p1.0
        ∙ (p2.0 ∙ (p3.0 ∙ (p4.0 ∙ (p5.0 ∙ (p6.0
        ∙ (p7.0 ∙ inner_lacks p.MEMBER_CLASS n.MEMBER member_class w.nested (k + length (field_contents o.fields)) (end_of j7 is7) p7.1))))))

    shown_lacks : Grows (body_of p.CLASS) shown → f.parts sought (numbered at shown) ≡ []
    shown_lacks grown =
        let from = place 7 at shown in
        let behind = numbered (place 8 at shown) (rest 8 shown) in
        laws.searches.parts sought 7 (body_of p.CLASS) w.head shown grown at
        ∙ (laws.pieces.row sought p.MEMBER_STAR_MORE p.MEMBER_STAR_END w.more w.end items from behind
        ∙ (append-nil (pieces_at sought from items) ∙ members_lack (laws.bodies.grown a.externs head items grown) from))

  -- ---- below a production that holds it

  class_is : (t : TypeDef) → class a.externs t ≡ class_step a.externs (opened a.externs t)
  unfolding class
  class_is t = fold_out-TypeDef ClassShown (class_step a.externs) t

  abbrev ItemLacks : List TypeId → ℕ → ℕ → ClassShown → Type 0
  ItemLacks outer k at c = Grows (Nonterminal n.CLASS ∷ []) (put (c.shown outer k) none) → f.parts sought (numbered at (put (c.shown outer k) none)) ≡ []

  item_lacks : (outer : List TypeId) (t : TypeDef) → RowLacks (outer ++ (out-TypeDef t).id ∷ []) (out-TypeDef t).nested → (k at : ℕ) → ItemLacks outer k at (class a.externs t)
  item_lacks outer t inner k at = subst (ItemLacks outer k at) (sym (class_is t)) here
    where
      here : ItemLacks outer k at (class_step a.externs (opened a.externs t))
      here grown =
          let path = outer ++ (out-TypeDef t).id ∷ [] in
          let below = numbered at (class_shown a.externs (head_of_type t) (class_members a.externs (opened a.externs t) path k)) in
          ap (λ c. (if c then f.part p.CLASS below ∷ [] else f.parts sought below) ++ []) w.own
          ∙ ap (λ ps. ps ++ []) (shown_lacks path t inner k at grown.1)

  -- ---- side by side

  row_lacks : (depth : ℕ) (top : Bool) (outer : List TypeId) (ts : List TypeDef) → AreNested a top depth outer ts → RowLacks outer ts
  row_lacks zero top outer ts nested =
      subst (RowLacks outer) (sym (laws.formed.none a top outer ts nested)) (λ production x body apart k at grown. refl)
  row_lacks (suc depth) top outer ts nested =
      go (λ inner us h. row_lacks depth false inner us h) ts (laws.formed.each a top depth outer ts nested)
    where
      go : ((inner : List TypeId) (us : List TypeDef) → AreNested a false depth inner us → RowLacks inner us) → (us : List TypeDef) → EachNested a top depth outer us → RowLacks outer us
      go deeper [] each production x body apart k at grown = refl
      go deeper (t ∷ us) each production x body apart k at grown =
          let c = class a.externs t in
          let own = numbered at (put (c.shown outer k) none) in
          let behind = pieces_at sought (at + size (put (c.shown outer k) none)) (classes_from production outer (k + length c.contents) (map (class a.externs) us)) in
          let first =
          item_lacks outer t (deeper (outer ++ (out-TypeDef t).id ∷ []) (out-TypeDef t).nested each.0.nested) k at (subst (λ b. Grows b (put (c.shown outer k) none)) body grown.1) in
          ap (λ b. (if b then f.part production own ∷ [] else f.parts sought own) ++ behind) apart
          ∙ (ap (λ ps. ps ++ behind) first ∙ go deeper us each.1 production x body apart (k + length c.contents) (at + size (put (c.shown outer k) none)) grown.2)

pub types_are_without : TypesAreFormed → SearchesPass → SegmentsAreRead → PiecesAreRead → ClassBodiesAreRead → TypesAreWithout
types_are_without formed searches segments pieces bodies sought w a top depth outer ts nested =
    let laws : AbsentLaws = record { formed = formed; searches = searches; segments = segments; pieces = pieces; bodies = bodies } in
    row_lacks laws sought w a depth top outer ts nested
