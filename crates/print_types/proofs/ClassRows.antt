-- What is drawn of a type, with its members and the types that it nests.
use Rattle.std.proofs.Common.{◌≡◌, ℕ, ◌+◌, ◌-◌, ◌<◌, nat_eq, false, List, [], ◌∷◌, ◌++◌, length, map, fold, take, drop, get_or, refl, ap, sym, ◌∙◌, arith}
use Rattle.std.proofs.lemmas.List.{length-append}
use Rattle.il_lexer.specs.declared.word.TheConstants as word
use Rattle.ilasm_grammar.specs.declared.productions.TheConstants as p
use Rattle.type_terms.specs.declared.name.TypeId.{TypeId}
use Rattle.type_terms.specs.declared.term.Owner.{Owner}
use Rattle.assembly_tree.specs.declared.assembly.ExternAssembly.{ExternAssembly}
use Rattle.assembly_tree.specs.declared.members.Attribute.{Attribute}
use Rattle.assembly_tree.specs.declared.members.Event.{Event}
use Rattle.assembly_tree.specs.declared.members.Field.{Field}
use Rattle.assembly_tree.specs.declared.members.Generic.{Generic}
use Rattle.assembly_tree.specs.declared.members.Method.{Method}
use Rattle.assembly_tree.specs.declared.members.Property.{Property}
use Rattle.assembly_tree.specs.declared.typedef.TypeDef.{TypeDef}
use Rattle.assembly_tree.specs.declared.typedef.TypeDef.TheOpen.{TypeDef-F}
use Rattle.assembly_tree.specs.declared.typedef.TypeDef.TheFolds.{fold_out-TypeDef}
use Rattle.assembly_tree.specs.declared.typedef.TypeDef.TheViews.{out-TypeDef}
use Rattle.listing_model.specs.Classes.{ClassShown, all_contents, classes_from, layout_lines, typar_member, class_members, class_item, class_step, class, implements}
use Rattle.listing_model.specs.Members.{typar_lines, fields, field_contents, property, event}
use Rattle.listing_model.specs.Methods.{method}
use Rattle.listing_model.specs.Shown.{none, Item, item, put, w, line, opt_below}
use Rattle.listing_model.specs.Types.{owner}
use Rattle.listing_model.specs.Values.{customs}
use Rattle.print_leaves.specs.Page.{Page, drawn}
use Rattle.print_terms.specs.Rows.{under, in_row, between}
use Rattle.print_terms.proofs.Rows.{star_row, row_append, row_map, commas_between}
use Rattle.print_members.specs.Rows.{customs_drawn, typars_drawn, fields_drawn}
use Rattle.print_members.proofs.Rows.{customs_are, typars_are, fields_are}
use Rattle.print_members.proofs.Steps.{drop_at}
use Rattle.print_types.specs.Pieces.{class_head, front_drawn, members_drawn}

module _ (externs : List ExternAssembly) where
  -- `implements`
  pub implements_done : (q a new : Page) (os : List Owner) → nat_eq (length os) 0 ≡ false → a ≡ drawn q (w word.IMPLEMENTS none) →
      new ≡ between a (map (owner externs) os) → new ≡ drawn q (opt_below (implements externs os))
  implements_done q a new [] some ha hn = absurd cc
  implements_done q a new (o ∷ os) some ha hn =
      let is = map (owner externs) (o ∷ os) in
      hn
      ∙ (ap (λ r. between r is) ha
      ∙ sym (commas_between p.COMMA_SPEC_STAR_MORE p.COMMA_SPEC_STAR_END p.COMMA_SPEC (drawn q (w word.IMPLEMENTS none)) is none))

  -- ---- members

  pub front_done : (q a b c new : Page) (t : TypeDef) (k : ℕ) (attributes : List Attribute) (generics : List Generic) (fs : List Field) →
      attributes ≡ (out-TypeDef t).attributes → generics ≡ (out-TypeDef t).generics → fs ≡ (out-TypeDef t).fields →
      a ≡ in_row q (layout_lines (out-TypeDef t).layout) → b ≡ customs_drawn externs a attributes → c ≡ typars_drawn externs b 1 generics →
      new ≡ fields_drawn externs c k fs → new ≡ front_drawn externs q (out-TypeDef t) k
  front_done q a b c new t k attributes generics fs ea eg ef ha hb hc hn =
      hn
      ∙ (ap (λ xs. fields_drawn externs c k xs) ef
      ∙ ap (λ r. fields_drawn externs r k (out-TypeDef t).fields)
      (hc
      ∙ (ap (λ xs. typars_drawn externs b 1 xs) eg
      ∙ ap (λ r. typars_drawn externs r 1 (out-TypeDef t).generics)
      (hb ∙ (ap (λ xs. customs_drawn externs a xs) ea ∙ ap (λ r. customs_drawn externs r (out-TypeDef t).attributes) ha)))))

  pub members_done : (q a b new : Page) (t : TypeDef) (path : List TypeId) (ms : List Method) (ps : List Property) (es : List Event) →
      ms ≡ (out-TypeDef t).methods → ps ≡ (out-TypeDef t).properties → es ≡ (out-TypeDef t).events →
      a ≡ fold (λ r m. under r (method externs m)) q ms → b ≡ fold (λ r x. under r (property externs path ms x)) a ps →
      new ≡ fold (λ r x. under r (event externs path ms x)) b es → new ≡ members_drawn externs path q (out-TypeDef t)
  members_done q a b new t path ms ps es em ep ee ha hb hn =
      let own = (out-TypeDef t).methods in
      hn
      ∙ (ap (λ (l : List Method). fold (λ r x. under r (event externs path l x)) b es) em
      ∙ (ap (λ (xs : List Event). fold (λ r x. under r (event externs path own x)) b xs) ee
      ∙ ap (λ (s : Page). fold (λ r x. under r (event externs path own x)) s (out-TypeDef t).events)
      (hb
      ∙ (ap (λ (l : List Method). fold (λ r x. under r (property externs path l x)) a ps) em
      ∙ (ap (λ (xs : List Property). fold (λ r x. under r (property externs path own x)) a xs) ep
      ∙ ap (λ (s : Page). fold (λ r x. under r (property externs path own x)) s (out-TypeDef t).properties)
      (ha ∙ ap (λ (xs : List Method). fold (λ r m. under r (method externs m)) q xs) em))))))

  pub classes_alike : (production : ℕ) (q : Page) (outer : List TypeId) (k : ℕ) (cs : List ClassShown) →
      in_row q (classes_from production outer k cs) ≡ in_row q (classes_from 0 outer k cs)
  classes_alike production q outer k [] = refl
  classes_alike production q outer k (c ∷ cs) = classes_alike production (under q (c.shown outer k)) outer (k + length c.contents) cs

  module _ (x : TypeDef-F ClassShown) (path : List TypeId) (k : ℕ) where
    abbrev methods_row : List Item
    methods_row = map (λ m. item p.MEMBER_METHOD (put (method externs m) none)) x.methods

    abbrev properties_row : List Item
    properties_row = map (λ y. item p.MEMBER_PROPERTY (put (property externs path x.methods y) none)) x.properties

    abbrev events_row : List Item
    events_row = map (λ y. item p.MEMBER_EVENT (put (event externs path x.methods y) none)) x.events

    abbrev nested_row : List Item
    nested_row = classes_from p.MEMBER_CLASS path (k + length (field_contents x.fields)) x.nested

    abbrev fields_row : List Item
    fields_row = fields externs p.MEMBER_FIELD p.MEMBER_CUSTOM k x.fields

    abbrev typars_row : List Item
    typars_row = typar_lines externs typar_member p.MEMBER_CUSTOM 1 x.generics

    abbrev customs_row : List Item
    customs_row = customs externs p.MEMBER_CUSTOM x.attributes

    -- methods, properties, events and the types that it nests
    back_is : (q : Page) →
        in_row q (methods_row ++ (properties_row ++ (events_row ++ nested_row)))
        ≡ in_row (members_drawn externs path q x) (classes_from 0 path (k + length (field_contents x.fields)) x.nested)
    back_is q =
        let ms = fold (λ r m. under r (method externs m)) q x.methods in
        let ps = fold (λ r y. under r (property externs path x.methods y)) ms x.properties in
        row_append q methods_row (properties_row ++ (events_row ++ nested_row))
        ∙ (ap (λ r. in_row r (properties_row ++ (events_row ++ nested_row))) (row_map (λ m. item p.MEMBER_METHOD (put (method externs m) none)) q x.methods)
        ∙ (row_append ms properties_row (events_row ++ nested_row)
        ∙ (ap (λ r. in_row r (events_row ++ nested_row)) (row_map (λ y. item p.MEMBER_PROPERTY (put (property externs path x.methods y) none)) ms x.properties)
        ∙ (row_append ps events_row nested_row
        ∙ (ap (λ r. in_row r nested_row) (row_map (λ y. item p.MEMBER_EVENT (put (event externs path x.methods y) none)) ps x.events)
        ∙ classes_alike p.MEMBER_CLASS (members_drawn externs path q x) path (k + length (field_contents x.fields)) x.nested)))))

    -- layout, attributes, generic parameters and fields before them
    members_are : (q : Page) →
        in_row q (class_members externs x path k)
        ≡ in_row (members_drawn externs path (front_drawn externs q x k) x) (classes_from 0 path (k + length (field_contents x.fields)) x.nested)
    members_are q =
        let back = methods_row ++ (properties_row ++ (events_row ++ nested_row)) in
        let l = in_row q (layout_lines x.layout) in
        let c = customs_drawn externs l x.attributes in
        let t = typars_drawn externs c 1 x.generics in
        row_append q (layout_lines x.layout) (customs_row ++ (typars_row ++ (fields_row ++ back)))
        ∙ (row_append l customs_row (typars_row ++ (fields_row ++ back))
        ∙ (ap (λ r. in_row r (typars_row ++ (fields_row ++ back))) (customs_are externs p.MEMBER_CUSTOM l x.attributes)
        ∙ (row_append c typars_row (fields_row ++ back)
        ∙ (ap (λ r. in_row r (fields_row ++ back)) (typars_are externs typar_member p.MEMBER_CUSTOM 1 c x.generics (λ r j. refl))
        ∙ (row_append t fields_row back
        ∙ (ap (λ r. in_row r back) (fields_are externs p.MEMBER_FIELD p.MEMBER_CUSTOM k t x.fields)
        ∙ back_is (front_drawn externs q x k)))))))

    item_is : (q : Page) →
        under q (class_item externs x path k)
        ≡ drawn
        (in_row (members_drawn externs path (front_drawn externs (drawn (drawn q (class_head externs x)) (line word.OPEN_BRACE none)) x k) x)
        (classes_from 0 path (k + length (field_contents x.fields)) x.nested))
        (line word.CLOSE_BRACE none)
    item_is q =
        let opened = drawn (drawn q (class_head externs x)) (line word.OPEN_BRACE none) in
        ap (λ r. drawn r (line word.CLOSE_BRACE none))
        (star_row p.MEMBER_STAR_MORE p.MEMBER_STAR_END opened (class_members externs x path k) ∙ members_are opened)

  -- ---- types

  pub contents_out : (t : TypeDef) →
      (class externs t).contents ≡ field_contents (out-TypeDef t).fields ++ all_contents (map (class externs) (out-TypeDef t).nested)
  unfolding class
  contents_out t = ap (λ (c : ClassShown). c.contents) (fold_out-TypeDef ClassShown (class_step externs) t)

  abbrev closed : Page → List TypeId → ℕ → TypeDef → Page
  closed opened path k t =
      drawn
      (in_row (members_drawn externs path (front_drawn externs opened (out-TypeDef t) k) (out-TypeDef t))
      (classes_from 0 path (k + length (field_contents (out-TypeDef t).fields)) (map (class externs) (out-TypeDef t).nested)))
      (line word.CLOSE_BRACE none)

  -- a type with what is shown of those that it nests
  abbrev parts : TypeDef → TypeDef-F ClassShown
  parts t = record {
    id = (out-TypeDef t).id;
    flags = (out-TypeDef t).flags;
    layout = (out-TypeDef t).layout;
    generics = (out-TypeDef t).generics;
    extends = (out-TypeDef t).extends;
    implements = (out-TypeDef t).implements;
    fields = (out-TypeDef t).fields;
    methods = (out-TypeDef t).methods;
    properties = (out-TypeDef t).properties;
    events = (out-TypeDef t).events;
    nested = map (class externs) (out-TypeDef t).nested;
    attributes = (out-TypeDef t).attributes;
  }

  class_is : (q : Page) (t : TypeDef) (outer : List TypeId) (k : ℕ) →
      under q ((class externs t).shown outer k)
      ≡ closed (drawn (drawn q (class_head externs (out-TypeDef t))) (line word.OPEN_BRACE none)) (outer ++ (out-TypeDef t).id ∷ []) k t
  unfolding class
  class_is q t outer k =
      ap (λ (c : ClassShown). under q (c.shown outer k)) (fold_out-TypeDef ClassShown (class_step externs) t)
      ∙ item_is (parts t) (outer ++ (out-TypeDef t).id ∷ []) k q

  pub class_done : (q a b d e f new : Page) (t : TypeDef) (outer inner path : List TypeId) (k m : ℕ) (nested : List TypeDef) →
      inner ≡ outer ++ (out-TypeDef t).id ∷ [] → path ≡ inner → nested ≡ (out-TypeDef t).nested → a ≡ drawn q (class_head externs (out-TypeDef t)) →
      b ≡ drawn a (line word.OPEN_BRACE none) → d ≡ front_drawn externs b (out-TypeDef t) k → m ≡ k + length (field_contents (out-TypeDef t).fields) →
      e ≡ members_drawn externs path d (out-TypeDef t) → f ≡ in_row e (classes_from 0 inner m (map (class externs) nested)) →
      new ≡ drawn f (line word.CLOSE_BRACE none) → new ≡ under q ((class externs t).shown outer k)
  class_done q a b d e f new t outer inner path k m nested ei ep en ha hb hd hm he hf hn =
      let whole = outer ++ (out-TypeDef t).id ∷ [] in
      let opened = drawn (drawn q (class_head externs (out-TypeDef t))) (line word.OPEN_BRACE none) in
      let fd : d ≡ front_drawn externs opened (out-TypeDef t) k =
      hd ∙ ap (λ r. front_drawn externs r (out-TypeDef t) k) (hb ∙ ap (λ r. drawn r (line word.OPEN_BRACE none)) ha) in
      let fe : e ≡ members_drawn externs whole (front_drawn externs opened (out-TypeDef t) k) (out-TypeDef t) =
      he ∙ (ap (λ xs. members_drawn externs xs d (out-TypeDef t)) (ep ∙ ei) ∙ ap (λ r. members_drawn externs whole r (out-TypeDef t)) fd) in
      hn
      ∙ (ap (λ r. drawn r (line word.CLOSE_BRACE none))
      (hf
      ∙ (ap (λ r. in_row r (classes_from 0 inner m (map (class externs) nested))) fe
      ∙ ap (λ is. in_row (members_drawn externs whole (front_drawn externs opened (out-TypeDef t) k) (out-TypeDef t)) is)
      (ap (λ xs. classes_from 0 xs m (map (class externs) nested)) ei
      ∙ (ap (λ n. classes_from 0 whole n (map (class externs) nested)) hm
      ∙ ap (λ ts. classes_from 0 whole (k + length (field_contents (out-TypeDef t).fields)) (map (class externs) ts)) en))))
      ∙ sym (class_is q t outer k))

  pub behind_done : (t : TypeDef) (k m next : ℕ) (nested : List TypeDef) → nested ≡ (out-TypeDef t).nested →
      m ≡ k + length (field_contents (out-TypeDef t).fields) → next ≡ m + length (all_contents (map (class externs) nested)) →
      next ≡ k + length (class externs t).contents
  behind_done t k m next nested en hm hn =
      let own = field_contents (out-TypeDef t).fields in
      let inner = all_contents (map (class externs) (out-TypeDef t).nested) in
      let whole : length (class externs t).contents ≡ length own + length inner = ap length (contents_out t) ∙ length-append own inner in
      let same : length (all_contents (map (class externs) nested)) ≡ length inner = ap (λ ts. length (all_contents (map (class externs) ts))) en in
      omega (arith, whole, same)

  -- ---- one type more

  pub classes_step : (q new goal : Page) (outer now : List TypeId) (k next i : ℕ) (t : TypeDef) (ts : List TypeDef) → i < length ts → t ≡ get_or ts i t →
      new ≡ under q ((class externs t).shown outer k) → next ≡ k + length (class externs t).contents → now ≡ outer →
      in_row q (classes_from 0 outer k (map (class externs) (drop i ts))) ≡ goal →
      in_row new (classes_from 0 now next (map (class externs) (drop (i + 1) ts))) ≡ goal
  classes_step q new goal outer now k next i t ts h e hn hk ho so =
      let rest = map (class externs) (drop (i + 1) ts) in
      ap (λ r. in_row r (classes_from 0 now next rest)) hn
      ∙ (ap (λ o. in_row (under q ((class externs t).shown outer k)) (classes_from 0 o next rest)) ho
      ∙ (ap (λ n. in_row (under q ((class externs t).shown outer k)) (classes_from 0 outer n rest)) hk
      ∙ (sym (ap (λ xs. in_row q (classes_from 0 outer k (map (class externs) xs))) (drop_at ts i t h e)) ∙ so)))

  pub contents_step : (k next goal i : ℕ) (t : TypeDef) (ts : List TypeDef) → i < length ts → t ≡ get_or ts i t →
      next ≡ k + length (class externs t).contents → k + length (all_contents (map (class externs) (drop i ts))) ≡ goal →
      next + length (all_contents (map (class externs) (drop (i + 1) ts))) ≡ goal
  contents_step k next goal i t ts h e hk so =
      let own = (class externs t).contents in
      let rest = all_contents (map (class externs) (drop (i + 1) ts)) in
      let all : length (all_contents (map (class externs) (drop i ts))) ≡ length own + length rest =
      ap (λ xs. length (all_contents (map (class externs) xs))) (drop_at ts i t h e) ∙ length-append own rest in
      omega (arith, all)

front : (xs : List TypeId) (id : TypeId) → take (length xs) (xs ++ id ∷ []) ≡ xs
front [] id = refl
front (x ∷ xs) id = ap (λ ys. x ∷ ys) (front xs id)

-- a path without the type that it was entered by
pub left : (outer inner now new : List TypeId) (id : TypeId) → inner ≡ outer ++ id ∷ [] → now ≡ inner → new ≡ take (length now - 1) now → new ≡ outer
left outer inner now new id ei eo hn =
    let whole = outer ++ id ∷ [] in
    let count : length whole ≡ length outer + 1 = length-append outer (id ∷ []) in
    hn
    ∙ (ap (λ xs. take (length xs - 1) xs) (eo ∙ ei)
    ∙ (ap (λ n. take n whole) {x = length whole - 1} {y = length outer} (omega (arith, count)) ∙ front outer id))
