-- What stands in the braces of a type is its members.
use Rattle.std.proofs.Common.{◌≡◌, ℕ, suc, ◌+◌, nat_eq, Bool, true, false, if◌then◌else◌, List, [], ◌∷◌, ◌++◌, length, take, Option, None, Some, refl, ◌∙◌, append-nil}
use Rattle.ilasm_grammar.specs.Ilasm.{ilasm, rule_by, has_bit}
use Rattle.ilasm_grammar.specs.declared.nonterminals.TheConstants as n
use Rattle.ilasm_grammar.specs.declared.productions.TheConstants as p
use Rattle.type_terms.specs.declared.name.TypeId.{TypeId}
use Rattle.assembly_tree.specs.declared.assembly.ExternAssembly.{ExternAssembly}
use Rattle.assembly_tree.specs.declared.members.Attribute.{Attribute}
use Rattle.assembly_tree.specs.declared.members.Event.{Event}
use Rattle.assembly_tree.specs.declared.members.Field.{Field}
use Rattle.assembly_tree.specs.declared.members.Generic.{Generic}
use Rattle.assembly_tree.specs.declared.members.Method.{Method}
use Rattle.assembly_tree.specs.declared.members.Property.{Property}
use Rattle.assembly_tree.specs.declared.typedef.Layout.{Layout}
use Rattle.assembly_tree.specs.declared.typedef.TypeDef.TheOpen.{TypeDef-F}
use Rattle.source_model.specs.Items.{members}
use Rattle.source_model.specs.Source.{Source}
use Rattle.listing_class_heads.specs.Laws.{Head, class_shown}
use Rattle.listing_groups.specs.Laws.{method_items, property_items, event_items}
use Rattle.listing_model.specs.Classes.{ClassShown, layout_lines, typar_member, classes_from, class_members}
use Rattle.listing_model.specs.Grown.{body_of, Grows}
use Rattle.listing_model.specs.Members.{fields, field_contents, behind_field, typar_line, typar_lines}
use Rattle.listing_model.specs.Shown.{Shown, Item}
use Rattle.listing_model.specs.Values.{customs}
use Rattle.listing_reading.specs.Below.{below, cant_stand}
use Rattle.listing_reading.specs.BelowMasks.{below_masks}
use Rattle.listing_reading.specs.Laws.{SearchesPass, RowsAreRead}
use Rattle.listing_reading.specs.Numbered.{numbered, Agrees, rest, place}
use Rattle.listing_reading.specs.Rows.{AreAmong, parts_at}
use Rattle.listing_rows.specs.Laws.{SegmentsAreRead, PiecesAreRead}
use Rattle.listing_rows.specs.Segments.{ItemsAgree, EachGrown}
use Rattle.listing_classes.specs.Laws.{member_parts, members_place, ClassBodiesAreRead}

-- ---- the members of a listing are such

module _ (segments : SegmentsAreRead) (externs : List ExternAssembly) where
  among_lines : (l : Option Layout) → AreAmong member_parts (layout_lines l)
  among_lines None = tt
  among_lines (Some l) = (refl, (refl, tt))

  among_customs : (xs : List Attribute) → AreAmong member_parts (customs externs p.MEMBER_CUSTOM xs)
  among_customs [] = tt
  among_customs (x ∷ xs) = (refl, among_customs xs)

  among_typar : (c : Bool) (xs : List Attribute) (k : ℕ) → AreAmong member_parts (if c then [] else typar_member k ∷ customs externs p.MEMBER_CUSTOM xs)
  among_typar true xs k = tt
  among_typar false xs k = (refl, among_customs xs)

  among_typars : (gs : List Generic) (k : ℕ) → AreAmong member_parts (typar_lines externs typar_member p.MEMBER_CUSTOM k gs)
  among_typars [] k = tt
  among_typars (x ∷ gs) k =
      segments.among member_parts (typar_line externs typar_member p.MEMBER_CUSTOM k x) (typar_lines externs typar_member p.MEMBER_CUSTOM (suc k) gs)
      (among_typar (nat_eq (length x.attributes) 0) x.attributes k) (among_typars gs (suc k))

  among_fields : (xs : List Field) (k : ℕ) → AreAmong member_parts (fields externs p.MEMBER_FIELD p.MEMBER_CUSTOM k xs)
  among_fields [] k = tt
  among_fields (x ∷ xs) k = (
    refl,
    segments.among member_parts (customs externs p.MEMBER_CUSTOM x.attributes) (fields externs p.MEMBER_FIELD p.MEMBER_CUSTOM (behind_field k x.content) xs)
        (among_customs x.attributes) (among_fields xs (behind_field k x.content)),
  )

  among_methods : (ms : List Method) → AreAmong member_parts (method_items externs p.MEMBER_METHOD ms)
  among_methods [] = tt
  among_methods (m ∷ ms) = (refl, among_methods ms)

  among_properties : (path : List TypeId) (ms : List Method) (xs : List Property) → AreAmong member_parts (property_items externs path ms xs)
  among_properties path ms [] = tt
  among_properties path ms (x ∷ xs) = (refl, among_properties path ms xs)

  among_events : (path : List TypeId) (ms : List Method) (xs : List Event) → AreAmong member_parts (event_items externs path ms xs)
  among_events path ms [] = tt
  among_events path ms (x ∷ xs) = (refl, among_events path ms xs)

  among_classes : (path : List TypeId) (cs : List ClassShown) (k : ℕ) → AreAmong member_parts (classes_from p.MEMBER_CLASS path k cs)
  among_classes path [] k = tt
  among_classes path (c ∷ cs) k = (refl, among_classes path cs (k + length c.contents))

  among : (t : TypeDef-F ClassShown) (path : List TypeId) (k : ℕ) → AreAmong member_parts (class_members externs t path k)
  among t path k =
      let lines = layout_lines t.layout in
      let own = customs externs p.MEMBER_CUSTOM t.attributes in
      let ts = typar_lines externs typar_member p.MEMBER_CUSTOM 1 t.generics in
      let fs = fields externs p.MEMBER_FIELD p.MEMBER_CUSTOM k t.fields in
      let ms = method_items externs p.MEMBER_METHOD t.methods in
      let xs = property_items externs path t.methods t.properties in
      let es = event_items externs path t.methods t.events in
      let next = k + length (field_contents t.fields) in
      let cs = classes_from p.MEMBER_CLASS path next t.nested in
      segments.among member_parts lines (own ++ (ts ++ (fs ++ (ms ++ (xs ++ (es ++ cs)))))) (among_lines t.layout)
      (segments.among member_parts own (ts ++ (fs ++ (ms ++ (xs ++ (es ++ cs))))) (among_customs t.attributes)
      (segments.among member_parts ts (fs ++ (ms ++ (xs ++ (es ++ cs)))) (among_typars t.generics 1)
      (segments.among member_parts fs (ms ++ (xs ++ (es ++ cs))) (among_fields t.fields k)
      (segments.among member_parts ms (xs ++ (es ++ cs)) (among_methods t.methods)
      (segments.among member_parts xs (es ++ cs) (among_properties path t.methods t.properties)
      (segments.among member_parts es cs (among_events path t.methods t.events) (among_classes path t.nested next)))))))

-- ---- the braces

no_member_before : cant_stand member_parts (take 7 (body_of p.CLASS)) ≡ true
unfolding ilasm rule_by has_bit below below_masks
no_member_before = refl

module _ (searches : SearchesPass) (rows : RowsAreRead) (segments : SegmentsAreRead) (pieces : PiecesAreRead) (externs : List ExternAssembly) (h : Head) (items : List Item) where
  abbrev shown : Shown
  shown = class_shown externs h items

  parts_are : AreAmong member_parts items → Grows (body_of p.CLASS) shown → (at : ℕ) → members (numbered at shown) ≡ parts_at (members_place externs h items at) items
  parts_are all grown at =
      searches.parts member_parts 7 (body_of p.CLASS) no_member_before shown grown at
      ∙ (rows.star member_parts p.MEMBER_STAR_MORE p.MEMBER_STAR_END refl refl items all (place 7 at shown) (numbered (place 8 at shown) (rest 8 shown))
      ∙ append-nil (parts_at (place 7 at shown) items))

  agree_are : (s : Source) (at : ℕ) → Agrees s at shown → ItemsAgree s (members_place externs h items at) items
  agree_are s at ag = segments.row s p.MEMBER_STAR_MORE p.MEMBER_STAR_END items (place 7 at shown) ag.1.1.1.1.1.1.1.0

  grown_are : Grows (body_of p.CLASS) shown → EachGrown n.MEMBER items
  unfolding ilasm rule_by
  grown_are grown = pieces.grown n.MEMBER n.MEMBER_STAR p.MEMBER_STAR_MORE p.MEMBER_STAR_END refl items (searches.rest 7 (body_of p.CLASS) shown grown).1

pub class_bodies_are_read : SearchesPass → RowsAreRead → SegmentsAreRead → PiecesAreRead → ClassBodiesAreRead
class_bodies_are_read searches rows segments pieces = record {
  among = λ externs t path k. among segments externs t path k;
  parts = λ externs h items all grown at. parts_are searches rows segments pieces externs h items all grown at;
  agree = λ s externs h items at ag. agree_are searches rows segments pieces externs h items s at ag;
  grown = λ externs h items grown. grown_are searches rows segments pieces externs h items grown;
}
