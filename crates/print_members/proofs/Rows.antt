-- Rows of attributes, generic parameters, fields and accessors, drawn one after the other.
use Rattle.std.proofs.Common.{◌≡◌, ℕ, suc, ◌==◌, Bool, true, false, cond, List, [], ◌∷◌, ◌++◌, length, map, fold, Option, None, Some, refl, ap, sym, ◌∙◌}
use Rattle.std.specs.Prelude.{slice_get}
use Rattle.std.specs.List.{flat_map}
use Rattle.il_lexer.specs.declared.word.TheConstants as word
use Rattle.ilasm_grammar.specs.declared.productions.TheConstants as p
use Rattle.type_terms.specs.declared.name.TypeId.{TypeId}
use Rattle.assembly_tree.specs.declared.assembly.ExternAssembly.{ExternAssembly}
use Rattle.assembly_tree.specs.declared.members.Accessor.{Accessor}
use Rattle.assembly_tree.specs.declared.members.Attribute.{Attribute}
use Rattle.assembly_tree.specs.declared.members.Event.{Event}
use Rattle.assembly_tree.specs.declared.members.Field.{Field}
use Rattle.assembly_tree.specs.declared.members.Generic.{Generic}
use Rattle.assembly_tree.specs.declared.members.Method.{Method}
use Rattle.assembly_tree.specs.declared.members.Property.{Property}
use Rattle.listing_model.specs.Members.{typar_key, typar_line, typar_lines, field, fields, field_items, behind_field, own_reference, accessor_line, accessor, property, event}
use Rattle.listing_model.specs.References.{method_ref}
use Rattle.listing_model.specs.Shown.{none, Item, item, put, w, line}
use Rattle.listing_model.specs.Values.{custom, customs}
use Rattle.print_leaves.specs.Page.{Page, drawn}
use Rattle.print_terms.specs.Rows.{under, in_row}
use Rattle.print_terms.proofs.Rows.{star_row, row_append, row_map}
use Rattle.print_members.specs.Rows.{customs_drawn, typar_drawn, typars_drawn, field_drawn, fields_drawn, accessor_word, accessor_drawn, accessor_step, inner_drawn, property_head, event_head}

-- one row after another
pub row_flat : {X : Type 0} (f : X → List Item) (q : Page) (xs : List X) → in_row q (flat_map f xs) ≡ fold (λ r x. in_row r (f x)) q xs
row_flat f q [] = refl
row_flat f q (x ∷ xs) = row_append q (f x) (flat_map f xs) ∙ row_flat f (in_row q (f x)) xs

pub fold_same : {X : Type 0} (f g : Page → X → Page) → ((q : Page) (x : X) → f q x ≡ g q x) → (q : Page) (xs : List X) → fold f q xs ≡ fold g q xs
fold_same f g e q [] = refl
fold_same f g e q (x ∷ xs) = ap (λ r. fold f r xs) (e q x) ∙ fold_same f g e (g q x) xs

module _ (externs : List ExternAssembly) where
  -- ---- attributes

  pub customs_are : (production : ℕ) (q : Page) (attributes : List Attribute) →
      in_row q (customs externs production attributes) ≡ customs_drawn externs q attributes
  customs_are production q attributes = row_map (λ a. item production (put (custom externs a) none)) q attributes

  -- ---- generic parameters

  typar_by : (head : ℕ → Item) (production k : ℕ) (q : Page) (g : Generic) (t : Bool) →
      under q (head k) ≡ drawn q (line word.DOT_PARAM (typar_key k)) →
      in_row q (cond t [] (head k ∷ customs externs production g.attributes))
      ≡ cond t q (customs_drawn externs (drawn q (line word.DOT_PARAM (typar_key k))) g.attributes)
  typar_by head production k q g true e = refl
  typar_by head production k q g false e =
      customs_are production (under q (head k)) g.attributes ∙ ap (λ r. customs_drawn externs r g.attributes) e

  pub typars_are : (head : ℕ → Item) (production k : ℕ) (q : Page) (gs : List Generic) →
      ((r : Page) (j : ℕ) → under r (head j) ≡ drawn r (line word.DOT_PARAM (typar_key j))) →
      in_row q (typar_lines externs head production k gs) ≡ typars_drawn externs q k gs
  typars_are head production k q [] e = refl
  typars_are head production k q (g ∷ gs) e =
      row_append q (typar_line externs head production k g) (typar_lines externs head production (suc k) gs)
      ∙ (ap (λ r. in_row r (typar_lines externs head production (suc k) gs)) (typar_by head production k q g (length g.attributes == 0) (e q k))
      ∙ typars_are head production (suc k) (typar_drawn externs q k g) gs e)

  -- ---- fields

  pub fields_are : (production custom_production k : ℕ) (q : Page) (fs : List Field) →
      in_row q (fields externs production custom_production k fs) ≡ fields_drawn externs q k fs
  fields_are production custom_production k q [] = refl
  fields_are production custom_production k q (f ∷ fs) =
      let more = fields externs production custom_production (behind_field k f.content) fs in
      row_append q (field_items externs production custom_production k f) more
      ∙ (ap (λ r. in_row r more) (customs_are custom_production (under q (field externs k f)) f.attributes)
      ∙ fields_are production custom_production (behind_field k f.content) (field_drawn externs q k f) fs)

  -- ---- accessors

  line_is : (production k : ℕ) (path : List TypeId) (q : Page) (m : Option Method) →
      in_row q (accessor_line externs production k path m) ≡ accessor_drawn externs q k path m
  line_is production k path q None = refl
  line_is production k path q (Some m) = refl

  by_kind : (other : ℕ) (path : List TypeId) (q : Page) (m : Option Method) (a b c d e : Bool) →
      in_row q
      (cond a (accessor_line externs p.PROPERTY_ITEM_SET word.DOT_SET path m)
      (cond b (accessor_line externs p.PROPERTY_ITEM_GET word.DOT_GET path m)
      (cond c (accessor_line externs p.EVENT_ITEM_ADDON word.DOT_ADDON path m)
      (cond d (accessor_line externs p.EVENT_ITEM_REMOVEON word.DOT_REMOVEON path m)
      (cond e (accessor_line externs p.EVENT_ITEM_FIRE word.DOT_FIRE path m) (accessor_line externs other word.DOT_OTHER path m))))))
      ≡ accessor_drawn externs q
      (cond a word.DOT_SET (cond b word.DOT_GET (cond c word.DOT_ADDON (cond d word.DOT_REMOVEON (cond e word.DOT_FIRE word.DOT_OTHER)))))
      path m
  by_kind other path q m true b c d e = line_is p.PROPERTY_ITEM_SET word.DOT_SET path q m
  by_kind other path q m false true c d e = line_is p.PROPERTY_ITEM_GET word.DOT_GET path q m
  by_kind other path q m false false true d e = line_is p.EVENT_ITEM_ADDON word.DOT_ADDON path q m
  by_kind other path q m false false false true e = line_is p.EVENT_ITEM_REMOVEON word.DOT_REMOVEON path q m
  by_kind other path q m false false false false true = line_is p.EVENT_ITEM_FIRE word.DOT_FIRE path q m
  by_kind other path q m false false false false false = line_is other word.DOT_OTHER path q m

  pub accessors_are : (other : ℕ) (path : List TypeId) (methods : List Method) (q : Page) (xs : List Accessor) →
      in_row q (flat_map (accessor externs other path methods) xs) ≡ fold (accessor_step externs path methods) q xs
  accessors_are other path methods q xs =
      row_flat (accessor externs other path methods) q xs
      ∙ fold_same (λ r x. in_row r (accessor externs other path methods x)) (accessor_step externs path methods)
      (λ r x. by_kind other path r (slice_get methods x.method) (x.kind == 1) (x.kind == 2) (x.kind == 8) (x.kind == 0x10) (x.kind == 0x20)) q xs

  -- ---- properties and events

  -- accessors and attributes in braces
  inner_is : (other custom_production : ℕ) (path : List TypeId) (methods : List Method) (q : Page) (xs : List Accessor) (attributes : List Attribute) →
      in_row q (flat_map (accessor externs other path methods) xs ++ customs externs custom_production attributes)
      ≡ customs_drawn externs (fold (accessor_step externs path methods) q xs) attributes
  inner_is other custom_production path methods q xs attributes =
      row_append q (flat_map (accessor externs other path methods) xs) (customs externs custom_production attributes)
      ∙ (ap (λ r. in_row r (customs externs custom_production attributes)) (accessors_are other path methods q xs)
      ∙ customs_are custom_production (fold (accessor_step externs path methods) q xs) attributes)

  pub property_done : (path : List TypeId) (methods : List Method) (q a new : Page) (x : Property) (xs : List Accessor) (attributes : List Attribute) →
      xs ≡ x.accessors → attributes ≡ x.attributes → a ≡ drawn q (property_head externs x) →
      new ≡ inner_drawn externs path methods a xs attributes → new ≡ under q (property externs path methods x)
  unfolding property
  property_done path methods q a new x xs attributes ex ea ha hn =
      let open_page = drawn (drawn q (property_head externs x)) (line word.OPEN_BRACE none) in
      let items = flat_map (accessor externs p.PROPERTY_ITEM_OTHER path methods) x.accessors ++ customs externs p.PROPERTY_ITEM_CUSTOM x.attributes in
      hn
      ∙ (ap (λ r. inner_drawn externs path methods r xs attributes) ha
      ∙ (ap (λ ys. inner_drawn externs path methods (drawn q (property_head externs x)) ys attributes) ex
      ∙ (ap (λ ys. inner_drawn externs path methods (drawn q (property_head externs x)) x.accessors ys) ea
      ∙ ap (λ r. drawn r (line word.CLOSE_BRACE none))
      (sym (star_row p.PROPERTY_ITEM_STAR_MORE p.PROPERTY_ITEM_STAR_END open_page items
      ∙ inner_is p.PROPERTY_ITEM_OTHER p.PROPERTY_ITEM_CUSTOM path methods open_page x.accessors x.attributes)))))

  pub event_done : (path : List TypeId) (methods : List Method) (q a new : Page) (x : Event) (xs : List Accessor) (attributes : List Attribute) →
      xs ≡ x.accessors → attributes ≡ x.attributes → a ≡ drawn q (event_head externs x) →
      new ≡ inner_drawn externs path methods a xs attributes → new ≡ under q (event externs path methods x)
  unfolding event
  event_done path methods q a new x xs attributes ex ea ha hn =
      let open_page = drawn (drawn q (event_head externs x)) (line word.OPEN_BRACE none) in
      let items = flat_map (accessor externs p.EVENT_ITEM_OTHER path methods) x.accessors ++ customs externs p.EVENT_ITEM_CUSTOM x.attributes in
      hn
      ∙ (ap (λ r. inner_drawn externs path methods r xs attributes) ha
      ∙ (ap (λ ys. inner_drawn externs path methods (drawn q (event_head externs x)) ys attributes) ex
      ∙ (ap (λ ys. inner_drawn externs path methods (drawn q (event_head externs x)) x.accessors ys) ea
      ∙ ap (λ r. drawn r (line word.CLOSE_BRACE none))
      (sym (star_row p.EVENT_ITEM_STAR_MORE p.EVENT_ITEM_STAR_END open_page items
      ∙ inner_is p.EVENT_ITEM_OTHER p.EVENT_ITEM_CUSTOM path methods open_page x.accessors x.attributes)))))
