-- What rows own, table by table.
use Rattle.std.proofs.Common.{◌≡◌, ap, ◌∙◌, refl, ℕ, List, [], ◌∷◌, ◌++◌, map, Option}
use Rattle.std.specs.Borrow.{Bor}
use Rattle.std.specs.List.{enumerate_from}
use Rattle.std.proofs.lemmas.List.{map-append}
use Rattle.assembly_tree.specs.declared.assembly.Assembly.{Assembly}
use Rattle.assembly_tree.specs.declared.members.Attribute.{Attribute}
use Rattle.assembly_tree.specs.declared.members.Constant.{Constant}
use Rattle.assembly_tree.specs.declared.members.Event.{Event}
use Rattle.assembly_tree.specs.declared.members.Field.{Field}
use Rattle.assembly_tree.specs.declared.members.Generic.{Generic}
use Rattle.assembly_tree.specs.declared.members.Method.{Method}
use Rattle.assembly_tree.specs.declared.members.Param.{Param}
use Rattle.assembly_tree.specs.declared.members.Property.{Property}
use Rattle.assembly_tree.specs.declared.typedef.TypeDef.{TypeDef}
use Rattle.image_rows.specs.AttributeRows.{tables_of}
use Rattle.image_members.specs.ConstantRows.{stated_constant, with_constants}
use Rattle.image_members.specs.GenericRows.{counted}
use Rattle.image_members.specs.Lists.{Owned, type_attributes, type_generics, class_generics, attribute_lists, constant_lists, generic_lists, generics_in}
use Rattle.image_members.specs.Ordered.{IsOrdered}
use Rattle.image_members.specs.Places.{lent, type_of}
use Rattle.image_rows.specs.declared.attribute_rows.Attributed.{Attributed}
use Rattle.image_members.specs.declared.classes.Class.{Class}
use Rattle.image_members.specs.declared.constant_rows.Valued.{Valued}
use Rattle.image_members.specs.declared.generic_rows.Parametric.{Parametric}
use Rattle.image_members.specs.declared.order.Ordered.{Ordered}

-- ---- tables one by one

map-map : {X Y Z : Type 0} (g : Y → Z) (f : X → Y) (xs : List X) → map g (map f xs) ≡ map (λ (x : X). g (f x)) xs
map-map g f [] = refl
map-map g f (x ∷ xs) = ap (λ ys. g (f x) ∷ ys) (map-map g f xs)

module _ {X : Type 0} where
  -- one more at the end of what is known
  pub next : {old new known : List X} (x : X) → old ≡ known → new ≡ old ++ x ∷ [] → new ≡ known ++ x ∷ []
  next x e h = h ∙ ap (λ ys. ys ++ x ∷ []) e

  pub both : {x y : X} {xs ys : List X} → x ≡ y → xs ≡ ys → x ∷ xs ≡ y ∷ ys
  both {x} {y} {xs} {ys} e h = ap (λ z. z ∷ xs) e ∙ ap (λ zs. y ∷ zs) h

pub same_table : {X : Type 0} (table : ℕ) {xs ys : List X} → xs ≡ ys → ◌≡◌ {A = ℕ × List X} (table, xs) (table, ys)
same_table table e = ap (λ zs. (table, zs)) e

pub table_added : (old new : List Attributed) (table : ℕ) (of : List (Bor (List Attribute))) → new ≡ old ++ record { table = table; of = of } ∷ []
    → tables_of new ≡ tables_of old ++ (table, lent of) ∷ []
table_added old new table of e = ap tables_of e ∙ map-append (λ (t : Attributed). (t.table, lent t.of)) old (record { table = table; of = of } ∷ [])

-- ---- all that is declared

module _ (a : Assembly) (classes : List Class) (o : Ordered) (h : IsOrdered a classes o) where
  of_classes : {Y : Type 0} (f : TypeDef → Y) → map f (lent o.types) ≡ map (λ (c : Class). f c.of.now) classes
  of_classes f = ap (map f) h.types ∙ map-map f type_of classes

  pub generics_listed : (tables : List Parametric) (types methods : List (Bor (List Generic)))
      → tables ≡ record { table = 0x02; of = types } ∷ record { table = 0x06; of = methods } ∷ []
      → lent types ≡ [] ∷ map type_generics (lent o.types) → lent methods ≡ map (λ (m : Method). m.generics) (lent o.methods)
      → map counted tables ≡ generic_lists a classes
  generics_listed tables types methods e t m =
      ap (map counted) e
      ∙ both
      (same_table 0x02 (ap (map (λ (gs : List Generic). enumerate_from 0 gs)) (t ∙ ap (λ ts. [] ∷ ts) (of_classes type_generics)) ∙ ap (λ ts. [] ∷ ts) (map-map (λ (gs : List Generic). enumerate_from 0 gs) class_generics classes)))
      (both
      (same_table 0x06 (ap (map (λ (gs : List Generic). enumerate_from 0 gs)) (m ∙ ap (map (λ (x : Method). x.generics)) h.methods) ∙ map-map (λ (gs : List Generic). enumerate_from 0 gs) (λ (x : Method). x.generics) _))
      refl)

  pub attributes_listed : (tables : List (Owned Attribute)) (generics : List Generic) (none : List Attribute) → none ≡ [] → generics ≡ generics_in a classes
      → tables
      ≡ (0x06, map (λ (m : Method). m.attributes) (lent o.methods)) ∷ (0x04, map (λ (f : Field). f.attributes) (lent o.fields)) ∷ (0x02, none ∷ map type_attributes (lent o.types))
      ∷ (0x08, map (λ (p : Param). p.attributes) (lent o.params)) ∷ (0x00, a.manifest.module_attributes ∷ []) ∷ (0x17, map (λ (p : Property). p.attributes) (lent o.properties))
      ∷ (0x14, map (λ (e : Event). e.attributes) (lent o.events)) ∷ (0x20, a.manifest.attributes ∷ []) ∷ (0x2A, map (λ (g : Generic). g.attributes) generics) ∷ []
      → tables ≡ attribute_lists a classes
  attributes_listed tables generics none n g e =
      e
      ∙ both (same_table 0x06 (ap (map (λ (m : Method). m.attributes)) h.methods))
      (both (same_table 0x04 (ap (map (λ (f : Field). f.attributes)) h.fields))
      (both (same_table 0x02 (both n (of_classes type_attributes)))
      (both (same_table 0x08 (ap (map (λ (p : Param). p.attributes)) h.params))
      (both refl
      (both (same_table 0x17 (ap (map (λ (p : Property). p.attributes)) h.properties))
      (both (same_table 0x14 (ap (map (λ (e : Event). e.attributes)) h.events))
      (both refl
      (both (same_table 0x2A (ap (map (λ (g : Generic). g.attributes)) g)) refl))))))))

  pub constants_listed : (tables : List Valued) (fields params properties : List (Bor (Option Constant)))
      → tables ≡ record { table = 0x04; of = fields } ∷ record { table = 0x08; of = params } ∷ record { table = 0x17; of = properties } ∷ []
      → lent fields ≡ map (λ (f : Field). f.constant) (lent o.fields) → lent params ≡ map (λ (p : Param). p.constant) (lent o.params)
      → lent properties ≡ map (λ (p : Property). p.constant) (lent o.properties)
      → map with_constants tables ≡ constant_lists a classes
  constants_listed tables fields params properties e f p q =
      ap (map with_constants) e
      ∙ both (same_table 0x04 (ap (map stated_constant) (f ∙ ap (map (λ (x : Field). x.constant)) h.fields) ∙ map-map stated_constant (λ (x : Field). x.constant) _))
      (both (same_table 0x08 (ap (map stated_constant) (p ∙ ap (map (λ (x : Param). x.constant)) h.params) ∙ map-map stated_constant (λ (x : Param). x.constant) _))
      (both (same_table 0x17 (ap (map stated_constant) (q ∙ ap (map (λ (x : Property). x.constant)) h.properties) ∙ map-map stated_constant (λ (x : Property). x.constant) _)) refl))
