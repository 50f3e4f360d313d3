-- The parts of a well-formed assembly meet their conditions, in the order of their rows.
use Rattle.std.proofs.Common.{ℕ, zero, suc, ◌+◌, ◌&&◌, subst, sym, Bool, true, false, not, List, ◌∷◌, length, arith}
use Rattle.std.specs.Prelude.{IsTrue}
use Rattle.std.specs.List.{AllByRecursion, enumerate_from, flat_map, list_all, list_any}
use Rattle.std.proofs.lemmas.Bool.{and_parts, and_from, eqb-true}
use Rattle.assembly_tree.specs.WellFormed.{is_well_formed}
use Rattle.assembly_tree.specs.WellFormedFacts.{WellFormed, FormedHead, FormedType}
use Rattle.assembly_tree.specs.WellFormedMembers.{is_generic, is_field, is_method, is_param, is_property, is_event}
use Rattle.assembly_tree.specs.WellFormedNames.{all_differ}
use Rattle.assembly_tree.specs.WellFormedTypes.{is_own, is_same_id, are_types}
use Rattle.assembly_tree.specs.declared.assembly.Assembly.{Assembly}
use Rattle.assembly_tree.specs.declared.members.Event.{Event}
use Rattle.assembly_tree.specs.declared.members.Field.{Field}
use Rattle.assembly_tree.specs.declared.members.Generic.{Generic}
use Rattle.assembly_tree.specs.declared.members.Method.{Method}
use Rattle.assembly_tree.specs.declared.members.Param.{Param}
use Rattle.assembly_tree.specs.declared.members.Property.{Property}
use Rattle.assembly_tree.specs.declared.typedef.TypeDef.{TypeDef}
use Rattle.assembly_tree.specs.declared.typedef.TypeDef.TheViews.{out-TypeDef}
use Rattle.assembly_tree.proofs.FormedFacts.{assemblies_named, heads_named, types_named, methods_named}
use Rattle.metadata_tables.specs.declared.coded.Coded.TheVariants.{TypeOrMethodDef}
use Rattle.laws_image_indexes.proofs.EachLemmas.{each_weaker, each_joined, each_mapped, each_flat}
use Rattle.image_members.specs.Classes.{AreClasses, none, more}
use Rattle.image_members.specs.DeclaredMembers.{class_fields, class_methods}
use Rattle.image_members.specs.GenericRows.{generic_of}
use Rattle.image_members.specs.Lists.{longest_of, class_generics, generic_lists, generic_items, generics_in, params_in, properties_in, events_in}
use Rattle.image_members.specs.Places.{all_fields, all_methods, class_properties, class_events, params_of}
use Rattle.image_members.specs.declared.classes.Class.{Class}
use Rattle.laws_image_reading.proofs.cells.EachLemmas.{each_true, each_counted, each_by_number}

-- a type meets its conditions, at the top or nested
pub record IsOwn (a : Assembly) (c : Class) : Type 0 where
  pub top : Bool
  pub own : IsTrue (is_own a top (out-TypeDef c.of.now))

-- the first of types side by side, those that it nests, and those beside it
record AreFirst (a : Assembly) (top : Bool) (t : TypeDef) (beside : List TypeDef) (depth : ℕ) : Type 0 where
  pub own : IsTrue (is_own a top (out-TypeDef t))
  pub below : ℕ
  pub nested : IsTrue (are_types a false below (out-TypeDef t).nested)
  pub others : IsTrue (are_types a top depth beside)

-- a type, and those that it nests
abbrev is_fine : Assembly → Bool → ℕ → TypeDef → Bool
is_fine a top depth t = is_own a top (out-TypeDef t) && are_types a false depth (out-TypeDef t).nested

first_of_types : (a : Assembly) (top : Bool) (depth : ℕ) (t : TypeDef) (beside : List TypeDef) → IsTrue (are_types a top depth (t ∷ beside)) → AreFirst a top t beside depth
unfolding are_types
first_of_types a top zero t beside h = absurd (let none = eqb-true (length (t ∷ beside)) 0 h in omega arith)
first_of_types a top (suc depth) t beside h =
    let parts = and_parts (all_differ is_same_id (t ∷ beside)) (list_all (is_fine a top depth) (t ∷ beside)) h in
    let differ = and_parts (not (list_any (is_same_id t) beside)) (all_differ is_same_id beside) parts.0 in
    let each = and_parts (is_fine a top depth t) (list_all (is_fine a top depth) beside) parts.1 in
    let its = and_parts (is_own a top (out-TypeDef t)) (are_types a false depth (out-TypeDef t).nested) each.0 in
    record { own = its.0; below = depth; nested = its.1; others = and_from (all_differ is_same_id beside) (list_all (is_fine a top depth) beside) differ.1 each.1 }

classes_own : (a : Assembly) (top : Bool) (depth encloser row : ℕ) (types : List TypeDef) (classes : List Class) → AreClasses encloser row types classes
    → IsTrue (are_types a top depth types) → AllByRecursion (IsOwn a) classes
classes_own a top depth encloser row types classes (none e f) h = subst (AllByRecursion (IsOwn a)) (sym f) tt
classes_own a top depth encloser row types classes (more {type = type} {beside = beside} {class = class} {nested = nested} {others = others} of in_it inner side e f) h =
    let first = first_of_types a top depth type beside (subst (λ (ts : List TypeDef). IsTrue (are_types a top depth ts)) e h) in
    let own : IsOwn a class = record { top = top; own = subst (λ (t : TypeDef). IsTrue (is_own a top (out-TypeDef t))) (sym of) first.own } in
    let its = classes_own a false first.below row (row + 1) (out-TypeDef type).nested nested inner first.nested in
    let rest = classes_own a top depth encloser (row + 1 + length nested) beside others side first.others in
    subst (AllByRecursion (IsOwn a)) (sym f) (own, each_joined (IsOwn a) nested others its rest)

-- the parts of a type
module _ (a : Assembly) (c : Class) (h : IsOwn a c) where
  its : FormedType a h.top (out-TypeDef c.of.now)
  its = (types_named a h.top (out-TypeDef c.of.now)).0 h.own

  pub its_head : FormedHead a h.top (out-TypeDef c.of.now)
  its_head = (heads_named a h.top (out-TypeDef c.of.now)).0 its.head

-- ---- all of them, in the order of their rows

module _ (a : Assembly) (classes : List Class) (are : AreClasses 0 2 a.types classes) (formed : IsTrue (is_well_formed a)) where
  pub whole : WellFormed a
  whole = (assemblies_named a).0 formed

  pub formed_classes : AllByRecursion (IsOwn a) classes
  formed_classes = classes_own a true 100 0 2 a.types classes are whole.classes

  -- the parts of each class
  of_classes : {X : Type 0} (test : X → Bool) (parts : Class → List X) → ((c : Class) → IsOwn a c → IsTrue (list_all test (parts c)))
      → AllByRecursion (λ x. IsTrue (test x)) (flat_map parts classes)
  of_classes test parts f = each_flat (IsOwn a) (λ x. IsTrue (test x)) parts classes (λ c h. each_true test (parts c) (f c h)) formed_classes

  pub formed_fields : AllByRecursion (λ (f : Field). IsTrue (is_field a f)) (all_fields a classes)
  formed_fields =
      each_joined (λ (f : Field). IsTrue (is_field a f)) a.fields (flat_map class_fields classes) (each_true (is_field a) a.fields whole.fields)
      (of_classes (is_field a) class_fields (λ c h. (its a c h).fields))

  pub formed_methods : AllByRecursion (λ (m : Method). IsTrue (is_method a m)) (all_methods a classes)
  formed_methods =
      each_joined (λ (m : Method). IsTrue (is_method a m)) a.methods (flat_map class_methods classes) (each_true (is_method a) a.methods whole.methods)
      (of_classes (is_method a) class_methods (λ c h. (its a c h).methods))

  pub formed_properties : AllByRecursion (λ (p : Property). IsTrue (is_property a p)) (properties_in classes)
  formed_properties = of_classes (is_property a) class_properties (λ c h. (its a c h).properties)

  pub formed_events : AllByRecursion (λ (e : Event). IsTrue (is_event a e)) (events_in classes)
  formed_events = of_classes (is_event a) class_events (λ c h. (its a c h).events)

  pub formed_params : AllByRecursion (λ (p : Param). IsTrue (is_param a p)) (params_in a classes)
  formed_params =
      each_flat (λ (m : Method). IsTrue (is_method a m)) (λ (p : Param). IsTrue (is_param a p)) params_of (all_methods a classes)
      (λ m h. each_true (is_param a) m.params ((methods_named a m).0 h).params) formed_methods

  -- generic parameters with their numbers

  abbrev IsFormed : ℕ × Generic → Type 0
  IsFormed g = IsTrue (is_generic a g.1)

  counted : (gs : List Generic) → IsTrue (list_all (is_generic a) gs) → AllByRecursion IsFormed (enumerate_from 0 gs)
  counted gs h = each_counted (λ (g : Generic). IsTrue (is_generic a g)) 0 gs (each_true (is_generic a) gs h)

  pub formed_items : AllByRecursion (λ (x : ℕ × (ℕ × Generic)). IsFormed x.1) (generic_items a classes)
  formed_items =
      each_by_number IsFormed TypeOrMethodDef (generic_lists a classes) (longest_of (generic_lists a classes)) (
        (
          tt,
          each_mapped (AllByRecursion IsFormed) (λ c. enumerate_from 0 (class_generics c)) classes
              (each_weaker (IsOwn a) (λ c. AllByRecursion IsFormed (enumerate_from 0 (class_generics c))) classes (λ c h. counted (class_generics c) (its_head a c h).generics) formed_classes),
        ),
        (
          each_mapped (AllByRecursion IsFormed) (λ (m : Method). enumerate_from 0 m.generics) (all_methods a classes)
              (each_weaker (λ (m : Method). IsTrue (is_method a m)) (λ (m : Method). AllByRecursion IsFormed (enumerate_from 0 m.generics)) (all_methods a classes)
              (λ m h. counted m.generics ((methods_named a m).0 h).generics) formed_methods),
          tt,
        ),
      )

  pub formed_generics : AllByRecursion (λ (g : Generic). IsTrue (is_generic a g)) (generics_in a classes)
  formed_generics = each_mapped (λ (g : Generic). IsTrue (is_generic a g)) generic_of (generic_items a classes) formed_items
