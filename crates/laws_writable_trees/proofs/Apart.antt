-- No two types of a well-formed assembly have one encloser and one name, and none is in the place of `<Module>`.
use Rattle.std.proofs.Common.{◌≡◌, ◌⊎◌, ap, refl, sym, ◌∙◌, subst, ℕ, zero, suc, ◌+◌, ◌<◌, ◌≤◌, Bool, true, false, true≢false, nat_eq, List, [], ◌∷◌, ◌++◌, map, length, Some, inl, inr, arith}
use Rattle.std.specs.Prelude.{IsTrue, slice_get}
use Rattle.std.specs.List.{AllByRecursion, list_any}
use Rattle.std.proofs.lemmas.Bool.{not-true, or_parts, eq-eqb, and_from}
use Rattle.std.proofs.lemmas.List.{map-append, length-append}
use Rattle.std.proofs.lemmas.Option.{same_Some}
use lib.Pointwise.{pointwise}
use Rattle.type_terms.specs.declared.name.TypeId.{TypeId}
use Rattle.assembly_tree.specs.DataSize.{is_id}
use Rattle.assembly_tree.specs.WellFormedNames.{is_module}
use Rattle.assembly_tree.specs.WellFormedTypes.{is_same_id, are_types}
use Rattle.assembly_tree.specs.declared.assembly.Assembly.{Assembly}
use Rattle.assembly_tree.specs.declared.typedef.TypeDef.{TypeDef}
use Rattle.assembly_tree.specs.declared.typedef.TypeDef.TheViews.{out-TypeDef}
use Rattle.assembly_tree.proofs.FormedFacts.{heads_named, types_named}
use Rattle.image_members.specs.Classes.{AreClasses, none, more}
use Rattle.image_members.specs.Declaring.{Place, module_place, class_id, class_place, places, AreApart}
use Rattle.image_members.specs.declared.classes.Class.{Class}
use Rattle.laws_writable_trees.proofs.Each.{each_from, each_joined, each_mapped}
use Rattle.laws_writable_trees.proofs.Classes.{first_of_types}

-- ---- places that differ

-- none is like a later one
Differ : List Place → Type 0
Differ [] = Unit {0}
Differ (p ∷ ps) = AllByRecursion (λ (q : Place). p ≡ q → ⊥) ps × Differ ps

not_later : (p : Place) (ps : List Place) → AllByRecursion (λ (q : Place). p ≡ q → ⊥) ps → (k : ℕ) → slice_get ps k ≡ Some p → ⊥
not_later p [] h k e = absurd cc
not_later p (q ∷ ps) h zero e = h.0 (sym (same_Some q p e))
not_later p (q ∷ ps) h (suc k) e = not_later p ps h.1 k e

apart_from : (ps : List Place) → Differ ps → AreApart ps
unfolding Differ
apart_from [] h j k p e f = absurd cc
apart_from (q ∷ ps) h zero zero p e f = refl
apart_from (q ∷ ps) h zero (suc k) p e f = absurd (not_later p ps (subst (λ (x : Place). AllByRecursion (λ (y : Place). x ≡ y → ⊥) ps) (same_Some q p e) h.0) k f)
apart_from (q ∷ ps) h (suc j) zero p e f = absurd (not_later p ps (subst (λ (x : Place). AllByRecursion (λ (y : Place). x ≡ y → ⊥) ps) (same_Some q p f) h.0) j e)
apart_from (q ∷ ps) h (suc j) (suc k) p e f = ap suc (apart_from ps h.1 j k p e f)

-- enclosers within bounds, and outside of them
abbrev Inside : ℕ → ℕ → Place → Type 0
Inside low high p = (low ≤ p.encloser) × (p.encloser < high)

abbrev Outside : ℕ → ℕ → Place → Type 0
Outside low high p = (p.encloser < low) ⊎ (high ≤ p.encloser)

no_common : (low high : ℕ) (p q : Place) → Inside low high p → Outside low high q → p ≡ q → ⊥
no_common low high p q h (inl o) e = let same = ap (λ (x : Place). x.encloser) e in omega arith
no_common low high p q h (inr o) e = let same = ap (λ (x : Place). x.encloser) e in omega arith

differ_joined : (low high : ℕ) (ps qs : List Place) → AllByRecursion (Inside low high) ps → AllByRecursion (Outside low high) qs → Differ ps → Differ qs → Differ (ps ++ qs)
unfolding Differ
differ_joined low high [] qs h k d e = e
differ_joined low high (p ∷ ps) qs h k d e =
    (each_joined (λ (q : Place). p ≡ q → ⊥) ps qs d.0 (each_from (Outside low high) (λ (q : Place). p ≡ q → ⊥) (λ q o. no_common low high p q h.0 o) qs k), differ_joined low high ps qs h.1 k d.1 e)

-- ---- where classes stand

-- beside one another, with such a name, or in one of those from this row on
abbrev Stands : (TypeId → Type 0) → ℕ → ℕ → ℕ → Class → Type 0
Stands Q encloser low high c = ((c.encloser ≡ encloser) × Q (class_id c)) ⊎ Inside low high (class_place c)

wider : (Q : TypeId → Type 0) (encloser low high least most : ℕ) → least ≤ low → high ≤ most → (c : Class) → Stands Q encloser low high c → Stands Q encloser least most c
wider Q encloser low high least most a b c (inl h) = inl h
wider Q encloser low high least most a b c (inr h) = inr (omega arith, omega arith)

-- those in a type have its row or a later one
inner_stands : (Q : TypeId → Type 0) (encloser row high most : ℕ) → row < most → high ≤ most → (c : Class) → Stands (λ id. Unit {0}) row (row + 1) high c → Inside row most (class_place c)
inner_stands Q encloser row high most a b c (inl h) = let same = h.0 in (omega arith, omega arith)
inner_stands Q encloser row high most a b c (inr h) = (omega arith, omega arith)

all_ids : (types : List TypeDef) → AllByRecursion (λ (t : TypeDef). Unit {0}) types
all_ids [] = tt
all_ids (t ∷ types) = (tt, all_ids types)

stand_each : (Q : TypeId → Type 0) (encloser row : ℕ) (types : List TypeDef) (classes : List Class) → AreClasses encloser row types classes
    → AllByRecursion (λ (t : TypeDef). Q (out-TypeDef t).id) types → AllByRecursion (Stands Q encloser row (row + length classes)) classes
stand_each Q encloser row types classes (none e f) h = subst (λ (cs : List Class). AllByRecursion (Stands Q encloser row (row + length classes)) cs) (sym f) tt
stand_each Q encloser row types classes (more {type = type} {beside = beside} {class = class} {nested = nested} {others = others} of in_it inner side e f) h =
    let named = subst (λ (ts : List TypeDef). AllByRecursion (λ (t : TypeDef). Q (out-TypeDef t).id) ts) e h in
    let long : length classes ≡ 1 + length nested + length others = ap (length {A = Class}) f ∙ (let both = length-append nested others in omega arith) in
    let own : Stands Q encloser row (row + length classes) class = inl (in_it, subst (λ (t : TypeDef). Q (out-TypeDef t).id) (sym of) named.0) in
    let its =
    each_from (Stands (λ id. Unit {0}) row (row + 1) (row + 1 + length nested)) (Stands Q encloser row (row + length classes))
    (λ c s. inr (inner_stands Q encloser row (row + 1 + length nested) (row + length classes) (omega arith) (omega arith) c s)) nested
    (stand_each (λ id. Unit {0}) row (row + 1) (out-TypeDef type).nested nested inner (all_ids (out-TypeDef type).nested)) in
    let rest =
    each_from (Stands Q encloser (row + 1 + length nested) (row + 1 + length nested + length others)) (Stands Q encloser row (row + length classes))
    (wider Q encloser (row + 1 + length nested) (row + 1 + length nested + length others) row (row + length classes) (omega arith) (omega arith)) others
    (stand_each Q encloser (row + 1 + length nested) beside others side named.1) in
    subst (AllByRecursion (Stands Q encloser row (row + length classes))) (sym f) (own, each_joined (Stands Q encloser row (row + length classes)) nested others its rest)

-- ---- names that differ

own_text : (x : List ℕ) → IsTrue (pointwise nat_eq x x)
own_text [] = refl
own_text (n ∷ x) = and_from (nat_eq n n) (pointwise nat_eq x x) (eq-eqb n n refl) (own_text x)

own_id : (id : TypeId) → IsTrue (is_id id id)
own_id id = and_from (pointwise nat_eq id.space id.space) (pointwise nat_eq id.name id.name) (own_text id.space) (own_text id.name)

other_id : (a b : TypeId) → is_id a b ≡ false → a ≡ b → ⊥
other_id a b h e = true≢false (sym (own_id a) ∙ subst (λ (x : TypeId). is_id a x ≡ false) (sym e) h)

others_differ : (t : TypeDef) (beside : List TypeDef) → list_any (is_same_id t) beside ≡ false → AllByRecursion (λ (u : TypeDef). (out-TypeDef t).id ≡ (out-TypeDef u).id → ⊥) beside
others_differ t [] h = tt
others_differ t (u ∷ beside) h =
    let both = or_parts (is_same_id t u) (list_any (is_same_id t) beside) h in
    (other_id (out-TypeDef t).id (out-TypeDef u).id both.0, others_differ t beside both.1)

-- ---- all places differ

-- a class and one beside its type, or one further in
not_beside : (c : Class) (id : TypeId) (encloser row most : ℕ) → c.encloser ≡ encloser → class_id c ≡ id → encloser < row → (d : Class) → Stands (λ (x : TypeId). id ≡ x → ⊥) encloser row most d
    → class_place c ≡ class_place d → ⊥
not_beside c id encloser row most at is low d (inl h) e = h.1 (sym is ∙ ap (λ (p : Place). p.id) e)
not_beside c id encloser row most at is low d (inr h) e = let same : c.encloser ≡ d.encloser = ap (λ (p : Place). p.encloser) e in omega arith

not_inside : (c : Class) (encloser row most : ℕ) → c.encloser ≡ encloser → encloser < row → (d : Class) → Inside row most (class_place d) → class_place c ≡ class_place d → ⊥
not_inside c encloser row most at low d h e = let same : c.encloser ≡ d.encloser = ap (λ (p : Place). p.encloser) e in omega arith

outer_stands : (Q : TypeId → Type 0) (encloser row low high : ℕ) → encloser < row → (c : Class) → Stands Q encloser low high c → Outside row low (class_place c)
outer_stands Q encloser row low high a c (inl h) = let same = h.0 in inl (omega arith)
outer_stands Q encloser row low high a c (inr h) = inr h.0

module _ (a : Assembly) where
  classes_differ : (top : Bool) (depth encloser row : ℕ) (types : List TypeDef) (classes : List Class) → AreClasses encloser row types classes → encloser < row
      → IsTrue (are_types a top depth types) → Differ (map class_place classes)
  unfolding Differ
  classes_differ top depth encloser row types classes (none e f) low h = subst (λ (cs : List Class). Differ (map class_place cs)) (sym f) tt
  classes_differ top depth encloser row types classes (more {type = type} {beside = beside} {class = class} {nested = nested} {others = others} of in_it inner side e f) low h =
      let first = first_of_types a top depth type beside (subst (λ (ts : List TypeDef). IsTrue (are_types a top depth ts)) e h) in
      let next = row + 1 + length nested in
      let id = (out-TypeDef type).id in
      let its = classes_differ false first.below row (row + 1) (out-TypeDef type).nested nested inner (omega arith) first.nested in
      let rest = classes_differ top depth encloser next beside others side (omega arith) first.others in
      let inside =
      each_from (Stands (λ x. Unit {0}) row (row + 1) (row + 1 + length nested)) (λ c. Inside row next (class_place c))
      (inner_stands (λ x. Unit {0}) encloser row (row + 1 + length nested) next (omega arith) (omega arith)) nested
      (stand_each (λ x. Unit {0}) row (row + 1) (out-TypeDef type).nested nested inner (all_ids (out-TypeDef type).nested)) in
      let beside_it = stand_each (λ (x : TypeId). id ≡ x → ⊥) encloser next beside others side (others_differ type beside (not-true (list_any (is_same_id type) beside) first.differ)) in
      let joined =
      differ_joined row next (map class_place nested) (map class_place others) (each_mapped (Inside row next) class_place nested inside)
      (each_mapped (Outside row next) class_place others
      (each_from (Stands (λ (x : TypeId). id ≡ x → ⊥) encloser next (next + length others)) (λ c. Outside row next (class_place c)) (outer_stands (λ (x : TypeId). id ≡ x → ⊥) encloser row next (next + length others) low) others beside_it))
      its rest in
      let apart =
      each_joined (λ (d : Class). class_place class ≡ class_place d → ⊥) nested others
      (each_from (λ c. Inside row next (class_place c)) (λ (d : Class). class_place class ≡ class_place d → ⊥) (not_inside class encloser row next in_it low) nested inside)
      (each_from (Stands (λ (x : TypeId). id ≡ x → ⊥) encloser next (next + length others)) (λ (d : Class). class_place class ≡ class_place d → ⊥)
      (not_beside class id encloser next (next + length others) in_it (ap (λ (t : TypeDef). (out-TypeDef t).id) of) (omega arith)) others beside_it) in
      let both = subst Differ (sym (map-append class_place nested others)) joined in
      subst (λ (cs : List Class). Differ (map class_place cs)) (sym f) (each_mapped (λ (q : Place). class_place class ≡ q → ⊥) class_place (nested ++ others) apart, both)

  -- ---- `<Module>`

  tops_named : (depth : ℕ) (types : List TypeDef) → IsTrue (are_types a true depth types) → AllByRecursion (λ (t : TypeDef). IsTrue (is_module (out-TypeDef t).id) → ⊥) types
  tops_named depth [] h = tt
  tops_named depth (t ∷ types) h =
      let first = first_of_types a true depth t types h in
      let head = (heads_named a true (out-TypeDef t)).0 ((types_named a true (out-TypeDef t)).0 first.own).head in
      (λ m. true≢false (sym m ∙ not-true (is_module (out-TypeDef t).id) head.not_module), tops_named depth types first.others)

  not_module : (high : ℕ) (c : Class) → Stands (λ (x : TypeId). IsTrue (is_module x) → ⊥) 0 2 high c → module_place ≡ class_place c → ⊥
  not_module high c (inl h) e = h.1 (subst (λ (p : Place). IsTrue (is_module p.id)) e refl)
  not_module high c (inr h) e = let same : 0 ≡ c.encloser = ap (λ (p : Place). p.encloser) e in omega arith

  pub places_apart : (classes : List Class) → AreClasses 0 2 a.types classes → IsTrue (are_types a true 100 a.types) → AreApart (places classes)
  unfolding Differ
  places_apart classes are h =
      let tops = stand_each (λ (x : TypeId). IsTrue (is_module x) → ⊥) 0 2 a.types classes are (tops_named 100 a.types h) in
      let others =
      each_mapped (λ (q : Place). module_place ≡ q → ⊥) class_place classes
      (each_from (Stands (λ (x : TypeId). IsTrue (is_module x) → ⊥) 0 2 (2 + length classes)) (λ (c : Class). module_place ≡ class_place c → ⊥) (not_module (2 + length classes)) classes tops) in
      apart_from (places classes) (others, classes_differ true 100 0 2 a.types classes are (omega arith) h)
