-- Each row of what is declared is of 64 of the assembly's weight.
use Rattle.std.proofs.Common.{◌≡◌, ◌∙◌, ap, refl, sym, subst, ℕ, ◌+◌, ◌*◌, ◌<◌, ◌≤◌, List, [], ◌∷◌, ◌++◌, map, length, arith}
use Rattle.std.specs.Prelude.{sum_by}
use Rattle.std.specs.List.{flat_map}
use Rattle.std.proofs.lemmas.Grind.{flat_map-append}
use Rattle.std.proofs.lemmas.List.{length-append}
use Rattle.std.proofs.lemmas.List.Sums.{sum_by-cons, sum_by-append, sum-map}
use Rattle.assembly_tree.specs.Weight.{field_weight, method_weight, param_weight, property_weight, event_weight, own_weight, typedef_step, typedef_weight, weight_of}
use Rattle.assembly_tree.specs.declared.assembly.Assembly.{Assembly}
use Rattle.assembly_tree.specs.declared.members.Event.{Event}
use Rattle.assembly_tree.specs.declared.members.Field.{Field}
use Rattle.assembly_tree.specs.declared.members.Method.{Method}
use Rattle.assembly_tree.specs.declared.members.Param.{Param}
use Rattle.assembly_tree.specs.declared.members.Property.{Property}
use Rattle.assembly_tree.specs.declared.typedef.TypeDef.{TypeDef}
use Rattle.assembly_tree.specs.declared.typedef.TypeDef.TheViews.{out-TypeDef}
use Rattle.assembly_tree.specs.declared.typedef.TypeDef.TheFolds.{fold_out-TypeDef}
use Rattle.image_members.specs.Classes.{AreClasses, none, more}
use Rattle.image_rows.specs.Counts.{declared_rows}
use Rattle.image_members.specs.DeclaredMembers.{class_fields, class_methods}
use Rattle.image_members.specs.Places.{all_fields, all_methods, class_properties, class_events, params_of}
use Rattle.image_members.specs.declared.classes.Class.{Class}

-- ---- items of 64 each

weighs_each : {X : Type 0} → (weigh : X → ℕ) → ((x : X) → 64 ≤ weigh x) → (xs : List X) → 64 * length xs ≤ sum_by weigh xs
weighs_each weigh h [] = omega arith
weighs_each weigh h (x ∷ xs) =
    let rest = weighs_each weigh h xs in
    let one = h x in
    let all = sum_by-cons weigh x xs in
    omega arith

field_64 : (f : Field) → 64 ≤ field_weight f
unfolding field_weight
field_64 f = omega arith

property_64 : (p : Property) → 64 ≤ property_weight p
unfolding property_weight
property_64 p = omega arith

event_64 : (e : Event) → 64 ≤ event_weight e
unfolding event_weight
event_64 e = omega arith

param_64 : (p : Param) → 64 ≤ param_weight p
unfolding param_weight
param_64 p = omega arith

method_64 : (m : Method) → 64 * (1 + length (params_of m)) ≤ method_weight m
unfolding method_weight
method_64 m = let params = weighs_each param_weight param_64 m.params in omega arith

methods_weigh : (ms : List Method) → 64 * (length ms + length (flat_map params_of ms)) ≤ sum_by method_weight ms
methods_weigh [] = omega arith
methods_weigh (m ∷ ms) =
    let rest = methods_weigh ms in
    let one = method_64 m in
    let all = sum_by-cons method_weight m ms in
    let params = length-append (params_of m) (flat_map params_of ms) in
    omega arith

-- ---- types

abbrev class_weight : Class → ℕ
class_weight c = own_weight (out-TypeDef c.of.now)

class_weighs : (c : Class) → 64 * (1 + length (class_fields c) + length (class_methods c) + length (flat_map params_of (class_methods c)) + length (class_properties c) + length (class_events c)) ≤ class_weight c
unfolding own_weight
class_weighs c =
    let fields = weighs_each field_weight field_64 (class_fields c) in
    let methods = methods_weigh (class_methods c) in
    let properties = weighs_each property_weight property_64 (class_properties c) in
    let events = weighs_each event_weight event_64 (class_events c) in
    omega arith

-- all types together
classes_have : (cs : List Class)
    → 64 * (length cs + length (flat_map class_fields cs) + length (flat_map class_methods cs) + length (flat_map params_of (flat_map class_methods cs)) + length (flat_map class_properties cs) + length (flat_map class_events cs))
    ≤ sum_by class_weight cs
classes_have [] = omega arith
classes_have (c ∷ cs) =
    let rest = classes_have cs in
    let one = class_weighs c in
    let all = sum_by-cons class_weight c cs in
    let fields = length-append (class_fields c) (flat_map class_fields cs) in
    let methods = length-append (class_methods c) (flat_map class_methods cs) in
    let params = ap (length {A = Param}) (flat_map-append params_of (class_methods c) (flat_map class_methods cs)) ∙ length-append (flat_map params_of (class_methods c)) (flat_map params_of (flat_map class_methods cs)) in
    let properties = length-append (class_properties c) (flat_map class_properties cs) in
    let events = length-append (class_events c) (flat_map class_events cs) in
    omega arith

typedef_out : (t : TypeDef) → typedef_weight t ≡ own_weight (out-TypeDef t) + sum_by typedef_weight (out-TypeDef t).nested
unfolding own_weight
typedef_out t = fold_out-TypeDef ℕ typedef_step t ∙ ap (λ s. own_weight (out-TypeDef t) + s) (sum-map typedef_weight (out-TypeDef t).nested)

-- the types in the order of their rows weigh what the tree's do
classes_weigh : (encloser row : ℕ) (types : List TypeDef) (classes : List Class) → AreClasses encloser row types classes → sum_by class_weight classes ≡ sum_by typedef_weight types
classes_weigh encloser row types classes (none e f) = ap (sum_by class_weight) f ∙ sym (ap (sum_by typedef_weight) e)
classes_weigh encloser row types classes (more {type = type} {beside = beside} {class = class} {nested = nested} {others = others} of in_it inner side e f) =
    let first = classes_weigh row (row + 1) (out-TypeDef type).nested nested inner in
    let then = classes_weigh encloser (row + 1 + length nested) beside others side in
    let own = ap (λ t. own_weight (out-TypeDef t)) of in
    let its = typedef_out type in
    let left = ap (sum_by class_weight) f ∙ sum_by-cons class_weight class (nested ++ others) in
    let both = sum_by-append class_weight nested others in
    let right = ap (sum_by typedef_weight) e ∙ sum_by-cons typedef_weight type beside in
    omega arith

-- ---- the whole

pub rows_few : (a : Assembly) (classes : List Class) → AreClasses 0 2 a.types classes → 64 * declared_rows a classes ≤ weight_of a
unfolding weight_of
rows_few a classes are =
    let types = classes_weigh 0 2 a.types classes are in
    let have = classes_have classes in
    let fields = weighs_each field_weight field_64 a.fields in
    let methods = methods_weigh a.methods in
    let all_f = length-append a.fields (flat_map class_fields classes) in
    let all_m = length-append a.methods (flat_map class_methods classes) in
    let all_p = ap (length {A = Param}) (flat_map-append params_of a.methods (flat_map class_methods classes)) ∙ length-append (flat_map params_of a.methods) (flat_map params_of (flat_map class_methods classes)) in
    omega arith
