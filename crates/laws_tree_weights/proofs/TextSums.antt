-- The texts that an assembly loads: no more than all of its methods load.
use Rattle.std.proofs.Common.{◌≡◌, ◌∙◌, ap, ℕ, ◌+◌, ◌≤◌, Bool, true, false, cond, List, [], ◌∷◌, arith}
use Rattle.std.specs.Prelude.{sum_by, nat_eq}
use Rattle.std.specs.List.{flat_map, list_any}
use Rattle.std.proofs.lemmas.List.Sums.{sum_by-cons, sum_by-append}
use lib.Pointwise.{pointwise}
use Rattle.assembly_tree.specs.Room.{Units, entry_size, distinct, room_of_texts, method_texts, typedef_texts, texts}
use Rattle.assembly_tree.specs.declared.assembly.Assembly.{Assembly}
use Rattle.assembly_tree.specs.declared.typedef.TypeDef.{TypeDef}
use Rattle.assembly_tree.specs.declared.typedef.TypeDef.TheViews.{out-TypeDef}
use Rattle.image_tokens.specs.Loaded.{entry_sizes}
use Rattle.image_members.proofs.TextLemmas.{typedef_texts_out, whole_texts}
use Rattle.image_members.specs.Classes.{AreClasses}
use Rattle.image_members.specs.DeclaredMembers.{class_methods}
use Rattle.image_members.specs.Places.{all_methods}
use Rattle.image_members.specs.declared.classes.Class.{Class}
use Rattle.laws_tree_weights.proofs.ClassSums.{classes_sum}
use Rattle.laws_tree_weights.proofs.MethodSums.{method_entries}
use Rattle.laws_tree_weights.proofs.Sums.{sum_flat}

-- ---- each once

once : (there : Bool) (t : Units) (ts : List Units) (n : ℕ) → sum_by entry_size ts ≤ n → sum_by entry_size (cond there ts (t ∷ ts)) ≤ entry_size t + n
once true t ts n less = omega arith
once false t ts n less = let all = sum_by-cons entry_size t ts in omega arith

distinct_few : (ts : List Units) → sum_by entry_size (distinct ts) ≤ entry_sizes ts
distinct_few [] = omega arith
distinct_few (t ∷ ts) =
    let one = once (list_any (pointwise nat_eq t) ts) t (distinct ts) (entry_sizes ts) (distinct_few ts) in
    let all = sum_by-cons entry_size t ts in
    omega arith

-- ---- those of types

abbrev type_entries : TypeDef → ℕ
type_entries t = entry_sizes (typedef_texts t)

abbrev own_entries : TypeDef → ℕ
own_entries t = sum_by method_entries (out-TypeDef t).methods

type_layer : (t : TypeDef) → type_entries t ≡ own_entries t + sum_by type_entries (out-TypeDef t).nested
type_layer t =
    let texts = ap entry_sizes (typedef_texts_out t) ∙ sum_by-append entry_size (flat_map method_texts (out-TypeDef t).methods) (flat_map typedef_texts (out-TypeDef t).nested) in
    let own = sum_flat entry_size method_texts (out-TypeDef t).methods in
    let inner = sum_flat entry_size typedef_texts (out-TypeDef t).nested in
    omega arith

-- ---- the whole

pub texts_few : (a : Assembly) (classes : List Class) → AreClasses 0 2 a.types classes → room_of_texts (texts a) ≤ 1 + sum_by method_entries (all_methods a classes)
texts_few a classes are =
    let few = distinct_few (texts a) in
    let whole = ap entry_sizes (whole_texts a) ∙ sum_by-append entry_size (flat_map method_texts a.methods) (flat_map typedef_texts a.types) in
    let globals = sum_flat entry_size method_texts a.methods in
    let types = sum_flat entry_size typedef_texts a.types in
    let tree = classes_sum type_entries own_entries type_layer 0 2 a.types classes are in
    let members = sum_flat method_entries class_methods classes in
    let all = sum_by-append method_entries a.methods (flat_map class_methods classes) in
    omega arith
