-- A well-formed assembly starts at one method at most (ECMA-335 II.15.4.1.2).
use Rattle.std.proofs.Common.{◌≡◌, ap, refl, sym, ◌∙◌, ℕ, zero, suc, ◌+◌, ◌≤◌, true, cond, List, [], ◌∷◌, ◌++◌, length, Some, arith}
use Rattle.std.specs.Prelude.{IsTrue, slice_get, sum_by}
use Rattle.std.specs.List.{flat_map}
use Rattle.std.proofs.lemmas.Bool.{leb-true}
use Rattle.std.proofs.lemmas.List.Sums.{sum_by-cons, sum_by-append, sum-map}
use Rattle.assembly_tree.specs.WellFormed.{is_one_entry}
use Rattle.assembly_tree.specs.WellFormedTypes.{entries, entries_in, entries_of, entries_step}
use Rattle.assembly_tree.specs.declared.assembly.Assembly.{Assembly}
use Rattle.assembly_tree.specs.declared.members.Method.{Method}
use Rattle.assembly_tree.specs.declared.typedef.TypeDef.{TypeDef}
use Rattle.assembly_tree.specs.declared.typedef.TypeDef.TheFolds.{fold_out-TypeDef}
use Rattle.assembly_tree.specs.declared.typedef.TypeDef.TheViews.{out-TypeDef}
use Rattle.image_members.specs.Classes.{AreClasses, none, more}
use Rattle.image_members.specs.DeclaredMembers.{class_methods}
use Rattle.image_members.specs.Places.{all_methods}
use Rattle.image_members.specs.declared.classes.Class.{Class}
use Rattle.laws_image_parts.specs.EntryRead.{HaveOneEntry}

abbrev point : Method → ℕ
point m = cond m.entry 1 0

-- ---- a count of one at most

point_there : (ms : List Method) (k : ℕ) (m : Method) → slice_get ms k ≡ Some m → m.entry ≡ true → 1 ≤ entries_in ms
point_there [] k m at e = absurd cc
point_there (x ∷ ms) zero m at e =
    let same : x ≡ m = cc in
    let all = sum_by-cons point x ms in
    let own : point x ≡ 1 = ap point same ∙ ap (λ b. cond b 1 0) e in
    omega arith
point_there (x ∷ ms) (suc k) m at e =
    let all = sum_by-cons point x ms in
    let rest = point_there ms k m at e in
    omega arith

pub one_of : (ms : List Method) → entries_in ms ≤ 1 → HaveOneEntry ms
one_of [] few j k m n at there e f = absurd cc
one_of (x ∷ ms) few zero zero m n at there e f = refl
one_of (x ∷ ms) few zero (suc k) m n at there e f =
    let same : x ≡ m = cc in
    let all = sum_by-cons point x ms in
    let own : point x ≡ 1 = ap point same ∙ ap (λ b. cond b 1 0) e in
    let rest = point_there ms k n there f in
    absurd (omega arith)
one_of (x ∷ ms) few (suc j) zero m n at there e f =
    let same : x ≡ n = cc in
    let all = sum_by-cons point x ms in
    let own : point x ≡ 1 = ap point same ∙ ap (λ b. cond b 1 0) f in
    let rest = point_there ms j m at e in
    absurd (omega arith)
one_of (x ∷ ms) few (suc j) (suc k) m n at there e f =
    let all = sum_by-cons point x ms in
    ap suc (one_of ms (omega arith) j k m n at there e f)

-- ---- the methods of types

abbrev class_entries : Class → ℕ
class_entries c = entries_in (class_methods c)

types_out : (t : TypeDef) → entries_of t ≡ entries_in (out-TypeDef t).methods + sum_by entries_of (out-TypeDef t).nested
types_out t = fold_out-TypeDef ℕ entries_step t ∙ ap (λ s. entries_in (out-TypeDef t).methods + s) (sum-map entries_of (out-TypeDef t).nested)

classes_count : (encloser row : ℕ) (types : List TypeDef) (classes : List Class) → AreClasses encloser row types classes → sum_by class_entries classes ≡ sum_by entries_of types
classes_count encloser row types classes (none e f) = ap (sum_by class_entries) f ∙ sym (ap (sum_by entries_of) e)
classes_count encloser row types classes (more {type = type} {beside = beside} {class = class} {nested = nested} {others = others} of in_it inner side e f) =
    let first = classes_count row (row + 1) (out-TypeDef type).nested nested inner in
    let then = classes_count encloser (row + 1 + length nested) beside others side in
    let own = ap (λ t. entries_in (out-TypeDef t).methods) of in
    let its = types_out type in
    let left = ap (sum_by class_entries) f ∙ sum_by-cons class_entries class (nested ++ others) in
    let both = sum_by-append class_entries nested others in
    let right = ap (sum_by entries_of) e ∙ sum_by-cons entries_of type beside in
    omega arith

flat_count : (classes : List Class) → entries_in (flat_map class_methods classes) ≡ sum_by class_entries classes
flat_count [] = refl
flat_count (c ∷ classes) =
    let joined = sum_by-append point (class_methods c) (flat_map class_methods classes) in
    let rest = flat_count classes in
    let all = sum_by-cons class_entries c classes in
    omega arith

pub one_entry : (a : Assembly) (classes : List Class) → AreClasses 0 2 a.types classes → IsTrue (is_one_entry a) → HaveOneEntry (all_methods a classes)
unfolding entries
one_entry a classes are h =
    let few = leb-true (entries a) 1 h in
    let joined = sum_by-append point a.methods (flat_map class_methods classes) in
    let flat = flat_count classes in
    let types = classes_count 0 2 a.types classes are in
    one_of (all_methods a classes) (omega arith)
