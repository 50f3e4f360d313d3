-- What holds of types side by side, with those that they nest, in the order of their rows.
use Rattle.std.proofs.Common.{◌≡◌, ap, refl, sym, ◌∙◌, subst, ℕ, zero, suc, ◌+◌, ◌&&◌, Bool, false, not, List, [], ◌∷◌, ◌++◌, map, length, arith}
use Rattle.std.specs.Prelude.{IsTrue, sum_by}
use Rattle.std.specs.List.{AllByRecursion, flat_map, list_all, list_any}
use Rattle.std.proofs.lemmas.Bool.{and_parts, and_from, eqb-true}
use Rattle.std.proofs.lemmas.List.Sums.{sum_by-cons, sum_by-append, sum-map}
use Rattle.assembly_tree.specs.Room.{Units, method_texts, typedef_texts, typedef_texts_step}
use Rattle.assembly_tree.specs.Weight.{own_weight, typedef_step, typedef_weight}
use Rattle.assembly_tree.specs.WellFormedNames.{all_differ}
use Rattle.assembly_tree.specs.WellFormedTypes.{is_own, is_same_id, are_types}
use Rattle.assembly_tree.specs.declared.assembly.Assembly.{Assembly}
use Rattle.assembly_tree.specs.declared.typedef.TypeDef.{TypeDef}
use Rattle.assembly_tree.specs.declared.typedef.TypeDef.TheViews.{out-TypeDef}
use Rattle.assembly_tree.specs.declared.typedef.TypeDef.TheFolds.{fold_out-TypeDef}
use Rattle.image_members.specs.Classes.{AreClasses, none, more}
use Rattle.image_members.specs.DeclaredMembers.{class_methods}
use Rattle.image_members.specs.declared.classes.Class.{Class}
use Rattle.laws_writable_trees.proofs.Each.{each_joined, each_apart}

-- ---- conditions

-- a type meets its conditions, at the top or nested
pub record IsOwn (a : Assembly) (c : Class) : Type 0 where
  pub top : Bool
  pub own : IsTrue (is_own a top (out-TypeDef c.of.now))

-- the first of types side by side, those that it nests, and those beside it
pub record AreFirst (a : Assembly) (top : Bool) (t : TypeDef) (beside : List TypeDef) (depth : ℕ) : Type 0 where
  pub own : IsTrue (is_own a top (out-TypeDef t))
  pub differ : IsTrue (not (list_any (is_same_id t) beside))
  pub below : ℕ
  pub nested : IsTrue (are_types a false below (out-TypeDef t).nested)
  pub others : IsTrue (are_types a top depth beside)

-- a type, and those that it nests
abbrev is_fine : Assembly → Bool → ℕ → TypeDef → Bool
is_fine a top depth t = is_own a top (out-TypeDef t) && are_types a false depth (out-TypeDef t).nested

pub first_of_types : (a : Assembly) (top : Bool) (depth : ℕ) (t : TypeDef) (beside : List TypeDef) → IsTrue (are_types a top depth (t ∷ beside)) → AreFirst a top t beside depth
unfolding are_types
first_of_types a top zero t beside h = absurd (let none = eqb-true (length (t ∷ beside)) 0 h in omega arith)
first_of_types a top (suc depth) t beside h =
    let parts = and_parts (all_differ is_same_id (t ∷ beside)) (list_all (is_fine a top depth) (t ∷ beside)) h in
    let differ = and_parts (not (list_any (is_same_id t) beside)) (all_differ is_same_id beside) parts.0 in
    let each = and_parts (is_fine a top depth t) (list_all (is_fine a top depth) beside) parts.1 in
    let its = and_parts (is_own a top (out-TypeDef t)) (are_types a false depth (out-TypeDef t).nested) each.0 in
    record { own = its.0; differ = differ.0; below = depth; nested = its.1; others = and_from (all_differ is_same_id beside) (list_all (is_fine a top depth) beside) differ.1 each.1 }

pub classes_own : (a : Assembly) (top : Bool) (depth encloser row : ℕ) (types : List TypeDef) (classes : List Class) → AreClasses encloser row types classes
    → IsTrue (are_types a top depth types) → AllByRecursion (IsOwn a) classes
classes_own a top depth encloser row types classes (none e f) h = subst (AllByRecursion (IsOwn a)) (sym f) tt
classes_own a top depth encloser row types classes (more {type = type} {beside = beside} {class = class} {nested = nested} {others = others} of in_it inner side e f) h =
    let first = first_of_types a top depth type beside (subst (λ (ts : List TypeDef). IsTrue (are_types a top depth ts)) e h) in
    let own : IsOwn a class = record { top = top; own = subst (λ (t : TypeDef). IsTrue (is_own a top (out-TypeDef t))) (sym of) first.own } in
    let its = classes_own a false first.below row (row + 1) (out-TypeDef type).nested nested inner first.nested in
    let rest = classes_own a top depth encloser (row + 1 + length nested) beside others side first.others in
    subst (AllByRecursion (IsOwn a)) (sym f) (own, each_joined (IsOwn a) nested others its rest)

-- ---- weights

abbrev pub class_weight : Class → ℕ
class_weight c = own_weight (out-TypeDef c.of.now)

typedef_out : (t : TypeDef) → typedef_weight t ≡ own_weight (out-TypeDef t) + sum_by typedef_weight (out-TypeDef t).nested
unfolding own_weight
typedef_out t = fold_out-TypeDef ℕ typedef_step t ∙ ap (λ s. own_weight (out-TypeDef t) + s) (sum-map typedef_weight (out-TypeDef t).nested)

-- types in the order of their rows weigh what they do in the tree
pub classes_weigh : (encloser row : ℕ) (types : List TypeDef) (classes : List Class) → AreClasses encloser row types classes → sum_by class_weight classes ≡ sum_by typedef_weight types
classes_weigh encloser row types classes (none e f) = ap (sum_by class_weight) f ∙ sym (ap (sum_by typedef_weight) e)
classes_weigh encloser row types classes (more {type = type} {beside = beside} {class = class} {nested = nested} {others = others} of in_it inner side e f) =
    let first = classes_weigh row (row + 1) (out-TypeDef type).nested nested inner in
    let then = classes_weigh encloser (row + 1 + length nested) beside others side in
    let own = ap (λ t. own_weight (out-TypeDef t)) of in
    let its = typedef_out type in
    let left = ap (sum_by class_weight) f ∙ sum_by-cons class_weight class (nested ++ others) in
    let both = sum_by-append class_weight nested others in
    let right = ap (sum_by typedef_weight) e ∙ sum_by-cons typedef_weight type beside in
    omega arith

-- ---- texts

module _ (P : Units → Type 0) where
  abbrev InMethods : Class → Type 0
  InMethods c = AllByRecursion P (flat_map method_texts (class_methods c))

  texts_out : (t : TypeDef) → typedef_texts t ≡ flat_map method_texts (out-TypeDef t).methods ++ flat_map (λ ts. ts) (map typedef_texts (out-TypeDef t).nested)
  texts_out t = fold_out-TypeDef (List Units) typedef_texts_step t

  joined_map : (ts : List TypeDef) → flat_map (λ (us : List Units). us) (map typedef_texts ts) ≡ flat_map typedef_texts ts
  joined_map [] = refl
  joined_map (t ∷ ts) = ap (λ us. typedef_texts t ++ us) (joined_map ts)

  -- what holds of the texts of types holds of those of their methods
  pub texts_in : (encloser row : ℕ) (types : List TypeDef) (classes : List Class) → AreClasses encloser row types classes → AllByRecursion P (flat_map typedef_texts types)
      → AllByRecursion InMethods classes
  texts_in encloser row types classes (none e f) h = subst (AllByRecursion InMethods) (sym f) tt
  texts_in encloser row types classes (more {type = type} {beside = beside} {class = class} {nested = nested} {others = others} of in_it inner side e f) h =
      let parts = each_apart P (typedef_texts type) (flat_map typedef_texts beside) (subst (λ (ts : List TypeDef). AllByRecursion P (flat_map typedef_texts ts)) e h) in
      let out = texts_out type ∙ ap (λ us. flat_map method_texts (out-TypeDef type).methods ++ us) (joined_map (out-TypeDef type).nested) in
      let its = each_apart P (flat_map method_texts (out-TypeDef type).methods) (flat_map typedef_texts (out-TypeDef type).nested) (subst (AllByRecursion P) out parts.0) in
      let own : InMethods class = subst (λ (t : TypeDef). AllByRecursion P (flat_map method_texts (out-TypeDef t).methods)) (sym of) its.0 in
      let in_nested = texts_in row (row + 1) (out-TypeDef type).nested nested inner its.1 in
      let rest = texts_in encloser (row + 1 + length nested) beside others side parts.1 in
      subst (AllByRecursion InMethods) (sym f) (own, each_joined InMethods nested others in_nested rest)
