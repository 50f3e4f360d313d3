-- The types of a well-formed assembly, level by level: each meets its conditions.
use Rattle.std.proofs.Common.{◌≡◌, refl, sym, subst, ℕ, zero, suc, ◌&&◌, Bool, false, List, ◌∷◌, length, arith}
use Rattle.std.specs.Prelude.{IsTrue}
use Rattle.std.specs.List.{AllByRecursion, list_all}
use Rattle.std.proofs.lemmas.Bool.{and_parts, and_from, eqb-true}
use Rattle.assembly_tree.specs.WellFormedNames.{all_differ}
use Rattle.assembly_tree.specs.WellFormedTypes.{is_own, is_same_id, are_types}
use Rattle.assembly_tree.specs.declared.assembly.Assembly.{Assembly}
use Rattle.assembly_tree.specs.declared.typedef.TypeDef.{TypeDef}
use Rattle.assembly_tree.specs.declared.typedef.TypeDef.TheViews.{out-TypeDef}
use Rattle.image_members.specs.Classes.{AreClasses}
use Rattle.image_members.specs.Classes as classes
use Rattle.image_members.specs.declared.classes.Class.{Class}
use Rattle.laws_image_parts.proofs.CellLemmas.{all_both}

-- types side by side, of which there is one: it meets its conditions, and those that it nests stand in one level less
pub record AreLevels (a : Assembly) (top : Bool) (t : TypeDef) (beside : List TypeDef) (levels : ℕ) : Type 0 where
  pub below : ℕ
  pub less : levels ≡ suc below
  pub own : IsTrue (is_own a top (out-TypeDef t))
  pub inside : IsTrue (are_types a false below (out-TypeDef t).nested)
  pub others : IsTrue (are_types a top levels beside)

abbrev is_fine : Assembly → Bool → ℕ → TypeDef → Bool
is_fine a top levels t = is_own a top (out-TypeDef t) && are_types a false levels (out-TypeDef t).nested

pub first_level : (a : Assembly) (top : Bool) (levels : ℕ) (t : TypeDef) (beside : List TypeDef) → IsTrue (are_types a top levels (t ∷ beside)) → AreLevels a top t beside levels
unfolding are_types
first_level a top zero t beside h = absurd (let none = eqb-true (length (t ∷ beside)) 0 h in omega arith)
first_level a top (suc levels) t beside h =
    let parts = and_parts (all_differ is_same_id (t ∷ beside)) (list_all (is_fine a top levels) (t ∷ beside)) h in
    let differ = and_parts _ (all_differ is_same_id beside) parts.0 in
    let each = and_parts (is_fine a top levels t) (list_all (is_fine a top levels) beside) parts.1 in
    let its = and_parts (is_own a top (out-TypeDef t)) (are_types a false levels (out-TypeDef t).nested) each.0 in
    record {
      below = levels;
      less = refl;
      own = its.0;
      inside = its.1;
      others = and_from (all_differ is_same_id beside) (list_all (is_fine a top levels) beside) differ.1 each.1;
    }

-- a type meets its conditions, at the top or nested
abbrev pub IsOwn : Assembly → Class → Type 0
IsOwn a c = (top : Bool) × IsTrue (is_own a top (out-TypeDef c.of.now))

pub classes_own : (a : Assembly) {encloser row : ℕ} {types : List TypeDef} {cs : List Class} → AreClasses encloser row types cs → (top : Bool) (levels : ℕ) → IsTrue (are_types a top levels types)
    → AllByRecursion (IsOwn a) cs
classes_own a (classes.none e f) top levels h = subst (AllByRecursion (IsOwn a)) (sym f) tt
classes_own a (classes.more {type = t} {beside = types} {class = c} {nested = nested} {others = others} is own inner beside all s) top levels h =
    let its = first_level a top levels t types (subst (λ (ts : List TypeDef). IsTrue (are_types a top levels ts)) all h) in
    let here : IsOwn a c = (top, subst (λ (u : TypeDef). IsTrue (is_own a top (out-TypeDef u))) (sym is) its.own) in
    subst (AllByRecursion (IsOwn a)) (sym s)
    (here, all_both (IsOwn a) nested others (classes_own a inner false its.below its.inside) (classes_own a beside top levels its.others))
