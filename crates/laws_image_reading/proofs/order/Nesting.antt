-- Nested types: each row of NestedClass is that of one class with its encloser, and no path is too long.
use Rattle.std.proofs.Common.{◌≡◌, ◌≢◌, ap, refl, sym, ◌∙◌, subst, ℕ, zero, suc, ◌+◌, ◌<◌, ◌≤◌, ◌==◌, Bool, true, false, cond, List, [], ◌∷◌, ◌++◌, length, Some, inl, inr, arith}
use Rattle.std.specs.Prelude.{slice_get, IsTrue, ◌⊎◌}
use Rattle.std.specs.List.{flat_map, enumerate_from}
use Rattle.std.proofs.lemmas.Bool.{eq-eqb}
use Rattle.std.proofs.lemmas.List.{length-append}
use Rattle.assembly_tree.specs.WellFormedTypes.{are_types}
use Rattle.assembly_tree.specs.declared.assembly.Assembly.{Assembly}
use Rattle.assembly_tree.specs.declared.typedef.TypeDef.{TypeDef}
use Rattle.type_terms.specs.declared.name.TypeId.{TypeId}
use Rattle.image_rows.specs.ClassRows.{nested_rows}
use Rattle.image_members.specs.Classes.{AreClasses}
use Rattle.image_members.specs.Classes as classes
use Rattle.image_members.specs.Declaring.{class_place}
use Rattle.image_members.specs.declared.classes.Class.{Class}
use Rattle.image_model.specs.Naming.{HasPath}
use Rattle.laws_image_parts.specs.AtRows.{AtEach}
use Rattle.laws_image_parts.proofs.RowLists.{each_front, each_back}
use Rattle.laws_image_parts.specs.names.Paths.{HasPlace}
use Rattle.laws_image_parts.proofs.names.General.{each_one, each_both}
use Rattle.laws_image_reading.proofs.order.Levels.{first_level}

-- ---- rows

-- the row of a class that has an encloser
pub record IsNestedItem (first : ℕ) (cs : List Class) (cells : List ℕ) : Type 0 where
  pub place : ℕ
  pub class : Class
  pub at : slice_get cs place ≡ Some class
  pub are : cells ≡ (first + place) ∷ class.encloser ∷ []
  pub inner : class.encloser ≢ 0

pub nested_item : (first : ℕ) (cs : List Class) (k : ℕ) (cells : List ℕ) → slice_get (flat_map nested_rows (enumerate_from first cs)) k ≡ Some cells → IsNestedItem first cs cells
nested_item first [] k cells at = absurd cc
nested_item first (c ∷ cs) k cells at = by_test (c.encloser == 0) refl (λ j e. later (nested_item (first + 1) cs j cells e)) k at
  where
    rest : List (List ℕ)
    rest = flat_map nested_rows (enumerate_from (first + 1) cs)

    later : IsNestedItem (first + 1) cs cells → IsNestedItem first (c ∷ cs) cells
    later it =
        let there : first + 1 + it.place ≡ first + suc it.place = omega arith in
        record { place = suc it.place; class = it.class; at = it.at; are = it.are ∙ ap (λ n. n ∷ it.class.encloser ∷ []) there; inner = it.inner }

    by_test : (b : Bool) → (c.encloser == 0) ≡ b → ((j : ℕ) → slice_get rest j ≡ Some cells → IsNestedItem first (c ∷ cs) cells)
        → (j : ℕ) → slice_get (cond b [] ((first ∷ c.encloser ∷ []) ∷ []) ++ rest) j ≡ Some cells → IsNestedItem first (c ∷ cs) cells
    by_test true e others j at_j = others j at_j
    by_test false e others zero at_j =
        let same : first ∷ c.encloser ∷ [] ≡ cells = cc in
        let here : first ≡ first + 0 = omega arith in
        record {
          place = 0;
          class = c;
          at = refl;
          are = sym same ∙ ap (λ n. n ∷ c.encloser ∷ []) here;
          inner = λ z. let yes = eq-eqb c.encloser 0 z in absurd cc;
        }
    by_test false e others (suc j) at_j = others j at_j

-- an encloser is none, or not before the first row of all
abbrev pub IsEncloser : Class → Type 0
IsEncloser c = (c.encloser ≡ 0) ⊎ (2 ≤ c.encloser)

pub enclosers_are : {encloser row : ℕ} {types : List TypeDef} {cs : List Class} → AreClasses encloser row types cs → (encloser ≡ 0) ⊎ (2 ≤ encloser) → 2 ≤ row → AtEach (λ k c. IsEncloser c) row cs
enclosers_are {row = row} {cs = cs} (classes.none e f) low high = subst (AtEach (λ k c. IsEncloser c) row) (sym f) (λ k c at. absurd cc)
enclosers_are {encloser = e} {row = row} {cs = cs} (classes.more {class = c} {nested = nested} {others = others} is own inner beside t s) low high =
    let here : IsEncloser c = subst (λ n. (n ≡ 0) ⊎ (2 ≤ n)) (sym own) low in
    subst (AtEach (λ k c. IsEncloser c) row) (sym s)
    (each_one (λ k c. IsEncloser c) row c (nested ++ others) here
    (each_both (λ k c. IsEncloser c) (row + 1) nested others (enclosers_are inner (inr high) (omega arith)) (enclosers_are beside low (omega arith))))

-- ---- depth

module _ (a : Assembly) (image : List ℕ) (most : ℕ) where
  -- a row has a path with so many parts at most
  abbrev pub HasShortPath : ℕ → Type 0
  HasShortPath row = (path : List TypeId) × HasPath image row path × (length path ≤ most)

  -- no type, or one with a path of so many parts
  abbrev IsLevel : ℕ → ℕ → Type 0
  IsLevel encloser level = ((encloser ≡ 0) × (level ≡ 0)) ⊎ ((0 < encloser) × ((path : List TypeId) × HasPath image encloser path × (length path ≡ level)))

  -- the path of a type in an encloser
  path_in : (encloser level row : ℕ) (c : Class) → IsLevel encloser level → c.encloser ≡ encloser → HasPlace image row (class_place c)
      → (path : List TypeId) × HasPath image row path × (length path ≡ level + 1)
  path_in encloser level row c (inl top) own place =
      let none = top.1 in
      ((class_place c).id ∷ [], HasPath.top (place.encloser ∙ own ∙ top.0) place.id, omega arith)
  path_in encloser level row c (inr in_it) own place =
      let outer = in_it.1 in
      let long = length-append outer.0 ((class_place c).id ∷ []) in
      let before = outer.2 in
      (outer.0 ++ (class_place c).id ∷ [], HasPath.nested (place.encloser ∙ own) in_it.0 outer.1 place.id refl, omega arith)

  pub paths_short : {encloser row : ℕ} {types : List TypeDef} {cs : List Class} → AreClasses encloser row types cs → (top : Bool) (levels level : ℕ) → IsTrue (are_types a top levels types)
      → 0 < row → level + levels ≤ most → IsLevel encloser level → AtEach (λ k c. HasPlace image k (class_place c)) row cs → AtEach (λ k c. HasShortPath k) row cs
  paths_short {row = row} (classes.none e f) top levels level h some few at_level places = subst (AtEach (λ k c. HasShortPath k) row) (sym f) (λ k c at. absurd cc)
  paths_short {encloser = e} {row = row} (classes.more {type = t} {beside = types} {class = c} {nested = nested} {others = others} is own inner beside all s) top levels level h some few at_level places =
      let its = first_level a top levels t types (subst (λ (ts : List TypeDef). IsTrue (are_types a top levels ts)) all h) in
      let less = its.less in
      let P : ℕ → Class → Type 0 = (λ k x. HasPlace image k (class_place x)) in
      let listed : AtEach P row (c ∷ (nested ++ others)) = subst (AtEach P row) s places in
      let start : row + 0 ≡ row = omega arith in
      let here : HasPlace image row (class_place c) = subst (λ n. HasPlace image n (class_place c)) start (listed 0 c refl) in
      let behind : AtEach P (row + 1) (nested ++ others) = (λ k x at. let there : row + suc k ≡ row + 1 + k = omega arith in subst (λ n. P n x) there (listed (suc k) x at)) in
      let path = path_in e level row c at_level own here in
      let long = path.2 in
      subst (AtEach (λ k x. HasShortPath k) row) (sym s)
      (each_one (λ k x. HasShortPath k) row c (nested ++ others) (path.0, path.1, omega arith)
      (each_both (λ k x. HasShortPath k) (row + 1) nested others
      (paths_short inner false its.below (level + 1) its.inside (omega arith) (omega arith) (inr (some, path)) (each_front P (row + 1) nested others behind))
      (paths_short beside top levels level its.others (omega arith) few at_level (each_back P (row + 1) nested others behind))))
