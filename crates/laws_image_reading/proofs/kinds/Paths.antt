-- No two types have one path (ECMA-335 II.22.32, II.22.37).
use Rattle.std.proofs.Common.{◌≡◌, ap, refl, sym, ◌∙◌, subst, ℕ, ◌+◌, ◌-◌, ◌<◌, List, [], ◌∷◌, ◌++◌, map, length, Some, arith}
use Rattle.std.specs.Prelude.{slice_get}
use Rattle.std.proofs.lemmas.List.{length-append, length-map}
use Rattle.type_terms.specs.declared.name.TypeId.{TypeId}
use Rattle.image_members.specs.Declaring.{Place, AreApart, places, class_place, module_place}
use Rattle.image_members.specs.declared.classes.Class.{Class}
use Rattle.image_model.specs.Members.{HaveOnePath, IsNew}
use Rattle.image_model.specs.Naming.{HasId, HasPath}
use Rattle.image_model.specs.Rows.{HasRow, count_of, enclosing}
use Rattle.laws_image_parts.specs.AtRows.{AtEach}
use Rattle.laws_image_parts.specs.names.Paths.{HasPlace}
use Rattle.laws_image_parts.proofs.names.General.{each_one, each_map}
use Rattle.laws_image_parts.proofs.names.OneToken.{OneText}
use Rattle.laws_image_parts.proofs.names.PlaceLemmas.{Low}
use Rattle.laws_image_reading.proofs.kinds.General.{get_some}

-- ---- paths with the same last name

pub last_same : {X : Type 0} (xs ys : List X) (x y : X) → xs ++ x ∷ [] ≡ ys ++ y ∷ [] → (xs ≡ ys) × (x ≡ y)
last_same [] [] x y e = let same : x ≡ y = cc in (refl, same)
last_same [] (z ∷ ys) x y e = absurd (let long = ap length e in let more = length-append ys (y ∷ []) in omega arith)
last_same (z ∷ xs) [] x y e = absurd (let long = ap length e in let more = length-append xs (x ∷ []) in omega arith)
last_same (z ∷ xs) (w ∷ ys) x y e =
    let head : z ≡ w = cc in
    let tail : xs ++ x ∷ [] ≡ ys ++ y ∷ [] = cc in
    let rest = last_same xs ys x y tail in
    let front = rest.0 in
    ((λ i. head i ∷ front i), rest.1)

path_some : {image : List ℕ} {type : ℕ} {path : List TypeId} → HasPath image type path → 0 < length path
path_some (HasPath.top e h) = omega arith
path_some (HasPath.nested {id = id} {before = before} e some p h s) = let long = ap length s in let more = length-append before (id ∷ []) in omega arith

module _ (classes : List Class) (image : List ℕ) (places_are : AtEach (HasPlace image) 1 (places classes)) (apart : AreApart (places classes)) (low : AtEach Low 2 classes)
    (text : OneText image) (count : count_of image 0x02 ≡ 1 + length classes) where
  abbrev LowPlace : ℕ → Place → Type 0
  LowPlace row p = p.encloser < row

  low_places : AtEach LowPlace 1 (places classes)
  low_places = each_one LowPlace 1 module_place (map class_place classes) (omega arith) (each_map LowPlace class_place 2 classes low)

  -- where the type of a row is declared
  record Stands (row : ℕ) : Type 0 where
    k : ℕ
    place : Place
    row_is : row ≡ 1 + k
    at : slice_get (places classes) k ≡ Some place
    has : HasPlace image row place
    before : place.encloser < row

  stands : (row : ℕ) → HasRow image 0x02 row → Stands row
  stands row there =
      let some = there.0 in
      let high = there.1 in
      let long = length-map classes class_place in
      let found = get_some (places classes) (row - 1) (omega arith) in
      let same : 1 + (row - 1) ≡ row = omega arith in
      record {
        k = row - 1;
        place = found.0;
        row_is = sym same;
        at = found.1;
        has = subst (λ n. HasPlace image n found.0) same (places_are (row - 1) found.0 found.1);
        before = subst (λ n. LowPlace n found.0) same (low_places (row - 1) found.0 found.1);
      }

  id_one : (row : ℕ) (a b : TypeId) → HasId image row a → HasId image row b → a ≡ b
  id_one row a b h k =
      let s = text _ a.space b.space h.space k.space in
      let n = text _ a.name b.name h.name k.name in
      λ i. record { space = s i; name = n i }

  one_place : (a b : ℕ) (id other : TypeId) → HasRow image 0x02 a → HasRow image 0x02 b → enclosing image a ≡ enclosing image b → HasId image a id → HasId image b other → id ≡ other → a ≡ b
  one_place a b id other in_a in_b outer has_a has_b same =
      let p = stands a in_a in
      let q = stands b in_b in
      let encloser : p.place.encloser ≡ q.place.encloser = sym p.has.encloser ∙ outer ∙ q.has.encloser in
      let names : p.place.id ≡ q.place.id = id_one a p.place.id id p.has.id has_a ∙ same ∙ id_one b other q.place.id has_b q.has.id in
      let places_same : p.place ≡ q.place = (λ i. record { encloser = encloser i; id = names i }) in
      let k = apart p.k q.k p.place p.at (q.at ∙ ap (λ x. Some x) (sym places_same)) in
      p.row_is ∙ ap (λ n. 1 + n) k ∙ sym q.row_is

  encloser_there : (row outer : ℕ) → HasRow image 0x02 row → enclosing image row ≡ outer → 0 < outer → HasRow image 0x02 outer
  encloser_there row outer there is some =
      let high = there.1 in
      let p = stands row there in
      let below = p.before in
      let same = p.has.encloser in
      (some, omega arith)

  pub one_type : {a b : ℕ} {path other : List TypeId} → HasPath image a path → HasPath image b other → path ≡ other → HasRow image 0x02 a → HasRow image 0x02 b → a ≡ b
  one_type (HasPath.top {type = a} {id = x} e h) (HasPath.top {type = b} {id = y} f k) same in_a in_b =
      one_place a b x y in_a in_b (e ∙ sym f) h k (last_same [] [] x y same).1
  one_type (HasPath.top {type = a} {id = x} e h) (HasPath.nested {type = b} {id = y} {before = w} f some q k s) same in_a in_b =
      absurd (let front = ap length (last_same [] w x y (same ∙ s)).0 in let long = path_some q in omega arith)
  one_type (HasPath.nested {type = a} {id = x} {before = v} e some p h s) (HasPath.top {type = b} {id = y} f k) same in_a in_b =
      absurd (let front = ap length (last_same v [] x y (sym s ∙ same)).0 in let long = path_some p in omega arith)
  one_type (HasPath.nested {type = a} {outer = m} {id = x} {before = v} e some p h s) (HasPath.nested {type = b} {outer = n} {id = y} {before = w} f more q k u) same in_a in_b =
      let parts = last_same v w x y (sym s ∙ same ∙ u) in
      let outer = one_type p q parts.0 (encloser_there a m in_a e some) (encloser_there b n in_b f more) in
      one_place a b x y in_a in_b (e ∙ outer ∙ sym f) h k parts.1

  pub types_new : (row : ℕ) → HasRow image 0x02 row → IsNew (HaveOnePath image) row
  types_new row there earlier some lower alike =
      let high = there.1 in
      let same = one_type alike.1 alike.2 refl (some, omega arith) there in
      omega arith
