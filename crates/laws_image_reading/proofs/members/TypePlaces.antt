-- A type that the tree has at a path has a row with this path.
use Rattle.std.proofs.Common.{◌≡◌, ap, refl, sym, ◌∙◌, subst, ℕ, zero, suc, ◌+◌, ◌<◌, Bool, true, false, cond, nat_eq, List, [], ◌∷◌, ◌++◌, length, Option, Some, None, append_assoc, arith}
use Rattle.std.specs.Prelude.{slice_get}
use Rattle.std.proofs.lemmas.Bool.{and_parts}
use Rattle.std.proofs.lemmas.List.{append-nil}
use lib.Pointwise.{pointwise, bytes_decides}
use Rattle.assembly_tree.specs.DataSize.{is_id, named, with_type, type_below, type_at}
use Rattle.assembly_tree.specs.declared.typedef.TypeDef.{TypeDef}
use Rattle.assembly_tree.specs.declared.typedef.TypeDef.TheViews.{out-TypeDef}
use Rattle.type_terms.specs.declared.name.TypeId.{TypeId}
use Rattle.image_members.specs.Classes.{AreClasses, none, more}
use Rattle.image_members.specs.Declaring.{class_place}
use Rattle.image_members.specs.declared.classes.Class.{Class}
use Rattle.image_model.specs.Naming.{HasId, HasPath}
use Rattle.image_model.specs.Rows.{HasRow}
use Rattle.laws_image_parts.specs.AtRows.{AtEach}
use Rattle.laws_image_parts.specs.names.Paths.{HasPlace}

-- ---- what holds at each row, of parts of a list

module _ {X : Type 0} (P : ℕ → X → Type 0) where
  each_head : (first : ℕ) (x : X) (xs : List X) → AtEach P first (x ∷ xs) → P first x
  each_head first x xs h = let here : first + 0 ≡ first = omega arith in subst (λ n. P n x) here (h 0 x refl)

  each_tail : (first : ℕ) (x : X) (xs : List X) → AtEach P first (x ∷ xs) → AtEach P (first + 1) xs
  each_tail first x xs h k y at = let there : first + suc k ≡ first + 1 + k = omega arith in subst (λ n. P n y) there (h (suc k) y at)

  get_left : (xs ys : List X) (k : ℕ) (x : X) → slice_get xs k ≡ Some x → slice_get (xs ++ ys) k ≡ Some x
  get_left [] ys k x at = absurd cc
  get_left (y ∷ xs) ys zero x at = at
  get_left (y ∷ xs) ys (suc k) x at = get_left xs ys k x at

  each_left : (first : ℕ) (xs ys : List X) → AtEach P first (xs ++ ys) → AtEach P first xs
  each_left first xs ys h k x at = h k x (get_left xs ys k x at)

  each_right : (first : ℕ) (xs ys : List X) → AtEach P first (xs ++ ys) → AtEach P (first + length xs) ys
  each_right first [] ys h = let here : first ≡ first + 0 = omega arith in subst (λ n. AtEach P n ys) here h
  each_right first (y ∷ xs) ys h =
      let here : first + 1 + length xs ≡ first + length (y ∷ xs) = omega arith in
      subst (λ n. AtEach P n ys) here (each_right (first + 1) xs ys (each_tail first y (xs ++ ys) h))

-- ---- types by their ids

same_id : (a b : TypeId) → is_id a b ≡ true → a ≡ b
same_id a b h =
    let both = and_parts (pointwise nat_eq a.space b.space) (pointwise nat_eq a.name b.name) h in
    let space = (bytes_decides a.space b.space).0 both.0 in
    let name = (bytes_decides a.name b.name).0 both.1 in
    λ i. record { space = space i; name = name i }

-- what is known of the row of a type, besides its place
module _ (image : List ℕ) (Also : ℕ → Class → Type 0) where
  pub record IsRowOf (row : ℕ) (c : Class) : Type 0 where
    pub there : HasRow image 0x02 row
    pub place : HasPlace image row (class_place c)
    pub also : Also row c

  -- a type beside others, in the type of a row or at the top
  pub record IsFound (encloser : ℕ) (id : TypeId) (t : TypeDef) : Type 0 where
    pub row : ℕ
    pub class : Class
    pub of : class.of.now ≡ t
    pub in_it : class.encloser ≡ encloser
    pub is : IsRowOf row class
    pub id_is : id ≡ (out-TypeDef t).id
    pub nested : List Class
    pub inner : AreClasses row (row + 1) (out-TypeDef t).nested nested
    pub each : AtEach IsRowOf (row + 1) nested

  -- the first of types side by side, or one of those beside it
  found_first : {encloser row : ℕ} {type : TypeDef} {class : Class} {nested : List Class} (beside : List TypeDef) (others : List Class) → class.of.now ≡ type → class.encloser ≡ encloser
      → AreClasses row (row + 1) (out-TypeDef type).nested nested → AtEach IsRowOf row (class ∷ (nested ++ others)) → (id : TypeId) (t : TypeDef)
      → (AtEach IsRowOf (row + 1 + length nested) others → named id beside ≡ Some t → IsFound encloser id t)
      → (b : Bool) → is_id id (out-TypeDef type).id ≡ b → cond b (Some type) (named id beside) ≡ Some t → IsFound encloser id t
  found_first {encloser = encloser} {row = row} {type = type} {class = class} {nested = nested} beside others of in_it inner all id t later true is e =
      let same : type ≡ t = cc in
      subst (IsFound encloser id) same (record {
        row = row;
        class = class;
        of = of;
        in_it = in_it;
        is = each_head IsRowOf row class (nested ++ others) all;
        id_is = same_id id (out-TypeDef type).id is;
        nested = nested;
        inner = inner;
        each = each_left IsRowOf (row + 1) nested others (each_tail IsRowOf row class (nested ++ others) all);
      })
  found_first {row = row} {class = class} {nested = nested} beside others of in_it inner all id t later false is e =
      later (each_right IsRowOf (row + 1) nested others (each_tail IsRowOf row class (nested ++ others) all)) e

  found : {encloser row : ℕ} {types : List TypeDef} {classes : List Class} → AreClasses encloser row types classes → AtEach IsRowOf row classes → (id : TypeId) (t : TypeDef)
      → named id types ≡ Some t → IsFound encloser id t
  found (none e f) each id t at = absurd (let empty : ◌≡◌ {A = Option TypeDef} None (Some t) = ap (named id) (sym e) ∙ at in cc)
  found {row = row} (more {type = type} {beside = beside} {others = others} of in_it inner side e f) each id t at =
      found_first beside others of in_it inner (subst (AtEach IsRowOf row) f each) id t (λ rest is. found side rest id t is) (is_id id (out-TypeDef type).id) refl (ap (named id) (sym e) ∙ at)

  -- a type with its row and its path
  pub record HasTypeRow (path : List TypeId) (t : TypeDef) : Type 0 where
    pub row : ℕ
    pub class : Class
    pub of : class.of.now ≡ t
    pub is : IsRowOf row class
    pub leads : HasPath image row path

  found_id : {encloser : ℕ} {id : TypeId} {t : TypeDef} (h : IsFound encloser id t) → HasId image h.row id
  found_id {id = id} h = subst (HasId image h.row) (ap (λ (u : TypeDef). (out-TypeDef u).id) h.of ∙ sym h.id_is) h.is.place.id

  below_named : (before path : List TypeId) (id : TypeId) (u : TypeDef) (outer : ℕ) (types : List TypeDef) (nested : List Class) → AreClasses outer (outer + 1) types nested → AtEach IsRowOf (outer + 1) nested
      → 0 < outer → HasPath image outer before
      → ((n : TypeDef) (inner : IsFound outer id n) → HasPath image inner.row (before ++ id ∷ []) → type_below path n ≡ Some u → HasTypeRow ((before ++ id ∷ []) ++ path) u)
      → (o : Option TypeDef) → named id types ≡ o → with_type (type_below path) o ≡ Some u → HasTypeRow (before ++ id ∷ path) u
  below_named before path id u outer types nested are each some leads go None is e = absurd cc
  below_named before path id u outer types nested are each some leads go (Some n) is e =
      let inner = found are each id n is in
      let next : HasPath image inner.row (before ++ id ∷ []) = HasPath.nested (inner.is.place.encloser ∙ inner.in_it) some leads (found_id inner) refl in
      subst (λ (p : List TypeId). HasTypeRow p u) (append_assoc before (id ∷ []) path) (go n inner next e)

  below : (before path : List TypeId) {encloser : ℕ} {id : TypeId} {t : TypeDef} (u : TypeDef) (h : IsFound encloser id t) → HasPath image h.row before → type_below path t ≡ Some u
      → HasTypeRow (before ++ path) u
  below before [] {t = t} u h leads at = record {
    row = h.row;
    class = h.class;
    of = h.of ∙ (let same : t ≡ u = cc in same);
    is = h.is;
    leads = subst (HasPath image h.row) (sym (append-nil before)) leads;
  }
  below before (id ∷ path) {t = t} u h leads at =
      below_named before path id u h.row (out-TypeDef t).nested h.nested h.inner h.each h.is.there.0 leads (λ n inner next e. below (before ++ id ∷ []) path u inner next e)
      (named id (out-TypeDef t).nested) refl at

  pub type_rows : (types : List TypeDef) (classes : List Class) → AreClasses 0 2 types classes → AtEach IsRowOf 2 classes → (path : List TypeId) (u : TypeDef) → type_at types path ≡ Some u
      → HasTypeRow path u
  type_rows types classes are each [] u at = absurd cc
  type_rows types classes are each (id ∷ path) u at = by_named (named id types) refl at
    where
      by_named : (o : Option TypeDef) → named id types ≡ o → with_type (type_below path) o ≡ Some u → HasTypeRow (id ∷ path) u
      by_named None is e = absurd cc
      by_named (Some n) is e =
          let top = found are each id n is in
          below (id ∷ []) path u top (HasPath.top (top.is.place.encloser ∙ top.in_it) (found_id top)) e
