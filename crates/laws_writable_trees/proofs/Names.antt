-- The names of a well-formed assembly can be written: a name in this assembly leads to the row of a type, and the number of an
-- extern is that of a row.
use Rattle.std.proofs.Common.{◌≡◌, ◌≢◌, ap, refl, sym, ◌∙◌, subst, ℕ, ◌+◌, ◌-◌, ◌^◌, ◌<◌, true≢false, cond, nat_eq, nat_lt, List, [], ◌∷◌, ◌++◌, map, length, Option, Some, None, inl, inr, arith}
use Rattle.std.specs.Prelude.{IsTrue, slice_get, is_some, codes}
use Rattle.std.specs.List.{AllByRecursion, list_all}
use Rattle.std.proofs.lemmas.Bool.{and_parts, or_cases, cases_Bool, eqb-true, ltb-true, leb-true, cond-true, cond-false}
use Rattle.std.proofs.lemmas.List.{append-nil, append_assoc, length-append, map-append, length-map}
use Rattle.std.proofs.lemmas.List.Elements.{All-from_recursion}
use Rattle.std.proofs.lemmas.Option.{same_Some}
use lib.Pointwise.{pointwise}
use Rattle.heaps.specs.Heap.{Heap}
use Rattle.type_terms.specs.declared.name.Scope.{Scope}
use Rattle.type_terms.specs.declared.name.Scope.TheVariants.{Here, Extern}
use Rattle.type_terms.specs.declared.name.TypeId.{TypeId}
use Rattle.type_terms.specs.declared.name.TypeName.{TypeName}
use Rattle.assembly_tree.specs.DataSize.{is_id, has_id, named, with_type, type_below, type_at}
use Rattle.assembly_tree.specs.WellFormedNames.{has_no_zero, is_name, is_type_id, is_module, is_module_path, is_declared, is_known_in, is_known, is_short_path, is_type_name}
use Rattle.assembly_tree.specs.declared.assembly.Assembly.{Assembly}
use Rattle.assembly_tree.specs.declared.typedef.TypeDef.{TypeDef}
use Rattle.assembly_tree.specs.declared.typedef.TypeDef.TheViews.{out-TypeDef}
use Rattle.image_tokens.specs.NameTokens.{NameableIn, IsScopeAmong}
use Rattle.image_tokens.specs.Texts.{HasNoZero, HoldsId, IsPlainId}
use Rattle.image_tokens.specs.TypePaths.{IsTypeRow, Follows, last, on, in_declared}
use Rattle.image_tokens.specs.Writable.{CanBeNamed}
use Rattle.image_tokens.specs.declared.references.References.{References}
use Rattle.image_tokens.specs.declared.row_set.Cells.{Cells}
use Rattle.image_members.specs.Classes.{AreClasses, none, more}
use Rattle.image_members.specs.Declaring.{Place, module_id, module_place, class_place, places, HoldsPlace, AreDeclared}
use Rattle.image_members.specs.declared.classes.Class.{Class}
use Rattle.laws_writable_trees.proofs.Each.{split_three, each_from, each_true}

-- ---- texts

zero_free : (bytes : List ℕ) → IsTrue (has_no_zero bytes) → AllByRecursion (λ byte. byte ≡ 0 → ⊥) bytes
zero_free bytes h =
    each_from (λ byte. IsTrue (nat_lt 0 byte)) (λ byte. byte ≡ 0 → ⊥)
    (λ byte t z. let lt = ltb-true 0 byte t in omega arith)
    bytes (each_true (λ byte. nat_lt 0 byte) bytes h)

pub no_zero : (bytes : List ℕ) → IsTrue (has_no_zero bytes) → HasNoZero bytes
no_zero bytes h = All-from_recursion (λ byte. byte ≡ 0 → ⊥) bytes (zero_free bytes h)

pub plain_name : (bytes : List ℕ) → IsTrue (is_name bytes) → HasNoZero bytes
plain_name bytes h = no_zero bytes (and_parts (nat_lt 0 (length bytes)) (has_no_zero bytes) h).1

pub some_name : (bytes : List ℕ) → IsTrue (is_name bytes) → bytes ≢ []
some_name bytes h e =
    let some = ltb-true 0 (length bytes) (and_parts (nat_lt 0 (length bytes)) (has_no_zero bytes) h).0 in
    let none = ap (length {A = ℕ}) e in
    omega arith

named_id : (id : TypeId) → IsTrue (is_type_id id) → id.name ≢ []
named_id id h = some_name id.name (and_parts (has_no_zero id.space) (is_name id.name) h).1

pub plain_id : (id : TypeId) → IsTrue (is_type_id id) → IsPlainId id
plain_id id h =
    let both = and_parts (has_no_zero id.space) (is_name id.name) h in
    record { name = plain_name id.name both.1; space = no_zero id.space both.0 }

-- ---- equal names

pub same_text : (a b : List ℕ) → IsTrue (pointwise nat_eq a b) → a ≡ b
same_text [] [] h = refl
same_text [] (y ∷ b) h = absurd (true≢false (sym h))
same_text (x ∷ a) [] h = absurd (true≢false (sym h))
same_text (x ∷ a) (y ∷ b) h =
    let both = and_parts (nat_eq x y) (pointwise nat_eq a b) h in
    let p = eqb-true x y both.0 in
    let q = same_text a b both.1 in
    λ i. p i ∷ q i

pub same_id : (a b : TypeId) → IsTrue (is_id a b) → a ≡ b
same_id a b h =
    let both = and_parts (pointwise nat_eq a.space b.space) (pointwise nat_eq a.name b.name) h in
    let p = same_text a.space b.space both.0 in
    let q = same_text a.name b.name both.1 in
    λ i. record { space = p i; name = q i }

empty : (xs : List ℕ) → length xs ≡ 0 → xs ≡ []
empty [] h = refl
empty (x ∷ xs) h = absurd (omega arith)

module_only : (id : TypeId) → IsTrue (is_module id) → id ≡ module_id
module_only id h =
    let both = and_parts (nat_eq (length id.space) 0) (pointwise nat_eq id.name (codes "<Module>")) h in
    let p = empty id.space (eqb-true (length id.space) 0 both.0) in
    let q = same_text id.name (codes "<Module>") both.1 in
    λ i. record { space = p i; name = q i }

-- ---- the class of a type, among those side by side

-- the class of a type, with those before it and those that it nests
pub record FoundClass (encloser row : ℕ) (t : TypeDef) (classes : List Class) : Type 0 where
  pub before : List Class
  pub class : Class
  pub inner : List Class
  pub after : List Class
  pub are : classes ≡ before ++ (class ∷ (inner ++ after))
  pub is : class.of.now ≡ t
  pub within : class.encloser ≡ encloser
  pub nested : AreClasses (row + length before) (row + length before + 1) (out-TypeDef t).nested inner

-- one further on
found_later : (encloser row : ℕ) (t : TypeDef) (class : Class) (nested others : List Class) → FoundClass encloser (row + 1 + length nested) t others
    → FoundClass encloser row t (class ∷ (nested ++ others))
found_later encloser row t class nested others f = record {
  before = class ∷ (nested ++ f.before);
  class = f.class;
  inner = f.inner;
  after = f.after;
  are = ap (λ xs. class ∷ (nested ++ xs)) f.are ∙ ap (λ xs. class ∷ xs) (sym (append_assoc nested f.before (f.class ∷ (f.inner ++ f.after))));
  is = f.is;
  within = f.within;
  nested =
      let joined = length-append nested f.before in
      let k : row + 1 + length nested + length f.before ≡ row + length (class ∷ (nested ++ f.before)) = omega arith in
      subst (λ (n : ℕ). AreClasses n (n + 1) (out-TypeDef t).nested f.inner) k f.nested;
}

pub find_class : (encloser row : ℕ) (types : List TypeDef) (classes : List Class) → AreClasses encloser row types classes
    → (id : TypeId) (t : TypeDef) → named id types ≡ Some t → FoundClass encloser row t classes × (id ≡ (out-TypeDef t).id)
find_class encloser row types classes (none e f) id t is = absurd (let gone : None ≡ Some t = sym (ap (named id) e) ∙ is in cc)
find_class encloser row types classes (more {type = type} {beside = beside} {class = class} {nested = nested} {others = others} of in_it inner side e f) id t is =
    let at : cond (has_id id type) (Some type) (named id beside) ≡ Some t = sym (ap (named id) e) ∙ is in
    elim (cases_Bool (has_id id type)) [
      | inl at_first ↦
          let it : type ≡ t = same_Some type t (sym (cond-true (has_id id type) (Some type) (named id beside) at_first) ∙ at) in
          let k : row ≡ row + length {A = Class} [] = omega arith in
          let own = subst (λ (u : TypeDef). AreClasses row (row + 1) (out-TypeDef u).nested nested) it inner in (
            record {
              before = [];
              class = class;
              inner = nested;
              after = others;
              are = f;
              is = of ∙ it;
              within = in_it;
              nested = subst (λ (n : ℕ). AreClasses n (n + 1) (out-TypeDef t).nested nested) k own;
            },
            same_id id (out-TypeDef type).id at_first ∙ ap (λ (u : TypeDef). (out-TypeDef u).id) it,
          )
      | inr later ↦
          let rest = find_class encloser (row + 1 + length nested) beside others side id t (sym (cond-false (has_id id type) (Some type) (named id beside) later) ∙ at) in
          (subst (FoundClass encloser row t) (sym f) (found_later encloser row t class nested others rest.0), rest.1)
    ]

-- ---- rows

-- the row of the place behind others
held : (strings : Heap) (rows : List Cells) (front back : List Place) (p : Place) → AreDeclared strings rows (front ++ (p ∷ back))
    → (cells : Cells) × (slice_get rows (length front) ≡ Some cells) × HoldsPlace strings cells p
held strings [] [] back p h = absurd h
held strings (c ∷ rows) [] back p h = (c, refl, h.0)
held strings [] (q ∷ front) back p h = absurd h
held strings (c ∷ rows) (q ∷ front) back p h = held strings rows front back p h.1

-- that of a type
type_row : (strings : Heap) (rows : List Cells) (front back : List Place) (p : Place) (scope row : ℕ) (id : TypeId) → AreDeclared strings rows (front ++ (p ∷ back))
    → row ≡ length front + 1 → p.encloser ≡ scope → p.id ≡ id → IsTypeRow strings rows scope id row
type_row strings rows front back p scope row id h at within is =
    let found = held strings rows front back p h in
    let k : length front ≡ row - 1 = omega arith in
    record {
      cells = found.0;
      at = record { counted = omega arith; at = subst (λ (n : ℕ). slice_get rows n ≡ Some found.0) k found.1 };
      scope_is = found.2.encloser_is ∙ within;
      id_is = subst (λ (x : TypeId). HoldsId strings x found.0.second found.0.third) is found.2.id_is;
    }

-- ---- paths

-- the places of types side by side stand between others; the first has this row
pub record Stand (row : ℕ) (classes : List Class) (all : List Place) : Type 0 where
  pub front : List Place
  pub back : List Place
  pub are : all ≡ front ++ (map class_place classes ++ back)
  pub count : row ≡ length front + 1

-- where a class stands, and where those that it nests do
pub record StandsAt (at : ℕ) (class : Class) (inner : List Class) (all : List Place) : Type 0 where
  pub front : List Place
  pub back : List Place
  pub are : all ≡ front ++ (class_place class ∷ back)
  pub count : at ≡ length front + 1
  pub inside : Stand (at + 1) inner all

stand_in : (row : ℕ) (before inner after : List Class) (class : Class) (classes : List Class) (all : List Place) → classes ≡ before ++ (class ∷ (inner ++ after)) → Stand row classes all
    → StandsAt (row + length before) class inner all
stand_in row before inner after class classes all e s =
    let front = s.front ++ map class_place before in
    let long : length front ≡ length s.front + length before = length-append s.front (map class_place before) ∙ ap (λ n. length s.front + n) (length-map before class_place) in
    let its : all ≡ s.front ++ (map class_place (before ++ (class ∷ (inner ++ after))) ++ s.back) = s.are ∙ ap (λ xs. s.front ++ (map class_place xs ++ s.back)) e in
    let one : all ≡ front ++ (class_place class ∷ ((map class_place inner ++ map class_place after) ++ s.back)) = its ∙ simp (map-append, append_assoc) in
    let two : all ≡ (front ++ (class_place class ∷ [])) ++ (map class_place inner ++ (map class_place after ++ s.back)) = its ∙ simp (map-append, append_assoc) in
    let counted = s.count in
    let end = length-append front (class_place class ∷ []) in
    record {
      front = front;
      back = (map class_place inner ++ map class_place after) ++ s.back;
      are = one;
      count = omega arith;
      inside = record { front = front ++ (class_place class ∷ []); back = map class_place after ++ s.back; are = two; count = omega arith };
    }

-- what comes of a type that there is
there : (o : Option TypeDef) (go : TypeDef → Option TypeDef) (t : TypeDef) → with_type go o ≡ Some t → (u : TypeDef) × (o ≡ Some u) × (go u ≡ Some t)
there None go t h = absurd cc
there (Some u) go t h = (u, refl, h)

module _ (strings : Heap) (rows : List Cells) (all : List Place) (declared : AreDeclared strings rows all) where
  -- a path from types side by side leads to a row
  abbrev Leads : List TypeId → Type 0
  Leads path =
      (encloser row : ℕ) (types : List TypeDef) (classes : List Class) → AreClasses encloser row types classes → Stand row classes all → (t : TypeDef)
      → type_at types path ≡ Some t → (end : ℕ) × Follows strings rows in_declared encloser path end

  -- the row of the first of its names
  first_row : (encloser row : ℕ) (types : List TypeDef) (classes : List Class) → AreClasses encloser row types classes → Stand row classes all
      → (id : TypeId) (u : TypeDef) → named id types ≡ Some u
      → (at : ℕ) × (inner : List Class) × IsTypeRow strings rows encloser id at × AreClasses at (at + 1) (out-TypeDef u).nested inner × Stand (at + 1) inner all
  first_row encloser row types classes are s id u is =
      let both = find_class encloser row types classes are id u is in
      let f = both.0 in
      let at = stand_in row f.before f.inner f.after f.class classes all f.are s in
      let whole = subst (AreDeclared strings rows) at.are declared in
      (row + length f.before, f.inner, type_row strings rows at.front at.back (class_place f.class) encloser (row + length f.before) id whole at.count f.within (ap (λ (t : TypeDef). (out-TypeDef t).id) f.is ∙ sym both.1), f.nested, at.inside)

  leads_on : (id : TypeId) (rest : List TypeId) → Leads rest → Leads (id ∷ rest)
  leads_on id [] go encloser row types classes are s t is =
      let u = there (named id types) (type_below []) t is in
      let first = first_row encloser row types classes are s id u.0 u.1 in
      (first.0, last first.2 refl)
  leads_on id (next ∷ inner) go encloser row types classes are s t is =
      let u = there (named id types) (type_below (next ∷ inner)) t is in
      let first = first_row encloser row types classes are s id u.0 u.1 in
      let rest = go first.0 (first.0 + 1) (out-TypeDef u.0).nested first.1 first.3 first.4 t u.2 in
      (rest.0, on first.2 refl rest.1)

  pub path_leads : (path : List TypeId) → Leads path
  path_leads [] = λ encloser row types classes are s t is. absurd cc
  path_leads (id ∷ rest) = leads_on id rest (path_leads rest)

-- ---- names

-- `<Module>` has the first row
module_leads : (strings : Heap) (rows : List Cells) (others : List Place) (path : List TypeId) → AreDeclared strings rows (module_place ∷ others) → IsTrue (is_module_path path)
    → (end : ℕ) × Follows strings rows in_declared 0 path end
module_leads strings rows others [] h m = absurd (true≢false (sym m))
module_leads strings rows others (id ∷ []) h m =
    (1, last (type_row strings rows [] others module_place 0 1 id h (omega arith) refl (sym (module_only id m))) refl)
module_leads strings rows others (id ∷ next ∷ inner) h m = absurd (true≢false (sym m))

some_of : (o : Option TypeDef) → IsTrue (is_some o) → (t : TypeDef) × (o ≡ Some t)
some_of None h = absurd (true≢false (sym h))
some_of (Some t) h = (t, refl)

module _ (a : Assembly) (classes : List Class) (r : References) (are : AreClasses 0 2 a.types classes)
    (declared : AreDeclared r.heaps.strings r.declared.types (places classes)) (few : length a.externs + 1 < 2 ^ 24)
    (externs : r.declared.externs ≡ length a.externs) where
  declared_leads : (path : List TypeId) → IsTrue (is_declared a path) → (end : ℕ) × Follows r.heaps.strings r.declared.types in_declared 0 path end
  declared_leads path h = elim (or_cases (is_module_path path) (is_some (type_at a.types path)) h) [
    | inl m ↦ module_leads r.heaps.strings r.declared.types (map class_place classes) path declared m
    | inr d ↦
        let t = some_of (type_at a.types path) d in
        let stand : Stand 2 classes (places classes) = record { front = module_place ∷ []; back = []; are = ap (λ ps. module_place ∷ ps) (sym (append-nil (map class_place classes))); count = omega arith } in
        path_leads r.heaps.strings r.declared.types (places classes) declared path 0 2 a.types classes are stand t.0 t.1
  ]

  nameable : (path : List TypeId) (scope : Scope) → IsTrue (is_known_in a scope path) → NameableIn r.heaps.strings r.declared.types path scope
  nameable path Here h = declared_leads path h
  nameable path (Extern k) h = let lt = ltb-true k (length a.externs) h in omega arith

  among : (path : List TypeId) (scope : Scope) → IsTrue (is_known_in a scope path) → IsScopeAmong r.declared.externs scope
  among path Here h = tt
  among path (Extern k) h = let lt = ltb-true k (length a.externs) h in omega arith

  pub name_can : (name : TypeName) → IsTrue (is_type_name a name) → CanBeNamed r name
  unfolding is_type_name
  name_can name h =
      let parts = split_three (is_short_path name.path) (list_all is_type_id name.path) (is_known a name) h in
      record {
        plain = each_from (λ id. IsTrue (is_type_id id)) IsPlainId plain_id name.path (each_true is_type_id name.path parts.1);
        nameable = nameable name.path name.scope parts.2;
        scope = among name.path name.scope parts.2;
        in_bounds = record {
          short = leb-true (length name.path) 100 parts.0;
          named = each_from (λ id. IsTrue (is_type_id id)) (λ id. id.name ≢ []) named_id name.path (each_true is_type_id name.path parts.1);
        };
      }
