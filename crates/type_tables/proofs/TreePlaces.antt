-- What stands at the paths of an assembly's types.
use Rattle.std.proofs.Common.{◌≡◌, ◌∙◌, ◌⊎◌, ap, sym, subst, refl, inl, inr, arith, None, Some, ℕ, zero, suc, Bool, true, false, ◌&&◌, ◌||◌, not, cond, List, [], ◌∷◌, length, map, Option}
use Rattle.std.specs.Prelude.{◌==◌, slice_get}
use Rattle.std.specs.List.{Contains, flat_map, list_all, list_any}
use Rattle.std.proofs.lemmas.Bool.{cases_Bool}
use Rattle.std.proofs.lemmas.Bool.Decides.{nat_tests}
use Rattle.std.proofs.lemmas.List.Elements.{Contains-append_left, Contains-append_right}
use Rattle.std.proofs.lemmas.Option.{same_Some}
use Rattle.type_terms.specs.declared.name.TypeId.{TypeId}
use Rattle.assembly_tree.specs.declared.assembly.Assembly.{Assembly}
use Rattle.assembly_tree.specs.declared.typedef.TypeDef.{TypeDef}
use Rattle.assembly_tree.specs.declared.typedef.TypeDef.TheViews.{out-TypeDef}
use Rattle.assembly_tree.specs.DataSize.{has_id, named, type_at, type_below, with_type}
use Rattle.assembly_tree.specs.WellFormedNames.{all_differ}
use Rattle.assembly_tree.specs.WellFormedTypes.{are_types, is_own, is_same_id}
use Rattle.type_hierarchy.specs.Ancestors.{typedef_paths}
use Rattle.type_tables.specs.Placed.{IsAt, top, inside}
use Rattle.type_tables.proofs.Placing.{inner, paths_out}
use Rattle.type_hierarchy.proofs.TableLemmas.{id_decides}

-- ---- tests and lists

pub and_left : (a b : Bool) → (a && b) ≡ true → a ≡ true
and_left true b h = refl
and_left false b h = h

pub and_right : (a b : Bool) → (a && b) ≡ true → b ≡ true
and_right true b h = h
and_right false b h = absurd (let f : ⊥ = cc in f)

not_true : (b : Bool) → not b ≡ true → b ≡ false
not_true true h = sym h
not_true false h = refl

pub none_in : {X : Type 0} (x : X) → Contains [] x → ⊥
none_in x (k, h, e) = omega arith

pub first_in : {X : Type 0} (x : X) (xs : List X) → Contains (x ∷ xs) x
first_in x xs = (0, omega arith, refl)

pub later_in : {X : Type 0} (x y : X) (xs : List X) → Contains xs y → Contains (x ∷ xs) y
later_in x y xs (k, h, e) = (suc k, omega (arith, h), e)

pub in_by_place : {X : Type 0} (xs : List X) (k : ℕ) (x : X) → slice_get xs k ≡ Some x → Contains xs x
in_by_place [] k x h = absurd (let f : ⊥ = cc in f)
in_by_place (y ∷ ys) zero x h = subst (Contains (y ∷ ys)) (same_Some y x h) (first_in y ys)
in_by_place (y ∷ ys) (suc k) x h = later_in y x ys (in_by_place ys k x h)

pub in_cases : {X : Type 0} (x y : X) (xs : List X) → Contains (x ∷ xs) y → (x ≡ y) ⊎ Contains xs y
in_cases x y xs (zero, h, e) = inl e
in_cases x y xs (suc k, h, e) = inr (k, omega (arith, h), e)

pub any_in : {X : Type 0} (p : X → Bool) (xs : List X) (x : X) → Contains xs x → p x ≡ true → list_any p xs ≡ true
any_in p [] x c h = absurd (none_in x c)
any_in p (y ∷ ys) x c h = elim (in_cases y x ys c) [
  | inl e ↦ ap (λ b. b || list_any p ys) (ap p e ∙ h)
  | inr d ↦ elim (cases_Bool (p y)) [
    | inl f ↦ ap (λ b. b || list_any p ys) f
    | inr f ↦ ap (λ b. b || list_any p ys) f ∙ any_in p ys x d h
  ]
]

pub all_in : {X : Type 0} (p : X → Bool) (xs : List X) (x : X) → list_all p xs ≡ true → Contains xs x → p x ≡ true
all_in p [] x h c = absurd (none_in x c)
all_in p (y ∷ ys) x h c = elim (in_cases y x ys c) [
  | inl e ↦ ap p (sym e) ∙ and_left (p y) (list_all p ys) h
  | inr d ↦ all_in p ys x (and_right (p y) (list_all p ys) h) d
]

pub flat_in : {X Y : Type 0} (f : X → List Y) (xs : List X) (x : X) (y : Y) → Contains xs x → Contains (f x) y → Contains (flat_map f xs) y
flat_in f [] x y c d = absurd (none_in x c)
flat_in f (z ∷ zs) x y c d = elim (in_cases z x zs c) [
  | inl e ↦ Contains-append_left (f z) (flat_map f zs) y (subst (λ u. Contains (f u) y) (sym e) d)
  | inr m ↦ Contains-append_right (f z) (flat_map f zs) y (flat_in f zs x y m d)
]

pub map_in : {X Y : Type 0} (f : X → Y) (xs : List X) (x : X) → Contains xs x → Contains (map f xs) (f x)
map_in f [] x c = absurd (none_in x c)
map_in f (z ∷ zs) x c = elim (in_cases z x zs c) [
  | inl e ↦ subst (λ u. Contains (map f (z ∷ zs)) (f u)) e (first_in (f z) (map f zs))
  | inr m ↦ later_in (f z) (f x) (map f zs) (map_in f zs x m)
]

-- ---- one type of several side by side

is_itself : (t : TypeDef) → has_id (out-TypeDef t).id t ≡ true
is_itself t = (id_decides (out-TypeDef t).id (out-TypeDef t).id).1 refl

pub named_here : (ts : List TypeDef) (t : TypeDef) → all_differ is_same_id ts ≡ true → Contains ts t → named (out-TypeDef t).id ts ≡ Some t
named_here [] t f c = absurd (none_in t c)
named_here (u ∷ us) t f c = elim (in_cases u t us c) [
  | inl e ↦
      ap (λ (v : TypeDef). cond (has_id (out-TypeDef t).id v) (Some v) (named (out-TypeDef t).id us)) e
      ∙ ap (λ b. cond b (Some t) (named (out-TypeDef t).id us)) (is_itself t)
  | inr d ↦ elim (cases_Bool (has_id (out-TypeDef t).id u)) [
    | inl h ↦
        let one : (out-TypeDef t).id ≡ (out-TypeDef u).id = (id_decides (out-TypeDef t).id (out-TypeDef u).id).0 h in
        let same : is_same_id u t ≡ true = (id_decides (out-TypeDef u).id (out-TypeDef t).id).1 (sym one) in
        let twice : list_any (is_same_id u) us ≡ true = any_in (is_same_id u) us t d same in
        let once : list_any (is_same_id u) us ≡ false = not_true (list_any (is_same_id u) us) (and_left (not (list_any (is_same_id u) us)) (all_differ is_same_id us) f) in
        absurd (let g : ⊥ = cc in g)
    | inr h ↦
        ap (λ b. cond b (Some u) (named (out-TypeDef t).id us)) h
        ∙ named_here us t (and_right (not (list_any (is_same_id u) us)) (all_differ is_same_id us) f) d
  ]
]

named_found : (id : TypeId) (ts : List TypeDef) (u : TypeDef) → named id ts ≡ Some u → Contains ts u × (id ≡ (out-TypeDef u).id)
named_found id [] u h = absurd (let f : ⊥ = cc in f)
named_found id (t ∷ ts) u h = elim (cases_Bool (has_id id t)) [
  | inl e ↦
      let same : t ≡ u = same_Some t u (sym (ap (λ b. cond b (Some t) (named id ts)) e) ∙ h) in
      (subst (Contains (t ∷ ts)) same (first_in t ts), (id_decides id (out-TypeDef t).id).0 e ∙ ap (λ (v : TypeDef). (out-TypeDef v).id) same)
  | inr e ↦
      let more = named_found id ts u (sym (ap (λ b. cond b (Some t) (named id ts)) e) ∙ h) in
      (later_in t u ts more.0, more.1)
]

-- ---- from a path's type to look-up

top_at : (ts : List TypeDef) (t : TypeDef) → all_differ is_same_id ts ≡ true → Contains ts t → type_at ts ((out-TypeDef t).id ∷ []) ≡ Some t
top_at ts t f c = ap (with_type (type_below [])) (named_here ts t f c)

inside_at : (ts : List TypeDef) (t : TypeDef) (path : List TypeId) (u : TypeDef) → all_differ is_same_id ts ≡ true → Contains ts t
    → type_below path t ≡ Some u → type_at ts ((out-TypeDef t).id ∷ path) ≡ Some u
inside_at ts t path u f c h = ap (with_type (type_below path)) (named_here ts t f c) ∙ h

path_below : (t : TypeDef) (ts : List TypeDef) (path : List TypeId) → ts ≡ (out-TypeDef t).nested → (path ≡ [] → ⊥) → type_below path t ≡ type_at ts path
path_below t ts [] e some = absurd (some refl)
path_below t ts (id ∷ more) e some = ap (λ us. type_at us (id ∷ more)) (sym e)

some_path : {ts : List TypeDef} {path : List TypeId} {u : TypeDef} → IsAt ts path u → path ≡ [] → ⊥
some_path (top c) h = let f : ⊥ = cc in f
some_path (inside c g) h = let f : ⊥ = cc in f

no_types : (ts : List TypeDef) (t : TypeDef) → (length ts == 0) ≡ true → Contains ts t → ⊥
no_types [] t h c = none_in t c
no_types (u ∷ us) t h c = let f : ⊥ = grind (arith, nat_tests) in f

pub empty_types : (a : Assembly) (b : Bool) (ts : List TypeDef) (t : TypeDef) → are_types a b zero ts ≡ true → Contains ts t → ⊥
unfolding are_types
empty_types a b ts t h c = no_types ts t h c

pub differ_of : (a : Assembly) (b : Bool) (depth : ℕ) (ts : List TypeDef) → are_types a b (suc depth) ts ≡ true → all_differ is_same_id ts ≡ true
unfolding are_types
differ_of a b depth ts h = and_left (all_differ is_same_id ts) (list_all (λ (t : TypeDef). is_own a b (out-TypeDef t) && are_types a false depth (out-TypeDef t).nested) ts) h

pub nested_of : (a : Assembly) (b : Bool) (depth : ℕ) (ts : List TypeDef) (t : TypeDef) → are_types a b (suc depth) ts ≡ true → Contains ts t → are_types a false depth (out-TypeDef t).nested ≡ true
unfolding are_types
nested_of a b depth ts t h c =
    and_right (is_own a b (out-TypeDef t)) (are_types a false depth (out-TypeDef t).nested)
    (all_in (λ (t : TypeDef). is_own a b (out-TypeDef t) && are_types a false depth (out-TypeDef t).nested) ts t
    (and_right (all_differ is_same_id ts) (list_all (λ (t : TypeDef). is_own a b (out-TypeDef t) && are_types a false depth (out-TypeDef t).nested) ts) h) c)

-- in a well-formed tree look-up finds the type at a path
pub at_type : (a : Assembly) (b : Bool) (depth : ℕ) {ts : List TypeDef} {path : List TypeId} {u : TypeDef} → are_types a b depth ts ≡ true → IsAt ts path u → type_at ts path ≡ Some u
at_type a b zero f (top c) = absurd (empty_types a b _ _ f c)
at_type a b zero f (inside c g) = absurd (empty_types a b _ _ f c)
at_type a b (suc depth) f (top c) = top_at _ _ (differ_of a b depth _ f) c
at_type a b (suc depth) f (inside c g) =
    inside_at _ _ _ _ (differ_of a b depth _ f) c (path_below _ _ _ refl (some_path g) ∙ at_type a false depth (nested_of a b depth _ _ f c) g)

-- ---- from look-up to the paths

found_by : (id : TypeId) (ts : List TypeDef) (more : List TypeId) (t : TypeDef) (o : Option TypeDef)
    → ((v : TypeDef) → type_below more v ≡ Some t → Contains (typedef_paths v) ((out-TypeDef v).id ∷ more))
    → named id ts ≡ o → with_type (type_below more) o ≡ Some t → Contains (flat_map typedef_paths ts) (id ∷ more)
found_by id ts more t None has e h = absurd (let f : ⊥ = cc in f)
found_by id ts more t (Some v) has e h =
    let found = named_found id ts v e in
    flat_in typedef_paths ts v (id ∷ more) found.0 (subst (λ (i : TypeId). Contains (typedef_paths v) (i ∷ more)) (sym found.1) (has v h))

below_in : (more : List TypeId) (v t : TypeDef) → type_below more v ≡ Some t → Contains (typedef_paths v) ((out-TypeDef v).id ∷ more)
below_in [] v t h = subst (λ ps. Contains ps ((out-TypeDef v).id ∷ [])) (sym (paths_out v)) (first_in ((out-TypeDef v).id ∷ []) (inner v))
below_in (id ∷ more) v t h =
    let within = found_by id (out-TypeDef v).nested more t (named id (out-TypeDef v).nested) (λ u g. below_in more u t g) refl h in
    subst (λ ps. Contains ps ((out-TypeDef v).id ∷ (id ∷ more))) (sym (paths_out v))
    (later_in ((out-TypeDef v).id ∷ []) ((out-TypeDef v).id ∷ (id ∷ more)) (inner v)
    (map_in (λ path. (out-TypeDef v).id ∷ path) (flat_map typedef_paths (out-TypeDef v).nested) (id ∷ more) within))

pub path_in : (ts : List TypeDef) (path : List TypeId) (t : TypeDef) → type_at ts path ≡ Some t → Contains (flat_map typedef_paths ts) path
path_in ts [] t h = absurd (let f : ⊥ = cc in f)
path_in ts (id ∷ more) t h = found_by id ts more t (named id ts) (λ u g. below_in more u t g) refl h
