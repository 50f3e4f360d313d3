-- No way up is longer than there are declared types, and four more.
use Rattle.std.proofs.Common.{◌≡◌, ◌⊎◌, inl, inr, refl, sym, ◌∙◌, ap, subst, ℕ, zero, suc, ◌+◌, ◌<◌, ◌≤◌, ◌&&◌, ◌||◌, arith, List, [], ◌∷◌, length, Option, None, Some, Bool, true, false, if◌then◌else◌}
use Rattle.std.specs.Prelude.{slice_get, option_and_then}
use Rattle.std.proofs.lemmas.Bool.{cases_Bool, cases_lt}
use Rattle.type_terms.specs.declared.name.TypeId.{TypeId}
use Rattle.type_terms.specs.declared.name.TypeName.{TypeName}
use Rattle.type_terms.specs.declared.term.Primitive.{Primitive}
use Rattle.type_terms.specs.declared.term.Primitive.TheVariants as prim
use Rattle.type_terms.specs.declared.term.Owner.{Owner}
use Rattle.type_terms.specs.declared.term.Owner.TheOpen.{SigType-F, Prim, Class, Value, Inst, Var, MVar, SzArray, Array, ByRef, Pointer, Mod, Pinned}
use Rattle.type_terms.specs.declared.term.SigType.{SigType, out-SigType}
use Rattle.type_terms.specs.declared.term.SigType.TheVariants as type
use Rattle.type_hierarchy.specs.Names.{class_of, is_among, same_name, same_path, same_scope, the_array, the_delegate, the_enum, the_exception, the_multicast_delegate, the_object, the_value_type}
use Rattle.type_hierarchy.specs.Hierarchy.{Hierarchy, Declaration, object, core_name, named, named_by, chained, chain_above, chain_parent, name_parent, instance_parent, primitive_parent, layer_parent, parent}
use Rattle.type_tables.specs.Landings.{IsListed, LeapsTo}
use Rattle.type_hierarchy.specs.Laws.{IsGrounded}
use Rattle.type_hierarchy.proofs.Among.{among_at}
use Rattle.assignability.proofs.Heights.{IsNominal, class, value, instance, primitive, ArePlain, height, name_height, layer_height, primitive_height, nominal_name_parent, nominal_instance_parent, name_lower, instance_lower, parent_nominal, interface_nominal, values_integral, no_array}
use Rattle.type_tables.proofs.LandingLemmas.{some_same}
use Rattle.type_hierarchy.proofs.TableLemmas.{name_decides}

abbrev Layer : Type 0
Layer = SigType-F Owner SigType

-- ---- how many of some names are lower than a height

one_by : {x b : ℕ} → (x < b) ⊎ (b ≤ x) → ℕ
one_by (inl h) = 1
one_by (inr h) = 0

below : ℕ → ℕ → ℕ
below x b = one_by (cases_lt x b)

below_at : (x b : ℕ) (o : (x < b) ⊎ (b ≤ x)) → ((one_by o ≡ 1) × (x < b)) ⊎ ((one_by o ≡ 0) × (b ≤ x))
unfolding one_by
below_at x b (inl h) = inl (refl, h)
below_at x b (inr h) = inr (refl, h)

below_is : (x b : ℕ) → ((below x b ≡ 1) × (x < b)) ⊎ ((below x b ≡ 0) × (b ≤ x))
unfolding below
below_is x b = below_at x b (cases_lt x b)

below_more : (x b c : ℕ) → b ≤ c → below x b ≤ below x c
below_more x b c h = elim (below_is x b) [
  | inl p ↦ elim (below_is x c) [
    | inl q ↦ omega (arith, p.0, q.0)
    | inr q ↦ absurd (omega (arith, p.1, q.1))
  ]
  | inr p ↦ omega (arith, p.0)
]

below_one : (x b : ℕ) → below x b ≤ 1
below_one x b = elim (below_is x b) [
  | inl p ↦ omega (arith, p.0)
  | inr p ↦ omega (arith, p.0)
]

module _ (tall : TypeName → ℕ) where
  pub count : List TypeName → ℕ → ℕ
  count [] b = 0
  count (x ∷ xs) b = below (tall x) b + count xs b

  count_more : (xs : List TypeName) (b c : ℕ) → b ≤ c → count xs b ≤ count xs c
  unfolding count
  count_more [] b c h = omega arith
  count_more (x ∷ xs) b c h = let p = below_more (tall x) b c h in let q = count_more xs b c h in omega arith

  count_most : (xs : List TypeName) (b : ℕ) → count xs b ≤ length xs
  unfolding count
  count_most [] b = omega arith
  count_most (x ∷ xs) b = let p = below_one (tall x) b in let q = count_most xs b in omega arith

  -- one of them is not lower than itself
  count_less : (xs : List TypeName) (k : ℕ) (n : TypeName) → slice_get xs k ≡ Some n → count xs (tall n) < length xs
  unfolding count
  count_less [] k n at = absurd (let h : ⊥ = cc in h)
  count_less (x ∷ xs) zero n at =
      let same : tall x ≡ tall n = ap tall (some_same {o = Some x} refl at) in
      let q = count_most xs (tall n) in
      elim (below_is (tall x) (tall n)) [
        | inl p ↦ absurd (omega (arith, p.1))
        | inr p ↦ omega (arith, p.0)
      ]
  count_less (x ∷ xs) (suc k) n at = let p = below_one (tall x) (tall n) in let q = count_less xs k n at in omega arith

  -- and it is lower than a higher one
  count_rises : (xs : List TypeName) (k : ℕ) (n : TypeName) (c : ℕ) → slice_get xs k ≡ Some n → tall n < c → count xs (tall n) < count xs c
  unfolding count
  count_rises [] k n c at h = absurd (let z : ⊥ = cc in z)
  count_rises (x ∷ xs) zero n c at h =
      let same : tall x ≡ tall n = ap tall (some_same {o = Some x} refl at) in
      let q = count_more xs (tall n) c (omega arith) in
      elim (below_is (tall x) (tall n)) [
        | inl p ↦ absurd (omega (arith, p.1))
        | inr p ↦ elim (below_is (tall x) c) [
          | inl r ↦ omega (arith, p.0, r.0)
          | inr r ↦ absurd (omega (arith, r.1))
        ]
      ]
  count_rises (x ∷ xs) (suc k) n c at h =
      let p = below_more (tall x) (tall n) c (omega arith) in
      let q = count_rises xs k n c at h in
      omega arith

-- ---- the core chains end at Object but for Enum and MulticastDelegate

data Ends (o : Option (List TypeId)) : Type 0 where
  at_none : o ≡ None → Ends o
  at_object : o ≡ Some the_object → Ends o

ends_if : (b : Bool) (x y : Option (List TypeId)) → Ends x → Ends y → Ends (if b then x else y)
ends_if true x y p q = p
ends_if false x y p q = q

ends_past : (b : Bool) (x y : Option (List TypeId)) → b ≡ false → Ends y → Ends (if b then x else y)
ends_past true x y e q = absurd (let h : ⊥ = cc in h)
ends_past false x y e q = q

chain_ends_at : (path : List TypeId) → same_path path the_enum ≡ false → same_path path the_multicast_delegate ≡ false → Ends (chain_above path)
chain_ends_at path e d =
    ends_past (same_path path the_enum) _ _ e
    (ends_if (same_path path the_value_type) _ _ (at_object refl)
    (ends_past (same_path path the_multicast_delegate) _ _ d
    (ends_if (same_path path the_delegate) _ _ (at_object refl)
    (ends_if (same_path path (class_of prim.Str)) _ _ (at_object refl)
    (ends_if (same_path path the_array) _ _ (at_object refl)
    (ends_if (same_path path the_exception) _ _ (at_object refl) (at_none refl)))))))

abbrev in_core : Hierarchy → Option (List TypeId) → Option TypeName
in_core w o = option_and_then (λ path. Some (core_name w path)) o

parent_of_ends : (w : Hierarchy) (o : Option (List TypeId)) → Ends o → chain_parent w (in_core w o) ≡ object
parent_of_ends w o (at_none e) = ap (λ p. chain_parent w (in_core w p)) e
parent_of_ends w o (at_object e) = ap (λ p. chain_parent w (in_core w p)) e

-- the parent of a name that is neither of those two, and isn't declared
chain_object : (w : Hierarchy) (name : TypeName) (b : Bool) → (b && same_path name.path the_enum) ≡ false → (b && same_path name.path the_multicast_delegate) ≡ false
    → chain_parent w (if b then in_core w (chain_above name.path) else None) ≡ object
chain_object w name true e d = parent_of_ends w (chain_above name.path) (chain_ends_at name.path e d)
chain_object w name false e d = refl

not_these : (w : Hierarchy) (name : TypeName) → same_name name (core_name w the_enum) ≡ false → same_name name (core_name w the_multicast_delegate) ≡ false → chain_parent w (chained w name) ≡ object
not_these w name e d = chain_object w name (same_scope name.scope w.core) e d

-- ---- heights

-- the declared names, and those two
abbrev pub inner_names : Hierarchy → List TypeName → List TypeName
inner_names w names = core_name w the_enum ∷ core_name w the_multicast_delegate ∷ names

neither : (a b : Bool) → (a || b) ≡ false → (a ≡ false) × (b ≡ false)
neither true b e = absurd (let h : ⊥ = cc in h)
neither false b e = (refl, e)

find_among : (ns : List TypeName) (name : TypeName) → is_among ns name ≡ true → (k : ℕ) × (slice_get ns k ≡ Some name)
find_among [] name e = absurd (let h : ⊥ = cc in h)
find_among (n ∷ ns) name e = elim (cases_Bool (same_name name n)) [
  | inl this ↦ (0, ap Some (sym ((name_decides name n).0 this)))
  | inr other ↦
      let rest : is_among ns name ≡ true = cc in
      let j = find_among ns name rest in
      (suc j.0, j.1)
]

module _ (place : TypeName → Option ℕ) (rank : ℕ → ℕ) (w : Hierarchy) (names : List TypeName) (plain : ArePlain w) (listed : IsListed w names)
    (sound : (name : TypeName) (k : ℕ) → place name ≡ Some k → slice_get names k ≡ Some name)
    (whole : (name : TypeName) (d : Declaration) → w.declared name ≡ Some d → place name ≡ None → ⊥)
    (falls : (i j : ℕ) → LeapsTo w names i j → rank j < rank i) where
  abbrev tall : SigType → ℕ
  tall t = height place rank w t

  abbrev name_tall : TypeName → ℕ
  name_tall name = name_height place rank w name

  abbrev inner : List TypeName
  inner = inner_names w names

  abbrev low_by : Bool → TypeName → ℕ
  low_by true name = count name_tall inner (name_tall name) + 2
  low_by false name = 1

  abbrev low_name : TypeName → ℕ
  low_name name = low_by (is_among inner name) name

  abbrev low_primitive : Primitive → ℕ
  low_primitive prim.Object = 0
  low_primitive p = low_name (core_name w (class_of p))

  abbrev low_layer : Layer → ℕ
  low_layer (Prim p) = low_primitive p
  low_layer (Class name) = low_name name
  low_layer (Value name) = low_name name
  low_layer (Inst v name args) = low_name name
  low_layer (SzArray of) = low_name (core_name w the_array) + 1
  low_layer (Array of rank sizes lower) = low_name (core_name w the_array) + 1
  low_layer (Var n) = 1
  low_layer (MVar n) = 1
  low_layer (ByRef of) = 1
  low_layer (Pointer of) = 1
  low_layer (Mod r by of) = 1
  low_layer (Pinned of) = 1

  abbrev pub low_height : SigType → ℕ
  low_height t = low_layer (out-SigType t)

  -- ---- none is higher than there are declared types, and four more

  low_most_by : (b : Bool) (name : TypeName) → is_among inner name ≡ b → low_by b name ≤ length names + 3
  low_most_by true name e =
      let k = find_among inner name e in
      let less : count name_tall inner (name_tall name) < length inner = count_less name_tall inner k.0 name k.1 in
      omega arith
  low_most_by false name e = omega arith

  low_most : (name : TypeName) → low_name name ≤ length names + 3
  low_most name = low_most_by (is_among inner name) name refl

  primitive_most : (p : Primitive) → low_primitive p ≤ length names + 3
  primitive_most prim.Object = omega arith
  primitive_most p = low_most (core_name w (class_of p))

  layer_most : (l : Layer) → low_layer l ≤ length names + 4
  layer_most (Prim p) = let h = primitive_most p in omega arith
  layer_most (Class name) = let h = low_most name in omega arith
  layer_most (Value name) = let h = low_most name in omega arith
  layer_most (Inst v name args) = let h = low_most name in omega arith
  layer_most (SzArray of) = let h = low_most (core_name w the_array) in omega arith
  layer_most (Array of rank sizes lower) = let h = low_most (core_name w the_array) in omega arith
  layer_most (Var n) = omega arith
  layer_most (MVar n) = omega arith
  layer_most (ByRef of) = omega arith
  layer_most (Pointer of) = omega arith
  layer_most (Mod r by of) = omega arith
  layer_most (Pinned of) = omega arith

  pub low_bound : (t : SigType) → low_height t ≤ length names + 4
  low_bound t = layer_most (out-SigType t)

  -- ---- parents are lower

  low_positive_by : (b : Bool) (name : TypeName) → 1 ≤ low_by b name
  low_positive_by true name = omega arith
  low_positive_by false name = omega arith

  low_positive : (name : TypeName) → 1 ≤ low_name name
  low_positive name = low_positive_by (is_among inner name) name

  -- of two names the lower one, where the higher is one of those
  low_falls_by : (b : Bool) (m n : TypeName) → is_among inner m ≡ b → name_tall m < name_tall n → low_by b m < low_by true n
  low_falls_by true m n e h =
      let k = find_among inner m e in
      let r : count name_tall inner (name_tall m) < count name_tall inner (name_tall n) = count_rises name_tall inner k.0 m (name_tall n) k.1 h in
      omega arith
  low_falls_by false m n e h = omega arith

  low_falls : (m n : TypeName) → is_among inner n ≡ true → name_tall m < name_tall n → low_name m < low_name n
  low_falls m n e h = subst (λ (b : Bool). low_name m < low_by b n) (sym e) (low_falls_by (is_among inner m) m n refl h)

  primitive_falls : (p : Primitive) (n : TypeName) → is_among inner n ≡ true → primitive_height place rank w p < name_tall n → low_primitive p < low_name n
  primitive_falls prim.Object n e h = let one = low_positive n in omega arith
  primitive_falls p n e h = low_falls (core_name w (class_of p)) n e h

  layer_falls : (l : Layer) (n : TypeName) → IsNominal l → is_among inner n ≡ true → layer_height place rank w l < name_tall n → low_layer l < low_name n
  layer_falls _ n (class m) e h = low_falls m n e h
  layer_falls _ n (value m) e h = low_falls m n e h
  layer_falls _ n (instance v m args) e h = low_falls m n e h
  layer_falls _ n (primitive p) e h = primitive_falls p n e h

  low_object : low_height object ≡ 0
  low_object = ap low_layer (type.outs-Prim prim.Object)

  -- from a name, by what its parent is
  name_falls : (n : TypeName) (t : SigType) (b : Bool) → is_among inner n ≡ b → IsNominal (out-SigType t) → tall t < name_tall n → (is_among inner n ≡ false → t ≡ object)
      → low_height t < low_name n
  name_falls n t true e nominal h f = layer_falls (out-SigType t) n nominal e h
  name_falls n t false e nominal h f =
      let zero_is : low_height t ≡ 0 = ap low_height (f e) ∙ low_object in
      let one = low_positive n in
      omega arith

  undeclared_by : (n : TypeName) → is_among names n ≡ false → (o : Option Declaration) (q : Option ℕ) → w.declared n ≡ o → place n ≡ q → w.declared n ≡ None
  undeclared_by n e None q d p = d
  undeclared_by n e (Some x) None d p = absurd (whole n x d p)
  undeclared_by n e (Some x) (Some k) d p =
      let there : is_among names n ≡ true = among_at names k n (sound n k p) in
      absurd (let h : ⊥ = cc in h)

  outside : (n : TypeName) → is_among inner n ≡ false → (w.declared n ≡ None) × (chain_parent w (chained w n) ≡ object)
  outside n e =
      let one = neither (same_name n (core_name w the_enum)) _ e in
      let two = neither (same_name n (core_name w the_multicast_delegate)) _ one.1 in
      (undeclared_by n two.1 (w.declared n) (place n) refl refl, not_these w n one.0 two.0)

  name_parent_falls : (n : TypeName) → low_height (name_parent w n (w.declared n)) < low_name n
  name_parent_falls n =
      name_falls n (name_parent w n (w.declared n)) (is_among inner n) refl (nominal_name_parent w plain n (w.declared n) refl)
      (name_lower place rank w names plain listed sound whole falls n (w.declared n) refl)
      (λ e. let o = outside n e in ap (name_parent w n) o.0 ∙ o.1)

  instance_falls : (args : List SigType) (n : TypeName) → low_height (instance_parent args (w.declared n)) < low_name n
  instance_falls args n =
      name_falls n (instance_parent args (w.declared n)) (is_among inner n) refl (nominal_instance_parent w plain args n (w.declared n) refl)
      (instance_lower place rank w names plain listed sound whole falls args n (w.declared n) refl)
      (λ e. let o = outside n e in ap (instance_parent args) o.0)

  some_falls : (t u : SigType) (x : ℕ) → low_height u < x → Some u ≡ Some t → low_height t < x
  some_falls t u x h e = subst (λ (y : SigType). low_height y < x) (some_same {o = Some u} refl e) h

  object_falls : (t : SigType) → Some object ≡ Some t → low_height t < 1
  object_falls t e = some_falls t object 1 (let z = low_object in omega arith) e

  low_named : (b : Bool) (n : TypeName) → low_height (named_by b n) ≡ low_name n
  low_named true n = ap low_layer (type.outs-Value n)
  low_named false n = ap low_layer (type.outs-Class n)

  array_falls : (t : SigType) → Some (named w (core_name w the_array)) ≡ Some t → low_height t < low_name (core_name w the_array) + 1
  array_falls t e =
      let n = core_name w the_array in
      some_falls t (named w n) (low_name n + 1) (let z = low_named (w.is_value n) n in omega arith) e

  primitive_parent_falls : (p : Primitive) (t : SigType) → primitive_parent w p ≡ Some t → low_height t < low_primitive p
  primitive_parent_falls prim.Object t e = absurd (let h : ⊥ = cc in h)
  primitive_parent_falls p t e =
      let n = core_name w (class_of p) in
      some_falls t (name_parent w n (w.declared n)) (low_name n) (name_parent_falls n) e

  layer_parent_falls : (l : Layer) (t : SigType) → layer_parent w l ≡ Some t → low_height t < low_layer l
  layer_parent_falls (Prim p) t e = primitive_parent_falls p t e
  layer_parent_falls (Class n) t e = some_falls t (name_parent w n (w.declared n)) (low_name n) (name_parent_falls n) e
  layer_parent_falls (Value n) t e = some_falls t (name_parent w n (w.declared n)) (low_name n) (name_parent_falls n) e
  layer_parent_falls (Inst v n args) t e = some_falls t (instance_parent args (w.declared n)) (low_name n) (instance_falls args n) e
  layer_parent_falls (SzArray of) t e = array_falls t e
  layer_parent_falls (Array of rank sizes lower) t e = array_falls t e
  layer_parent_falls (Var n) t e = object_falls t e
  layer_parent_falls (MVar n) t e = object_falls t e
  layer_parent_falls (ByRef of) t e = object_falls t e
  layer_parent_falls (Pointer of) t e = object_falls t e
  layer_parent_falls (Mod r by of) t e = object_falls t e
  layer_parent_falls (Pinned of) t e = object_falls t e

  parent_falls : (s t : SigType) → parent w s ≡ Some t → low_height t < low_height s
  unfolding parent
  parent_falls s t e = layer_parent_falls (out-SigType s) t e

  pub low_grounded : IsGrounded w low_height
  low_grounded = record {
    lower = parent_falls;
    no_parent_array = λ s t e. no_array t (parent_nominal w plain s t e);
    no_interface_array = λ s t c. no_array t (interface_nominal w plain s t c);
    integral = values_integral w plain;
  }
