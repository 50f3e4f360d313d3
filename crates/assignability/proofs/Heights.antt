-- In a world in which no step leads back, ways up come to an end.
use Rattle.std.proofs.Common.{◌≡◌, refl, sym, ◌∙◌, ap, subst, ℕ, zero, suc, ◌+◌, ◌*◌, ◌<◌, ◌≤◌, arith, List, [], ◌∷◌, map, Option, None, Some, Bool, true, false, if◌then◌else◌}
use Rattle.std.specs.Prelude.{slice_get, IsTrue, unwrap_or}
use Rattle.std.specs.List.{Contains}
use Rattle.type_terms.specs.declared.name.TypeName.{TypeName}
use Rattle.type_terms.specs.declared.term.Primitive.{Primitive}
use Rattle.type_terms.specs.declared.term.Primitive.TheVariants as prim
use Rattle.type_terms.specs.declared.term.Owner.{Owner, roll-Owner}
use Rattle.type_terms.specs.declared.term.Owner.TheOpen.{SigType-F, Prim, Class, Value, Inst, Var, MVar, SzArray, Array, ByRef, Pointer, Mod, Pinned}
use Rattle.type_terms.specs.declared.term.SigType.{SigType, out-SigType, roll-SigType, out-roll-SigType, fold_out-SigType, map-SigType}
use Rattle.type_terms.specs.declared.term.SigType.TheVariants as type
use Rattle.sig_pool.specs.Replaced.{replaced, owner_replaced, replace_step}
use Rattle.type_hierarchy.specs.Names.{class_of, is_integral, the_array, the_object, same_path}
use Rattle.type_hierarchy.specs.Ancestors.{Step, to_base, name_in, layer_name}
use Rattle.type_hierarchy.specs.Hierarchy.{Hierarchy, Declaration, object, core_name, named, named_by, chained, chain_parent, name_parent, instance_parent, primitive_parent, layer_parent, parent, declared_interfaces, layer_interfaces, interfaces, layer_elements, elements, declared_underlying, instance_underlying, layer_underlying, underlying}
use Rattle.type_tables.specs.Landings.{IsListed, here, along, LandsAt, LeapsTo}
use Rattle.type_hierarchy.specs.Laws.{IsGrounded}
use Rattle.type_tables.proofs.LandingLemmas.{some_none, some_same, chain_ends}

abbrev Layer : Type 0
Layer = SigType-F Owner SigType

-- ---- what declarations say

-- the layer of a name, an instantiation, String or Object
pub data IsNominal : Layer → Type 0 where
  class : (name : TypeName) → IsNominal (Class name)
  value : (name : TypeName) → IsNominal (Value name)
  instance : (v : Bool) (name : TypeName) (args : List SigType) → IsNominal (Inst v name args)
  primitive : (p : Primitive) → IsNominal (Prim p)

-- bases and interfaces are names, instantiations or primitive types, and the values of an enum bool, char or integers
pub record IsPlain (d : Declaration) : Type 0 where
  pub base : (b : SigType) → d.base ≡ Some b → IsNominal (out-SigType b)
  pub interface : (b : SigType) → Contains d.interfaces b → IsNominal (out-SigType b)
  pub underlying : (p : Primitive) → d.underlying ≡ Some p → IsTrue (is_integral p)

pub record ArePlain (w : Hierarchy) : Type 0 where
  pub each : (name : TypeName) (d : Declaration) → w.declared name ≡ Some d → IsPlain d

-- ---- heights

-- by the place of each declared name and the rank of each place
module _ (place : TypeName → Option ℕ) (rank : ℕ → ℕ) (w : Hierarchy) where
  abbrev next_height : (TypeName → ℕ) → Option TypeName → ℕ
  next_height h None = 1
  next_height h (Some next) = 1 + h next

  abbrev height_by : ℕ → Option ℕ → ℕ
  height_by other None = other
  height_by other (Some k) = 4 * (rank k + 1)

  -- of the last of a core chain, of one that may have one above it, and of one that may have two
  abbrev last_height : TypeName → ℕ
  last_height name = height_by 1 (place name)

  abbrev middle_height : TypeName → ℕ
  middle_height name = height_by (next_height last_height (chained w name)) (place name)

  -- four times the rank of a declared type, from 1; and of one that isn't declared one or two above where its core chain leads
  abbrev pub name_height : TypeName → ℕ
  name_height name = height_by (next_height middle_height (chained w name)) (place name)

  abbrev pub primitive_height : Primitive → ℕ
  primitive_height prim.Object = 0
  primitive_height p = name_height (core_name w (class_of p))

  abbrev pub layer_height : Layer → ℕ
  layer_height (Prim p) = primitive_height p
  layer_height (Class name) = name_height name
  layer_height (Value name) = name_height name
  layer_height (Inst v name args) = name_height name
  layer_height (SzArray of) = 1 + name_height (core_name w the_array)
  layer_height (Array of rank sizes lower) = 1 + name_height (core_name w the_array)
  layer_height (Var n) = 1
  layer_height (MVar n) = 1
  layer_height (ByRef of) = 1
  layer_height (Pointer of) = 1
  layer_height (Mod required by of) = 1
  layer_height (Pinned of) = 1

  abbrev pub height : SigType → ℕ
  height t = layer_height (out-SigType t)

  -- ---- core chains come to an end

  same_place : (o : Option ℕ) (x y : ℕ) → x ≤ y → height_by x o ≤ height_by y o
  same_place None x y h = h
  same_place (Some k) x y h = omega arith

  last_chain : (name : TypeName) → chained w name ≡ None → middle_height name ≤ last_height name
  last_chain name e = same_place (place name) (next_height last_height (chained w name)) 1 (rw e (omega arith))

  next_chain : (name : TypeName) (o : Option TypeName) → chained w name ≡ o → ((z : TypeName) → o ≡ Some z → chained w z ≡ None) → next_height middle_height o ≤ next_height last_height o
  next_chain name None e ends = omega arith
  next_chain name (Some z) e ends = let h : middle_height z ≤ last_height z = last_chain z (ends z refl) in omega arith

  pub chain_below : (x name : TypeName) → chained w x ≡ Some name → name_height name ≤ middle_height name
  chain_below x name e =
      same_place (place name) (next_height middle_height (chained w name)) (next_height last_height (chained w name))
      (next_chain name (chained w name) refl (λ z f. chain_ends w x name z e f))

  positive_by : (o : Option ℕ) (x : ℕ) → 1 ≤ x → 1 ≤ height_by x o
  positive_by None x h = h
  positive_by (Some k) x h = omega arith

  positive_next : (h : TypeName → ℕ) (o : Option TypeName) → 1 ≤ next_height h o
  positive_next h None = omega arith
  positive_next h (Some z) = omega arith

  pub positive : (name : TypeName) → 1 ≤ name_height name
  positive name = positive_by (place name) (next_height middle_height (chained w name)) (positive_next middle_height (chained w name))

  -- ---- the height of a name, an instantiation or a primitive type

  -- it has a name, and is as high as that or lower
  pub record HasName (l : Layer) : Type 0 where
    pub name : TypeName
    pub is : layer_name w l ≡ Some name
    pub lower : layer_height l ≤ name_height name

  primitive_below : (p : Primitive) → primitive_height p ≤ name_height (core_name w (class_of p))
  primitive_below prim.Object = omega arith
  primitive_below p = omega arith

  pub nominal_name : (l : Layer) → IsNominal l → HasName l
  nominal_name _ (class name) = record { name = name; is = refl; lower = omega arith }
  nominal_name _ (value name) = record { name = name; is = refl; lower = omega arith }
  nominal_name _ (instance v name args) = record { name = name; is = refl; lower = omega arith }
  nominal_name _ (primitive p) = record { name = core_name w (class_of p); is = refl; lower = primitive_below p }

  pub object_height : height object ≡ 0
  object_height = ap layer_height (type.outs-Prim prim.Object)

  pub named_height : (b : Bool) (name : TypeName) → height (named_by b name) ≡ name_height name
  named_height true name = ap layer_height (type.outs-Value name)
  named_height false name = ap layer_height (type.outs-Class name)

-- ---- types whose arguments are put in

pub record IsReplaced (args : List SigType) (b : SigType) : Type 0 where
  pub nominal : IsNominal (out-SigType (replaced args [] b))
  pub same : (place : TypeName → Option ℕ) (rank : ℕ → ℕ) (w : Hierarchy) → height place rank w (replaced args [] b) ≡ height place rank w b

abbrev replaced_layer : List SigType → Layer → Layer
replaced_layer args l = map-SigType Owner SigType Owner SigType (owner_replaced args []) (replaced args []) l

replaced_at : (args : List SigType) (b : SigType) (l : Layer) → out-SigType b ≡ l → replaced args [] b ≡ replace_step args [] (replaced_layer args l)
unfolding replaced owner_replaced
replaced_at args b l e = fold_out-SigType Owner SigType roll-Owner (replace_step args []) b ∙ ap (λ m. replace_step args [] (replaced_layer args m)) e

-- a layer that stays what it is, but for arguments
layer_stays : (args : List SigType) (b : SigType) (l m : Layer) → out-SigType b ≡ l → replace_step args [] (replaced_layer args l) ≡ roll-SigType m → IsNominal m
    → ((place : TypeName → Option ℕ) (rank : ℕ → ℕ) (w : Hierarchy) → layer_height place rank w m ≡ layer_height place rank w l) → IsReplaced args b
layer_stays args b l m e step n same =
    let is : out-SigType (replaced args [] b) ≡ m = ap out-SigType (replaced_at args b l e ∙ step) ∙ out-roll-SigType m in
    record {
      nominal = subst IsNominal (sym is) n;
      same = λ place rank w. ap (layer_height place rank w) is ∙ same place rank w ∙ ap (layer_height place rank w) (sym e);
    }

nominal_replaced : (args : List SigType) (b : SigType) (l : Layer) → out-SigType b ≡ l → IsNominal l → IsReplaced args b
nominal_replaced args b _ e (class name) = layer_stays args b (Class name) (Class name) e refl (class name) (λ place rank w. refl)
nominal_replaced args b _ e (value name) = layer_stays args b (Value name) (Value name) e refl (value name) (λ place rank w. refl)
nominal_replaced args b _ e (instance v name ts) =
    layer_stays args b (Inst v name ts) (Inst v name (map (replaced args []) ts)) e refl (instance v name (map (replaced args []) ts)) (λ place rank w. refl)
nominal_replaced args b _ e (primitive p) = layer_stays args b (Prim p) (Prim p) e refl (primitive p) (λ place rank w. refl)

pub is_replaced : (args : List SigType) (b : SigType) → IsNominal (out-SigType b) → IsReplaced args b
is_replaced args b n = nominal_replaced args b (out-SigType b) refl n

-- ---- parents and interfaces are names, instantiations or primitive types

pub nominal_object : IsNominal (out-SigType object)
nominal_object = subst IsNominal (sym (type.outs-Prim prim.Object)) (primitive prim.Object)

pub nominal_named : (b : Bool) (name : TypeName) → IsNominal (out-SigType (named_by b name))
nominal_named true name = subst IsNominal (sym (type.outs-Value name)) (value name)
nominal_named false name = subst IsNominal (sym (type.outs-Class name)) (class name)

nominal_as_parent : (w : Hierarchy) (b : Bool) (name : TypeName) → IsNominal (out-SigType (if b then object else named w name))
nominal_as_parent w true name = nominal_object
nominal_as_parent w false name = nominal_named (w.is_value name) name

nominal_base : (o : Option SigType) → ((b : SigType) → o ≡ Some b → IsNominal (out-SigType b)) → IsNominal (out-SigType (unwrap_or o object))
nominal_base None h = nominal_object
nominal_base (Some b) h = h b refl

module _ (w : Hierarchy) (plain : ArePlain w) where
  nominal_chain : (o : Option TypeName) → IsNominal (out-SigType (chain_parent w o))
  nominal_chain None = nominal_object
  nominal_chain (Some next) = nominal_as_parent w (same_path next.path the_object) next

  pub nominal_name_parent : (name : TypeName) (o : Option Declaration) → w.declared name ≡ o → IsNominal (out-SigType (name_parent w name o))
  nominal_name_parent name None e = nominal_chain (chained w name)
  nominal_name_parent name (Some d) e = nominal_base d.base (plain.each name d e).base

  pub nominal_instance_parent : (args : List SigType) (name : TypeName) (o : Option Declaration) → w.declared name ≡ o → IsNominal (out-SigType (instance_parent args o))
  nominal_instance_parent args name None e = nominal_object
  nominal_instance_parent args name (Some d) e = (is_replaced args (unwrap_or d.base object) (nominal_base d.base (plain.each name d e).base)).nominal

  some_nominal : (t u : SigType) → IsNominal (out-SigType u) → Some u ≡ Some t → IsNominal (out-SigType t)
  some_nominal t u n e = subst (λ (x : SigType). IsNominal (out-SigType x)) (some_same refl e) n

  primitive_nominal : (p : Primitive) (t : SigType) → primitive_parent w p ≡ Some t → IsNominal (out-SigType t)
  primitive_nominal prim.Object t e = absurd (let h : ⊥ = cc in h)
  primitive_nominal p t e =
      let name = core_name w (class_of p) in
      some_nominal t (name_parent w name (w.declared name)) (nominal_name_parent name (w.declared name) refl) e

  layer_nominal : (l : Layer) (t : SigType) → layer_parent w l ≡ Some t → IsNominal (out-SigType t)
  layer_nominal (Prim p) t e = primitive_nominal p t e
  layer_nominal (Class name) t e = some_nominal t (name_parent w name (w.declared name)) (nominal_name_parent name (w.declared name) refl) e
  layer_nominal (Value name) t e = some_nominal t (name_parent w name (w.declared name)) (nominal_name_parent name (w.declared name) refl) e
  layer_nominal (Inst v name args) t e = some_nominal t (instance_parent args (w.declared name)) (nominal_instance_parent args name (w.declared name) refl) e
  layer_nominal (SzArray of) t e = some_nominal t (named w (core_name w the_array)) (nominal_named (w.is_value (core_name w the_array)) (core_name w the_array)) e
  layer_nominal (Array of rank sizes lower) t e = some_nominal t (named w (core_name w the_array)) (nominal_named (w.is_value (core_name w the_array)) (core_name w the_array)) e
  layer_nominal (Var n) t e = some_nominal t object nominal_object e
  layer_nominal (MVar n) t e = some_nominal t object nominal_object e
  layer_nominal (ByRef of) t e = some_nominal t object nominal_object e
  layer_nominal (Pointer of) t e = some_nominal t object nominal_object e
  layer_nominal (Mod r by of) t e = some_nominal t object nominal_object e
  layer_nominal (Pinned of) t e = some_nominal t object nominal_object e

  pub parent_nominal : (s t : SigType) → parent w s ≡ Some t → IsNominal (out-SigType t)
  unfolding parent
  parent_nominal s t e = layer_nominal (out-SigType s) t e

  -- ---- interfaces

  none_in : (t : SigType) → Contains [] t → IsNominal (out-SigType t)
  none_in t (k, h, e) = absurd (omega arith)

  declared_nominal : (name : TypeName) (o : Option Declaration) → w.declared name ≡ o → (t : SigType) → Contains (declared_interfaces o) t → IsNominal (out-SigType t)
  declared_nominal name None e t c = none_in t c
  declared_nominal name (Some d) e t c = (plain.each name d e).interface t c

  put_in_nominal : (args : List SigType) (ts : List SigType) → ((t : SigType) → Contains ts t → IsNominal (out-SigType t))
      → (t : SigType) → Contains (map (replaced args []) ts) t → IsNominal (out-SigType t)
  put_in_nominal args [] h t c = none_in t c
  put_in_nominal args (u ∷ us) h t (zero, low, e) =
      subst (λ (x : SigType). IsNominal (out-SigType x)) e (is_replaced args u (h u (zero, omega arith, refl))).nominal
  put_in_nominal args (u ∷ us) h t (suc k, low, e) =
      put_in_nominal args us (λ x c. h x (suc c.0, (let g = c.1 in omega arith), c.2)) t (k, omega arith, e)

  layer_interface : (l : Layer) (t : SigType) → Contains (layer_interfaces w l) t → IsNominal (out-SigType t)
  layer_interface (Prim p) t c = declared_nominal (core_name w (class_of p)) (w.declared (core_name w (class_of p))) refl t c
  layer_interface (Class name) t c = declared_nominal name (w.declared name) refl t c
  layer_interface (Value name) t c = declared_nominal name (w.declared name) refl t c
  layer_interface (Inst v name args) t c = put_in_nominal args (declared_interfaces (w.declared name)) (declared_nominal name (w.declared name) refl) t c
  layer_interface (SzArray of) t c = none_in t c
  layer_interface (Array of rank sizes lower) t c = none_in t c
  layer_interface (Var n) t c = none_in t c
  layer_interface (MVar n) t c = none_in t c
  layer_interface (ByRef of) t c = none_in t c
  layer_interface (Pointer of) t c = none_in t c
  layer_interface (Mod r by of) t c = none_in t c
  layer_interface (Pinned of) t c = none_in t c

  pub interface_nominal : (s t : SigType) → Contains (interfaces w s) t → IsNominal (out-SigType t)
  unfolding interfaces
  interface_nominal s t c = layer_interface (out-SigType s) t c

  -- ---- enums

  none_integral : (p : Primitive) → None ≡ Some p → IsTrue (is_integral p)
  none_integral p e = absurd (let h : ⊥ = cc in h)

  declared_integral : (name : TypeName) (o : Option Declaration) → w.declared name ≡ o → (p : Primitive) → declared_underlying o ≡ Some p → IsTrue (is_integral p)
  declared_integral name None e p h = none_integral p h
  declared_integral name (Some d) e p h = (plain.each name d e).underlying p h

  instance_integral : (v : Bool) (name : TypeName) (p : Primitive) → instance_underlying v (w.declared name) ≡ Some p → IsTrue (is_integral p)
  instance_integral true name p e = declared_integral name (w.declared name) refl p e
  instance_integral false name p e = none_integral p e

  layer_integral : (l : Layer) (p : Primitive) → layer_underlying w l ≡ Some p → IsTrue (is_integral p)
  layer_integral (Value name) p e = declared_integral name (w.declared name) refl p e
  layer_integral (Inst v name args) p e = instance_integral v name p e
  layer_integral (Prim q) p e = none_integral p e
  layer_integral (Class name) p e = none_integral p e
  layer_integral (SzArray of) p e = none_integral p e
  layer_integral (Array of rank sizes lower) p e = none_integral p e
  layer_integral (Var n) p e = none_integral p e
  layer_integral (MVar n) p e = none_integral p e
  layer_integral (ByRef of) p e = none_integral p e
  layer_integral (Pointer of) p e = none_integral p e
  layer_integral (Mod r by of) p e = none_integral p e
  layer_integral (Pinned of) p e = none_integral p e

  pub values_integral : (t : SigType) (p : Primitive) → underlying w t ≡ Some p → IsTrue (is_integral p)
  unfolding underlying
  values_integral t p e = layer_integral (out-SigType t) p e

-- a name, an instantiation or a primitive type is no array
nominal_no_array : (l : Layer) → IsNominal l → layer_elements l ≡ None
nominal_no_array _ (class name) = refl
nominal_no_array _ (value name) = refl
nominal_no_array _ (instance v name args) = refl
nominal_no_array _ (primitive p) = refl

pub no_array : (t : SigType) → IsNominal (out-SigType t) → elements t ≡ None
unfolding elements
no_array t n = nominal_no_array (out-SigType t) n

-- ---- parents are lower

module _ (place : TypeName → Option ℕ) (rank : ℕ → ℕ) (w : Hierarchy) (names : List TypeName) (plain : ArePlain w) (listed : IsListed w names)
    (sound : (name : TypeName) (k : ℕ) → place name ≡ Some k → slice_get names k ≡ Some name)
    (whole : (name : TypeName) (d : Declaration) → w.declared name ≡ Some d → place name ≡ None → ⊥)
    (falls : (i j : ℕ) → LeapsTo w names i j → rank j < rank i) where
  abbrev tall : SigType → ℕ
  tall t = height place rank w t

  abbrev name_tall : TypeName → ℕ
  name_tall name = name_height place rank w name

  -- what a name leads to is at most so high
  abbrev Bound : TypeName → ℕ → Type 0
  Bound name b = (j : ℕ) → LandsAt w names name j → 4 * (rank j + 1) ≤ b

  bound_on : (name next : TypeName) (b : ℕ) → w.declared name ≡ None → chained w name ≡ Some next → Bound name b → Bound next b
  bound_on name next b e c h j at = h j (record { last = at.last; lands = along e c at.lands; at = at.at })

  undeclared_at : (name : TypeName) → place name ≡ None → w.declared name ≡ None
  undeclared_at name p = go (w.declared name) refl
    where
      go : (o : Option Declaration) → w.declared name ≡ o → w.declared name ≡ None
      go None e = e
      go (Some d) e = absurd (whole name d e p)

  at_place : (name : TypeName) (k b : ℕ) → place name ≡ Some k → Bound name b → 4 * (rank k + 1) ≤ b
  at_place name k b p h = h k (record { last = name; lands = here (listed.named k name (sound name k p)).1; at = sound name k p })

  -- by the heights of what comes next
  bound_by : (name : TypeName) (o : Option ℕ) (other b c : ℕ) → place name ≡ o → Bound name b → b ≤ c → (w.declared name ≡ None → other ≤ c) → height_by place rank w other o ≤ c
  bound_by name None other b c p h l f = f (undeclared_at name p)
  bound_by name (Some k) other b c p h l f = let g = at_place name k b p h in omega arith

  bound_next : (name : TypeName) (o : Option TypeName) (h : TypeName → ℕ) (b c : ℕ) → chained w name ≡ o → w.declared name ≡ None → Bound name b → 1 ≤ b
      → b ≤ c → ((next : TypeName) → Bound next b → h next ≤ c) → next_height place rank w h o ≤ c + 1
  bound_next name None h b c e d g one l f = omega arith
  bound_next name (Some next) h b c e d g one l f = let k = f next (bound_on name next b d e g) in omega arith

  bound_last : (name : TypeName) (b : ℕ) → 1 ≤ b → Bound name b → last_height place rank w name ≤ b
  bound_last name b one h = bound_by name (place name) 1 b b refl h (omega arith) (λ d. one)

  bound_middle : (name : TypeName) (b : ℕ) → 1 ≤ b → Bound name b → middle_height place rank w name ≤ b + 1
  bound_middle name b one h =
      bound_by name (place name) _ b (b + 1) refl h (omega arith)
      (λ d. bound_next name (chained w name) (last_height place rank w) b b refl d h one (omega arith) (λ next g. bound_last next b one g))

  bound_name : (name : TypeName) (b : ℕ) → 1 ≤ b → Bound name b → name_tall name ≤ b + 1 + 1
  bound_name name b one h =
      bound_by name (place name) _ b (b + 1 + 1) refl h (omega arith)
      (λ d. bound_next name (chained w name) (middle_height place rank w) b (b + 1) refl d h one (omega arith) (λ next g. bound_middle next b one g))

  -- the name to which a declared type steps is lower
  step_lower : (name next : TypeName) (k : ℕ) → place name ≡ Some k → Step w name next → name_tall next < 4 * (rank k + 1)
  step_lower name next k p s =
      let h : name_tall next ≤ 4 * rank k + 1 + 1 + 1 =
      bound_name next (4 * rank k + 1) (omega arith) (λ j at.
      let f : rank j < rank k = falls k j (record { name = name; next = next; from = sound name k p; step = s; to = at }) in
      omega arith) in
      omega arith

  named_in : (t : SigType) (name : TypeName) → layer_name w (out-SigType t) ≡ Some name → name_in w t ≡ Some name
  unfolding name_in
  named_in t name e = e

  base_lower : (name : TypeName) (d : Declaration) (k : ℕ) → w.declared name ≡ Some d → place name ≡ Some k → (o : Option SigType) → d.base ≡ o → tall (unwrap_or o object) < 4 * (rank k + 1)
  base_lower name d k e p None b = let z : tall object ≡ 0 = object_height place rank w in omega arith
  base_lower name d k e p (Some t) b =
      let n : HasName place rank w (out-SigType t) = nominal_name place rank w (out-SigType t) ((plain.each name d e).base t b) in
      let l = n.lower in
      let s : name_tall n.name < 4 * (rank k + 1) = step_lower name n.name k p (to_base e b (named_in t n.name n.is)) in
      omega arith

  declared_lower : (name : TypeName) (d : Declaration) (o : Option ℕ) → w.declared name ≡ Some d → place name ≡ o → (x : ℕ) → tall (unwrap_or d.base object) < height_by place rank w x o
  declared_lower name d None e p x = absurd (whole name d e p)
  declared_lower name d (Some k) e p x = base_lower name d k e p d.base refl

  as_parent_below : (b : Bool) (next : TypeName) → tall (if b then object else named w next) ≤ name_tall next
  as_parent_below true next = let z : tall object ≡ 0 = object_height place rank w in omega arith
  as_parent_below false next = let z : tall (named w next) ≡ name_tall next = named_height place rank w (w.is_value next) next in omega arith

  chain_lower : (name : TypeName) (o : Option TypeName) → chained w name ≡ o → tall (chain_parent w o) < next_height place rank w (middle_height place rank w) o
  chain_lower name None e = let z : tall object ≡ 0 = object_height place rank w in omega arith
  chain_lower name (Some next) e =
      let a = as_parent_below (same_path next.path the_object) next in
      let b : name_tall next ≤ middle_height place rank w next = chain_below place rank w name next e in
      omega arith

  other_lower : (name : TypeName) (o : Option ℕ) → w.declared name ≡ None → place name ≡ o
      → tall (chain_parent w (chained w name)) < height_by place rank w (next_height place rank w (middle_height place rank w) (chained w name)) o
  other_lower name None e p = chain_lower name (chained w name) refl
  other_lower name (Some k) e p = absurd (some_none (listed.named k name (sound name k p)).1 e)

  pub name_lower : (name : TypeName) (o : Option Declaration) → w.declared name ≡ o → tall (name_parent w name o) < name_tall name
  name_lower name None e = other_lower name (place name) e refl
  name_lower name (Some d) e = declared_lower name d (place name) e refl _

  pub instance_lower : (args : List SigType) (name : TypeName) (o : Option Declaration) → w.declared name ≡ o → tall (instance_parent args o) < name_tall name
  instance_lower args name None e =
      let z : tall object ≡ 0 = object_height place rank w in
      let one : 1 ≤ name_tall name = positive place rank w name in
      omega arith
  instance_lower args name (Some d) e =
      let same : tall (replaced args [] (unwrap_or d.base object)) ≡ tall (unwrap_or d.base object) =
      (is_replaced args (unwrap_or d.base object) (nominal_base d.base (plain.each name d e).base)).same place rank w in
      let low : tall (unwrap_or d.base object) < name_tall name = declared_lower name d (place name) e refl _ in
      omega arith

  some_lower : (t u : SigType) (x : ℕ) → tall u < x → Some u ≡ Some t → tall t < x
  some_lower t u x h e = subst (λ (y : SigType). tall y < x) (some_same refl e) h

  primitive_lower : (p : Primitive) (t : SigType) → primitive_parent w p ≡ Some t → tall t < primitive_height place rank w p
  primitive_lower prim.Object t e = absurd (let h : ⊥ = cc in h)
  primitive_lower p t e =
      let name = core_name w (class_of p) in
      some_lower t (name_parent w name (w.declared name)) (name_tall name) (name_lower name (w.declared name) refl) e

  object_lower : (t : SigType) → Some object ≡ Some t → tall t < 1
  object_lower t e = some_lower t object 1 (let z : tall object ≡ 0 = object_height place rank w in omega arith) e

  array_lower : (t : SigType) → Some (named w (core_name w the_array)) ≡ Some t → tall t < 1 + name_tall (core_name w the_array)
  array_lower t e =
      let name = core_name w the_array in
      some_lower t (named w name) (1 + name_tall name) (let z : tall (named w name) ≡ name_tall name = named_height place rank w (w.is_value name) name in omega arith) e

  layer_lower : (l : Layer) (t : SigType) → layer_parent w l ≡ Some t → tall t < layer_height place rank w l
  layer_lower (Prim p) t e = primitive_lower p t e
  layer_lower (Class name) t e = some_lower t (name_parent w name (w.declared name)) (name_tall name) (name_lower name (w.declared name) refl) e
  layer_lower (Value name) t e = some_lower t (name_parent w name (w.declared name)) (name_tall name) (name_lower name (w.declared name) refl) e
  layer_lower (Inst v name args) t e = some_lower t (instance_parent args (w.declared name)) (name_tall name) (instance_lower args name (w.declared name) refl) e
  layer_lower (SzArray of) t e = array_lower t e
  layer_lower (Array of rank sizes lower) t e = array_lower t e
  layer_lower (Var n) t e = object_lower t e
  layer_lower (MVar n) t e = object_lower t e
  layer_lower (ByRef of) t e = object_lower t e
  layer_lower (Pointer of) t e = object_lower t e
  layer_lower (Mod r by of) t e = object_lower t e
  layer_lower (Pinned of) t e = object_lower t e

  parent_lower : (s t : SigType) → parent w s ≡ Some t → tall t < tall s
  unfolding parent
  parent_lower s t e = layer_lower (out-SigType s) t e

  pub grounded : IsGrounded w (height place rank w)
  grounded = record {
    lower = parent_lower;
    no_parent_array = λ s t e. no_array t (parent_nominal w plain s t e);
    no_interface_array = λ s t c. no_array t (interface_nominal w plain s t c);
    integral = values_integral w plain;
  }
