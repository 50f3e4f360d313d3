-- What lies above a type.
use Rattle.std.proofs.Common.{◌≡◌, ◌⊎◌, inl, inr, refl, sym, ◌∙◌, ap, subst, ℕ, zero, suc, ◌<◌, ◌≤◌, arith, List, [], Option, None, Some}
use Rattle.std.specs.List.{Contains}
use Rattle.type_terms.specs.declared.term.Primitive.{Primitive}
use Rattle.type_terms.specs.declared.term.Primitive.TheVariants as prim
use Rattle.type_terms.specs.declared.term.Owner.{Owner}
use Rattle.type_terms.specs.declared.term.Owner.TheOpen.{SigType-F, Prim, Class, Value, Inst, Var, MVar, SzArray, Array, ByRef, Pointer, Mod, Pinned}
use Rattle.type_terms.specs.declared.term.SigType.{SigType, out-SigType, roll-SigType, roll-out-SigType}
use Rattle.type_terms.specs.declared.term.SigType.TheVariants as type
use Rattle.type_hierarchy.specs.Names.{the_array}
use Rattle.type_hierarchy.specs.Hierarchy.{Hierarchy, object, core_name, named, parent, layer_parent, primitive_parent, interfaces, layer_interfaces, Up, itself, to_parent, to_interface, Chain, alone, further, Elements, elements, layer_elements}
use Rattle.type_hierarchy.specs.Laws.{IsGrounded}

abbrev Layer : Type 0
Layer = SigType-F Owner SigType

-- ---- joining ways up

pub up_trans : (w : Hierarchy) {s t u : SigType} → Up w s t → Up w t u → Up w s u
up_trans w a itself = a
up_trans w a (to_parent b e) = to_parent (up_trans w a b) e
up_trans w a (to_interface b e) = to_interface (up_trans w a b) e

pub chain_trans : (w : Hierarchy) {s t u : SigType} → Chain w s t → Chain w t u → Chain w s u
chain_trans w a alone = a
chain_trans w a (further b e) = further (chain_trans w a b) e

pub chain_up : (w : Hierarchy) {s t : SigType} → Chain w s t → Up w s t
chain_up w alone = itself
chain_up w (further b e) = to_parent (chain_up w b) e

-- ---- Object is above each type

primitive_none : (w : Hierarchy) (p : Primitive) → primitive_parent w p ≡ None → p ≡ prim.Object
primitive_none w prim.Object e = refl
primitive_none w p e = absurd (let h : ⊥ = cc in h)

layer_none : (w : Hierarchy) (l : Layer) → layer_parent w l ≡ None → l ≡ Prim prim.Object
layer_none w (Prim p) e = ap Prim (primitive_none w p e)
layer_none w (Class n) e = cc
layer_none w (Value n) e = cc
layer_none w (Inst v n args) e = cc
layer_none w (Var n) e = cc
layer_none w (MVar n) e = cc
layer_none w (SzArray of) e = cc
layer_none w (Array of r s l) e = cc
layer_none w (ByRef of) e = cc
layer_none w (Pointer of) e = cc
layer_none w (Mod r by of) e = cc
layer_none w (Pinned of) e = cc

-- types of one layer are one
pub same_layer : (t u : SigType) → out-SigType t ≡ out-SigType u → t ≡ u
same_layer t u e = sym (roll-out-SigType t) ∙ ap roll-SigType e ∙ roll-out-SigType u

-- Object alone has no parent
pub only_object : (w : Hierarchy) (t : SigType) → parent w t ≡ None → t ≡ object
unfolding parent
only_object w t e = same_layer t object (layer_none w (out-SigType t) e ∙ sym (type.outs-Prim prim.Object))

-- and it has none
pub object_last : (w : Hierarchy) → parent w object ≡ None
unfolding parent
object_last w = ap (layer_parent w) (type.outs-Prim prim.Object)

climbs : (w : Hierarchy) (height : SigType → ℕ) (g : IsGrounded w height) (n : ℕ) (t : SigType) → height t < n → Chain w t object
climbs w height g zero t h = absurd (omega arith)
climbs w height g (suc n) t h = go (climbs w height g n) (parent w t) refl
  where
    go : ((p : SigType) → height p < n → Chain w p object) → (o : Option SigType) → parent w t ≡ o → Chain w t object
    go more None e = subst (λ (x : SigType). Chain w t x) (only_object w t e) alone
    go more (Some p) e =
        let lower : height p < height t = g.lower t p e in
        chain_trans w (further alone e) (more p (omega arith))

pub chain_object : (w : Hierarchy) → (height : SigType → ℕ) → IsGrounded w height → (t : SigType) → Chain w t object
chain_object w height g t = climbs w height g (suc (height t)) t (omega arith)

-- ---- the first step

-- what is above a type is the type, or is above its parent or one of its interfaces
pub data First (w : Hierarchy) (t u : SigType) : Type 0 where
  at_once : u ≡ t → First w t u
  by_parent : {p : SigType} → parent w t ≡ Some p → Up w p u → First w t u
  by_interface : {p : SigType} → Contains (interfaces w t) p → Up w p u → First w t u

go_parent : (w : Hierarchy) (t s u : SigType) → parent w s ≡ Some u → First w t s → First w t u
go_parent w t s u e (at_once h) = by_parent (subst (λ (x : SigType). parent w x ≡ Some u) h e) itself
go_parent w t s u e (by_parent f b) = by_parent f (to_parent b e)
go_parent w t s u e (by_interface f b) = by_interface f (to_parent b e)

go_interface : (w : Hierarchy) (t s u : SigType) → Contains (interfaces w s) u → First w t s → First w t u
go_interface w t s u e (at_once h) = by_interface (subst (λ (x : SigType). Contains (interfaces w x) u) h e) itself
go_interface w t s u e (by_parent f b) = by_parent f (to_interface b e)
go_interface w t s u e (by_interface f b) = by_interface f (to_interface b e)

pub first_step : (w : Hierarchy) {t u : SigType} → Up w t u → First w t u
first_step w itself = at_once refl
first_step w {t} (to_parent {s = s} {u = u} b e) = go_parent w t s u e (first_step w b)
first_step w {t} (to_interface {s = s} {u = u} b e) = go_interface w t s u e (first_step w b)

-- ---- heights

pub chain_height : (w : Hierarchy) (height : SigType → ℕ) (g : IsGrounded w height) {s t : SigType} → Chain w s t → height t ≤ height s
chain_height w height g alone = omega arith
chain_height w height g {s = s} (further {s = m} {u = u} b e) =
    let first : height m ≤ height s = chain_height w height g b in
    let lower : height u < height m = g.lower m u e in
    omega arith

-- what is on the chain of a type is the type, or is on its parent's chain
pub data Next (w : Hierarchy) (t u : SigType) : Type 0 where
  none : u ≡ t → Next w t u
  some : {p : SigType} → parent w t ≡ Some p → Chain w p u → Next w t u

go_next : (w : Hierarchy) (t s u : SigType) → parent w s ≡ Some u → Next w t s → Next w t u
go_next w t s u e (none h) = some (subst (λ (x : SigType). parent w x ≡ Some u) h e) alone
go_next w t s u e (some f b) = some f (further b e)

pub next_step : (w : Hierarchy) {t u : SigType} → Chain w t u → Next w t u
next_step w alone = none refl
next_step w {t} (further {s} {u} b e) = go_next w t s u e (next_step w b)

pub some_same : {X : Type 0} {x y : X} {o : Option X} → o ≡ Some x → o ≡ Some y → x ≡ y
some_same e f = cc

fork_at : (w : Hierarchy) (m u x : SigType) → parent w m ≡ Some u → Next w m x → Chain w x u ⊎ Chain w u x
fork_at w m u x e (none h) = inl (subst (λ (y : SigType). Chain w y u) (sym h) (further alone e))
fork_at w m u x e (some f b) = inr (subst (λ (y : SigType). Chain w y x) (some_same f e) b)

fork_more : (w : Hierarchy) (m u x : SigType) → parent w m ≡ Some u → Chain w x m ⊎ Chain w m x → Chain w x u ⊎ Chain w u x
fork_more w m u x e (inl c) = inl (further c e)
fork_more w m u x e (inr c) = fork_at w m u x e (next_step w c)

-- of two types on one chain, one is on the chain of the other
pub chain_fork : (w : Hierarchy) {s x u : SigType} → Chain w s x → Chain w s u → Chain w x u ⊎ Chain w u x
chain_fork w a alone = inr a
chain_fork w {s = s} {x = x} a (further {s = m} {u = u} b e) = fork_more w m u x e (chain_fork w a b)

-- ---- arrays

pub none_some : {X : Type 0} {x : X} {o : Option X} → o ≡ None → o ≡ Some x → ⊥
none_some e f = let h : ⊥ = cc in h

-- an array is above itself alone
pub array_itself : (w : Hierarchy) (height : SigType → ℕ) (g : IsGrounded w height) {a b : SigType} (x : Elements) → Up w a b → elements b ≡ Some x → a ≡ b
array_itself w height g x itself e = refl
array_itself w height g x (to_parent {s = s} {u = u} r f) e = absurd (none_some (g.no_parent_array s u f) e)
array_itself w height g x (to_interface {s = s} {u = u} r f) e = absurd (none_some (g.no_interface_array s u f) e)

record ArrayLayer (w : Hierarchy) (l : Layer) : Type 0 where
  parent : layer_parent w l ≡ Some (named w (core_name w the_array))
  interfaces : layer_interfaces w l ≡ []

array_layer : (w : Hierarchy) (l : Layer) (x : Elements) → layer_elements l ≡ Some x → ArrayLayer w l
array_layer w (SzArray of) x e = record { parent = refl; interfaces = refl }
array_layer w (Array of r s l) x e = record { parent = refl; interfaces = refl }
array_layer w (Prim p) x e = absurd (let h : ⊥ = cc in h)
array_layer w (Class n) x e = absurd (let h : ⊥ = cc in h)
array_layer w (Value n) x e = absurd (let h : ⊥ = cc in h)
array_layer w (Inst v n args) x e = absurd (let h : ⊥ = cc in h)
array_layer w (Var n) x e = absurd (let h : ⊥ = cc in h)
array_layer w (MVar n) x e = absurd (let h : ⊥ = cc in h)
array_layer w (ByRef of) x e = absurd (let h : ⊥ = cc in h)
array_layer w (Pointer of) x e = absurd (let h : ⊥ = cc in h)
array_layer w (Mod r by of) x e = absurd (let h : ⊥ = cc in h)
array_layer w (Pinned of) x e = absurd (let h : ⊥ = cc in h)

pub array_parent : (w : Hierarchy) (t : SigType) (x : Elements) → elements t ≡ Some x → parent w t ≡ Some (named w (core_name w the_array))
unfolding elements parent
array_parent w t x e = (array_layer w (out-SigType t) x e).parent

pub array_interfaces : (w : Hierarchy) (t : SigType) (x : Elements) → elements t ≡ Some x → interfaces w t ≡ []
unfolding elements interfaces
array_interfaces w t x e = (array_layer w (out-SigType t) x e).interfaces

-- what is above an array beside itself is above every other array
pub above_arrays : (w : Hierarchy) (a b : SigType) (x y : Elements) → elements a ≡ Some x → elements b ≡ Some y → {c : SigType} → Up w b c → (c ≡ b) ⊎ Up w a c
above_arrays w a b x y ea eb {c} r = go (first_step w r)
  where
    go : First w b c → (c ≡ b) ⊎ Up w a c
    go (at_once h) = inl h
    go (by_parent {p = p} f d) =
        let same : parent w a ≡ Some p = array_parent w a x ea ∙ sym (array_parent w b y eb) ∙ f in
        inr (up_trans w (to_parent itself same) d)
    go (by_interface {p = p} f d) = absurd (nothing_in (subst (λ (is : List SigType). Contains is p) (array_interfaces w b y eb) f))
      where
        nothing_in : {p : SigType} → Contains [] p → ⊥
        nothing_in (k, h, e) = omega arith
