-- The order of types and owners: by variant in the order in which the variants are declared, and then by their fields
-- from left to right. Texts go by their bytes, and lists item by item, a proper prefix before the longer one.
use Rattle.std.specs.Prelude.{ℕ, List}
use Rattle.std.specs.declared.cmp.Ordering.{Ordering}
use Rattle.std.specs.declared.cmp.Ordering.TheVariants.{Less, Equal, Greater}
use Rattle.std.specs.Ordering.{ordering_then, nat_cmp, int_cmp, bool_cmp}
use Rattle.std.specs.Cmp.Lexicographic.{slice_cmp}
use Rattle.type_terms.specs.declared.name.Scope.{Scope}
use Rattle.type_terms.specs.declared.name.Scope.TheVariants.{Here, Extern}
use Rattle.type_terms.specs.declared.name.TypeId.{TypeId}
use Rattle.type_terms.specs.declared.name.TypeName.{TypeName}
use Rattle.type_terms.specs.declared.term.Primitive.TheVariants.{Void, Bool, Char, I1, U1, I2, U2, I4, U4, I8, U8, R4, R8, Str, Object, TypedRef, NInt, NUint}
use Rattle.type_terms.specs.declared.term.Primitive as prim
use Rattle.type_terms.specs.declared.term.Owner.{Owner, fold-Owner, out-Owner}
use Rattle.type_terms.specs.declared.term.SigType.{SigType, fold-SigType, out-SigType, map-SigType}
use Rattle.type_terms.specs.declared.term.Owner.TheOpen.{Owner-F, SigType-F, Name, Spec, Prim, Class, Value, Inst, Var, MVar, SzArray, Array, ByRef, Pointer, Mod, Pinned}

abbrev pub scope_order : Scope → Scope → Ordering
scope_order Here Here = Equal
scope_order Here (Extern m) = Less
scope_order (Extern n) Here = Greater
scope_order (Extern n) (Extern m) = nat_cmp n m

abbrev pub text_order : List ℕ → List ℕ → Ordering
text_order = slice_cmp nat_cmp

abbrev pub id_order : TypeId → TypeId → Ordering
id_order a b = ordering_then (text_order a.space b.space) (text_order a.name b.name)

abbrev pub name_order : TypeName → TypeName → Ordering
name_order a b = ordering_then (scope_order a.scope b.scope) (slice_cmp id_order a.path b.path)

-- the place of a primitive type among the variants
abbrev pub prim_place : prim.Primitive → ℕ
prim_place Void = 0
prim_place Bool = 1
prim_place Char = 2
prim_place I1 = 3
prim_place U1 = 4
prim_place I2 = 5
prim_place U2 = 6
prim_place I4 = 7
prim_place U4 = 8
prim_place I8 = 9
prim_place U8 = 10
prim_place R4 = 11
prim_place R8 = 12
prim_place Str = 13
prim_place Object = 14
prim_place TypedRef = 15
prim_place NInt = 16
prim_place NUint = 17

-- the place of a type's variant
abbrev pub place : {X Y : Type 0} → SigType-F X Y → ℕ
place (Prim x) = 0
place (Class x) = 1
place (Value x) = 2
place (Inst value name args) = 3
place (Var x) = 4
place (MVar x) = 5
place (SzArray of) = 6
place (Array of rank sizes lower) = 7
place (ByRef of) = 8
place (Pointer of) = 9
place (Mod required by of) = 10
place (Pinned of) = 11

-- the order of the fields of two types of one variant. A child on the left stands as its own order against others
abbrev pub fields_order : SigType-F (Owner → Ordering) (SigType → Ordering) → SigType-F Owner SigType → Ordering
fields_order (Prim p) (Prim q) = nat_cmp (prim_place p) (prim_place q)
fields_order (Class n) (Class m) = name_order n m
fields_order (Value n) (Value m) = name_order n m
fields_order (Inst v n xs) (Inst w m ys) = ordering_then (bool_cmp v w) (ordering_then (name_order n m) (slice_cmp (λ a b. a b) xs ys))
fields_order (Var n) (Var m) = nat_cmp n m
fields_order (MVar n) (MVar m) = nat_cmp n m
fields_order (SzArray a) (SzArray b) = a b
fields_order (Array a r s l) (Array b q z w) = ordering_then (a b) (ordering_then (nat_cmp r q) (ordering_then (slice_cmp nat_cmp s z) (slice_cmp int_cmp l w)))
fields_order (ByRef a) (ByRef b) = a b
fields_order (Pointer a) (Pointer b) = a b
fields_order (Mod r o a) (Mod q p b) = ordering_then (bool_cmp r q) (ordering_then (o p) (a b))
fields_order (Pinned a) (Pinned b) = a b
fields_order x y = Equal

abbrev pub term_step : SigType-F (Owner → Ordering) (SigType → Ordering) → SigType → Ordering
term_step x b = ordering_then (nat_cmp (place x) (place (out-SigType b))) (fields_order x (out-SigType b))

-- an owner that is a name stands before one that is a type
abbrev pub owner_layers : Owner-F (Owner → Ordering) (SigType → Ordering) → Owner-F Owner SigType → Ordering
owner_layers (Name n) (Name m) = name_order n m
owner_layers (Name n) (Spec b) = Less
owner_layers (Spec a) (Name m) = Greater
owner_layers (Spec a) (Spec b) = a b

abbrev pub owner_step : Owner-F (Owner → Ordering) (SigType → Ordering) → Owner → Ordering
owner_step x b = owner_layers x (out-Owner b)

abbrev pub term_order : SigType → SigType → Ordering
term_order a b = fold-SigType (Owner → Ordering) (SigType → Ordering) owner_step term_step a b

abbrev pub owner_order : Owner → Owner → Ordering
owner_order a b = fold-Owner (Owner → Ordering) (SigType → Ordering) owner_step term_step a b

-- the place of the variant of `t`
abbrev pub type_place : SigType → ℕ
type_place t = place (out-SigType t)

-- the order of the fields of `a` and `b`, which are of one variant
abbrev pub term_fields : SigType → SigType → Ordering
term_fields a b = fields_order (map-SigType Owner SigType (Owner → Ordering) (SigType → Ordering) owner_order term_order (out-SigType a)) (out-SigType b)
