-- The conditions on types, signatures and references in a well-formed tree (ECMA-335 II.23.2).
use Rattle.std.specs.Prelude.{ℕ, ◌==◌, ◌&&◌, ◌||◌, Bool, true, not, nat_lt, nat_le, int_le, ℤ, pos, negsuc, List, length, Option, is_none}
use Rattle.std.specs.List.{list_all}
use Rattle.type_terms.specs.Depth.{depth, owner_depth}
use Rattle.type_terms.specs.declared.term.Owner.{Owner, fold-Owner}
use Rattle.type_terms.specs.declared.term.SigType.{SigType, fold-SigType}
use Rattle.type_terms.specs.declared.term.Owner.TheOpen.{Owner-F, SigType-F, Name, Spec, Prim, Class, Value, Inst, Var, MVar, SzArray, Array, ByRef, Pointer, Mod, Pinned}
use Rattle.type_terms.specs.declared.reference.MethodSig.{MethodSig}
use Rattle.type_terms.specs.declared.reference.MethodRef.{MethodRef}
use Rattle.type_terms.specs.declared.reference.FieldRef.{FieldRef}
use Rattle.assembly_tree.specs.declared.assembly.Assembly.{Assembly}
use Rattle.assembly_tree.specs.WellFormedNames.{option_all, is_name, is_type_name}

-- ---- types

-- a size is what a packed number can hold, and a lower bound what a packed signed number can (ECMA-335 II.23.2)
abbrev pub is_size : ℕ → Bool
is_size n = nat_lt n 0x20000000

abbrev pub is_lower_bound : ℤ → Bool
is_lower_bound n = int_le (negsuc 0xFFFFFFF) n && int_le n (pos 0xFFFFFFF)

-- the shape of an array (ECMA-335 II.23.2.13): a rank of 1 to 32, and at most as many sizes and as many lower bounds
abbrev pub is_shape : ℕ → List ℕ → List ℤ → Bool
is_shape rank sizes lower =
    nat_le 1 rank && nat_le rank 32 && nat_le (length sizes) rank && nat_le (length lower) rank && list_all is_size sizes
    && list_all is_lower_bound lower

-- the number of a generic parameter
abbrev pub is_variable : ℕ → Bool
is_variable n = nat_lt n 65536

-- an owner that is a name is a type's name, one that is a type meets its conditions
abbrev pub owner_step : Assembly → Owner-F Bool Bool → Bool
owner_step a (Name name) = is_type_name a name
owner_step a (Spec of) = of

-- names are types' names, variables and shapes are in their ranges, no list of arguments is empty, and the same holds of
-- all that the type is made of
abbrev pub type_step : Assembly → SigType-F Bool Bool → Bool
type_step a (Prim p) = true
type_step a (Class name) = is_type_name a name
type_step a (Value name) = is_type_name a name
type_step a (Inst value name args) = is_type_name a name && nat_lt 0 (length args) && list_all (λ ok. ok) args
type_step a (Var n) = is_variable n
type_step a (MVar n) = is_variable n
type_step a (SzArray of) = of
type_step a (Array of rank sizes lower) = is_shape rank sizes lower && of
type_step a (ByRef of) = of
type_step a (Pointer of) = of
type_step a (Mod required by of) = by && of
type_step a (Pinned of) = of

abbrev pub is_made_well : Assembly → SigType → Bool
is_made_well a t = fold-SigType Bool Bool (owner_step a) (type_step a) t

abbrev pub is_owner_made_well : Assembly → Owner → Bool
is_owner_made_well a o = fold-Owner Bool Bool (owner_step a) (type_step a) o

-- a type of a depth of at most 100
unfoldable pub is_type : Assembly → SigType → Bool
is_type a t = nat_le (depth t) 100 && is_made_well a t

-- a type's name, or a type of a depth of at most 100
unfoldable pub is_owner : Assembly → Owner → Bool
is_owner a o = nat_le (owner_depth o) 100 && is_owner_made_well a o

-- ---- signatures (ECMA-335 II.23.2.1, II.23.2.2, II.23.2.5)

-- at most 65,535 generic parameters, parameters, locals or clauses of one owner
abbrev pub is_count : ℕ → Bool
is_count n = nat_le n 65535

-- `explicit` stands only with `instance`
abbrev pub is_explicit_with_this : MethodSig → Bool
is_explicit_with_this s = not s.explicit_this || s.has_this

-- a sentinel has a parameter behind it
abbrev pub is_sentinel_inside : MethodSig → Bool
is_sentinel_inside s = option_all (λ k. nat_lt k (length s.params)) s.sentinel

unfoldable pub is_signature : Assembly → MethodSig → Bool
is_signature a s =
    is_count s.generic && is_count (length s.params) && is_explicit_with_this s && is_sentinel_inside s && is_type a s.ret
    && list_all (is_type a) s.params

-- the signature of a method that the assembly declares: no sentinel, and a generic number that is the number of the
-- method's generic parameters
abbrev pub is_declaration : ℕ → MethodSig → Bool
is_declaration generics s = is_none s.sentinel && (s.generic == generics)

-- the signature of a property: no sentinel, generic number, `explicit` or `vararg`
abbrev pub is_property_signature : MethodSig → Bool
is_property_signature s = is_none s.sentinel && (s.generic == 0) && not s.explicit_this && not s.vararg

-- ---- references (ECMA-335 II.22.25, II.22.29)

-- where a reference has arguments there is at least one, and there are as many as the generic number
abbrev pub are_arguments : ℕ → Option (List SigType) → Bool
are_arguments generic args = option_all (λ ts. nat_lt 0 (length ts) && (length ts == generic)) args

unfoldable pub is_method_ref : Assembly → MethodRef → Bool
is_method_ref a r =
    is_name r.name && are_arguments r.sig.generic r.args && is_owner a r.owner && is_signature a r.sig
    && option_all (list_all (is_type a)) r.args

-- a reference without arguments: that of an attribute's constructor, and that of an override
unfoldable pub is_plain_ref : Assembly → MethodRef → Bool
is_plain_ref a r = is_none r.args && is_method_ref a r

unfoldable pub is_field_ref : Assembly → FieldRef → Bool
is_field_ref a r = is_name r.name && is_owner a r.owner && is_type a r.of
