-- What can be written: types whose names have tokens or can be given them, and whose numbers can be packed (ECMA-335 II.23.2).
use Rattle.std.specs.Prelude.{◌≡◌, ◌≢◌, ℕ, ◌^◌, ◌<◌, ⊤, Bool, true, false, List, [], ◌∷◌, length, ℤ, Option, None, Some}
use Rattle.std.specs.List.{AllByRecursion}
use Rattle.assembly_tree.specs.declared.body.Body.{Body}
use Rattle.assembly_tree.specs.declared.body.Clause.{Clause}
use Rattle.assembly_tree.specs.declared.body.ClauseKind.{ClauseKind}
use Rattle.assembly_tree.specs.declared.body.ClauseKind.TheVariants as kind
use Rattle.assembly_tree.specs.declared.body.Ins.{Ins}
use Rattle.assembly_tree.specs.declared.body.Operand.{Operand}
use Rattle.assembly_tree.specs.declared.body.Operand.TheVariants as operand
use Rattle.sig_codec.specs.Spellable.{CanBePacked, IsShape, IsSentinel}
use Rattle.sig_codec.specs.Spelling.{Layer}
use Rattle.type_terms.specs.declared.name.TypeName.{TypeName}
use Rattle.type_terms.specs.declared.reference.FieldRef.{FieldRef}
use Rattle.type_terms.specs.declared.reference.MethodRef.{MethodRef}
use Rattle.type_terms.specs.declared.reference.MethodSig.{MethodSig}
use Rattle.type_terms.specs.declared.term.Primitive.{Primitive}
use Rattle.type_terms.specs.declared.term.Owner.{Owner, out-Owner}
use Rattle.type_terms.specs.declared.term.Owner.TheOpen as layer
use Rattle.type_terms.specs.declared.term.SigType.{SigType, out-SigType}
use Rattle.image_tokens.specs.Bounds.{IsTypeInBounds, AreTypesInBounds, IsMethodInBounds, AreArgumentsInBounds, IsPathInBounds}
use Rattle.image_tokens.specs.NameTokens.{IsNameable, IsScopeAmong}
use Rattle.image_tokens.specs.Texts.{IsPlainId, HasNoZero}
use Rattle.image_tokens.specs.Units.{IsLoadable}
use Rattle.image_tokens.specs.declared.references.References.{References}

-- a name without zero bytes and in bounds, declared or in an extern that is there
pub record CanBeNamed (r : References) (name : TypeName) : Type 0 where
  pub plain : AllByRecursion IsPlainId name.path
  pub nameable : IsNameable r.heaps.strings r.declared.types name
  pub scope : IsScopeAmong r.declared.externs name.scope
  pub in_bounds : IsPathInBounds name.path

mutual
  -- a type that can be written
  pub data IsWritable (r : References) : SigType → Type 0 where
    made : {t : SigType} → IsLayerWritable r (out-SigType t) → IsWritable r t

  -- the same by the variant of the type
  pub data IsLayerWritable (r : References) : Layer → Type 0 where
    prim : {p : Primitive} → IsLayerWritable r (layer.Prim p)
    class : {name : TypeName} → CanBeNamed r name → IsLayerWritable r (layer.Class name)
    value : {name : TypeName} → CanBeNamed r name → IsLayerWritable r (layer.Value name)
    inst : {v : Bool} {name : TypeName} {args : List SigType} → CanBeNamed r name → 0 < length args → CanBePacked (length args) → AreWritable r args
        → IsLayerWritable r (layer.Inst v name args)
    var : {n : ℕ} → n < 2 ^ 16 → IsLayerWritable r (layer.Var n)
    mvar : {n : ℕ} → n < 2 ^ 16 → IsLayerWritable r (layer.MVar n)
    sz_array : {of : SigType} → IsWritable r of → IsLayerWritable r (layer.SzArray of)
    array : {of : SigType} {rank : ℕ} {sizes : List ℕ} {lower : List ℤ} → IsWritable r of → IsShape rank sizes lower
        → IsLayerWritable r (layer.Array of rank sizes lower)
    by_ref : {of : SigType} → IsWritable r of → IsLayerWritable r (layer.ByRef of)
    pointer : {of : SigType} → IsWritable r of → IsLayerWritable r (layer.Pointer of)
    modified : {required : Bool} {by : Owner} {of : SigType} → IsOwnerWritable r by → IsWritable r of → IsLayerWritable r (layer.Mod required by of)
    pinned : {of : SigType} → IsWritable r of → IsLayerWritable r (layer.Pinned of)

  -- an owner that can be written
  pub data IsOwnerWritable (r : References) : Owner → Type 0 where
    made_owner : {o : Owner} → IsOwnerLayerWritable r (out-Owner o) → IsOwnerWritable r o

  pub data IsOwnerLayerWritable (r : References) : layer.Owner-F Owner SigType → Type 0 where
    name : {n : TypeName} → CanBeNamed r n → IsOwnerLayerWritable r (layer.Name n)
    spec : {t : SigType} → IsWritable r t → IsTypeInBounds t → IsOwnerLayerWritable r (layer.Spec t)

  -- types that can be written
  pub data AreWritable (r : References) : List SigType → Type 0 where
    none : AreWritable r []
    more : {t : SigType} {ts : List SigType} → IsWritable r t → AreWritable r ts → AreWritable r (t ∷ ts)

-- a method's signature that can be written
pub record IsMethodWritable (r : References) (s : MethodSig) : Type 0 where
  pub explicit : s.explicit_this ≡ true → s.has_this ≡ true
  pub generic : CanBePacked s.generic
  pub count : CanBePacked (length s.params)
  pub ret : IsWritable r s.ret
  pub params : AreWritable r s.params
  pub sentinel : IsSentinel s.sentinel s.params
  pub in_bounds : IsMethodInBounds s

-- a property's signature that can be written
pub record IsPropertyWritable (r : References) (s : MethodSig) : Type 0 where
  pub no_explicit : s.explicit_this ≡ false
  pub no_vararg : s.vararg ≡ false
  pub no_generic : s.generic ≡ 0
  pub no_sentinel : s.sentinel ≡ None
  pub count : CanBePacked (length s.params)
  pub ret : IsWritable r s.ret
  pub params : AreWritable r s.params

-- the arguments of a generic method, of which there is at least one
abbrev pub AreArgumentsWritable : References → Option (List SigType) → Type 0
AreArgumentsWritable r None = ⊤
AreArgumentsWritable r (Some args) = (0 < length args) × CanBePacked (length args) × AreWritable r args

-- a reference to a method that can be written
pub record IsMethodRefWritable (r : References) (m : MethodRef) : Type 0 where
  pub owner : IsOwnerWritable r m.owner
  pub name : HasNoZero m.name
  pub named : m.name ≢ []
  pub sig : IsMethodWritable r m.sig
  pub args : AreArgumentsWritable r m.args
  pub in_bounds : AreArgumentsInBounds m.sig.generic m.args

-- a reference to a field that can be written
pub record IsFieldRefWritable (r : References) (f : FieldRef) : Type 0 where
  pub owner : IsOwnerWritable r f.owner
  pub name : HasNoZero f.name
  pub named : f.name ≢ []
  pub of : IsWritable r f.of
  pub in_bounds : IsTypeInBounds f.of

-- ---- bodies

-- what an instruction names can be written
abbrev pub IsOperandWritable : References → Operand → Type 0
IsOperandWritable r (operand.Method m) = IsMethodRefWritable r m
IsOperandWritable r (operand.Field f) = IsFieldRefWritable r f
IsOperandWritable r (operand.Of o) = IsOwnerWritable r o
IsOperandWritable r (operand.Text units) = IsLoadable r.heaps.user units
IsOperandWritable r operand.Nothing = ⊤
IsOperandWritable r (operand.Var n) = ⊤
IsOperandWritable r (operand.Int n) = ⊤
IsOperandWritable r (operand.Real bits) = ⊤
IsOperandWritable r (operand.Target at) = ⊤
IsOperandWritable r (operand.Targets at) = ⊤

abbrev pub IsInstructionWritable : References → Ins → Type 0
IsInstructionWritable r i = IsOperandWritable r i.operand

-- what a clause catches can be written
abbrev pub IsHandledWritable : References → ClauseKind → Type 0
IsHandledWritable r (kind.Catch o) = IsOwnerWritable r o
IsHandledWritable r (kind.Filter at) = ⊤
IsHandledWritable r kind.Finally = ⊤
IsHandledWritable r kind.Fault = ⊤

abbrev pub IsClauseWritable : References → Clause → Type 0
IsClauseWritable r c = IsHandledWritable r c.kind

-- what a body names can be written
pub record IsBodyWritable (r : References) (b : Body) : Type 0 where
  pub locals : AreWritable r b.locals
  pub count : CanBePacked (length b.locals)
  pub in_bounds : AreTypesInBounds b.locals
  pub code : AllByRecursion (IsInstructionWritable r) b.code
  pub clauses : AllByRecursion (IsClauseWritable r) b.clauses
