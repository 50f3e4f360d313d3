-- The size that a source states for the values of a type is the one that its assembly states (ECMA-335 II.16.3, II.10.1.2).
use Rattle.std.proofs.Common.{◌≡◌, ℕ, ◌≤◌, Option, Some, sym, ◌∙◌, arith}
use Rattle.std.proofs.lemmas.Option.{same_Some}
use Rattle.type_terms.specs.declared.name.TypeName.{TypeName}
use Rattle.type_terms.specs.declared.term.Owner.{Owner, fold-Owner}
use Rattle.type_terms.specs.declared.term.Owner.TheOpen as layer
use Rattle.type_terms.specs.declared.term.Primitive.{Primitive}
use Rattle.type_terms.specs.declared.term.Primitive.TheVariants as prim
use Rattle.type_terms.specs.declared.term.SigType.{SigType, fold-SigType, fold-roll-SigType, map-SigType, roll-SigType}
use Rattle.type_terms.proofs.Layers.{OwnerWith, TypeWith, type_values, by_layers}
use Rattle.assembly_tree.specs.declared.assembly.Assembly.{Assembly}
use Rattle.assembly_tree.specs.DataSize.{declared, layout_size, no_size, primitive_size, size_in_data, type_size}
use Rattle.assembly_tree.specs.DataSize as tree
use Rattle.source_model.specs.Data.{data_size, value_layout, value_size}
use Rattle.source_model.specs.Data as source
use Rattle.source_model.specs.Source.{Source}

small : (p : Primitive) (k : ℕ) → primitive_size p ≡ Some k → k ≤ 4294967295
small prim.Bool k e = let same : 1 ≡ k = same_Some 1 k e in omega (arith, same)
small prim.I1 k e = let same : 1 ≡ k = same_Some 1 k e in omega (arith, same)
small prim.U1 k e = let same : 1 ≡ k = same_Some 1 k e in omega (arith, same)
small prim.Char k e = let same : 2 ≡ k = same_Some 2 k e in omega (arith, same)
small prim.I2 k e = let same : 2 ≡ k = same_Some 2 k e in omega (arith, same)
small prim.U2 k e = let same : 2 ≡ k = same_Some 2 k e in omega (arith, same)
small prim.I4 k e = let same : 4 ≡ k = same_Some 4 k e in omega (arith, same)
small prim.U4 k e = let same : 4 ≡ k = same_Some 4 k e in omega (arith, same)
small prim.R4 k e = let same : 4 ≡ k = same_Some 4 k e in omega (arith, same)
small prim.I8 k e = let same : 8 ≡ k = same_Some 8 k e in omega (arith, same)
small prim.U8 k e = let same : 8 ≡ k = same_Some 8 k e in omega (arith, same)
small prim.R8 k e = let same : 8 ≡ k = same_Some 8 k e in omega (arith, same)
small prim.Void k e = absurd cc
small prim.Str k e = absurd cc
small prim.Object k e = absurd cc
small prim.TypedRef k e = absurd cc
small prim.NInt k e = absurd cc
small prim.NUint k e = absurd cc

module _ (s : Source) (a : Assembly)
    (stated : (name : TypeName) (k : ℕ) → layout_size (value_layout s name.scope name.path) ≡ Some k → (type_size (declared a name) ≡ Some k) × (k ≤ 4294967295)) where
  -- a size that the source states is that of the assembly, and below 2^32
  abbrev pub Sized : SigType → Type 0
  Sized t = (k : ℕ) → data_size s t ≡ Some k → (size_in_data a t ≡ Some k) × (k ≤ 4294967295)

  abbrev Nothing : Owner → Type 0
  Nothing o = Unit {0}

  abbrev values : layer.SigType-F (OwnerWith Nothing Sized) (TypeWith Nothing Sized) → layer.SigType-F Owner SigType
  values = type_values Nothing Sized

  abbrev in_source : layer.SigType-F Owner SigType → Option ℕ
  in_source l =
      source.size_step (value_size s) (map-SigType Owner SigType (Option ℕ) (Option ℕ) (fold-Owner (Option ℕ) (Option ℕ) no_size (source.size_step (value_size s))) (fold-SigType (Option ℕ) (Option ℕ) no_size (source.size_step (value_size s))) l)

  abbrev in_tree : layer.SigType-F Owner SigType → Option ℕ
  in_tree l =
      tree.size_step a (map-SigType Owner SigType (Option ℕ) (Option ℕ) (fold-Owner (Option ℕ) (Option ℕ) no_size (tree.size_step a)) (fold-SigType (Option ℕ) (Option ℕ) no_size (tree.size_step a)) l)

  layers : (l : layer.SigType-F (OwnerWith Nothing Sized) (TypeWith Nothing Sized)) (k : ℕ) → in_source (values l) ≡ Some k → (in_tree (values l) ≡ Some k) × (k ≤ 4294967295)
  layers (layer.Prim p) k e = (e, small p k e)
  layers (layer.Value name) k e = stated name k e
  layers (layer.Mod r o t) k e = t.1 k e
  layers (layer.Class name) k e = absurd cc
  layers (layer.Inst v name args) k e = absurd cc
  layers (layer.Var n) k e = absurd cc
  layers (layer.MVar n) k e = absurd cc
  layers (layer.SzArray t) k e = absurd cc
  layers (layer.Array t r q w) k e = absurd cc
  layers (layer.ByRef t) k e = absurd cc
  layers (layer.Pointer t) k e = absurd cc
  layers (layer.Pinned t) k e = absurd cc

  type_sized : (l : layer.SigType-F (OwnerWith Nothing Sized) (TypeWith Nothing Sized)) → Sized (roll-SigType (values l))
  type_sized l k e =
      let r = layers l k (sym (fold-roll-SigType (Option ℕ) (Option ℕ) no_size (source.size_step (value_size s)) (values l)) ∙ e) in
      (fold-roll-SigType (Option ℕ) (Option ℕ) no_size (tree.size_step a) (values l) ∙ r.0, r.1)

  pub all_sized : (t : SigType) → Sized t
  all_sized = by_layers Nothing Sized (λ l. tt) type_sized
