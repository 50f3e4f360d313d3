-- Names, types and owners that a listing can hold, as it is read back: each name has a text, each number fits, and each other
-- assembly is one that is declared (ECMA-335 II.5.3, II.7.3, II.23.2.12).
use Rattle.std.specs.Prelude.{ℕ, ◌≡◌, ◌&&◌, nat_lt, Bool, true, List, length, Some}
use Rattle.std.specs.List.{list_all}
use Rattle.type_terms.specs.declared.name.Scope as scope
use Rattle.type_terms.specs.declared.name.TypeId.{TypeId}
use Rattle.type_terms.specs.declared.name.TypeName.{TypeName}
use Rattle.type_terms.specs.declared.term.Owner.{Owner, fold-Owner}
use Rattle.type_terms.specs.declared.term.SigType.{SigType, fold-SigType}
use Rattle.type_terms.specs.declared.term.Owner.TheOpen.{Owner-F, SigType-F, Name, Spec, Prim, Class, Value, Inst, Var, MVar, SzArray, Array, ByRef, Pointer, Mod, Pinned}
use Rattle.assembly_tree.specs.WellFormedTerms.{is_shape, is_variable}
use Rattle.assembly_tree.specs.declared.assembly.ExternAssembly.{ExternAssembly}
use Rattle.source_model.specs.Names.{scope_named}
use Rattle.source_model.specs.Source.{Source}
use Rattle.listing_leaves.specs.Laws.{has_no_zero, is_name}
use Rattle.listing_model.specs.Types.{extern_key}

-- a source in which the key of each of these assemblies stands for it
abbrev pub KnowsAssemblies : Source → List ExternAssembly → Type 0
KnowsAssemblies s externs = (k : ℕ) → nat_lt k (length externs) ≡ true → scope_named s (extern_key externs k) ≡ Some (scope.TheVariants.Extern k)

abbrev pub is_id_named : TypeId → Bool
is_id_named id = has_no_zero id.space && is_name id.name

-- a path that has a name
abbrev pub is_path_named : List TypeId → Bool
is_path_named ids = nat_lt 0 (length ids) && list_all is_id_named ids

module _ (externs : List ExternAssembly) where
  -- this assembly, or one of these whose key is a name
  abbrev pub is_scope_named : scope.Scope → Bool
  is_scope_named scope.TheVariants.Here = true
  is_scope_named (scope.TheVariants.Extern k) = nat_lt k (length externs) && is_name (extern_key externs k)

  abbrev pub is_name_readable : TypeName → Bool
  is_name_readable t = is_scope_named t.scope && is_path_named t.path

  abbrev pub owner_step : Owner-F Bool Bool → Bool
  owner_step (Name t) = is_name_readable t
  owner_step (Spec of) = of

  abbrev pub type_step : SigType-F Bool Bool → Bool
  type_step (Prim p) = true
  type_step (Class t) = is_name_readable t
  type_step (Value t) = is_name_readable t
  type_step (Inst value t args) = is_name_readable t && (nat_lt 0 (length args) && list_all (λ ok. ok) args)
  type_step (Var n) = is_variable n
  type_step (MVar n) = is_variable n
  type_step (SzArray of) = of
  type_step (Array of rank sizes lower) = is_shape rank sizes lower && of
  type_step (ByRef of) = of
  type_step (Pointer of) = of
  type_step (Mod required by of) = by && of
  type_step (Pinned of) = of

  unfoldable pub is_type_readable : SigType → Bool
  is_type_readable t = fold-SigType Bool Bool owner_step type_step t

  unfoldable pub is_owner_readable : Owner → Bool
  is_owner_readable o = fold-Owner Bool Bool owner_step type_step o
