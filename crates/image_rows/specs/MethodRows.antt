-- The rows of MethodDef, in the order in which methods are declared (ECMA-335 II.22.26).
use Rattle.std.specs.Prelude.{◌≡◌, ℕ, ◌+◌, List, [], ◌∷◌, length}
use Rattle.metadata_tables.specs.Indexes.{run_cell}
use Rattle.assembly_tree.specs.declared.members.Method.{Method}
use Rattle.sig_codec.specs.Signature.{SpellsMethod}
use Rattle.image_members.specs.DeclaredMembers.{IsMethodOf}
use Rattle.image_tokens.specs.References.{HasSignature}
use Rattle.image_tokens.specs.Texts.{HoldsText}
use Rattle.image_tokens.specs.declared.references.References.{References}
use Rattle.image_tokens.specs.declared.row_set.Cells.{Cells}

-- a method, where its body stands, and the row of its first parameter, or where that would stand
pub record PlacedMethod : Type 0 where
  pub method : Method
  pub rva : ℕ
  pub param : ℕ

-- methods with their bodies; the runs of their parameters follow one another
abbrev pub placed_methods : ℕ → List ℕ → List Method → List PlacedMethod
placed_methods param rvas [] = []
placed_methods param [] (m ∷ ms) = []
placed_methods param (rva ∷ rvas) (m ∷ ms) =
    record { method = m; rva = rva; param = param } ∷ placed_methods (param + length m.params) rvas ms

-- the cells, two of which are indexes of heaps; there are so many parameters in all
abbrev pub method_cells : (params : ℕ) → PlacedMethod → (name signature : ℕ) → List ℕ
method_cells params p name signature =
    p.rva ∷ p.method.impl_flags ∷ p.method.flags ∷ name ∷ signature ∷ run_cell params p.param ∷ []

-- RVA, flags of the implementation, flags, name, signature, and where the run of parameters begins
pub record IsMethodRow (params : ℕ) (r : References) (cells : List ℕ) (p : PlacedMethod) : Type 0 where
  pub name : ℕ
  pub signature : ℕ
  pub are : cells ≡ method_cells params p name signature
  pub name_is : HoldsText r.heaps.strings p.method.name name
  pub signature_is : HasSignature SpellsMethod r p.method.sig signature

-- a declared row is that of a method, whatever its type
abbrev pub IsMethodAt : References → Cells → Method → Type 0
IsMethodAt r cells m = (type : ℕ) × IsMethodOf r cells (type, m)
