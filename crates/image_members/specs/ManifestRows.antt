-- The rows of the module, of the assembly, and of the assemblies that it names (ECMA-335 II.22.30, II.22.2, II.22.5).
use Rattle.std.specs.Prelude.{◌≡◌, ℕ, ◌+◌, List, [], ◌∷◌, length, slice_index}
use Rattle.assembly_tree.specs.declared.assembly.ExternAssembly.{ExternAssembly}
use Rattle.assembly_tree.specs.declared.assembly.Manifest.{Manifest}
use Rattle.image_tokens.specs.Blobs.{HoldsBlob}
use Rattle.image_tokens.specs.Texts.{HasNoZero, HoldsText}
use Rattle.image_tokens.specs.declared.references.References.{References}

-- Module: generation 0, the name, the first identifier, and none for edits
pub record IsModuleRow (r : References) (cells : List ℕ) (m : Manifest) : Type 0 where
  pub name : ℕ
  pub are : cells ≡ 0 ∷ name ∷ 1 ∷ 0 ∷ 0 ∷ []
  pub name_is : HoldsText r.heaps.strings m.module name

-- the cells of Assembly, where three are indexes of heaps
abbrev pub assembly_cells : (hash : ℕ) (version : List ℕ) (flags key name culture : ℕ) → List ℕ
assembly_cells hash version flags key name culture =
    hash ∷ slice_index version 0 ∷ slice_index version 1 ∷ slice_index version 2 ∷ slice_index version 3 ∷ flags ∷ key ∷ name ∷ culture ∷ []

-- the cells of AssemblyRef, where four are indexes of heaps
abbrev pub extern_cells : (version : List ℕ) (flags key name culture hash : ℕ) → List ℕ
extern_cells version flags key name culture hash =
    slice_index version 0 ∷ slice_index version 1 ∷ slice_index version 2 ∷ slice_index version 3 ∷ flags ∷ key ∷ name ∷ culture ∷ hash ∷ []

-- Assembly: hash algorithm, version, flags, public key, name and culture
pub record IsAssemblyRow (r : References) (cells : List ℕ) (m : Manifest) : Type 0 where
  pub key : ℕ
  pub name : ℕ
  pub culture : ℕ
  pub are : cells ≡ assembly_cells m.hash m.version m.flags key name culture
  pub key_is : HoldsBlob r.heaps.blobs m.key key
  pub name_is : HoldsText r.heaps.strings m.name name
  pub culture_is : HoldsText r.heaps.strings m.culture culture

-- AssemblyRef: version, flags, public key or its token, name, culture and hash
pub record IsExternRow (r : References) (cells : List ℕ) (e : ExternAssembly) : Type 0 where
  pub key : ℕ
  pub name : ℕ
  pub culture : ℕ
  pub hash : ℕ
  pub are : cells ≡ extern_cells e.version e.flags key name culture hash
  pub key_is : HoldsBlob r.heaps.blobs e.key key
  pub name_is : HoldsText r.heaps.strings e.name name
  pub culture_is : HoldsText r.heaps.strings e.culture culture
  pub hash_is : HoldsBlob r.heaps.blobs e.hash hash

-- ---- the bytes of the texts, each with the zero that ends it, and of the blobs, each with its length

unfoldable pub module_bytes : Manifest → ℕ
module_bytes m = length m.module + 1

unfoldable pub assembly_bytes : Manifest → ℕ
assembly_bytes m = (length m.key + 4) + (length m.name + 1) + (length m.culture + 1)

unfoldable pub extern_bytes : ExternAssembly → ℕ
extern_bytes e = (length e.key + 4) + (length e.name + 1) + (length e.culture + 1) + (length e.hash + 4)

-- ---- texts without zero bytes

pub record IsPlainManifest (m : Manifest) : Type 0 where
  pub name : HasNoZero m.name
  pub culture : HasNoZero m.culture
  pub module_name : HasNoZero m.module

pub record IsPlainExtern (e : ExternAssembly) : Type 0 where
  pub name : HasNoZero e.name
  pub culture : HasNoZero e.culture
