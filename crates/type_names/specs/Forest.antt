-- The names of an image's types as a forest: its roots are the module and the assemblies, and each type and reference lies under
-- what encloses it (II.22.32, II.22.38). Node 0 is the module; behind it stand the rows of TypeDef, of TypeRef and of AssemblyRef.
use Rattle.std.specs.Prelude.{◌≡◌, ℕ, ◌+◌, ◌≤◌, ◌⊎◌, ◌==◌, if◌then◌else◌, List, Option, Some, None, length}
use Rattle.metadata_tables.specs.CodedIndex.{unpacked}
use Rattle.metadata_tables.specs.declared.coded.Coded.TheVariants.{ResolutionScope}
use Rattle.image_model.specs.Columns.{type_name, type_space, type_ref_scope, type_ref_name, type_ref_space}
use Rattle.image_model.specs.Cells.{NamesRow}
use Rattle.image_model.specs.Rows.{count_of, HasRow, enclosing}
use Rattle.name_numbers.specs.Names.{node_at}
use Rattle.name_numbers.specs.declared.numbering.Node.{Node}

-- the nodes of references and of assemblies, by their rows
abbrev pub ref_node : List ℕ → ℕ → ℕ
ref_node image row = count_of image 0x02 + row

abbrev pub assembly_node : List ℕ → ℕ → ℕ
assembly_node image row = count_of image 0x02 + count_of image 0x01 + row

-- where references begin, and where the assemblies behind them
abbrev pub middle_of : List ℕ → ℕ
middle_of image = count_of image 0x02 + 1

abbrev pub last_of : List ℕ → ℕ
last_of image = count_of image 0x02 + count_of image 0x01 + 1

abbrev pub node_count : List ℕ → ℕ
node_count image = count_of image 0x02 + count_of image 0x01 + count_of image 0x23 + 1

-- the node to which a scope leads: an assembly, another reference or, for the module, node 0 (II.22.38)
abbrev pub led_to : List ℕ → Option (ℕ × ℕ) → ℕ
led_to image None = 0
led_to image (Some named) =
    if named.0 == 0x01 then ref_node image named.1 else if named.0 == 0x23 then assembly_node image named.1 else 0

abbrev pub scope_node : List ℕ → ℕ → ℕ
scope_node image scope = led_to image (unpacked ResolutionScope scope)

abbrev pub type_node : List ℕ → ℕ → Node
type_node image row = record { parent = enclosing image row; space = type_space image row; text = type_name image row }

abbrev pub reference_node : List ℕ → ℕ → Node
reference_node image row =
    record { parent = scope_node image (type_ref_scope image row); space = type_ref_space image row; text = type_ref_name image row }

-- a scope leads to a row that is there (II.22.38)
abbrev pub IsScope : List ℕ → ℕ → Type 0
IsScope image scope = NamesRow image ResolutionScope scope

abbrev pub HaveScopes : List ℕ → Type 0
HaveScopes image = (row : ℕ) → HasRow image 0x01 row → IsScope image (type_ref_scope image row)

-- these are the nodes of an image's names
pub record AreForest (image : List ℕ) (nodes : List Node) : Type 0 where
  pub long : length nodes ≡ node_count image
  pub type : (row : ℕ) → HasRow image 0x02 row → node_at nodes row ≡ type_node image row
  pub reference : (row : ℕ) → HasRow image 0x01 row → node_at nodes (ref_node image row) ≡ reference_node image row
  pub root : (k : ℕ) → (k ≡ 0) ⊎ (last_of image ≤ k) → (node_at nodes k).parent ≡ 0
