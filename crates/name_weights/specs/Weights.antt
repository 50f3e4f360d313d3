-- What the types and references of an image weigh by their names (II.22.37, II.22.38): 32 for each name in the path, and its texts.
use Rattle.std.specs.Prelude.{◌≡◌, ℕ, ◌+◌, ◌<◌, ◌≤◌, ◌⊎◌, ◌/◌, ◌%◌, ◌^◌, ◌==◌, ◌&&◌, nat_lt, nat_le, if◌then◌else◌, Bool, true, List, [], ◌∷◌, ◌++◌, Option, Some, None, length, slice_index, slice_get, sum_by}
use Rattle.std.specs.Option.{option_map}
use Rattle.assembly_tree.specs.Weight.{id_weight, name_weight}
use Rattle.image_model.specs.Rows.{count_of}
use Rattle.image_model.specs.Structure.{max_path}
use Rattle.metadata_tables.specs.CodedIndex.{unpacked}
use Rattle.metadata_tables.specs.declared.coded.Coded.TheVariants.{ResolutionScope}
use Rattle.sig_codec.specs.Reading.{◌>>=◌}
use Rattle.signature_facts.specs.declared.facts.OwnerFacts.{OwnerFacts}
use Rattle.signature_facts.specs.Facts.{Naming, capped}
use Rattle.signature_facts.specs.Scanning.{OwnersFacts}
use Rattle.type_names.specs.Forest.{ref_node}
use Rattle.type_names.specs.Numbers.{NodeNames, IsNode}
use Rattle.type_terms.specs.declared.name.Scope.{Scope}
use Rattle.type_terms.specs.declared.name.TypeId.{TypeId}
use Rattle.name_weights.specs.declared.parts.Part.{Part}

-- names weigh what they do in an assembly; their hashes tell nothing
abbrev pub weighing : Naming
weighing = record { weight = name_weight; hash = λ name. 0 }

-- what a path weighs; what passes the last number of 32 bits stays there
abbrev pub path_weight : List TypeId → ℕ
path_weight path = capped (sum_by id_weight path)

-- ---- nodes

-- how many types and references there are
abbrev pub named_count : List ℕ → ℕ
named_count image = count_of image 0x02 + count_of image 0x01

-- the node of the reference to which a scope leads, or 0
abbrev pub led_to : List ℕ → (table row : ℕ) → ℕ
led_to image table row = if table == 0x01 then ref_node image row else 0

abbrev pub outer_named : List ℕ → Option (ℕ × ℕ) → ℕ
outer_named image None = 0
outer_named image (Some named) = led_to image named.0 named.1

abbrev pub scope_outer : List ℕ → ℕ → ℕ
scope_outer image scope = outer_named image (unpacked ResolutionScope scope)

-- what the name of a node is made of: the name of a node, or none at node 0, and behind it one of its own
pub record IsMade (image : List ℕ) (part : Part) (scope : Scope) (path : List TypeId) : Type 0 where
  pub id : TypeId
  pub before : List TypeId
  pub is : path ≡ before ++ id ∷ []
  pub own : part.own ≡ capped (id_weight id)
  pub outer : ((part.outer ≡ 0) × (before ≡ [])) ⊎ (IsNode image part.outer × NodeNames image part.outer scope before)

pub record IsPart (image : List ℕ) (k : ℕ) (part : Part) : Type 0 where
  pub within : part.outer ≤ named_count image
  pub made : (scope : Scope) (path : List TypeId) → NodeNames image k scope path → IsMade image part scope path

-- how many names the path of a node has, where it has at most 100
abbrev pub HasLevel : List ℕ → ℕ → ℕ → Type 0
HasLevel image k level = (scope : Scope) (path : List TypeId) → NodeNames image k scope path → length path ≤ max_path → level ≡ length path

-- the paths of the nodes before one have at most so many names, or more than 100
abbrev pub IsDeepest : List ℕ → ℕ → ℕ → Type 0
IsDeepest image deepest upto =
    (k : ℕ) (scope : Scope) (path : List TypeId) → IsNode image k → k < upto → NodeNames image k scope path → length path ≤ max_path → length path ≤ deepest

-- ---- weights

-- The nodes weigh so whose paths have at most so many names; and of those before one those whose paths have one more.
pub record AreWeighed (image : List ℕ) (level upto : ℕ) (weights : List ℕ) : Type 0 where
  pub long : length weights ≡ named_count image + 1
  pub none : slice_index weights 0 ≡ 0
  pub each : (k : ℕ) (scope : Scope) (path : List TypeId) → IsNode image k → NodeNames image k scope path → length path ≤ max_path
      → (length path ≤ level) ⊎ ((length path ≡ level + 1) × (k < upto)) → slice_index weights k ≡ path_weight path

-- each node weighs so
pub record AreWeights (image : List ℕ) (weights : List ℕ) : Type 0 where
  pub long : length weights ≡ named_count image + 1
  pub each : (k : ℕ) (scope : Scope) (path : List TypeId) → IsNode image k → NodeNames image k scope path → slice_index weights k ≡ path_weight path

-- ---- what is told

pub record Weighed : Type 0 where
  pub image : List ℕ
  pub weights : List ℕ

-- a plain name with a weight
abbrev pub name_of : ℕ → OwnerFacts
name_of weight = record { is_name = true; facts = record { depth = 0; nodes = 0; rank = 0; weight = weight; hash = 0 } }

abbrev pub is_row : List ℕ → ℕ → ℕ → Bool
is_row image table row = nat_lt 0 row && nat_le row (count_of image table)

-- the node of a token of TypeDef or TypeRef
unfoldable pub node_of : List ℕ → ℕ → Option ℕ
node_of image token =
    if token / 2 ^ 24 == 0x02 && is_row image 0x02 (token % 2 ^ 24) then Some (token % 2 ^ 24)
    else if token / 2 ^ 24 == 0x01 && is_row image 0x01 (token % 2 ^ 24) then Some (ref_node image (token % 2 ^ 24))
    else None

abbrev pub names_weighed : List ℕ → List ℕ → OwnersFacts
names_weighed image weights token = node_of image token >>= λ node. option_map name_of (slice_get weights node)
