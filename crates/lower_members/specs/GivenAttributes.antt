-- The attributes of generic parameters, as they are collected from lines of `.param type`.
use Rattle.std.specs.Prelude.{◌≡◌, ℕ, zero, suc, ◌-◌, ◌<◌, if◌then◌else◌, List, [], ◌∷◌, length, slice_index_or}
use Rattle.assembly_tree.specs.declared.members.Attribute.{Attribute}
use Rattle.source_model.specs.Forest.{Part}
use Rattle.source_model.specs.Items.{runs}
use Rattle.source_model.specs.Manifests.{attributes}
use Rattle.source_model.specs.Nodes.{Around}
use Rattle.source_model.specs.Parameters.{is_typar_line, typar_number}
use Rattle.source_model.specs.Source.{Source}
use Rattle.lower_members.specs.FieldContexts.{run_at}
use Rattle.lower_members.specs.ParamLines.{appended, given}

-- so many lists without attributes
abbrev pub none_given : ℕ → List (List Attribute)
none_given zero = []
none_given (suc n) = [] ∷ none_given n

-- the lists after a line
abbrev pub with_line : Source → Around → List (List ℕ) → Part → List Part → List (List Attribute) → List (List Attribute)
with_line s a names p ps bs = if is_typar_line p then appended bs (typar_number s names p.below) (attributes s a (run_at p ps).customs) else bs

-- from the last number to the first, what the lines among these parts give the generic parameter of each number
pub record AreGiven (s : Source) (a : Around) (names : List (List ℕ)) (ps : List Part) (bs : List (List Attribute)) : Type 0 where
  pub many : length bs ≡ length names
  pub each : (k : ℕ) → k < length names → slice_index_or bs (length names - 1 - k) [] ≡ given s a names k (runs ps)
