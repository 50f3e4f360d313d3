-- Types and assemblies that are named and not declared, by what the code knows: the keys of assemblies, the names of this one,
-- and the classes (ECMA-335 II.6.2, II.7.3).
use Rattle.std.specs.Prelude.{ℕ, Bool, false, if◌then◌else◌, List, [], ◌∷◌, map, position, bytes_eq, Option, None, Some, is_some}
use Rattle.type_terms.specs.declared.name.Scope.{Scope}
use Rattle.type_terms.specs.declared.name.Scope.TheVariants.{Here, Extern}
use Rattle.source_model.specs.Names.{Written, or_here}
use Rattle.source_model.specs.Nodes.{type_id}
use Rattle.source_model.specs.Source.{Source}
use Rattle.source_model.specs.TypeRules.{scope_token_unless}
use Rattle.source_model.specs.Values.{scope_text}
use Rattle.source_syntax.specs.ClassNumbers.{class_numbered}
use Rattle.source_syntax.specs.declared.class_paths.ClassName.{ClassName}
use Rattle.check_names.specs.declared.named_types.Standing.{Standing}
use Rattle.check_names.specs.declared.named_types.Standing.TheVariants as standing

-- the text is the first of these
abbrev pub is_first : List (List ℕ) → List ℕ → Bool
is_first [] text = false
is_first (own ∷ more) text = bytes_eq own text

-- what a text in brackets stands for
abbrev pub scope_by : List (List ℕ) → List (List ℕ) → List ℕ → Option Scope
scope_by keys own text = or_here (is_first own text) (position (bytes_eq text) keys)

abbrev pub written_scope_by : List (List ℕ) → List (List ℕ) → Source → Option ℕ → Option Scope
written_scope_by keys own s None = Some Here
written_scope_by keys own s (Some k) = scope_by keys own (scope_text s k)

-- this assembly, another one, or none
abbrev pub standing_of : Option Scope → Standing
standing_of None = standing.Nowhere
standing_of (Some Here) = standing.Here
standing_of (Some (Extern k)) = standing.Elsewhere

abbrev pub scope_missing_in : List (List ℕ) → List (List ℕ) → Source → Option Written → List ℕ
scope_missing_in keys own s None = []
scope_missing_in keys own s (Some w) = scope_token_unless (is_some (written_scope_by keys own s w.scope)) w.scope

abbrev pub path_missing : List ClassName → Source → List ℕ → Option Scope → List ℕ
path_missing cs s [] scope = []
path_missing cs s (k ∷ ks) None = []
path_missing cs s (k ∷ ks) (Some (Extern n)) = []
path_missing cs s (k ∷ ks) (Some Here) = if is_some (class_numbered cs (map (type_id s) (k ∷ ks))) then [] else k ∷ []

abbrev pub type_missing_in : List (List ℕ) → List (List ℕ) → List ClassName → Source → Option Written → List ℕ
type_missing_in keys own cs s None = []
type_missing_in keys own cs s (Some w) = path_missing cs s w.path (written_scope_by keys own s w.scope)
