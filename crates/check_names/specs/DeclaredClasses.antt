-- The classes of a forest with their paths, and those of them that stand there twice (ECMA-335 II.10, II.10.8).
use Rattle.std.specs.Prelude.{◌≡◌, ℕ, ◌==◌, if◌then◌else◌, List, [], ◌∷◌, ◌++◌, map, Option, Some}
use Rattle.std.specs.List.{list_any}
use Rattle.type_terms.specs.declared.name.TypeId.{TypeId}
use Rattle.ilasm_grammar.specs.declared.productions.TheConstants.{CLASS}
use Rattle.source_model.specs.DeclaredTwice.{types_twice}
use Rattle.source_model.specs.Forest.{Forest, none, leaf, branch}
use Rattle.source_model.specs.Names.{classes, is_path, module_path}
use Rattle.source_model.specs.Nodes.{Node, class_token, type_id}
use Rattle.source_model.specs.Source.{Source}
use Rattle.source_syntax.specs.ClassNumbers.{Knows, class_numbered}
use Rattle.source_nodes.specs.Least.{least}
use Rattle.source_syntax.specs.declared.class_paths.ClassName.{ClassName}
use Rattle.check_names.specs.declared.class_rules.Classes.{Classes}
use Rattle.check_names.specs.declared.class_rules.Entered.{Entered}

-- a class: its path, and the token of its name
pub record ClassAt : Type 0 where
  pub path : List TypeId
  pub token : ℕ

abbrev pub path_of : ClassAt → List TypeId
path_of c = c.path

-- the path of a class in a class, from what stands below its production
abbrev pub inner_path : Source → List TypeId → Forest → List TypeId
inner_path s path below = path ++ type_id s (class_token below) ∷ []

-- the classes of a forest that stands in a class, in preorder
abbrev pub class_list : Source → List TypeId → Forest → List ClassAt
class_list s path none = []
class_list s path (leaf token after) = class_list s path after
class_list s path (branch p below after) =
    (if p == CLASS
    then record { path = inner_path s path below; token = class_token below } ∷ class_list s (inner_path s path below) below
    else class_list s path below)
    ++ class_list s path after

-- the tokens of those with a path that is one of these, or that of an earlier one
abbrev pub again_in : List (List TypeId) → List ClassAt → List ℕ
again_in seen [] = []
again_in seen (c ∷ cs) = (if list_any (is_path c.path) seen then c.token ∷ [] else []) ++ again_in (seen ++ c.path ∷ []) cs

-- numbers stay
abbrev pub Kept : List ClassName → List ClassName → Type 0
Kept old new = (path : List TypeId) (n : ℕ) → class_numbered old path ≡ Some n → class_numbered new path ≡ Some n

-- a class was entered: its number, and whether its path was there already
pub record IsEntered (seen : List (List TypeId)) (path : List TypeId) (token : ℕ) (now : List ClassName) (e : Entered) : Type 0 where
  pub numbered : class_numbered now path ≡ Some e.number
  pub knows : Knows now (seen ++ path ∷ [])
  pub again : e.again ≡ least (if list_any (is_path path) seen then token ∷ [] else [])

-- the classes of a forest were added, and this is the least of those with a path that was there already
pub record AreAdded (s : Source) (path : List TypeId) (f : Forest) (seen : List (List TypeId)) (now : List ClassName) (k : Option ℕ) : Type 0 where
  pub knows : Knows now (seen ++ map path_of (class_list s path f))
  pub first : k ≡ least (again_in seen (class_list s path f))

-- the paths of the classes of a source, and that of the class that needs no declaration
abbrev pub declared_paths : Source → List (List TypeId)
declared_paths s = module_path ∷ map (λ (n : Node). n.around.path) (classes s)

-- the classes of a source, and the least of them with a path that was there already
pub record AreClasses (s : Source) (c : Classes) : Type 0 where
  pub knows : Knows c.paths (declared_paths s)
  pub again : c.again ≡ least (types_twice s)
