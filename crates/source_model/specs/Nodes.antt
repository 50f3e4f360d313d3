-- All productions of a source, each with the class and the method around it.
use Rattle.std.specs.Prelude.{ℕ, ◌==◌, if◌then◌else◌, List, [], ◌∷◌, ◌++◌, map, filter}
use Rattle.type_terms.specs.declared.name.TypeId.{TypeId}
use Rattle.ilasm_grammar.specs.declared.productions.TheConstants.{CLASS, METHOD, TYPARS_OPT_SOME, TYPAR}
use Rattle.source_model.specs.Forest.{Forest, none, leaf, branch, leaf_at, child, each, is_among}
use Rattle.source_model.specs.Source.{Source, spelling}
use Rattle.source_model.specs.Values.{part_texts, dotted, last_text, all_but_last, name_text}

-- a name as that of a type: all its parts but the last, joined by dots, are the space, the last one is the name
-- (ECMA-335 II.5.3, II.22.37)
abbrev pub id_of_texts : List (List ℕ) → TypeId
id_of_texts texts = record { space = dotted (all_but_last texts); name = last_text texts }

abbrev pub type_id : Source → ℕ → TypeId
type_id s k = id_of_texts (part_texts (spelling s k))

-- What stands around a place: the path of the classes that it is in, from the outermost inwards; the innermost of them, by
-- what stands below its production; and the method. Outside of any class or method each is empty.
pub record Around : Type 0 where
  pub path : List TypeId
  pub class : Forest
  pub method : Forest

abbrev pub nothing_around : Around
nothing_around = record { path = []; class = none; method = none }

-- the token of a class's name, from what stands below its production
abbrev pub class_token : Forest → ℕ
class_token class = leaf_at 1 class

-- what stands around the parts of a production: its own class or method is that of its head too
abbrev pub entered : Source → Around → ℕ → Forest → Around
entered s a p below =
    if p == CLASS then record { path = a.path ++ type_id s (class_token below) ∷ []; class = below; method = none }
    else if p == METHOD then record { path = a.path; class = a.class; method = below }
    else a

-- a production with what stands below it and around its parts
pub record Node : Type 0 where
  pub production : ℕ
  pub below : Forest
  pub around : Around

-- the productions of a forest in preorder
abbrev pub nodes_in : Source → Around → Forest → List Node
nodes_in s a none = []
nodes_in s a (leaf token after) = nodes_in s a after
nodes_in s a (branch p below after) =
    (record { production = p; below = below; around = entered s a p below } ∷ nodes_in s (entered s a p below) below)
    ++ nodes_in s a after

-- all productions of a source
unfoldable pub nodes : Source → List Node
nodes s = nodes_in s nothing_around s.tree

-- those among these
abbrev pub nodes_of : List ℕ → List Node → List Node
nodes_of sought ns = filter (λ n. is_among sought n.production) ns

-- ---- generic parameters (ECMA-335 II.10.1.7)

-- those of a class or a method, each by what stands below its production
abbrev pub typars : Forest → List Forest
typars f = each TYPAR (child (TYPARS_OPT_SOME ∷ []) f)

abbrev pub typar_names : Source → Forest → List (List ℕ)
typar_names s f = map (λ g. name_text s (leaf_at 0 g)) (typars f)
