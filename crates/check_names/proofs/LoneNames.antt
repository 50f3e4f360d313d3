-- What rules find at a type's name whose path is one name of this assembly: that name, where no class has it.
use Rattle.std.proofs.Common.{◌≡◌, ℕ, List, [], ◌∷◌, ◌++◌, Option, None, Some, map, refl, ap, sym, ◌∙◌, append-nil}
use Rattle.std.specs.Prelude.{false, if◌then◌else◌, is_some}
use Rattle.il_lexer.specs.declared.types.TokenKind.TheVariants as kind
use Rattle.type_terms.specs.declared.name.Scope.TheVariants.{Here}
use Rattle.ilasm_grammar.specs.declared.productions.TheConstants.{PATH, SLASH_NAME, TYPE_NAME_PATH}
use Rattle.source_model.specs.Forest.{Forest, Part, below_each, child, has, is_among, is_any_part, leaf_at, parts}
use Rattle.source_model.specs.Names.{Written, written_name}
use Rattle.source_model.specs.Nodes.{Node, type_id}
use Rattle.source_model.specs.Source.{Source}
use Rattle.source_model.specs.TypeRules.{path_too_long_in}
use Rattle.source_syntax.specs.ClassNumbers.{class_in}
use Rattle.source_nodes.specs.Derived.{FitsBody, HasBodies}
use Rattle.source_nodes.specs.Least.{least}
use Rattle.source_syntax.specs.Nested.{onward}
use Rattle.source_nodes.specs.Readers.{IsOf}
use Rattle.source_syntax.specs.declared.class_paths.ClassName.{ClassName}
use Rattle.check_names.specs.AllOfParts.{broken_at}
use Rattle.check_names.specs.Asked.{named}
use Rattle.check_names.specs.NamedTypes.{path_missing, scope_missing_in, type_missing_in}
use Rattle.check_names.proofs.AskedLemmas.{names_asked}
use Rattle.check_names.proofs.NamedTypeLemmas.{tokens_of_name}

nothing_below : (ps : List Part) → is_any_part ps ≡ false → below_each ps ≡ []
nothing_below [] e = refl
nothing_below (p ∷ ps) e = absurd cc

-- a path of one name, as it is written
abbrev pub lone : ℕ → Written
lone k = record { scope = None; path = k ∷ [] }

lone_written : (n : Node) → n.production ≡ TYPE_NAME_PATH → has SLASH_NAME (child (PATH ∷ []) n.below) ≡ false
    → written_name n.production n.below ≡ Some (lone (leaf_at 0 (child (PATH ∷ []) n.below)))
lone_written n own e =
    let path = child (PATH ∷ []) n.below in
    ap (λ p. written_name p n.below) own
    ∙ ap (λ (gs : List Forest). Some (record { scope = None; path = leaf_at 0 path ∷ map (λ (g : Forest). leaf_at 1 g) gs }))
    (nothing_below (parts (SLASH_NAME ∷ []) path) e)

pub lone_broken : (s : Source) (n : Node) (keys own : List (List ℕ)) (cs : List ClassName) (labels : List (List ℕ)) → n.production ≡ TYPE_NAME_PATH
    → has SLASH_NAME (child (PATH ∷ []) n.below) ≡ false
    → broken_at keys own cs labels s n ≡ path_missing cs s (leaf_at 0 (child (PATH ∷ []) n.below) ∷ []) (Some Here)
lone_broken s n keys own cs labels p e =
    let k = leaf_at 0 (child (PATH ∷ []) n.below) in
    let missing = path_missing cs s (k ∷ []) (Some Here) in
    names_asked s n keys own cs labels (ap (is_among named) p)
    ∙ ap (λ w. (type_missing_in keys own cs s w ++ scope_missing_in keys own s w) ++ path_too_long_in w) (lone_written n p e)
    ∙ append-nil (missing ++ [])
    ∙ append-nil missing

pub lone_is_name : (s : Source) (n : Node) → n.production ≡ TYPE_NAME_PATH → has SLASH_NAME (child (PATH ∷ []) n.below) ≡ false
    → FitsBody s n.production n.below → HasBodies s n.below → IsOf s kind.Name (leaf_at 0 (child (PATH ∷ []) n.below))
lone_is_name s n p e fits bodies = (tokens_of_name s n (lone (leaf_at 0 (child (PATH ∷ []) n.below))) (lone_written n p e) fits bodies).path.0

-- ---- one name in the outside of all classes

lone_missing : (s : Source) (cs : List ClassName) (k : ℕ) (found : Option ℕ) → class_in cs (type_id s k) 0 ≡ found
    → path_missing cs s (k ∷ []) (Some Here) ≡ (if is_some (onward (λ n. Some n) found) then [] else k ∷ [])
lone_missing s cs k found e = ap (λ (o : Option ℕ). if is_some (onward (λ n. Some n) o) then [] else k ∷ []) e

pub lone_found : (s : Source) (cs : List ClassName) (k n : ℕ) → class_in cs (type_id s k) 0 ≡ Some n → None ≡ least (path_missing cs s (k ∷ []) (Some Here))
lone_found s cs k n e = sym (ap least (lone_missing s cs k (Some n) e))

pub lone_absent : (s : Source) (cs : List ClassName) (k : ℕ) → class_in cs (type_id s k) 0 ≡ None → Some k ≡ least (path_missing cs s (k ∷ []) (Some Here))
lone_absent s cs k e = sym (ap least (lone_missing s cs k None e))
