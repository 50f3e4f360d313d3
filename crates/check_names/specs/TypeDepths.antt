-- The depths of types, as the code holds them (ECMA-335 II.7.1, II.23.2.7, II.23.2.12).
use Rattle.std.specs.Prelude.{◌≡◌, ℕ, ◌+◌, ◌==◌, ◌||◌, min, nat_lt, Bool, if◌then◌else◌, Option, None, Some}
use Rattle.type_terms.specs.Depth.{owner_depth}
use Rattle.ilasm_grammar.specs.declared.productions.TheConstants.{TYPE_BASE_CLASS, TYPE_BASE_VALUETYPE, TYPE_SUFFIX_MODOPT, TYPE_SUFFIX_MODREQ}
use Rattle.source_model.specs.Forest.{Forest}
use Rattle.source_model.specs.Nodes.{Around}
use Rattle.source_model.specs.Source.{Source}
use Rattle.source_model.specs.TypeRules.{type_too_deep}
use Rattle.source_model.specs.Types.{the_owner}
use Rattle.source_nodes.specs.Least.{least}
use Rattle.check_visitor.specs.Surroundings.{found_in}
use Rattle.check_names.specs.declared.type_depths.Depths.{Depths}

-- this depth, up to 101, and the least first token of the types in a forest that are deeper than 100
pub record AreDepths (s : Source) (a : Around) (f : Forest) (depth : ℕ) (x : Depths) : Type 0 where
  pub depth-is : x.depth ≡ min depth 101
  pub broken : x.broken ≡ least (found_in type_too_deep s a f)

-- the token of a type that is too deep
abbrev pub own_token : ℕ → ℕ → Option ℕ
own_token depth token = if nat_lt 100 depth then Some token else None

-- the depth of a base, from that of its deepest generic argument
abbrev pub base_depth : ℕ → ℕ → ℕ
base_depth p deepest = if p == TYPE_BASE_CLASS || p == TYPE_BASE_VALUETYPE then deepest + 1 else 1

abbrev pub is_modifier : ℕ → Bool
is_modifier p = p == TYPE_SUFFIX_MODREQ || p == TYPE_SUFFIX_MODOPT

-- the depth of the owner of a suffix that is a modifier, from its production and what stands below that
abbrev pub modifier_depth : Source → Around → ℕ → Forest → ℕ
modifier_depth s a p f = if is_modifier p then owner_depth (the_owner s a f) else 0
