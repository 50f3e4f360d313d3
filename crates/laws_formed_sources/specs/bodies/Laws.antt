-- What follows for bodies of methods in a source that breaks no rule (ECMA-335 II.15.4, II.25.4).
use Rattle.std.specs.Prelude.{◌≡◌, ◌&&◌, Contains, IsTrue, Some, length}
use Rattle.std.specs.List.{list_all}
use Rattle.ilasm_grammar.specs.declared.productions.TheConstants.{METHOD}
use Rattle.assembly_tree.specs.WellFormedNames.{option_all}
use Rattle.assembly_tree.specs.WellFormedBodies.{has_body_form, is_body, is_instruction, names_well, short_branches_reach}
use Rattle.assembly_tree.specs.declared.body.Body.{Body}
use Rattle.source_model.specs.Bodies.{body}
use Rattle.source_model.specs.BodyFaults.{all_methods}
use Rattle.source_model.specs.Classes.{assembly}
use Rattle.source_model.specs.Nodes.{Node, nodes}
use Rattle.source_model.specs.Source.{Source}
use Rattle.laws_formed_sources.specs.sources.Laws.{IsRight}
use Rattle.laws_formed_sources.specs.sources.Remaining.{Among}
use Rattle.laws_formed_sources.specs.sources.Productions.{AllFaultless, HasFewTypars, IsFaultlessAt}

-- The production is faultless, and each below it, and what stands around its parts has at most 65,535 generic parameters each.
pub record IsGoodNode (s : Source) (n : Node) : Type 0 where
  pub own : IsFaultlessAt s n.production n.below
  pub all : AllFaultless s n.below
  pub few : HasFewTypars n.around

-- so is each production of a source that breaks no rule
abbrev pub NodesAreGood : Type 0
NodesAreGood = (s : Source) → IsRight s → (n : Node) → Contains (nodes s) n → IsGoodNode s n

-- the body of each of its methods is well formed in the assembly that it denotes
abbrev pub BodiesAreFormed : Type 0
BodiesAreFormed =
    (s : Source) → IsRight s → (n : Node) → Contains (all_methods s) n → (b : Body) → body s n.around n.below ≡ Some b
    → IsTrue (is_body (assembly s) b)

-- By itself it has code, counts in their range, operands that fit, targets that are instructions, and clauses that are
-- forward and inside.
abbrev pub BodiesHaveForm : Type 0
BodiesHaveForm =
    (s : Source) → IsRight s → (n : Node) → Contains (all_methods s) n → (b : Body) → body s n.around n.below ≡ Some b
    → IsTrue (has_body_form b)

-- its short branches reach
abbrev pub ShortBranchesReach : Type 0
ShortBranchesReach =
    (s : Source) → IsRight s → (n : Node) → Contains (all_methods s) n → (b : Body) → body s n.around n.below ≡ Some b
    → IsTrue (short_branches_reach b.code)

-- and what it names is well formed
abbrev pub BodiesNameWell : Type 0
BodiesNameWell =
    (s : Source) → IsRight s → (n : Node) → Contains (all_methods s) n → (b : Body) → body s n.around n.below ≡ Some b
    → IsTrue (names_well (assembly s) b)

-- so each of its methods has no body, or a well-formed one
abbrev pub MethodsHaveBodies : Type 0
MethodsHaveBodies =
    (s : Source) → IsRight s → (n : Node) → Among n (nodes s) → n.production ≡ METHOD
    → IsTrue (option_all (is_body (assembly s)) (body s n.around n.below))

-- Of its instructions alone: operands fit, targets are instructions, and short branches reach.
abbrev pub InstructionsFit : Type 0
InstructionsFit =
    (s : Source) → IsRight s → (n : Node) → Among n (nodes s) → n.production ≡ METHOD
    → IsTrue (option_all (λ (b : Body). list_all (is_instruction (length b.code)) b.code && short_branches_reach b.code) (body s n.around n.below))
