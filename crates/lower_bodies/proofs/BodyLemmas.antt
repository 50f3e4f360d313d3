-- The body of a method from its parts.
use Rattle.std.proofs.Common.{◌≡◌, ◌≤◌, ℕ, suc, List, [], ◌∷◌, ◌++◌, length, map, refl, ap, sym, ◌∙◌, arith, length-append}
use Rattle.std.specs.Prelude.{Bool, true, false, if◌then◌else◌, None, Some, Option}
use Rattle.std.specs.List.{enumerate_from, flat_map}
use Rattle.assembly_tree.specs.declared.body.Body.{Body}
use Rattle.assembly_tree.specs.declared.body.Clause.{Clause}
use Rattle.assembly_tree.specs.declared.body.Ins.{Ins}
use Rattle.type_terms.specs.declared.term.SigType.{SigType}
use Rattle.ilasm_grammar.specs.declared.productions.TheConstants.{INIT_OPT_SOME, INSTRUCTION_OP_NUM, INSTRUCTION_OP_REAL, INSTRUCTION_OP_VAR}
use Rattle.ilasm_grammar.specs.declared.tree.TreeNode.{TreeNode}
use Rattle.source_model.specs.Bodies.{body, body_unless_empty, bound, code}
use Rattle.source_model.specs.BodyNumbers.{body_numbers_out_of_range_in, bounds_out_of_range, clause_forests, local_misnumbered, number_out_of_range, real_out_of_range, variable_out_of_range}
use Rattle.source_model.specs.Clauses.{clauses}
use Rattle.source_model.specs.Forest.{Forest, none, leaf, branch, Part, has, is_among, part, parts, preorder}
use Rattle.source_model.specs.Instructions.{instructions_of, instructions_with}
use Rattle.source_model.specs.Nodes.{Around, Node}
use Rattle.source_model.specs.Operands.{instruction}
use Rattle.source_model.specs.Source.{Source}
use Rattle.source_model.specs.TypeRules.{past_count}
use Rattle.source_model.specs.Variables.{local_types, locals}
use Rattle.source_syntax.specs.Methods.{IsMethod}
use Rattle.source_nodes.specs.Pieces.{ArePieces, piece_of, written}
use Rattle.source_nodes.specs.declared.pieces.Piece.{Piece}
use Rattle.source_nodes.proofs.Empties.{nothing_in}
use Rattle.source_flags.specs.InRange.{AllInRange}
use Rattle.lower_bodies.specs.MethodsInRange.{IsMethodInRange}
use Rattle.lower_bodies.specs.WholeBodies.{IsBodyOf}

-- ---- the numbers of a method

pub method_in_range : (s : Source) (n : Node) → IsMethod s n → AllInRange s n.below → body_numbers_out_of_range_in s n ≡ [] → IsMethodInRange s n.below
method_in_range s n m each e =
    let f = n.below in
    let b = bounds_out_of_range s f in
    let u = flat_map (number_out_of_range s) (instructions_with INSTRUCTION_OP_NUM f) in
    let r = flat_map (real_out_of_range s) (instructions_with INSTRUCTION_OP_REAL f) in
    let v = flat_map (variable_out_of_range s f) (instructions_with INSTRUCTION_OP_VAR f) in
    let l = flat_map (local_misnumbered s) (enumerate_from 0 (locals f)) in
    let c = past_count (locals f) in
    let k = past_count (clause_forests f) in
    let h1 = nothing_in (b ++ u ++ r ++ v ++ l ++ c) k e in
    let h2 = nothing_in (b ++ u ++ r ++ v ++ l) c h1.0 in
    let h3 = nothing_in (b ++ u ++ r ++ v) l h2.0 in
    let h4 = nothing_in (b ++ u ++ r) v h3.0 in
    let h5 = nothing_in (b ++ u) r h4.0 in
    let h6 = nothing_in b u h5.0 in
    record { derived = m; each = each; bounds = h6.0; reals = h5.1; variables = h4.1 }

-- ---- the body

abbrev made : ℕ → Bool → List SigType → List Ins → List Clause → Body
made bound init locals code clauses = record { bound = bound; init = init; locals = locals; code = code; clauses = clauses }

module _ (s : Source) (a : Around) (f : Forest) where
  abbrev whole : List Ins → Option Body
  whole is = body_unless_empty s a f is

  pub no_body : instructions_of f ≡ [] → None ≡ body s a f
  unfolding body code
  no_body e = sym (ap (λ ps. whole (map (instruction s a f) ps)) e)

  filled : (ps : List Part) → (ps ≡ [] → ⊥)
      → Some (made (bound s f) (has INIT_OPT_SOME f) (local_types s a f) (map (instruction s a f) ps) (clauses s a f)) ≡ whole (map (instruction s a f) ps)
  filled [] some = absurd (some refl)
  filled (p ∷ ps) some = refl

  all_filled : (instructions_of f ≡ [] → ⊥) → Some (made (bound s f) (has INIT_OPT_SOME f) (local_types s a f) (code s a f) (clauses s a f)) ≡ body s a f
  unfolding body code
  all_filled some = filled (instructions_of f) some

  pub some_body : (b : Body) → (instructions_of f ≡ [] → ⊥) → IsBodyOf s a f b → Some b ≡ body s a f
  some_body b some is =
      ap (λ n. Some (made n b.init b.locals b.code b.clauses)) is.bound-is
      ∙ ap (λ i. Some (made (bound s f) i b.locals b.code b.clauses)) is.init-is
      ∙ ap (λ ts. Some (made (bound s f) (has INIT_OPT_SOME f) ts b.code b.clauses)) is.locals-are
      ∙ ap (λ ins. Some (made (bound s f) (has INIT_OPT_SOME f) (local_types s a f) ins b.clauses)) is.code-is
      ∙ ap (λ cs. Some (made (bound s f) (has INIT_OPT_SOME f) (local_types s a f) (code s a f) cs)) is.clauses-are
      ∙ all_filled some

-- ---- the instructions that were found

pub few_parts : (sought : List ℕ) (f : Forest) → length (parts sought f) ≤ length (preorder f)
few_parts sought none = omega arith
few_parts sought (leaf k a) = omega (arith, few_parts sought a)
few_parts sought (branch p b a) = go (is_among sought p) (few_parts sought b) (few_parts sought a)
  where
    go : (c : Bool) → length (parts sought b) ≤ length (preorder b) → length (parts sought a) ≤ length (preorder a)
        → length ((if c then part p b ∷ [] else parts sought b) ++ parts sought a) ≤ suc (length (preorder b ++ preorder a))
    go true below after = omega (arith, below, after, length-append (preorder b) (preorder a))
    go false below after = omega (arith, below, after, length-append (preorder b) (preorder a), length-append (parts sought b) (parts sought a))

pub nothing_found : (nodes : List TreeNode) (found : List Piece) (ps : List Part) → ArePieces nodes found ps → found ≡ [] → ps ≡ []
nothing_found nodes found [] are e = refl
nothing_found nodes found (p ∷ ps) are e =
    let none : map written (p ∷ ps) ≡ [] = sym are ∙ ap (map (piece_of nodes)) e in absurd cc

pub something_found : (nodes : List TreeNode) (found : List Piece) (ps : List Part) → ArePieces nodes found ps → (found ≡ [] → ⊥) → ps ≡ [] → ⊥
something_found nodes [] ps are some e = some refl
something_found nodes (x ∷ found) ps are some e =
    let none : map (piece_of nodes) (x ∷ found) ≡ [] = are ∙ ap (map written) e in absurd cc
