-- The body of a method of a source that breaks no rule is well formed (ECMA-335 II.25.4).
use Rattle.std.proofs.Common.{◌≡◌, ℕ, zero, suc, inl, inr, List, [], ◌∷◌, ◌++◌, Option, None, Some, length, map, refl, ap, sym, ◌∙◌, arith, nat_lt}
use Rattle.std.specs.Prelude.{true, Contains, ◌==◌, ◌&&◌}
use Rattle.std.specs.List.{AllByRecursion, enumerate_from, flat_map, list_all}
use Rattle.std.proofs.lemmas.Bool.{and_from, and_parts, lt-ltb}
use Rattle.std.proofs.lemmas.Bool.Decides.{Decides-eqb}
use Rattle.std.proofs.lemmas.List.{length-map}
use Rattle.il_lexer.specs.Longest.{LongestSpelling}
use Rattle.il_lexer.specs.Unplaced.{ReadsAsItLexes}
use Rattle.assembly_tree.specs.WellFormedBodies.{are_targets, fits_kind, has_body_form, is_body, is_clause, is_instruction, names_well, operand_kind, short_branches_reach}
use Rattle.assembly_tree.specs.declared.body.Body.{Body}
use Rattle.assembly_tree.specs.declared.body.Ins.{Ins}
use Rattle.assembly_tree.proofs.FormedFacts.{bodies_named}
use Rattle.assembly_tree.specs.declared.assembly.Assembly.{Assembly}
use Rattle.assembly_tree.specs.WellFormedNames.{option_all}
use Rattle.assembly_tree.specs.WellFormedTerms.{is_count}
use Rattle.ilasm_grammar.specs.declared.productions.TheConstants.{INIT_OPT_SOME, METHOD, INSTRUCTION_OP_NUM, INSTRUCTION_OP_REAL, INSTRUCTION_OP_VAR}
use Rattle.source_model.specs.Bodies.{body, body_unless_empty, bound, code}
use Rattle.source_model.specs.BodyFaults.{all_methods}
use Rattle.source_model.specs.BodyNumbers.{body_numbers_out_of_range_in, bounds_out_of_range, clause_forests, local_misnumbered, number_out_of_range, real_out_of_range, variable_out_of_range}
use Rattle.source_model.specs.Classes.{assembly}
use Rattle.source_model.specs.Clauses.{clause, clauses, guarded}
use Rattle.source_model.specs.Forest.{Forest, Part, has, is_among}
use Rattle.source_model.specs.Instructions.{instruction_forms, instructions_of, instructions_with, is_label, label_number, op_of, targets}
use Rattle.source_model.specs.Nodes.{Around, Node, nodes, nothing_around}
use Rattle.source_model.specs.Operands.{instruction, operand_of}
use Rattle.source_model.specs.Source.{Source}
use Rattle.source_model.specs.TypeRules.{past_count}
use Rattle.source_model.specs.Types.{the_type}
use Rattle.source_model.specs.Variables.{local_types, locals}
use Rattle.source_nodes.specs.Derived.{DerivationsHaveBodies, HasBodies}
use Rattle.source_flags.proofs.Gathered.{IsSought, of_parts}
use Rattle.laws_formed_sources.specs.sources.Laws.{IsRight}
use Rattle.laws_formed_sources.specs.sources.Remaining.{Among}
use Rattle.laws_formed_sources.specs.sources.Productions.{IsFaultlessAt}
use Rattle.laws_formed_sources.proofs.sources.BodyNames as names
use Rattle.laws_formed_sources.proofs.sources.Members.{In}
use Rattle.laws_formed_sources.proofs.sources.Signatures.{at_most, count_is}
use Rattle.laws_formed_sources.proofs.sources.Types.{bodies_of}
use Rattle.laws_formed_sources.proofs.sources.Unbroken.{all_faultless, empty_in}
use Rattle.laws_formed_sources.specs.bodies.Laws.{IsGoodNode}
use Rattle.laws_formed_sources.proofs.bodies.ClausesFormed as clause_rules
use Rattle.laws_formed_sources.proofs.bodies.Methods.{IsGoodMethod, all_hold, all_pass, good_method, good_nodes, in_filter, no_typars, none_of}
use Rattle.laws_formed_sources.proofs.bodies.OperandsFit as operands
use Rattle.laws_formed_sources.proofs.bodies.Short as short
use Rattle.laws_formed_sources.proofs.bodies.Targets as target

-- ---- what the rules on numbers say of a method

record NumbersInRange (s : Source) (n : Node) : Type 0 where
  reals : flat_map (real_out_of_range s) (instructions_with INSTRUCTION_OP_REAL n.below) ≡ []
  variables : flat_map (variable_out_of_range s n.below) (instructions_with INSTRUCTION_OP_VAR n.below) ≡ []
  locals-few : past_count (locals n.below) ≡ []
  clauses-few : past_count (clause_forests n.below) ≡ []

numbers_in_range : (s : Source) (n : Node) → body_numbers_out_of_range_in s n ≡ [] → NumbersInRange s n
numbers_in_range s n e =
    let b = bounds_out_of_range s n.below in
    let i = flat_map (number_out_of_range s) (instructions_with INSTRUCTION_OP_NUM n.below) in
    let r = flat_map (real_out_of_range s) (instructions_with INSTRUCTION_OP_REAL n.below) in
    let v = flat_map (variable_out_of_range s n.below) (instructions_with INSTRUCTION_OP_VAR n.below) in
    let m = flat_map (local_misnumbered s) (enumerate_from 0 (locals n.below)) in
    let l = past_count (locals n.below) in
    let c = past_count (clause_forests n.below) in
    let h1 = empty_in (b ++ i ++ r ++ v ++ m ++ l) c e in
    let h2 = empty_in (b ++ i ++ r ++ v ++ m) l h1.0 in
    let h3 = empty_in (b ++ i ++ r ++ v) m h2.0 in
    let h4 = empty_in (b ++ i ++ r) v h3.0 in
    let h5 = empty_in (b ++ i) r h4.0 in
    record { reals = h5.1; variables = h4.1; locals-few = h2.1; clauses-few = h1.1 }

-- ---- the body

module _ (longest : LongestSpelling) (reads : ReadsAsItLexes) (s : Source) (r : IsRight s) (n : Node) (good : IsGoodMethod s n) where
  abbrev f : Forest
  f = n.below

  abbrev a : Around
  a = n.around

  bodies : HasBodies s f
  bodies = bodies_of s f good.all

  sought : AllByRecursion (IsSought (IsFaultlessAt s) instruction_forms) (instructions_of f)
  sought = of_parts (IsFaultlessAt s) instruction_forms f good.all

  of_instruction : (p : Part) → In p (instructions_of f) → IsSought (IsFaultlessAt s) instruction_forms p
  of_instruction p i = all_hold (IsSought (IsFaultlessAt s) instruction_forms) p (instructions_of f) sought i

  inside : (p : Part) → In p (instructions_of f) → (k : ℕ) → In k (targets p) → nat_lt (label_number s f k) (length (instructions_of f)) ≡ true
  inside p i k j = target.target_inside s f bodies good.labels good.ends p i (of_instruction p i).0 k j

  declared : (p : Part) → In p (instructions_of f) → (k : ℕ) → In k (targets p) → is_label s f k ≡ true
  declared p i k j = target.target_declared s f bodies good.labels p i (of_instruction p i).0 k j

  module _ (fit : NumbersInRange s n) where
    numbers : (p : Part) → In p (instructions_of f) → operands.NumbersFit longest reads s r.read.lexes a f p
    numbers p i = record {
      real = λ is.
          none_of (real_out_of_range s) p (instructions_with INSTRUCTION_OP_REAL f)
          (in_filter (λ (q : Part). q.production == INSTRUCTION_OP_REAL) p (instructions_of f) i ((Decides-eqb p.production INSTRUCTION_OP_REAL).1 is)) fit.reals;
      variable = λ is.
          none_of (variable_out_of_range s f) p (instructions_with INSTRUCTION_OP_VAR f)
          (in_filter (λ (q : Part). q.production == INSTRUCTION_OP_VAR) p (instructions_of f) i ((Decides-eqb p.production INSTRUCTION_OP_VAR).1 is)) fit.variables;
    }

    one_instruction : (p : Part) → In p (instructions_of f) → is_instruction (length (instructions_of f)) (instruction s a f p) ≡ true
    one_instruction p i =
        let own = of_instruction p i in
        and_from (fits_kind (operand_kind (op_of s p)) (operand_of s a f p)) (are_targets (length (instructions_of f)) (operand_of s a f p))
        (operands.operand_fits longest reads s r.read.lexes a f p own.0 own.1.range.fits (bodies_of s p.below own.2) (numbers p i))
        (target.targets_follow s a f p own.0 (inside p i))

    abbrev whole : List Ins → Body
    whole c = record { bound = bound s f; init = has INIT_OPT_SOME f; locals = local_types s a f; code = c; clauses = clauses s a f }

    as_many : length (map (instruction s a f) (instructions_of f)) ≡ length (instructions_of f)
    as_many = length-map (instructions_of f) (instruction s a f)

    few_locals : is_count (length (local_types s a f)) ≡ true
    few_locals =
        count_is (length (local_types s a f)) (let few = at_most (locals f) fit.locals-few in omega (arith, few, length-map (locals f) (the_type s a)))

    few_clauses : is_count (length (clauses s a f)) ≡ true
    few_clauses =
        count_is (length (clauses s a f))
        (let few = at_most (clause_forests f) fit.clauses-few in omega (arith, few, length-map (guarded f) (clause s a f), clause_rules.as_many_clauses f))

    -- it has code, few locals and few clauses, and its instructions and clauses meet their conditions
    whole_form : nat_lt 0 (length (code s a f)) ≡ true → has_body_form (whole (code s a f)) ≡ true
    unfolding code has_body_form
    whole_form some =
        let c = map (instruction s a f) (instructions_of f) in
        let front = nat_lt 0 (length c) && is_count (length (local_types s a f)) in
        let counts = front && is_count (length (clauses s a f)) in
        let instructions = list_all (is_instruction (length c)) c in
        let h1 = and_from (nat_lt 0 (length c)) (is_count (length (local_types s a f))) some few_locals in
        let h2 = and_from front (is_count (length (clauses s a f))) h1 few_clauses in
        let h3 = and_from counts instructions h2
        (ap (λ k. list_all (is_instruction k) c) as_many
        ∙ all_pass (is_instruction (length (instructions_of f))) (instruction s a f) (instructions_of f) one_instruction) in
        and_from (counts && instructions) (list_all (is_clause (length c)) (clauses s a f)) h3
        (ap (λ k. list_all (is_clause k) (clauses s a f)) as_many
        ∙ clause_rules.clauses_formed s a f (target.label_within s f bodies good.labels) (clause_rules.forward s n good.backwards))

  whole_reaches : short_branches_reach (code s a f) ≡ true
  whole_reaches =
      short.reach s n (code s a f) refl
      (λ p k i e empty. short.names_label s a f (code s a f) k p (of_instruction p i).0 (declared p i) e empty) good.far

  -- but for what it names
  form_and_branches : option_all (λ (b : Body). has_body_form b && short_branches_reach b.code) (body s a f) ≡ true
  unfolding body
  form_and_branches = go (code s a f) refl
    where
      go : (c : List Ins) → code s a f ≡ c → option_all (λ (b : Body). has_body_form b && short_branches_reach b.code) (body_unless_empty s a f c) ≡ true
      go [] is = refl
      go (i ∷ more) is =
          let fit = numbers_in_range s n good.numbers in
          let some = ap (λ c. nat_lt 0 (length c)) is ∙ lt-ltb 0 (suc (length more)) (omega arith) in
          ap (λ c. has_body_form (whole fit c) && short_branches_reach c) (sym is)
          ∙ and_from (has_body_form (whole fit (code s a f))) (short_branches_reach (code s a f)) (whole_form fit some) whole_reaches

  pub has_formed : option_all (is_body (assembly s)) (body s a f) ≡ true
  has_formed = names.body_formed (assembly s) (body s a f) (names.body_names longest reads s r a good.few f good.all) form_and_branches

  pub body_formed : (b : Body) → body s a f ≡ Some b → is_body (assembly s) b ≡ true
  body_formed b e = ap (option_all (is_body (assembly s))) (sym e) ∙ has_formed

-- ---- what is in a list

pub contained : {X : Type 0} (q : X) (xs : List X) → Contains xs q → In q xs
contained q [] (k, less, is) = absurd (omega (arith, less))
contained q (x ∷ xs) (zero, less, is) = inl is
contained q (x ∷ xs) (suc k, less, is) = inr (contained q xs (k, omega (arith, less), is))

pub all_formed : LongestSpelling → ReadsAsItLexes → DerivationsHaveBodies → (s : Source) → IsRight s → (n : Node) → Contains (all_methods s) n → (b : Body)
    → body s n.around n.below ≡ Some b → is_body (assembly s) b ≡ true
all_formed longest reads derived s r n i b e = body_formed longest reads s r n (good_method derived s r n (contained n (all_methods s) i)) b e

pub all_forms : LongestSpelling → ReadsAsItLexes → DerivationsHaveBodies → (s : Source) → IsRight s → (n : Node) → Contains (all_methods s) n → (b : Body)
    → body s n.around n.below ≡ Some b → has_body_form b ≡ true
unfolding is_body
all_forms longest reads derived s r n i b e =
    (and_parts (has_body_form b) (short_branches_reach b.code)
    (and_parts (has_body_form b && short_branches_reach b.code) (names_well (assembly s) b) (all_formed longest reads derived s r n i b e)).0).0

pub all_branches : LongestSpelling → ReadsAsItLexes → DerivationsHaveBodies → (s : Source) → IsRight s → (n : Node) → Contains (all_methods s) n → (b : Body)
    → body s n.around n.below ≡ Some b → short_branches_reach b.code ≡ true
unfolding is_body
all_branches longest reads derived s r n i b e =
    (and_parts (has_body_form b) (short_branches_reach b.code)
    (and_parts (has_body_form b && short_branches_reach b.code) (names_well (assembly s) b) (all_formed longest reads derived s r n i b e)).0).1

pub all_names : LongestSpelling → ReadsAsItLexes → DerivationsHaveBodies → (s : Source) → IsRight s → (n : Node) → Contains (all_methods s) n → (b : Body)
    → body s n.around n.below ≡ Some b → names_well (assembly s) b ≡ true
unfolding is_body
all_names longest reads derived s r n i b e =
    (and_parts (has_body_form b && short_branches_reach b.code) (names_well (assembly s) b) (all_formed longest reads derived s r n i b e)).1

pub all_nodes : DerivationsHaveBodies → (s : Source) → IsRight s → (n : Node) → Contains (nodes s) n → IsGoodNode s n
unfolding nodes
all_nodes derived s r n i =
    good_nodes s nothing_around no_typars s.tree (all_faultless s (derived s r.read.derived).1 r.faultless) n (contained n (nodes s) i)

-- ---- each method

from_among : {X : Type 0} (q : X) (xs : List X) → Among q xs → In q xs
from_among q [] i = i
from_among q (x ∷ xs) (inl e) = inl e
from_among q (x ∷ xs) (inr i) = inr (from_among q xs i)

pub all_have : LongestSpelling → ReadsAsItLexes → DerivationsHaveBodies → (s : Source) → IsRight s → (n : Node) → Among n (nodes s) → n.production ≡ METHOD
    → option_all (is_body (assembly s)) (body s n.around n.below) ≡ true
all_have longest reads derived s r n i is = has_formed longest reads s r n (good_method derived s r n within)
  where
    method : is_among (METHOD ∷ []) n.production ≡ true
    method = ap (λ p. is_among (METHOD ∷ []) p) is

    within : In n (all_methods s)
    within = in_filter (λ (m : Node). is_among (METHOD ∷ []) m.production) n (nodes s) (from_among n (nodes s) i) method

-- what of a well-formed body is said of its instructions alone
pub instructions_of_formed : (A : Assembly) (o : Option Body) → option_all (is_body A) o ≡ true
    → option_all (λ (b : Body). list_all (is_instruction (length b.code)) b.code && short_branches_reach b.code) o ≡ true
instructions_of_formed A None h = refl
instructions_of_formed A (Some b) h =
    let formed = (bodies_named A b).0 h in
    and_from (list_all (is_instruction (length b.code)) b.code) (short_branches_reach b.code) formed.instructions formed.short_branches
