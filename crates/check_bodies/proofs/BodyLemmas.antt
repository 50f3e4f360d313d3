-- All rules of bodies at once, and methods without lines that say depths of stacks, locals or clauses.
use Rattle.std.proofs.Common.{◌≡◌, ℕ, List, [], ◌∷◌, ◌++◌, ap, sym, ◌∙◌, refl}
use Rattle.std.specs.Prelude.{Bool, true, false, not, ◌==◌, ◌||◌, ◌&&◌, if◌then◌else◌, Option}
use Rattle.std.specs.List.{flat_map}
use Rattle.ilasm_grammar.specs.declared.productions.TheConstants.{ITEM_MAXSTACK, ITEM_TRY, LOCAL}
use Rattle.ilasm_grammar.specs.declared.tree.TreeNode.{TreeNode}
use Rattle.source_model.specs.BodyFaults.{all_methods, body_numbers_out_of_range, branches_too_far, clauses_backwards, branches_to_the_end, labels_twice, labels_undeclared, variables_undeclared}
use Rattle.source_model.specs.BodyNumbers.{body_numbers_out_of_range_in}
use Rattle.source_model.specs.Clauses.{clause_forms, guarded_in}
use Rattle.source_model.specs.Forest as tree
use Rattle.source_model.specs.Forest.{Forest, each, is_among, parts, preorder}
use Rattle.source_model.specs.Source.{Source}
use Rattle.source_model.specs.Variables.{locals}
use Rattle.source_nodes.specs.Least.{least, sooner}
use Rattle.check_bodies.specs.AllOfBodies.{backwards_in, broken_in, broken_in_bodies, ends_in, far_in, twice_in, undeclared_in, variables_in}
use Rattle.check_bodies.specs.ClauseCounts.{clauses_in}
use Rattle.check_bodies.specs.PlainBodies.{is_other, is_plain, lines}
use Rattle.source_syntax.proofs.LeastLemmas.{sooner_assoc, sooner_comm}
use Rattle.check_visitor.proofs.LeastOfRules.{and_rule}

-- ---- all rules

pub all_bodies : (s : Source) → least (flat_map (broken_in s) (all_methods s)) ≡ least (broken_in_bodies s)
all_bodies s =
    let ms = all_methods s in
    let numbers = body_numbers_out_of_range_in s in
    and_rule (λ n. twice_in s n ++ undeclared_in s n ++ variables_in s n ++ numbers n ++ far_in s n ++ backwards_in s n) (ends_in s)
    (labels_twice s ++ labels_undeclared s ++ variables_undeclared s ++ body_numbers_out_of_range s ++ branches_too_far s ++ clauses_backwards s)
    (branches_to_the_end s) ms
    (and_rule (λ n. twice_in s n ++ undeclared_in s n ++ variables_in s n ++ numbers n ++ far_in s n) (backwards_in s)
    (labels_twice s ++ labels_undeclared s ++ variables_undeclared s ++ body_numbers_out_of_range s ++ branches_too_far s) (clauses_backwards s) ms
    (and_rule (λ n. twice_in s n ++ undeclared_in s n ++ variables_in s n ++ numbers n) (far_in s)
    (labels_twice s ++ labels_undeclared s ++ variables_undeclared s ++ body_numbers_out_of_range s) (branches_too_far s) ms
    (and_rule (λ n. twice_in s n ++ undeclared_in s n ++ variables_in s n) numbers
    (labels_twice s ++ labels_undeclared s ++ variables_undeclared s) (body_numbers_out_of_range s) ms
    (and_rule (λ n. twice_in s n ++ undeclared_in s n) (variables_in s) (labels_twice s ++ labels_undeclared s) (variables_undeclared s) ms
    (and_rule (twice_in s) (undeclared_in s) (labels_twice s) (labels_undeclared s) ms refl refl)
    refl)
    refl)
    refl)
    refl)
    refl

-- ---- the rules of labels, asked before the others

later : (a b c : Option ℕ) → sooner (sooner a b) c ≡ sooner (sooner a c) b
later a b c = sooner_assoc a b c ∙ ap (sooner a) (sooner_comm b c) ∙ sym (sooner_assoc a c b)

-- far branches and those to the end are put behind what stands before them in the order of the rules
pub in_turn : (names far ends variables numbers clauses : Option ℕ)
    → sooner (sooner (sooner (sooner (sooner names far) ends) variables) numbers) clauses
    ≡ sooner (sooner (sooner (sooner (sooner names variables) numbers) far) clauses) ends
in_turn names far ends variables numbers clauses =
    let to_variables = later (sooner names far) ends variables ∙ ap (λ o. sooner o ends) (later names far variables) in
    let to_numbers =
    ap (λ o. sooner o numbers) to_variables ∙ later (sooner (sooner names variables) far) ends numbers
    ∙ ap (λ o. sooner o ends) (later (sooner names variables) far numbers) in
    ap (λ o. sooner o clauses) to_numbers ∙ later (sooner (sooner (sooner names variables) numbers) far) ends clauses

-- ---- plain methods

both : (a b : Bool) → (a && b) ≡ true → (a ≡ true) × (b ≡ true)
both true b e = (refl, e)
both false b e = absurd cc

all_before : (xs ys : List TreeNode) → is_plain (xs ++ ys) ≡ true → (is_plain xs ≡ true) × (is_plain ys ≡ true)
all_before [] ys e = (refl, e)
all_before (x ∷ xs) ys e =
    let here = both (is_other x) (is_plain (xs ++ ys)) e in
    let rest = all_before xs ys here.1 in
    (ap (λ b. b && is_plain xs) here.0 ∙ rest.0, rest.1)

neither : (a b : Bool) → not (a || b) ≡ true → (a ≡ false) × (not b ≡ true)
neither false b e = (refl, e)
neither true b e = absurd cc

-- what a plain forest begins with, and what is below and behind that
record Plain (p : ℕ) (b a : Forest) : Type 0 where
  other : not (is_among lines p) ≡ true
  below : is_plain (preorder b) ≡ true
  after : is_plain (preorder a) ≡ true

plain_branch : (p : ℕ) (b a : Forest) → is_plain (preorder (tree.branch p b a)) ≡ true → Plain p b a
plain_branch p b a e =
    let here = both (not (is_among lines p)) (is_plain (preorder b ++ preorder a)) e in
    let rest = all_before (preorder b) (preorder a) here.1 in
    record { other = here.0; below = rest.0; after = rest.1 }

no_part : (q : ℕ) → ((p : ℕ) → not (is_among lines p) ≡ true → (q == p) ≡ false) → (f : Forest) → is_plain (preorder f) ≡ true → parts (q ∷ []) f ≡ []
no_part q other tree.none e = refl
no_part q other (tree.leaf k f) e = no_part q other f e
no_part q other (tree.branch p b f) e =
    let plain = plain_branch p b f e in
    ap (λ (c : Bool). (if c || false then tree.part p b ∷ [] else parts (q ∷ []) b) ++ parts (q ∷ []) f) (other p plain.other)
    ∙ ap (λ xs. xs ++ parts (q ∷ []) f) (no_part q other b plain.below)
    ∙ no_part q other f plain.after

first_other : (p : ℕ) → not (is_among lines p) ≡ true → (ITEM_MAXSTACK == p) ≡ false
first_other p e = (neither (ITEM_MAXSTACK == p) (is_among (LOCAL ∷ clause_forms) p) e).0

second_other : (p : ℕ) → not (is_among lines p) ≡ true → (LOCAL == p) ≡ false
second_other p e = (neither (LOCAL == p) (is_among clause_forms p) (neither (ITEM_MAXSTACK == p) (is_among (LOCAL ∷ clause_forms) p) e).1).0

not_false : (b : Bool) → not b ≡ true → b ≡ false
not_false true e = absurd cc
not_false false e = refl

no_clause : (p : ℕ) → not (is_among lines p) ≡ true → is_among clause_forms p ≡ false
no_clause p e =
    not_false (is_among clause_forms p)
    (neither (LOCAL == p) (is_among clause_forms p) (neither (ITEM_MAXSTACK == p) (is_among (LOCAL ∷ clause_forms) p) e).1).1

pub no_bounds : (f : Forest) → is_plain (preorder f) ≡ true → each ITEM_MAXSTACK f ≡ []
no_bounds f e = ap tree.below_each (no_part ITEM_MAXSTACK first_other f e)

pub no_locals : (f : Forest) → is_plain (preorder f) ≡ true → locals f ≡ []
no_locals f e = ap tree.below_each (no_part LOCAL second_other f e)

pub no_clauses : (f : Forest) → is_plain (preorder f) ≡ true → clauses_in f ≡ []
no_clauses tree.none e = refl
no_clauses (tree.leaf k f) e = no_clauses f e
no_clauses (tree.branch p b f) e =
    let plain = plain_branch p b f e in
    ap (λ (c : Bool). (clauses_in b ++ (if c then b ∷ [] else [])) ++ clauses_in f) (no_clause p plain.other)
    ∙ ap (λ xs. (xs ++ []) ++ clauses_in f) (no_clauses b plain.below)
    ∙ no_clauses f plain.after

pub none_guarded : (t f : Forest) → is_plain (preorder f) ≡ true → guarded_in t f ≡ []
none_guarded t tree.none e = refl
none_guarded t (tree.leaf k f) e = none_guarded t f e
none_guarded t (tree.branch p b f) e =
    let plain = plain_branch p b f e in
    let inner : Forest = if p == ITEM_TRY then b else t in
    ap (λ (c : Bool). (guarded_in inner b ++ (if c then record { tried = t; clause = tree.part p b } ∷ [] else [])) ++ guarded_in t f) (no_clause p plain.other)
    ∙ ap (λ xs. (xs ++ []) ++ guarded_in t f) (none_guarded inner b plain.below)
    ∙ none_guarded t f plain.after
