-- What no production breaks isn't broken.
use Rattle.std.proofs.Common.{◌≡◌, ℕ, Bool, true, cond, List, [], ◌∷◌, ◌++◌, inl, inr, refl, ap, ◌∙◌}
use Rattle.std.proofs.lemmas.Bool.{cases_Bool}
use Rattle.std.specs.List.{flat_map}
use Rattle.ilasm_grammar.specs.declared.productions.TheConstants.{CLASS, FIELD, METHOD, PROPERTY, EVENT, AT_NAME}
use Rattle.source_model.specs.BodyFaults.{labels_twice, labels_undeclared, variables_undeclared, branches_too_far, clauses_backwards, branches_to_the_end, body_numbers_out_of_range}
use Rattle.source_model.specs.Denotes.{broken_d, broken_n, broken_b, broken}
use Rattle.source_model.specs.Faults.{rule_at, IsFaultless}
use Rattle.source_model.specs.Forest.{is_among}
use Rattle.source_model.specs.Nodes.{Node, nodes, nodes_of}
use Rattle.source_model.specs.OutOfRange.{numbers_out_of_range, types_too_deep, nestings_too_deep, data_too_short, data_unsized}
use Rattle.source_model.specs.Source.{Source}
use Rattle.source_model.specs.Undeclared.{types_undeclared, scopes_undeclared, objects_undeclared, typars_undeclared, accessors_undeclared, data_undeclared}
use Rattle.faultless_nodes.specs.Laws.{BreaksNothing, EachBreaksNothing, WholeBreaksNothing, NodesSuffice}

module _ (s : Source) where
  -- a rule that is asked of all, and one that is asked of some
  of_all : (rule : Node → List ℕ) → ((n : Node) → BreaksNothing s n → rule n ≡ []) → (ns : List Node) → EachBreaksNothing s ns → flat_map rule ns ≡ []
  of_all rule h [] each = refl
  of_all rule h (n ∷ ns) each = ap (λ ks. ks ++ flat_map rule ns) (h n each.0) ∙ of_all rule h ns each.1

  of_some : (sought : List ℕ) (rule : Node → List ℕ) → ((n : Node) → BreaksNothing s n → is_among sought n.production ≡ true → rule n ≡ []) →
      (ns : List Node) → EachBreaksNothing s ns → flat_map rule (nodes_of sought ns) ≡ []
  of_some sought rule h [] each = refl
  of_some sought rule h (n ∷ ns) each = elim (cases_Bool (is_among sought n.production)) [
    | inl is ↦
        ap (λ (c : Bool). flat_map rule (cond c (n ∷ nodes_of sought ns) (nodes_of sought ns))) is
        ∙ (ap (λ ks. ks ++ flat_map rule (nodes_of sought ns)) (h n each.0 is) ∙ of_some sought rule h ns each.1)
    | inr other ↦ ap (λ (c : Bool). flat_map rule (cond c (n ∷ nodes_of sought ns) (nodes_of sought ns))) other ∙ of_some sought rule h ns each.1
  ]

  module _ (each : EachBreaksNothing s (nodes s)) (whole : WholeBreaksNothing s) where
    of_methods : (rule : Node → List ℕ) → ((n : Node) → BreaksNothing s n → is_among (METHOD ∷ []) n.production ≡ true → rule n ≡ []) → flat_map rule (nodes_of (METHOD ∷ []) (nodes s)) ≡ []
    of_methods rule h = of_some (METHOD ∷ []) rule h (nodes s) each

    no_d : broken_d s ≡ []
    unfolding broken_d
    no_d =
        let labels : labels_twice s ≡ [] = of_methods _ (λ n b is. (b.method is).labels_once) in
        λ i. rule_at 1 (whole.types i) ++ rule_at 2 (whole.members i) ++ rule_at 3 (whole.externs i) ++ rule_at 4 (labels i) ++ rule_at 5 (whole.entries i) ++ rule_at 6 (whole.manifests i) ++ rule_at 7 (whole.contents i)

    no_n : broken_n s ≡ []
    unfolding broken_n
    no_n =
        let types : types_undeclared s ≡ [] = of_all _ (λ n b. b.types) (nodes s) each in
        let scopes : scopes_undeclared s ≡ [] = of_all _ (λ n b. b.scopes) (nodes s) each in
        let objects : objects_undeclared s ≡ [] = of_some (CLASS ∷ []) _ (λ n b is. b.class is) (nodes s) each in
        let labels : labels_undeclared s ≡ [] = of_methods _ (λ n b is. (b.method is).labels_known) in
        let variables : variables_undeclared s ≡ [] = of_methods _ (λ n b is. (b.method is).variables) in
        let typars : typars_undeclared s ≡ [] = (λ i. of_all _ (λ n b. b.typars) (nodes s) each i ++ of_all _ (λ n b. b.param_types) (nodes s) each i) in
        let accessors : accessors_undeclared s ≡ [] = of_some (PROPERTY ∷ EVENT ∷ []) _ (λ n b is. b.accessors is) (nodes s) each in
        let contents : data_undeclared s ≡ [] = of_some (AT_NAME ∷ []) _ (λ n b is. b.label is) (nodes s) each in
        λ i. rule_at 1 (types i) ++ rule_at 2 (scopes i ++ objects i) ++ rule_at 3 (labels i) ++ rule_at 4 (variables i) ++ rule_at 5 (typars i) ++ rule_at 6 (accessors i) ++ rule_at 7 (whole.assembly i) ++ rule_at 8 (contents i)

    no_b : broken_b s ≡ []
    unfolding broken_b
    no_b =
        let numbers : numbers_out_of_range s ≡ [] = of_all _ (λ n b. b.numbers) (nodes s) each in
        let bodies : body_numbers_out_of_range s ≡ [] = of_methods _ (λ n b is. (b.method is).numbers) in
        let branches : branches_too_far s ≡ [] = of_methods _ (λ n b is. (b.method is).branches) in
        let clauses : clauses_backwards s ≡ [] = of_methods _ (λ n b is. (b.method is).clauses) in
        let depths : types_too_deep s ≡ [] = of_all _ (λ n b. b.depth) (nodes s) each in
        let ends : branches_to_the_end s ≡ [] = of_methods _ (λ n b is. (b.method is).ends) in
        let nestings : nestings_too_deep s ≡ [] = (λ i. of_all _ (λ n b. b.nesting) (nodes s) each i ++ of_all _ (λ n b. b.paths) (nodes s) each i) in
        let long : data_too_short s ≡ [] = of_some (FIELD ∷ []) _ (λ n b is. (b.field is).long) (nodes s) each in
        let sized : data_unsized s ≡ [] = of_some (FIELD ∷ []) _ (λ n b is. (b.field is).sized) (nodes s) each in
        λ i. rule_at 1 (numbers i ++ bodies i) ++ rule_at 2 (branches i) ++ rule_at 3 (clauses i) ++ rule_at 4 (depths i) ++ rule_at 5 (ends i) ++ rule_at 6 (nestings i) ++ rule_at 7 (long i) ++ rule_at 8 (sized i)

    faultless : IsFaultless (broken s)
    faultless = (no_d, no_n, no_b)

pub nodes_suffice : NodesSuffice
nodes_suffice s each whole = faultless s each whole
