-- A source that breaks no rule: each of its lists is empty, and each of its productions faultless.
use Rattle.std.proofs.Common.{◌≡◌, ℕ, List, [], ◌∷◌, ◌++◌, ◌==◌, ◌&&◌, nat_lt, refl, ap, sym, ◌∙◌}
use Rattle.std.specs.Prelude.{if◌then◌else◌}
use Rattle.std.specs.List.{flat_map}
use Rattle.std.proofs.lemmas.Grind.{flat_map-append}
use Rattle.ilasm_grammar.specs.declared.productions.TheConstants.{TYPE}
use Rattle.source_model.specs.BodyFaults.{body_numbers_out_of_range, branches_to_the_end, branches_too_far, clauses_backwards, labels_twice, labels_undeclared, variables_undeclared}
use Rattle.source_model.specs.DeclaredTwice.{data_twice, entries_twice, externs_twice, manifests_twice, members_twice, types_twice}
use Rattle.source_model.specs.Denotes.{broken, broken_b, broken_d, broken_n}
use Rattle.source_model.specs.Faults.{IsFaultless, rule_at}
use Rattle.source_model.specs.Forest.{Forest, none, leaf, branch, first_token}
use Rattle.source_model.specs.Nodes.{Around, Node, entered, nodes, nodes_in, nothing_around}
use Rattle.source_model.specs.OutOfRange.{
  barred_arguments,
  barred_in_property,
  class_too_deep,
  constant_out_of_range,
  data_number_out_of_range,
  data_too_long,
  data_too_short,
  data_unsized,
  flags_out_of_range,
  layout_number_out_of_range,
  manifest_number_out_of_range,
  nestings_too_deep,
  number_out_of_range_at,
  numbers_out_of_range,
  param_out_of_range,
  types_too_deep,
}
use Rattle.source_model.specs.Source.{Source}
use Rattle.source_model.specs.TypeRules.{number_in_type_out_of_range, path_too_long, scope_undeclared, type_too_deep, type_undeclared, typars_out_of_range}
use Rattle.source_model.specs.Undeclared.{accessors_undeclared, assembly_undeclared, data_undeclared, objects_undeclared, scopes_undeclared, types_undeclared, typars_undeclared}
use Rattle.source_nodes.specs.Derived.{FitsBody, HasBodies}
use Rattle.source_syntax.specs.Places.{node_of}
use Rattle.laws_formed_sources.specs.sources.Productions.{AllFaultless, IsFaultlessAt}
use Rattle.laws_formed_sources.proofs.sources.Depths.{type_deep}
use Rattle.laws_formed_sources.proofs.sources.Repeats.{no_map}

pub empty_in : {X : Type 0} (xs ys : List X) → xs ++ ys ≡ [] → (xs ≡ []) × (ys ≡ [])
empty_in [] ys e = (refl, e)
empty_in (x ∷ xs) ys e = absurd cc

-- ---- the lists of the rules

module _ (s : Source) where
  pub record NothingTwice : Type 0 where
    pub types : types_twice s ≡ []
    pub members : members_twice s ≡ []
    pub externs : externs_twice s ≡ []
    pub labels : labels_twice s ≡ []
    pub entries : entries_twice s ≡ []
    pub manifests : manifests_twice s ≡ []
    pub labelled : data_twice s ≡ []

  pub record AllDeclared : Type 0 where
    pub types : types_undeclared s ≡ []
    pub scopes : scopes_undeclared s ≡ []
    pub objects : objects_undeclared s ≡ []
    pub labels : labels_undeclared s ≡ []
    pub variables : variables_undeclared s ≡ []
    pub typars : typars_undeclared s ≡ []
    pub accessors : accessors_undeclared s ≡ []
    pub assembly : assembly_undeclared s ≡ []
    pub labelled : data_undeclared s ≡ []

  pub record AllBounded : Type 0 where
    pub numbers : numbers_out_of_range s ≡ []
    pub body-numbers : body_numbers_out_of_range s ≡ []
    pub branches : branches_too_far s ≡ []
    pub clauses : clauses_backwards s ≡ []
    pub types : types_too_deep s ≡ []
    pub targets : branches_to_the_end s ≡ []
    pub nestings : nestings_too_deep s ≡ []
    pub short : data_too_short s ≡ []
    pub unsized : data_unsized s ≡ []

  none_at : (rule : ℕ) (ks : List ℕ) → rule_at rule ks ≡ [] → ks ≡ []
  none_at rule ks e = no_map (λ k. record { token = k; rule = rule }) ks e

  pub nothing_twice : IsFaultless (broken s) → NothingTwice
  unfolding broken_d
  nothing_twice h =
      let r1 = rule_at 1 (types_twice s) in
      let r2 = rule_at 2 (members_twice s) in
      let r3 = rule_at 3 (externs_twice s) in
      let r4 = rule_at 4 (labels_twice s) in
      let r5 = rule_at 5 (entries_twice s) in
      let r6 = rule_at 6 (manifests_twice s) in
      let r7 = rule_at 7 (data_twice s) in
      let h6 = empty_in (r1 ++ r2 ++ r3 ++ r4 ++ r5 ++ r6) r7 h.0 in
      let h5 = empty_in (r1 ++ r2 ++ r3 ++ r4 ++ r5) r6 h6.0 in
      let h4 = empty_in (r1 ++ r2 ++ r3 ++ r4) r5 h5.0 in
      let h3 = empty_in (r1 ++ r2 ++ r3) r4 h4.0 in
      let h2 = empty_in (r1 ++ r2) r3 h3.0 in
      let h1 = empty_in r1 r2 h2.0 in
      record {
        types = none_at 1 (types_twice s) h1.0;
        members = none_at 2 (members_twice s) h1.1;
        externs = none_at 3 (externs_twice s) h2.1;
        labels = none_at 4 (labels_twice s) h3.1;
        entries = none_at 5 (entries_twice s) h4.1;
        manifests = none_at 6 (manifests_twice s) h5.1;
        labelled = none_at 7 (data_twice s) h6.1;
      }

  pub all_declared : IsFaultless (broken s) → AllDeclared
  unfolding broken_n
  all_declared h =
      let r1 = rule_at 1 (types_undeclared s) in
      let r2 = rule_at 2 (scopes_undeclared s ++ objects_undeclared s) in
      let r3 = rule_at 3 (labels_undeclared s) in
      let r4 = rule_at 4 (variables_undeclared s) in
      let r5 = rule_at 5 (typars_undeclared s) in
      let r6 = rule_at 6 (accessors_undeclared s) in
      let r7 = rule_at 7 (assembly_undeclared s) in
      let r8 = rule_at 8 (data_undeclared s) in
      let h7 = empty_in (r1 ++ r2 ++ r3 ++ r4 ++ r5 ++ r6 ++ r7) r8 h.1 in
      let h6 = empty_in (r1 ++ r2 ++ r3 ++ r4 ++ r5 ++ r6) r7 h7.0 in
      let h5 = empty_in (r1 ++ r2 ++ r3 ++ r4 ++ r5) r6 h6.0 in
      let h4 = empty_in (r1 ++ r2 ++ r3 ++ r4) r5 h5.0 in
      let h3 = empty_in (r1 ++ r2 ++ r3) r4 h4.0 in
      let h2 = empty_in (r1 ++ r2) r3 h3.0 in
      let h1 = empty_in r1 r2 h2.0 in
      let both = empty_in (scopes_undeclared s) (objects_undeclared s) (none_at 2 (scopes_undeclared s ++ objects_undeclared s) h1.1) in
      record {
        types = none_at 1 (types_undeclared s) h1.0;
        scopes = both.0;
        objects = both.1;
        labels = none_at 3 (labels_undeclared s) h2.1;
        variables = none_at 4 (variables_undeclared s) h3.1;
        typars = none_at 5 (typars_undeclared s) h4.1;
        accessors = none_at 6 (accessors_undeclared s) h5.1;
        assembly = none_at 7 (assembly_undeclared s) h6.1;
        labelled = none_at 8 (data_undeclared s) h7.1;
      }

  pub all_bounded : IsFaultless (broken s) → AllBounded
  unfolding broken_b
  all_bounded h =
      let r1 = rule_at 1 (numbers_out_of_range s ++ body_numbers_out_of_range s) in
      let r2 = rule_at 2 (branches_too_far s) in
      let r3 = rule_at 3 (clauses_backwards s) in
      let r4 = rule_at 4 (types_too_deep s) in
      let r5 = rule_at 5 (branches_to_the_end s) in
      let r6 = rule_at 6 (nestings_too_deep s) in
      let r7 = rule_at 7 (data_too_short s) in
      let r8 = rule_at 8 (data_unsized s) in
      let h7 = empty_in (r1 ++ r2 ++ r3 ++ r4 ++ r5 ++ r6 ++ r7) r8 h.2 in
      let h6 = empty_in (r1 ++ r2 ++ r3 ++ r4 ++ r5 ++ r6) r7 h7.0 in
      let h5 = empty_in (r1 ++ r2 ++ r3 ++ r4 ++ r5) r6 h6.0 in
      let h4 = empty_in (r1 ++ r2 ++ r3 ++ r4) r5 h5.0 in
      let h3 = empty_in (r1 ++ r2 ++ r3) r4 h4.0 in
      let h2 = empty_in (r1 ++ r2) r3 h3.0 in
      let h1 = empty_in r1 r2 h2.0 in
      let both = empty_in (numbers_out_of_range s) (body_numbers_out_of_range s) (none_at 1 (numbers_out_of_range s ++ body_numbers_out_of_range s) h1.0) in
      record {
        numbers = both.0;
        body-numbers = both.1;
        branches = none_at 2 (branches_too_far s) h1.1;
        clauses = none_at 3 (clauses_backwards s) h2.1;
        types = none_at 4 (types_too_deep s) h3.1;
        targets = none_at 5 (branches_to_the_end s) h4.1;
        nestings = none_at 6 (nestings_too_deep s) h5.1;
        short = none_at 7 (data_too_short s) h6.1;
        unsized = none_at 8 (data_unsized s) h7.1;
      }

  -- ---- each production

  -- what is empty over all nodes is empty at the first of them, below it and after it
  pub parted : (g : Node → List ℕ) (a : Around) (p : ℕ) (b f : Forest) → flat_map g (nodes_in s a (branch p b f)) ≡ []
      → (g (record { production = p; below = b; around = entered s a p b }) ≡ []) × (flat_map g (nodes_in s (entered s a p b) b) ≡ []) × (flat_map g (nodes_in s a f) ≡ [])
  parted g a p b f e =
      let inner = entered s a p b in
      let own = empty_in (g (record { production = p; below = b; around = inner })) (flat_map g (nodes_in s inner b ++ nodes_in s a f)) e in
      let both = empty_in (flat_map g (nodes_in s inner b)) (flat_map g (nodes_in s a f)) (sym (flat_map-append g (nodes_in s inner b) (nodes_in s a f)) ∙ own.1) in
      (own.0, both.0, both.1)

  deep_elsewhere : (a : Around) (p : ℕ) (b : Forest) → type_too_deep s (record { production = p; below = b; around = a }) ≡ [] → type_too_deep s (node_of p b) ≡ []
  deep_elsewhere a p b e = ap (λ d. if p == TYPE && nat_lt 100 d then first_token b ∷ [] else []) (type_deep s nothing_around a b) ∙ e

  own_faultless : (a : Around) (p : ℕ) (b : Forest) → FitsBody s p b
      → number_out_of_range_at s (record { production = p; below = b; around = a }) ≡ [] → type_undeclared s (record { production = p; below = b; around = a }) ≡ []
      → scope_undeclared s (record { production = p; below = b; around = a }) ≡ [] → type_too_deep s (record { production = p; below = b; around = a }) ≡ []
      → path_too_long (record { production = p; below = b; around = a }) ≡ [] → IsFaultlessAt s p b
  own_faultless a p b fits e types scopes deep paths =
      let n : Node = record { production = p; below = b; around = a } in
      let m = manifest_number_out_of_range s n in
      let f = flags_out_of_range s n in
      let c = constant_out_of_range s n in
      let l = layout_number_out_of_range s n in
      let d = data_number_out_of_range s n in
      let t = data_too_long s n in
      let k = param_out_of_range s n in
      let r = barred_arguments n in
      let q = barred_in_property n in
      let i = number_in_type_out_of_range s n in
      let h1 = empty_in (m ++ f ++ c ++ l ++ d ++ t ++ k ++ r ++ q ++ i) (typars_out_of_range n) e in
      let h2 = empty_in (m ++ f ++ c ++ l ++ d ++ t ++ k ++ r ++ q) i h1.0 in
      let h3 = empty_in (m ++ f ++ c ++ l ++ d ++ t ++ k ++ r) q h2.0 in
      let h4 = empty_in (m ++ f ++ c ++ l ++ d ++ t ++ k) r h3.0 in
      let h5 = empty_in (m ++ f ++ c ++ l ++ d ++ t) k h4.0 in
      let h6 = empty_in (m ++ f ++ c ++ l ++ d) t h5.0 in
      let h7 = empty_in (m ++ f ++ c ++ l) d h6.0 in
      let h8 = empty_in (m ++ f ++ c) l h7.0 in
      let h9 = empty_in (m ++ f) c h8.0 in
      let h10 = empty_in m f h9.0 in
      record {
        range = record {
          fits = fits;
          types = h2.1;
          manifest = h10.0;
          flags = h10.1;
          constants = h9.1;
          layouts = h8.1;
          data-numbers = h7.1;
        };
        types = types;
        scopes = scopes;
        paths = paths;
        depth = deep_elsewhere a p b deep;
        typars = h1.1;
        lengths = h6.1;
        arguments = h4.1;
        properties = h3.1;
      }

  all_faultless_in : (a : Around) (f : Forest) → HasBodies s f → flat_map (number_out_of_range_at s) (nodes_in s a f) ≡ []
      → flat_map (type_undeclared s) (nodes_in s a f) ≡ [] → flat_map (scope_undeclared s) (nodes_in s a f) ≡ []
      → flat_map (type_too_deep s) (nodes_in s a f) ≡ [] → flat_map path_too_long (nodes_in s a f) ≡ [] → AllFaultless s f
  all_faultless_in a none h e1 e2 e3 e4 e5 = tt
  all_faultless_in a (leaf k f) h e1 e2 e3 e4 e5 = all_faultless_in a f h e1 e2 e3 e4 e5
  all_faultless_in a (branch p b f) h e1 e2 e3 e4 e5 =
      let n1 = parted (number_out_of_range_at s) a p b f e1 in
      let n2 = parted (type_undeclared s) a p b f e2 in
      let n3 = parted (scope_undeclared s) a p b f e3 in
      let n4 = parted (type_too_deep s) a p b f e4 in
      let n5 = parted path_too_long a p b f e5 in
      let inner = entered s a p b in (
        own_faultless inner p b h.0 n1.0 n2.0 n3.0 n4.0 n5.0,
        all_faultless_in inner b h.1 n1.1 n2.1 n3.1 n4.1 n5.1,
        all_faultless_in a f h.2 n1.2 n2.2 n3.2 n4.2 n5.2,
      )

  pub all_faultless : HasBodies s s.tree → IsFaultless (broken s) → AllFaultless s s.tree
  unfolding nodes
  all_faultless h e =
      let d = all_declared e in
      let b = all_bounded e in
      let nested = empty_in (flat_map class_too_deep (nodes s)) (flat_map path_too_long (nodes s)) b.nestings in
      all_faultless_in nothing_around s.tree h b.numbers d.types d.scopes b.types nested.1
