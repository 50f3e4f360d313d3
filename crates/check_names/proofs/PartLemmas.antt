-- All rules that are asked of each production, at all productions of a source.
use Rattle.std.proofs.Common.{◌≡◌, ℕ, List, ◌++◌, map, ap, refl, ◌∙◌}
use Rattle.std.specs.List.{flat_map}
use Rattle.ilasm_grammar.specs.declared.productions.TheConstants.{DATA}
use Rattle.source_model.specs.Forest.{each}
use Rattle.source_model.specs.Names.{written_name}
use Rattle.source_model.specs.Nodes.{Node, nodes}
use Rattle.source_model.specs.OutOfRange.{class_too_deep, nestings_too_deep, numbers_out_of_range}
use Rattle.source_model.specs.Source.{Source}
use Rattle.source_model.specs.TokenOrder.{TokensStandInOrder}
use Rattle.source_model.specs.TypeRules.{path_too_long, typar_undeclared}
use Rattle.source_model.specs.Undeclared.{data_undeclared, param_type_undeclared, scopes_undeclared, types_undeclared, typars_undeclared}
use Rattle.source_model.specs.Values.{name_text}
use Rattle.source_nodes.specs.Derived.{DerivationsHaveBodies}
use Rattle.source_nodes.specs.Least.{least}
use Rattle.source_syntax.specs.Namings.{AreNames}
use Rattle.source_nodes.specs.Readers.{Reads}
use Rattle.source_syntax.specs.declared.name_lists.Named.{Named}
use Rattle.source_syntax.specs.declared.name_lists.Naming.TheVariants.{Assembly, Label, Own}
use Rattle.source_nodes.specs.declared.reader.Reader.{Reader}
use Rattle.source_syntax.proofs.NamingLemmas.{labels_are}
use Rattle.check_visitor.proofs.LeastOfRules.{and_rule}
use Rattle.check_names.specs.AllOfParts.{broken_at, broken_in_parts}
use Rattle.check_names.specs.ArrayNumbers.{number_at}
use Rattle.check_names.specs.DeclaredClasses.{AreClasses}
use Rattle.check_names.specs.Missing.{label_missing}
use Rattle.check_names.specs.NamedTypes.{scope_missing_in, type_missing_in}
use Rattle.check_names.specs.declared.class_rules.Classes.{Classes}
use Rattle.check_names.proofs.MissingLemmas.{labels_missing}
use Rattle.check_names.proofs.NamedTypeLemmas.{scopes_are, types_are}
use Rattle.check_names.proofs.OrderedNumbers.{same_numbers}

module _ (s : Source) (externs own labels : Named) (cs : Classes) (e : AreNames s Assembly externs) (o : AreNames s Own own)
    (k : AreClasses s cs) (l : AreNames s Label labels) where
  abbrev by_type : Node → List ℕ
  by_type n = type_missing_in externs.names own.names cs.paths s (written_name n.production n.below)

  abbrev by_scope : Node → List ℕ
  by_scope n = scope_missing_in externs.names own.names s (written_name n.production n.below)

  abbrev by_typar : Node → List ℕ
  by_typar n = typar_undeclared s n ++ param_type_undeclared s n

  abbrev by_label : Node → List ℕ
  by_label = label_missing labels.names s

  abbrev by_number : Node → List ℕ
  by_number = number_at s

  pub all_parts : TokensStandInOrder → DerivationsHaveBodies → (r : Reader) → Reads r s
      → least (flat_map (broken_at externs.names own.names cs.paths labels.names s) (nodes s)) ≡ least (broken_in_parts s)
  all_parts order bodies r reads =
      let ns = nodes s in
      and_rule (λ n. by_type n ++ by_scope n ++ by_typar n ++ by_label n ++ by_number n) (λ n. class_too_deep n ++ path_too_long n)
      (types_undeclared s ++ scopes_undeclared s ++ typars_undeclared s ++ data_undeclared s ++ numbers_out_of_range s) (nestings_too_deep s) ns
      (and_rule (λ n. by_type n ++ by_scope n ++ by_typar n ++ by_label n) by_number
      (types_undeclared s ++ scopes_undeclared s ++ typars_undeclared s ++ data_undeclared s) (numbers_out_of_range s) ns
      (and_rule (λ n. by_type n ++ by_scope n ++ by_typar n) by_label (types_undeclared s ++ scopes_undeclared s ++ typars_undeclared s) (data_undeclared s) ns
      (and_rule (λ n. by_type n ++ by_scope n) by_typar (types_undeclared s ++ scopes_undeclared s) (typars_undeclared s) ns
      (and_rule by_type by_scope (types_undeclared s) (scopes_undeclared s) ns
      (ap least (types_are s externs.names own.names e.texts o.texts cs.paths k.knows))
      (ap least (scopes_are s externs.names own.names e.texts o.texts)))
      (and_rule (typar_undeclared s) (param_type_undeclared s) (flat_map (typar_undeclared s) ns) (flat_map (param_type_undeclared s) ns) ns refl refl))
      (ap least (labels_missing s labels.names (l.texts ∙ ap (map (name_text s)) (labels_are (each DATA s.tree))))))
      (same_numbers order s r reads bodies))
      (and_rule class_too_deep path_too_long (flat_map class_too_deep ns) (flat_map path_too_long ns) ns refl refl)
