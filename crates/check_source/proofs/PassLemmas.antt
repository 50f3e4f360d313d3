-- Where the pass finds nothing, none of its rules is broken.
use Rattle.std.proofs.Common.{◌≡◌, ℕ, List, ◌++◌, ap, sym, ◌∙◌}
use Rattle.std.specs.Prelude.{None}
use Rattle.source_model.specs.BodyFaults.{body_numbers_out_of_range, branches_to_the_end, branches_too_far, clauses_backwards, labels_twice, labels_undeclared, variables_undeclared}
use Rattle.source_model.specs.DeclaredTwice.{members_twice}
use Rattle.source_model.specs.OutOfRange.{nestings_too_deep, numbers_out_of_range}
use Rattle.source_model.specs.Source.{Source}
use Rattle.source_model.specs.Undeclared.{data_undeclared, scopes_undeclared, types_undeclared, typars_undeclared}
use Rattle.source_nodes.specs.Least.{least, sooner}
use Rattle.source_syntax.proofs.LeastLemmas.{least_append}
use Rattle.check_bodies.specs.AllOfBodies.{broken_in_bodies}
use Rattle.check_visitor.proofs.LeastOfRules.{neither_rule}
use Rattle.check_names.specs.AllOfParts.{broken_in_parts}
use Rattle.check_source.specs.Passes.{broken_in_passes, KeepsPasses}

none_of_both : (xs ys : List ℕ) → None ≡ least xs → None ≡ least ys → None ≡ least (xs ++ ys)
none_of_both xs ys e h = h ∙ ap (λ o. sooner o (least ys)) e ∙ sym (least_append xs ys)

pub nothing_broken : (s : Source) → None ≡ least (broken_in_passes s) → KeepsPasses s
nothing_broken s e =
    let twice = labels_twice s in
    let labels = labels_undeclared s in
    let variables = variables_undeclared s in
    let numbers = body_numbers_out_of_range s in
    let far = branches_too_far s in
    let clauses = clauses_backwards s in
    let types = types_undeclared s in
    let scopes = scopes_undeclared s in
    let typars = typars_undeclared s in
    let data-labels = data_undeclared s in
    let all = neither_rule (broken_in_bodies s ++ broken_in_parts s) (members_twice s) e in
    let passes = neither_rule (broken_in_bodies s) (broken_in_parts s) all.0 in
    let b6 = neither_rule (twice ++ labels ++ variables ++ numbers ++ far ++ clauses) (branches_to_the_end s) passes.0 in
    let b5 = neither_rule (twice ++ labels ++ variables ++ numbers ++ far) clauses b6.0 in
    let b4 = neither_rule (twice ++ labels ++ variables ++ numbers) far b5.0 in
    let b3 = neither_rule (twice ++ labels ++ variables) numbers b4.0 in
    let b2 = neither_rule (twice ++ labels) variables b3.0 in
    let b1 = neither_rule twice labels b2.0 in
    let p5 = neither_rule (types ++ scopes ++ typars ++ data-labels ++ numbers_out_of_range s) (nestings_too_deep s) passes.1 in
    let p4 = neither_rule (types ++ scopes ++ typars ++ data-labels) (numbers_out_of_range s) p5.0 in
    let p3 = neither_rule (types ++ scopes ++ typars) data-labels p4.0 in
    let p2 = neither_rule (types ++ scopes) typars p3.0 in
    let p1 = neither_rule types scopes p2.0 in
    record {
      labels-once = b1.0;
      labels = b1.1;
      variables = b2.1;
      branches = b4.1;
      clauses = b5.1;
      ends = b6.1;
      types = p1.0;
      scopes = p1.1;
      typars = p2.1;
      data-labels = p3.1;
      numbers = none_of_both (numbers_out_of_range s) numbers p4.1 b3.1;
      nestings = p5.1;
      members = all.1;
    }
