use Rattle.std.proofs.Common.{◌≡◌, ℕ, List, [], ◌<◌, ◌∷◌, ◌^◌, length, map, refl, ap, sym, subst, ◌∙◌}
use Rattle.std.specs.List.{enumerate_from, flat_map}
use Rattle.source_model.specs.Forest.{none}
use Rattle.source_model.specs.Manifests.{attributes}
use Rattle.source_model.specs.Nodes.{typar_names, typars}
use Rattle.source_model.specs.Parameters.{generic, parameters, rows_of}
use Rattle.lower_methods.proofs.LineLemmas.{no_customs, no_parameter_lines, no_typar_lines}
use Rattle.lower_methods.proofs.method_rows.rows_without_lines.Goals as goal

pub generics-requires-clause-parts : goal.generics-requires-clause-parts
generics-requires-clause-parts c = ([], refl)

pub returns : goal.returns
returns c s a x f in_it e each held lineless =
    let names : c.args.place.now.method.now ≡ typar_names s f = x.method ∙ ap (typar_names s) in_it in
    let few : length c.args.place.now.method.now < 2 ^ 32 = subst (λ (ns : List (List ℕ)). length ns < 2 ^ 32) (sym x.method) x.few-method in
    record {
      generics-are = c.in_ok-generics.ensures s a x f [] e each names few refl tt
          ∙ ap (λ rs. map (generic s a (typar_names s f) rs) (enumerate_from 0 (typars f))) (sym (no_typar_lines f lineless));
      parameters-are = c.in_ok-params.ensures s a x f e each
          ∙ ap (λ rs. flat_map (rows_of s a rs) ((0, none) ∷ enumerate_from 1 (parameters f))) (sym (no_parameter_lines f lineless));
      overrides-are = c.in_ok-overrides.ensures s a x f e each held;
      attributes-are = c.new.ensures ∙ ap (attributes s a) (sym (no_customs f lineless));
    }
