use Rattle.std.proofs.Common.{◌≡◌, ◌≤◌, ◌<◌, ◌+◌, ◌++◌, ◌∷◌, [], ap, arith, inr, length, refl, subst, sym, ◌∙◌}
use Rattle.std.specs.List.{enumerate_from, flat_map}
use Rattle.std.proofs.lemmas.List.{take_all}
use Rattle.ilasm_grammar.specs.declared.productions.TheConstants.{DEF_ARG, DEF_ARGS_OPT_SOME, NAME_OPT_SOME, PARAM_ATTR_STAR_MORE}
use Rattle.source_flags.specs.InRange.{IsInRange}
use Rattle.source_flags.proofs.Gathered.{IsSought, all_at, of_parts}
use Rattle.source_model.specs.Forest.{child, has, parts}
use Rattle.source_model.specs.Parameters.{parameters, rows_of}
use Rattle.source_nodes.specs.Pieces.{ArePieces}
use Rattle.source_nodes.proofs.PieceLemmas.{as_many, flat_next, part_read}
use Rattle.source_syntax.proofs.ReferenceLemmas.{of_child}
use Rattle.lower_manifest.proofs.KeyLemmas.{only}
use Rattle.lower_members.proofs.GenericLemmas.{below_at, many_below, many_numbered, numbered_from}
use Rattle.lower_members.proofs.BareParams.{neither, no_rows}
use Rattle.lower_members.proofs.ParamFlags.{few_parameters}
use Rattle.lower_members.proofs.params.params_without_lines.Goals as goal

pub add_row-requires-clause-forest : goal.add_row-requires-clause-forest
add_row-requires-clause-forest c =
    let found = c.as_slice-parameter-items.result.now in
    let f = c.requires.forest in
    let below = c.child-below.ensures f.0 f.1 in
    let qs = parts (DEF_ARG ∷ []) (child (DEF_ARGS_OPT_SOME ∷ []) f.0) in
    let are : ArePieces c.child-below.result.now found qs =
    subst (λ xs. ArePieces c.child-below.result.now xs qs) (sym c.as_slice-parameter-items.ensures) (c.in_ok-parameters.ensures (child (DEF_ARGS_OPT_SOME ∷ []) f.0) (sym below)) in
    let m = part_read c.child-below.result.now found qs c.loop-parameter.parameter-index _ are c.loop-parameter-test.true in
    (m.of.below, m.below ∙ sym c.nodes_of-of.ensures)

pub returns-then-not-has_more : goal.returns-then-not-has_more
returns-then-not-has_more c s a x f e ranged =
    let g = child (DEF_ARGS_OPT_SOME ∷ []) f in
    let below = sym (c.child-below.ensures f e) in
    let none = neither (has NAME_OPT_SOME g) (has PARAM_ATTR_STAR_MORE g) (sym (c.has_more.ensures g below) ∙ c.if-not-has_more.true) in
    c.new.ensures ∙ sym (no_rows s a f ranged none.0 none.1)

pub loop-parameter-init : goal.loop-parameter-init
loop-parameter-init c = record {
  within = omega arith;
  so_far = λ s a x f e ranged. record { number-is = refl; same = c.new-all.ensures };
}

pub loop-parameter-preserved : goal.loop-parameter-preserved
loop-parameter-preserved c = record {
  within = (let w = c.loop-parameter.invariant.within in let n = c.saturating_add-number.ensures in omega (arith, w, n));
  so_far = λ s a x f e ranged.
      let i = c.loop-parameter.parameter-index in
      let found = c.as_slice-parameter-items.result.now in
      let below = c.child-below.ensures f e in
      let qs = parts (DEF_ARG ∷ []) (child (DEF_ARGS_OPT_SOME ∷ []) f) in
      let found_are = c.in_ok-parameters.ensures (child (DEF_ARGS_OPT_SOME ∷ []) f) (sym below) in
      let pieces : ArePieces c.child-below.result.now found qs = subst (λ xs. ArePieces c.child-below.result.now xs qs) (sym c.as_slice-parameter-items.ensures) found_are in
      let m = part_read c.child-below.result.now found qs i _ pieces c.loop-parameter-test.true in
      let many = as_many c.child-below.result.now found qs pieces in
      let low : i < length qs = omega (arith, many, c.loop-parameter-test.true) in
      let few = few_parameters s f ranged in
      let same = many_below qs in
      let read = c.loop-parameter.invariant.so_far s a x f e ranged in
      let before = read.number-is in
      let added = c.saturating_add-number.ensures in
      let number : c.saturating_add-number.result ≡ 1 + i = omega (arith, before, added, low, few, same) in
      let each = all_at (IsSought (IsInRange s) (DEF_ARG ∷ [])) qs i m.of (of_parts (IsInRange s) (DEF_ARG ∷ []) (child (DEF_ARGS_OPT_SOME ∷ []) f) (of_child (IsInRange s) (DEF_ARGS_OPT_SOME ∷ []) f ranged)) m.at in
      let range = subst (λ q. IsInRange s q m.of.below) (only DEF_ARG m.of.production each.0) each.1 in
      let row = c.in_ok-add_row.ensures s a x m.of.below [] (m.below ∙ sym c.nodes_of-of.ensures) (inr range) each.2 tt in
      let at = numbered_from 1 (parameters f) i m.of.below (below_at qs i m.of m.at) in
      record {
        number-is = (let t : 1 + i ≡ i + 1 = omega arith in number ∙ t);
        same = row ∙ ap (λ n. c.loop-parameter.all ++ rows_of s a [] (n, m.of.below)) number
            ∙ flat_next (rows_of s a []) (enumerate_from 1 (parameters f)) i (1 + i, m.of.below) [] c.loop-parameter.all at read.same;
      };
}

pub returns : goal.returns
returns c s a x f e ranged =
    let found = c.as_slice-parameter-items.result.now in
    let below = c.child-below.ensures f e in
    let qs = parts (DEF_ARG ∷ []) (child (DEF_ARGS_OPT_SOME ∷ []) f) in
    let pieces : ArePieces c.child-below.result.now found qs =
    subst (λ xs. ArePieces c.child-below.result.now xs qs) (sym c.as_slice-parameter-items.ensures) (c.in_ok-parameters.ensures (child (DEF_ARGS_OPT_SOME ∷ []) f) (sym below)) in
    let many = as_many c.child-below.result.now found qs pieces in
    let same = many_below qs in
    let n = many_numbered 1 (parameters f) in
    let over : length (enumerate_from 1 (parameters f)) ≤ c.loop-parameter.parameter-index = omega (arith, n, many, same, c.loop-parameter-test.false) in
    (c.loop-parameter.invariant.so_far s a x f e ranged).same
    ∙ ap (flat_map (rows_of s a [])) (take_all c.loop-parameter.parameter-index (enumerate_from 1 (parameters f)) over)
