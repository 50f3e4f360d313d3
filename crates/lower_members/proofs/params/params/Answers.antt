use Rattle.std.proofs.Common.{◌≡◌, ◌≤◌, ◌<◌, ◌+◌, ◌++◌, ◌∷◌, [], ap, arith, inl, inr, length, refl, subst, sym, ◌∙◌, append-nil}
use Rattle.std.specs.Prelude.{slice_index_or}
use Rattle.std.specs.List.{enumerate_from, flat_map}
use Rattle.std.proofs.lemmas.List.{take_all}
use Rattle.ilasm_grammar.specs.declared.productions.TheConstants.{DEF_ARG, DEF_ARGS_OPT_SOME}
use Rattle.source_flags.specs.InRange.{IsInRange}
use Rattle.source_flags.proofs.Gathered.{IsSought, all_at, of_parts}
use Rattle.source_model.specs.Forest.{child, none, parts}
use Rattle.source_model.specs.Items.{items_and_ends, runs}
use Rattle.source_model.specs.Parameters.{parameters}
use Rattle.source_nodes.specs.Pieces.{ArePieces}
use Rattle.source_nodes.proofs.PieceLemmas.{as_many, flat_next, part_read}
use Rattle.source_syntax.proofs.ReferenceLemmas.{of_child}
use Rattle.lower_manifest.proofs.KeyLemmas.{only}
use Rattle.lower_members.specs.NumberedLines.{AreRuns, own_lines}
use Rattle.lower_members.specs.Parameters.{row_with}
use Rattle.lower_members.proofs.GenericLemmas.{below_at, many_below, many_numbered, numbered_from}
use Rattle.lower_members.proofs.ParamFlags.{few_parameters}
use Rattle.lower_members.proofs.ParamRows.{body_items, the_rows, within}
use Rattle.lower_members.proofs.params.params.Goals as goal

pub add_row-requires-in-loop-parameter-clause-forest : goal.add_row-requires-in-loop-parameter-clause-forest
add_row-requires-in-loop-parameter-clause-forest c =
    let found = c.as_slice-parameter-items.result.now in
    let f = c.requires.forest in
    let below = c.child-below.ensures f.0 f.1 in
    let qs = parts (DEF_ARG ∷ []) (child (DEF_ARGS_OPT_SOME ∷ []) f.0) in
    let are : ArePieces c.child-below.result.now found qs =
    subst (λ xs. ArePieces c.child-below.result.now xs qs) (sym c.as_slice-parameter-items.ensures) (c.in_ok-parameters.ensures (child (DEF_ARGS_OPT_SOME ∷ []) f.0) (sym below)) in
    let m = part_read c.child-below.result.now found qs c.loop-parameter.parameter-index _ are c.loop-parameter-test.true in
    (m.of.below, m.below ∙ sym c.nodes_of.ensures)

pub loop-parameter-init : goal.loop-parameter-init
loop-parameter-init c = record {
  within = omega arith;
  so_far = λ s a x f e ranged are.
      let ps = items_and_ends f in
      let below = c.child-below.ensures f e in
      let qs = parts (DEF_ARG ∷ []) (child (DEF_ARGS_OPT_SOME ∷ []) f) in
      let many = as_many c.child-below.result.now c.in_ok-parameters.parameters qs (c.in_ok-parameters.ensures (child (DEF_ARGS_OPT_SOME ∷ []) f) (sym below)) in
      let few = few_parameters s f ranged in
      let same = many_below qs in
      let counted = c.len.ensures in
      let numbered = c.in_ok-lines.ensures.numbered s x.reads ps are (body_items s f ranged) (omega (arith, many, few, same, counted)) in
      let own : c.as_slice-own.result.now ≡ slice_index_or c.in_ok-lines.lines.items 0 [] =
      c.as_slice-own.ensures ∙ c.index.ensures ∙ within c.in_ok-lines.lines.items 0 c.index.result.now (let all = c.in_ok-lines.ensures.lines.many in omega (arith, all)) in
      let rs = own_lines s 0 (runs ps) in
      let read = subst (λ xs. AreRuns s c.args.nodes.now xs rs) (sym own) (numbered.each 0 (omega arith)) in
      let row = c.in_ok-add_row.ensures s a x none rs refl (inl refl) tt read in
      record {
        number-is = refl;
        same = row ∙ ap (λ xs. xs ++ row_with s a 0 none rs) c.new-all.ensures ∙ sym (append-nil (row_with s a 0 none rs));
      };
}

pub loop-parameter-preserved : goal.loop-parameter-preserved
loop-parameter-preserved c = record {
  within = (let w = c.loop-parameter.invariant.within in let n = c.saturating_add-number.ensures in omega (arith, w, n));
  so_far = λ s a x f e ranged are.
      let ps = items_and_ends f in
      let i = c.loop-parameter.parameter-index in
      let found = c.as_slice-parameter-items.result.now in
      let below = c.child-below.ensures f e in
      let qs = parts (DEF_ARG ∷ []) (child (DEF_ARGS_OPT_SOME ∷ []) f) in
      let found_are = c.in_ok-parameters.ensures (child (DEF_ARGS_OPT_SOME ∷ []) f) (sym below) in
      let pieces : ArePieces c.child-below.result.now found qs = subst (λ xs. ArePieces c.child-below.result.now xs qs) (sym c.as_slice-parameter-items.ensures) found_are in
      let m = part_read c.child-below.result.now found qs i _ pieces c.loop-parameter-test.true in
      let many = as_many c.child-below.result.now found qs pieces in
      let many_too = as_many c.child-below.result.now c.in_ok-parameters.parameters qs found_are in
      let low : i < length qs = omega (arith, many, c.loop-parameter-test.true) in
      let few = few_parameters s f ranged in
      let same = many_below qs in
      let counted = c.len.ensures in
      let read = c.loop-parameter.invariant.so_far s a x f e ranged are in
      let before = read.number-is in
      let added = c.saturating_add-number.ensures in
      let number : c.saturating_add-number.result ≡ 1 + i = omega (arith, before, added, low, few, same) in
      let k = c.saturating_add-number.result in
      let numbered = c.in_ok-lines.ensures.numbered s x.reads ps are (body_items s f ranged) (omega (arith, many_too, few, same, counted)) in
      let own : c.as_slice-own-in-loop-parameter.result.now ≡ slice_index_or c.in_ok-lines.lines.items k [] =
      c.as_slice-own-in-loop-parameter.ensures ∙ c.index-in-loop-parameter.ensures
      ∙ within c.in_ok-lines.lines.items k c.index-in-loop-parameter.result.now (let all = c.in_ok-lines.ensures.lines.many in omega (arith, all, number, low, many_too, counted)) in
      let rs = own_lines s k (runs ps) in
      let lines = subst (λ xs. AreRuns s c.args.nodes.now xs rs) (sym own) (numbered.each k (omega (arith, number, low, many_too, counted))) in
      let each = all_at (IsSought (IsInRange s) (DEF_ARG ∷ [])) qs i m.of (of_parts (IsInRange s) (DEF_ARG ∷ []) (child (DEF_ARGS_OPT_SOME ∷ []) f) (of_child (IsInRange s) (DEF_ARGS_OPT_SOME ∷ []) f ranged)) m.at in
      let range = subst (λ q. IsInRange s q m.of.below) (only DEF_ARG m.of.production each.0) each.1 in
      let row = c.in_ok-add_row-2.ensures s a x m.of.below rs (m.below ∙ sym c.nodes_of.ensures) (inr range) each.2 lines in
      let at = numbered_from 1 (parameters f) i m.of.below (below_at qs i m.of m.at) in
      record {
        number-is = (let t : 1 + i ≡ i + 1 = omega arith in number ∙ t);
        same = row ∙ ap (λ n. c.loop-parameter.all ++ the_rows s a f (n, m.of.below)) number
            ∙ flat_next (the_rows s a f) (enumerate_from 1 (parameters f)) i (1 + i, m.of.below) (the_rows s a f (0, none)) c.loop-parameter.all at read.same;
      };
}

pub returns : goal.returns
returns c s a x f e ranged are =
    let found = c.as_slice-parameter-items.result.now in
    let below = c.child-below.ensures f e in
    let qs = parts (DEF_ARG ∷ []) (child (DEF_ARGS_OPT_SOME ∷ []) f) in
    let pieces : ArePieces c.child-below.result.now found qs =
    subst (λ xs. ArePieces c.child-below.result.now xs qs) (sym c.as_slice-parameter-items.ensures) (c.in_ok-parameters.ensures (child (DEF_ARGS_OPT_SOME ∷ []) f) (sym below)) in
    let many = as_many c.child-below.result.now found qs pieces in
    let same = many_below qs in
    let n = many_numbered 1 (parameters f) in
    let over : length (enumerate_from 1 (parameters f)) ≤ c.loop-parameter.parameter-index = omega (arith, n, many, same, c.loop-parameter-test.false) in
    (c.loop-parameter.invariant.so_far s a x f e ranged are).same
    ∙ ap (λ ys. the_rows s a f (0, none) ++ flat_map (the_rows s a f) ys) (take_all c.loop-parameter.parameter-index (enumerate_from 1 (parameters f)) over)
