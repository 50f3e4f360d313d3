use Rattle.std.proofs.Common.{◌<◌, ◌++◌, ◌∷◌, [], length, ap, sym, ◌∙◌, append_assoc, arith, rules}
use Rattle.source_model.specs.Clauses.{clause}
use Rattle.ilasm_grammar.specs.declared.productions.TheConstants.{ITEM_INSTRUCTION, ITEM_TRY}
use Rattle.source_nodes.specs.Walk.{IsForest}
use Rattle.source_nodes.proofs.Collecting.{after_is, behind_is, below_is, is_branch}
use Rattle.lower_bodies.proofs.ClauseLemmas.{clauses_in, guarded_by, pushed_clause, pushed_end, pushed_other, pushed_past, pushed_start, pushed_try}
use Rattle.lower_bodies.proofs.clauses.+push_clauses.Goals as goal

pub loop-x-init : goal.loop-x-init
loop-x-init t c = record {
  forest = c.requires.nodes;
  shorter = omega arith;
  so_far = λ s a f u g x et ht eg hg. pushed_start s a f u g c.args.found.now c.args.nodes.now eg hg;
}

pub push_clauses-requires : goal.push_clauses-requires
push_clauses-requires t c =
    let b = is_branch ITEM_TRY c.in-Some.x.node (sym c.is_of.ensures ∙ c.if-is_of.true) in
    let below : IsForest c.in-Some.x.below.now = below_is c.loop-x.left.now c.in-Some.x ITEM_TRY b.0 c.in-Some.ensures b.1 c.loop-x.invariant.forest in
    let falls : length c.in-Some.x.below.now < t = omega (arith, c.in-Some.ensures.lower, c.loop-x.invariant.shorter, c.decreases) in
    search rules

pub loop-x-preserved-then-is_of : goal.loop-x-preserved-then-is_of
loop-x-preserved-then-is_of t c =
    let left = c.loop-x.left.now in
    let x = c.in-Some.x in
    let b = is_branch ITEM_TRY x.node (sym c.is_of.ensures ∙ c.if-is_of.true) in
    record {
      forest = after_is left x ITEM_TRY b.0 c.in-Some.ensures b.1 c.loop-x.invariant.forest;
      shorter = omega (arith, c.in-Some.ensures.later, c.loop-x.invariant.shorter);
      so_far = λ s a f u g within et ht eg hg.
          pushed_try s a f u g c.args.found.now left x c.loop-x.found c.push_clauses.new.found b.0 c.in-Some.ensures b.1
          (λ d e h. c.in_ok-push_clauses.ensures s a f d d within e h e h) (c.loop-x.invariant.so_far s a f u g within et ht eg hg);
    }

pub loop-x-preserved-then-is_of-2 : goal.loop-x-preserved-then-is_of-2
loop-x-preserved-then-is_of-2 t c =
    let left = c.loop-x.left.now in
    let x = c.in-Some.x in
    let b = is_branch ITEM_INSTRUCTION x.node (sym c.is_of-else-is_of.ensures ∙ c.if-is_of-2.true) in
    record {
      forest = after_is left x ITEM_INSTRUCTION b.0 c.in-Some.ensures b.1 c.loop-x.invariant.forest;
      shorter = omega (arith, c.in-Some.ensures.later, c.loop-x.invariant.shorter);
      so_far = λ s a f u g within et ht eg hg.
          pushed_past s a f u g c.args.found.now left x c.loop-x.found b.0 c.in-Some.ensures b.1 (c.loop-x.invariant.so_far s a f u g within et ht eg hg);
    }

pub push_clauses-requires-in-Some-clause_form : goal.push_clauses-requires-in-Some-clause_form
push_clauses-requires-in-Some-clause_form t c =
    let k = c.in-Some-clause_form.ensures in
    let outer : IsForest c.args.tried.now = c.requires.tried in
    let below : IsForest c.in-Some.x.below.now =
    below_is c.loop-x.left.now c.in-Some.x c.in-Some-clause_form.production k.count c.in-Some.ensures k.is c.loop-x.invariant.forest in
    let falls : length c.in-Some.x.below.now < t = omega (arith, c.in-Some.ensures.lower, c.loop-x.invariant.shorter, c.decreases) in
    search rules

pub clause-requires-clause-below : goal.clause-requires-clause-below
clause-requires-clause-below t c =
    let k = c.in-Some-clause_form.ensures in
    below_is c.loop-x.left.now c.in-Some.x c.in-Some-clause_form.production k.count c.in-Some.ensures k.is c.loop-x.invariant.forest

pub loop-x-preserved-in-Some-clause_form : goal.loop-x-preserved-in-Some-clause_form
loop-x-preserved-in-Some-clause_form t c =
    let left = c.loop-x.left.now in
    let x = c.in-Some.x in
    let p = c.in-Some-clause_form.production in
    let k = c.in-Some-clause_form.ensures in
    record {
      forest = after_is left x p k.count c.in-Some.ensures k.is c.loop-x.invariant.forest;
      shorter = omega (arith, c.in-Some.ensures.later, c.loop-x.invariant.shorter);
      so_far = λ s a f u g within et ht eg hg.
          pushed_clause s a f u g c.args.found.now left x c.loop-x.found c.push.new.self p k.count c.in-Some.ensures k.is k.among
          (λ d e h.
          c.in_ok-push.ensures.ok
          ∙ ap (λ cs. cs ++ c.in_ok-one.one ∷ []) (c.in_ok-push_clauses-2.ensures s a f u d within et ht e h)
          ∙ ap (λ one. (c.loop-x.found ++ clauses_in s a f u g c.args.found.now u d) ++ one ∷ []) (c.in_ok-one.ensures s a f u d within et ht e h)
          ∙ append_assoc c.loop-x.found (clauses_in s a f u g c.args.found.now u d) (clause s a f (guarded_by u p d) ∷ []))
          (c.loop-x.invariant.so_far s a f u g within et ht eg hg);
    }

pub loop-x-preserved : goal.loop-x-preserved
loop-x-preserved t c =
    let left = c.loop-x.left.now in
    let x = c.in-Some.x in
    record {
      forest = behind_is left x c.in-Some.ensures c.loop-x.invariant.forest;
      shorter = omega (arith, c.in-Some.ensures.fewer, c.loop-x.invariant.shorter);
      so_far = λ s a f u g within et ht eg hg.
          pushed_other s a f u g c.args.found.now left x c.loop-x.found c.in-Some.ensures (sym c.is_of.ensures ∙ c.if-is_of.false) c.in_default-clause_form.ensures
          (c.loop-x.invariant.so_far s a f u g within et ht eg hg);
    }

pub returns : goal.returns
returns t c s a f u g within et ht eg hg =
    pushed_end s a f u g c.args.found.now c.loop-x.left.now c.loop-x.found c.in_default.ensures (c.loop-x.invariant.so_far s a f u g within et ht eg hg)
