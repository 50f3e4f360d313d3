use Rattle.std.proofs.Common.{◌≡◌, ◌++◌, ◌∙◌, ap, arith, subst, sym}
use Rattle.source_model.specs.Forest as tree
use Rattle.source_nodes.specs.Walk.{IsForest, is_of}
use Rattle.source_nodes.proofs.Collecting.{after_is, behind_is, is_branch}
use Rattle.source_syntax.proofs.NamingLemmas.{Names, names_end, names_go_in, names_start, names_take}
use Rattle.check_source.proofs.CensusLemmas.{count_of}
use Rattle.check_source.proofs.SomeNames.{all_found, fewer_after, fewer_behind, takes_one, tree_forest, tree_of}
use Rattle.check_source.proofs.declared_names.some_tokens.Goals as goal

pub loop-more-init : goal.loop-more-init
loop-more-init c = record {
  forest = c.requires;
  so_far = λ f e own. subst (Names c.args.naming f c.args.nodes.now) (sym c.new-found.ensures) (names_start c.args.naming f c.args.nodes.now e);
  enough = λ most. omega (arith, most);
}

pub split_at-requires : goal.split_at-requires
split_at-requires c = let lower = c.in-Some.ensures.lower in omega (arith, lower)

pub name_tokens-requires : goal.name_tokens-requires
name_tokens-requires c =
    let b = is_branch c.args.production c.in-Some.x.node (sym c.is_of.ensures ∙ c.if-is_of.true) in
    subst IsForest (sym c.split_at.ensures.front) (tree_forest c.loop-more.left.now c.in-Some.x c.args.production b.0 c.in-Some.ensures b.1 c.loop-more.invariant.forest)

pub loop-more-preserved-then-is_of : goal.loop-more-preserved-then-is_of
loop-more-preserved-then-is_of c =
    let p = c.args.production in
    let left = c.loop-more.left.now in
    let x = c.in-Some.x in
    let b = is_branch p x.node (sym c.is_of.ensures ∙ c.if-is_of.true) in
    let f = c.loop-more.invariant.forest in
    record {
      forest = after_is left x p b.0 c.in-Some.ensures b.1 f;
      so_far = λ g e own.
          names_take c.args.naming g left x c.loop-more.found c.append.new.self p b.0 c.in-Some.ensures b.1 own
          (λ h is. c.in_ok-append-in-Some.ensures.ok
          ∙ ap (λ ks. c.loop-more.found ++ ks) (takes_one c.args.naming p c.in_ok-here-in-Some.here h own
          (c.in_ok-here-in-Some.ensures (tree.branch p h tree.none) (tree_of left x p b.0 c.in-Some.ensures b.1 f h is ∙ sym c.split_at.ensures.front))))
          (c.loop-more.invariant.so_far g e own);
      enough = λ most.
          let before = c.loop-more.invariant.enough most in
          let fewer = fewer_after p left x b.0 c.in-Some.ensures b.1 f in
          omega (arith, before, fewer);
    }

pub loop-more-preserved : goal.loop-more-preserved
loop-more-preserved c =
    let p = c.args.production in
    let left = c.loop-more.left.now in
    let x = c.in-Some.x in
    let f = c.loop-more.invariant.forest in
    record {
      forest = behind_is left x c.in-Some.ensures f;
      so_far = λ g e own.
          names_go_in c.args.naming c.forests_join.ensures g left x c.loop-more.found c.in-Some.ensures
          (ap (λ q. is_of q x.node) (sym own) ∙ sym c.is_of.ensures ∙ c.if-is_of.false) (c.loop-more.invariant.so_far g e own);
      enough = λ most.
          let before = c.loop-more.invariant.enough most in
          let fewer = fewer_behind p left x c.forests_join.ensures c.in-Some.ensures f in
          omega (arith, before, fewer);
    }

pub returns-in-None : goal.returns-in-None
returns-in-None c f e own most = names_end c.args.naming f c.loop-more.left.now c.loop-more.found c.in-None.ensures (c.loop-more.invariant.so_far f e own)

pub returns : goal.returns
returns c f e own most =
    let left = c.loop-more.left.now in
    let enough = c.loop-more.invariant.enough most in
    let none : 0 ≡ count_of c.args.production left = omega (arith, enough, c.loop-more-test.false) in
    all_found c.args.naming f left c.loop-more.found (subst (λ q. 0 ≡ count_of q left) own none) (c.loop-more.invariant.so_far f e own)
