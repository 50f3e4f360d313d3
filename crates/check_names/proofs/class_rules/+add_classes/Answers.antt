use Rattle.std.proofs.Common.{◌≡◌, ◌<◌, ◌∷◌, ◌++◌, [], ◌∙◌, length, ap, sym, subst, arith, rules}
use Rattle.std.specs.Prelude.{true, false, ◌==◌}
use Rattle.ilasm_grammar.specs.declared.productions.TheConstants.{CLASS}
use Rattle.il_lexer.specs.declared.types.TokenKind.TheVariants as kind
use Rattle.source_model.specs.Nodes.{type_id}
use Rattle.source_syntax.specs.ClassNumbers.{IsNumber}
use Rattle.source_nodes.specs.Least.{sooner}
use Rattle.source_nodes.specs.Readers.{IsOf}
use Rattle.source_nodes.specs.Walk.{IsForest}
use Rattle.check_visitor.proofs.AskingLemmas.{below_shorter, next_shorter, rest_shorter}
use Rattle.check_names.proofs.ClassWalks.{Adding, adding_class, adding_end, adding_leaf, adding_method, adding_other, adding_start, forest_behind}
use Rattle.source_syntax.proofs.NameTokens.{class_is_name}
use Rattle.check_names.proofs.class_rules.+add_classes.Goals as goal

pub loop-node-init : goal.loop-node-init
loop-node-init t c = record {
  forest = c.requires.forest;
  shorter = omega arith;
  kept = λ path n at. at;
  so_far = λ s path f seen r e h at knows. adding_start c.forests_open.ensures c.forests_join.ensures s path f seen c.args.nodes.now c.args.paths.now e h knows;
}

pub split_at-requires : goal.split_at-requires
split_at-requires t c =
    let f = c.loop-node.invariant.forest in
    (c.forests_open.ensures.branch f.0 c.in-Branch.production c.in-Branch.count c.in-Some.rest.now
    (f.1 ∙ c.in-Some.ensures ∙ ap (λ n. n ∷ c.in-Some.rest.now) c.in-Branch.is)).within

pub leaf_at-requires : goal.leaf_at-requires
leaf_at-requires t c =
    let f = c.loop-node.invariant.forest in
    let b = c.forests_open.ensures.branch f.0 c.in-Branch.production c.in-Branch.count c.in-Some.rest.now
    (f.1 ∙ c.in-Some.ensures ∙ ap (λ n. n ∷ c.in-Some.rest.now) c.in-Branch.is) in
    (b.below, b.inner ∙ sym c.split_at.ensures.front)

pub enter-requires : goal.enter-requires
enter-requires t c = (c.requires.within.0, c.loop-node.invariant.kept c.requires.within.0 c.args.outer c.requires.within.1)

pub loop-node-preserved : goal.loop-node-preserved
loop-node-preserved t c =
    let is = c.in-Some.ensures ∙ ap (λ n. n ∷ c.in-Some.rest.now) c.in-Leaf.is in
    let f = c.loop-node.invariant.forest in
    let b = c.forests_open.ensures.leaf f.0 c.in-Leaf.token c.in-Some.rest.now (f.1 ∙ is) in
    record {
      forest = (b.after, b.rest);
      shorter = next_shorter c.loop-node.left.now c.in-Some.rest.now c.args.nodes.now c.in-Some.node c.in-Some.ensures c.loop-node.invariant.shorter;
      kept = c.loop-node.invariant.kept;
      so_far = λ s path g seen r e h at knows.
          adding_leaf c.forests_open.ensures c.forests_join.ensures s path g seen c.in-Leaf.token c.loop-node.left.now c.in-Some.rest.now c.loop-node.paths c.loop-node.found is
          (c.loop-node.invariant.so_far s path g seen r e h at knows);
    }

pub add_classes-requires : goal.add_classes-requires
add_classes-requires t c =
    let is = c.in-Some.ensures ∙ ap (λ n. n ∷ c.in-Some.rest.now) c.in-Branch.is in
    let f = c.loop-node.invariant.forest in
    let b = c.forests_open.ensures.branch f.0 c.in-Branch.production c.in-Branch.count c.in-Some.rest.now (f.1 ∙ is) in
    let falls : length c.split_at.result.0.now < t =
    below_shorter c.in-Branch.production c.in-Branch.count c.loop-node.left.now c.in-Some.rest.now c.args.nodes.now c.split_at.result.0.now t is
    c.split_at.ensures.front c.loop-node.invariant.shorter c.decreases in
    let forest : IsForest c.split_at.result.0.now = (b.below, b.inner ∙ sym c.split_at.ensures.front) in
    let number : IsNumber c.enter.new.paths c.in_ok-class-in-Branch.class.number = c.in_ok-class-in-Branch.ensures.number in
    search rules

pub loop-node-preserved-then-production-eq-CLASS : goal.loop-node-preserved-then-production-eq-CLASS
loop-node-preserved-then-production-eq-CLASS t c =
    let p = c.in-Branch.production in
    let count = c.in-Branch.count in
    let left = c.loop-node.left.now in
    let rest = c.in-Some.rest.now in
    let class = c.in_ok-class-in-Branch.class in
    let inner = c.in_ok-within-in-Branch.within in
    let token = c.leaf_at.result in
    let is = c.in-Some.ensures ∙ ap (λ n. n ∷ rest) c.in-Branch.is in
    let own : (p == CLASS) ≡ true = grind arith in
    let same : p ≡ CLASS = c.if-production-eq-CLASS.true in
    let f = c.loop-node.invariant.forest in
    let b = c.forests_open.ensures.branch f.0 p count rest (f.1 ∙ is) in
    let sum = c.sooner-found.ensures ∙ ap (sooner c.loop-node.found) c.sooner.ensures in
    record {
      forest = (b.after, b.rest ∙ sym c.split_at.ensures.back);
      shorter = rest_shorter p count left rest c.args.nodes.now c.split_at.result.1.now is c.split_at.ensures.back c.loop-node.invariant.shorter;
      kept = λ path n at. c.in_ok-within-in-Branch.ensures.kept path n (c.in_ok-class-in-Branch.ensures.kept path n (c.loop-node.invariant.kept path n at));
      so_far = λ s path g seen r e h at knows.
          subst (λ ns. Adding s path g seen ns c.add_classes.new.paths c.sooner-found.result) (sym c.split_at.ensures.back)
          (adding_class c.forests_open.ensures c.forests_join.ensures s path g seen p count token left rest c.loop-node.paths c.enter.new.paths c.add_classes.new.paths
          c.loop-node.found c.sooner-found.result class inner is own
          (λ before d known i fits bodies.
          let below = i ∙ sym c.split_at.ensures.front in
          let at_class = c.leaf_at.ensures d below in
          let named = subst (IsOf s kind.Name) (sym at_class) (class_is_name s p d same fits) in
          let entered = c.in_ok-class-in-Branch.ensures.entered s path before r named (c.loop-node.invariant.kept path c.args.outer at) known in
          record {
            token-is = at_class;
            entered = entered;
            added = c.in_ok-within-in-Branch.ensures.added s (path ++ type_id s token ∷ []) d (before ++ (path ++ type_id s token ∷ []) ∷ []) r below bodies
                entered.numbered entered.knows;
          }) sum (c.loop-node.invariant.so_far s path g seen r e h at knows));
    }

pub loop-node-preserved-then-production-eq-METHOD : goal.loop-node-preserved-then-production-eq-METHOD
loop-node-preserved-then-production-eq-METHOD t c =
    let p = c.in-Branch.production in
    let count = c.in-Branch.count in
    let left = c.loop-node.left.now in
    let rest = c.in-Some.rest.now in
    let is = c.in-Some.ensures ∙ ap (λ n. n ∷ rest) c.in-Branch.is in
    let f = c.loop-node.invariant.forest in
    let b = c.forests_open.ensures.branch f.0 p count rest (f.1 ∙ is) in
    record {
      forest = (b.after, b.rest ∙ sym c.split_at.ensures.back);
      shorter = rest_shorter p count left rest c.args.nodes.now c.split_at.result.1.now is c.split_at.ensures.back c.loop-node.invariant.shorter;
      kept = c.loop-node.invariant.kept;
      so_far = λ s path g seen r e h at knows.
          subst (λ ns. Adding s path g seen ns c.loop-node.paths c.loop-node.found) (sym c.split_at.ensures.back)
          (adding_method c.forests_open.ensures c.forests_join.ensures s path g seen p count left rest c.loop-node.paths c.loop-node.found is
          c.if-production-eq-METHOD.true (c.loop-node.invariant.so_far s path g seen r e h at knows));
    }

pub loop-node-preserved-else-production-eq-METHOD : goal.loop-node-preserved-else-production-eq-METHOD
loop-node-preserved-else-production-eq-METHOD t c =
    let p = c.in-Branch.production in
    let is = c.in-Some.ensures ∙ ap (λ n. n ∷ c.in-Some.rest.now) c.in-Branch.is in
    let other : (p == CLASS) ≡ false = grind arith in
    record {
      forest = forest_behind c.forests_open.ensures c.forests_join.ensures p c.in-Branch.count c.loop-node.left.now c.in-Some.rest.now is c.loop-node.invariant.forest;
      shorter = next_shorter c.loop-node.left.now c.in-Some.rest.now c.args.nodes.now c.in-Some.node c.in-Some.ensures c.loop-node.invariant.shorter;
      kept = c.loop-node.invariant.kept;
      so_far = λ s path g seen r e h at knows.
          adding_other c.forests_open.ensures c.forests_join.ensures s path g seen p c.in-Branch.count c.loop-node.left.now c.in-Some.rest.now c.loop-node.paths
          c.loop-node.found is other (c.loop-node.invariant.so_far s path g seen r e h at knows);
    }

pub returns-clause-added : goal.returns-clause-added
returns-clause-added t c s path f seen r e h at knows =
    adding_end c.forests_open.ensures c.forests_join.ensures s path f seen c.loop-node.left.now c.loop-node.paths c.loop-node.found c.in_default.ensures
    (c.loop-node.invariant.so_far s path f seen r e h at knows)
