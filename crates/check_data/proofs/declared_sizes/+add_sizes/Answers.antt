use Rattle.std.proofs.Common.{◌≡◌, ◌<◌, ◌∷◌, ◌++◌, [], ◌∙◌, Some, append_assoc, length, ap, sym, subst, arith, rules}
use Rattle.std.specs.Prelude.{true, false, ◌==◌}
use Rattle.ilasm_grammar.specs.declared.productions.TheConstants.{CLASS}
use Rattle.il_lexer.specs.declared.types.TokenKind.TheVariants as kind
use Rattle.source_model.specs.Nodes.{class_token, type_id}
use Rattle.source_syntax.specs.ClassNumbers.{class_in, class_numbered}
use Rattle.source_syntax.specs.Nested.{onward}
use Rattle.source_nodes.specs.Readers.{IsOf}
use Rattle.source_nodes.specs.Walk.{IsForest}
use Rattle.source_syntax.proofs.NameTokens.{class_is_name}
use Rattle.check_visitor.proofs.AskingLemmas.{below_shorter, next_shorter, rest_shorter}
use Rattle.check_names.specs.DeclaredClasses.{inner_path}
use Rattle.check_names.proofs.ClassWalks.{forest_behind}
use Rattle.check_data.specs.DeclaredSizes.{AreFilled, filled, size_list}
use Rattle.check_data.proofs.SizeWalks.{Filling, filling_class, filling_end, filling_leaf, filling_other, filling_start, first_known, inner_number, one_filled, size_of}
use Rattle.check_data.proofs.declared_sizes.+add_sizes.Goals as goal

pub loop-node-init : goal.loop-node-init
loop-node-init t c = record {
  forest = c.requires;
  shorter = omega arith;
  so_far = λ s path f seen r e h at known all.
      filling_start c.forests_open.ensures c.forests_join.ensures c.args.classes.now s path f seen c.args.nodes.now c.args.sizes.now e h known all;
}

pub split_at-requires : goal.split_at-requires
split_at-requires t c =
    let f = c.loop-node.invariant.forest in
    (c.forests_open.ensures.branch f.0 c.in-Branch.production c.in-Branch.count c.in-Some.rest.now
    (f.1 ∙ c.in-Some.ensures ∙ ap (λ n. n ∷ c.in-Some.rest.now) c.in-Branch.is)).within

pub leaf_at-requires : goal.leaf_at-requires
leaf_at-requires t c =
    let f = c.loop-node.invariant.forest in
    let b = c.forests_open.ensures.branch f.0 c.in-Branch.production c.in-Branch.count c.in-Some.rest.now
    (f.1 ∙ c.in-Some.ensures ∙ ap (λ n. n ∷ c.in-Some.rest.now) c.in-Branch.is) in
    (b.below, b.inner ∙ sym c.split_at.ensures.front)

pub class_size-requires : goal.class_size-requires
class_size-requires t c =
    let f = c.loop-node.invariant.forest in
    let b = c.forests_open.ensures.branch f.0 c.in-Branch.production c.in-Branch.count c.in-Some.rest.now
    (f.1 ∙ c.in-Some.ensures ∙ ap (λ n. n ∷ c.in-Some.rest.now) c.in-Branch.is) in
    (b.below, b.inner ∙ sym c.split_at.ensures.front)

pub add_sizes-requires : goal.add_sizes-requires
add_sizes-requires t c =
    let is = c.in-Some.ensures ∙ ap (λ n. n ∷ c.in-Some.rest.now) c.in-Branch.is in
    let f = c.loop-node.invariant.forest in
    let b = c.forests_open.ensures.branch f.0 c.in-Branch.production c.in-Branch.count c.in-Some.rest.now (f.1 ∙ is) in
    let falls : length c.split_at.result.0.now < t =
    below_shorter c.in-Branch.production c.in-Branch.count c.loop-node.left.now c.in-Some.rest.now c.args.nodes.now c.split_at.result.0.now t is
    c.split_at.ensures.front c.loop-node.invariant.shorter c.decreases in
    let forest : IsForest c.split_at.result.0.now = (b.below, b.inner ∙ sym c.split_at.ensures.front) in
    search rules

pub loop-node-preserved : goal.loop-node-preserved
loop-node-preserved t c =
    let is = c.in-Some.ensures ∙ ap (λ n. n ∷ c.in-Some.rest.now) c.in-Leaf.is in
    let f = c.loop-node.invariant.forest in
    let b = c.forests_open.ensures.leaf f.0 c.in-Leaf.token c.in-Some.rest.now (f.1 ∙ is) in
    record {
      forest = (b.after, b.rest);
      shorter = next_shorter c.loop-node.left.now c.in-Some.rest.now c.args.nodes.now c.in-Some.node c.in-Some.ensures c.loop-node.invariant.shorter;
      so_far = λ s path g seen r e h at known all.
          filling_leaf c.forests_open.ensures c.forests_join.ensures c.args.classes.now s path g seen c.in-Leaf.token c.loop-node.left.now c.in-Some.rest.now c.loop-node.sizes is
          (c.loop-node.invariant.so_far s path g seen r e h at known all);
    }

pub loop-node-preserved-in-Some-2 : goal.loop-node-preserved-in-Some-2
loop-node-preserved-in-Some-2 t c =
    let p = c.in-Branch.production in
    let count = c.in-Branch.count in
    let left = c.loop-node.left.now in
    let rest = c.in-Some.rest.now in
    let cs = c.args.classes.now in
    let token = c.leaf_at.result in
    let number = c.in-Some-2.number in
    let is = c.in-Some.ensures ∙ ap (λ n. n ∷ rest) c.in-Branch.is in
    let own : (p == CLASS) ≡ true = grind arith in
    let same : p ≡ CLASS = c.if-production-eq-CLASS.true in
    let f = c.loop-node.invariant.forest in
    let b = c.forests_open.ensures.branch f.0 p count rest (f.1 ∙ is) in
    record {
      forest = (b.after, b.rest ∙ sym c.split_at.ensures.back);
      shorter = rest_shorter p count left rest c.args.nodes.now c.split_at.result.1.now is c.split_at.ensures.back c.loop-node.invariant.shorter;
      so_far = λ s path g seen r e h at known all.
          subst (λ ns. Filling cs s path g seen ns c.add_sizes.new.sizes) (sym c.split_at.ensures.back)
          (filling_class c.forests_open.ensures c.forests_join.ensures cs s path g seen p count left rest c.loop-node.sizes c.add_sizes.new.sizes is own
          (λ before d filled_before i fits bodies known_here.
          let below = i ∙ sym c.split_at.ensures.front in
          let at_class = c.leaf_at.ensures d below in
          let named = subst (IsOf s kind.Name) (sym at_class) (class_is_name s p d same fits) in
          let child : class_in cs (type_id s (class_token d)) c.args.outer ≡ Some number =
          ap (λ k. class_in cs (type_id s k) c.args.outer) (sym at_class) ∙ sym (c.in_ok-number-in-Branch.ensures.number s r named) ∙ c.in-Some-2.is in
          let led : class_numbered cs (inner_path s path d) ≡ Some number =
          inner_number cs path c.args.outer (type_id s (class_token d)) at ∙ ap (onward (λ k. Some k)) child in
          let one = one_filled cs c.loop-node.sizes before (size_of s path d) number c.in_ok-number-in-Branch.ensures.nested led filled_before in
          let entered = subst (λ x. AreFilled cs x (before ++ size_of s path d ∷ []))
          (ap (filled c.loop-node.sizes number) (sym (c.class_size.ensures s d r below)) ∙ sym c.enter.ensures) one in
          subst (AreFilled cs c.add_sizes.new.sizes) (append_assoc before (size_of s path d ∷ []) (size_list s (inner_path s path d) d))
          (c.in_ok-add_sizes-in-Some-2.ensures s (inner_path s path d) d (before ++ size_of s path d ∷ []) r below bodies led known_here.1 entered))
          (c.loop-node.invariant.so_far s path g seen r e h at known all));
    }

pub loop-node-preserved-in-None : goal.loop-node-preserved-in-None
loop-node-preserved-in-None t c =
    let p = c.in-Branch.production in
    let count = c.in-Branch.count in
    let left = c.loop-node.left.now in
    let rest = c.in-Some.rest.now in
    let cs = c.args.classes.now in
    let is = c.in-Some.ensures ∙ ap (λ n. n ∷ rest) c.in-Branch.is in
    let own : (p == CLASS) ≡ true = grind arith in
    let same : p ≡ CLASS = c.if-production-eq-CLASS.true in
    let f = c.loop-node.invariant.forest in
    let b = c.forests_open.ensures.branch f.0 p count rest (f.1 ∙ is) in
    record {
      forest = (b.after, b.rest ∙ sym c.split_at.ensures.back);
      shorter = rest_shorter p count left rest c.args.nodes.now c.split_at.result.1.now is c.split_at.ensures.back c.loop-node.invariant.shorter;
      so_far = λ s path g seen r e h at known all.
          let d = first_known c.forests_open.ensures c.forests_join.ensures cs s path g seen p count left rest c.loop-node.sizes is own
          (c.loop-node.invariant.so_far s path g seen r e h at known all) in
          let at_class = c.leaf_at.ensures d.0 (d.1 ∙ sym c.split_at.ensures.front) in
          let named = subst (IsOf s kind.Name) (sym at_class) (class_is_name s p d.0 same d.2) in
          let child = ap (λ k. class_in cs (type_id s k) c.args.outer) (sym at_class) ∙ sym (c.in_ok-number-in-Branch.ensures.number s r named) ∙ c.in-None.is in
          let none = sym (inner_number cs path c.args.outer (type_id s (class_token d.0)) at ∙ ap (onward (λ k. Some k)) child) ∙ d.4 in
          absurd cc;
    }

pub loop-node-preserved-else-production-eq-CLASS : goal.loop-node-preserved-else-production-eq-CLASS
loop-node-preserved-else-production-eq-CLASS t c =
    let p = c.in-Branch.production in
    let is = c.in-Some.ensures ∙ ap (λ n. n ∷ c.in-Some.rest.now) c.in-Branch.is in
    let other : (p == CLASS) ≡ false = grind arith in
    record {
      forest = forest_behind c.forests_open.ensures c.forests_join.ensures p c.in-Branch.count c.loop-node.left.now c.in-Some.rest.now is c.loop-node.invariant.forest;
      shorter = next_shorter c.loop-node.left.now c.in-Some.rest.now c.args.nodes.now c.in-Some.node c.in-Some.ensures c.loop-node.invariant.shorter;
      so_far = λ s path g seen r e h at known all.
          filling_other c.forests_open.ensures c.forests_join.ensures c.args.classes.now s path g seen p c.in-Branch.count c.loop-node.left.now c.in-Some.rest.now
          c.loop-node.sizes is other (c.loop-node.invariant.so_far s path g seen r e h at known all);
    }

pub returns : goal.returns
returns t c s path f seen r e h at known all =
    filling_end c.forests_open.ensures c.forests_join.ensures c.args.classes.now s path f seen c.loop-node.left.now c.loop-node.sizes c.in_default.ensures
    (c.loop-node.invariant.so_far s path f seen r e h at known all)
