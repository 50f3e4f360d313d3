use Rattle.std.proofs.Common.{◌≡◌, ◌<◌, ◌∷◌, ◌∙◌, None, length, ap, sym, subst, arith, rules}
use Rattle.std.specs.Prelude.{true, false, ◌==◌}
use Rattle.ilasm_grammar.specs.declared.productions.TheConstants.{CLASS}
use Rattle.source_model.specs.Items.{members}
use Rattle.source_nodes.specs.Least.{sooner}
use Rattle.source_nodes.specs.Walk.{IsForest}
use Rattle.check_names.specs.DeclaredClasses.{inner_path}
use Rattle.check_visitor.proofs.AskingLemmas.{below_shorter, next_shorter, nothing_more, rest_shorter}
use Rattle.check_names.proofs.ClassWalks.{forest_behind}
use Rattle.check_members.specs.MemberKinds.{class_around}
use Rattle.check_members.proofs.LoneLemmas.{none_twice}
use Rattle.check_members.proofs.WithinLemmas.{Walked, inner_deeper, walked_class, walked_end, walked_leaf, walked_method, walked_other, walked_start}
use Rattle.check_members.proofs.member_reading.Signatures.+again_within.Goals as goal

pub loop-node-init : goal.loop-node-init
loop-node-init g t c = record {
  forest = c.requires;
  shorter = omega arith;
  so_far = λ s path f v r d e h. walked_start s path f c.args.nodes.now e h;
}

pub split_at-requires : goal.split_at-requires
split_at-requires g t c =
    let f = c.loop-node.invariant.forest in
    (c.forests_open.ensures.branch f.0 c.in-Branch.production c.in-Branch.count c.in-Some.rest.now
    (f.1 ∙ c.in-Some.ensures ∙ ap (λ n. n ∷ c.in-Some.rest.now) c.in-Branch.is)).within

pub are_lone-requires : goal.are_lone-requires
are_lone-requires g t c =
    let f = c.loop-node.invariant.forest in
    let b = c.forests_open.ensures.branch f.0 c.in-Branch.production c.in-Branch.count c.in-Some.rest.now
    (f.1 ∙ c.in-Some.ensures ∙ ap (λ n. n ∷ c.in-Some.rest.now) c.in-Branch.is) in
    (b.below, b.inner ∙ sym c.split_at.ensures.front)

pub again_in_class-requires-clause-forest : goal.again_in_class-requires-clause-forest
again_in_class-requires-clause-forest g t c =
    let f = c.loop-node.invariant.forest in
    let b = c.forests_open.ensures.branch f.0 c.in-Branch.production c.in-Branch.count c.in-Some.rest.now
    (f.1 ∙ c.in-Some.ensures ∙ ap (λ n. n ∷ c.in-Some.rest.now) c.in-Branch.is) in
    (b.below, b.inner ∙ sym c.split_at.ensures.front)

pub again_within-requires : goal.again_within-requires
again_within-requires g t c κs within =
    let is = c.in-Some.ensures ∙ ap (λ n. n ∷ c.in-Some.rest.now) c.in-Branch.is in
    let f = c.loop-node.invariant.forest in
    let b = c.forests_open.ensures.branch f.0 c.in-Branch.production c.in-Branch.count c.in-Some.rest.now (f.1 ∙ is) in
    let falls : length c.split_at.result.0.now < t =
    below_shorter c.in-Branch.production c.in-Branch.count c.loop-node.left.now c.in-Some.rest.now c.args.nodes.now c.split_at.result.0.now t is
    c.split_at.ensures.front c.loop-node.invariant.shorter c.decreases in
    let forest : IsForest c.split_at.result.0.now = (b.below, b.inner ∙ sym c.split_at.ensures.front) in
    search rules

pub loop-node-preserved : goal.loop-node-preserved
loop-node-preserved g t c =
    let is = c.in-Some.ensures ∙ ap (λ n. n ∷ c.in-Some.rest.now) c.in-Leaf.is in
    let f = c.loop-node.invariant.forest in
    let b = c.forests_open.ensures.leaf f.0 c.in-Leaf.token c.in-Some.rest.now (f.1 ∙ is) in
    record {
      forest = (b.after, b.rest);
      shorter = next_shorter c.loop-node.left.now c.in-Some.rest.now c.args.nodes.now c.in-Some.node c.in-Some.ensures c.loop-node.invariant.shorter;
      so_far = λ s path f' v r d e h.
          walked_leaf s path c.forests_open.ensures f' c.loop-node.left.now c.in-Some.rest.now c.loop-node.found (c.loop-node.invariant.so_far s path f' v r d e h)
          c.in-Leaf.token is;
    }

pub loop-node-preserved-else-production-eq-METHOD : goal.loop-node-preserved-else-production-eq-METHOD
loop-node-preserved-else-production-eq-METHOD g t c =
    let p = c.in-Branch.production in
    let is = c.in-Some.ensures ∙ ap (λ n. n ∷ c.in-Some.rest.now) c.in-Branch.is in
    let other : (p == CLASS) ≡ false = grind arith in
    record {
      forest = forest_behind c.forests_open.ensures c.forests_join.ensures p c.in-Branch.count c.loop-node.left.now c.in-Some.rest.now is c.loop-node.invariant.forest;
      shorter = next_shorter c.loop-node.left.now c.in-Some.rest.now c.args.nodes.now c.in-Some.node c.in-Some.ensures c.loop-node.invariant.shorter;
      so_far = λ s path f v r d e h.
          walked_other s path c.forests_open.ensures f c.loop-node.left.now c.in-Some.rest.now c.loop-node.found (c.loop-node.invariant.so_far s path f v r d e h)
          p c.in-Branch.count is c.forests_join.ensures other;
    }

pub loop-node-preserved-then-production-eq-METHOD : goal.loop-node-preserved-then-production-eq-METHOD
loop-node-preserved-then-production-eq-METHOD g t c =
    let p = c.in-Branch.production in
    let count = c.in-Branch.count in
    let left = c.loop-node.left.now in
    let rest = c.in-Some.rest.now in
    let is = c.in-Some.ensures ∙ ap (λ n. n ∷ rest) c.in-Branch.is in
    let f = c.loop-node.invariant.forest in
    let b = c.forests_open.ensures.branch f.0 p count rest (f.1 ∙ is) in
    record {
      forest = (b.after, b.rest ∙ sym c.split_at.ensures.back);
      shorter = rest_shorter p count left rest c.args.nodes.now c.split_at.result.1.now is c.split_at.ensures.back c.loop-node.invariant.shorter;
      so_far = λ s path f' v r d e h.
          subst (λ ns. Walked s path f' ns c.loop-node.found) (sym c.split_at.ensures.back)
          (walked_method s path c.forests_open.ensures f' left rest c.loop-node.found (c.loop-node.invariant.so_far s path f' v r d e h) p count is
          c.if-production-eq-METHOD.true);
    }

pub loop-node-preserved-then-not-are_lone : goal.loop-node-preserved-then-not-are_lone
loop-node-preserved-then-not-are_lone g t c =
    let p = c.in-Branch.production in
    let count = c.in-Branch.count in
    let left = c.loop-node.left.now in
    let rest = c.in-Some.rest.now in
    let is = c.in-Some.ensures ∙ ap (λ n. n ∷ rest) c.in-Branch.is in
    let own : (p == CLASS) ≡ true = grind arith in
    let f = c.loop-node.invariant.forest in
    let b = c.forests_open.ensures.branch f.0 p count rest (f.1 ∙ is) in
    let sum = c.sooner-found.ensures ∙ ap (sooner c.loop-node.found) c.sooner.ensures in
    record {
      forest = (b.after, b.rest ∙ sym c.split_at.ensures.back);
      shorter = rest_shorter p count left rest c.args.nodes.now c.split_at.result.1.now is c.split_at.ensures.back c.loop-node.invariant.shorter;
      so_far = λ s path f' v r d e h.
          subst (λ ns. Walked s path f' ns c.sooner-found.result) (sym c.split_at.ensures.back)
          (walked_class s path c.forests_open.ensures f' left rest c.loop-node.found (c.loop-node.invariant.so_far s path f' v r d e h) p count is
          c.in_ok-here-in-Branch.here c.in_ok-within-in-Branch.within c.sooner-found.result own sum
          (λ x i bodies.
          let below = i ∙ sym c.split_at.ensures.front in
          let deeper = inner_deeper s path x c.args.depth c.deeper-inner.result c.deeper-inner.ensures d in
          (c.in_ok-here-in-Branch.ensures s path x v r deeper below bodies, c.in_ok-within-in-Branch.ensures s (inner_path s path x) x v r deeper below bodies)));
    }

pub loop-node-preserved-else-not-are_lone : goal.loop-node-preserved-else-not-are_lone
loop-node-preserved-else-not-are_lone g t c =
    let p = c.in-Branch.production in
    let count = c.in-Branch.count in
    let left = c.loop-node.left.now in
    let rest = c.in-Some.rest.now in
    let is = c.in-Some.ensures ∙ ap (λ n. n ∷ rest) c.in-Branch.is in
    let own : (p == CLASS) ≡ true = grind arith in
    let f = c.loop-node.invariant.forest in
    let b = c.forests_open.ensures.branch f.0 p count rest (f.1 ∙ is) in
    record {
      forest = (b.after, b.rest ∙ sym c.split_at.ensures.back);
      shorter = rest_shorter p count left rest c.args.nodes.now c.split_at.result.1.now is c.split_at.ensures.back c.loop-node.invariant.shorter;
      so_far = λ s path f' v r d e h.
          subst (λ ns. Walked s path f' ns c.loop-node.found) (sym c.split_at.ensures.back)
          (walked_class s path c.forests_open.ensures f' left rest c.loop-node.found (c.loop-node.invariant.so_far s path f' v r d e h) p count is
          None None c.loop-node.found own (nothing_more c.loop-node.found)
          (λ x i bodies.
          let below = i ∙ sym c.split_at.ensures.front in
          let few = c.are_lone.ensures.members x below c.if-not-are_lone.false in (
            none_twice s (class_around s path x) (members x) c.orders_are_total.ensures.terms few,
            c.are_lone.ensures.classes s (inner_path s path x) x below bodies c.if-not-are_lone.false,
          )));
    }

pub returns : goal.returns
returns g t c s path f v r d e h =
    walked_end s path f c.loop-node.left.now c.loop-node.found c.in_default.ensures (c.loop-node.invariant.so_far s path f v r d e h)
