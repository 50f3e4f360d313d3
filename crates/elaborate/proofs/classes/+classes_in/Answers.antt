use Rattle.std.proofs.Common.{◌≡◌, ◌<◌, ◌^◌, ◌∷◌, ◌++◌, [], ◌∙◌, length, ap, sym, subst, arith, rules}
use Rattle.std.specs.Prelude.{true, false, ◌==◌}
use Rattle.ilasm_grammar.specs.declared.productions.TheConstants.{CLASS, MEMBER_CLASS, METHOD}
use Rattle.source_model.specs.Classes.{class_from}
use Rattle.source_model.specs.Forest.{parts_outside}
use Rattle.source_model.specs.Items.{members}
use Rattle.source_model.specs.Nodes.{class_token, type_id}
use Rattle.source_nodes.specs.Pieces.{ArePieces}
use Rattle.source_nodes.specs.Walk.{IsForest}
use Rattle.source_flags.specs.Lines.{productions_of}
use Rattle.source_flags.specs.declared.gathering.Kind.TheVariants.{Members}
use Rattle.source_flags.proofs.Gathered.{has_bodies}
use Rattle.check_visitor.proofs.AskingLemmas.{below_shorter, next_shorter, rest_shorter}
use Rattle.check_names.proofs.ClassWalks.{forest_behind}
use Rattle.elaborate.specs.ClassParts.{inner}
use Rattle.elaborate.specs.HeadForms.{head_forms}
use Rattle.elaborate.proofs.ClassLemmas.{all_ranged, same_any, within_some}
use Rattle.elaborate.proofs.ClassWalks.{Walked, none_in, walked_class, walked_end, walked_leaf, walked_method, walked_other, walked_start}
use Rattle.elaborate.proofs.NestedLemmas.{nests_none, same_members}
use Rattle.elaborate.proofs.classes.+classes_in.Goals as goal

pub loop-node-init : goal.loop-node-init
loop-node-init g t c = record {
  forest = c.requires.forest;
  shorter = omega arith;
  so_far = λ s a f v k o e h. subst (Walked s a f c.args.nodes.now) (sym c.in_ok-all.ensures) (walked_start s a f c.args.nodes.now e h);
}

pub split_at-requires : goal.split_at-requires
split_at-requires g t c =
    let f = c.loop-node.invariant.forest in
    (c.forests_open.ensures.branch f.0 c.in-Branch.production c.in-Branch.count c.in-Some.rest.now
    (f.1 ∙ c.in-Some.ensures ∙ ap (λ n. n ∷ c.in-Some.rest.now) c.in-Branch.is)).within

pub loop-node-preserved : goal.loop-node-preserved
loop-node-preserved g t c =
    let is = c.in-Some.ensures ∙ ap (λ n. n ∷ c.in-Some.rest.now) c.in-Leaf.is in
    let f = c.loop-node.invariant.forest in
    let b = c.forests_open.ensures.leaf f.0 c.in-Leaf.token c.in-Some.rest.now (f.1 ∙ is) in
    record {
      forest = (b.after, b.rest);
      shorter = next_shorter c.loop-node.left.now c.in-Some.rest.now c.args.nodes.now c.in-Some.node c.in-Some.ensures c.loop-node.invariant.shorter;
      so_far = λ s a f' v k o e h.
          walked_leaf s a c.forests_open.ensures f' c.loop-node.left.now c.in-Some.rest.now c.loop-node.all (c.loop-node.invariant.so_far s a f' v k o e h)
          c.in-Leaf.token is;
    }

pub loop-node-preserved-else-production-eq-METHOD : goal.loop-node-preserved-else-production-eq-METHOD
loop-node-preserved-else-production-eq-METHOD g t c =
    let p = c.in-Branch.production in
    let is = c.in-Some.ensures ∙ ap (λ n. n ∷ c.in-Some.rest.now) c.in-Branch.is in
    let other : (p == CLASS) ≡ false = grind arith in
    record {
      forest = forest_behind c.forests_open.ensures c.forests_join.ensures p c.in-Branch.count c.loop-node.left.now c.in-Some.rest.now is c.loop-node.invariant.forest;
      shorter = next_shorter c.loop-node.left.now c.in-Some.rest.now c.args.nodes.now c.in-Some.node c.in-Some.ensures c.loop-node.invariant.shorter;
      so_far = λ s a f v k o e h.
          walked_other s a c.forests_open.ensures f c.loop-node.left.now c.in-Some.rest.now c.loop-node.all (c.loop-node.invariant.so_far s a f v k o e h)
          p c.in-Branch.count is c.forests_join.ensures other;
    }

pub loop-node-preserved-then-production-eq-METHOD : goal.loop-node-preserved-then-production-eq-METHOD
loop-node-preserved-then-production-eq-METHOD g t c =
    let p = c.in-Branch.production in
    let count = c.in-Branch.count in
    let left = c.loop-node.left.now in
    let rest = c.in-Some.rest.now in
    let is = c.in-Some.ensures ∙ ap (λ n. n ∷ rest) c.in-Branch.is in
    let own : (p == METHOD) ≡ true = grind arith in
    let f = c.loop-node.invariant.forest in
    let b = c.forests_open.ensures.branch f.0 p count rest (f.1 ∙ is) in
    record {
      forest = (b.after, b.rest ∙ sym c.split_at.ensures.back);
      shorter = rest_shorter p count left rest c.args.nodes.now c.split_at.result.1.now is c.split_at.ensures.back c.loop-node.invariant.shorter;
      so_far = λ s a f' v k o e h.
          subst (λ ns. Walked s a f' ns c.loop-node.all) (sym c.split_at.ensures.back)
          (walked_method s a c.forests_open.ensures f' left rest c.loop-node.all (c.loop-node.invariant.so_far s a f' v k o e h) p count is own);
    }

pub returns : goal.returns
returns g t c s a f v k o e h =
    walked_end s a f c.loop-node.left.now c.loop-node.all c.in_default.ensures (c.loop-node.invariant.so_far s a f v k o e h)

pub classes_in-requires : goal.classes_in-requires
classes_in-requires g t c κs within =
    let is = c.in-Some.ensures ∙ ap (λ n. n ∷ c.in-Some.rest.now) c.in-Branch.is in
    let f = c.loop-node.invariant.forest in
    let b = c.forests_open.ensures.branch f.0 c.in-Branch.production c.in-Branch.count c.in-Some.rest.now (f.1 ∙ is) in
    let falls : length c.split_at.result.0.now < t =
    below_shorter c.in-Branch.production c.in-Branch.count c.loop-node.left.now c.in-Some.rest.now c.args.nodes.now c.split_at.result.0.now t is
    c.split_at.ensures.front c.loop-node.invariant.shorter c.decreases in
    let few : length c.split_at.result.0.now < 2 ^ 32 = omega (arith, falls, c.decreases, c.requires.few) in
    let forest : IsForest c.split_at.result.0.now = (b.below, b.inner ∙ sym c.split_at.ensures.front) in
    search rules

pub gather_members-requires : goal.gather_members-requires
gather_members-requires g t c =
    let f = c.loop-node.invariant.forest in
    let b = c.forests_open.ensures.branch f.0 c.in-Branch.production c.in-Branch.count c.in-Some.rest.now
    (f.1 ∙ c.in-Some.ensures ∙ ap (λ n. n ∷ c.in-Some.rest.now) c.in-Branch.is) in
    (b.below, b.inner ∙ sym c.split_at.ensures.front)

pub push_class-requires-clause-forest : goal.push_class-requires-clause-forest
push_class-requires-clause-forest g t c =
    let f = c.loop-node.invariant.forest in
    let b = c.forests_open.ensures.branch f.0 c.in-Branch.production c.in-Branch.count c.in-Some.rest.now
    (f.1 ∙ c.in-Some.ensures ∙ ap (λ n. n ∷ c.in-Some.rest.now) c.in-Branch.is) in
    (b.below, b.inner ∙ sym c.split_at.ensures.front)

pub push_class-requires-clause-parts : goal.push_class-requires-clause-parts
push_class-requires-clause-parts g t c =
    let f = c.loop-node.invariant.forest in
    let b = c.forests_open.ensures.branch f.0 c.in-Branch.production c.in-Branch.count c.in-Some.rest.now
    (f.1 ∙ c.in-Some.ensures ∙ ap (λ n. n ∷ c.in-Some.rest.now) c.in-Branch.is) in
    let ps = parts_outside head_forms (productions_of Members) b.below in (
      ps,
      subst (λ xs. ArePieces c.split_at.result.0.now xs ps) (sym c.as_slice-own.ensures)
          (c.in_ok-gather_members-in-Branch.ensures b.below (b.inner ∙ sym c.split_at.ensures.front)),
    )

pub push_class-requires-else-nests_some-clause-forest : goal.push_class-requires-else-nests_some-clause-forest
push_class-requires-else-nests_some-clause-forest g t c =
    let f = c.loop-node.invariant.forest in
    let b = c.forests_open.ensures.branch f.0 c.in-Branch.production c.in-Branch.count c.in-Some.rest.now
    (f.1 ∙ c.in-Some.ensures ∙ ap (λ n. n ∷ c.in-Some.rest.now) c.in-Branch.is) in
    (b.below, b.inner ∙ sym c.split_at.ensures.front)

pub push_class-requires-else-nests_some-clause-parts : goal.push_class-requires-else-nests_some-clause-parts
push_class-requires-else-nests_some-clause-parts g t c =
    let f = c.loop-node.invariant.forest in
    let b = c.forests_open.ensures.branch f.0 c.in-Branch.production c.in-Branch.count c.in-Some.rest.now
    (f.1 ∙ c.in-Some.ensures ∙ ap (λ n. n ∷ c.in-Some.rest.now) c.in-Branch.is) in
    let ps = parts_outside head_forms (productions_of Members) b.below in (
      ps,
      subst (λ xs. ArePieces c.split_at.result.0.now xs ps) (sym c.as_slice-own.ensures)
          (c.in_ok-gather_members-in-Branch.ensures b.below (b.inner ∙ sym c.split_at.ensures.front)),
    )

pub loop-node-preserved-then-nests_some : goal.loop-node-preserved-then-nests_some
loop-node-preserved-then-nests_some g t c =
    let p = c.in-Branch.production in
    let count = c.in-Branch.count in
    let left = c.loop-node.left.now in
    let rest = c.in-Some.rest.now in
    let nodes = c.split_at.result.0.now in
    let is = c.in-Some.ensures ∙ ap (λ n. n ∷ rest) c.in-Branch.is in
    let own : (p == CLASS) ≡ true = grind arith in
    let f = c.loop-node.invariant.forest in
    let b = c.forests_open.ensures.branch f.0 p count rest (f.1 ∙ is) in
    record {
      forest = (b.after, b.rest ∙ sym c.split_at.ensures.back);
      shorter = rest_shorter p count left rest c.args.nodes.now c.split_at.result.1.now is c.split_at.ensures.back c.loop-node.invariant.shorter;
      so_far = λ s a f' v k o e h.
          subst (λ ns. Walked s a f' ns c.push_class.new.all) (sym c.split_at.ensures.back)
          (walked_class s a c.forests_open.ensures f' left rest c.loop-node.all (c.loop-node.invariant.so_far s a f' v k o e h) p count is
          c.push_class.new.all own
          (λ x i ranged each.
          let below = i ∙ sym c.split_at.ensures.front in
          let bodies = has_bodies s x (all_ranged s x each) in
          let are = subst (λ xs. ArePieces nodes xs (members x)) (sym c.as_slice-own.ensures)
          (subst (ArePieces nodes c.gather_members.new.found) (same_members s x bodies) (c.in_ok-gather_members-in-Branch.ensures x below)) in
          let nested = c.in_ok-nested-in-Branch.ensures s (inner s a x) x v k (within_some a.path (type_id s (class_token x))) below each in
          c.in_ok-push_class-in-Branch.ensures s a x v k o below are ranged each ∙ ap (λ cs. c.loop-node.all ++ class_from s (inner s a x) x cs ∷ []) nested));
    }

pub loop-node-preserved-else-nests_some : goal.loop-node-preserved-else-nests_some
loop-node-preserved-else-nests_some g t c =
    let p = c.in-Branch.production in
    let count = c.in-Branch.count in
    let left = c.loop-node.left.now in
    let rest = c.in-Some.rest.now in
    let nodes = c.split_at.result.0.now in
    let is = c.in-Some.ensures ∙ ap (λ n. n ∷ rest) c.in-Branch.is in
    let own : (p == CLASS) ≡ true = grind arith in
    let f = c.loop-node.invariant.forest in
    let b = c.forests_open.ensures.branch f.0 p count rest (f.1 ∙ is) in
    record {
      forest = (b.after, b.rest ∙ sym c.split_at.ensures.back);
      shorter = rest_shorter p count left rest c.args.nodes.now c.split_at.result.1.now is c.split_at.ensures.back c.loop-node.invariant.shorter;
      so_far = λ s a f' v k o e h.
          subst (λ ns. Walked s a f' ns c.push_class-else-nests_some.new.all) (sym c.split_at.ensures.back)
          (walked_class s a c.forests_open.ensures f' left rest c.loop-node.all (c.loop-node.invariant.so_far s a f' v k o e h) p count is
          c.push_class-else-nests_some.new.all own
          (λ x i ranged each.
          let below = i ∙ sym c.split_at.ensures.front in
          let bodies = has_bodies s x (all_ranged s x each) in
          let are = subst (λ xs. ArePieces nodes xs (members x)) (sym c.as_slice-own.ensures)
          (subst (ArePieces nodes c.gather_members.new.found) (same_members s x bodies) (c.in_ok-gather_members-in-Branch.ensures x below)) in
          let nested = none_in s (inner s a x) x
          (nests_none s x ranged.fits bodies
          (sym (same_any (λ q. q == MEMBER_CLASS) nodes c.as_slice-own.result.now (members x) are) ∙ sym c.nests_some.ensures ∙ c.if-nests_some.false)) in
          c.in_ok-push_class-in-Branch-2.ensures s a x v k o below are ranged each ∙ ap (λ cs. c.loop-node.all ++ class_from s (inner s a x) x cs ∷ []) (c.new-none.ensures ∙ sym nested)));
    }
