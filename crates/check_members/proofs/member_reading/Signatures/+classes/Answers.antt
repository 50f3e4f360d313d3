use Rattle.std.proofs.Common.{◌≡◌, ◌<◌, ◌^◌, ◌*◌, ◌+◌, ◌∷◌, ◌∙◌, length, ap, sym, subst, refl, arith, rules}
use Rattle.std.specs.Prelude.{true, false, None}
use Rattle.il_lexer.specs.declared.types.TokenKind.TheVariants as kind
use Rattle.ilasm_grammar.specs.declared.productions.TheConstants.{CLASS, METHOD}
use Rattle.source_model.specs.Forest.{preorder}
use Rattle.source_model.specs.Nodes.{entered}
use Rattle.source_nodes.specs.Derived.{FitsBody}
use Rattle.source_nodes.specs.Least.{least}
use Rattle.source_nodes.specs.Readers.{IsOf}
use Rattle.source_nodes.specs.Walk.{IsForest}
use Rattle.source_syntax.proofs.NameTokens.{class_is_name}
use Rattle.check_members.specs.OwnMethods.{has_accessors, undeclared_at}
use Rattle.check_visitor.specs.Surroundings.{found_in, is_scope}
use Rattle.check_members.proofs.AccessorWalks.{Walked, accessors_here, class_path, method_past, nothing_here, path_left, walked_end, walked_into, walked_leaf, walked_past, walked_start}
use Rattle.check_visitor.proofs.AskingLemmas.{below_shorter, next_shorter, nothing_more, rest_shorter, same_around}
use Rattle.check_names.proofs.ClassWalks.{forest_behind}
use Rattle.check_members.proofs.ReadLemmas.{around_class, names_of_class}
use Rattle.check_members.proofs.WithinLemmas.{inner_deeper}
use Rattle.check_members.proofs.member_reading.Signatures.+classes.Goals as goal

pub undeclared_in-loop-node-init : goal.undeclared_in-loop-node-init
undeclared_in-loop-node-init g t c = record {
  forest = c.requires;
  shorter = omega arith;
  kept = refl;
  so_far = λ s a f v r p h path ms e b. walked_start s a f c.args.nodes.now e b;
}

pub undeclared_in-split_at-requires : goal.undeclared_in-split_at-requires
undeclared_in-split_at-requires g t c =
    let f = c.loop-node.invariant.forest in
    (c.forests_open.ensures.branch f.0 c.in-Branch.production c.in-Branch.count c.in-Some.rest.now
    (f.1 ∙ c.in-Some.ensures ∙ ap (λ n. n ∷ c.in-Some.rest.now) c.in-Branch.is)).within

pub undeclared_in-undeclared_in_class-requires : goal.undeclared_in-undeclared_in_class-requires
undeclared_in-undeclared_in_class-requires g t c κs within =
    let is = c.in-Some.ensures ∙ ap (λ n. n ∷ c.in-Some.rest.now) c.in-Branch.is in
    let f = c.loop-node.invariant.forest in
    let b = c.forests_open.ensures.branch f.0 c.in-Branch.production c.in-Branch.count c.in-Some.rest.now (f.1 ∙ is) in
    let below = c.split_at.result.0.now in
    let shorter : length below < length c.args.nodes.now =
    below_shorter c.in-Branch.production c.in-Branch.count c.loop-node.left.now c.in-Some.rest.now c.args.nodes.now below (length c.args.nodes.now) is
    c.split_at.ensures.front c.loop-node.invariant.shorter refl in
    let falls : 2 * length below + 1 < t = omega (arith, shorter, c.decreases) in
    let forest : IsForest below = (b.below, b.inner ∙ sym c.split_at.ensures.front) in
    let few : length below < 2 ^ 32 = search rules in
    search rules

pub undeclared_in-accessors-requires : goal.undeclared_in-accessors-requires
undeclared_in-accessors-requires g t c =
    let f = c.loop-node.invariant.forest in
    let b = c.forests_open.ensures.branch f.0 c.in-Branch.production c.in-Branch.count c.in-Some.rest.now
    (f.1 ∙ c.in-Some.ensures ∙ ap (λ n. n ∷ c.in-Some.rest.now) c.in-Branch.is) in
    (b.below, b.inner ∙ sym c.split_at.ensures.front)

pub undeclared_in-loop-node-preserved : goal.undeclared_in-loop-node-preserved
undeclared_in-loop-node-preserved g t c =
    let is = c.in-Some.ensures ∙ ap (λ n. n ∷ c.in-Some.rest.now) c.in-Leaf.is in
    let f = c.loop-node.invariant.forest in
    let b = c.forests_open.ensures.leaf f.0 c.in-Leaf.token c.in-Some.rest.now (f.1 ∙ is) in
    record {
      forest = (b.after, b.rest);
      shorter = next_shorter c.loop-node.left.now c.in-Some.rest.now c.args.nodes.now c.in-Some.node c.in-Some.ensures c.loop-node.invariant.shorter;
      kept = c.loop-node.invariant.kept;
      so_far = λ s a f' v r p h path ms e b.
          walked_leaf s a f' c.forests_open.ensures c.loop-node.left.now c.in-Some.rest.now c.loop-node.found (c.loop-node.invariant.so_far s a f' v r p h path ms e b)
          c.in-Leaf.token is;
    }

pub undeclared_in-loop-node-preserved-then-production-eq-CLASS : goal.undeclared_in-loop-node-preserved-then-production-eq-CLASS
undeclared_in-loop-node-preserved-then-production-eq-CLASS g t c =
    let p = c.in-Branch.production in
    let count = c.in-Branch.count in
    let left = c.loop-node.left.now in
    let rest = c.in-Some.rest.now in
    let is = c.in-Some.ensures ∙ ap (λ n. n ∷ rest) c.in-Branch.is in
    let same : p ≡ CLASS = c.if-production-eq-CLASS.true in
    let f = c.loop-node.invariant.forest in
    let b = c.forests_open.ensures.branch f.0 p count rest (f.1 ∙ is) in
    let within = c.in_ok-within-in-Branch.within in
    record {
      forest = (b.after, b.rest ∙ sym c.split_at.ensures.back);
      shorter = rest_shorter p count left rest c.args.nodes.now c.split_at.result.1.now is c.split_at.ensures.back c.loop-node.invariant.shorter;
      kept = c.in_ok-within-in-Branch.ensures.kept ∙ c.loop-node.invariant.kept;
      so_far = λ s a f' v r pl h path ms e bodies.
          subst (λ ns. Walked s a f' ns c.sooner-found.result) (sym c.split_at.ensures.back)
          (walked_past s a f' c.forests_open.ensures left rest c.loop-node.found (c.loop-node.invariant.so_far s a f' v r pl h path ms e bodies) p count is
          within c.sooner-found.result (ap has_accessors same) c.sooner-found.ensures
          (λ x i fits inner.
          c.in_ok-within-in-Branch.ensures.found s a x v r (path ∙ sym c.loop-node.invariant.kept) pl.depth (i ∙ sym c.split_at.ensures.front)
          (subst (λ q. FitsBody s q x) same fits) inner
          ∙ ap (λ q. least (found_in undeclared_at s (entered s a q x) x)) (sym same)));
    }

pub undeclared_in-loop-node-preserved-then-production-eq-METHOD : goal.undeclared_in-loop-node-preserved-then-production-eq-METHOD
undeclared_in-loop-node-preserved-then-production-eq-METHOD g t c =
    let p = c.in-Branch.production in
    let count = c.in-Branch.count in
    let left = c.loop-node.left.now in
    let rest = c.in-Some.rest.now in
    let is = c.in-Some.ensures ∙ ap (λ n. n ∷ rest) c.in-Branch.is in
    let same : p ≡ METHOD = c.if-production-eq-METHOD.true in
    let f = c.loop-node.invariant.forest in
    let b = c.forests_open.ensures.branch f.0 p count rest (f.1 ∙ is) in
    record {
      forest = (b.after, b.rest ∙ sym c.split_at.ensures.back);
      shorter = rest_shorter p count left rest c.args.nodes.now c.split_at.result.1.now is c.split_at.ensures.back c.loop-node.invariant.shorter;
      kept = c.loop-node.invariant.kept;
      so_far = λ s a f' v r pl h path ms e bodies.
          subst (λ ns. Walked s a f' ns c.loop-node.found) (sym c.split_at.ensures.back)
          (walked_past s a f' c.forests_open.ensures left rest c.loop-node.found (c.loop-node.invariant.so_far s a f' v r pl h path ms e bodies) p count is
          None c.loop-node.found (ap has_accessors same) (nothing_more c.loop-node.found) (λ x i fits inner. method_past s a p x same fits inner));
    }

pub undeclared_in-loop-node-preserved-then-has_accessors : goal.undeclared_in-loop-node-preserved-then-has_accessors
undeclared_in-loop-node-preserved-then-has_accessors g t c =
    let p = c.in-Branch.production in
    let is = c.in-Some.ensures ∙ ap (λ n. n ∷ c.in-Some.rest.now) c.in-Branch.is in
    let plain : is_scope p ≡ false = grind arith in
    let own : has_accessors p ≡ true = sym c.has_accessors.ensures ∙ c.if-has_accessors.true in
    record {
      forest = forest_behind c.forests_open.ensures c.forests_join.ensures p c.in-Branch.count c.loop-node.left.now c.in-Some.rest.now is c.loop-node.invariant.forest;
      shorter = next_shorter c.loop-node.left.now c.in-Some.rest.now c.args.nodes.now c.in-Some.node c.in-Some.ensures c.loop-node.invariant.shorter;
      kept = c.loop-node.invariant.kept;
      so_far = λ s a f v r pl h path ms e bodies.
          walked_into s a f c.forests_open.ensures c.loop-node.left.now c.in-Some.rest.now c.loop-node.found (c.loop-node.invariant.so_far s a f v r pl h path ms e bodies)
          p c.in-Branch.count is c.forests_join.ensures c.in_ok-here-in-Branch.here c.sooner-found-then-has_accessors.result plain c.sooner-found-then-has_accessors.ensures
          (λ x i inner.
          accessors_here s a p x c.in_ok-here-in-Branch.here own (same_around undeclared_at s a p x plain)
          (c.in_ok-here-in-Branch.ensures s a x v r pl h (path ∙ sym c.loop-node.invariant.kept ∙ sym c.as_slice-ids.ensures) ms (i ∙ sym c.split_at.ensures.front) inner));
    }

pub undeclared_in-loop-node-preserved-else-has_accessors : goal.undeclared_in-loop-node-preserved-else-has_accessors
undeclared_in-loop-node-preserved-else-has_accessors g t c =
    let p = c.in-Branch.production in
    let is = c.in-Some.ensures ∙ ap (λ n. n ∷ c.in-Some.rest.now) c.in-Branch.is in
    let plain : is_scope p ≡ false = grind arith in
    let other : has_accessors p ≡ false = sym c.has_accessors.ensures ∙ c.if-has_accessors.false in
    record {
      forest = forest_behind c.forests_open.ensures c.forests_join.ensures p c.in-Branch.count c.loop-node.left.now c.in-Some.rest.now is c.loop-node.invariant.forest;
      shorter = next_shorter c.loop-node.left.now c.in-Some.rest.now c.args.nodes.now c.in-Some.node c.in-Some.ensures c.loop-node.invariant.shorter;
      kept = c.loop-node.invariant.kept;
      so_far = λ s a f v r pl h path ms e bodies.
          walked_into s a f c.forests_open.ensures c.loop-node.left.now c.in-Some.rest.now c.loop-node.found (c.loop-node.invariant.so_far s a f v r pl h path ms e bodies)
          p c.in-Branch.count is c.forests_join.ensures None c.loop-node.found plain (nothing_more c.loop-node.found) (λ x i inner. nothing_here s a p x other);
    }

pub undeclared_in-returns-clause-found : goal.undeclared_in-returns-clause-found
undeclared_in-returns-clause-found g t c s a f v r pl h path ms e bodies =
    walked_end s a f c.loop-node.left.now c.loop-node.found c.in_default.ensures (c.loop-node.invariant.so_far s a f v r pl h path ms e bodies)

pub undeclared_in_class-returns-clause-found : goal.undeclared_in_class-returns-clause-found
undeclared_in_class-returns-clause-found g t c s a f v r path depth e fits bodies =
    let inner = entered s a CLASS f in
    let at = c.leaf_at.ensures f e in
    let id = c.in_ok-id.ensures s r (subst (IsOf s kind.Name) (sym at) (class_is_name s CLASS f refl fits)) in
    let within = class_path s a f c.args.path.now c.push.new.self c.in_ok-id.id c.leaf_at.result path c.in_ok-push.ensures.ok id at in
    let few : length (preorder f) < 2 ^ 32 = subst (λ ns. length ns < 2 ^ 32) (sym e) c.requires.few in
    let deep = inner_deeper s a.path f c.args.depth c.deeper.result c.deeper.ensures depth in
    let typars = c.in_ok-typars.ensures s f r e bodies in
    let methods =
    c.in_ok-methods.ensures s inner v r (around_class s a.path f _ deep e refl) (names_of_class s a.path f _ typars c.new-none.ensures refl few) e bodies in
    c.in_ok-found.ensures.found s inner f v r (around_class s a.path f _ deep e refl) (names_of_class s a.path f _ typars c.new-none.ensures refl few) within methods e
    bodies

pub undeclared_in_class-returns-clause-kept : goal.undeclared_in_class-returns-clause-kept
undeclared_in_class-returns-clause-kept g t c =
    path_left c.args.path.now c.push.new.self c.undeclared_in.new.path c.truncate.new.self c.in_ok-id.id c.len-outer.result c.len-outer.ensures c.in_ok-push.ensures.ok
    c.in_ok-found.ensures.kept c.truncate.ensures
