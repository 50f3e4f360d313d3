use Rattle.std.proofs.Common.{◌∷◌, ◌∙◌, None, ap, arith, subst, sym}
use Rattle.std.specs.Prelude.{◌≡◌, ◌==◌, false}
use Rattle.ilasm_grammar.specs.declared.productions.TheConstants.{CLASS, MEMBER_CLASS}
use Rattle.check_members.specs.declared.member_kinds.Level.TheVariants as level
use Rattle.check_names.proofs.ClassWalks.{forest_behind}
use Rattle.check_members.proofs.LoneLemmas.{LeftLone, lone_end, lone_in, lone_leaf, lone_past, lone_start}
use Rattle.check_members.proofs.WithinLemmas.{Walked, walked_end, walked_leaf, walked_member, walked_other, walked_start}
use Rattle.check_members.proofs.lone_members.are_lone.Goals as goal

pub loop-node-init : goal.loop-node-init
loop-node-init c = record {
  forest = c.requires;
  lone = λ f e. lone_start level.Class f c.args.class.now e;
  classless = λ s path f e h. walked_start s path f c.args.class.now e h;
}

pub split_at-requires : goal.split_at-requires
split_at-requires c =
    let f = c.loop-node.invariant.forest in
    (c.forests_open.ensures.branch f.0 c.in-Branch.production c.in-Branch.count c.in-Some.rest.now
    (f.1 ∙ c.in-Some.ensures ∙ ap (λ n. n ∷ c.in-Some.rest.now) c.in-Branch.is)).within

pub loop-node-preserved-then-has_place : goal.loop-node-preserved-then-has_place
loop-node-preserved-then-has_place c =
    let p = c.in-Branch.production in
    let count = c.in-Branch.count in
    let left = c.loop-node.left.now in
    let rest = c.in-Some.rest.now in
    let is = c.in-Some.ensures ∙ ap (λ n. n ∷ rest) c.in-Branch.is in
    let place = sym c.has_place.ensures ∙ c.if-has_place.true in
    let other : (p == MEMBER_CLASS) ≡ false = grind arith in
    let f = c.loop-node.invariant.forest in
    let b = c.forests_open.ensures.branch f.0 p count rest (f.1 ∙ is) in
    record {
      forest = (b.after, b.rest ∙ sym c.split_at.ensures.back);
      lone = λ g e.
          subst (λ ns. LeftLone level.Class g ns c.all_of-met.result) (sym c.split_at.ensures.back)
          (lone_past level.Class g c.forests_open.ensures left rest c.loop-node.met (c.loop-node.invariant.lone g e) p count is
          c.declared_by-here.result c.all_of-met.result place c.declared_by-here.ensures (c.have_common.ensures c.if-have_common.false) c.all_of-met.ensures);
      classless = λ s path g e h.
          subst (λ ns. Walked s path g ns None) (sym c.split_at.ensures.back)
          (walked_member s path c.forests_open.ensures g left rest None (c.loop-node.invariant.classless s path g e h) p count is place other);
    }

pub loop-node-preserved-else-has_place : goal.loop-node-preserved-else-has_place
loop-node-preserved-else-has_place c =
    let p = c.in-Branch.production in
    let count = c.in-Branch.count in
    let left = c.loop-node.left.now in
    let rest = c.in-Some.rest.now in
    let is = c.in-Some.ensures ∙ ap (λ n. n ∷ rest) c.in-Branch.is in
    let other : (p == CLASS) ≡ false = grind arith in
    record {
      forest = forest_behind c.forests_open.ensures c.forests_join.ensures p count left rest is c.loop-node.invariant.forest;
      lone = λ g e.
          lone_in level.Class g c.forests_open.ensures left rest c.loop-node.met (c.loop-node.invariant.lone g e) p count is
          c.forests_join.ensures (sym c.has_place.ensures ∙ c.if-has_place.false);
      classless = λ s path g e h.
          walked_other s path c.forests_open.ensures g left rest None (c.loop-node.invariant.classless s path g e h) p count is c.forests_join.ensures other;
    }

pub loop-node-preserved : goal.loop-node-preserved
loop-node-preserved c =
    let token = c.in-Leaf.token in
    let left = c.loop-node.left.now in
    let rest = c.in-Some.rest.now in
    let is = c.in-Some.ensures ∙ ap (λ n. n ∷ rest) c.in-Leaf.is in
    let f = c.loop-node.invariant.forest in
    let b = c.forests_open.ensures.leaf f.0 token rest (f.1 ∙ is) in
    record {
      forest = (b.after, b.rest);
      lone = λ g e. lone_leaf level.Class g c.forests_open.ensures left rest c.loop-node.met (c.loop-node.invariant.lone g e) token is;
      classless = λ s path g e h. walked_leaf s path c.forests_open.ensures g left rest None (c.loop-node.invariant.classless s path g e h) token is;
    }

pub returns-clause-members : goal.returns-clause-members
returns-clause-members c f e is kind = lone_end level.Class f c.loop-node.left.now c.loop-node.met c.in_default.ensures (c.loop-node.invariant.lone f e) kind

pub returns-clause-classes : goal.returns-clause-classes
returns-clause-classes c s path f e h is = walked_end s path f c.loop-node.left.now None c.in_default.ensures (c.loop-node.invariant.classless s path f e h)
