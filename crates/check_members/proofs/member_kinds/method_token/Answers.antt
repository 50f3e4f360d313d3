use Rattle.std.proofs.Common.{◌∙◌, refl, sym}
use Rattle.source_nodes.proofs.Collecting.{behind_is}
use Rattle.check_members.specs.MemberKinds.{method_names}
use Rattle.check_members.proofs.MemberParts.{chosen_below, token_end, token_found, token_in}
use Rattle.check_members.proofs.member_kinds.method_token.Goals as goal

pub loop-x-init : goal.loop-x-init
loop-x-init c = record { forest = c.requires; so_far = λ f e. record { rest = f; is = e; same = refl } }

pub leaf_at-requires : goal.leaf_at-requires
leaf_at-requires c =
    chosen_below method_names c.loop-x.left.now c.in-Some.x c.in-Some.ensures (sym c.is_method_name.ensures ∙ c.if-is_method_name.true) c.loop-x.invariant.forest

pub returns-then-is_method_name : goal.returns-then-is_method_name
returns-then-is_method_name c f e =
    let m = token_found f c.loop-x.left.now c.in-Some.x c.in-Some.ensures (c.loop-x.invariant.so_far f e) (sym c.is_method_name.ensures ∙ c.if-is_method_name.true) in
    c.leaf_at.ensures m.inner m.inner-is ∙ m.is

pub loop-x-preserved : goal.loop-x-preserved
loop-x-preserved c = record {
  forest = behind_is c.loop-x.left.now c.in-Some.x c.in-Some.ensures c.loop-x.invariant.forest;
  so_far = λ f e.
      token_in f c.loop-x.left.now c.in-Some.x c.in-Some.ensures (c.loop-x.invariant.so_far f e) c.forests_join.ensures
      (sym c.is_method_name.ensures ∙ c.if-is_method_name.false);
}

pub returns : goal.returns
returns c f e = token_end f c.loop-x.left.now c.in_default.ensures (c.loop-x.invariant.so_far f e)
