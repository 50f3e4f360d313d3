use Rattle.std.proofs.Common.{◌≡◌, sym, subst, List}
use Rattle.sig_pool.specs.declared.node.Node.{Node}
use Rattle.type_hierarchy.specs.declared.stack_type.StackType.{StackType}
use Rattle.type_hierarchy.specs.Stack.{Stack}
use Rattle.type_hierarchy.specs.World.{hierarchy}
use Rattle.stack_states.specs.Meetings.{IsNewMeeting}
use Rattle.stack_rows.specs.RowMeanings.{stack_meant, MeansStack}
use Rattle.stack_states.specs.StateMeanings.{AllJoinAs}
use Rattle.code_flow.specs.Typings.{stack}
use Rattle.stack_states.proofs.StackLemmas.{stacks_meet_same, stacks_meet_new}
use Rattle.stack_states.proofs.StateLemmas.{stacks_same}
use Rattle.stack_states.proofs.state.values_meet.Goals as goal

pub returns-then-same_stack-clause-ok : goal.returns-then-same_stack-clause-ok
returns-then-same_stack-clause-ok c =
    let w = c.args.w.now in
    let same = subst (λ (ns : List Node). stack_meant ns c.args.s.now ≡ stack_meant ns c.args.t.now) c.pool.ensures (c.same_stack.ensures.0 c.if-same_stack.true) in
    let both = subst (λ (ys : List StackType). stack_meant w.nodes c.args.s.now ≡ stack_meant w.nodes ys) c.requires.known same in
    stacks_same (hierarchy w) (stack_meant w.nodes c.args.s.now) (stack_meant w.nodes c.args.stack.now) both

pub returns-then-same_stack-2-clause-ok : goal.returns-then-same_stack-2-clause-ok
returns-then-same_stack-2-clause-ok c =
    let w = c.args.w.now in
    let later = c.joins.new.w in
    let s = c.args.s.now in
    let js = c.as_slice-joins.result.now in
    let joined : AllJoinAs (hierarchy w) w.nodes s c.args.stack.now later.nodes js =
    subst (λ (ys : List StackType). AllJoinAs (hierarchy w) w.nodes s ys later.nodes js) c.requires.known
    (subst (λ (zs : List StackType). AllJoinAs (hierarchy w) w.nodes s c.args.t.now later.nodes zs) (sym c.as_slice-joins.ensures) c.in_ok-joins.ensures.ok) in
    stacks_meet_same (hierarchy w) w later s c.args.stack.now js c.pool-2.result.now c.pool-2.ensures c.requires.depth joined
    (c.keys_keep_their_types.ensures.keys w later c.joins.ensures.stays) c.requires.s (c.same_stack-2.ensures.0 c.if-same_stack-2.true)

pub returns-clause-ok : goal.returns-clause-ok
returns-clause-ok c =
    let w = c.args.w.now in
    let later = c.joins.new.w in
    let s = c.args.s.now in
    let t = c.args.stack.now in
    let js = c.as_slice-joins.result.now in
    let met = c.in_ok-met.met in
    let joined : AllJoinAs (hierarchy w) w.nodes s t later.nodes js =
    subst (λ (ys : List StackType). AllJoinAs (hierarchy w) w.nodes s ys later.nodes js) c.requires.known
    (subst (λ (zs : List StackType). AllJoinAs (hierarchy w) w.nodes s c.args.t.now later.nodes zs) (sym c.as_slice-joins.ensures) c.in_ok-joins.ensures.ok) in
    let new = stacks_meet_new (hierarchy w) w later s t js c.pool-2.result.now c.pool-2.ensures c.requires.depth joined
    (c.keys_keep_their_types.ensures.keys w later c.joins.ensures.stays) c.requires.s (λ e. let yes = c.same_stack-2.ensures.1 e in cc) in
    let means : MeansStack later.nodes met (stack_meant later.nodes js) = subst (λ (ns : List Node). MeansStack ns met (stack_meant ns js)) c.pool-3.ensures c.in_ok-met.ensures in
    (means.within, subst (λ (xs : List Stack). IsNewMeeting (hierarchy w) (stack (stack_meant w.nodes s)) (stack (stack_meant w.nodes t)) (stack xs)) (sym means.is) new)
