use Rattle.std.proofs.Common.{subst, sym, List, [], ℕ}
use Rattle.std.specs.Option.{option_copied, option_map}
use Rattle.type_terms.specs.declared.term.SigType.{SigType}
use Rattle.sig_pool.specs.Pool.{Has, HasAll}
use Rattle.sig_pool.specs.Replaced.{terms_at}
use Rattle.type_hierarchy.specs.Normal.{normal}
use Rattle.type_hierarchy.specs.Pooled.{put_in}
use Rattle.type_hierarchy.specs.Tables.{hierarchy_in}
use Rattle.type_hierarchy.specs.World.{hierarchy}
use Rattle.type_hierarchy.proofs.GrowLemmas.{args_kept, more_mapped, none_yet}
use Rattle.type_order.specs.Keys.{reading_of}
use Rattle.class_members.proofs.Worlds.{option_below, stays_itself}
use Rattle.class_members.proofs.keys.types_in.Goals as goal

pub loop-t-init : goal.loop-t-init
loop-t-init c = record { stays = stays_itself c.args.w.now; keys = subst (λ (l : List ℕ). HasAll c.args.w.now.nodes l []) (sym c.in_ok-keys.ensures) (none_yet c.args.w.now.nodes) }

pub type_in-requires : goal.type_in-requires
type_in-requires c = option_below c.args.w.now.nodes c.loop-t.w.nodes (option_copied c.args.args) c.loop-t.invariant.stays.nodes c.requires

pub loop-t-preserved : goal.loop-t-preserved
loop-t-preserved c =
    let w = c.args.w.now in
    let o = option_copied c.args.args in
    let x = c.t-item.result in
    let s = c.loop-t.invariant.stays in
    let k = args_kept w.nodes c.loop-t.w.nodes o s.nodes c.requires in
    let has = subst (λ (t : SigType). Has c.type_in.new.w.nodes c.in_ok-key.key t) (λ i. put_in (k i) (normal (reading_of (hierarchy_in (s.tables i))) x)) c.in_ok-key.ensures.ok in
    record {
      stays = c.keys_keep_their_types.ensures.onward w c.loop-t.w c.type_in.new.w s c.in_ok-key.ensures.stays;
      keys = more_mapped (λ t. put_in (option_map (terms_at w.nodes) o) (normal (reading_of (hierarchy w)) t)) c.loop-t.w.nodes c.type_in.new.w.nodes c.loop-t.keys c.push.new.self c.args.types.now
          c.loop-t.t-index c.in_ok-key.key x c.loop-t.invariant.keys c.in_ok-key.ensures.stays.nodes has c.loop-t-test.true c.t-item.is c.in_ok-push.ensures.ok;
    }
