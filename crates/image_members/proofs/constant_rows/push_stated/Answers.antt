use Rattle.std.proofs.Common.{◌≡◌, ap, sym, subst, ℕ, List, Option, Some, None}
use Rattle.std.proofs.lemmas.Result.{on_ok_weaker}
use Rattle.assembly_tree.specs.declared.members.Constant.{Constant}
use Rattle.image_members.specs.ConstantRows.{constant_with, constant_bytes, IsConstantRow, CanPushConstant}
use Rattle.image_members.specs.Pushing.{Pushes, CanPush}
use Rattle.image_members.proofs.ConstantLemmas.{no_constant}
use Rattle.image_members.proofs.constant_rows.push_stated.Goals as goal

pub returns-in-None : goal.returns-in-None
returns-in-None c = no_constant c.args.refs.now c.args.rows.now c.args.parent c.args.constant.now c.in-None.is c.requires.known

pub push_constant-requires : goal.push_constant-requires
push_constant-requires c =
    subst (λ (x : Option Constant). CanPush 0x0B CanPushConstant constant_bytes (constant_with c.args.parent x) c.args.refs.now c.args.rows.now) c.in-Some.is c.requires

pub returns-in-Some : goal.returns-in-Some
returns-in-Some c =
    on_ok_weaker c.push_constant.result
    (λ h. subst (λ (x : Option Constant). Pushes 0x0B IsConstantRow constant_bytes (constant_with c.args.parent x) c.args.refs.now c.push_constant.new.refs c.args.rows.now c.push_constant.new.rows) (sym c.in-Some.is) h)
    c.push_constant.ensures
