use Rattle.std.proofs.Common.{◌≡◌, ◌∙◌, ap, sym, ◌+◌, ◌∷◌, drop, drop_of_length-le, arith}
use Rattle.std.specs.Borrow.{Bor}
use Rattle.std.proofs.lemmas.List.{drop_more}
use Rattle.assembly_tree.specs.declared.members.Param.{Param}
use Rattle.image_rows.specs.ParamRows.{IsParamRow, param_bytes}
use Rattle.image_members.specs.Places.{lent}
use Rattle.image_rows.proofs.ParamLemmas.{param_kept, CanPushParam, param_can}
use Rattle.image_members.proofs.PushLemmas.{pushes_begin, pushes_can, pushes_few, pushes_room, pushes_on, pushes_end}
use Rattle.image_rows.proofs.param_rows.push_params.Goals as goal

pub loop-param-init : goal.loop-param-init
loop-param-init c = pushes_begin 0x08 IsParamRow param_bytes param_kept CanPushParam param_can c.args.refs.now c.args.rows.now (lent c.args.params.now) c.requires.known c.requires.plain c.requires.few c.requires.room

pub push_param-requires-clause-known : goal.push_param-requires-clause-known
push_param-requires-clause-known c = c.loop-param.invariant.known

pub push_param-requires-clause-plain : goal.push_param-requires-clause-plain
push_param-requires-clause-plain c =
    let xs = c.args.params.now in
    let i = c.loop-param.param-index in
    let x = c.param-item.result in
    let here : drop i xs ≡ x ∷ drop (i + 1) xs = drop_more xs i x (omega arith) ∙ ap (λ (y : Bor Param). y ∷ drop (i + 1) xs) (sym c.param-item.is) in
    pushes_can 0x08 IsParamRow param_bytes param_kept CanPushParam param_can c.args.refs.now c.loop-param.refs c.args.rows.now c.loop-param.rows (lent xs) (lent (drop i xs)) (lent (drop (i + 1) xs)) x.now (ap (lent {X = Param}) here) c.loop-param.invariant

pub push_param-requires-clause-few : goal.push_param-requires-clause-few
push_param-requires-clause-few c =
    let xs = c.args.params.now in
    let i = c.loop-param.param-index in
    let x = c.param-item.result in
    let here : drop i xs ≡ x ∷ drop (i + 1) xs = drop_more xs i x (omega arith) ∙ ap (λ (y : Bor Param). y ∷ drop (i + 1) xs) (sym c.param-item.is) in
    pushes_few 0x08 IsParamRow param_bytes param_kept CanPushParam param_can c.args.refs.now c.loop-param.refs c.args.rows.now c.loop-param.rows (lent xs) (lent (drop i xs)) (lent (drop (i + 1) xs)) x.now (ap (lent {X = Param}) here) c.loop-param.invariant

pub push_param-requires-clause-room : goal.push_param-requires-clause-room
push_param-requires-clause-room c =
    let xs = c.args.params.now in
    let i = c.loop-param.param-index in
    let x = c.param-item.result in
    let here : drop i xs ≡ x ∷ drop (i + 1) xs = drop_more xs i x (omega arith) ∙ ap (λ (y : Bor Param). y ∷ drop (i + 1) xs) (sym c.param-item.is) in
    pushes_room 0x08 IsParamRow param_bytes param_kept CanPushParam param_can c.args.refs.now c.loop-param.refs c.args.rows.now c.loop-param.rows (lent xs) (lent (drop i xs)) (lent (drop (i + 1) xs)) x.now (ap (lent {X = Param}) here) c.loop-param.invariant

pub loop-param-preserved : goal.loop-param-preserved
loop-param-preserved c =
    let xs = c.args.params.now in
    let i = c.loop-param.param-index in
    let x = c.param-item.result in
    let here : drop i xs ≡ x ∷ drop (i + 1) xs = drop_more xs i x (omega arith) ∙ ap (λ (y : Bor Param). y ∷ drop (i + 1) xs) (sym c.param-item.is) in
    pushes_on 0x08 IsParamRow param_bytes param_kept CanPushParam param_can c.args.refs.now c.loop-param.refs c.push_param.new.refs c.args.rows.now c.loop-param.rows c.push_param.new.rows (lent xs) (lent (drop i xs)) (lent (drop (i + 1) xs)) x.now (ap (lent {X = Param}) here) c.loop-param.invariant
    c.in_ok-push_param.ensures

pub returns : goal.returns
returns c =
    let xs = c.args.params.now in
    let i = c.loop-param.param-index in
    pushes_end 0x08 IsParamRow param_bytes param_kept CanPushParam param_can c.args.refs.now c.loop-param.refs c.args.rows.now c.loop-param.rows (lent xs) (lent (drop i xs)) (ap (lent {X = Param}) (drop_of_length-le xs {i = i} (omega arith))) c.loop-param.invariant
