use Rattle.std.proofs.Common.{◌≡◌, ◌∙◌, ap, sym, ◌+◌, ◌≤◌, ◌∷◌, drop, drop_of_length-le, arith}
use Rattle.std.proofs.lemmas.List.{drop_more}
use Rattle.assembly_tree.specs.declared.assembly.ExternAssembly.{ExternAssembly}
use Rattle.image_members.specs.ManifestRows.{IsExternRow, extern_bytes}
use Rattle.image_members.proofs.ManifestLemmas.{extern_kept, CanPush, can_push}
use Rattle.image_members.proofs.PushLemmas.{pushes_begin, pushes_can, pushes_few, pushes_room, pushes_on, pushes_end}
use Rattle.image_rows.proofs.manifest_rows.push_externs.Goals as goal

pub loop-named-init : goal.loop-named-init
loop-named-init c = pushes_begin 0x23 IsExternRow extern_bytes extern_kept CanPush can_push c.args.refs.now c.args.rows.now c.args.externs.now c.requires.known c.requires.plain c.requires.few c.requires.room

pub push_extern-requires-clause-known : goal.push_extern-requires-clause-known
push_extern-requires-clause-known c = c.loop-named.invariant.known

pub push_extern-requires-clause-plain : goal.push_extern-requires-clause-plain
push_extern-requires-clause-plain c =
    let xs = c.args.externs.now in
    let i = c.loop-named.named-index in
    let x = c.named-item.result in
    let here : drop i xs ≡ x ∷ drop (i + 1) xs = drop_more xs i x (omega arith) ∙ ap (λ (y : ExternAssembly). y ∷ drop (i + 1) xs) (sym c.named-item.is) in
    pushes_can 0x23 IsExternRow extern_bytes extern_kept CanPush can_push c.args.refs.now c.loop-named.refs c.args.rows.now c.loop-named.rows xs (drop i xs) (drop (i + 1) xs) x here c.loop-named.invariant

pub push_extern-requires-clause-few : goal.push_extern-requires-clause-few
push_extern-requires-clause-few c =
    let xs = c.args.externs.now in
    let i = c.loop-named.named-index in
    let x = c.named-item.result in
    let here : drop i xs ≡ x ∷ drop (i + 1) xs = drop_more xs i x (omega arith) ∙ ap (λ (y : ExternAssembly). y ∷ drop (i + 1) xs) (sym c.named-item.is) in
    pushes_few 0x23 IsExternRow extern_bytes extern_kept CanPush can_push c.args.refs.now c.loop-named.refs c.args.rows.now c.loop-named.rows xs (drop i xs) (drop (i + 1) xs) x here c.loop-named.invariant

pub push_extern-requires-clause-room : goal.push_extern-requires-clause-room
push_extern-requires-clause-room c =
    let xs = c.args.externs.now in
    let i = c.loop-named.named-index in
    let x = c.named-item.result in
    let here : drop i xs ≡ x ∷ drop (i + 1) xs = drop_more xs i x (omega arith) ∙ ap (λ (y : ExternAssembly). y ∷ drop (i + 1) xs) (sym c.named-item.is) in
    pushes_room 0x23 IsExternRow extern_bytes extern_kept CanPush can_push c.args.refs.now c.loop-named.refs c.args.rows.now c.loop-named.rows xs (drop i xs) (drop (i + 1) xs) x here c.loop-named.invariant

pub loop-named-preserved : goal.loop-named-preserved
loop-named-preserved c =
    let xs = c.args.externs.now in
    let i = c.loop-named.named-index in
    let x = c.named-item.result in
    let here : drop i xs ≡ x ∷ drop (i + 1) xs = drop_more xs i x (omega arith) ∙ ap (λ (y : ExternAssembly). y ∷ drop (i + 1) xs) (sym c.named-item.is) in
    pushes_on 0x23 IsExternRow extern_bytes extern_kept CanPush can_push c.args.refs.now c.loop-named.refs c.push_extern.new.refs c.args.rows.now c.loop-named.rows c.push_extern.new.rows xs (drop i xs) (drop (i + 1) xs) x here c.loop-named.invariant
    c.in_ok-push_extern.ensures

pub returns : goal.returns
returns c =
    let xs = c.args.externs.now in
    let i = c.loop-named.named-index in
    pushes_end 0x23 IsExternRow extern_bytes extern_kept CanPush can_push c.args.refs.now c.loop-named.refs c.args.rows.now c.loop-named.rows xs (drop i xs) (drop_of_length-le xs {i = i} (omega arith)) c.loop-named.invariant
