use Rattle.std.proofs.Common.{rules, ◌≡◌, ◌∙◌, ap, sym, subst, ◌+◌, ◌*◌, ◌^◌, ◌<◌, ◌≤◌, List, ◌∷◌, map, drop, drop_of_length-le, arith}
use Rattle.std.specs.Prelude.{sum_by}
use Rattle.std.proofs.lemmas.List.{drop_more}
use Rattle.std.proofs.lemmas.List.Sums.{sum_by-cons}
use Rattle.std.proofs.lemmas.Result.{IfOk-weaker, on_ok_weaker}
use Rattle.type_terms.specs.Depth.{depth, owner_depth, largest}
use Rattle.type_terms.specs.declared.term.Owner.{Owner}
use Rattle.type_terms.specs.declared.term.Owner.TheVariants as owners
use Rattle.type_terms.specs.declared.term.Owner.TheOpen as layer
use Rattle.type_terms.specs.declared.term.SigType.{SigType}
use Rattle.type_terms.specs.declared.term.SigType.TheVariants as type
use Rattle.assembly_tree.specs.Weight.{name_weight, type_weight, owner_weight}
use Rattle.sig_codec.specs.Spellable as spellable
use Rattle.image_tokens.specs.References.{size}
use Rattle.image_tokens.specs.Writable.{IsWritable, IsOwnerWritable, AreWritable}
use Rattle.image_tokens.proofs.DepthLemmas.{depth_at, owner_depth_spec, item_depth}
use Rattle.image_tokens.proofs.NotedLemmas.{name_owner_weight, spec_owner_weight, owned_name, owned_type, noted_leaf, noted_name, noted_round, noted_inst, noted_modified, to_begin, to_go_on, to_end}
use Rattle.image_tokens.proofs.SpellingSizes.{weight_at, weight-args}
use Rattle.image_tokens.proofs.WritableLemmas.{parts_at, owner_parts_at, of_class, of_value, of_var, of_mvar, of_sz_array, of_by_ref, of_pointer, of_pinned, of_array, of_modified, of_inst, of_name, of_spec, spec_bounds, of_more, still_writable, still_writable_each}
use Rattle.image_tokens.proofs.noting.+noting.Goals as goal

pub note_type-returns-in-Prim : goal.note_type-returns-in-Prim
note_type-returns-in-Prim t c =
    noted_leaf c.args.refs.now c.args.t.now (type.Prim c.in-Prim.field-0) (layer.Prim c.in-Prim.field-0) c.in-Prim.is (type.outs-Prim c.in-Prim.field-0) c.requires.known spellable.prim (omega arith)

pub note_type-returns-in-Var : goal.note_type-returns-in-Var
note_type-returns-in-Var t c =
    noted_leaf c.args.refs.now c.args.t.now (type.Var c.in-Var.field-0) (layer.Var c.in-Var.field-0) c.in-Var.is (type.outs-Var c.in-Var.field-0) c.requires.known (spellable.var (of_var c.args.refs.now c.in-Var.field-0 (parts_at c.args.refs.now c.args.t.now (type.Var c.in-Var.field-0) (layer.Var c.in-Var.field-0) c.in-Var.is (type.outs-Var c.in-Var.field-0) c.requires.writable))) (omega arith)

pub note_type-returns-in-MVar : goal.note_type-returns-in-MVar
note_type-returns-in-MVar t c =
    noted_leaf c.args.refs.now c.args.t.now (type.MVar c.in-MVar.field-0) (layer.MVar c.in-MVar.field-0) c.in-MVar.is (type.outs-MVar c.in-MVar.field-0) c.requires.known (spellable.mvar (of_mvar c.args.refs.now c.in-MVar.field-0 (parts_at c.args.refs.now c.args.t.now (type.MVar c.in-MVar.field-0) (layer.MVar c.in-MVar.field-0) c.in-MVar.is (type.outs-MVar c.in-MVar.field-0) c.requires.writable))) (omega arith)

pub note_type-refer_name-requires-clause-nameable : goal.note_type-refer_name-requires-clause-nameable
note_type-refer_name-requires-clause-nameable t c =
    of_class c.args.refs.now c.in-Class.name (parts_at c.args.refs.now c.args.t.now (type.Class c.in-Class.name) (layer.Class c.in-Class.name) c.in-Class.is (type.outs-Class c.in-Class.name) c.requires.writable)

pub note_type-refer_name-requires-clause-room : goal.note_type-refer_name-requires-clause-room
note_type-refer_name-requires-clause-room t c =
    let heavy = weight_at c.args.t.now (type.Class c.in-Class.name) (layer.Class c.in-Class.name) c.in-Class.is (type.outs-Class c.in-Class.name) in
    let room = c.requires.room in
    omega arith

pub note_type-returns-in_ok-refer_name-in-Class : goal.note_type-returns-in_ok-refer_name-in-Class
note_type-returns-in_ok-refer_name-in-Class t c =
    noted_name c.args.refs.now c.refer_name.new.refs c.args.t.now (type.Class c.in-Class.name) (layer.Class c.in-Class.name) c.in-Class.name c.in_ok-refer_name-in-Class.field-0 c.in-Class.is (type.outs-Class c.in-Class.name) c.in_ok-refer_name-in-Class.ensures spellable.class (omega arith)

pub note_type-refer_name-requires-in-Value-clause-nameable : goal.note_type-refer_name-requires-in-Value-clause-nameable
note_type-refer_name-requires-in-Value-clause-nameable t c =
    of_value c.args.refs.now c.in-Value.name (parts_at c.args.refs.now c.args.t.now (type.Value c.in-Value.name) (layer.Value c.in-Value.name) c.in-Value.is (type.outs-Value c.in-Value.name) c.requires.writable)

pub note_type-refer_name-requires-in-Value-clause-room : goal.note_type-refer_name-requires-in-Value-clause-room
note_type-refer_name-requires-in-Value-clause-room t c =
    let heavy = weight_at c.args.t.now (type.Value c.in-Value.name) (layer.Value c.in-Value.name) c.in-Value.is (type.outs-Value c.in-Value.name) in
    let room = c.requires.room in
    omega arith

pub note_type-returns-in_ok-refer_name-in-Value : goal.note_type-returns-in_ok-refer_name-in-Value
note_type-returns-in_ok-refer_name-in-Value t c =
    noted_name c.args.refs.now c.refer_name-in-Value.new.refs c.args.t.now (type.Value c.in-Value.name) (layer.Value c.in-Value.name) c.in-Value.name c.in_ok-refer_name-in-Value.field-0 c.in-Value.is (type.outs-Value c.in-Value.name) c.in_ok-refer_name-in-Value.ensures spellable.value (omega arith)

pub note_type-refer_name-requires-in-Inst-clause-nameable : goal.note_type-refer_name-requires-in-Inst-clause-nameable
note_type-refer_name-requires-in-Inst-clause-nameable t c =
    (of_inst c.args.refs.now c.in-Inst.value c.get.result.now c.in-Inst.args (parts_at c.args.refs.now c.args.t.now (type.Inst c.in-Inst.value c.get.result.now c.in-Inst.args) (layer.Inst c.in-Inst.value c.get.result.now c.in-Inst.args) (c.in-Inst.is ∙ ap (λ n. type.Inst c.in-Inst.value n c.in-Inst.args) (sym c.get.ensures)) (type.outs-Inst c.in-Inst.value c.get.result.now c.in-Inst.args) c.requires.writable)).0

pub note_type-refer_name-requires-in-Inst-clause-room : goal.note_type-refer_name-requires-in-Inst-clause-room
note_type-refer_name-requires-in-Inst-clause-room t c =
    let heavy = weight_at c.args.t.now (type.Inst c.in-Inst.value c.in-Inst.name c.in-Inst.args) (layer.Inst c.in-Inst.value c.in-Inst.name c.in-Inst.args) c.in-Inst.is (type.outs-Inst c.in-Inst.value c.in-Inst.name c.in-Inst.args) in
    let same = ap name_weight c.get.ensures in
    let room = c.requires.room in
    omega arith

pub note_type-note_types-requires : goal.note_type-note_types-requires
note_type-note_types-requires t c =
    let n = c.in_ok-refer_name-in-Inst.ensures in
    let h = of_inst c.args.refs.now c.in-Inst.value c.get.result.now c.in-Inst.args (parts_at c.args.refs.now c.args.t.now (type.Inst c.in-Inst.value c.get.result.now c.in-Inst.args) (layer.Inst c.in-Inst.value c.get.result.now c.in-Inst.args) (c.in-Inst.is ∙ ap (λ n. type.Inst c.in-Inst.value n c.in-Inst.args) (sym c.get.ensures)) (type.outs-Inst c.in-Inst.value c.get.result.now c.in-Inst.args) c.requires.writable) in
    let refs = c.refer_name-in-Inst.new.refs in
    let known = n.known in
    let k : AreWritable refs c.as_slice.result.now = still_writable_each c.args.refs.now refs n.grows c.as_slice.result.now (subst (λ (x : List SigType). AreWritable c.args.refs.now x) (sym (c.as_slice.ensures ∙ c.get-in-Inst.ensures)) h.3) in
    let heavy = weight_at c.args.t.now (type.Inst c.in-Inst.value c.get.result.now c.in-Inst.args) (layer.Inst c.in-Inst.value c.get.result.now c.in-Inst.args) (c.in-Inst.is ∙ ap (λ n. type.Inst c.in-Inst.value n c.in-Inst.args) (sym c.get.ensures)) (type.outs-Inst c.in-Inst.value c.get.result.now c.in-Inst.args) in
    let room = c.requires.room in
    let first = n.room in
    let q = weight-args c.in-Inst.args in
    let j = ap (sum_by type_weight) (c.as_slice.ensures ∙ c.get-in-Inst.ensures) in
    let fits : size refs + sum_by type_weight c.as_slice.result.now ≤ 2 ^ 26 = omega arith in
    let deep = depth_at c.args.t.now (type.Inst c.in-Inst.value c.get.result.now c.in-Inst.args) (layer.Inst c.in-Inst.value c.get.result.now c.in-Inst.args) (c.in-Inst.is ∙ ap (λ n. type.Inst c.in-Inst.value n c.in-Inst.args) (sym c.get.ensures)) (type.outs-Inst c.in-Inst.value c.get.result.now c.in-Inst.args) in
    let same : largest (map depth c.as_slice.result.now) ≡ largest (map depth c.in-Inst.args) = ap (λ (x : List SigType). largest (map depth x)) (c.as_slice.ensures ∙ c.get-in-Inst.ensures) in
    let smaller : 3 * largest (map depth c.as_slice.result.now) + 1 < 3 * depth c.args.t.now = omega arith in
    search rules

pub note_type-returns-in_ok-refer_name-in-Inst : goal.note_type-returns-in_ok-refer_name-in-Inst
note_type-returns-in_ok-refer_name-in-Inst t c =
    let h = of_inst c.args.refs.now c.in-Inst.value c.get.result.now c.in-Inst.args (parts_at c.args.refs.now c.args.t.now (type.Inst c.in-Inst.value c.get.result.now c.in-Inst.args) (layer.Inst c.in-Inst.value c.get.result.now c.in-Inst.args) (c.in-Inst.is ∙ ap (λ n. type.Inst c.in-Inst.value n c.in-Inst.args) (sym c.get.ensures)) (type.outs-Inst c.in-Inst.value c.get.result.now c.in-Inst.args) c.requires.writable) in
    on_ok_weaker c.note_types.result (λ each. noted_inst c.args.refs.now c.refer_name-in-Inst.new.refs c.note_types.new.refs c.args.t.now c.in-Inst.value c.get.result.now c.in-Inst.args c.as_slice.result.now c.in_ok-refer_name-in-Inst.field-0 (c.in-Inst.is ∙ ap (λ n. type.Inst c.in-Inst.value n c.in-Inst.args) (sym c.get.ensures)) (c.as_slice.ensures ∙ c.get-in-Inst.ensures)
    c.in_ok-refer_name-in-Inst.ensures h.1 h.2 each) c.note_types.ensures

pub note_type-note_type-requires : goal.note_type-note_type-requires
note_type-note_type-requires t c =
    let known = c.requires.known in
    let k : IsWritable c.args.refs.now c.get-in-SzArray.result.now = subst (λ (x : SigType). IsWritable c.args.refs.now x) (sym c.get-in-SzArray.ensures) (of_sz_array c.args.refs.now c.in-SzArray.of (parts_at c.args.refs.now c.args.t.now (type.SzArray c.in-SzArray.of) (layer.SzArray c.in-SzArray.of) c.in-SzArray.is (type.outs-SzArray c.in-SzArray.of) c.requires.writable)) in
    let heavy = weight_at c.args.t.now (type.SzArray c.in-SzArray.of) (layer.SzArray c.in-SzArray.of) c.in-SzArray.is (type.outs-SzArray c.in-SzArray.of) in
    let room = c.requires.room in
    let j = ap type_weight c.get-in-SzArray.ensures in
    let fits : size c.args.refs.now + type_weight c.get-in-SzArray.result.now ≤ 2 ^ 26 = omega arith in
    let deep = depth_at c.args.t.now (type.SzArray c.in-SzArray.of) (layer.SzArray c.in-SzArray.of) c.in-SzArray.is (type.outs-SzArray c.in-SzArray.of) in
    let i = ap depth c.get-in-SzArray.ensures in
    let smaller : 3 * depth c.get-in-SzArray.result.now < 3 * depth c.args.t.now = omega arith in
    search rules

pub note_type-returns-in-SzArray : goal.note_type-returns-in-SzArray
note_type-returns-in-SzArray t c =
    on_ok_weaker c.note_type.result (λ h. noted_round c.args.refs.now c.note_type.new.refs c.args.t.now (type.SzArray c.in-SzArray.of) c.in-SzArray.of c.get-in-SzArray.result.now (layer.SzArray c.in-SzArray.of) c.in-SzArray.is (type.outs-SzArray c.in-SzArray.of) c.get-in-SzArray.ensures h spellable.sz_array (omega arith)) c.note_type.ensures

pub note_type-note_type-requires-in-Array : goal.note_type-note_type-requires-in-Array
note_type-note_type-requires-in-Array t c =
    let known = c.requires.known in
    let k : IsWritable c.args.refs.now c.get-in-Array.result.now = subst (λ (x : SigType). IsWritable c.args.refs.now x) (sym c.get-in-Array.ensures) (of_array c.args.refs.now c.in-Array.of c.in-Array.rank c.in-Array.sizes c.in-Array.lower (parts_at c.args.refs.now c.args.t.now (type.Array c.in-Array.of c.in-Array.rank c.in-Array.sizes c.in-Array.lower) (layer.Array c.in-Array.of c.in-Array.rank c.in-Array.sizes c.in-Array.lower) c.in-Array.is (type.outs-Array c.in-Array.of c.in-Array.rank c.in-Array.sizes c.in-Array.lower) c.requires.writable)).0 in
    let heavy = weight_at c.args.t.now (type.Array c.in-Array.of c.in-Array.rank c.in-Array.sizes c.in-Array.lower) (layer.Array c.in-Array.of c.in-Array.rank c.in-Array.sizes c.in-Array.lower) c.in-Array.is (type.outs-Array c.in-Array.of c.in-Array.rank c.in-Array.sizes c.in-Array.lower) in
    let room = c.requires.room in
    let j = ap type_weight c.get-in-Array.ensures in
    let fits : size c.args.refs.now + type_weight c.get-in-Array.result.now ≤ 2 ^ 26 = omega arith in
    let deep = depth_at c.args.t.now (type.Array c.in-Array.of c.in-Array.rank c.in-Array.sizes c.in-Array.lower) (layer.Array c.in-Array.of c.in-Array.rank c.in-Array.sizes c.in-Array.lower) c.in-Array.is (type.outs-Array c.in-Array.of c.in-Array.rank c.in-Array.sizes c.in-Array.lower) in
    let i = ap depth c.get-in-Array.ensures in
    let smaller : 3 * depth c.get-in-Array.result.now < 3 * depth c.args.t.now = omega arith in
    search rules

pub note_type-returns-in-Array : goal.note_type-returns-in-Array
note_type-returns-in-Array t c =
    on_ok_weaker c.note_type-in-Array.result (λ h. noted_round c.args.refs.now c.note_type-in-Array.new.refs c.args.t.now (type.Array c.in-Array.of c.in-Array.rank c.in-Array.sizes c.in-Array.lower) c.in-Array.of c.get-in-Array.result.now (layer.Array c.in-Array.of c.in-Array.rank c.in-Array.sizes c.in-Array.lower) c.in-Array.is (type.outs-Array c.in-Array.of c.in-Array.rank c.in-Array.sizes c.in-Array.lower) c.get-in-Array.ensures h (λ x. spellable.array x (of_array c.args.refs.now c.in-Array.of c.in-Array.rank c.in-Array.sizes c.in-Array.lower (parts_at c.args.refs.now c.args.t.now (type.Array c.in-Array.of c.in-Array.rank c.in-Array.sizes c.in-Array.lower) (layer.Array c.in-Array.of c.in-Array.rank c.in-Array.sizes c.in-Array.lower) c.in-Array.is (type.outs-Array c.in-Array.of c.in-Array.rank c.in-Array.sizes c.in-Array.lower) c.requires.writable)).1) (omega arith)) c.note_type-in-Array.ensures

pub note_type-note_type-requires-in-ByRef : goal.note_type-note_type-requires-in-ByRef
note_type-note_type-requires-in-ByRef t c =
    let known = c.requires.known in
    let k : IsWritable c.args.refs.now c.get-in-ByRef.result.now = subst (λ (x : SigType). IsWritable c.args.refs.now x) (sym c.get-in-ByRef.ensures) (of_by_ref c.args.refs.now c.in-ByRef.of (parts_at c.args.refs.now c.args.t.now (type.ByRef c.in-ByRef.of) (layer.ByRef c.in-ByRef.of) c.in-ByRef.is (type.outs-ByRef c.in-ByRef.of) c.requires.writable)) in
    let heavy = weight_at c.args.t.now (type.ByRef c.in-ByRef.of) (layer.ByRef c.in-ByRef.of) c.in-ByRef.is (type.outs-ByRef c.in-ByRef.of) in
    let room = c.requires.room in
    let j = ap type_weight c.get-in-ByRef.ensures in
    let fits : size c.args.refs.now + type_weight c.get-in-ByRef.result.now ≤ 2 ^ 26 = omega arith in
    let deep = depth_at c.args.t.now (type.ByRef c.in-ByRef.of) (layer.ByRef c.in-ByRef.of) c.in-ByRef.is (type.outs-ByRef c.in-ByRef.of) in
    let i = ap depth c.get-in-ByRef.ensures in
    let smaller : 3 * depth c.get-in-ByRef.result.now < 3 * depth c.args.t.now = omega arith in
    search rules

pub note_type-returns-in-ByRef : goal.note_type-returns-in-ByRef
note_type-returns-in-ByRef t c =
    on_ok_weaker c.note_type-in-ByRef.result (λ h. noted_round c.args.refs.now c.note_type-in-ByRef.new.refs c.args.t.now (type.ByRef c.in-ByRef.of) c.in-ByRef.of c.get-in-ByRef.result.now (layer.ByRef c.in-ByRef.of) c.in-ByRef.is (type.outs-ByRef c.in-ByRef.of) c.get-in-ByRef.ensures h spellable.by_ref (omega arith)) c.note_type-in-ByRef.ensures

pub note_type-note_type-requires-in-Pointer : goal.note_type-note_type-requires-in-Pointer
note_type-note_type-requires-in-Pointer t c =
    let known = c.requires.known in
    let k : IsWritable c.args.refs.now c.get-in-Pointer.result.now = subst (λ (x : SigType). IsWritable c.args.refs.now x) (sym c.get-in-Pointer.ensures) (of_pointer c.args.refs.now c.in-Pointer.of (parts_at c.args.refs.now c.args.t.now (type.Pointer c.in-Pointer.of) (layer.Pointer c.in-Pointer.of) c.in-Pointer.is (type.outs-Pointer c.in-Pointer.of) c.requires.writable)) in
    let heavy = weight_at c.args.t.now (type.Pointer c.in-Pointer.of) (layer.Pointer c.in-Pointer.of) c.in-Pointer.is (type.outs-Pointer c.in-Pointer.of) in
    let room = c.requires.room in
    let j = ap type_weight c.get-in-Pointer.ensures in
    let fits : size c.args.refs.now + type_weight c.get-in-Pointer.result.now ≤ 2 ^ 26 = omega arith in
    let deep = depth_at c.args.t.now (type.Pointer c.in-Pointer.of) (layer.Pointer c.in-Pointer.of) c.in-Pointer.is (type.outs-Pointer c.in-Pointer.of) in
    let i = ap depth c.get-in-Pointer.ensures in
    let smaller : 3 * depth c.get-in-Pointer.result.now < 3 * depth c.args.t.now = omega arith in
    search rules

pub note_type-returns-in-Pointer : goal.note_type-returns-in-Pointer
note_type-returns-in-Pointer t c =
    on_ok_weaker c.note_type-in-Pointer.result (λ h. noted_round c.args.refs.now c.note_type-in-Pointer.new.refs c.args.t.now (type.Pointer c.in-Pointer.of) c.in-Pointer.of c.get-in-Pointer.result.now (layer.Pointer c.in-Pointer.of) c.in-Pointer.is (type.outs-Pointer c.in-Pointer.of) c.get-in-Pointer.ensures h spellable.pointer (omega arith)) c.note_type-in-Pointer.ensures

pub note_type-note_type-requires-in-Pinned : goal.note_type-note_type-requires-in-Pinned
note_type-note_type-requires-in-Pinned t c =
    let known = c.requires.known in
    let k : IsWritable c.args.refs.now c.get-in-Pinned.result.now = subst (λ (x : SigType). IsWritable c.args.refs.now x) (sym c.get-in-Pinned.ensures) (of_pinned c.args.refs.now c.in-Pinned.of (parts_at c.args.refs.now c.args.t.now (type.Pinned c.in-Pinned.of) (layer.Pinned c.in-Pinned.of) c.in-Pinned.is (type.outs-Pinned c.in-Pinned.of) c.requires.writable)) in
    let heavy = weight_at c.args.t.now (type.Pinned c.in-Pinned.of) (layer.Pinned c.in-Pinned.of) c.in-Pinned.is (type.outs-Pinned c.in-Pinned.of) in
    let room = c.requires.room in
    let j = ap type_weight c.get-in-Pinned.ensures in
    let fits : size c.args.refs.now + type_weight c.get-in-Pinned.result.now ≤ 2 ^ 26 = omega arith in
    let deep = depth_at c.args.t.now (type.Pinned c.in-Pinned.of) (layer.Pinned c.in-Pinned.of) c.in-Pinned.is (type.outs-Pinned c.in-Pinned.of) in
    let i = ap depth c.get-in-Pinned.ensures in
    let smaller : 3 * depth c.get-in-Pinned.result.now < 3 * depth c.args.t.now = omega arith in
    search rules

pub note_type-returns-in-Pinned : goal.note_type-returns-in-Pinned
note_type-returns-in-Pinned t c =
    on_ok_weaker c.note_type-in-Pinned.result (λ h. noted_round c.args.refs.now c.note_type-in-Pinned.new.refs c.args.t.now (type.Pinned c.in-Pinned.of) c.in-Pinned.of c.get-in-Pinned.result.now (layer.Pinned c.in-Pinned.of) c.in-Pinned.is (type.outs-Pinned c.in-Pinned.of) c.get-in-Pinned.ensures h spellable.pinned (omega arith)) c.note_type-in-Pinned.ensures

pub note_type-refer_owner-requires : goal.note_type-refer_owner-requires
note_type-refer_owner-requires t c =
    let known = c.requires.known in
    let h = of_modified c.args.refs.now c.in-Mod.required c.in-Mod.by c.in-Mod.of (parts_at c.args.refs.now c.args.t.now (type.Mod c.in-Mod.required c.in-Mod.by c.in-Mod.of) (layer.Mod c.in-Mod.required c.in-Mod.by c.in-Mod.of) c.in-Mod.is (type.outs-Mod c.in-Mod.required c.in-Mod.by c.in-Mod.of) c.requires.writable) in
    let k : IsOwnerWritable c.args.refs.now c.get-in-Mod.result.now = subst (λ (x : Owner). IsOwnerWritable c.args.refs.now x) (sym c.get-in-Mod.ensures) h.0 in
    let heavy = weight_at c.args.t.now (type.Mod c.in-Mod.required c.in-Mod.by c.in-Mod.of) (layer.Mod c.in-Mod.required c.in-Mod.by c.in-Mod.of) c.in-Mod.is (type.outs-Mod c.in-Mod.required c.in-Mod.by c.in-Mod.of) in
    let room = c.requires.room in
    let j = ap owner_weight c.get-in-Mod.ensures in
    let fits : size c.args.refs.now + owner_weight c.get-in-Mod.result.now ≤ 2 ^ 26 = omega arith in
    let deep = depth_at c.args.t.now (type.Mod c.in-Mod.required c.in-Mod.by c.in-Mod.of) (layer.Mod c.in-Mod.required c.in-Mod.by c.in-Mod.of) c.in-Mod.is (type.outs-Mod c.in-Mod.required c.in-Mod.by c.in-Mod.of) in
    let i = ap owner_depth c.get-in-Mod.ensures in
    let smaller : 3 * owner_depth c.get-in-Mod.result.now + 1 < 3 * depth c.args.t.now = omega arith in
    search rules

pub note_type-note_type-requires-in-Mod : goal.note_type-note_type-requires-in-Mod
note_type-note_type-requires-in-Mod t c =
    let o = c.in_ok-refer_owner-in-Mod.ensures in
    let refs = c.refer_owner.new.refs in
    let known = o.known in
    let h = of_modified c.args.refs.now c.in-Mod.required c.in-Mod.by c.in-Mod.of (parts_at c.args.refs.now c.args.t.now (type.Mod c.in-Mod.required c.in-Mod.by c.in-Mod.of) (layer.Mod c.in-Mod.required c.in-Mod.by c.in-Mod.of) c.in-Mod.is (type.outs-Mod c.in-Mod.required c.in-Mod.by c.in-Mod.of) c.requires.writable) in
    let k : IsWritable refs c.get-in-Mod-2.result.now = still_writable c.args.refs.now refs o.grows c.get-in-Mod-2.result.now (subst (λ (x : SigType). IsWritable c.args.refs.now x) (sym c.get-in-Mod-2.ensures) h.1) in
    let heavy = weight_at c.args.t.now (type.Mod c.in-Mod.required c.in-Mod.by c.in-Mod.of) (layer.Mod c.in-Mod.required c.in-Mod.by c.in-Mod.of) c.in-Mod.is (type.outs-Mod c.in-Mod.required c.in-Mod.by c.in-Mod.of) in
    let room = c.requires.room in
    let first = o.room in
    let j = ap type_weight c.get-in-Mod-2.ensures in
    let p = ap owner_weight c.get-in-Mod.ensures in
    let fits : size refs + type_weight c.get-in-Mod-2.result.now ≤ 2 ^ 26 = omega arith in
    let deep = depth_at c.args.t.now (type.Mod c.in-Mod.required c.in-Mod.by c.in-Mod.of) (layer.Mod c.in-Mod.required c.in-Mod.by c.in-Mod.of) c.in-Mod.is (type.outs-Mod c.in-Mod.required c.in-Mod.by c.in-Mod.of) in
    let i = ap depth c.get-in-Mod-2.ensures in
    let smaller : 3 * depth c.get-in-Mod-2.result.now < 3 * depth c.args.t.now = omega arith in
    search rules

pub note_type-returns-in_ok-refer_owner-in-Mod : goal.note_type-returns-in_ok-refer_owner-in-Mod
note_type-returns-in_ok-refer_owner-in-Mod t c =
    on_ok_weaker c.note_type-in-Mod.result (λ h. noted_modified c.args.refs.now c.refer_owner.new.refs c.note_type-in-Mod.new.refs c.args.t.now c.in-Mod.required c.in-Mod.by c.get-in-Mod.result.now c.in-Mod.of c.get-in-Mod-2.result.now
    c.in_ok-refer_owner-in-Mod.field-0 c.in-Mod.is c.get-in-Mod.ensures c.get-in-Mod-2.ensures c.in_ok-refer_owner-in-Mod.ensures h) c.note_type-in-Mod.ensures

pub refer_owner-refer_name-requires-clause-nameable : goal.refer_owner-refer_name-requires-clause-nameable
refer_owner-refer_name-requires-clause-nameable t c =
    of_name c.args.refs.now c.in-Name.name (owner_parts_at c.args.refs.now c.args.owner.now (owners.Name c.in-Name.name) (layer.Name c.in-Name.name) c.in-Name.is (owners.outs-Name c.in-Name.name) c.requires.writable)

pub refer_owner-refer_name-requires-clause-room : goal.refer_owner-refer_name-requires-clause-room
refer_owner-refer_name-requires-clause-room t c =
    let weight = name_owner_weight c.args.owner.now c.in-Name.name c.in-Name.is in
    let room = c.requires.room in
    omega arith

pub refer_owner-returns-in-Name : goal.refer_owner-returns-in-Name
refer_owner-returns-in-Name t c =
    IfOk-weaker c.refer_name.result _ _ (λ token h. owned_name c.args.refs.now c.refer_name.new.refs c.args.owner.now c.in-Name.name token c.in-Name.is h) c.refer_name.ensures

pub refer_owner-note_type-requires : goal.refer_owner-note_type-requires
refer_owner-note_type-requires t c =
    let known = c.requires.known in
    let k : IsWritable c.args.refs.now c.in-Spec.of = of_spec c.args.refs.now c.in-Spec.of (owner_parts_at c.args.refs.now c.args.owner.now (owners.Spec c.in-Spec.of) (layer.Spec c.in-Spec.of) c.in-Spec.is (owners.outs-Spec c.in-Spec.of) c.requires.writable) in
    let weight = spec_owner_weight c.args.owner.now c.in-Spec.of c.in-Spec.is in
    let room = c.requires.room in
    let fits : size c.args.refs.now + type_weight c.in-Spec.of ≤ 2 ^ 26 = omega arith in
    let deep = owner_depth_spec c.args.owner.now c.in-Spec.of c.in-Spec.is in
    let smaller : 3 * depth c.in-Spec.of < 3 * owner_depth c.args.owner.now + 1 = omega arith in
    search rules

pub refer_owner-refer_type-requires-clause-known : goal.refer_owner-refer_type-requires-clause-known
refer_owner-refer_type-requires-clause-known t c =
    c.in_ok-note_type-in-Spec.ensures.known

pub refer_owner-refer_type-requires-clause-spelled : goal.refer_owner-refer_type-requires-clause-spelled
refer_owner-refer_type-requires-clause-spelled t c =
    c.in_ok-note_type-in-Spec.ensures.spells

pub refer_owner-refer_type-requires-clause-in_bounds : goal.refer_owner-refer_type-requires-clause-in_bounds
refer_owner-refer_type-requires-clause-in_bounds t c =
    spec_bounds c.args.refs.now c.in-Spec.of (owner_parts_at c.args.refs.now c.args.owner.now (owners.Spec c.in-Spec.of) (layer.Spec c.in-Spec.of) c.in-Spec.is (owners.outs-Spec c.in-Spec.of) c.requires.writable)

pub refer_owner-refer_type-requires-clause-room : goal.refer_owner-refer_type-requires-clause-room
refer_owner-refer_type-requires-clause-room t c =
    let weight = spec_owner_weight c.args.owner.now c.in-Spec.of c.in-Spec.is in
    let room = c.requires.room in
    let more = c.in_ok-note_type-in-Spec.ensures.room in
    omega arith

pub refer_owner-returns-in_ok-note_type-in-Spec : goal.refer_owner-returns-in_ok-note_type-in-Spec
refer_owner-returns-in_ok-note_type-in-Spec t c =
    IfOk-weaker c.refer_type.result _ _ (λ token h. owned_type c.args.refs.now c.note_type.new.refs c.refer_type.new.refs c.args.owner.now c.in-Spec.of token c.in-Spec.is c.in_ok-note_type-in-Spec.ensures h) c.refer_type.ensures

pub note_types-loop-t-init : goal.note_types-loop-t-init
note_types-loop-t-init t c =
    to_begin c.args.refs.now c.args.types.now c.requires.known c.requires.writable

pub note_types-note_type-requires : goal.note_types-note_type-requires
note_types-note_type-requires t c =
    let ts = c.args.types.now in
    let i = c.loop-t.t-index in
    let x = c.t-item.result in
    let here : drop i ts ≡ x ∷ drop (i + 1) ts = drop_more ts i x (omega arith) ∙ ap (λ (y : SigType). y ∷ drop (i + 1) ts) (sym c.t-item.is) in
    let so_far = c.loop-t.invariant in
    let known = so_far.known in
    let k : IsWritable c.loop-t.refs x = (of_more c.loop-t.refs x (drop (i + 1) ts) (subst (λ (y : List SigType). AreWritable c.loop-t.refs y) here so_far.writable)).0 in
    let heavy = ap (sum_by type_weight) here ∙ sum_by-cons type_weight x (drop (i + 1) ts) in
    let room = c.requires.room in
    let now = so_far.room in
    let shorter = so_far.shorter in
    let fits : size c.loop-t.refs + type_weight x ≤ 2 ^ 26 = omega arith in
    let within = item_depth ts i x (drop (i + 1) ts) here in
    let smaller : 3 * depth x < 3 * largest (map depth ts) + 1 = omega arith in
    search rules

pub note_types-loop-t-preserved : goal.note_types-loop-t-preserved
note_types-loop-t-preserved t c =
    let ts = c.args.types.now in
    let i = c.loop-t.t-index in
    let x = c.t-item.result in
    let here : drop i ts ≡ x ∷ drop (i + 1) ts = drop_more ts i x (omega arith) ∙ ap (λ (y : SigType). y ∷ drop (i + 1) ts) (sym c.t-item.is) in
    to_go_on c.args.refs.now c.loop-t.refs c.note_type.new.refs ts (drop i ts) (drop (i + 1) ts) x here c.loop-t.invariant c.in_ok-note_type.ensures

pub note_types-returns : goal.note_types-returns
note_types-returns t c =
    let ts = c.args.types.now in
    let i = c.loop-t.t-index in
    to_end c.args.refs.now c.loop-t.refs ts (drop i ts) (drop_of_length-le ts {i = i} (omega arith)) c.loop-t.invariant
