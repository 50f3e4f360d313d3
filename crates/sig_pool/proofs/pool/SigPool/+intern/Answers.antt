use Rattle.std.proofs.Common.{◌∙◌, sym, ap, subst, IfOk, ◌+◌, arith}
use Rattle.type_terms.specs.Nodes.{nodes, list_nodes}
use Rattle.type_terms.specs.declared.term.SigType.TheVariants as type
use Rattle.sig_pool.specs.Pool.{Has}
use Rattle.sig_pool.proofs.Building.{built_SzArray, built_ByRef, built_Pointer, built_Pinned, built_Array, built_ModName, built_ModSpec, nodes_Inst, nodes_take, nodes_front, more_taken}
use Rattle.sig_pool.proofs.PoolLaws.{extends_trans}
use Rattle.sig_pool.proofs.pool.SigPool.+intern.Goals as goal

pub intern-returns-in_ok-of-in-SzArray-clause-ok : goal.intern-returns-in_ok-of-in-SzArray-clause-ok
intern-returns-in_ok-of-in-SzArray-clause-ok t c =
    subst (λ x. IfOk c.place-in-SzArray.result (λ id. Has c.place-in-SzArray.new.self id x))
    (built_SzArray c.intern.new.self c.in_ok-of-in-SzArray.of c.get-in-SzArray.result.now c.args.t.now c.in_ok-of-in-SzArray.ensures.ok (c.in-SzArray.is ∙ ap type.SzArray (sym c.get-in-SzArray.ensures)))
    c.place-in-SzArray.ensures.ok

pub intern-returns-in_ok-of-in-ByRef-clause-ok : goal.intern-returns-in_ok-of-in-ByRef-clause-ok
intern-returns-in_ok-of-in-ByRef-clause-ok t c =
    subst (λ x. IfOk c.place-in-ByRef.result (λ id. Has c.place-in-ByRef.new.self id x))
    (built_ByRef c.intern-in-ByRef.new.self c.in_ok-of-in-ByRef.of c.get-in-ByRef.result.now c.args.t.now c.in_ok-of-in-ByRef.ensures.ok (c.in-ByRef.is ∙ ap type.ByRef (sym c.get-in-ByRef.ensures)))
    c.place-in-ByRef.ensures.ok

pub intern-returns-in_ok-of-in-Pointer-clause-ok : goal.intern-returns-in_ok-of-in-Pointer-clause-ok
intern-returns-in_ok-of-in-Pointer-clause-ok t c =
    subst (λ x. IfOk c.place-in-Pointer.result (λ id. Has c.place-in-Pointer.new.self id x))
    (built_Pointer c.intern-in-Pointer.new.self c.in_ok-of-in-Pointer.of c.get-in-Pointer.result.now c.args.t.now c.in_ok-of-in-Pointer.ensures.ok (c.in-Pointer.is ∙ ap type.Pointer (sym c.get-in-Pointer.ensures)))
    c.place-in-Pointer.ensures.ok

pub intern-returns-in_ok-of-in-Pinned-clause-ok : goal.intern-returns-in_ok-of-in-Pinned-clause-ok
intern-returns-in_ok-of-in-Pinned-clause-ok t c =
    subst (λ x. IfOk c.place-in-Pinned.result (λ id. Has c.place-in-Pinned.new.self id x))
    (built_Pinned c.intern-in-Pinned.new.self c.in_ok-of-in-Pinned.of c.get-in-Pinned.result.now c.args.t.now c.in_ok-of-in-Pinned.ensures.ok (c.in-Pinned.is ∙ ap type.Pinned (sym c.get-in-Pinned.ensures)))
    c.place-in-Pinned.ensures.ok

pub intern-returns-in_ok-of-in-Array-clause-ok : goal.intern-returns-in_ok-of-in-Array-clause-ok
intern-returns-in_ok-of-in-Array-clause-ok t c =
    let a = c.in-Array in
    subst (λ x. IfOk c.place-in-Array.result (λ id. Has c.place-in-Array.new.self id x))
    (built_Array c.intern-in-Array.new.self c.in_ok-of-in-Array.of c.get-in-Array.result.now c.args.t.now a.rank c.get-in-Array-2.result.now c.get-in-Array-3.result.now c.in_ok-of-in-Array.ensures.ok
    (a.is ∙ (λ i. type.Array (sym c.get-in-Array.ensures i) a.rank (sym c.get-in-Array-2.ensures i) (sym c.get-in-Array-3.ensures i))))
    c.place-in-Array.ensures.ok

pub intern_modified-returns-in-Name-clause-ok : goal.intern_modified-returns-in-Name-clause-ok
intern_modified-returns-in-Name-clause-ok t c =
    subst (λ x. IfOk c.place.result (λ id. Has c.place.new.self id x))
    (built_ModName c.args.self.now c.args.of c.args.required c.in-Name.name c.args.by.now c.in-Name.is)
    c.place.ensures.ok

pub intern_modified-returns-in_ok-inner-in-Spec-clause-ok : goal.intern_modified-returns-in_ok-inner-in-Spec-clause-ok
intern_modified-returns-in_ok-inner-in-Spec-clause-ok t c =
    let i = c.in_ok-inner-in-Spec in
    subst (λ x. IfOk c.place-in-Spec.result (λ id. Has c.place-in-Spec.new.self id x))
    (built_ModSpec c.args.self.now c.intern.new.self i.inner c.args.of c.args.required c.in-Spec.inner c.args.by.now i.ensures.extends c.requires i.ensures.ok c.in-Spec.is)
    c.place-in-Spec.ensures.ok

pub intern-returns-in_err-args-in-Inst-clause-bound : goal.intern-returns-in_err-args-in-Inst-clause-bound
intern-returns-in_err-args-in-Inst-clause-bound t c =
    omega (arith, nodes_Inst c.args.t.now c.in-Inst.value c.in-Inst.name c.in-Inst.args c.in-Inst.is, ap list_nodes (c.as_slice.ensures ∙ c.get.ensures), c.in_err-args-in-Inst.ensures.bound)

pub intern-returns-in_ok-args-in-Inst-clause-bound : goal.intern-returns-in_ok-args-in-Inst-clause-bound
intern-returns-in_ok-args-in-Inst-clause-bound t c =
    omega (arith, nodes_Inst c.args.t.now c.in-Inst.value c.in-Inst.name c.in-Inst.args c.in-Inst.is, ap list_nodes (c.as_slice.ensures ∙ c.get.ensures), c.in_ok-args-in-Inst.ensures.bound, c.place-in-Inst.ensures.bound)

pub intern_all-returns-in_err-id-clause-bound : goal.intern_all-returns-in_err-id-clause-bound
intern_all-returns-in_err-id-clause-bound t c =
    let i = c.loop-t.t-index in
    let x = c.t-item.result in
    let ts = c.args.types.now in
    omega (arith, nodes_take ts i x c.loop-t-test.true, nodes_front ts (i + 1), ap nodes c.t-item.is, c.in_err-id.ensures.bound, c.loop-t.invariant.bound)

pub intern_all-returns-in_err-push-clause-bound : goal.intern_all-returns-in_err-push-clause-bound
intern_all-returns-in_err-push-clause-bound t c =
    let i = c.loop-t.t-index in
    let x = c.t-item.result in
    let ts = c.args.types.now in
    omega (arith, nodes_take ts i x c.loop-t-test.true, nodes_front ts (i + 1), ap nodes c.t-item.is, c.in_ok-id.ensures.bound, c.loop-t.invariant.bound)

pub intern_all-loop-t-preserved : goal.intern_all-loop-t-preserved
intern_all-loop-t-preserved t c =
    let i = c.loop-t.t-index in
    let x = c.t-item.result in
    let ts = c.args.types.now in
    record {
      ids = more_taken c.loop-t.self c.intern.new.self c.loop-t.ids c.push.new.self ts i c.in_ok-id.id x c.loop-t.invariant.ids c.in_ok-id.ensures.extends c.in_ok-id.ensures.ok c.loop-t-test.true c.t-item.is c.in_ok-push.ensures.ok;
      extends = extends_trans c.args.self.now c.loop-t.self c.intern.new.self c.loop-t.invariant.extends c.in_ok-id.ensures.extends;
      bound = omega (arith, nodes_take ts i x c.loop-t-test.true, ap nodes c.t-item.is, c.in_ok-id.ensures.bound, c.loop-t.invariant.bound);
    }
