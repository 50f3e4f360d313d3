use Rattle.std.proofs.Common.{◌≡◌, ◌∙◌, sym, subst, ℕ, ◌+◌, ◌*◌, ◌<◌, length, map, IfOk, arith}
use Rattle.type_terms.specs.Depth.{largest}
use Rattle.type_terms.specs.declared.term.Owner.{Owner}
use Rattle.sig_pool.specs.Terms.{AllBelow}
use Rattle.type_order.proofs.TermLemmas.{bound_of, bound_at, within_length, below_of, owner_is, is_Prim, is_Class, is_Value, is_Var, is_MVar, is_SzArray, is_Array, is_ByRef, is_Pointer, is_Pinned, is_Inst, is_Mod}
use Rattle.type_order.proofs.terms.+term.Goals as goal

pub term_at-all_terms_at-requires : goal.term_at-all_terms_at-requires
term_at-all_terms_at-requires t c =
    let ids = c.as_slice.result.now in
    let low : AllBelow c.args.id ids = rw c.as_slice.ensures (below_of c.args.id _ _ c.node.ensures.below c.in-Inst.is) in
    let falls : 2 * largest (map (λ k. k + 1) ids) < t = omega (arith, bound_of c.args.id ids low, c.decreases) in
    (falls, within_length c.args.id (length c.args.pool.now) ids low (omega (arith, c.requires)))

pub all_terms_at-term_at-requires : goal.all_terms_at-term_at-requires
all_terms_at-term_at-requires t c =
    let ids = c.args.ids.now in
    let low : c.id-item.result < largest (map (λ k. k + 1) ids) =
    subst (λ (x : ℕ). x < largest (map (λ k. k + 1) ids)) (sym c.id-item.is) (bound_at ids c.loop-id.id-index c.id-item.result c.loop-id-test.true) in
    let falls : 2 * c.id-item.result + 1 < t = omega (arith, low, c.decreases) in
    (falls, subst (λ (x : ℕ). x < length c.args.pool.now) (sym c.id-item.is) (c.requires c.loop-id.id-index c.id-item.result c.loop-id-test.true))

pub boxed_owner_at-returns-in_ok-of-in-Spec : goal.boxed_owner_at-returns-in_ok-of-in-Spec
boxed_owner_at-returns-in_ok-of-in-Spec t c =
    subst (λ (x : Owner). IfOk c.new-in-Spec.result (λ o. o ≡ x)) (owner_is c.args.pool.now c.args.owner.now c.in-Spec.id c.in_ok-of-in-Spec.of c.in-Spec.is c.in_ok-of-in-Spec.ensures) c.new-in-Spec.ensures

pub term_at-returns-in-Prim : goal.term_at-returns-in-Prim
term_at-returns-in-Prim t c = is_Prim c.args.pool.now c.args.id _ c.node.ensures.term c.in-Prim.prim c.in-Prim.is

pub term_at-returns-in_ok-name-in-Class : goal.term_at-returns-in_ok-name-in-Class
term_at-returns-in_ok-name-in-Class t c = is_Class c.args.pool.now c.args.id _ c.node.ensures.term c.in_ok-name-in-Class.name c.in-Class.name c.in-Class.is c.in_ok-name-in-Class.ensures

pub term_at-returns-in_ok-name-in-Value : goal.term_at-returns-in_ok-name-in-Value
term_at-returns-in_ok-name-in-Value t c = is_Value c.args.pool.now c.args.id _ c.node.ensures.term c.in_ok-name-in-Value.name c.in-Value.name c.in-Value.is c.in_ok-name-in-Value.ensures

pub term_at-returns-in-Var : goal.term_at-returns-in-Var
term_at-returns-in-Var t c = is_Var c.args.pool.now c.args.id _ c.node.ensures.term c.in-Var.number c.in-Var.is

pub term_at-returns-in-MVar : goal.term_at-returns-in-MVar
term_at-returns-in-MVar t c = is_MVar c.args.pool.now c.args.id _ c.node.ensures.term c.in-MVar.number c.in-MVar.is

pub term_at-returns-in_ok-of-in-SzArray : goal.term_at-returns-in_ok-of-in-SzArray
term_at-returns-in_ok-of-in-SzArray t c = is_SzArray c.args.pool.now c.args.id _ c.node.ensures.term c.in-SzArray.of c.in_ok-of-in-SzArray.of c.in-SzArray.is c.in_ok-of-in-SzArray.ensures

pub term_at-returns-in_ok-of-in-ByRef : goal.term_at-returns-in_ok-of-in-ByRef
term_at-returns-in_ok-of-in-ByRef t c = is_ByRef c.args.pool.now c.args.id _ c.node.ensures.term c.in-ByRef.of c.in_ok-of-in-ByRef.of c.in-ByRef.is c.in_ok-of-in-ByRef.ensures

pub term_at-returns-in_ok-of-in-Pointer : goal.term_at-returns-in_ok-of-in-Pointer
term_at-returns-in_ok-of-in-Pointer t c = is_Pointer c.args.pool.now c.args.id _ c.node.ensures.term c.in-Pointer.of c.in_ok-of-in-Pointer.of c.in-Pointer.is c.in_ok-of-in-Pointer.ensures

pub term_at-returns-in_ok-of-in-Pinned : goal.term_at-returns-in_ok-of-in-Pinned
term_at-returns-in_ok-of-in-Pinned t c = is_Pinned c.args.pool.now c.args.id _ c.node.ensures.term c.in-Pinned.of c.in_ok-of-in-Pinned.of c.in-Pinned.is c.in_ok-of-in-Pinned.ensures

pub term_at-returns-in_ok-bounds-in-Array : goal.term_at-returns-in_ok-bounds-in-Array
term_at-returns-in_ok-bounds-in-Array t c = is_Array c.args.pool.now c.args.id _ c.node.ensures.term c.in-Array.of c.in-Array.rank c.in-Array.sizes c.in_ok-extents-in-Array.extents c.in-Array.lower c.in_ok-bounds-in-Array.bounds c.in_ok-of-in-Array.of c.in-Array.is c.in_ok-of-in-Array.ensures (c.in_ok-extents-in-Array.ensures ∙ c.in_ok-sizes-in-Array.ensures) (c.in_ok-bounds-in-Array.ensures ∙ c.in_ok-lower-in-Array.ensures)

pub term_at-returns-in_ok-given-in-Inst : goal.term_at-returns-in_ok-given-in-Inst
term_at-returns-in_ok-given-in-Inst t c = is_Inst c.args.pool.now c.args.id _ c.node.ensures.term c.in-Inst.value c.in_ok-named-in-Inst.named c.in-Inst.name c.in-Inst.args c.in_ok-given-in-Inst.given c.in-Inst.is (c.in_ok-named-in-Inst.ensures ∙ c.in_ok-name-in-Inst.ensures) (c.in_ok-given-in-Inst.ensures ∙ (rw c.as_slice.ensures at c.in_ok-args-in-Inst.ensures))

pub term_at-returns-in_ok-of-in-Mod : goal.term_at-returns-in_ok-of-in-Mod
term_at-returns-in_ok-of-in-Mod t c = is_Mod c.args.pool.now c.args.id _ c.node.ensures.term c.in-Mod.required c.in-Mod.by c.in-Mod.of c.in_ok-by-in-Mod.by c.in_ok-of-in-Mod.of c.in-Mod.is c.in_ok-by-in-Mod.ensures c.in_ok-of-in-Mod.ensures
