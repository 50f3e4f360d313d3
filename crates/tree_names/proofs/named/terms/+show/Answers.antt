use Rattle.std.proofs.Common.{◌≡◌, ◌∙◌, ap, sym, ◌∷◌, [], ◌++◌}
use Rattle.std.specs.List.{flat_map}
use Rattle.type_terms.specs.declared.term.SigType.{SigType}
use Rattle.tree_names.specs.Looking.{seen_all}
use Rattle.tree_names.specs.Named.{names_in_type, names_in_owner}
use Rattle.tree_names.proofs.Seeing.{both_seen, none_seen, one_seen, first_seen, in_instance, in_name, in_prim, in_class, in_value, in_var, in_mvar, in_modified, step_seen}
use Rattle.tree_names.proofs.named.terms.+show.Goals as goal

pub show_owner-returns-in-Name : goal.show_owner-returns-in-Name
show_owner-returns-in-Name g t c = rw (c.in-Name.is, in_name, one_seen) c.look.ensures

pub show_type-returns-in-Class : goal.show_type-returns-in-Class
show_type-returns-in-Class g t c = rw (c.in-Class.is, in_class, one_seen) c.look.ensures

pub show_type-returns-in-Value : goal.show_type-returns-in-Value
show_type-returns-in-Value g t c = rw (c.in-Value.is, in_value, one_seen) c.look-in-Value.ensures

pub show_type-returns-in-Prim : goal.show_type-returns-in-Prim
show_type-returns-in-Prim g t c = rw (c.in-Prim.is, in_prim) (sym (none_seen g.L.Looks.seen c.args.to.now))

pub show_type-returns-in-Var : goal.show_type-returns-in-Var
show_type-returns-in-Var g t c = rw (c.in-Var.is, in_var) (sym (none_seen g.L.Looks.seen c.args.to.now))

pub show_type-returns-in-MVar : goal.show_type-returns-in-MVar
show_type-returns-in-MVar g t c = rw (c.in-MVar.is, in_mvar) (sym (none_seen g.L.Looks.seen c.args.to.now))

pub show_types-loop-of-init : goal.show_types-loop-of-init
show_types-loop-of-init g t c = sym (none_seen g.L.Looks.seen c.args.to.now)

pub show_types-loop-of-preserved : goal.show_types-loop-of-preserved
show_types-loop-of-preserved g t c =
    step_seen g.L.Looks.seen names_in_type c.args.to.now c.loop-of.to c.show_type.new.to c.args.types.now c.loop-of.of-index c.of-item.result
    c.loop-of.invariant c.in_ok-show_type.ensures c.loop-of-test.true c.of-item.is

pub show_type-returns-in_ok-look-in-Inst : goal.show_type-returns-in_ok-look-in-Inst
show_type-returns-in_ok-look-in-Inst g t c =
    let s = g.L.Looks.seen in
    let to = c.args.to.now in
    let mid = c.look-in-Inst.new.self in
    let arm = c.in-Inst in
    let e : seen_all s to (names_in_type c.args.t.now) ≡ seen_all s mid (flat_map names_in_type c.as_slice.result.now) =
    ap (λ (of : SigType). seen_all s to (names_in_type of)) arm.is
    ∙ ap (seen_all s to) (in_instance arm.value arm.name arm.args)
    ∙ first_seen s to arm.name (flat_map names_in_type arm.args)
    ∙ ap (λ n. seen_all s (s to n) (flat_map names_in_type arm.args)) (sym c.get.ensures)
    ∙ ap (λ x. seen_all s x (flat_map names_in_type arm.args)) (sym c.in_ok-look-in-Inst.ensures)
    ∙ ap (λ ts. seen_all s mid (flat_map names_in_type ts)) (sym (c.as_slice.ensures ∙ c.get-in-Inst.ensures)) in
    rw e c.show_types.ensures

pub show_type-returns-in_ok-show_owner-in-Mod : goal.show_type-returns-in_ok-show_owner-in-Mod
show_type-returns-in_ok-show_owner-in-Mod g t c =
    let s = g.L.Looks.seen in
    let to = c.args.to.now in
    let mid = c.show_owner.new.to in
    let arm = c.in-Mod in
    let by = c.get-in-Mod.result.now in
    let of = c.get-in-Mod-2.result.now in
    let e : seen_all s to (names_in_type c.args.t.now) ≡ seen_all s mid (names_in_type of) =
    ap (λ (u : SigType). seen_all s to (names_in_type u)) arm.is
    ∙ ap (seen_all s to) (in_modified arm.required arm.by arm.of)
    ∙ (λ i. seen_all s to (names_in_owner (sym c.get-in-Mod.ensures i) ++ names_in_type (sym c.get-in-Mod-2.ensures i)))
    ∙ sym (both_seen s to (names_in_owner by) (names_in_type of))
    ∙ ap (λ x. seen_all s x (names_in_type of)) (sym c.in_ok-show_owner-in-Mod.ensures) in
    rw e c.show_type-in-Mod.ensures
