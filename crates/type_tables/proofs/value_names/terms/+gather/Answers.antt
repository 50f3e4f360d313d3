use Rattle.std.proofs.Common.{◌≡◌, ◌∙◌, ap, sym, ◌++◌}
use Rattle.std.specs.List.{flat_map}
use Rattle.type_terms.specs.declared.term.SigType.{SigType}
use Rattle.type_hierarchy.specs.Gathered.{gathered, if_value}
use Rattle.type_hierarchy.specs.ValueNames.{in_type, in_owner}
use Rattle.type_tables.proofs.Gathering.{both_in, none_in, one_in, in_instance, in_name, in_prim, in_class, in_value, in_var, in_mvar, in_modified, step_in}
use Rattle.type_tables.proofs.value_names.terms.+gather.Goals as goal

pub gather_owner-returns-in-Name : goal.gather_owner-returns-in-Name
gather_owner-returns-in-Name t c = rw (c.in-Name.is, in_name) (sym (none_in c.args.means.now c.args.into.now))

pub gather_type-returns-in-Value : goal.gather_type-returns-in-Value
gather_type-returns-in-Value t c = rw (c.in-Value.is, in_value, one_in) c.gather_name.ensures

pub gather_type-returns-in-Prim : goal.gather_type-returns-in-Prim
gather_type-returns-in-Prim t c = rw (c.in-Prim.is, in_prim) (sym (none_in c.args.means.now c.args.into.now))

pub gather_type-returns-in-Class : goal.gather_type-returns-in-Class
gather_type-returns-in-Class t c = rw (c.in-Class.is, in_class) (sym (none_in c.args.means.now c.args.into.now))

pub gather_type-returns-in-Var : goal.gather_type-returns-in-Var
gather_type-returns-in-Var t c = rw (c.in-Var.is, in_var) (sym (none_in c.args.means.now c.args.into.now))

pub gather_type-returns-in-MVar : goal.gather_type-returns-in-MVar
gather_type-returns-in-MVar t c = rw (c.in-MVar.is, in_mvar) (sym (none_in c.args.means.now c.args.into.now))

pub gather_types-loop-of-init : goal.gather_types-loop-of-init
gather_types-loop-of-init t c = sym (none_in c.args.means.now c.args.into.now)

pub gather_types-loop-of-preserved : goal.gather_types-loop-of-preserved
gather_types-loop-of-preserved t c =
    step_in in_type c.args.means.now c.args.into.now c.loop-of.into c.gather_type.new.into c.args.types.now c.loop-of.of-index c.of-item.result
    c.loop-of.invariant c.in_ok-gather_type.ensures c.loop-of-test.true c.of-item.is

pub gather_type-returns-in_ok-gather_if-in-Inst : goal.gather_type-returns-in_ok-gather_if-in-Inst
gather_type-returns-in_ok-gather_if-in-Inst t c =
    let m = c.args.means.now in
    let into = c.args.into.now in
    let mid = c.gather_if.new.into in
    let arm = c.in-Inst in
    let name = c.get.result.now in
    let head = if_value arm.value name in
    let e : gathered m into (in_type c.args.t.now) ≡ gathered m mid (flat_map in_type c.as_slice.result.now) =
    ap (λ (of : SigType). gathered m into (in_type of)) arm.is
    ∙ ap (gathered m into) (in_instance arm.value arm.name arm.args)
    ∙ (λ i. gathered m into (if_value arm.value (sym c.get.ensures i) ++ flat_map in_type arm.args))
    ∙ sym (both_in m into head (flat_map in_type arm.args))
    ∙ ap (λ ns. gathered m ns (flat_map in_type arm.args)) (sym c.in_ok-gather_if-in-Inst.ensures)
    ∙ ap (λ ts. gathered m mid (flat_map in_type ts)) (sym (c.as_slice.ensures ∙ c.get-in-Inst.ensures)) in
    rw e c.gather_types.ensures

pub gather_type-returns-in_ok-gather_owner-in-Mod : goal.gather_type-returns-in_ok-gather_owner-in-Mod
gather_type-returns-in_ok-gather_owner-in-Mod t c =
    let m = c.args.means.now in
    let into = c.args.into.now in
    let mid = c.gather_owner.new.into in
    let arm = c.in-Mod in
    let by = c.get-in-Mod.result.now in
    let of = c.get-in-Mod-2.result.now in
    let e : gathered m into (in_type c.args.t.now) ≡ gathered m mid (in_type of) =
    ap (λ (u : SigType). gathered m into (in_type u)) arm.is
    ∙ ap (gathered m into) (in_modified arm.required arm.by arm.of)
    ∙ (λ i. gathered m into (in_owner (sym c.get-in-Mod.ensures i) ++ in_type (sym c.get-in-Mod-2.ensures i)))
    ∙ sym (both_in m into (in_owner by) (in_type of))
    ∙ ap (λ ns. gathered m ns (in_type of)) (sym c.in_ok-gather_owner-in-Mod.ensures) in
    rw e c.gather_type-in-Mod.ensures
