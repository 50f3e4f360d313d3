use Rattle.std.proofs.Common.{◌≡◌, ◌<◌, ◌^◌, None, Some, length, ap, sym, ◌∙◌, arith}
use Rattle.std.specs.Prelude.{Bool, false, true, if◌then◌else◌}
use Rattle.type_terms.specs.declared.name.Scope.TheVariants.{Extern, Here}
use Rattle.source_model.specs.Classes.{object_scope, system_object}
use Rattle.source_model.specs.Names.{is_declared_path}
use Rattle.elaborate.specs.Cores.{is_core_assembly}
use Rattle.elaborate.proofs.CoreLemmas.{first_core, place_within}
use Rattle.elaborate.proofs.cores.core_scope.Goals as goal

pub returns-in-Some : goal.returns-in-Some
returns-in-Some c s r is few =
    let within = place_within is_core_assembly c.args.externs.now c.in-Some.k (sym c.first_core.ensures ∙ c.in-Some.is) in
    ap (λ n. Some (Extern n)) (c.word_of.ensures (omega (arith, within, few)))
    ∙ ap (object_scope s) (sym c.in-Some.is) ∙ first_core s c.args.externs.now c.first_core.result is c.first_core.ensures

pub returns-then-branch : goal.returns-then-branch
returns-then-branch c s r is few =
    let declared : is_declared_path s system_object ≡ true = sym (c.in_ok-declares_object.ensures s r) ∙ c.if-branch.true in
    sym (ap (λ (b : Bool). if b then Some Here else None) declared)
    ∙ ap (object_scope s) (sym c.in_default.is) ∙ first_core s c.args.externs.now c.first_core.result is c.first_core.ensures

pub returns-else-branch : goal.returns-else-branch
returns-else-branch c s r is few =
    let declared : is_declared_path s system_object ≡ false = sym (c.in_ok-declares_object.ensures s r) ∙ c.if-branch.false in
    sym (ap (λ (b : Bool). if b then Some Here else None) declared)
    ∙ ap (object_scope s) (sym c.in_default.is) ∙ first_core s c.args.externs.now c.first_core.result is c.first_core.ensures
