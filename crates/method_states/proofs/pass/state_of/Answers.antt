use Rattle.std.proofs.Common.{◌≡◌, ◌∙◌, sym, refl, arith}
use Rattle.image_model.specs.Bodies.{HasCodeType}
use Rattle.image_model.specs.Columns.{method_rva}
use Rattle.method_states.proofs.Steps.{seen_kept, seen_more, first_below, state_again, state_looked, named_again, named_looked}
use Rattle.method_states.proofs.pass.state_of.Goals as goal

pub returns-then-not-has_code_type-clause-seen : goal.returns-then-not-has_code_type-clause-seen
returns-then-not-has_code_type-clause-seen c = seen_kept c.args.image.now c.args.method c.args.seen.now c.requires.seen

pub returns-then-rva-eq0-clause-seen : goal.returns-then-rva-eq0-clause-seen
returns-then-rva-eq0-clause-seen c = seen_kept c.args.image.now c.args.method c.args.seen.now c.requires.seen

pub overflow_sub-first : goal.overflow_sub-first
overflow_sub-first c =
    let x = first_below c.args.image.now c.args.method c.in-Some.first c.from.result c.args.states.now c.args.seen.now c.requires.states c.requires.seen (sym c.in-Some.ensures) in
    x.0

pub bounds-states-first : goal.bounds-states-first
bounds-states-first c =
    let x = first_below c.args.image.now c.args.method c.in-Some.first c.from.result c.args.states.now c.args.seen.now c.requires.states c.requires.seen (sym c.in-Some.ensures) in
    x.1

pub returns-in-Some-clause-state : goal.returns-in-Some-clause-state
returns-in-Some-clause-state c =
    let code : HasCodeType c.args.image.now c.args.method = c.if-not-has_code_type.ensures.0 refl in
    let e : c.from.result ≡ method_rva c.args.image.now c.args.method = c.from.ensures ∙ c.rva_of-rva.ensures in
    state_again c.args.image.now c.args.method c.in-Some.first c.args.states.now _ c.again.result c.args.seen.now c.from.result c.requires.there c.requires.states c.requires.seen
    (sym c.in-Some.ensures) e (λ z. c.if-rva-eq0.false (sym c.from.ensures ∙ z)) code c.again.ensures

pub returns-in-Some-clause-seen : goal.returns-in-Some-clause-seen
returns-in-Some-clause-seen c = seen_kept c.args.image.now c.args.method c.args.seen.now c.requires.seen

pub returns-in-Some-clause-named : goal.returns-in-Some-clause-named
returns-in-Some-clause-named c =
    named_again c.args.image.now c.args.method c.in-Some.first c.from.result c.args.seen.now c.args.named.now c.requires.there c.requires.seen (sym c.in-Some.ensures)
    (c.from.ensures ∙ c.rva_of-rva.ensures) c.requires.named

pub returns-clause-state : goal.returns-clause-state
returns-clause-state c =
    let code : HasCodeType c.args.image.now c.args.method = c.if-not-has_code_type.ensures.0 refl in
    state_looked c.args.image.now c.args.method c.rva_of-rva.result c.args.named.now c.look.new.marks c.in_ok-state.state c.requires.there c.if-rva-eq0.false c.rva_of-rva.ensures code c.in_ok-state.ensures

pub returns-clause-seen : goal.returns-clause-seen
returns-clause-seen c =
    let code : HasCodeType c.args.image.now c.args.method = c.if-not-has_code_type.ensures.0 refl in
    seen_more c.args.image.now c.args.method c.from-2.result c.args.seen.now c.insert.new.self c.requires.there c.requires.seen c.in_ok-insert.ensures.ok
    (c.from-2.ensures ∙ c.rva_of-rva.ensures) code

pub returns-clause-named : goal.returns-clause-named
returns-clause-named c =
    let code : HasCodeType c.args.image.now c.args.method = c.if-not-has_code_type.ensures.0 refl in
    named_looked c.args.image.now c.args.method c.rva_of-rva.result c.args.named.now c.look.new.marks c.in_ok-state.state c.requires.there c.if-rva-eq0.false c.rva_of-rva.ensures code
    c.in_ok-state.ensures c.requires.named
