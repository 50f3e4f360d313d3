use Rattle.std.proofs.Common.{refl, sym, ◌∙◌, ap}
use Rattle.pe_layout.specs.FileMap.{readable}
use Rattle.section_map.specs.Steps.{value_of}
use Rattle.section_map.proofs.Reading.{nothing_there, section_there}
use Rattle.section_map.proofs.map.SectionMap.readable.Goals as goal

pub returns-then-first-eq-NONE-clause-none : goal.returns-then-first-eq-NONE-clause-none
returns-then-first-eq-NONE-clause-none c =
    let first = c.first_at-first.ensures ∙ ap (λ s. value_of s c.args.rva) c.as_slice.ensures ∙ c.self.invariant.told.values c.args.rva in
    let nothing = nothing_there c.self.inside.file.now c.self.inside.table c.self.inside.steps c.args.rva c.first_at-first.result c.self.invariant first c.if-first-eq-NONE.true in
    let empty = ap (λ file. readable file c.args.rva) (sym c.self.view_is) ∙ nothing in
    (λ _. empty, λ _. refl)

pub readable_in-requires-clause-within : goal.readable_in-requires-clause-within
readable_in-requires-clause-within c =
    let first = c.first_at-first.ensures ∙ ap (λ s. value_of s c.args.rva) c.as_slice.ensures ∙ c.self.invariant.told.values c.args.rva in
    (section_there c.self.inside.file.now c.self.inside.table c.self.inside.steps c.args.rva c.first_at-first.result c.self.invariant first c.if-first-eq-NONE.false).within

pub readable_in-requires-clause-held : goal.readable_in-requires-clause-held
readable_in-requires-clause-held c =
    let first = c.first_at-first.ensures ∙ ap (λ s. value_of s c.args.rva) c.as_slice.ensures ∙ c.self.invariant.told.values c.args.rva in
    (section_there c.self.inside.file.now c.self.inside.table c.self.inside.steps c.args.rva c.first_at-first.result c.self.invariant first c.if-first-eq-NONE.false).held

pub returns-clause-none : goal.returns-clause-none
returns-clause-none c =
    let first = c.first_at-first.ensures ∙ ap (λ s. value_of s c.args.rva) c.as_slice.ensures ∙ c.self.invariant.told.values c.args.rva in
    let there = section_there c.self.inside.file.now c.self.inside.table c.self.inside.steps c.args.rva c.first_at-first.result c.self.invariant first c.if-first-eq-NONE.false in
    let same = ap (λ file. readable file c.args.rva) (sym c.self.view_is) ∙ there.found in
    rw same c.readable_in.ensures.none

pub returns-clause-bytes : goal.returns-clause-bytes
returns-clause-bytes c =
    let first = c.first_at-first.ensures ∙ ap (λ s. value_of s c.args.rva) c.as_slice.ensures ∙ c.self.invariant.told.values c.args.rva in
    let there = section_there c.self.inside.file.now c.self.inside.table c.self.inside.steps c.args.rva c.first_at-first.result c.self.invariant first c.if-first-eq-NONE.false in
    let same = ap (λ file. readable file c.args.rva) (sym c.self.view_is) ∙ there.found in
    rw same c.readable_in.ensures.bytes
