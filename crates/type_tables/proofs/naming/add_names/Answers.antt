use Rattle.std.proofs.Common.{◌≡◌, ◌∙◌, ◌∷◌, ◌<◌, ◌≤◌, [], ap, sym, subst, take, length, get_or, rules}
use Rattle.assembly_tree.specs.declared.assembly.ExternAssembly.{ExternAssembly}
use Rattle.type_tables.specs.Entries.{IsEntries, extended}
use Rattle.type_hierarchy.specs.Scopes.{extern_names, name_of}
use Rattle.type_tables.proofs.EntryLemmas.{extended_none, extended_by, extended_both}
use Rattle.type_tables.proofs.NamingLemmas.{taken_step, taken_all}
use Rattle.type_tables.proofs.naming.add_names.Goals as goal

pub loop-other-init : goal.loop-other-init
loop-other-init c = λ all ok. subst (IsEntries c.push_new.new.self) (sym (extended_none c.args.image.now all)) ok

pub loop-other-preserved : goal.loop-other-preserved
loop-other-preserved c = λ all ok.
    let image = c.args.image.now in
    let externs = c.args.reference.now.externs in
    let names = extern_names c.args.reference.now in
    let i = c.loop-other.other-index in
    let name = c.other-item.result.name in
    let low : i < length externs = search rules in
    let is : c.other-item.result ≡ get_or externs i c.other-item.result = search rules in
    subst (IsEntries c.push_new-in-loop-other.new.self)
    (extended_both image all (take i names) (name ∷ []) ∙ ap (extended image all) (taken_step (λ (e : ExternAssembly). e.name) externs i c.other-item.result low is))
    (c.in_ok-push_new-2.ensures (extended image all (take i names)) (c.loop-other.invariant all ok))

pub returns : goal.returns
returns c = λ all ok.
    let image = c.args.image.now in
    let own = name_of c.args.reference.now in
    let externs = c.args.reference.now.externs in
    let past : length externs ≤ c.loop-other.other-index = search rules in
    subst (IsEntries c.loop-other.entries)
    (ap (extended image (extended image all (own ∷ []))) (taken_all (λ (e : ExternAssembly). e.name) externs c.loop-other.other-index past)
    ∙ extended_by image own all (extern_names c.args.reference.now))
    (c.loop-other.invariant (extended image all (own ∷ [])) (c.in_ok-push_new.ensures all ok))
