use Rattle.std.proofs.Common.{◌≡◌, refl, sym, ◌∙◌, ap}
use Rattle.name_numbers.specs.Names.{named_at}
use Rattle.name_numbers.specs.declared.numbering.Named.{Named}
use Rattle.name_numbers.specs.declared.numbering.Numbering.{Numbering}
use Rattle.name_numbers.proofs.Passes.{visited}
use Rattle.name_numbers.proofs.numbering.visit.Goals as goal

pub returns : goal.returns
returns c =
    let old : Numbering = c.args.numbering.now in
    let seen : c.named_at-outer.result ≡ named_at old.named.items c.node_at-node.result.parent = c.named_at-outer.ensures ∙ ap (λ ns. named_at ns c.node_at-node.result.parent) c.deref.ensures.value in
    let here : c.named_at.result ≡ named_at old.named.items c.args.k = c.named_at.ensures ∙ ap (λ ns. named_at ns c.args.k) c.deref-2.ensures.value in
    visited c.args.texts.now c.args.nodes.now c.args._last c.args.k old c.requires.state c.requires.inside c.requires.there c.requires.node
    c.node_at-node.result c.node_at-node.ensures c.named_at-outer.result seen
    (ap (λ (n : Named). n.depth) (sym here) ∙ c.if-named_at-ne0.false) c.if-outer-eq0.false c.if-outer-gt-MAX_TEXTS.false
    _ c.in_ok-number.number c.in_ok-number.ensures.finds c.in_ok-number.ensures.gives refl
