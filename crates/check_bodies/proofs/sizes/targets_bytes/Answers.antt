use Rattle.std.proofs.Common.{◌≡◌, ◌+◌, ◌*◌, ◌≤◌, ◌++◌, length, ap, sym, ◌∙◌, arith}
use Rattle.std.specs.Prelude.{Bool, true, ◌==◌, if◌then◌else◌}
use Rattle.std.proofs.lemmas.Bool.Decides.{Decides-eqb}
use Rattle.ilasm_grammar.specs.declared.productions.TheConstants.{INSTRUCTION_SWITCH}
use Rattle.source_model.specs.Instructions.{targets}
use Rattle.check_bodies.proofs.OffsetLemmas.{four_each}
use Rattle.check_bodies.proofs.SizeLemmas.{targets_few}
use Rattle.check_bodies.proofs.sizes.targets_bytes.Goals as goal

pub returns : goal.returns
returns c p is e =
    let own : (p.production == INSTRUCTION_SWITCH) ≡ true =
    (Decides-eqb p.production INSTRUCTION_SWITCH).1 (is ∙ c.if-production-ne-INSTRUCTION_SWITCH.false) in
    let bytes = ap (λ (b : Bool). if b then 4 + 4 * length (targets p) else 4) own in
    let pushed = c.in_ok-push_targets.ensures p is e ∙ ap (λ ts. ts ++ targets p) c.new-tokens.ensures in
    let count : c.len.result ≡ length (targets p) = c.len.ensures ∙ ap length pushed in
    let few = targets_few p in
    let nodes = ap length e in
    let less : 4 + 4 * c.len.result ≤ 4 + 4 * length c.args.below.now = omega (arith, count, few, nodes, bytes) in
    let fits : c.past_most.result ≤ 18446744073709551615 = omega (arith, c.past_most.type_inv) in
    four_each c.len.result c.saturating_mul.result c.saturating_add.result (length c.args.below.now) c.past_most.result 18446744073709551615
    c.saturating_mul.ensures c.saturating_add.ensures less c.past_most.ensures fits
    ∙ ap (λ n. 4 + 4 * n) count ∙ sym bytes
