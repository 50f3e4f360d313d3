use Rattle.std.proofs.Common.{◌≡◌, ◌∙◌, ap, sym}
use Rattle.type_terms.specs.declared.term.SigType.TheVariants as type
use Rattle.type_terms.specs.Hashing.{mix, mix_name, flag_number, mix_type, mix_types}
use Rattle.type_terms.proofs.MixedArguments.{mix_type-Inst}
use Rattle.type_terms.proofs.hashing.+hashing.Goals as goal

pub mix_type-returns-in-Inst : goal.mix_type-returns-in-Inst
mix_type-returns-in-Inst t c =
    let begun : c.mix-in-Inst-2.result ≡ mix (mix c.args.hash 0x203) (flag_number c.in-Inst.value) =
    c.mix-in-Inst-2.ensures ∙ (λ i. mix (c.mix-in-Inst.ensures i) (c.flag_number.ensures i)) in
    let named : c.mix_name-in-Inst.result ≡ mix_name (mix (mix c.args.hash 0x203) (flag_number c.in-Inst.value)) c.get.result.now =
    c.mix_name-in-Inst.ensures ∙ ap (λ h. mix_name h c.get.result.now) begun in
    let parts : mix_types c.mix_name-in-Inst.result c.as_slice.result.now ≡ mix_types (mix_name (mix (mix c.args.hash 0x203) (flag_number c.in-Inst.value)) c.get.result.now) c.in-Inst.args =
    λ i. mix_types (named i) ((c.as_slice.ensures ∙ c.get-in-Inst.ensures) i) in
    c.mix_types.ensures ∙ parts ∙ sym (mix_type-Inst c.args.hash c.in-Inst.value c.get.result.now c.in-Inst.args) ∙ sym (ap (mix_type c.args.hash) (c.in-Inst.is ∙ ap (λ n. type.Inst c.in-Inst.value n c.in-Inst.args) (sym c.get.ensures)))
