use Rattle.std.proofs.Common.{◌≡◌, ℕ, ◌+◌, ◌<◌, ◌^◌, ◌∙◌, ap, subst, arith, rules}
use Rattle.pe_layout.specs.Fields.{u16_at}
use Rattle.pe_layout.specs.Headers.{signature_place_of, optional_size_of, section_count_of}
use Rattle.section_map.specs.Firsts.{first_holding}
use Rattle.section_map.specs.Steps.{Tell}
use Rattle.section_map.proofs.Headers.{opened}
use Rattle.section_map.proofs.map.SectionMap.new.Goals as goal

pub u32_at-signature-requires : goal.u32_at-signature-requires
u32_at-signature-requires c = (opened c.args.file.now c.requires).dos

pub u16_at-requires : goal.u16_at-requires
u16_at-requires c =
    let inside = (opened c.args.file.now c.requires).file in
    let signature : c.u32_at-signature.result ≡ signature_place_of c.args.file.now = c.u32_at-signature.ensures in
    omega (arith, inside, signature)

pub u16_at-requires-2 : goal.u16_at-requires-2
u16_at-requires-2 c =
    let inside = (opened c.args.file.now c.requires).file in
    let signature : c.u32_at-signature.result ≡ signature_place_of c.args.file.now = c.u32_at-signature.ensures in
    omega (arith, inside, signature)

pub steps_of-requires-clause-within : goal.steps_of-requires-clause-within
steps_of-requires-clause-within c =
    let inside = (opened c.args.file.now c.requires).sections in
    let signature : c.u32_at-signature.result ≡ signature_place_of c.args.file.now = c.u32_at-signature.ensures in
    let size : c.u16_at.result ≡ optional_size_of c.args.file.now = c.u16_at.ensures ∙ ap (λ (p : ℕ). u16_at c.args.file.now (p + 20)) signature in
    let count : c.u16_at-2.result ≡ section_count_of c.args.file.now = c.u16_at-2.ensures ∙ ap (λ (p : ℕ). u16_at c.args.file.now (p + 6)) signature in
    let same : c.from-count.result ≡ c.u16_at-2.result = cc in
    omega (arith, inside, signature, size, count, same)

pub invariant_of-result : goal.invariant_of-result
invariant_of-result c =
    let inside = (opened c.args.file.now c.requires).sections in
    let signature : c.u32_at-signature.result ≡ signature_place_of c.args.file.now = c.u32_at-signature.ensures in
    let size : c.u16_at.result ≡ optional_size_of c.args.file.now = c.u16_at.ensures ∙ ap (λ (p : ℕ). u16_at c.args.file.now (p + 20)) signature in
    let count : c.u16_at-2.result ≡ section_count_of c.args.file.now = c.u16_at-2.ensures ∙ ap (λ (p : ℕ). u16_at c.args.file.now (p + 6)) signature in
    let same : c.from-count.result ≡ c.u16_at-2.result = cc in
    let few : c.u16_at-2.result < 2 ^ 16 = search rules in
    record {
      table_is = omega (arith, signature, size);
      within = omega (arith, inside, signature, size);
      few = omega (arith, few, count);
      told = subst (λ (n : ℕ). Tell c.in_ok-steps.steps (first_holding c.args.file.now (c.u32_at-signature.result + 24 + c.u16_at.result) 0 n)) (same ∙ count) c.in_ok-steps.ensures;
    }
