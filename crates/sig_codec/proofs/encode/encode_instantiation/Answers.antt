use Rattle.std.proofs.Common.{subst, List, ℕ}
use Rattle.il_base.specs.Numbers.{packed_bytes}
use Rattle.type_terms.specs.declared.term.SigType.{SigType}
use Rattle.sig_codec.specs.Spelling.{writing, SpellsEach}
use Rattle.sig_codec.proofs.Written.{begun, chain_2}
use Rattle.sig_codec.proofs.encode.encode_instantiation.Goals as goal

pub returns : goal.returns
returns g c =
    let tokens = g.N.Numberer.owner_tokens c.args.map.now in
    let w = writing tokens in
    let n = c.in_ok-push_packed.ensures in
    let b = packed_bytes c.len.result in
    let counted = subst (λ (k : ℕ). w.number b k) c.len.ensures (n.spells, n.shortest) in
    let p = c.in_ok-push_each.ensures in
    let first = begun c.new-out.result c.push.new.self 0x0A c.new-out.ensures c.in_ok-push.ensures.ok in
    let whole = chain_2 c.push.new.self c.push_packed.new.out c.push_each.new.out 0x0A b p.0 first n.ok p.1 in
    let each = subst (λ (x : List SigType). SpellsEach w x p.0) c.as_slice.ensures p.2 in
    record { a = b; b = p.0; whole = whole; some = c.requires.0; counted = counted; each = each }
