use Rattle.std.proofs.Common.{◌≡◌, ◌∷◌, ◌++◌, subst, List, ℕ}
use Rattle.il_base.specs.Numbers.{packed_bytes}
use Rattle.type_terms.specs.declared.term.SigType.{SigType}
use Rattle.sig_codec.specs.Spelling.{writing, SpellsEach}
use Rattle.sig_codec.proofs.Written.{begun, chain_3}
use Rattle.sig_codec.proofs.encode.encode_property.Goals as goal

pub returns : goal.returns
returns g c =
    let tokens = g.N.Numberer.owner_tokens c.args.map.now in
    let w = writing tokens in
    let n = c.in_ok-push_packed.ensures in
    let b = packed_bytes c.len.result in
    let counted = subst (λ (k : ℕ). w.number b k) c.len.ensures (n.spells, n.shortest) in
    let r = c.in_ok-push_type.ensures in
    let p = c.in_ok-push_each.ensures in
    let first = begun c.new-out.result c.push.new.self c.property_byte.result c.new-out.ensures c.in_ok-push.ensures.ok in
    let whole = chain_3 c.push.new.self c.push_packed.new.out c.push_type.new.out c.push_each.new.out c.property_byte.result b r.0 p.0 first n.ok r.1 p.1 in
    let each = subst (λ (x : List SigType). SpellsEach w x p.0) c.as_slice.ensures p.2 in
    let named = subst (λ (k : ℕ). c.push_each.new.out ≡ k ∷ (b ++ (r.0 ++ p.0))) c.property_byte.ensures whole in
    record { a = b; b = r.0; c = p.0; whole = named; no_explicit = c.requires.no_explicit; no_vararg = c.requires.no_vararg; no_generic = c.requires.no_generic; no_sentinel = c.requires.no_sentinel; counted = counted; ret = r.2; params = each }
