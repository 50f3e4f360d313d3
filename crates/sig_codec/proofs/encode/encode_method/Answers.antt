use Rattle.std.proofs.Common.{◌≡◌, ◌∷◌, ◌++◌, subst, ℕ}
use Rattle.il_base.specs.Numbers.{packed_bytes}
use Rattle.sig_codec.specs.Spelling.{writing}
use Rattle.sig_codec.proofs.Written.{begun, chain_4}
use Rattle.sig_codec.proofs.encode.encode_method.Goals as goal

pub returns : goal.returns
returns g c =
    let tokens = g.N.Numberer.owner_tokens c.args.map.now in
    let w = writing tokens in
    let n = c.in_ok-push_packed.ensures in
    let b = packed_bytes c.len.result in
    let counted = subst (λ (k : ℕ). w.number b k) c.len.ensures (n.spells, n.shortest) in
    let g' = c.in_ok-push_generics.ensures tokens in
    let r = c.in_ok-push_type.ensures in
    let p = c.in_ok-push_params.ensures in
    let first = begun c.in_ok-out.out c.push.new.self c.method_byte.result c.in_ok-out.ensures c.in_ok-push.ensures.ok in
    let whole = chain_4 c.push.new.self c.push_generics.new.out c.push_packed.new.out c.push_type.new.out c.push_params.new.out c.method_byte.result g'.0 b r.0 p.0 first g'.1 n.ok r.1 p.1 in
    record { a = g'.0; b = b; c = r.0; d = p.0; whole = subst (λ (k : ℕ). c.push_params.new.out ≡ k ∷ (g'.0 ++ (b ++ (r.0 ++ p.0)))) c.method_byte.ensures whole; explicit = c.requires.explicit; generic = g'.2; counted = counted; ret = r.2; params = p.2 }
