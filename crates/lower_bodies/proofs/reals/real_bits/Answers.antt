use Rattle.std.proofs.Common.{◌≡◌, ℕ, ◌≤◌, length, ap, sym, subst, ◌∙◌}
use Rattle.std.specs.Prelude.{Bool, true, false, if◌then◌else◌}
use Rattle.il_lexer.specs.declared.types.TokenKind.TheVariants.{RealBytes}
use Rattle.ilasm_grammar.specs.declared.productions.TheConstants.{REAL_BITS_FLOAT32, REAL_BITS_FLOAT64, REAL_BITS_REAL_BYTES}
use Rattle.source_model.specs.Constants.{wrapped}
use Rattle.source_model.specs.Forest.{has, leaf_at, the}
use Rattle.source_model.specs.Values.{int_at, little_number, real_bytes}
use Rattle.source_nodes.specs.Readers.{IsOf}
use Rattle.lower_bodies.proofs.NumberLemmas.{few_bytes}
use Rattle.lower_bodies.proofs.RealParts.{has_real}
use Rattle.lower_bodies.proofs.reals.real_bits.Goals as goal

pub returns-then-has : goal.returns-then-has
returns-then-has c s p r fits bodies e within =
    let f = p.below in
    let single = λ (k : ℕ). wrapped 32 (int_at s k) in
    let on : has REAL_BITS_FLOAT32 f ≡ true = sym (c.has.ensures f e) ∙ c.if-has.true in
    let token = c.leaf_at-token.ensures (the REAL_BITS_FLOAT32 f) (sym (c.the.ensures f e)) in
    c.from.ensures ∙ c.low_32.ensures (int_at s c.leaf_at-token.result) (c.wrapped_integer.ensures s r)
    ∙ ap single token
    ∙ sym
    (ap
    (λ (b : Bool). if b then single (leaf_at 2 (the REAL_BITS_FLOAT32 f))
    else if has REAL_BITS_FLOAT64 f then wrapped 64 (int_at s (leaf_at 2 (the REAL_BITS_FLOAT64 f)))
    else little_number (real_bytes s (leaf_at 0 (the REAL_BITS_REAL_BYTES f)))) on)

pub returns-then-has-2 : goal.returns-then-has-2
returns-then-has-2 c s p r fits bodies e within =
    let f = p.below in
    let double = λ (k : ℕ). wrapped 64 (int_at s k) in
    let off : has REAL_BITS_FLOAT32 f ≡ false = sym (c.has.ensures f e) ∙ c.if-has.false in
    let on : has REAL_BITS_FLOAT64 f ≡ true = sym (c.has-2.ensures f e) ∙ c.if-has-2.true in
    let token = c.leaf_at-token-then-has-2.ensures (the REAL_BITS_FLOAT64 f) (sym (c.the-then-has-2.ensures f e)) in
    c.wrapped_integer-then-has-2.ensures s r
    ∙ ap double token
    ∙ sym
    (ap
    (λ (b : Bool). if b then wrapped 32 (int_at s (leaf_at 2 (the REAL_BITS_FLOAT32 f)))
    else if has REAL_BITS_FLOAT64 f then double (leaf_at 2 (the REAL_BITS_FLOAT64 f))
    else little_number (real_bytes s (leaf_at 0 (the REAL_BITS_REAL_BYTES f)))) off
    ∙ ap (λ (b : Bool). if b then double (leaf_at 2 (the REAL_BITS_FLOAT64 f)) else little_number (real_bytes s (leaf_at 0 (the REAL_BITS_REAL_BYTES f)))) on)

pub returns : goal.returns
returns c s p r fits bodies e within =
    let f = p.below in
    let d = the REAL_BITS_REAL_BYTES f in
    let v = has_real s f fits bodies in
    let off : has REAL_BITS_FLOAT32 f ≡ false = sym (c.has.ensures f e) ∙ c.if-has.false in
    let neither : has REAL_BITS_FLOAT64 f ≡ false = sym (c.has-2.ensures f e) ∙ c.if-has-2.false in
    let token : c.leaf_at-token-2.result ≡ leaf_at 0 d = c.leaf_at-token-2.ensures d (sym (c.the-2.ensures f e)) in
    let bytes : c.as_slice.result.now ≡ real_bytes s (leaf_at 0 d) =
    c.as_slice.ensures ∙ c.in_ok-bytes.ensures s r (subst (IsOf s RealBytes) (sym token) (v.token off neither)) ∙ ap (real_bytes s) token in
    let few : length c.as_slice.result.now ≤ 8 = subst (λ xs. length xs ≤ 8) (sym bytes) (few_bytes s p d within (v.bytes off neither)) in
    c.little_number.ensures few ∙ ap little_number bytes
    ∙ sym
    (ap
    (λ (b : Bool). if b then wrapped 32 (int_at s (leaf_at 2 (the REAL_BITS_FLOAT32 f)))
    else if has REAL_BITS_FLOAT64 f then wrapped 64 (int_at s (leaf_at 2 (the REAL_BITS_FLOAT64 f)))
    else little_number (real_bytes s (leaf_at 0 d))) off
    ∙ ap (λ (b : Bool). if b then wrapped 64 (int_at s (leaf_at 2 (the REAL_BITS_FLOAT64 f))) else little_number (real_bytes s (leaf_at 0 d))) neither)
