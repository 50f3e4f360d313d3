-- A source lexes in one way.
use Rattle.std.proofs.Common.{◌≡◌, ℕ, ◌+◌, ◌<◌, ◌≤◌, ◌^◌, ◌⊎◌, inl, inr, List, [], ◌∷◌, ◌++◌, length, drop, Result, Ok, Err, refl, ap, sym, subst, ◌∙◌, arith, length-append, append-nil}
use Rattle.std.proofs.Math.ListN.{drop_of_length-le}
use Rattle.il_base.specs.declared.pos.Pos.{Pos}
use Rattle.il_lexer.specs.declared.types.Lexeme.{Lexeme}
use Rattle.il_lexer.specs.declared.types.Token.{Token}
use Rattle.il_lexer.specs.Tokens.{token_at}
use Rattle.il_lexer.specs.Lexing.{LexesFrom, done, more, Lexes, after_gap, token_of, place_of, depth_after, depth_from, deepest_from, WithinLimits, BreaksNext, BreaksAt, HasFault, IsAccepted}
use Rattle.il_lexer.specs.Laws.{OneOutcome}

-- of two readings from one place, one goes on where the other ends
GoesOn : List ℕ → List Token → ℕ → List Token → ℕ → Type 0
GoesOn source a ra b rb = (rest : List Token) × (b ≡ a ++ rest) × LexesFrom source ra rest rb

Compared : List ℕ → List Token → ℕ → List Token → ℕ → Type 0
Compared source a ra b rb = GoesOn source a ra b rb ⊎ GoesOn source b rb a ra

with_first : (source : List ℕ) (t : Token) (a b : List Token) (ra rb : ℕ) → Compared source a ra b rb →
    Compared source (t ∷ a) ra (t ∷ b) rb
unfolding Compared GoesOn
with_first source t a b ra rb (inl (rest, e, on)) = inl (rest, ap (λ ts. t ∷ ts) e, on)
with_first source t a b ra rb (inr (rest, e, on)) = inr (rest, ap (λ ts. t ∷ ts) e, on)

ok_same : (x : Result Lexeme ℕ) (k l : Lexeme) → x ≡ Ok k → x ≡ Ok l → l ≡ k
ok_same x k l e f = cc

compare : {source : List ℕ} {at ra rb : ℕ} {a b : List Token} → LexesFrom source at a ra → LexesFrom source at b rb →
    Compared source a ra b rb
unfolding Compared GoesOn
compare {source} {at} {ra} {rb} {a} {b} done y = inl (b, refl, y)
compare {source} {at} {ra} {rb} {a} {b} (more f r) done = inr (a, refl, more f r)
compare {source} {at} {ra} {rb} (more {l = k} {tokens = ts} f r) (more {l = l} {tokens = us} g s) =
    let same : l ≡ k = ok_same _ k l f g in
    let on : LexesFrom source (after_gap source at + k.length) us rb =
    subst (λ x. LexesFrom source (after_gap source at + x.length) us rb) same s in
    subst (λ x. Compared source (token_of source (after_gap source at) k ∷ ts) ra (token_of source (after_gap source at) x ∷ us) rb)
    (sym same) (with_first source _ ts us ra rb (compare r on))

-- nothing is read behind the end of the source
nothing_there : (source : List ℕ) (l : Lexeme) (at : ℕ) → at ≡ length source → token_at (drop at source) ≡ Ok l → ⊥
unfolding token_at
nothing_there source l at e f =
    let le : length source ≤ at = omega arith in
    let none : drop at source ≡ [] = drop_of_length-le source le in
    let fault : token_at (drop at source) ≡ Err 5 = ap token_at none in
    cc

at_end : {source : List ℕ} {at reached : ℕ} {rest : List Token} → LexesFrom source at rest reached →
    after_gap source at ≡ length source → (rest ≡ []) × (reached ≡ at)
at_end done e = (refl, refl)
at_end {source} {at} (more {l = l} f r) e = absurd (nothing_there source l (after_gap source at) e f)

GoesOn-ends : (source : List ℕ) (a b : List Token) (ra rb : ℕ) → after_gap source ra ≡ length source → GoesOn source a ra b rb →
    (a ≡ b) × (rb ≡ ra)
unfolding GoesOn
GoesOn-ends source a b ra rb ea (rest, e, on) =
    let end = at_end on ea in
    (sym (append-nil a) ∙ ap (λ r. a ++ r) (sym end.0) ∙ sym e, end.1)

one_of : (source : List ℕ) (a b : List Token) (ra rb : ℕ) → after_gap source ra ≡ length source →
    after_gap source rb ≡ length source → Compared source a ra b rb → a ≡ b
unfolding Compared
one_of source a b ra rb ea eb (inl on) = (GoesOn-ends source a b ra rb ea on).0
one_of source a b ra rb ea eb (inr on) = sym (GoesOn-ends source b a rb ra eb on).0

one_list : (source : List ℕ) (a b : List Token) → Lexes source a → Lexes source b → a ≡ b
one_list source a b x y = one_of source a b x.1.0 y.1.0 x.1.2 y.1.2 (compare x.1.1 y.1.1)

-- the greatest depth is no less than that behind a front and one token more
deep_enough : (d : ℕ) (a rest : List Token) (t : Token) →
    depth_after (depth_from d a) t.kind ≤ deepest_from d (a ++ t ∷ rest)
deep_enough d [] [] t = omega arith
deep_enough d [] (x ∷ rest) t = omega arith
deep_enough d (y ∷ a) rest t =
    let more : depth_after (depth_from (depth_after d y.kind) a) t.kind ≤ deepest_from (depth_after d y.kind) (a ++ t ∷ rest) =
    deep_enough (depth_after d y.kind) a rest t in
    omega arith

-- behind a fault no token can follow within the limits
broken : (a rest : List Token) (t : Token) (x : Result Lexeme ℕ) (rule : ℕ) (l : Lexeme) → BreaksNext a x rule → x ≡ Ok l →
    t.kind ≡ l.kind → WithinLimits (a ++ t ∷ rest) → ⊥
broken a rest t (Err e) rule l b f k w = cc
broken a rest t (Ok m) rule l (inl b) f k w =
    let full : length a ≡ 2 ^ 24 = b.0 in
    let few : length (a ++ t ∷ rest) ≤ 2 ^ 24 = w.few in
    let len : length (a ++ t ∷ rest) ≡ length a + length (t ∷ rest) = length-append a (t ∷ rest) in
    omega arith
broken a rest t (Ok m) rule l (inr b) f k w =
    let same : m.kind ≡ t.kind = (let e : m ≡ l = cc in ap (λ y. y.kind) e ∙ sym k) in
    let high : 400 < depth_after (depth_from 0 a) t.kind = subst (λ y. 400 < depth_after (depth_from 0 a) y) same b.1 in
    let low : depth_after (depth_from 0 a) t.kind ≤ deepest_from 0 (a ++ t ∷ rest) = deep_enough 0 a rest t in
    let shallow : deepest_from 0 (a ++ t ∷ rest) ≤ 400 = w.shallow in
    omega arith

no_more : {source : List ℕ} {at reached : ℕ} {rest : List Token} (a : List Token) (rule : ℕ) → LexesFrom source at rest reached →
    BreaksNext a (token_at (drop (after_gap source at) source)) rule → WithinLimits (a ++ rest) → (rest ≡ []) × (reached ≡ at)
no_more a rule done b w = (refl, refl)
no_more {source} {at} a rule (more {l = l} {tokens = ts} f r) b w =
    absurd (broken a ts (token_of source (after_gap source at) l) _ rule l b f refl w)

ends_there : (source : List ℕ) (a b : List Token) (ra rb rule : ℕ) → GoesOn source a ra b rb →
    BreaksNext a (token_at (drop (after_gap source ra) source)) rule → WithinLimits b → (a ≡ b) × (rb ≡ ra)
unfolding GoesOn
ends_there source a b ra rb rule (rest, e, on) breaks w =
    let end = no_more a rule on breaks (subst WithinLimits e w) in
    (sym (append-nil a) ∙ ap (λ r. a ++ r) (sym end.0) ∙ sym e, end.1)

-- an accepted source and a fault behind a front of it
apart_of : (source : List ℕ) (a b : List Token) (ra rb rule : ℕ) → after_gap source ra ≡ length source → WithinLimits a →
    after_gap source rb < length source → BreaksNext b (token_at (drop (after_gap source rb) source)) rule →
    Compared source a ra b rb → ⊥
unfolding Compared
apart_of source a b ra rb rule ea wa within breaks (inl on) =
    let same : rb ≡ ra = (GoesOn-ends source a b ra rb ea on).1 in
    let e : after_gap source rb ≡ after_gap source ra = ap (after_gap source) same in
    omega arith
apart_of source a b ra rb rule ea wa within breaks (inr on) =
    let same : ra ≡ rb = (ends_there source b a rb ra rule on breaks wa).1 in
    let e : after_gap source ra ≡ after_gap source rb = ap (after_gap source) same in
    omega arith

apart : (source : List ℕ) (tokens : List Token) (pos : Pos) (rule : ℕ) → IsAccepted source tokens → HasFault source pos rule → ⊥
apart source tokens pos rule a (inl f) = f.0 a.lexes.0
apart source tokens pos rule a (inr f) =
    apart_of source tokens f.1.tokens a.lexes.1.0 f.1.reached rule a.lexes.1.2 a.limits f.1.within f.1.breaks
    (compare a.lexes.1.1 f.1.front)

one_rule : (a : List Token) (x : Result Lexeme ℕ) (r s : ℕ) → BreaksNext a x r → BreaksNext a x s → r ≡ s
one_rule a (Err e) r s b c = b ∙ sym c
one_rule a (Ok l) r s (inl b) (inl c) = b.1 ∙ sym c.1
one_rule a (Ok l) r s (inr b) (inr c) = b.2 ∙ sym c.2
one_rule a (Ok l) r s (inl b) (inr c) =
    let full : length a ≡ 2 ^ 24 = b.0 in let few : length a < 2 ^ 24 = c.0 in absurd (omega arith)
one_rule a (Ok l) r s (inr b) (inl c) =
    let few : length a < 2 ^ 24 = b.0 in let full : length a ≡ 2 ^ 24 = c.0 in absurd (omega arith)

same_break : (source : List ℕ) (a b : List Token) (ra rb r s : ℕ) → a ≡ b → rb ≡ ra →
    BreaksNext a (token_at (drop (after_gap source ra) source)) r →
    BreaksNext b (token_at (drop (after_gap source rb) source)) s → r ≡ s
same_break source a b ra rb r s e same x y =
    one_rule a _ r s x
    (subst (λ n. BreaksNext a (token_at (drop (after_gap source n) source)) s) same
    (subst (λ ts. BreaksNext ts (token_at (drop (after_gap source rb) source)) s) (sym e) y))

one_break : (source : List ℕ) (p q : Pos) (r s : ℕ) (x : BreaksAt source p r) (y : BreaksAt source q s) →
    Compared source x.tokens x.reached y.tokens y.reached → (p ≡ q) × (r ≡ s)
unfolding Compared
one_break source p q r s x y (inl on) =
    let end = ends_there source x.tokens y.tokens x.reached y.reached r on x.breaks y.limits in (
      x.place ∙ ap (λ n. place_of source (after_gap source n)) (sym end.1) ∙ sym y.place,
      same_break source x.tokens y.tokens x.reached y.reached r s end.0 end.1 x.breaks y.breaks,
    )
one_break source p q r s x y (inr on) =
    let end = ends_there source y.tokens x.tokens y.reached x.reached s on y.breaks x.limits in (
      x.place ∙ ap (λ n. place_of source (after_gap source n)) end.1 ∙ sym y.place,
      sym (same_break source y.tokens x.tokens y.reached x.reached s r end.0 end.1 y.breaks x.breaks),
    )

one_fault : (source : List ℕ) (p q : Pos) (r s : ℕ) → HasFault source p r → HasFault source q s → (p ≡ q) × (r ≡ s)
one_fault source p q r s (inl x) (inl y) = (x.2 ∙ sym y.2, x.1 ∙ sym y.1)
one_fault source p q r s (inl x) (inr y) = absurd (x.0 y.0)
one_fault source p q r s (inr x) (inl y) = absurd (y.0 x.0)
one_fault source p q r s (inr x) (inr y) = one_break source p q r s x.1 y.1 (compare x.1.front y.1.front)

pub one-outcome : OneOutcome
one-outcome = record { tokens = one_list; apart = apart; fault = one_fault }
