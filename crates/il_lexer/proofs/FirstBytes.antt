-- What begins with a byte: the kinds of token by their first byte.
use Rattle.std.proofs.Common.{◌≡◌, ℕ, true, false, nat_eq, inl, inr, List, [], ◌∷◌, ◌++◌, sym, subst, ◌∙◌, arith, true≢false, eq-eqb}
use Rattle.std.proofs.lemmas.Bool.{cases_Bool, cond-true, cond-false, eqb-true, false_from_ne_true}
use Rattle.il_lexer.specs.Classes.{is_digit, is_id_start}
use Rattle.il_lexer.specs.Spelled.{IsDecimal, Signed}
use Rattle.il_lexer.specs.Longest.{IsFree}
use Rattle.il_lexer.specs.Tokens.{id_token, digits_token, mark_token, token_at}
use Rattle.il_lexer.proofs.Fronts.{heads-same}

-- a byte with no token of its own form: a mark of one byte, or no token at all
pub record IsMark (b : ℕ) : Type 0 where
  pub id : is_id_start b ≡ false
  pub digit : is_digit b ≡ false
  pub quote : nat_eq b 39 ≡ false
  pub string : nat_eq b 34 ≡ false
  pub dot : nat_eq b 46 ≡ false
  pub hash : nat_eq b 35 ≡ false
  pub bracket : nat_eq b 91 ≡ false
  pub minus : nat_eq b 45 ≡ false
  pub equals : nat_eq b 61 ≡ false
  pub paren : nat_eq b 40 ≡ false
  pub slash : nat_eq b 47 ≡ false
  pub colon : nat_eq b 58 ≡ false
  pub bang : nat_eq b 33 ≡ false

pub data FirstByte (b : ℕ) : Type 0 where
  id : is_id_start b ≡ true → FirstByte b
  digit : is_digit b ≡ true → FirstByte b
  quote : b ≡ 39 → FirstByte b
  string : b ≡ 34 → FirstByte b
  dot : b ≡ 46 → FirstByte b
  hash : b ≡ 35 → FirstByte b
  bracket : b ≡ 91 → FirstByte b
  minus : b ≡ 45 → FirstByte b
  equals : b ≡ 61 → FirstByte b
  paren : b ≡ 40 → FirstByte b
  slash : b ≡ 47 → FirstByte b
  colon : b ≡ 58 → FirstByte b
  bang : b ≡ 33 → FirstByte b
  mark : IsMark b → FirstByte b

pub first-byte : (b : ℕ) → FirstByte b
first-byte b =
    elim (cases_Bool (is_id_start b)) [
      | inl e ↦ FirstByte.id e
      | inr n1 ↦
          elim (cases_Bool (is_digit b)) [
            | inl e ↦ FirstByte.digit e
            | inr n2 ↦
                elim (cases_Bool (nat_eq b 39)) [
                  | inl e ↦ FirstByte.quote (eqb-true b 39 e)
                  | inr n3 ↦
                      elim (cases_Bool (nat_eq b 34)) [
                        | inl e ↦ FirstByte.string (eqb-true b 34 e)
                        | inr n4 ↦
                            elim (cases_Bool (nat_eq b 46)) [
                              | inl e ↦ FirstByte.dot (eqb-true b 46 e)
                              | inr n5 ↦
                                  elim (cases_Bool (nat_eq b 35)) [
                                    | inl e ↦ FirstByte.hash (eqb-true b 35 e)
                                    | inr n6 ↦
                                        elim (cases_Bool (nat_eq b 91)) [
                                          | inl e ↦ FirstByte.bracket (eqb-true b 91 e)
                                          | inr n7 ↦
                                              elim (cases_Bool (nat_eq b 45)) [
                                                | inl e ↦ FirstByte.minus (eqb-true b 45 e)
                                                | inr n8 ↦
                                                    elim (cases_Bool (nat_eq b 61)) [
                                                      | inl e ↦ FirstByte.equals (eqb-true b 61 e)
                                                      | inr n9 ↦
                                                          elim (cases_Bool (nat_eq b 40)) [
                                                            | inl e ↦ FirstByte.paren (eqb-true b 40 e)
                                                            | inr n10 ↦
                                                                elim (cases_Bool (nat_eq b 47)) [
                                                                  | inl e ↦ FirstByte.slash (eqb-true b 47 e)
                                                                  | inr n11 ↦
                                                                      elim (cases_Bool (nat_eq b 58)) [
                                                                        | inl e ↦ FirstByte.colon (eqb-true b 58 e)
                                                                        | inr n12 ↦
                                                                            elim (cases_Bool (nat_eq b 33)) [
                                                                              | inl e ↦ FirstByte.bang (eqb-true b 33 e)
                                                                              | inr n13 ↦
                                                                                  FirstByte.mark (record {
                                                                                    id = n1;
                                                                                    digit = n2;
                                                                                    quote = n3;
                                                                                    string = n4;
                                                                                    dot = n5;
                                                                                    hash = n6;
                                                                                    bracket = n7;
                                                                                    minus = n8;
                                                                                    equals = n9;
                                                                                    paren = n10;
                                                                                    slash = n11;
                                                                                    colon = n12;
                                                                                    bang = n13;
                                                                                  })
                                                                            ]
                                                                      ]
                                                                ]
                                                          ]
                                                    ]
                                              ]
                                        ]
                                  ]
                            ]
                      ]
                ]
          ]
    ]

pub start-no-digit : (b : ℕ) → is_id_start b ≡ true → is_digit b ≡ false
start-no-digit b h = false_from_ne_true (is_digit b) (λ d. clash b h d)
  where
    clash : (b : ℕ) → is_id_start b ≡ true → is_digit b ≡ true → ⊥
    clash b h d = grind arith

pub digit-no-start : (b : ℕ) → is_digit b ≡ true → is_id_start b ≡ false
digit-no-start b d = false_from_ne_true (is_id_start b) (λ h. true≢false (sym d ∙ start-no-digit b h))

-- what stands at each first byte
pub at-id : (b : ℕ) (bs : List ℕ) → is_id_start b ≡ true → token_at (b ∷ bs) ≡ id_token (b ∷ bs)
unfolding token_at
at-id b bs h = cond-true (is_id_start b) _ _ h

pub at-digit : (b : ℕ) (bs : List ℕ) → is_digit b ≡ true → token_at (b ∷ bs) ≡ digits_token (b ∷ bs)
unfolding token_at
at-digit b bs h = cond-false (is_id_start b) _ _ (digit-no-start b h) ∙ cond-true (is_digit b) _ _ h

pub at-mark : (b : ℕ) (bs : List ℕ) → IsMark b → token_at (b ∷ bs) ≡ mark_token b
unfolding token_at
at-mark b bs m =
    cond-false (is_id_start b) _ _ m.id
    ∙ cond-false (is_digit b) _ _ m.digit
    ∙ cond-false (nat_eq b 39) _ _ m.quote
    ∙ cond-false (nat_eq b 34) _ _ m.string
    ∙ cond-false (nat_eq b 46) _ _ m.dot
    ∙ cond-false (nat_eq b 35) _ _ m.hash
    ∙ cond-false (nat_eq b 91) _ _ m.bracket
    ∙ cond-false (nat_eq b 45) _ _ m.minus
    ∙ cond-false (nat_eq b 61) _ _ m.equals
    ∙ cond-false (nat_eq b 40) _ _ m.paren
    ∙ cond-false (nat_eq b 47) _ _ m.slash
    ∙ cond-false (nat_eq b 58) _ _ m.colon
    ∙ cond-false (nat_eq b 33) _ _ m.bang

-- nothing bars what begins with no digit, no `-` and no `/`
pub free-of : (b : ℕ) (bs w after : List ℕ) → b ∷ bs ≡ w ++ after → is_digit b ≡ false → nat_eq b 45 ≡ false → nat_eq b 47 ≡ false →
    IsFree w after
free-of b bs [] after e d m s =
    record { digits = λ h. absurd (nothing h); slash = λ h. (let bad : [] ≡ 47 ∷ [] = h in cc) }
  where
    nothing : Signed IsDecimal [] → ⊥
    nothing (inl h) = h
    nothing (inr (ds, h, is)) = cc
free-of b bs (x ∷ w) after e d m s =
    let same : b ≡ x = heads-same b x bs (w ++ after) e in
    record {
      digits = λ h. absurd (never (subst (λ y. is_digit y ≡ false) same d) (subst (λ y. nat_eq y 45 ≡ false) same m) h);
      slash = λ h. absurd (true≢false (sym (eq-eqb x 47 (heads-same x 47 w [] h)) ∙ subst (λ y. nat_eq y 47 ≡ false) same s));
    }
  where
    never : is_digit x ≡ false → nat_eq x 45 ≡ false → Signed IsDecimal (x ∷ w) → ⊥
    never d m (inl h) = true≢false (sym h.0 ∙ d)
    never d m (inr (ds, h, is)) = true≢false (sym (eq-eqb x 45 (heads-same x 45 w ds is)) ∙ m)
