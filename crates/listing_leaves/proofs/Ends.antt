-- Where tokens end.
use Rattle.std.proofs.Common.{◌≡◌, ℕ, Bool, true, false, cond, not, ◌&&◌, ◌||◌, nat_eq, inl, inr, List, [], ◌∷◌, refl, sym, subst, ◌∙◌, arith}
use Rattle.std.proofs.lemmas.Bool.{cases_Bool, eqb-true, false≢true}
use Rattle.std.specs.List.{list_all, list_any}
use Rattle.std.specs.Prelude.{codes}
use Rattle.std.specs.Str.{bytes_eq}
use Rattle.il_lexer.specs.Classes.{is_digit, is_id_start, is_id_part, first_is, first_passes}
use Rattle.il_lexer.specs.Longest.{ends_word}
use Rattle.il_lexer.specs.declared.types.TokenKind.TheVariants.{Name, Scope, Int, QString, EqBytes, ByteArray, RealBytes, Hash, Unused, Word}
use Rattle.listing_leaves.specs.Laws.{is_end, goes_on, LeavesEnd}
use Rattle.listing_leaves.proofs.Each.{and_parts}

-- what holds of each item of a list holds of one that is among them
among : (f : ℕ → Bool) (xs : List ℕ) (c : ℕ) → list_any (λ e. nat_eq e c) xs ≡ true → list_all f xs ≡ true → f c ≡ true
among f [] c h a = absurd (false≢true h)
among f (x ∷ xs) c h a =
    let both = and_parts (f x) (list_all f xs) a in
    elim (cases_Bool (nat_eq x c)) [
      | inl e ↦ subst (λ n. f n ≡ true) (eqb-true x c e) both.0
      | inr e ↦ among f xs c (subst (λ b. (b || list_any (λ e. nat_eq e c) xs) ≡ true) e h) both.1
    ]

is_true : (p : ℕ → Bool) (c : ℕ) → is_end c ≡ true →
    list_all p (32 ∷ 10 ∷ 44 ∷ 41 ∷ 93 ∷ 62 ∷ 58 ∷ 47 ∷ 40 ∷ 91 ∷ 60 ∷ 38 ∷ 42 ∷ []) ≡ true → p c ≡ true
is_true p c h a = among p (32 ∷ 10 ∷ 44 ∷ 41 ∷ 93 ∷ 62 ∷ 58 ∷ 47 ∷ 40 ∷ 91 ∷ 60 ∷ 38 ∷ 42 ∷ []) c h a

choice : (x a b : Bool) → (x ≡ true → a ≡ true) → (x ≡ false → b ≡ true) → cond x a b ≡ true
choice true a b f g = f refl
choice false a b f g = g refl

-- five tests of which none holds
pub record None5 (a b c d e : Bool) : Type 0 where
  pub first : a ≡ false
  pub second : b ≡ false
  pub third : c ≡ false
  pub fourth : d ≡ false
  pub fifth : e ≡ false

none_of_five : (a b c d e : Bool) → (a || b || c || d || e) ≡ false → None5 a b c d e
none_of_five false false false false false h = record { first = refl; second = refl; third = refl; fourth = refl; fifth = refl }
none_of_five true b c d e h = absurd (grind (arith, h))
none_of_five false true c d e h = absurd (grind (arith, h))
none_of_five false false true d e h = absurd (grind (arith, h))
none_of_five false false false true e h = absurd (grind (arith, h))
none_of_five false false false false true h = absurd (grind (arith, h))

-- a word that goes on with such a byte
not_with : (x y : Bool) → (x && y) ≡ false → x ≡ true → not y ≡ true
not_with x y h e = grind (arith, h, e)

impossible : {P : Type 0} (x : Bool) → x ≡ false → x ≡ true → P
impossible x h e = absurd (false≢true (sym h ∙ e))

module _ (w : List ℕ) (c : ℕ) (rest : List ℕ) where
  word_ends : is_end c ≡ true → goes_on w c ≡ false → ends_word w (c ∷ rest) ≡ true
  word_ends h g =
      let none = none_of_five (bytes_eq w (codes ":") && nat_eq c 58) (bytes_eq w (codes "/") && (nat_eq c 42 || nat_eq c 47)) (bytes_eq w (codes "="))
      (bytes_eq w (codes "(")) (bytes_eq w (codes "bytearray")) g in
      choice (bytes_eq w (codes "!")) _ _ (λ e. is_true (λ c. not (nat_eq c 33)) c h refl) (λ e.
      choice (bytes_eq w (codes ":")) _ _ (λ e. not_with (bytes_eq w (codes ":")) (nat_eq c 58) none.first e) (λ e.
      choice (bytes_eq w (codes "/")) _ _ (λ e. not_with (bytes_eq w (codes "/")) (nat_eq c 42 || nat_eq c 47) none.second e) (λ e.
      choice (bytes_eq w (codes "-")) _ _ (λ e. is_true (λ c. not (is_digit c)) c h refl) (λ e.
      choice (bytes_eq w (codes "=")) _ _ (λ e. impossible (bytes_eq w (codes "=")) none.third e) (λ e.
      choice (bytes_eq w (codes "(")) _ _ (λ e. impossible (bytes_eq w (codes "(")) none.fourth e) (λ e.
      choice (bytes_eq w (codes "[")) _ _ (λ e. is_true (λ c. not (is_id_start c || nat_eq c 39)) c h refl) (λ e.
      choice (bytes_eq w (codes "bytearray")) _ _ (λ e. impossible (bytes_eq w (codes "bytearray")) none.fifth e) (λ e.
      choice (first_passes is_id_start w) _ _ (λ e. is_true (λ c. not (is_id_part c || nat_eq c 46 || nat_eq c 39)) c h refl) (λ e.
      choice (bytes_eq w (codes "...")) _ _ (λ e. refl) (λ e.
      choice (first_is 46 w) _ _ (λ e. is_true (λ c. not (is_id_part c)) c h refl) (λ e. refl)))))))))))

integer_ends : (c : ℕ) (x : Bool) → is_end c ≡ true → not (is_id_part c || (nat_eq c 46 && x)) ≡ true
integer_ends c x h =
    let facts : not (is_id_part c || nat_eq c 46) ≡ true = is_true (λ c. not (is_id_part c || nat_eq c 46)) c h refl in grind (arith, facts)

pub leaves_end : LeavesEnd
leaves_end Name w c rest h g = is_true (λ c. not (is_id_part c || nat_eq c 46 || nat_eq c 39)) c h refl
leaves_end Int w c rest h g = integer_ends c (not (first_is 46 rest)) h
leaves_end Hash w c rest h g = is_true (λ c. not (is_id_part c)) c h refl
leaves_end Unused w c rest h g = is_true (λ c. not (is_id_part c)) c h refl
leaves_end (Word k) w c rest h g = word_ends w c rest h g
leaves_end Scope w c rest h g = refl
leaves_end QString w c rest h g = refl
leaves_end EqBytes w c rest h g = refl
leaves_end ByteArray w c rest h g = refl
leaves_end RealBytes w c rest h g = refl
