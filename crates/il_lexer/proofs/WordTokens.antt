-- Each word by itself is a token: the word.
use Rattle.std.proofs.Common.{◌≡◌, ℕ, zero, suc, ◌+◌, ◌<◌, Bool, true, false, nat_eq, List, [], ◌∷◌, length, get_or, Ok, Err, refl, ap, sym, subst, ◌∙◌, arith}
use Rattle.il_lexer.specs.declared.types.TokenKind.{TokenKind}
use Rattle.il_lexer.specs.declared.types.TokenKind.TheVariants.{Word}
use Rattle.il_lexer.specs.Runs.{run_of}
use Rattle.il_lexer.specs.WordList.{words}
use Rattle.il_lexer.specs.Tokens.{Found, lexeme, longer_word, bytearray_token, named, id_token, quoted_name_token, string_token, digits_token, minus_token, dot_token, hash_token, bracket_token, equals_token, paren_token, slash_token, mark_token, token_at}

abbrev and_then : Bool → Bool → Bool
and_then true b = b
and_then false b = false

abbrev is_kind : TokenKind → ℕ → Bool
is_kind (Word j) k = nat_eq j k
is_kind _ k = false

abbrev is_token : Found → ℕ → ℕ → Bool
is_token (Ok l) k n = and_then (is_kind l.kind k) (nat_eq l.length n)
is_token (Err e) k n = false

abbrev each_from : ℕ → List (List ℕ) → Bool
each_from k [] = true
each_from k (w ∷ ws) = and_then (is_token (token_at w) k (length w)) (each_from (suc k) ws)

all_tokens : each_from 0 words ≡ true
unfolding words token_at run_of longer_word bytearray_token named id_token quoted_name_token string_token digits_token minus_token dot_token hash_token bracket_token equals_token paren_token slash_token mark_token
all_tokens = refl

first_holds : (a b : Bool) → and_then a b ≡ true → a ≡ true
first_holds true b h = refl
first_holds false b h = h

second_holds : (a b : Bool) → and_then a b ≡ true → b ≡ true
second_holds true b h = h
second_holds false b h = cc

nat_equal : (a b : ℕ) → nat_eq a b ≡ true → a ≡ b
nat_equal a b h = grind arith

kind_is : (kind : TokenKind) (k : ℕ) → is_kind kind k ≡ true → kind ≡ Word k
kind_is (Word j) k h = ap Word (nat_equal j k h)
kind_is _ k h = cc

token_is : (found : Found) (k n : ℕ) → is_token found k n ≡ true → found ≡ Ok (lexeme (Word k) n)
token_is (Ok l) k n h =
    let kind : l.kind ≡ Word k = kind_is l.kind k (first_holds (is_kind l.kind k) (nat_eq l.length n) h) in
    let len : l.length ≡ n = nat_equal l.length n (second_holds (is_kind l.kind k) (nat_eq l.length n) h) in
    ap Ok (ap (λ x. lexeme x l.length) kind ∙ ap (lexeme (Word k)) len)
token_is (Err e) k n h = cc

each_at : (ws : List (List ℕ)) (k i : ℕ) → each_from k ws ≡ true → i < length ws →
    token_at (get_or ws i []) ≡ Ok (lexeme (Word (k + i)) (length (get_or ws i [])))
each_at [] k i h lt = absurd (omega arith)
each_at (w ∷ ws) k zero h lt =
    let e : k ≡ k + 0 = omega arith in
    subst (λ n. token_at w ≡ Ok (lexeme (Word n) (length w))) e
    (token_is (token_at w) k (length w) (first_holds (is_token (token_at w) k (length w)) (each_from (suc k) ws) h))
each_at (w ∷ ws) k (suc i) h lt =
    let e : suc k + i ≡ k + suc i = omega arith in
    let below : i < length ws = omega arith in
    subst (λ n. token_at (get_or ws i []) ≡ Ok (lexeme (Word n) (length (get_or ws i [])))) e
    (each_at ws (suc k) i (second_holds (is_token (token_at w) k (length w)) (each_from (suc k) ws) h) below)

words_len : length words ≡ 401
unfolding words
words_len = refl

pub word-token : (k : ℕ) → k < 401 → token_at (get_or words k []) ≡ Ok (lexeme (Word k) (length (get_or words k [])))
word-token k lt =
    let e : 0 + k ≡ k = omega arith in
    subst (λ n. token_at (get_or words k []) ≡ Ok (lexeme (Word n) (length (get_or words k [])))) e
    (each_at words 0 k all_tokens (subst (λ n. k < n) (sym words_len) lt))
