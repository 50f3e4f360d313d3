use Rattle.std.proofs.Common.{◌≡◌, ℕ, [], get_or, refl, sym, ap, ◌∙◌}
use Rattle.std.proofs.lemmas.Bool.{false≢true}
use Rattle.il_lexer.specs.declared.words.TheConstants.{KEYS, SLOTS}
use Rattle.il_lexer.specs.WordList.{words}
use Rattle.il_lexer.specs.WordKeys.{key_from, place_of, candidate}
use Rattle.il_lexer.proofs.WordNumbers.{number-some, number-none, key-at}
use Rattle.il_lexer.proofs.words.number_of_key.Goals as goal

pub returns-then-place-key : goal.returns-then-place-key
returns-then-place-key c =
    let text = c.args.text.now in
    let place : c.place_of-place.result ≡ candidate SLOTS text =
    c.place_of-place.ensures.value ∙ ap (λ (k : ℕ). place_of SLOTS k (get_or text 0 0)) c.requires.key in
    sym (number-none text (λ k lt at same.
    let there : get_or KEYS k 0 ≡ c.args.key = key-at k lt ∙ ap (key_from 0) same ∙ sym c.requires.key in
    c.if-place-key.true (ap (λ (p : ℕ). get_or KEYS p 0) (place ∙ at) ∙ there)))

pub is_same_keyed-requires : goal.is_same_keyed-requires
is_same_keyed-requires c =
    ap (key_from 0) (c.as_bytes-known.ensures.value ∙ c.word_text.ensures) ∙
    sym (key-at c.place_of-place.result c.place_of-place.ensures.below) ∙ c.if-place-key.false ∙ c.requires.key

pub returns-then-is_same_keyed : goal.returns-then-is_same_keyed
returns-then-is_same_keyed c =
    let same : c.as_bytes-known.result.now ≡ c.args.text.now = c.if-is_same_keyed.ensures.0 refl in
    sym (number-some c.args.text.now c.place_of-place.result c.place_of-place.ensures.below
    (sym c.word_text.ensures ∙ sym c.as_bytes-known.ensures.value ∙ same))

pub returns-else-is_same_keyed : goal.returns-else-is_same_keyed
returns-else-is_same_keyed c =
    let text = c.args.text.now in
    let place : c.place_of-place.result ≡ candidate SLOTS text =
    c.place_of-place.ensures.value ∙ ap (λ (k : ℕ). place_of SLOTS k (get_or text 0 0)) c.requires.key in
    sym (number-none text (λ k lt at same.
    let known : c.as_bytes-known.result.now ≡ text =
    c.as_bytes-known.ensures.value ∙ c.word_text.ensures
    ∙ ap (λ (p : ℕ). get_or words p []) (place ∙ at) ∙ same in
    false≢true (c.if-is_same_keyed.ensures.1 known)))
