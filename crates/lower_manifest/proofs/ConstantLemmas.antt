-- Constants: where their strings and numbers stand.
use Rattle.std.proofs.Common.{◌≡◌, ℕ, List, [], ◌∷◌, ◌++◌, ◌+◌, refl, ap, sym, subst, ◌∙◌}
use Rattle.std.specs.Prelude.{Bool, true, false, ◌==◌, ◌||◌, if◌then◌else◌, slice_get, Some}
use Rattle.std.proofs.lemmas.Bool.Decides.{Decides-eqb}
use Rattle.il_lexer.specs.declared.types.TokenKind.TheVariants as kind
use Rattle.il_lexer.specs.declared.word.TheConstants as word
use Rattle.ilasm_grammar.specs.Grammar.{rule_of}
use Rattle.ilasm_grammar.specs.Ilasm.{ilasm, rule_by}
use Rattle.ilasm_grammar.specs.declared.nonterminals.TheConstants as n
use Rattle.ilasm_grammar.specs.declared.productions.TheConstants.{CONST_BYTES, CONST_CHAR, CONST_TEXT, KEY_CULTURE, KEY_LOCALE, TEXT}
use Rattle.ilasm_grammar.specs.declared.symbol.Symbol.{Symbol}
use Rattle.ilasm_grammar.specs.declared.symbol.Symbol.TheVariants.{Nonterminal, Terminal}
use Rattle.ilasm_grammar.specs.declared.terminals.TheConstants as t
use Rattle.source_model.specs.Constants.{const_token}
use Rattle.source_model.specs.Forest.{Forest, Part, none, leaf, branch, below_each, first_or, has, is_among, is_any_part, leaf_at, part, parts, the}
use Rattle.source_model.specs.OutOfRange.{is_16_bits}
use Rattle.source_model.specs.Source.{Source}
use Rattle.source_model.specs.Values.{int_at}
use Rattle.source_nodes.specs.Derived.{FitsBody, head_of}
use Rattle.source_nodes.specs.Readers.{IsOf}
use Rattle.source_syntax.proofs.BodyLemmas.{any_front, fits_has, has_later}
use Rattle.source_syntax.proofs.NameTokens.{terminals_of_rule}
use Rattle.source_syntax.proofs.ReferenceLemmas.{sound_part}
use Rattle.source_nodes.proofs.WrittenNames.{fits_rule, one_in}
use Rattle.source_flags.specs.InRange.{AllInRange, IsInRange}
use Rattle.source_flags.proofs.Bits.{passes_at}
use Rattle.lower_manifest.proofs.KeyLemmas.{only}
use Rattle.lower_manifest.proofs.Tokens.{array_at}

-- what stands in a part stands in the whole
has_inside : (r q : ℕ) (b a : Forest) → has r b ≡ true → has r (branch q b a) ≡ true
has_inside r q b a e = go (r == q) refl
  where
    go : (c : Bool) → (r == q) ≡ c → has r (branch q b a) ≡ true
    go true is = ap (λ (c : Bool). is_any_part ((if c || false then part q b ∷ [] else parts (r ∷ []) b) ++ parts (r ∷ []) a)) is
    go false is =
        ap (λ (c : Bool). is_any_part ((if c || false then part q b ∷ [] else parts (r ∷ []) b) ++ parts (r ∷ []) a)) is
        ∙ any_front (parts (r ∷ []) b) (parts (r ∷ []) a) e

pub the_has : (r p : ℕ) (f : Forest) → has r (the p f) ≡ true → has r f ≡ true
the_has r p none e = absurd cc
the_has r p (leaf k a) e = the_has r p a e
the_has r p (branch q b a) e = go (the_has r p b) (the_has r p a) (p == q) refl
  where
    of_first : (has r (the p b) ≡ true → has r b ≡ true) → (has r (the p a) ≡ true → has r a ≡ true) → (ps : List Part) → parts (p ∷ []) b ≡ ps
        → has r (first_or none (below_each (parts (p ∷ []) b ++ parts (p ∷ []) a))) ≡ true → has r (branch q b a) ≡ true
    of_first low after [] is h = has_later r q b a (after (sym (ap (λ qs. has r (first_or none (below_each (qs ++ parts (p ∷ []) a)))) is) ∙ h))
    of_first low after (x ∷ ps) is h =
        has_inside r q b a
        (low
        (ap (λ qs. has r (first_or none (below_each qs))) is
        ∙ sym (ap (λ qs. has r (first_or none (below_each (qs ++ parts (p ∷ []) a)))) is) ∙ h))

    go : (has r (the p b) ≡ true → has r b ≡ true) → (has r (the p a) ≡ true → has r a ≡ true) → (c : Bool) → (p == q) ≡ c → has r (branch q b a) ≡ true
    go low after true is =
        has_inside r q b a
        (sym (ap (λ (c : Bool). has r (first_or none (below_each ((if c || false then part q b ∷ [] else parts (p ∷ []) b) ++ parts (p ∷ []) a)))) is) ∙ e)
    go low after false is =
        of_first low after (parts (p ∷ []) b) refl
        (sym (ap (λ (c : Bool). has r (first_or none (below_each ((if c || false then part q b ∷ [] else parts (p ∷ []) b) ++ parts (p ∷ []) a)))) is) ∙ e)

-- ---- strings

abbrev text_body : List Symbol
text_body = Nonterminal n.TEXT ∷ []

rule_text : ilasm CONST_TEXT ≡ Some (rule_of n.CONST text_body)
unfolding ilasm rule_by
rule_text = refl

one_text : (p : ℕ) → head_of p ≡ Some n.TEXT → p ≡ TEXT
unfolding ilasm
one_text p e = one_in _ _ _ n.TEXT TEXT p e refl

first_bytes : slice_get (terminals_of_rule (ilasm CONST_BYTES)) 0 ≡ Some t.BYTE_ARRAY
unfolding ilasm rule_by
first_bytes = refl

module _ (s : Source) (f : Forest) (each : AllInRange s f) where
  pub text_in_constant : has CONST_TEXT f ≡ true → IsInRange s TEXT (the TEXT f) × AllInRange s (the TEXT f)
  text_in_constant some =
      let own = sound_part (IsInRange s) CONST_TEXT f each some in
      let g = the CONST_TEXT f in
      let inner = fits_has s text_body g n.TEXT TEXT (fits_rule s CONST_TEXT n.CONST text_body g rule_text own.0.fits) refl one_text in
      sound_part (IsInRange s) TEXT f each (the_has TEXT CONST_TEXT f inner)

  pub bytes_in_constant : has CONST_BYTES f ≡ true → IsOf s kind.ByteArray (leaf_at 0 (the CONST_BYTES f))
  bytes_in_constant some = array_at s CONST_BYTES 0 (the CONST_BYTES f) first_bytes (sound_part (IsInRange s) CONST_BYTES f each some).0.fits

  pub char_in_constant : has CONST_CHAR f ≡ true → is_16_bits (int_at s (const_token (the CONST_CHAR f))) ≡ true
  char_in_constant some = passes_at is_16_bits s (const_token (the CONST_CHAR f)) (sound_part (IsInRange s) CONST_CHAR f each some).0.constants

-- ---- cultures

abbrev culture_body : List Symbol
culture_body = Terminal (t.WORDS + word.DOT_CULTURE) ∷ Nonterminal n.TEXT ∷ []

abbrev locale_body : List Symbol
locale_body = Terminal (t.WORDS + word.DOT_LOCALE) ∷ Nonterminal n.TEXT ∷ []

rule_culture : ilasm KEY_CULTURE ≡ Some (rule_of n.KEY culture_body)
unfolding ilasm rule_by
rule_culture = refl

rule_locale : ilasm KEY_LOCALE ≡ Some (rule_of n.KEY locale_body)
unfolding ilasm rule_by
rule_locale = refl

pub culture_text : (s : Source) (f : Forest) → AllInRange s f → (p : ℕ) → is_among (KEY_CULTURE ∷ KEY_LOCALE ∷ []) p ≡ true → IsInRange s p f
    → IsInRange s TEXT (the TEXT f) × AllInRange s (the TEXT f)
culture_text s f each p e h = sound_part (IsInRange s) TEXT f each (go (KEY_CULTURE == p) refl e)
  where
    go : (c : Bool) → (KEY_CULTURE == p) ≡ c → (c || is_among (KEY_LOCALE ∷ []) p) ≡ true → has TEXT f ≡ true
    go true is i =
        let fit = subst (λ q. FitsBody s q f) (sym ((Decides-eqb KEY_CULTURE p).0 is)) h.fits in
        fits_has s culture_body f n.TEXT TEXT (fits_rule s KEY_CULTURE n.KEY culture_body f rule_culture fit) refl one_text
    go false is i =
        let fit = subst (λ q. FitsBody s q f) (only KEY_LOCALE p i) h.fits in
        fits_has s locale_body f n.TEXT TEXT (fits_rule s KEY_LOCALE n.KEY locale_body f rule_locale fit) refl one_text
