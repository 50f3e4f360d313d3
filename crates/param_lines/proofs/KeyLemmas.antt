-- Lines of `.param type`: their keys.
use Rattle.std.proofs.Common.{◌≡◌, ℕ, ◌+◌, ◌-◌, ◌≤◌, ◌<◌, ◌^◌, ◌⊎◌, inl, inr, List, [], ◌∷◌, Option, None, Some, length, min, refl, ap, sym, subst, ◌∙◌, arith}
use Rattle.std.specs.Prelude.{Bool, true, false, ◌==◌, ◌&&◌, ◌||◌, if◌then◌else◌, bytes_eq, nat_lt, position}
use Rattle.std.proofs.lemmas.Bool.{ltb-true}
use Rattle.std.proofs.lemmas.Bool.Decides.{Decides-eqb}
use Rattle.std.proofs.lemmas.List.Quantifiers.{position-Some}
use Rattle.il_lexer.specs.declared.types.TokenKind.TheVariants as kind
use Rattle.il_lexer.specs.declared.word.TheConstants as word
use Rattle.ilasm_grammar.specs.Grammar.{rule_of}
use Rattle.ilasm_grammar.specs.Ilasm.{ilasm, rule_by}
use Rattle.ilasm_grammar.specs.declared.nonterminals.TheConstants as n
use Rattle.ilasm_grammar.specs.declared.productions.TheConstants.{ITEM_PARAM, MEMBER_PARAM, PARAM_OF_TYPE, TYPAR_KEY_BRACKET, TYPAR_KEY_NAME}
use Rattle.ilasm_grammar.specs.declared.symbol.Symbol.{Symbol}
use Rattle.ilasm_grammar.specs.declared.symbol.Symbol.TheVariants.{Nonterminal, Terminal}
use Rattle.ilasm_grammar.specs.declared.terminals.TheConstants as t
use Rattle.source_model.specs.Forest.{Forest, Part, none, leaf, branch, has, leaf_at, the}
use Rattle.source_model.specs.Parameters.{is_typar_line, typar_number}
use Rattle.source_model.specs.Shapes.{natural}
use Rattle.source_model.specs.Source.{Source}
use Rattle.source_model.specs.Types.{number_of, or_length}
use Rattle.source_model.specs.Values.{int_at, name_text}
use Rattle.source_nodes.specs.Derived.{Fits, FitsBody, head_of}
use Rattle.source_nodes.specs.Readers.{IsOf}
use Rattle.source_syntax.proofs.BodyLemmas.{goes_on_with, has_later, has_own}
use Rattle.source_syntax.proofs.NameTokens.{key_of_typar_is_name}
use Rattle.source_syntax.proofs.ReferenceLemmas.{sound_part}
use Rattle.source_syntax.proofs.VariableLemmas.{within_in}
use Rattle.source_nodes.proofs.WrittenNames.{fits_rule}
use Rattle.source_flags.specs.InRange.{IsInRange}
use Rattle.source_flags.proofs.Gathered.{has_bodies}
use Rattle.lower_manifest.proofs.ConstantLemmas.{the_has}
use Rattle.param_lines.specs.Ranged.{IsRanged}

-- ---- a nonterminal of a body stands in the forest, as one of its productions

pub record Stands (m : ℕ) (f : Forest) : Type 0 where
  pub production : ℕ
  pub head : head_of production ≡ Some m
  pub is : has production f ≡ true

stands_later : (m q : ℕ) (b a : Forest) → Stands m a → Stands m (branch q b a)
stands_later m q b a x = record { production = x.production; head = x.head; is = has_later x.production q b a x.is }

fits_some : (s : Source) (body : List Symbol) (f : Forest) (m : ℕ) → Fits s body f → goes_on_with m body ≡ true → Stands m f
fits_some s [] f m h e = absurd cc
fits_some s (Terminal x ∷ more) none m h e = absurd h
fits_some s (Terminal x ∷ more) (leaf k a) m h e =
    let l = fits_some s more a m h.1 e in record { production = l.production; head = l.head; is = l.is }
fits_some s (Terminal x ∷ more) (branch q b a) m h e = absurd h
fits_some s (Nonterminal l ∷ more) none m h e = absurd h
fits_some s (Nonterminal l ∷ more) (leaf k a) m h e = absurd h
fits_some s (Nonterminal l ∷ more) (branch q b a) m h e = go (l == m) refl (λ on. fits_some s more a m h.1 on)
  where
    go : (c : Bool) → (l == m) ≡ c → (goes_on_with m more ≡ true → Stands m a) → Stands m (branch q b a)
    go true is after = record { production = q; head = h.0 ∙ ap Some ((Decides-eqb l m).0 is); is = has_own q b a }
    go false apart after = stands_later m q b a (after (sym (ap (λ (c : Bool). c || goes_on_with m more) apart) ∙ e))

-- ---- keys

key_within : (p : ℕ) → head_of p ≡ Some n.TYPAR_KEY → (nat_lt TYPAR_KEY_BRACKET (1 + (0 + p)) ≡ true) × (nat_lt (0 + p) (1 + TYPAR_KEY_NAME) ≡ true)
unfolding ilasm
key_within p e = within_in _ _ _ n.TYPAR_KEY TYPAR_KEY_BRACKET TYPAR_KEY_NAME p e refl

key_is : (p : ℕ) → head_of p ≡ Some n.TYPAR_KEY → (p ≡ TYPAR_KEY_BRACKET) ⊎ (p ≡ TYPAR_KEY_NAME)
key_is p e = go (p == TYPAR_KEY_BRACKET) refl
  where
    go : (b : Bool) → (p == TYPAR_KEY_BRACKET) ≡ b → (p ≡ TYPAR_KEY_BRACKET) ⊎ (p ≡ TYPAR_KEY_NAME)
    go true same = inl ((Decides-eqb p TYPAR_KEY_BRACKET).0 same)
    go false apart =
        let w = key_within p e in
        let low = ltb-true TYPAR_KEY_BRACKET (1 + (0 + p)) w.0 in
        let high = ltb-true (0 + p) (1 + TYPAR_KEY_NAME) w.1 in
        let differs : p ≡ TYPAR_KEY_BRACKET → ⊥ = λ is. let also = (Decides-eqb p TYPAR_KEY_BRACKET).1 is in absurd cc in
        inr (omega (arith, low, high, differs))

abbrev type_body : List Symbol
type_body = Terminal (t.WORDS + word.TYPE) ∷ Nonterminal n.TYPAR_KEY ∷ []

abbrev member_body : List Symbol
member_body = Terminal (t.WORDS + word.DOT_PARAM) ∷ Terminal (t.WORDS + word.TYPE) ∷ Nonterminal n.TYPAR_KEY ∷ []

rule_type : ilasm PARAM_OF_TYPE ≡ Some (rule_of n.PARAM_OF type_body)
unfolding ilasm rule_by
rule_type = refl

rule_member : ilasm MEMBER_PARAM ≡ Some (rule_of n.MEMBER member_body)
unfolding ilasm rule_by
rule_member = refl

abbrev HasKey : Forest → Type 0
HasKey f = (has TYPAR_KEY_BRACKET f ≡ true) ⊎ (has TYPAR_KEY_NAME f ≡ true)

of_stands : (f : Forest) → Stands n.TYPAR_KEY f → HasKey f
of_stands f x = elim (key_is x.production x.head) [
  | inl e ↦ inl (subst (λ q. has q f ≡ true) e x.is)
  | inr e ↦ inr (subst (λ q. has q f ≡ true) e x.is)
]

within_the : (f : Forest) → HasKey (the PARAM_OF_TYPE f) → HasKey f
within_the f (inl e) = inl (the_has TYPAR_KEY_BRACKET PARAM_OF_TYPE f e)
within_the f (inr e) = inr (the_has TYPAR_KEY_NAME PARAM_OF_TYPE f e)

either : (a b : Bool) → (a || b) ≡ true → a ≡ false → b ≡ true
either true b e h = absurd cc
either false b e h = e

second : (a b : Bool) → (a && b) ≡ true → b ≡ true
second true b e = e
second false b e = absurd cc

has_key : (s : Source) (p : Part) → is_typar_line p ≡ true → IsRanged s p → HasKey p.below
has_key s p e h = go (p.production == MEMBER_PARAM) refl
  where
    go : (c : Bool) → (p.production == MEMBER_PARAM) ≡ c → HasKey p.below
    go true is =
        let fit = subst (λ q. FitsBody s q p.below) ((Decides-eqb p.production MEMBER_PARAM).0 is) h.0.fits in
        of_stands p.below (fits_some s member_body p.below n.TYPAR_KEY (fits_rule s MEMBER_PARAM n.MEMBER member_body p.below rule_member fit) refl)
    go false other =
        let line = either (p.production == MEMBER_PARAM) (p.production == ITEM_PARAM && has PARAM_OF_TYPE p.below) e other in
        let is = second (p.production == ITEM_PARAM) (has PARAM_OF_TYPE p.below) line in
        let own = sound_part (IsInRange s) PARAM_OF_TYPE p.below h.1 is in
        let below = the PARAM_OF_TYPE p.below in
        within_the p.below (of_stands below (fits_some s type_body below n.TYPAR_KEY (fits_rule s PARAM_OF_TYPE n.PARAM_OF type_body below rule_type own.0.fits) refl))

pub key_name : (s : Source) (p : Part) → is_typar_line p ≡ true → IsRanged s p → has TYPAR_KEY_BRACKET p.below ≡ false → IsOf s kind.Name (leaf_at 0 (the TYPAR_KEY_NAME p.below))
key_name s p e h other = elim (has_key s p e h) [
  | inl some ↦ absurd cc
  | inr some ↦ key_of_typar_is_name s p.below some (has_bodies s p.below h.1)
]

-- ---- numbers

abbrev number_by : Bool → Source → List (List ℕ) → Forest → ℕ
number_by c s names f = if c then natural (int_at s (leaf_at 1 (the TYPAR_KEY_BRACKET f))) - 1 else number_of names (name_text s (leaf_at 0 (the TYPAR_KEY_NAME f)))

pub by_bracket : (s : Source) (names : List (List ℕ)) (f : Forest) (m : ℕ) → has TYPAR_KEY_BRACKET f ≡ true → m ≡ min (natural (int_at s (leaf_at 1 (the TYPAR_KEY_BRACKET f)))) 0x100000000
    → m - 1 ≡ min (typar_number s names f) 0xFFFFFFFF
by_bracket s names f m some e =
    let same : min (natural (int_at s (leaf_at 1 (the TYPAR_KEY_BRACKET f))) - 1) 0xFFFFFFFF ≡ min (typar_number s names f) 0xFFFFFFFF =
    ap (λ c. min (number_by c s names f) 0xFFFFFFFF) (sym some) in
    let capped : m - 1 ≡ min (natural (int_at s (leaf_at 1 (the TYPAR_KEY_BRACKET f))) - 1) 0xFFFFFFFF = omega (arith, e) in
    capped ∙ same

number_within : (names : List (List ℕ)) (text : List ℕ) → number_of names text ≤ length names
number_within names text = go (position (bytes_eq text) names) refl
  where
    go : (o : Option ℕ) → position (bytes_eq text) names ≡ o → or_length o names ≤ length names
    go None e = omega arith
    go (Some k) e = let found = position-Some (bytes_eq text) names k [] e in omega (arith, found.0)

pub by_name : (s : Source) (names : List (List ℕ)) (f : Forest) (m : ℕ) (text : List ℕ) → has TYPAR_KEY_BRACKET f ≡ false → length names < 2 ^ 32
    → text ≡ name_text s (leaf_at 0 (the TYPAR_KEY_NAME f)) → m ≡ number_of names text → m ≡ min (typar_number s names f) 0xFFFFFFFF
by_name s names f m text other few is e =
    let within : number_of names text ≤ length names = number_within names text in
    let same : number_of names text ≡ typar_number s names f = ap (number_of names) is ∙ ap (λ c. number_by c s names f) (sym other) in
    let capped : m ≡ min (number_of names text) 0xFFFFFFFF = omega (arith, e, within, few) in
    capped ∙ ap (λ n. min n 0xFFFFFFFF) same
