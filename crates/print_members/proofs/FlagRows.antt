-- What is drawn for flags, step by step.
use Rattle.std.proofs.Common.{◌≡◌, ℕ, ◌==◌, Bool, true, false, cond, List, [], ◌∷◌, ◌++◌, map, fold, refl, ap, sym, ◌∙◌}
use Rattle.std.specs.Prelude.{bit_and, bit_or, bit_xor}
use Rattle.il_lexer.specs.declared.word.TheConstants.{NESTED}
use Rattle.ilasm_grammar.specs.declared.nonterminals.TheConstants as n
use Rattle.ilasm_grammar.specs.declared.productions.TheConstants as p
use Rattle.listing_model.specs.Flags.{FlagWord, holds, said, rest_of, without_bits, word_item, nested_item, rest_items, flag_items, flags_below, type_access, nested_access, type_words, type_flag_items}
use Rattle.listing_model.specs.Shown.{none, branch, item, w}
use Rattle.print_leaves.specs.Page.{Page, drawn}
use Rattle.print_terms.specs.Rows.{in_row}
use Rattle.print_terms.proofs.Rows.{row_append, row_map}
use Rattle.print_members.specs.declared.tables.FlagRow.{FlagRow}
use Rattle.print_members.specs.Flags.{listed, word_step, nested_step, bits_step, rest_drawn, flags_drawn}

-- ---- the words that hold

abbrev word_drawn : Page → FlagWord → Page
word_drawn q x = drawn q (w x.word none)

abbrev nested_drawn : Page → FlagWord → Page
nested_drawn q x = drawn q (w NESTED (w x.word none))

module _ {S : Type 0} (f : S → FlagWord → S) (k : ℕ) where
  abbrev step : S → FlagRow → S
  step s r = cond (holds k (listed r)) (f s (listed r)) s

  one_more : (s : S) (r : FlagRow) (rs : List FlagRow) (t : Bool) → ((q : S) → fold step q rs ≡ fold f q (said (map listed rs) k)) →
      fold step (cond t (f s (listed r)) s) rs ≡ fold f s (cond t (listed r ∷ said (map listed rs) k) (said (map listed rs) k))
  one_more s r rs true rest = rest (f s (listed r))
  one_more s r rs false rest = rest s

  pub said_fold : (s : S) (rows : List FlagRow) → fold step s rows ≡ fold f s (said (map listed rows) k)
  said_fold s [] = refl
  said_fold s (r ∷ rs) = one_more s r rs (holds k (listed r)) (λ q. said_fold q rs)

-- ---- rows of flags

rest_by : (production k : ℕ) (q : Page) (t : Bool) →
    in_row q (cond t [] (item production (branch p.FLAGS (flags_below k) none) ∷ [])) ≡ cond t q (drawn q (flags_below k))
rest_by production k q true = refl
rest_by production k q false = refl

rest_is : (production k : ℕ) (q : Page) → in_row q (rest_items production k) ≡ rest_drawn q k
rest_is production k q = rest_by production k q (k == 0)

pub flags_are : (nonterminal production : ℕ) (words : List FlagWord) (k : ℕ) (q : Page) →
    in_row q (flag_items nonterminal production words k) ≡ flags_drawn words k q
flags_are nonterminal production words k q =
    row_append q (map (λ x. word_item nonterminal x.word) (said words k)) (rest_items production (rest_of words k))
    ∙ (ap (λ r. in_row r (rest_items production (rest_of words k))) (row_map (λ x. word_item nonterminal x.word) q (said words k))
    ∙ rest_is production (rest_of words k) (fold word_drawn q (said words k)))

pub flags_done : (k bits : ℕ) (q a new : Page) (rows : List FlagRow) → a ≡ fold (word_step k) q rows → bits ≡ fold (bits_step k) 0 rows →
    new ≡ rest_drawn a (bit_xor k (bit_and k bits)) → new ≡ flags_drawn (map listed rows) k q
flags_done k bits q a new rows ha hb hn =
    hn
    ∙ (ap (λ r. rest_drawn r (bit_xor k (bit_and k bits))) (ha ∙ said_fold word_drawn k q rows)
    ∙ ap (λ b. rest_drawn (fold word_drawn q (said (map listed rows) k)) (bit_xor k (bit_and k b)))
    (hb ∙ said_fold (λ bits x. bit_or bits x.group) k 0 rows))

pub kind_done : (nonterminal production : ℕ) (words : List FlagWord) (k : ℕ) (q new : Page) → new ≡ flags_drawn words k q →
    new ≡ in_row q (flag_items nonterminal production words k)
kind_done nonterminal production words k q new h = h ∙ sym (flags_are nonterminal production words k q)

-- ---- types

pub type_flags_are : (k : ℕ) (q : Page) →
    in_row q (type_flag_items k)
    ≡ flags_drawn type_words (without_bits 7 k) (fold nested_drawn (fold word_drawn q (said type_access k)) (said nested_access k))
type_flags_are k q =
    let rest = flag_items n.CLASS_ATTR p.CLASS_ATTR_FLAGS type_words (without_bits 7 k) in
    let access = map (λ x. word_item n.CLASS_ATTR x.word) (said type_access k) in
    let nested = map nested_item (said nested_access k) in
    row_append q (access ++ nested) rest
    ∙ (ap (λ r. in_row r rest)
    (row_append q access nested
    ∙ (ap (λ r. in_row r nested) (row_map (λ x. word_item n.CLASS_ATTR x.word) q (said type_access k))
    ∙ row_map nested_item (fold word_drawn q (said type_access k)) (said nested_access k)))
    ∙ flags_are n.CLASS_ATTR p.CLASS_ATTR_FLAGS type_words (without_bits 7 k)
    (fold nested_drawn (fold word_drawn q (said type_access k)) (said nested_access k)))

-- the rows of a table that the definition has as these words
abbrev pub rows : List FlagWord → List FlagRow
rows words = map (λ x. record { word = x.word; group = x.group; value = x.value }) words

pub type_done : (k : ℕ) (q a b new : Page) (access nested : List FlagRow) → map listed access ≡ type_access → map listed nested ≡ nested_access →
    a ≡ fold (word_step k) q access → b ≡ fold (nested_step k) a nested → new ≡ flags_drawn type_words (bit_xor k (bit_and k 7)) b →
    new ≡ in_row q (type_flag_items k)
type_done k q a b new access nested ea en ha hb hn =
    let first : a ≡ fold word_drawn q (said type_access k) =
    ha ∙ (said_fold word_drawn k q access ∙ ap (λ ws. fold word_drawn q (said ws k)) ea) in
    let second : b ≡ fold nested_drawn a (said nested_access k) =
    hb ∙ (said_fold nested_drawn k a nested ∙ ap (λ ws. fold nested_drawn a (said ws k)) en) in
    hn
    ∙ (ap (λ r. flags_drawn type_words (without_bits 7 k) r)
    (second ∙ ap (λ r. fold nested_drawn r (said nested_access k)) first)
    ∙ sym (type_flags_are k q))
