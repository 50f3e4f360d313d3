-- Flags of types, members, parameters and generic parameters break no rule.
use Rattle.std.proofs.Common.{◌≡◌, ℕ, suc, ◌+◌, ◌<◌, ◌≤◌, ◌^◌, ◌&&◌, ◌||◌, nat_eq, nat_le, not, Bool, true, false, cond, if◌then◌else◌, ℤ, pos, List, [], ◌∷◌, ◌++◌, map, filter, fold, refl, ap, sym, subst, ◌∙◌, arith}
use Rattle.std.proofs.lemmas.Bool.{and_parts, false≢true, le-leb, ltb-true}
use Rattle.std.proofs.lemmas.Nat.{and_le_l, xor_lt}
use Rattle.std.proofs.lemmas.Nat.Bits.{same_from_bits, bit_at_and, bit_at_or, bit_at_xor, bit_at-zero, bit_at-lt}
use Rattle.std.specs.Int.{bit_at}
use Rattle.std.specs.List.{list_all}
use Rattle.std.specs.Prelude.{bit_and, bit_or}
use Rattle.il_lexer.specs.declared.word.TheConstants as word
use Rattle.ilasm_grammar.specs.Ilasm.{picked, picked_by}
use Rattle.ilasm_grammar.specs.declared.nonterminals.TheConstants as n
use Rattle.ilasm_grammar.specs.declared.productions.TheConstants as p
use Rattle.ilasm_grammar.specs.declared.terminals.TheConstants.{WORDS}
use Rattle.assembly_tree.specs.WellFormedMembers.{are_impl_flags}
use Rattle.source_model.specs.Forest as f
use Rattle.source_model.specs.Nodes.{Around, Node, entered}
use Rattle.source_model.specs.OutOfRange.{is_16_bits, is_32_bits, is_natural_with, are_implementation_flags}
use Rattle.source_model.specs.Source.{Source}
use Rattle.source_model.specs.TypeRules.{is_within, unless}
use Rattle.source_model.specs.Values.{int_at, integer}
use Rattle.faultless_nodes.specs.Laws.{BreaksNothing, asked, UnaskedBreakNothing}
use Rattle.listing_growth.specs.Held.{is_u16, is_u32}
use Rattle.listing_model.specs.Flags.{FlagWord, single, holds, said, said_bits, without_bits, rest_of, word_item, flags_below, rest_items, flag_items, nested_item, type_flag_items, type_access, nested_access, type_words, field_words, method_words, implementation_words, parameter_words, property_words, typar_words, assembly_words}
use Rattle.listing_model.specs.Shown.{none, branch, Item, item, size}
use Rattle.listing_reading.specs.Numbered.{numbered, Agrees}
use Rattle.listing_rows.specs.Segments.{ItemsAgree}
use Rattle.listing_values.specs.Laws.{NumbersAreRead}
use Rattle.listing_denotes.specs.Quiet.{ItemsBreakNothing}
use Rattle.listing_denotes.specs.Values.{NumbersAlone, FlagsBreakNothing}

pub all_three : (x y z : Bool) → x ≡ true → y ≡ true → z ≡ true → (x && y && z) ≡ true
all_three true true z h i j = j
all_three true false z h i j = absurd (false≢true i)
all_three false y z h i j = absurd (false≢true h)

pub within : (k n : ℕ) → n ≤ k → is_within (pos 0) (pos k) (pos n) ≡ true
within k n h =
    let least : 0 ≤ n = omega arith in
    all_three true (nat_le 0 n) (nat_le n k) refl (le-leb 0 n least) (le-leb n k h)

pub unless_none : (test : ℤ → Bool) (s : Source) (k : ℕ) (z : ℤ) → int_at s k ≡ z → test z ≡ true → unless test s k ≡ []
unless_none test s k z e t = ap (λ (c : Bool). if c then [] else k ∷ []) (ap test e ∙ t)

not_true : (x : Bool) → not x ≡ true → x ≡ false
not_true false h = refl
not_true true h = absurd (false≢true h)

abbrev node_at : Around → ℕ → f.Forest → Node
node_at a q b = record { production = q; below = b; around = a }

-- what stands below the production of `flags(..)`
abbrev rest_below : ℕ → ℕ → f.Forest
rest_below at k = numbered at (branch p.FLAGS (flags_below k) none)

-- no rule speaks of the production of a word
abbrev pub is_quiet_word : ℕ → FlagWord → Bool
is_quiet_word nonterminal x = not (f.is_among asked (picked nonterminal (WORDS + x.word)))

-- the words that are said are among those of the table
said_pass : (t : FlagWord → Bool) (k : ℕ) (xs : List FlagWord) → list_all t xs ≡ true → list_all t (filter (holds k) xs) ≡ true
said_pass t k [] h = refl
said_pass t k (x ∷ xs) h =
    let hs = and_parts (t x) (list_all t xs) h in by (holds k x) x (filter (holds k) xs) hs.0 (said_pass t k xs hs.1)
  where
    by : (b : Bool) (y : FlagWord) (ys : List FlagWord) → t y ≡ true → list_all t ys ≡ true → list_all t (cond b (y ∷ ys) ys) ≡ true
    by true y ys e r = ap (λ c. c && list_all t ys) e ∙ r
    by false y ys e r = r

-- ---- rows

module _ (unasked : UnaskedBreakNothing) (s : Source) (a : Around) where
  words_then : (nonterminal : ℕ) (xs : List FlagWord) → list_all (is_quiet_word nonterminal) xs ≡ true → (rest : List Item) →
      ((j : ℕ) → ItemsAgree s j rest → ItemsBreakNothing s a j rest) → (at : ℕ) → ItemsAgree s at (map (λ x. word_item nonterminal x.word) xs ++ rest) →
      ItemsBreakNothing s a at (map (λ x. word_item nonterminal x.word) xs ++ rest)
  words_then nonterminal [] h rest r at ag = r at ag
  words_then nonterminal (x ∷ xs) h rest r at ag =
      let hs = and_parts (is_quiet_word nonterminal x) (list_all (is_quiet_word nonterminal) xs) h in
      let own = picked nonterminal (WORDS + x.word) in (
        (unasked.node s (record { production = own; below = f.leaf at f.none; around = entered s a own (f.leaf at f.none) }) (not_true (f.is_among asked own) hs.0), tt),
        words_then nonterminal xs hs.1 rest r (at + size (word_item nonterminal x.word).below) ag.1,
      )

  nested_then : (xs : List FlagWord) → list_all (is_quiet_word n.NESTED_ACCESS) xs ≡ true → (rest : List Item) →
      ((j : ℕ) → ItemsAgree s j rest → ItemsBreakNothing s a j rest) → (at : ℕ) → ItemsAgree s at (map nested_item xs ++ rest) →
      ItemsBreakNothing s a at (map nested_item xs ++ rest)
  nested_then [] h rest r at ag = r at ag
  nested_then (x ∷ xs) h rest r at ag =
      let hs = and_parts (is_quiet_word n.NESTED_ACCESS x) (list_all (is_quiet_word n.NESTED_ACCESS) xs) h in
      let own = picked n.NESTED_ACCESS (WORDS + x.word) in
      let below = f.leaf (suc at) f.none in (
        (unasked.node s _ refl, (unasked.node s (record { production = own; below = below; around = entered s a own below }) (not_true (f.is_among asked own) hs.0), tt)),
        nested_then xs hs.1 rest r (at + size (nested_item x).below) ag.1,
      )

  -- `flags(..)` breaks none where its number doesn't
  rest_then : (production k : ℕ) → ((x : Around) (at : ℕ) → Agrees s at (branch p.FLAGS (flags_below k) none) → BreaksNothing s (node_at x production (rest_below at k))) →
      (b : Bool) → nat_eq k 0 ≡ b → (at : ℕ) → ItemsAgree s at (cond b [] (item production (branch p.FLAGS (flags_below k) none) ∷ [])) →
      ItemsBreakNothing s a at (cond b [] (item production (branch p.FLAGS (flags_below k) none) ∷ []))
  rest_then production k own true e at ag = tt
  rest_then production k own false e at ag =
      let around = entered s a production (rest_below at k) in
      (unasked.branch s a production (rest_below at k) f.none (own around at ag.0) (unasked.forest s around (rest_below at k) refl) tt, tt)

  pub row_quiet : (nonterminal production : ℕ) (table : List FlagWord) → list_all (is_quiet_word nonterminal) table ≡ true → (k : ℕ) →
      ((x : Around) (at : ℕ) → Agrees s at (branch p.FLAGS (flags_below (rest_of table k)) none) → BreaksNothing s (node_at x production (rest_below at (rest_of table k)))) →
      (at : ℕ) → ItemsAgree s at (flag_items nonterminal production table k) → ItemsBreakNothing s a at (flag_items nonterminal production table k)
  row_quiet nonterminal production table h k own at ag =
      words_then nonterminal (said table k) (said_pass (is_quiet_word nonterminal) k table h) (rest_items production (rest_of table k))
      (λ j i. rest_then production (rest_of table k) own (nat_eq (rest_of table k) 0) refl j i) at ag

-- ---- the tables

type_access_words : list_all (is_quiet_word n.CLASS_ATTR) type_access ≡ true
unfolding picked picked_by
type_access_words = refl

nested_access_words : list_all (is_quiet_word n.NESTED_ACCESS) nested_access ≡ true
unfolding picked picked_by
nested_access_words = refl

type_table : list_all (is_quiet_word n.CLASS_ATTR) type_words ≡ true
unfolding picked picked_by
type_table = refl

field_table : list_all (is_quiet_word n.FIELD_ATTR) field_words ≡ true
unfolding picked picked_by
field_table = refl

method_table : list_all (is_quiet_word n.METHOD_ATTR) method_words ≡ true
unfolding picked picked_by
method_table = refl

implementation_table : list_all (is_quiet_word n.IMPL_ATTR) implementation_words ≡ true
unfolding picked picked_by
implementation_table = refl

parameter_table : list_all (is_quiet_word n.PARAM_ATTR) parameter_words ≡ true
unfolding picked picked_by
parameter_table = refl

property_table : list_all (is_quiet_word n.PROPERTY_ATTR) property_words ≡ true
unfolding picked picked_by
property_table = refl

typar_table : list_all (is_quiet_word n.TYPAR_ATTR) typar_words ≡ true
unfolding picked picked_by
typar_table = refl

pub assembly_table : list_all (is_quiet_word n.ASSEMBLY_ATTR) assembly_words ≡ true
unfolding picked picked_by
assembly_table = refl

-- ---- the numbers that are left

pub without_16 : (bits k : ℕ) → is_u16 k ≡ true → without_bits bits k < 2 ^ 16
without_16 bits k h =
    let small = ltb-true k 0x10000 h in
    let low = and_le_l k bits in
    xor_lt 16 k (bit_and k bits) (omega arith) (omega arith)

pub without_32 : (bits k : ℕ) → k < 2 ^ 32 → without_bits bits k < 2 ^ 32
without_32 bits k small =
    let low = and_le_l k bits in
    xor_lt 32 k (bit_and k bits) small (omega arith)

small_16 : (k : ℕ) → k < 2 ^ 16 → k < 2 ^ 128
small_16 k h = omega arith

small_32 : (k : ℕ) → k < 2 ^ 32 → k < 2 ^ 128
small_32 k h = omega arith

at_most_16 : (k : ℕ) → k < 2 ^ 16 → k ≤ 0xFFFF
at_most_16 k h = omega arith

at_most_32 : (k : ℕ) → k < 2 ^ 32 → k ≤ 0xFFFFFFFF
at_most_32 k h = omega arith

module _ (numbers : NumbersAreRead) (s : Source) where
  abbrev IsHere : ℕ → ℕ → Type 0
  IsHere at k = Agrees s at (branch p.FLAGS (flags_below k) none)

  number_16 : (k : ℕ) → k < 2 ^ 16 → (at : ℕ) → IsHere at k → unless is_16_bits s (suc (suc at)) ≡ []
  number_16 k small at ag =
      unless_none is_16_bits s (suc (suc at)) (pos k) (ap integer ag.0.1.1.0.text ∙ numbers.hexadecimal 0 k (small_16 k small)) (within 0xFFFF k (at_most_16 k small))

  number_32 : (k : ℕ) → k < 2 ^ 32 → (at : ℕ) → IsHere at k → unless is_32_bits s (suc (suc at)) ≡ []
  number_32 k small at ag =
      unless_none is_32_bits s (suc (suc at)) (pos k) (ap integer ag.0.1.1.0.text ∙ numbers.hexadecimal 0 k (small_32 k small)) (within 0xFFFFFFFF k (at_most_32 k small))

  number_implementation : (k : ℕ) → k < 2 ^ 16 → bit_and k 7 ≡ 0 → (at : ℕ) → IsHere at k → unless (is_natural_with are_implementation_flags) s (suc (suc at)) ≡ []
  number_implementation k small clear at ag =
      unless_none (is_natural_with are_implementation_flags) s (suc (suc at)) (pos k) (ap integer ag.0.1.1.0.text ∙ numbers.hexadecimal 0 k (small_16 k small))
      (both (nat_le k 0xFFFF) (nat_eq (bit_and k 7) 0) (le-leb k 0xFFFF (at_most_16 k small)) (ap (λ (j : ℕ). nat_eq j 0) clear))
    where
      both : (x y : Bool) → x ≡ true → y ≡ true → (x && y) ≡ true
      both true y i j = j
      both false y i j = i

  module _ (alone : NumbersAlone) (x : Around) where
    type_quiet : (k : ℕ) → k < 2 ^ 32 → (at : ℕ) → IsHere at k → BreaksNothing s (node_at x p.CLASS_ATTR_FLAGS (rest_below at k))
    type_quiet k small at ag = let e = number_32 k small at ag in alone s _ refl (simp e)

    field_quiet : (k : ℕ) → k < 2 ^ 16 → (at : ℕ) → IsHere at k → BreaksNothing s (node_at x p.FIELD_ATTR_FLAGS (rest_below at k))
    field_quiet k small at ag = let e = number_16 k small at ag in alone s _ refl (simp e)

    method_quiet : (k : ℕ) → k < 2 ^ 16 → (at : ℕ) → IsHere at k → BreaksNothing s (node_at x p.METHOD_ATTR_FLAGS (rest_below at k))
    method_quiet k small at ag = let e = number_16 k small at ag in alone s _ refl (simp e)

    implementation_quiet : (k : ℕ) → k < 2 ^ 16 → bit_and k 7 ≡ 0 → (at : ℕ) → IsHere at k → BreaksNothing s (node_at x p.IMPL_ATTR_FLAGS (rest_below at k))
    implementation_quiet k small clear at ag = let e = number_implementation k small clear at ag in alone s _ refl (simp e)

    parameter_quiet : (k : ℕ) → k < 2 ^ 16 → (at : ℕ) → IsHere at k → BreaksNothing s (node_at x p.PARAM_ATTR_FLAGS (rest_below at k))
    parameter_quiet k small at ag = let e = number_16 k small at ag in alone s _ refl (simp e)

    property_quiet : (k : ℕ) → k < 2 ^ 16 → (at : ℕ) → IsHere at k → BreaksNothing s (node_at x p.PROPERTY_ATTR_FLAGS (rest_below at k))
    property_quiet k small at ag = let e = number_16 k small at ag in alone s _ refl (simp e)

    typar_quiet : (k : ℕ) → k < 2 ^ 16 → (at : ℕ) → IsHere at k → BreaksNothing s (node_at x p.TYPAR_ATTR_FLAGS (rest_below at k))
    typar_quiet k small at ag = let e = number_16 k small at ag in alone s _ refl (simp e)

    pub assembly_quiet : (k : ℕ) → k < 2 ^ 32 → (at : ℕ) → IsHere at k → BreaksNothing s (node_at x p.ASSEMBLY_ATTR_FLAGS (rest_below at k))
    assembly_quiet k small at ag = let e = number_32 k small at ag in alone s _ refl (simp e)

-- ---- flags of implementations: the words say the first three bits, whatever they are

-- bits that are in a mask stay in it
bits_stay : (m : ℕ) (xs : List FlagWord) (from : ℕ) → bit_and from m ≡ m → bit_and (fold (λ bits x. bit_or bits x.group) from xs) m ≡ m
bits_stay m [] from h = h
bits_stay m (x ∷ xs) from h = bits_stay m xs (bit_or from x.group)
    (same_from_bits (bit_and (bit_or from x.group) m) m
    (λ i.
    let one = bit_at_and (bit_or from x.group) m i in
    let two = bit_at_or from x.group i in
    let three = bit_at_and from m i in
    let four = ap (λ k. bit_at k i) h in
    omega (arith, one, two, three, four)))

-- what is left has none of them
none_left : (k m bits : ℕ) → bit_and bits m ≡ m → bit_and (without_bits bits k) m ≡ 0
none_left k m bits h =
    same_from_bits (bit_and (without_bits bits k) m) 0
    (λ i.
    let one = bit_at_and (without_bits bits k) m i in
    let two = bit_at_xor k (bit_and k bits) i in
    let three = bit_at_and k bits i in
    let four = bit_at_and bits m i in
    let five = ap (λ j. bit_at j i) h in
    let six = bit_at-zero i in
    let b = bit_at-lt k i in
    let c = bit_at-lt bits i in
    let d = bit_at-lt m i in
    omega (arith, one, two, three, four, five, six, b, c, d))

abbrev said_from : ℕ → List FlagWord → ℕ
said_from from xs = fold (λ bits x. bit_or bits x.group) from xs

abbrev group_word : ℕ → ℕ → ℕ → FlagWord
group_word word group value = record { word = word; group = group; value = value }

by_words : (others : List FlagWord) (b c d : Bool) → (b || c) ≡ true → d ≡ true →
    bit_and
    (said_from 0
    (cond b (group_word word.CIL 3 0 ∷ cond c (group_word word.RUNTIME 3 3 ∷ cond d (group_word word.MANAGED 4 0 ∷ others) others) (cond d (group_word word.MANAGED 4 0 ∷ others) others))
    (cond c (group_word word.RUNTIME 3 3 ∷ cond d (group_word word.MANAGED 4 0 ∷ others) others) (cond d (group_word word.MANAGED 4 0 ∷ others) others))))
    7
    ≡ 7
by_words others true true true h i = bits_stay 7 others 7 refl
by_words others true false true h i = bits_stay 7 others 7 refl
by_words others false true true h i = bits_stay 7 others 7 refl
by_words others false false d h i = absurd (false≢true h)
by_words others b c false h i = absurd (false≢true i)

left_clear : (k : ℕ) → are_impl_flags k ≡ true → bit_and (rest_of implementation_words k) 7 ≡ 0
left_clear k h =
    let hs = and_parts (nat_eq (bit_and k 3) 0 || nat_eq (bit_and k 3) 3) (nat_eq (bit_and k 4) 0) h in
    none_left k 7 (said_bits implementation_words k)
    (by_words (filter (holds k) (single word.NOINLINING 8 ∷ single word.FORWARDREF 0x10 ∷ single word.SYNCHRONIZED 0x20 ∷ single word.NOOPTIMIZATION 0x40
    ∷ single word.PRESERVESIG 0x80 ∷ single word.AGGRESSIVEINLINING 0x100 ∷ single word.INTERNALCALL 0x1000 ∷ []))
    (nat_eq (bit_and k 3) 0) (nat_eq (bit_and k 3) 3) (nat_eq (bit_and k 4) 0) hs.0 hs.1)

-- ---- all kinds

regroup : (xs ys zs : List Item) → ((xs ++ ys) ++ zs) ≡ (xs ++ (ys ++ zs))
regroup [] ys zs = refl
regroup (x ∷ xs) ys zs = ap (λ (rest : List Item). x ∷ rest) (regroup xs ys zs)

module _ (unasked : UnaskedBreakNothing) (numbers : NumbersAreRead) (alone : NumbersAlone) (s : Source) (a : Around) where
  abbrev type_items : ℕ → List Item
  type_items k =
      map (λ x. word_item n.CLASS_ATTR x.word) (said type_access k)
      ++ (map nested_item (said nested_access k) ++ flag_items n.CLASS_ATTR p.CLASS_ATTR_FLAGS type_words (without_bits 7 k))

  types_by : (k : ℕ) → is_u32 k ≡ true → (at : ℕ) → ItemsAgree s at (type_items k) → ItemsBreakNothing s a at (type_items k)
  types_by k h at ag =
      let rest = flag_items n.CLASS_ATTR p.CLASS_ATTR_FLAGS type_words (without_bits 7 k) in
      let small = without_32 (said_bits type_words (without_bits 7 k)) (without_bits 7 k) (without_32 7 k (ltb-true k 0x100000000 h)) in
      words_then unasked s a n.CLASS_ATTR (said type_access k) (said_pass (is_quiet_word n.CLASS_ATTR) k type_access type_access_words) (map nested_item (said nested_access k) ++ rest)
      (λ i g. nested_then unasked s a (said nested_access k) (said_pass (is_quiet_word n.NESTED_ACCESS) k nested_access nested_access_words) rest
      (λ j e. row_quiet unasked s a n.CLASS_ATTR p.CLASS_ATTR_FLAGS type_words type_table (without_bits 7 k) (λ x m d. type_quiet numbers s alone x _ small m d) j e) i g) at ag

  types : (k : ℕ) → is_u32 k ≡ true → (at : ℕ) → ItemsAgree s at (type_flag_items k) → ItemsBreakNothing s a at (type_flag_items k)
  types k h at ag =
      let same : type_flag_items k ≡ type_items k = regroup (map (λ x. word_item n.CLASS_ATTR x.word) (said type_access k)) (map nested_item (said nested_access k)) (flag_items n.CLASS_ATTR p.CLASS_ATTR_FLAGS type_words (without_bits 7 k)) in
      subst (λ (xs : List Item). ItemsBreakNothing s a at xs) (sym same) (types_by k h at (subst (λ (xs : List Item). ItemsAgree s at xs) same ag))

pub flags_break_nothing : UnaskedBreakNothing → NumbersAreRead → NumbersAlone → FlagsBreakNothing
flags_break_nothing unasked numbers alone = record {
  types = types unasked numbers alone;
  fields = λ s a k h at ag. row_quiet unasked s a n.FIELD_ATTR p.FIELD_ATTR_FLAGS field_words field_table k (λ x m d. field_quiet numbers s alone x _ (without_16 (said_bits field_words k) k h) m d) at ag;
  methods = λ s a k h at ag. row_quiet unasked s a n.METHOD_ATTR p.METHOD_ATTR_FLAGS method_words method_table k (λ x m d. method_quiet numbers s alone x _ (without_16 (said_bits method_words k) k h) m d) at ag;
  implementations = λ s a k h i at ag. row_quiet unasked s a n.IMPL_ATTR p.IMPL_ATTR_FLAGS implementation_words implementation_table k
      (λ x m d. implementation_quiet numbers s alone x _ (without_16 (said_bits implementation_words k) k h) (left_clear k i) m d) at ag;
  parameters = λ s a k h at ag. row_quiet unasked s a n.PARAM_ATTR p.PARAM_ATTR_FLAGS parameter_words parameter_table k (λ x m d. parameter_quiet numbers s alone x _ (without_16 (said_bits parameter_words k) k h) m d) at ag;
  properties = λ s a k h at ag. row_quiet unasked s a n.PROPERTY_ATTR p.PROPERTY_ATTR_FLAGS property_words property_table k (λ x m d. property_quiet numbers s alone x _ (without_16 (said_bits property_words k) k h) m d) at ag;
  typars = λ s a k h at ag. row_quiet unasked s a n.TYPAR_ATTR p.TYPAR_ATTR_FLAGS typar_words typar_table k (λ x m d. typar_quiet numbers s alone x _ (without_16 (said_bits typar_words k) k h) m d) at ag;
}
