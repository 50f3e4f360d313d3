-- Rows of flags are read back.
use Rattle.std.proofs.Common.{◌≡◌, ℕ, zero, suc, ◌+◌, ◌%◌, ◌^◌, ◌<◌, min, max, ◌&&◌, ◌||◌, not, nat_eq, Bool, true, false, cond, if◌then◌else◌, List, [], ◌∷◌, ◌++◌, map, filter, fold, slice_get, option_map, Option, None, Some, refl, ap, sym, subst, ◌∙◌, append-nil, append_assoc, arith}
use Rattle.std.proofs.lemmas.Bool.{and_parts, eqb-true, false≢true}
use Rattle.std.proofs.lemmas.Nat.{and_le_l, and_le_r, xor_lt}
use Rattle.std.proofs.lemmas.Nat.Bits.{same_from_bits, bit_at_and, bit_at_or, bit_at_xor, bit_at-zero, bit_at-lt}
use Rattle.std.specs.Int.Bits.{xor_add_and, or_zero_r}
use Rattle.std.specs.Int.{bit_at}
use Rattle.std.specs.List.{list_all}
use Rattle.std.specs.Prelude.{bit_and, bit_or}
use Rattle.il_lexer.specs.declared.types.Token.{Token}
use Rattle.il_lexer.specs.declared.types.TokenKind.TheVariants as kind
use Rattle.ilasm_grammar.specs.Ilasm.{picked, picked_by}
use Rattle.ilasm_grammar.specs.declared.nonterminals.TheConstants as n
use Rattle.ilasm_grammar.specs.declared.productions.TheConstants as p
use Rattle.ilasm_grammar.specs.declared.terminals.TheConstants.{WORDS}
use Rattle.source_model.specs.Flags as read
use Rattle.source_model.specs.Forest as f
use Rattle.source_model.specs.Shapes.{natural}
use Rattle.source_model.specs.Source.{Source, word_at, word_of_token, word_number}
use Rattle.source_model.specs.Values.{integer}
use Rattle.listing_model.specs.Flags.{FlagWord, holds, said, said_bits, without_bits, rest_of, told, word_item, flags_below, rest_items, nested_item, type_flag_items, type_access, nested_access, type_words, field_words, method_words, implementation_words, parameter_words, property_words, typar_words, assembly_words}
use Rattle.listing_model.specs.Laws.{FlagsAreTold}
use Rattle.listing_model.specs.Shown.{none, Item, item, branch, size, star_production, star_below}
use Rattle.listing_reading.specs.Numbered.{numbered, kind_at, Agrees}
use Rattle.listing_reading.specs.Rows.{parts_at}
use Rattle.listing_values.specs.Laws.{NumbersAreRead}
use Rattle.listing_flags.specs.Laws.{IsReadBack, below, type_row, FlagsAreRead}

-- ---- the items of a row

-- an item is neither of a row's own productions
abbrev is_other : ℕ → ℕ → ℕ → Bool
is_other more end q = not (nat_eq q more) && not (nat_eq q end)

abbrev AreOther : ℕ → ℕ → List Item → Type 0
AreOther more end [] = Unit {0}
AreOther more end (i ∷ is) = (is_other more end i.production ≡ true) × AreOther more end is

not_true : (x : Bool) → not x ≡ true → x ≡ false
not_true false h = refl
not_true true h = absurd (false≢true h)

-- the tests of a row's own productions
pub record IsRowPair (more end : ℕ) : Type 0 where
  pub again : nat_eq more more ≡ true
  pub apart : nat_eq end more ≡ false
  pub last : nat_eq end end ≡ true

-- an item of a row, before the rest of it
item_first : (more end : ℕ) (i : Item) → is_other more end i.production ≡ true → (at : ℕ) (rest : f.Forest) →
    read.flags_in more end (f.branch i.production (numbered at i.below) rest) ≡ f.part i.production (numbered at i.below) ∷ read.flags_in more end rest
item_first more end i h at rest =
    let hs = and_parts (not (nat_eq i.production more)) (not (nat_eq i.production end)) h in
    let own = numbered at i.below in
    ap (λ c. (if c then read.flags_in more end own else if nat_eq i.production end then [] else f.part i.production own ∷ []) ++ read.flags_in more end rest) (not_true (nat_eq i.production more) hs.0)
    ∙ ap (λ c. (if c then [] else f.part i.production own ∷ []) ++ read.flags_in more end rest) (not_true (nat_eq i.production end) hs.1)

row_from : (more end : ℕ) → IsRowPair more end → (is : List Item) → AreOther more end is → (at : ℕ) →
    read.flags_in more end (f.branch (star_production more end is) (numbered at (star_below more end is)) f.none) ≡ parts_at at is
row_from more end r [] h at =
    ap (λ c. (if c then [] else if nat_eq end end then [] else f.part end f.none ∷ []) ++ []) r.apart
    ∙ ap (λ c. (if c then [] else f.part end f.none ∷ []) ++ []) r.last
row_from more end r (i ∷ is) h at =
    let tail = f.branch (star_production more end is) (numbered (at + size i.below) (star_below more end is)) f.none in
    let all = f.branch i.production (numbered at i.below) tail in
    ap (λ c. (if c then read.flags_in more end all else if nat_eq more end then [] else f.part more all ∷ []) ++ []) r.again
    ∙ (append-nil (read.flags_in more end all)
    ∙ (item_first more end i h.0 at tail ∙ ap (λ ps. f.part i.production (numbered at i.below) ∷ ps) (row_from more end r is h.1 (at + size i.below))))

-- the flags below the first production of a row are its items
row_parts : (more end : ℕ) → IsRowPair more end → (is : List Item) → AreOther more end is → (at : ℕ) →
    read.flags_in more end (numbered at (star_below more end is)) ≡ parts_at at is
row_parts more end r [] h at = refl
row_parts more end r (i ∷ is) h at =
    item_first more end i h.0 at (f.branch (star_production more end is) (numbered (at + size i.below) (star_below more end is)) f.none)
    ∙ ap (λ ps. f.part i.production (numbered at i.below) ∷ ps) (row_from more end r is h.1 (at + size i.below))

-- ---- what a word gives

and_again : (k m : ℕ) → bit_and k (bit_and k m) ≡ bit_and k m
and_again k m =
    same_from_bits (bit_and k (bit_and k m)) (bit_and k m)
    (λ i. bit_at_and k (bit_and k m) i ∙ (ap (min (bit_at k i)) (bit_at_and k m i) ∙ (twice (bit_at k i) (bit_at m i) ∙ sym (bit_at_and k m i))))
  where
    twice : (a b : ℕ) → min a (min a b) ≡ min a b
    twice a b = omega arith

same_without : (m k : ℕ) → read.without_bits m k ≡ without_bits m k
same_without m k =
    let sum = xor_add_and k (bit_and k m) in
    let again = and_again k m in
    let low = and_le_l k m in
    omega arith

-- the word of a token
word_here : (s : Source) (at k : ℕ) → kind_at s at ≡ Some (kind.Word k) → word_at s at ≡ Some k
word_here s at k h = by (slice_get s.tokens at) h
  where
    by : (o : Option Token) → option_map (λ (t : Token). t.kind) o ≡ Some (kind.Word k) → word_of_token o ≡ Some k
    by None e = absurd cc
    by (Some t) e = let same : t.kind ≡ kind.Word k = cc in ap word_number same

-- a word of the listing's table is found among those of sources, with its group and value
abbrev same_flag : FlagWord → Option read.FlagWord → Bool
same_flag x None = false
same_flag x (Some y) = nat_eq y.group x.group && nat_eq y.value x.value

abbrev is_found : List read.FlagWord → FlagWord → Bool
is_found words x = same_flag x (read.flag_word words (Some x.word))

given_by : (x : FlagWord) (o : Option read.FlagWord) → same_flag x o ≡ true → (flags : ℕ) → read.replaced o flags ≡ bit_or (without_bits x.group flags) x.value
given_by x None h flags = absurd (false≢true h)
given_by x (Some y) h flags =
    let hs = and_parts (nat_eq y.group x.group) (nat_eq y.value x.value) h in
    ap (λ g. bit_or (read.without_bits g flags) y.value) (eqb-true y.group x.group hs.0)
    ∙ (ap (λ v. bit_or (read.without_bits x.group flags) v) (eqb-true y.value x.value hs.1) ∙ ap (λ k. bit_or k x.value) (same_without x.group flags))

-- each item of a row stands at its place
abbrev AllAgree : Source → ℕ → List Item → Type 0
AllAgree s at [] = Unit {0}
AllAgree s at (i ∷ is) = Agrees s at i.below × AllAgree s (at + size i.below) is

row_agrees : (s : Source) (more end : ℕ) (is : List Item) (at : ℕ) → Agrees s at (star_below more end is) → AllAgree s at is
row_agrees s more end [] at h = tt
row_agrees s more end (i ∷ is) at h = (h.0, row_agrees s more end is (at + size i.below) h.1.0)

module _ (s : Source) (words : List read.FlagWord) (nonterminal more end : ℕ) where
  -- what each word of a table must be
  abbrev is_good : FlagWord → Bool
  is_good x = not (nat_eq (picked nonterminal (WORDS + x.word)) p.CLASS_ATTR_NESTED) && is_found words x

  word_gives : (x : FlagWord) → is_good x ≡ true → (at : ℕ) → Agrees s at (word_item nonterminal x.word).below → (flags : ℕ) →
      read.with_flag s words flags (f.part (picked nonterminal (WORDS + x.word)) (numbered at (word_item nonterminal x.word).below))
      ≡ bit_or (without_bits x.group flags) x.value
  word_gives x h at ag flags =
      let hs = and_parts (not (nat_eq (picked nonterminal (WORDS + x.word)) p.CLASS_ATTR_NESTED)) (is_found words x) h in
      ap (λ c. if c then read.replaced (read.flag_word read.nested_words (word_at s at)) flags else read.replaced (read.flag_word words (word_at s at)) flags)
      (not_true (nat_eq (picked nonterminal (WORDS + x.word)) p.CLASS_ATTR_NESTED) hs.0)
      ∙ (ap (λ o. read.replaced (read.flag_word words o) flags) (word_here s at x.word ag.0.kind) ∙ given_by x (read.flag_word words (Some x.word)) hs.1 flags)

  -- ---- what a row gives

  fold_words : (xs : List FlagWord) → list_all is_good xs ≡ true → (rest : List Item) (at : ℕ) → AllAgree s at (map (λ x. word_item nonterminal x.word) xs ++ rest) → (flags : ℕ) →
      (to : ℕ) × AllAgree s to rest × (fold (read.with_flag s words) flags (parts_at at (map (λ x. word_item nonterminal x.word) xs ++ rest))
      ≡ fold (read.with_flag s words) (fold (λ v x. bit_or (without_bits x.group v) x.value) flags xs) (parts_at to rest))
  fold_words [] h rest at ag flags = (at, ag, refl)
  fold_words (x ∷ xs) h rest at ag flags =
      let hs = and_parts (is_good x) (list_all is_good xs) h in
      let next = fold_words xs hs.1 rest (at + size (word_item nonterminal x.word).below) ag.1 (bit_or (without_bits x.group flags) x.value) in
      (next.0, next.1, ap (λ v. fold (read.with_flag s words) v (parts_at (at + size (word_item nonterminal x.word).below) (map (λ y. word_item nonterminal y.word) xs ++ rest))) (word_gives x hs.0 at ag.0 flags) ∙ next.2)

  -- `flags(..)`
  rest_gives : NumbersAreRead → (production k : ℕ) → k < 2 ^ 128 → (at : ℕ) → Agrees s at (branch p.FLAGS (flags_below k) none) → (flags : ℕ) →
      read.with_flag s words flags (f.part production (numbered at (branch p.FLAGS (flags_below k) none))) ≡ bit_or flags k
  rest_gives numbers production k small at ag flags =
      ap (λ z. bit_or flags (natural z)) (ap integer ag.0.1.1.0.text ∙ numbers.hexadecimal 0 k small)

  fold_rest : NumbersAreRead → (production k : ℕ) → k < 2 ^ 128 → (b : Bool) → nat_eq k 0 ≡ b → (at : ℕ) →
      AllAgree s at (cond b [] (item production (branch p.FLAGS (flags_below k) none) ∷ [])) → (flags : ℕ) →
      fold (read.with_flag s words) flags (parts_at at (cond b [] (item production (branch p.FLAGS (flags_below k) none) ∷ []))) ≡ bit_or flags k
  fold_rest numbers production k small true e at ag flags = sym (ap (bit_or flags) (eqb-true k 0 e) ∙ or_zero_r flags)
  fold_rest numbers production k small false e at ag flags = rest_gives numbers production k small at ag.0 flags

-- the words that are said are among those of the table
said_pass : (t : FlagWord → Bool) (k : ℕ) (xs : List FlagWord) → list_all t xs ≡ true → list_all t (filter (holds k) xs) ≡ true
said_pass t k [] h = refl
said_pass t k (x ∷ xs) h =
    let hs = and_parts (t x) (list_all t xs) h in by (holds k x) x (filter (holds k) xs) hs.0 (said_pass t k xs hs.1)
  where
    by : (b : Bool) (y : FlagWord) (ys : List FlagWord) → t y ≡ true → list_all t ys ≡ true → list_all t (cond b (y ∷ ys) ys) ≡ true
    by true y ys e r = ap (λ c. c && list_all t ys) e ∙ r
    by false y ys e r = r

items_other : (more end nonterminal : ℕ) (xs : List FlagWord) → list_all (λ x. is_other more end (picked nonterminal (WORDS + x.word))) xs ≡ true → (rest : List Item) →
    AreOther more end rest → AreOther more end (map (λ x. word_item nonterminal x.word) xs ++ rest)
items_other more end nonterminal [] h rest r = r
items_other more end nonterminal (x ∷ xs) h rest r =
    let hs = and_parts (is_other more end (picked nonterminal (WORDS + x.word))) (list_all (λ y. is_other more end (picked nonterminal (WORDS + y.word))) xs) h in
    (hs.0, items_other more end nonterminal xs hs.1 rest r)

rest_other : (more end production k : ℕ) (b : Bool) → is_other more end production ≡ true →
    AreOther more end (cond b [] (item production (branch p.FLAGS (flags_below k) none) ∷ []))
rest_other more end production k true h = tt
rest_other more end production k false h = (h, tt)

-- a row is read back where its tables pass
row_read : NumbersAreRead → FlagsAreTold → (more end nonterminal production : ℕ) (words : List read.FlagWord) (table : List FlagWord) → IsRowPair more end →
    is_other more end production ≡ true → list_all (λ x. is_other more end (picked nonterminal (WORDS + x.word))) table ≡ true →
    list_all (λ x. not (nat_eq (picked nonterminal (WORDS + x.word)) p.CLASS_ATTR_NESTED) && is_found words x) table ≡ true →
    IsReadBack more end words (below nonterminal production more end table)
row_read numbers told_back more end nonterminal production words table r o others good s at k small ag =
    let xs = said table k in
    let rest = rest_items production (rest_of table k) in
    let is = map (λ x. word_item nonterminal x.word) xs ++ rest in
    let low = and_le_l k (said_bits table k) in
    let few : rest_of table k < 2 ^ 128 = xor_lt 128 k (bit_and k (said_bits table k)) small (omega arith) in
    let parts = row_parts more end r is (items_other more end nonterminal xs (said_pass (λ x. is_other more end (picked nonterminal (WORDS + x.word))) k table others) rest (rest_other more end production (rest_of table k) (nat_eq (rest_of table k) 0) o)) at in
    let front = fold_words s words nonterminal more end xs (said_pass (λ x. not (nat_eq (picked nonterminal (WORDS + x.word)) p.CLASS_ATTR_NESTED) && is_found words x) k table good) rest at (row_agrees s more end is at ag) 0 in
    ap (fold (read.with_flag s words) 0) parts
    ∙ (front.2 ∙ (fold_rest s words nonterminal more end numbers production (rest_of table k) few (nat_eq (rest_of table k) 0) refl front.0 front.1 (told xs) ∙ told_back table k))

-- ---- types

-- the value of a group of three bits, by the words of types: those for one that no type nests, and those behind `nested`
abbrev of_value : ℕ → FlagWord → Bool
of_value j x = nat_eq j x.value

abbrev gives : ℕ → FlagWord → ℕ
gives v x = bit_or (without_bits x.group v) x.value

abbrev access_value : ℕ → ℕ
access_value j = fold gives (fold gives 0 (filter (of_value j) type_access)) (filter (of_value j) nested_access)

accessed : (j : ℕ) → j < 8 → access_value j ≡ j
accessed zero h = refl
accessed (suc zero) h = refl
accessed (suc (suc zero)) h = refl
accessed (suc (suc (suc zero))) h = refl
accessed (suc (suc (suc (suc zero)))) h = refl
accessed (suc (suc (suc (suc (suc zero))))) h = refl
accessed (suc (suc (suc (suc (suc (suc zero)))))) h = refl
accessed (suc (suc (suc (suc (suc (suc (suc zero))))))) h = refl
accessed (suc (suc (suc (suc (suc (suc (suc (suc j)))))))) h = absurd (omega arith)

-- bits of the group stay, whatever words of other groups follow
one_bit : (j v g x a k : ℕ) → j < 2 → v < 2 → g < 2 → x < 2 → j ≡ min k a → min a g ≡ 0 →
    max ((max j v + min (max j v) g) % 2) x ≡ max j (max ((v + min v g) % 2) x)
one_bit j v g x a k hj hv hg hx e z = omega arith

stays : (k v : ℕ) (x : FlagWord) → bit_and 7 x.group ≡ 0 → gives (bit_or (bit_and k 7) v) x ≡ bit_or (bit_and k 7) (gives v x)
stays k v x apart =
    same_from_bits (gives (bit_or (bit_and k 7) v) x) (bit_or (bit_and k 7) (gives v x)) (λ i.
    let j = bit_at (bit_and k 7) i in
    let u = bit_at v i in
    let g = bit_at x.group i in
    let y = bit_at x.value i in
    let left : bit_at (gives (bit_or (bit_and k 7) v) x) i ≡ max ((max j u + min (max j u) g) % 2) y =
    bit_at_or (without_bits x.group (bit_or (bit_and k 7) v)) x.value i
    ∙ ap (λ b. max b y) (bit_at_xor (bit_or (bit_and k 7) v) (bit_and (bit_or (bit_and k 7) v) x.group) i
    ∙ (ap (λ b. (bit_at (bit_or (bit_and k 7) v) i + b) % 2) (bit_at_and (bit_or (bit_and k 7) v) x.group i)
    ∙ ap (λ b. (b + min b g) % 2) (bit_at_or (bit_and k 7) v i))) in
    let right : bit_at (bit_or (bit_and k 7) (gives v x)) i ≡ max j (max ((u + min u g) % 2) y) =
    bit_at_or (bit_and k 7) (gives v x) i
    ∙ ap (max j) (bit_at_or (without_bits x.group v) x.value i
    ∙ ap (λ b. max b y) (bit_at_xor v (bit_and v x.group) i ∙ ap (λ b. (u + b) % 2) (bit_at_and v x.group i))) in
    let none : min (bit_at 7 i) g ≡ 0 = sym (bit_at_and 7 x.group i) ∙ (ap (λ n. bit_at n i) apart ∙ bit_at-zero i) in
    left
    ∙ (one_bit j u g y (bit_at 7 i) (bit_at k i) (bit_at-lt (bit_and k 7) i) (bit_at-lt v i) (bit_at-lt x.group i) (bit_at-lt x.value i) (bit_at_and k 7 i) none
    ∙ sym right))

stay_all : (k v : ℕ) (xs : List FlagWord) → list_all (λ x. nat_eq (bit_and 7 x.group) 0) xs ≡ true →
    fold gives (bit_or (bit_and k 7) v) xs ≡ bit_or (bit_and k 7) (fold gives v xs)
stay_all k v [] h = refl
stay_all k v (x ∷ xs) h =
    let hs = and_parts (nat_eq (bit_and 7 x.group) 0) (list_all (λ y. nat_eq (bit_and 7 y.group) 0) xs) h in
    ap (λ u. fold gives u xs) (stays k v x (eqb-true (bit_and 7 x.group) 0 hs.0)) ∙ stay_all k (gives v x) xs hs.1

whole_bit : (k a : ℕ) → k < 2 → a < 2 → max (min k a) ((k + min k a) % 2) ≡ k
whole_bit k a h i = omega arith

whole : (k : ℕ) → bit_or (bit_and k 7) (without_bits 7 k) ≡ k
whole k =
    same_from_bits (bit_or (bit_and k 7) (without_bits 7 k)) k (λ i.
    bit_at_or (bit_and k 7) (without_bits 7 k) i
    ∙ (ap (max (bit_at (bit_and k 7) i)) (bit_at_xor k (bit_and k 7) i ∙ ap (λ b. (bit_at k i + b) % 2) (bit_at_and k 7 i))
    ∙ (ap (λ b. max b ((bit_at k i + min (bit_at k i) (bit_at 7 i)) % 2)) (bit_at_and k 7 i) ∙ whole_bit (bit_at k i) (bit_at 7 i) (bit_at-lt k i) (bit_at-lt 7 i))))

either : (a b c : ℕ) → bit_or (bit_or a b) c ≡ bit_or a (bit_or b c)
either a b c =
    same_from_bits (bit_or (bit_or a b) c) (bit_or a (bit_or b c)) (λ i.
    bit_at_or (bit_or a b) c i ∙ (ap (λ x. max x (bit_at c i)) (bit_at_or a b i)
    ∙ (three (bit_at a i) (bit_at b i) (bit_at c i) ∙ sym (bit_at_or a (bit_or b c) i ∙ ap (max (bit_at a i)) (bit_at_or b c i)))))
  where
    three : (x y z : ℕ) → max (max x y) z ≡ max x (max y z)
    three x y z = omega arith

module _ (s : Source) where
  -- a word behind `nested`
  abbrev is_nested : FlagWord → Bool
  is_nested x = not (nat_eq p.FLAGS (picked n.NESTED_ACCESS (WORDS + x.word))) && is_found read.nested_words x

  nested_gives : (x : FlagWord) → is_nested x ≡ true → (at : ℕ) → Agrees s at (nested_item x).below → (flags : ℕ) →
      read.with_flag s read.type_words flags (f.part p.CLASS_ATTR_NESTED (numbered at (nested_item x).below)) ≡ gives flags x
  nested_gives x h at ag flags =
      let hs = and_parts (not (nat_eq p.FLAGS (picked n.NESTED_ACCESS (WORDS + x.word)))) (is_found read.nested_words x) h in
      let q = picked n.NESTED_ACCESS (WORDS + x.word) in
      let own = numbered at (nested_item x).below in
      let no_flags : f.has p.FLAGS own ≡ false =
      ap (λ c. f.is_any_part ((if c || false then f.part q (f.leaf (suc at) f.none) ∷ [] else []) ++ [])) (not_true (nat_eq p.FLAGS q) hs.0) in
      ap (λ c. if c then bit_or flags (read.flags_number s own) else read.replaced (read.flag_word read.nested_words (word_at s (suc at))) flags) no_flags
      ∙ (ap (λ o. read.replaced (read.flag_word read.nested_words o) flags) (word_here s (suc at) x.word ag.1.0.0.kind) ∙ given_by x (read.flag_word read.nested_words (Some x.word)) hs.1 flags)

  fold_nested : (xs : List FlagWord) → list_all is_nested xs ≡ true → (rest : List Item) (at : ℕ) → AllAgree s at (map nested_item xs ++ rest) → (flags : ℕ) →
      (to : ℕ) × AllAgree s to rest × (fold (read.with_flag s read.type_words) flags (parts_at at (map nested_item xs ++ rest))
      ≡ fold (read.with_flag s read.type_words) (fold gives flags xs) (parts_at to rest))
  fold_nested [] h rest at ag flags = (at, ag, refl)
  fold_nested (x ∷ xs) h rest at ag flags =
      let hs = and_parts (is_nested x) (list_all is_nested xs) h in
      let next = fold_nested xs hs.1 rest (at + size (nested_item x).below) ag.1 (gives flags x) in
      (next.0, next.1, ap (λ v. fold (read.with_flag s read.type_words) v (parts_at (at + size (nested_item x).below) (map nested_item xs ++ rest))) (nested_gives x hs.0 at ag.0 flags) ∙ next.2)

nested_other : (more end : ℕ) (xs : List FlagWord) → is_other more end p.CLASS_ATTR_NESTED ≡ true → (rest : List Item) → AreOther more end rest →
    AreOther more end (map nested_item xs ++ rest)
nested_other more end [] h rest r = r
nested_other more end (x ∷ xs) h rest r = (h, nested_other more end xs h rest r)

types_read : NumbersAreRead → FlagsAreTold → IsReadBack p.CLASS_ATTR_STAR_MORE p.CLASS_ATTR_STAR_END read.type_words type_row
unfolding picked picked_by
types_read numbers told_back s at k small ag =
    let more = p.CLASS_ATTR_STAR_MORE in
    let end = p.CLASS_ATTR_STAR_END in
    let k7 = without_bits 7 k in
    let access = said type_access k in
    let inner = said nested_access k in
    let xs = said type_words k7 in
    let rest = rest_items p.CLASS_ATTR_FLAGS (rest_of type_words k7) in
    let own = map (λ x. word_item n.CLASS_ATTR x.word) xs ++ rest in
    let low = and_le_l k 7 in
    let small7 : k7 < 2 ^ 128 = xor_lt 128 k (bit_and k 7) small (omega arith) in
    let low7 = and_le_l k7 (said_bits type_words k7) in
    let few : rest_of type_words k7 < 2 ^ 128 = xor_lt 128 k7 (bit_and k7 (said_bits type_words k7)) small7 (omega arith) in
    let is = map (λ x. word_item n.CLASS_ATTR x.word) access ++ (map nested_item inner ++ own) in
    let same : type_flag_items k ≡ is = append_assoc (map (λ x. word_item n.CLASS_ATTR x.word) access) (map nested_item inner) own in
    let here : Agrees s at (star_below more end is) = subst (λ js. Agrees s at (star_below more end js)) same ag in
    let parts =
    row_parts more end (record { again = refl; apart = refl; last = refl }) is
    (items_other more end n.CLASS_ATTR access (said_pass (λ x. is_other more end (picked n.CLASS_ATTR (WORDS + x.word))) k type_access refl) (map nested_item inner ++ own)
    (nested_other more end inner refl own
    (items_other more end n.CLASS_ATTR xs (said_pass (λ x. is_other more end (picked n.CLASS_ATTR (WORDS + x.word))) k7 type_words refl) rest
    (rest_other more end p.CLASS_ATTR_FLAGS (rest_of type_words k7) (nat_eq (rest_of type_words k7) 0) refl)))) at in
    let one = fold_words s read.type_words n.CLASS_ATTR more end access (said_pass (λ x. not (nat_eq (picked n.CLASS_ATTR (WORDS + x.word)) p.CLASS_ATTR_NESTED) && is_found read.type_words x) k type_access refl) (map nested_item inner ++ own) at (row_agrees s more end is at here) 0 in
    let two = fold_nested s inner (said_pass (is_nested s) k nested_access refl) own one.0 one.1 (fold gives 0 access) in
    let three = fold_words s read.type_words n.CLASS_ATTR more end xs (said_pass (λ x. not (nat_eq (picked n.CLASS_ATTR (WORDS + x.word)) p.CLASS_ATTR_NESTED) && is_found read.type_words x) k7 type_words refl) rest two.0 two.1 (fold gives (fold gives 0 access) inner) in
    let most : bit_and k 7 < 8 = let le = and_le_r k 7 in omega arith in
    let value : fold gives (fold gives 0 access) inner ≡ bit_and k 7 = accessed (bit_and k 7) most in
    let last = fold_rest s read.type_words n.CLASS_ATTR more end numbers p.CLASS_ATTR_FLAGS (rest_of type_words k7) few (nat_eq (rest_of type_words k7) 0) refl three.0 three.1 (fold gives (fold gives (fold gives 0 access) inner) xs) in
    let begin : fold gives (bit_and k 7) xs ≡ bit_or (bit_and k 7) (told xs) =
    ap (λ v. fold gives v xs) (sym (or_zero_r (bit_and k 7))) ∙ stay_all k 0 xs (said_pass (λ x. nat_eq (bit_and 7 x.group) 0) k7 type_words refl) in
    ap (λ js. read.flags_of s read.type_words (read.flags_in more end (numbered at (star_below more end js)))) same
    ∙ (ap (fold (read.with_flag s read.type_words) 0) parts
    ∙ (one.2 ∙ (two.2 ∙ (three.2 ∙ (last
    ∙ (ap (λ v. bit_or (fold gives v xs) (rest_of type_words k7)) value
    ∙ (ap (λ v. bit_or v (rest_of type_words k7)) begin
    ∙ (either (bit_and k 7) (told xs) (rest_of type_words k7)
    ∙ (ap (bit_or (bit_and k 7)) (told_back type_words k7) ∙ whole k)))))))))

-- ---- each kind

fields_read : NumbersAreRead → FlagsAreTold → IsReadBack p.FIELD_ATTR_STAR_MORE p.FIELD_ATTR_STAR_END read.field_words (below n.FIELD_ATTR p.FIELD_ATTR_FLAGS p.FIELD_ATTR_STAR_MORE p.FIELD_ATTR_STAR_END field_words)
unfolding picked picked_by
fields_read numbers told_back =
    row_read numbers told_back p.FIELD_ATTR_STAR_MORE p.FIELD_ATTR_STAR_END n.FIELD_ATTR p.FIELD_ATTR_FLAGS read.field_words field_words (record { again = refl; apart = refl; last = refl }) refl refl refl

methods_read : NumbersAreRead → FlagsAreTold → IsReadBack p.METHOD_ATTR_STAR_MORE p.METHOD_ATTR_STAR_END read.method_words (below n.METHOD_ATTR p.METHOD_ATTR_FLAGS p.METHOD_ATTR_STAR_MORE p.METHOD_ATTR_STAR_END method_words)
unfolding picked picked_by
methods_read numbers told_back =
    row_read numbers told_back p.METHOD_ATTR_STAR_MORE p.METHOD_ATTR_STAR_END n.METHOD_ATTR p.METHOD_ATTR_FLAGS read.method_words method_words (record { again = refl; apart = refl; last = refl }) refl refl refl

implementations_read : NumbersAreRead → FlagsAreTold → IsReadBack p.IMPL_ATTR_STAR_MORE p.IMPL_ATTR_STAR_END read.implementation_words (below n.IMPL_ATTR p.IMPL_ATTR_FLAGS p.IMPL_ATTR_STAR_MORE p.IMPL_ATTR_STAR_END implementation_words)
unfolding picked picked_by
implementations_read numbers told_back =
    row_read numbers told_back p.IMPL_ATTR_STAR_MORE p.IMPL_ATTR_STAR_END n.IMPL_ATTR p.IMPL_ATTR_FLAGS read.implementation_words implementation_words (record { again = refl; apart = refl; last = refl }) refl refl refl

parameters_read : NumbersAreRead → FlagsAreTold → IsReadBack p.PARAM_ATTR_STAR_MORE p.PARAM_ATTR_STAR_END read.parameter_words (below n.PARAM_ATTR p.PARAM_ATTR_FLAGS p.PARAM_ATTR_STAR_MORE p.PARAM_ATTR_STAR_END parameter_words)
unfolding picked picked_by
parameters_read numbers told_back =
    row_read numbers told_back p.PARAM_ATTR_STAR_MORE p.PARAM_ATTR_STAR_END n.PARAM_ATTR p.PARAM_ATTR_FLAGS read.parameter_words parameter_words (record { again = refl; apart = refl; last = refl }) refl refl refl

properties_read : NumbersAreRead → FlagsAreTold → IsReadBack p.PROPERTY_ATTR_STAR_MORE p.PROPERTY_ATTR_STAR_END read.property_words (below n.PROPERTY_ATTR p.PROPERTY_ATTR_FLAGS p.PROPERTY_ATTR_STAR_MORE p.PROPERTY_ATTR_STAR_END property_words)
unfolding picked picked_by
properties_read numbers told_back =
    row_read numbers told_back p.PROPERTY_ATTR_STAR_MORE p.PROPERTY_ATTR_STAR_END n.PROPERTY_ATTR p.PROPERTY_ATTR_FLAGS read.property_words property_words (record { again = refl; apart = refl; last = refl }) refl refl refl

typars_read : NumbersAreRead → FlagsAreTold → IsReadBack p.TYPAR_ATTR_STAR_MORE p.TYPAR_ATTR_STAR_END read.typar_words (below n.TYPAR_ATTR p.TYPAR_ATTR_FLAGS p.TYPAR_ATTR_STAR_MORE p.TYPAR_ATTR_STAR_END typar_words)
unfolding picked picked_by
typars_read numbers told_back =
    row_read numbers told_back p.TYPAR_ATTR_STAR_MORE p.TYPAR_ATTR_STAR_END n.TYPAR_ATTR p.TYPAR_ATTR_FLAGS read.typar_words typar_words (record { again = refl; apart = refl; last = refl }) refl refl refl

assemblies_read : NumbersAreRead → FlagsAreTold → IsReadBack p.ASSEMBLY_ATTR_STAR_MORE p.ASSEMBLY_ATTR_STAR_END read.assembly_words (below n.ASSEMBLY_ATTR p.ASSEMBLY_ATTR_FLAGS p.ASSEMBLY_ATTR_STAR_MORE p.ASSEMBLY_ATTR_STAR_END assembly_words)
unfolding picked picked_by
assemblies_read numbers told_back =
    row_read numbers told_back p.ASSEMBLY_ATTR_STAR_MORE p.ASSEMBLY_ATTR_STAR_END n.ASSEMBLY_ATTR p.ASSEMBLY_ATTR_FLAGS read.assembly_words assembly_words (record { again = refl; apart = refl; last = refl }) refl refl refl

pub flags_are_read : NumbersAreRead → FlagsAreTold → FlagsAreRead
flags_are_read numbers told_back = record {
  types = types_read numbers told_back;
  fields = fields_read numbers told_back;
  methods = methods_read numbers told_back;
  implementations = implementations_read numbers told_back;
  parameters = parameters_read numbers told_back;
  properties = properties_read numbers told_back;
  typars = typars_read numbers told_back;
  assemblies = assemblies_read numbers told_back;
}
