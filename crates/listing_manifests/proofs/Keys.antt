-- The lines that both kinds of assemblies have are read back: keys, flags, cultures, versions and hashes.
use Rattle.std.proofs.Common.{◌≡◌, ℕ, suc, ◌+◌, ◌-◌, ◌%◌, ◌^◌, ◌<◌, min, max, nat_eq, Bool, true, false, if◌then◌else◌, List, [], ◌∷◌, ◌++◌, length, drop, refl, ap, sym, subst, ◌∙◌, append-nil, arith}
use Rattle.std.proofs.lemmas.Bool.{and_parts, eqb-true, ltb-true, false≢true}
use Rattle.std.proofs.lemmas.Nat.{and_le_l, and_le_r}
use Rattle.std.proofs.lemmas.Nat.Bits.{same_from_bits, bit_at_and, bit_at_or, bit_at_xor, bit_at-lt}
use Rattle.std.specs.Int.Bits.{xor_add_and}
use Rattle.std.specs.Int.{bit_at}
use Rattle.std.specs.List.{list_all}
use Rattle.std.specs.Prelude.{bit_and, bit_or}
use Rattle.il_lexer.specs.declared.types.TokenKind.TheVariants as kind
use Rattle.il_lexer.specs.declared.word.TheConstants as word
use Rattle.ilasm_grammar.specs.declared.productions.TheConstants as p
use Rattle.source_model.specs.Constants.{text_in}
use Rattle.source_model.specs.Flags as flags
use Rattle.source_model.specs.Forest as f
use Rattle.source_model.specs.Manifests.{last_said, with_key, version_in}
use Rattle.source_model.specs.Shapes.{natural}
use Rattle.source_model.specs.Source.{Source, spelling}
use Rattle.source_model.specs.Values as value
use Rattle.listing_constants.specs.Laws.{StringsAreRead}
use Rattle.listing_growth.specs.Held.{is_u16, is_version, are_bytes}
use Rattle.listing_leaves.specs.Bytes.{equals_bytes}
use Rattle.listing_leaves.specs.Laws.{has_no_zero}
use Rattle.listing_leaves.specs.Numbers as numbers
use Rattle.listing_leaves.specs.Texts.{quoted}
use Rattle.listing_model.specs.Flags.{without_bits}
use Rattle.listing_model.specs.Manifests.{version, all_below}
use Rattle.listing_model.specs.Shown.{none, Item, item, put, token, line, size}
use Rattle.listing_model.specs.Values.{one_string}
use Rattle.listing_reading.specs.Numbered.{numbered}
use Rattle.listing_rows.specs.Segments.{ItemsAgree, pieces_of, pieces_at}
use Rattle.listing_values.specs.Laws.{BytesAreRead, NumbersAreRead}

-- ---- items below a production of their owner's

no_more : (k : ℕ) → k + 0 ≡ k
no_more k = omega arith

pub wrapped : (sought : List ℕ) (outer : ℕ) → f.is_among sought outer ≡ false → (is : List Item) (at : ℕ) →
    pieces_at sought at (all_below outer is) ≡ pieces_at sought at is
wrapped sought outer h [] at = refl
wrapped sought outer h (i ∷ is) at =
    let behind = pieces_at sought (at + size (put i none)) (all_below outer is) in
    ap (λ c. (if c then f.part outer (numbered at (put i none)) ∷ [] else f.parts sought (numbered at (put i none))) ++ behind) h
    ∙ (ap (λ ps. ps ++ behind) (append-nil (pieces_of sought at i))
    ∙ (ap (λ k. pieces_of sought at i ++ pieces_at sought (at + k) (all_below outer is)) (no_more (size i.below))
    ∙ ap (λ ps. pieces_of sought at i ++ ps) (wrapped sought outer h is (at + size i.below))))

pub unwrapped : (s : Source) (outer : ℕ) (is : List Item) (at : ℕ) → ItemsAgree s at (all_below outer is) → ItemsAgree s at is
unwrapped s outer [] at ag = tt
unwrapped s outer (i ∷ is) at ag =
    (ag.0.0, unwrapped s outer is (at + size i.below) (subst (λ k. ItemsAgree s (at + k) (all_below outer is)) (no_more (size i.below)) ag.1))

-- ---- bit 1 of the flags

same_without : (k : ℕ) → bit_and k 1 ≡ 0 → without_bits 1 k ≡ k
same_without k h =
    let sum = xor_add_and k (bit_and k 1) in
    let low = and_le_r k (bit_and k 1) in
    omega arith

whole_bit : (k a : ℕ) → k < 2 → a < 2 → max ((k + min k a) % 2) (min k a) ≡ k
whole_bit k a h i = omega arith

whole : (k : ℕ) → bit_or (without_bits 1 k) (bit_and k 1) ≡ k
whole k =
    same_from_bits (bit_or (without_bits 1 k) (bit_and k 1)) k (λ i.
    bit_at_or (without_bits 1 k) (bit_and k 1) i
    ∙ (ap (λ b. max b (bit_at (bit_and k 1) i)) (bit_at_xor k (bit_and k 1) i ∙ ap (λ b. (bit_at k i + b) % 2) (bit_at_and k 1 i))
    ∙ (ap (max ((bit_at k i + min (bit_at k i) (bit_at 1 i)) % 2)) (bit_at_and k 1 i) ∙ whole_bit (bit_at k i) (bit_at 1 i) (bit_at-lt k i) (bit_at-lt 1 i))))

set_again : (k : ℕ) → nat_eq (bit_and k 1) 1 ≡ true → bit_or (without_bits 1 k) 1 ≡ k
set_again k h = ap (bit_or (without_bits 1 k)) (sym (eqb-true (bit_and k 1) 1 h)) ∙ whole k

not_one : (j : ℕ) → j < 2 → nat_eq j 1 ≡ false → j ≡ 0
not_one j l h = grind (arith, l, h)

clear : (k : ℕ) → nat_eq (bit_and k 1) 1 ≡ false → bit_and k 1 ≡ 0
clear k h =
    let low = and_le_r k 1 in
    not_one (bit_and k 1) (omega arith) h

nothing_less : (k : ℕ) → k - 0 ≡ k
nothing_less k = omega arith

still_clear : (k : ℕ) → bit_and k 1 ≡ 0 → flags.without_bits 1 k ≡ k
still_clear k h = ap (λ j. k - j) h ∙ nothing_less k

pub without_small : (k b : ℕ) → k < 2 ^ 32 → without_bits b k < 2 ^ 128
without_small k b h =
    let sum = xor_add_and k (bit_and k b) in
    let low = and_le_l k b in
    omega arith

-- ---- rows of keys, cultures and hashes

not_none : (k : ℕ) → suc k ≡ 0 → ⊥
not_none k h = omega arith

not_more : (k : ℕ) → suc (suc (suc (suc (suc k)))) ≡ 4 → ⊥
not_more k h = omega arith

pub empty : (xs : List ℕ) → nat_eq (length xs) 0 ≡ true → [] ≡ xs
empty [] h = refl
empty (x ∷ xs) h = absurd (not_none (length xs) (eqb-true (suc (length xs)) 0 h))

abbrev pub key_by : Bool → Bool → List ℕ → List Item
key_by b c bytes =
    if b then item p.KEY_PUBLICKEY (line word.DOT_PUBLICKEY (token kind.EqBytes (equals_bytes bytes) none)) ∷ []
    else if c then []
    else item p.KEY_PUBLICKEYTOKEN (line word.DOT_PUBLICKEYTOKEN (token kind.EqBytes (equals_bytes bytes) none)) ∷ []

abbrev pub culture_by : Bool → List ℕ → List Item
culture_by c text = if c then [] else item p.KEY_CULTURE (line word.DOT_CULTURE (put (one_string (quoted 34 text)) none)) ∷ []

abbrev pub hash_by : Bool → List ℕ → List Item
hash_by c bytes = if c then [] else item p.EXTERN_ITEM_HASH (line word.DOT_HASH (token kind.EqBytes (equals_bytes bytes) none)) ∷ []

abbrev pub version_parts : List ℕ
version_parts = p.KEY_VER ∷ []

abbrev pub key_parts : List ℕ
key_parts = p.KEY_PUBLICKEY ∷ p.KEY_PUBLICKEYTOKEN ∷ []

abbrev pub culture_parts : List ℕ
culture_parts = p.KEY_CULTURE ∷ p.KEY_LOCALE ∷ []

abbrev pub hash_parts : List ℕ
hash_parts = p.EXTERN_ITEM_HASH ∷ []

pub key_lacks : (b c : Bool) (bytes : List ℕ) (at : ℕ) →
    (pieces_at version_parts at (key_by b c bytes) ≡ []) × (pieces_at culture_parts at (key_by b c bytes) ≡ []) × (pieces_at hash_parts at (key_by b c bytes) ≡ [])
key_lacks true c bytes at = (refl, refl, refl)
key_lacks false true bytes at = (refl, refl, refl)
key_lacks false false bytes at = (refl, refl, refl)

pub culture_lacks : (c : Bool) (text : List ℕ) (at : ℕ) →
    (pieces_at version_parts at (culture_by c text) ≡ []) × (pieces_at key_parts at (culture_by c text) ≡ []) × (pieces_at hash_parts at (culture_by c text) ≡ [])
culture_lacks true text at = (refl, refl, refl)
culture_lacks false text at = (refl, refl, refl)

pub hash_lacks : (c : Bool) (bytes : List ℕ) (at : ℕ) →
    (pieces_at version_parts at (hash_by c bytes) ≡ []) × (pieces_at key_parts at (hash_by c bytes) ≡ []) × (pieces_at culture_parts at (hash_by c bytes) ≡ [])
hash_lacks true bytes at = (refl, refl, refl)
hash_lacks false bytes at = (refl, refl, refl)

-- ---- what they say

abbrev pub bytes_said : Source → f.Part → List ℕ
bytes_said s q = value.equals_bytes s (f.leaf_at 1 q.below)

abbrev pub text_said : Source → f.Part → List ℕ
text_said s q = text_in s (f.the p.TEXT q.below)

abbrev pub version_said : Source → f.Part → List ℕ
version_said s q = version_in s q.below

pub key_flags : (b c : Bool) (bytes : List ℕ) (k x : ℕ) → nat_eq (bit_and k 1) 1 ≡ b → x ≡ without_bits 1 k → (at : ℕ) →
    last_said (with_key x) x (pieces_at key_parts at (key_by b c bytes)) ≡ k
key_flags true c bytes k x h e at = ap (λ y. bit_or y 1) e ∙ set_again k h
key_flags false true bytes k x h e at = e ∙ same_without k (clear k h)
key_flags false false bytes k x h e at = ap (flags.without_bits 1) (e ∙ same_without k (clear k h)) ∙ still_clear k (clear k h)

module _ (bytes_read : BytesAreRead) (s : Source) where
  pub key_read : (b c : Bool) (bytes : List ℕ) → are_bytes bytes ≡ true → nat_eq (length bytes) 0 ≡ c → (at : ℕ) → ItemsAgree s at (key_by b c bytes) →
      last_said (bytes_said s) [] (pieces_at key_parts at (key_by b c bytes)) ≡ bytes
  key_read true c bytes h e at ag = ap (λ t. value.bytes_in_parentheses (drop 1 t)) ag.0.1.0.text ∙ bytes_read.equals bytes h
  key_read false true bytes h e at ag = empty bytes e
  key_read false false bytes h e at ag = ap (λ t. value.bytes_in_parentheses (drop 1 t)) ag.0.1.0.text ∙ bytes_read.equals bytes h

  pub hash_read : (c : Bool) (bytes : List ℕ) → are_bytes bytes ≡ true → nat_eq (length bytes) 0 ≡ c → (at : ℕ) → ItemsAgree s at (hash_by c bytes) →
      last_said (bytes_said s) [] (pieces_at hash_parts at (hash_by c bytes)) ≡ bytes
  hash_read true bytes h e at ag = empty bytes e
  hash_read false bytes h e at ag = ap (λ t. value.bytes_in_parentheses (drop 1 t)) ag.0.1.0.text ∙ bytes_read.equals bytes h

pub culture_read : (strings : StringsAreRead) (s : Source) (c : Bool) (text : List ℕ) → has_no_zero text ≡ true → nat_eq (length text) 0 ≡ c → (at : ℕ) → ItemsAgree s at (culture_by c text) →
    last_said (text_said s) [] (pieces_at culture_parts at (culture_by c text)) ≡ text
culture_read strings s true text h e at ag = empty text e
culture_read strings s false text h e at ag = strings.text s text h (suc at) ag.0.1

small_16 : (k : ℕ) → k < 0x10000 → k < 2 ^ 128
small_16 k h = omega arith

module _ (numbers_read : NumbersAreRead) (s : Source) where
  number_is : (k m : ℕ) → is_u16 m ≡ true → spelling s k ≡ numbers.natural m → natural (value.int_at s k) ≡ m
  number_is k m h e = ap (λ t. natural (value.integer t)) e ∙ ap natural (numbers_read.natural m (small_16 m (ltb-true m 0x10000 h)))

  pub version_read : (v : List ℕ) → is_version v ≡ true → (at : ℕ) → ItemsAgree s at (version v ∷ []) →
      last_said (version_said s) (0 ∷ 0 ∷ 0 ∷ 0 ∷ []) (pieces_at version_parts at (version v ∷ [])) ≡ v
  version_read [] h at ag = absurd (false≢true h)
  version_read (a ∷ []) h at ag = absurd (false≢true h)
  version_read (a ∷ b ∷ []) h at ag = absurd (false≢true h)
  version_read (a ∷ b ∷ c ∷ []) h at ag = absurd (false≢true h)
  version_read (a ∷ b ∷ c ∷ d ∷ []) h at ag =
      let h1 = and_parts (is_u16 a) (list_all is_u16 (b ∷ c ∷ d ∷ [])) h in
      let h2 = and_parts (is_u16 b) (list_all is_u16 (c ∷ d ∷ [])) h1.1 in
      let h3 = and_parts (is_u16 c) (list_all is_u16 (d ∷ [])) h2.1 in
      let h4 = and_parts (is_u16 d) true h3.1 in
      let first = number_is (suc at) a h1.0 ag.0.1.0.text in
      let second = number_is (suc (suc (suc at))) b h2.0 ag.0.1.1.1.0.text in
      let third = number_is (suc (suc (suc (suc (suc at))))) c h3.0 ag.0.1.1.1.1.1.0.text in
      let fourth = number_is (suc (suc (suc (suc (suc (suc (suc at))))))) d h4.0 ag.0.1.1.1.1.1.1.1.0.text in
      λ i. first i ∷ second i ∷ third i ∷ fourth i ∷ []
  version_read (a ∷ b ∷ c ∷ d ∷ e ∷ more) h at ag =
      let hs = and_parts (nat_eq (suc (suc (suc (suc (suc (length more)))))) 4) (list_all is_u16 (a ∷ b ∷ c ∷ d ∷ e ∷ more)) h in
      absurd (not_more (length more) (eqb-true (suc (suc (suc (suc (suc (length more)))))) 4 hs.0))
