-- Flags, strings, constants, attributes and data are sound.
use Rattle.std.proofs.Common.{◌≡◌, ℕ, suc, ◌/◌, ◌%◌, ◌^◌, ◌<◌, ◌&&◌, nat_eq, Bool, true, false, cond, ℤ, List, [], ◌∷◌, ◌++◌, map, filter, length, Option, None, Some, refl, sym, subst, append_assoc, arith}
use Rattle.std.proofs.lemmas.Bool.{and_parts, ltb-true, false≢true}
use Rattle.std.proofs.lemmas.Nat.{xor_lt, and_le_l}
use Rattle.std.specs.List.{list_all}
use Rattle.std.specs.Prelude.{bit_and}
use lib.Signed.{mag}
use Rattle.il_lexer.specs.declared.types.TokenKind.TheVariants as kind
use Rattle.il_lexer.specs.declared.word.TheConstants as word
use Rattle.ilasm_grammar.specs.declared.nonterminals.TheConstants as n
use Rattle.ilasm_grammar.specs.declared.productions.TheConstants as p
use Rattle.type_terms.specs.declared.term.Primitive as prim
use Rattle.assembly_tree.specs.WellFormed.{is_extern}
use Rattle.assembly_tree.specs.WellFormedMembers.{is_attribute, is_integer, is_constant}
use Rattle.assembly_tree.specs.WellFormedNames.{option_all}
use Rattle.assembly_tree.specs.declared.assembly.Assembly.{Assembly}
use Rattle.assembly_tree.specs.declared.members.Attribute.{Attribute}
use Rattle.assembly_tree.specs.declared.members.Constant as constant
use Rattle.listing_growth.specs.Held.{is_u8, is_u16, is_u32, is_u64, are_bytes, are_units, is_attribute_held, are_attributes_held, is_constant_held}
use Rattle.listing_leaves.specs.Bytes.{byte_array}
use Rattle.listing_leaves.specs.Laws.{IsLeaf}
use Rattle.listing_leaves.specs.Numbers.{integer}
use Rattle.listing_leaves.specs.Texts.{quoted_units, is_simple_string, unit_bytes}
use Rattle.listing_model.specs.Flags.{FlagWord, holds, said, rest_of, said_bits, without_bits, word_item, flags_below, rest_items, flag_items, nested_item, type_flag_items, type_access, nested_access, type_words}
use Rattle.listing_model.specs.Shown.{Leaf, none, leaves, Item, item, put, w, token, branch, opt_below}
use Rattle.listing_model.specs.Types.{int_type}
use Rattle.listing_model.specs.Values.{one_string, string_below, number_in_parentheses, truth, constant_item, equals_constant, custom, customs, data_line}
use Rattle.listing_tokens.proofs.Sound.{next_passes, is_value, is_plain, plain_word, Sound, wf, tf, SoundItem, EachSound, sounds_append}
use Rattle.listing_tokens.proofs.References.{plain_ref_sound}
use Rattle.listing_tokens.proofs.Terms.{LeafLaws, int_sound}

-- ---- numbers

pub u16_small : (k : ℕ) → is_u16 k ≡ true → k < 2 ^ 128
u16_small k h = let low = ltb-true k 0x10000 h in omega arith

pub u32_small : (k : ℕ) → is_u32 k ≡ true → k < 2 ^ 128
u32_small k h = let low = ltb-true k 0x100000000 h in omega arith

u64_small : (k : ℕ) → is_u64 k ≡ true → k < 2 ^ 128
u64_small k h = let low = ltb-true k 0x10000000000000000 h in omega arith

pub less_bits : (bits k : ℕ) → k < 2 ^ 128 → without_bits bits k < 2 ^ 128
less_bits bits k h = let low = and_le_l k bits in xor_lt 128 k (bit_and k bits) h (omega arith)

-- ---- flags

said_sound : (r : ℕ) (f : FlagWord → Item) (k : ℕ) → ((x : FlagWord) → is_plain x.word ≡ true → SoundItem r (f x)) → (xs : List FlagWord) →
    list_all (λ x. is_plain x.word) xs ≡ true → EachSound r (map f (filter (holds k) xs))
said_sound r f k g [] h = tt
said_sound r f k g (x ∷ xs) h =
    let hs = and_parts (is_plain x.word) (list_all (λ y. is_plain y.word) xs) h in by (holds k x) (g x hs.0) (said_sound r f k g xs hs.1)
  where
    by : (b : Bool) → SoundItem r (f x) → EachSound r (map f (filter (holds k) xs)) → EachSound r (map f (cond b (x ∷ filter (holds k) xs) (filter (holds k) xs)))
    by true one rest = (one, rest)
    by false one rest = rest

word_sound : (r nonterminal : ℕ) (x : FlagWord) → is_plain x.word ≡ true → SoundItem r (word_item nonterminal x.word)
word_sound r nonterminal x h rest = plain_word h none rest tt

nested_sound : (r : ℕ) (x : FlagWord) → is_plain x.word ≡ true → SoundItem r (nested_item x)
nested_sound r x h rest = (wf refl refl, (plain_word h none rest tt, tt))

pub flags_sound : (laws : LeafLaws) (r k : ℕ) → k < 2 ^ 128 → (rest : List Leaf) → Sound (suc r) (flags_below k) rest
flags_sound laws r k h rest = (wf refl refl, (wf refl refl, (tf (laws.numbers.hexadecimal 0 k h) refl refl, (wf refl refl, tt))))

rest_by : (laws : LeafLaws) (r production k : ℕ) → k < 2 ^ 128 → (b : Bool) → EachSound (suc r) (cond b [] (item production (branch p.FLAGS (flags_below k) none) ∷ []))
rest_by laws r production k h true = tt
rest_by laws r production k h false = ((λ rest. (flags_sound laws r k h _, tt)), tt)

pub row_sound : (laws : LeafLaws) (r nonterminal production : ℕ) (xs : List FlagWord) → list_all (λ x. is_plain x.word) xs ≡ true → (k : ℕ) → k < 2 ^ 128 →
    EachSound (suc r) (flag_items nonterminal production xs k)
row_sound laws r nonterminal production xs h k small =
    sounds_append (suc r) (map (λ x. word_item nonterminal x.word) (said xs k)) (rest_items production (rest_of xs k))
    (said_sound (suc r) (λ x. word_item nonterminal x.word) k (word_sound (suc r) nonterminal) xs h)
    (rest_by laws r production (rest_of xs k) (less_bits (said_bits xs k) k small) (nat_eq (rest_of xs k) 0))

pub type_flags_sound : (laws : LeafLaws) (r k : ℕ) → k < 2 ^ 128 → EachSound (suc r) (type_flag_items k)
type_flags_sound laws r k small =
    sounds_append (suc r) (map (λ x. word_item n.CLASS_ATTR x.word) (said type_access k) ++ map nested_item (said nested_access k)) _
    (sounds_append (suc r) (map (λ x. word_item n.CLASS_ATTR x.word) (said type_access k)) (map nested_item (said nested_access k))
    (said_sound (suc r) (λ x. word_item n.CLASS_ATTR x.word) k (word_sound (suc r) n.CLASS_ATTR) type_access refl)
    (said_sound (suc r) nested_item k (nested_sound (suc r)) nested_access refl))
    (row_sound laws r n.CLASS_ATTR p.CLASS_ATTR_FLAGS type_words refl (without_bits 7 k) (less_bits 7 k small))

-- ---- strings

pub text_sound : (laws : LeafLaws) (r : ℕ) (text : List ℕ) → IsLeaf kind.QString text → SoundItem r (one_string text)
text_sound laws r text h rest = (tf h refl refl, (tt, tt))

unit_bytes_are : (units : List ℕ) → are_units units ≡ true → are_bytes (unit_bytes units) ≡ true
unit_bytes_are [] h = refl
unit_bytes_are (u ∷ us) h =
    let hs = and_parts (is_u16 u) (are_units us) h in
    let low = ltb-true u 0x10000 hs.0 in
    both _ _ (less (u % 256) (omega arith)) (both _ _ (less (u / 256) (omega arith)) (unit_bytes_are us hs.1))
  where
    both : (x y : Bool) → x ≡ true → y ≡ true → (x && y) ≡ true
    both true y f g = g
    both false y f g = f

    less : (k : ℕ) → k < 256 → is_u8 k ≡ true
    less k f = grind (arith, f)

-- units as a string, below one of two productions
string_by : (laws : LeafLaws) (r text bytes : ℕ) (units : List ℕ) (b : Bool) → is_simple_string units ≡ b → are_units units ≡ true →
    SoundItem r (cond b (item text (put (one_string (quoted_units units)) none)) (item bytes (token kind.ByteArray (byte_array (unit_bytes units)) none)))
string_by laws r text bytes units true e h rest = (text_sound laws r (quoted_units units) (laws.texts.units units e) _, tt)
string_by laws r text bytes units false e h rest = (tf (laws.bytes.array (unit_bytes units) (unit_bytes_are units h)) refl refl, tt)

pub string_sound : (laws : LeafLaws) (r text bytes : ℕ) (units : List ℕ) → are_units units ≡ true → SoundItem r (string_below text bytes units)
string_sound laws r text bytes units h = string_by laws r text bytes units (is_simple_string units) refl h

-- ---- constants

integer_small : (of : prim.Primitive) (z : ℤ) → is_integer of z ≡ true → mag z < 2 ^ 127
integer_small prim.TheVariants.I1 z h = grind (arith, h)
integer_small prim.TheVariants.U1 z h = grind (arith, h)
integer_small prim.TheVariants.I2 z h = grind (arith, h)
integer_small prim.TheVariants.U2 z h = grind (arith, h)
integer_small prim.TheVariants.I4 z h = grind (arith, h)
integer_small prim.TheVariants.U4 z h = grind (arith, h)
integer_small prim.TheVariants.I8 z h = grind (arith, h)
integer_small prim.TheVariants.U8 z h = grind (arith, h)
integer_small _ z h = absurd (false≢true h)

pub in_parentheses : (r : ℕ) (text : List ℕ) → IsLeaf kind.Int text → (rest : List Leaf) → Sound (suc r) (number_in_parentheses text) rest
in_parentheses r text h rest = (wf refl refl, (tf h refl refl, (wf refl refl, tt)))

truth_sound : (r : ℕ) (b : Bool) (rest : List Leaf) → Sound (suc r) (w word.OPEN_PAREN (put (truth b) (w word.CLOSE_PAREN none))) rest
truth_sound r true rest = (wf refl refl, ((wf refl refl, tt), (wf refl refl, tt)))
truth_sound r false rest = (wf refl refl, ((wf refl refl, tt), (wf refl refl, tt)))

constant_sound : (laws : LeafLaws) (r : ℕ) (c : constant.Constant) → is_constant c ≡ true → is_constant_held c ≡ true → SoundItem (suc r) (constant_item c)
unfolding is_constant_held
constant_sound laws r (constant.TheVariants.Bool b) m h rest = (wf refl refl, truth_sound r b rest)
constant_sound laws r (constant.TheVariants.Char c) m h rest = (wf refl refl, in_parentheses r _ (laws.numbers.hexadecimal 4 c (u16_small c h)) rest)
constant_sound laws r (constant.TheVariants.Int of z) m h rest = (int_sound (suc r) of _, in_parentheses r _ (laws.numbers.integer z (integer_small of z m)) rest)
constant_sound laws r (constant.TheVariants.Real4 bits) m h rest = (wf refl refl, in_parentheses r _ (laws.numbers.hexadecimal 8 bits (u32_small bits h)) rest)
constant_sound laws r (constant.TheVariants.Real8 bits) m h rest = (wf refl refl, in_parentheses r _ (laws.numbers.hexadecimal 16 bits (u64_small bits h)) rest)
constant_sound laws r (constant.TheVariants.Str units) m h rest = string_sound laws (suc r) p.CONST_TEXT p.CONST_BYTES units h rest
constant_sound laws r constant.TheVariants.Null m h rest = (wf refl refl, tt)

-- it may stand behind `=`
int_begins : (of : prim.Primitive) (rest : List Leaf) → next_passes is_value (leaves (int_type of).below ++ rest) ≡ true
int_begins prim.TheVariants.I1 rest = refl
int_begins of rest = refl

string_begins : (units : List ℕ) (b : Bool) (rest : List Leaf) →
    next_passes is_value (leaves (cond b (item p.CONST_TEXT (put (one_string (quoted_units units)) none)) (item p.CONST_BYTES (token kind.ByteArray (byte_array (unit_bytes units)) none))).below ++ rest) ≡ true
string_begins units true rest = refl
string_begins units false rest = refl

constant_begins : (c : constant.Constant) (rest : List Leaf) → next_passes is_value (leaves (constant_item c).below ++ rest) ≡ true
constant_begins (constant.TheVariants.Bool b) rest = refl
constant_begins (constant.TheVariants.Char c) rest = refl
constant_begins (constant.TheVariants.Int of z) rest =
    subst (λ ls. next_passes is_value ls ≡ true) (sym (append_assoc (leaves (int_type of).below) (leaves (number_in_parentheses (integer z))) rest)) (int_begins of _)
constant_begins (constant.TheVariants.Real4 bits) rest = refl
constant_begins (constant.TheVariants.Real8 bits) rest = refl
constant_begins (constant.TheVariants.Str units) rest = string_begins units (is_simple_string units) rest
constant_begins constant.TheVariants.Null rest = refl

pub value_sound : (laws : LeafLaws) (r : ℕ) (c : Option constant.Constant) → option_all is_constant c ≡ true → option_all is_constant_held c ≡ true →
    (rest : List Leaf) → Sound (suc r) (opt_below (equals_constant c)) rest
value_sound laws r None m h rest = tt
value_sound laws r (Some c) m h rest = ((wf (first rest) refl, (constant_sound laws r c m h _, tt)), tt)
  where
    first : (rest : List Leaf) → next_passes is_value ((leaves (constant_item c).below ++ []) ++ rest) ≡ true
    first rest = subst (λ ls. next_passes is_value ls ≡ true) (sym (append_assoc (leaves (constant_item c).below) [] rest)) (constant_begins c _)

-- ---- attributes

module _ (laws : LeafLaws) (a : Assembly) (named_well : list_all is_extern a.externs ≡ true) (few : length a.externs < 2 ^ 128) where
  custom_sound : (x : Attribute) → is_attribute a x ≡ true → is_attribute_held x ≡ true → SoundItem 101 (custom a.externs x)
  unfolding is_attribute is_attribute_held
  custom_sound x m h rest =
      let hs = and_parts _ _ h in
      (wf refl refl, (plain_ref_sound laws a named_well few x.constructor m hs.0 _, ((tf (laws.bytes.equals x.value hs.1) refl refl, tt), tt)))

  pub customs_sound : (production : ℕ) (xs : List Attribute) → list_all (is_attribute a) xs ≡ true → are_attributes_held xs ≡ true →
      EachSound 101 (customs a.externs production xs)
  customs_sound production [] m h = tt
  customs_sound production (x ∷ xs) m h =
      let ms = and_parts (is_attribute a x) (list_all (is_attribute a) xs) m in
      let hs = and_parts (is_attribute_held x) (list_all is_attribute_held xs) h in
      ((λ rest. (custom_sound x ms.0 hs.0 _, tt)), customs_sound production xs ms.1 hs.1)

-- ---- data

pub data_sound : (laws : LeafLaws) (r k : ℕ) → k < 2 ^ 128 → (bytes : List ℕ) → are_bytes bytes ≡ true → SoundItem r (data_line k bytes)
data_sound laws r k small bytes h rest =
    ((wf refl refl, (tt, (((tf (laws.numbers.data_label k small) refl refl, (wf refl refl, tt)), tt), (((tf (laws.bytes.array bytes h) refl refl, tt), tt), tt)))), tt)
