-- What the spellings of a listing are read as (ECMA-335 II.5.2, II.5.3, II.16.2).
use Rattle.std.specs.Prelude.{ℕ, ◌≡◌, ◌<◌, ◌^◌, true, ℤ, pos, List, drop}
use lib.Signed.{mag}
use Rattle.source_model.specs.Nodes.{id_of_texts}
use Rattle.source_model.specs.Values as read
use Rattle.listing_leaves.specs.Bytes.{equals_bytes, byte_array}
use Rattle.listing_leaves.specs.Laws.{are_bytes, has_no_zero, is_name}
use Rattle.listing_leaves.specs.Names as names
use Rattle.listing_leaves.specs.Numbers as numbers
use Rattle.listing_leaves.specs.Texts.{quoted, quoted_units, is_simple_string, unit_bytes}

-- a text between quotes is the text
pub record TextsAreRead : Type 0 where
  pub double : (text : List ℕ) → has_no_zero text ≡ true → read.unescaped (read.between_quotes (quoted 34 text)) ≡ text
  pub single : (text : List ℕ) → has_no_zero text ≡ true → read.unescaped (read.between_quotes (quoted 39 text)) ≡ text
  pub units : (units : List ℕ) → is_simple_string units ≡ true → read.unescaped (read.between_quotes (quoted_units units)) ≡ units
  pub bytes : (units : List ℕ) → read.units_of_bytes (unit_bytes units) ≡ units

-- names, names in brackets and names of types are these
pub record NamesAreRead : Type 0 where
  pub name : (text : List ℕ) → is_name text ≡ true → read.dotted (read.part_texts (names.name text)) ≡ text
  pub scope : (text : List ℕ) → is_name text ≡ true → read.dotted (read.part_texts (read.between_quotes (names.scope text))) ≡ text
  pub type_name : (space text : List ℕ) → has_no_zero space ≡ true → is_name text ≡ true →
      id_of_texts (read.part_texts (names.type_name space text)) ≡ record { space = space; name = text }

-- bytes behind `=` and behind `bytearray` are the bytes
pub record BytesAreRead : Type 0 where
  pub equals : (bytes : List ℕ) → are_bytes bytes ≡ true → read.bytes_in_parentheses (drop 1 (equals_bytes bytes)) ≡ bytes
  pub array : (bytes : List ℕ) → are_bytes bytes ≡ true → read.bytes_in_parentheses (drop 9 (byte_array bytes)) ≡ bytes

-- numbers in decimal and in hexadecimal digits are the numbers
pub record NumbersAreRead : Type 0 where
  pub natural : (n : ℕ) → n < 2 ^ 128 → read.integer (numbers.natural n) ≡ pos n
  pub integer : (z : ℤ) → mag z < 2 ^ 127 → read.integer (numbers.integer z) ≡ z
  pub hexadecimal : (width n : ℕ) → n < 2 ^ 128 → read.integer (numbers.hexadecimal width n) ≡ pos n

-- different offsets of code have different labels, and so has different data
pub record LabelsDiffer : Type 0 where
  pub offsets : (m n : ℕ) → m < 2 ^ 128 → n < 2 ^ 128 → numbers.label m ≡ numbers.label n → m ≡ n
  pub contents : (j k : ℕ) → j < 2 ^ 128 → k < 2 ^ 128 → numbers.data_label j ≡ numbers.data_label k → j ≡ k
