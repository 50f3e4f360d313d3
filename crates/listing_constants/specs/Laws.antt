-- What strings, constants and attributes of a listing are read as (ECMA-335 II.5.2, II.16.2, II.21, II.22.9, II.22.10).
use Rattle.std.specs.Prelude.{ℕ, ◌≡◌, ◌<◌, ◌^◌, true, ℤ, List, [], ◌∷◌, Option}
use Rattle.std.specs.List.{list_all}
use lib.Signed.{mag}
use Rattle.type_terms.specs.declared.term.Primitive.{Primitive}
use Rattle.ilasm_grammar.specs.declared.productions.TheConstants as p
use Rattle.assembly_tree.specs.WellFormedMembers.{is_attribute, is_integer, is_constant}
use Rattle.assembly_tree.specs.WellFormedNames.{option_all}
use Rattle.assembly_tree.specs.declared.assembly.Assembly.{Assembly}
use Rattle.assembly_tree.specs.declared.members.Attribute.{Attribute}
use Rattle.assembly_tree.specs.declared.members.Constant.{Constant}
use Rattle.source_model.specs.Constants as read
use Rattle.source_model.specs.Forest as f
use Rattle.source_model.specs.Manifests.{attributes}
use Rattle.source_model.specs.Nodes.{Around}
use Rattle.source_model.specs.Source.{Source, spelling}
use Rattle.source_model.specs.Values.{units_of_bytes, array_bytes, part_texts, dotted}
use Rattle.listing_formed.specs.Laws.{Knows}
use Rattle.listing_growth.specs.Held.{are_units, is_constant_held, are_attributes_held}
use Rattle.listing_leaves.specs.Bytes.{byte_array}
use Rattle.listing_leaves.specs.Laws.{has_no_zero}
use Rattle.listing_leaves.specs.Numbers.{label, data_label}
use Rattle.listing_leaves.specs.Texts.{quoted, quoted_units, is_simple_string, unit_bytes}
use Rattle.listing_model.specs.Shown.{none, put, opt_production, opt_below}
use Rattle.listing_model.specs.Values as written
use Rattle.listing_reading.specs.Numbered.{numbered, Agrees}
use Rattle.listing_reading.specs.Rows.{parts_at}
use Rattle.listing_rows.specs.Segments.{ItemsAgree}

-- Labels of code and of data are read as names that are these.
pub record LabelsAreRead : Type 0 where
  pub offsets : (n : ℕ) → n < 2 ^ 128 → dotted (part_texts (label n)) ≡ label n
  pub contents : (k : ℕ) → k < 2 ^ 128 → dotted (part_texts (data_label k)) ≡ data_label k

-- A simple string in double quotes, and any string by its bytes, are the units; a text in double quotes is the text.
pub record StringsAreRead : Type 0 where
  pub simple : (s : Source) (units : List ℕ) → is_simple_string units ≡ true → (at : ℕ) → Agrees s at (put (written.one_string (quoted_units units)) none) →
      read.units_in s (f.the p.TEXT (numbered at (put (written.one_string (quoted_units units)) none))) ≡ units
  pub bytes : (s : Source) (units : List ℕ) → are_units units ≡ true → (k : ℕ) → spelling s k ≡ byte_array (unit_bytes units) →
      units_of_bytes (array_bytes s k) ≡ units
  pub text : (s : Source) (text : List ℕ) → has_no_zero text ≡ true → (at : ℕ) → Agrees s at (put (written.one_string (quoted 34 text)) none) →
      read.text_in s (f.the p.TEXT (numbered at (put (written.one_string (quoted 34 text)) none))) ≡ text

-- where a constant may stand, with anything behind it
abbrev pub constant_there : Option Constant → ℕ → f.Forest → f.Forest
constant_there c at after =
    f.branch (opt_production p.EQ_CONST_OPT_SOME p.EQ_CONST_OPT_NONE (written.equals_constant c)) (numbered at (opt_below (written.equals_constant c))) after

-- A number of an integer type is that number in its width; a constant, and one where it may stand.
pub record ConstantsAreRead : Type 0 where
  pub integers : (of : Primitive) (n : ℤ) → is_integer of n ≡ true → read.integer_of of n ≡ n
  pub small : (of : Primitive) (n : ℤ) → is_integer of n ≡ true → mag n < 2 ^ 127
  pub one : (s : Source) (c : Constant) → is_constant c ≡ true → is_constant_held c ≡ true → (at : ℕ) → Agrees s at (put (written.constant_item c) none) →
      read.constant_in s (numbered at (put (written.constant_item c) none)) ≡ c
  pub there : (s : Source) (c : Option Constant) → option_all is_constant c ≡ true → option_all is_constant_held c ≡ true → (at : ℕ) →
      Agrees s at (opt_below (written.equals_constant c)) → (g after : f.Forest) → f.parts (p.EQ_CONST ∷ []) g ≡ f.parts (p.EQ_CONST ∷ []) (constant_there c at after) →
      f.parts (p.EQ_CONST ∷ []) after ≡ [] → read.constant_of s g ≡ c

-- attributes in a row, each below a production of their owner's
abbrev pub AttributesAreRead : Type 0
AttributesAreRead =
    (s : Source) (around : Around) (a : Assembly) → Knows s a → (xs : List Attribute) → list_all (is_attribute a) xs ≡ true → are_attributes_held xs ≡ true →
    (production at : ℕ) → ItemsAgree s at (written.customs a.externs production xs) →
    attributes s around (parts_at at (written.customs a.externs production xs)) ≡ xs
