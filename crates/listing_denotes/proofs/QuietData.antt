-- The data of a listing break no rule.
use Rattle.std.proofs.Common.{◌≡◌, ℕ, suc, ◌+◌, ◌≤◌, ◌^◌, nat_lt, Bool, true, false, if◌then◌else◌, List, [], ◌∷◌, ◌++◌, length, drop, refl, ap, ◌∙◌, arith}
use Rattle.std.proofs.lemmas.Bool.{and_parts, false≢true}
use Rattle.std.specs.List.{list_all}
use Rattle.ilasm_grammar.specs.declared.productions.TheConstants as p
use Rattle.source_model.specs.Data.{data_items as items_of_data}
use Rattle.source_model.specs.Forest as f
use Rattle.source_model.specs.Nodes.{Around, Node, nodes_in, nothing_around}
use Rattle.source_model.specs.OutOfRange.{counted_length, item_past_length}
use Rattle.source_model.specs.Source.{Source}
use Rattle.source_model.specs.Values.{bytes_in_parentheses}
use Rattle.faultless_nodes.specs.Laws.{BreaksNothing, EachBreaksNothing, UnaskedBreakNothing}
use Rattle.listing_growth.specs.Held.{are_bytes}
use Rattle.listing_model.specs.Canon.{contents, data_lines}
use Rattle.listing_model.specs.Shown.{Shown, none, leaf, branch, size}
use Rattle.listing_model.specs.Values.{data_line}
use Rattle.listing_reading.specs.Numbered.{numbered}
use Rattle.listing_rows.specs.Segments.{ItemsAgree}
use Rattle.listing_values.specs.Laws.{BytesAreRead}
use Rattle.listing_declarations.specs.Laws.{DeclarationsAreRead}
use Rattle.listing_data.specs.Laws.{ContentsAreHeld}
use Rattle.listing_denotes.specs.Quiet.{ItemsBreakNothing, DataBreakNothing}
use Rattle.listing_denotes.proofs.QuietWeights.{bytes_in, contents_light}

-- what stands below the production of data
abbrev first_below : Shown → Shown
first_below none = none
first_below (leaf l after) = none
first_below (branch q below after) = below

abbrev data_below : ℕ → List ℕ → Shown
data_below k bytes = first_below (data_line k bytes).below

abbrev first_part : List f.Part → f.Part
first_part [] = f.part 0 f.none
first_part (q ∷ qs) = q

-- its one item
abbrev the_item : ℕ → ℕ → List ℕ → f.Part
the_item at k bytes = first_part (items_of_data (numbered at (data_below k bytes)))

not_less : (m n : ℕ) → n ≤ m → nat_lt m n ≡ false
not_less m n h = grind (arith, h)

past_none : (s : Source) (q : f.Part) → nat_lt 67108864 (0 + counted_length s q) ≡ false → item_past_length s 0 (q ∷ []) ≡ []
past_none s q e = ap (λ (c : Bool). if c then f.first_token q.below ∷ [] else item_past_length s (0 + counted_length s q) []) e

module _ (unasked : UnaskedBreakNothing) (bytes_read : BytesAreRead) (s : Source) (a : Around) where
  -- the item has the bytes
  length_is : (at k : ℕ) (bytes : List ℕ) → are_bytes bytes ≡ true → ItemsAgree s at (data_line k bytes ∷ []) → counted_length s (the_item at k bytes) ≡ length bytes
  length_is at k bytes h ag = ap (λ xs. length xs) (ap (λ t. bytes_in_parentheses (drop 9 t)) ag.0.0.1.1.1.0.0.0.text ∙ bytes_read.array bytes h)

  abbrev node_of : ℕ → ℕ → List ℕ → Node
  node_of at k bytes = record { production = p.DATA; below = numbered at (data_below k bytes); around = a }

  data_quiet : (at k : ℕ) (bytes : List ℕ) → are_bytes bytes ≡ true → length bytes ≤ 2 ^ 26 → ItemsAgree s at (data_line k bytes ∷ []) → BreaksNothing s (node_of at k bytes)
  data_quiet at k bytes h small ag =
      let is = length_is at k bytes h ag in
      let few : 0 + counted_length s (the_item at k bytes) ≤ 67108864 = omega arith in
      let long : item_past_length s 0 (the_item at k bytes ∷ []) ≡ [] = past_none s (the_item at k bytes) (not_less 67108864 (0 + counted_length s (the_item at k bytes)) few) in
      record {
        types = refl;
        scopes = refl;
        typars = refl;
        param_types = refl;
        numbers = ap (λ (xs : List ℕ). xs ++ [] ++ [] ++ [] ++ [] ++ []) long;
        depth = refl;
        nesting = refl;
        paths = refl;
        class = λ i. absurd (false≢true i);
        field = λ i. absurd (false≢true i);
        label = λ i. absurd (false≢true i);
        accessors = λ i. absurd (false≢true i);
        method = λ i. absurd (false≢true i);
      }

  line_quiet : (at k : ℕ) (bytes : List ℕ) → are_bytes bytes ≡ true → length bytes ≤ 2 ^ 26 → ItemsAgree s at (data_line k bytes ∷ []) →
      EachBreaksNothing s (nodes_in s a (f.branch p.DECL_DATA (numbered at (data_line k bytes).below) f.none))
  line_quiet at k bytes h small ag = (
    unasked.node s _ refl,
    (data_quiet at k bytes h small ag, (unasked.node s _ refl, (unasked.node s _ refl, (unasked.node s _ refl, (unasked.node s _ refl, (unasked.node s _ refl, tt)))))),
  )

  lines_quiet : (at k : ℕ) (all : List (List ℕ)) → list_all are_bytes all ≡ true → bytes_in all ≤ 2 ^ 26 → ItemsAgree s at (data_lines k all) → ItemsBreakNothing s a at (data_lines k all)
  lines_quiet at k [] h small ag = tt
  lines_quiet at k (bytes ∷ more) h small ag =
      let hs = and_parts (are_bytes bytes) (list_all are_bytes more) h in
      let here : length bytes ≤ 2 ^ 26 = omega arith in
      let later : bytes_in more ≤ 2 ^ 26 = omega arith in
      (line_quiet at k bytes hs.0 here (ag.0, tt), lines_quiet (at + size (data_line k bytes).below) (suc k) more hs.1 later ag.1)

pub data_break_nothing : UnaskedBreakNothing → BytesAreRead → ContentsAreHeld → DeclarationsAreRead → DataBreakNothing
data_break_nothing unasked bytes_read held declared s a listed =
    lines_quiet unasked bytes_read s nothing_around _ 0 (contents a) (held.bytes s a listed) (contents_light s a listed) (declared s a listed).contents
