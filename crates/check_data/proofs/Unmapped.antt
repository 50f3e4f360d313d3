-- A source in which no field is mapped to data.
use Rattle.std.proofs.Common.{◌≡◌, ℕ, List, [], ◌∷◌, ◌++◌, None, ap, sym, ◌∙◌, refl}
use Rattle.std.specs.Prelude.{Bool, true, false, ◌==◌, ◌||◌, if◌then◌else◌}
use Rattle.std.specs.List.{flat_map}
use Rattle.ilasm_grammar.specs.declared.productions.TheConstants.{AT_NAME, FIELD}
use Rattle.source_model.specs.Data.{at_token, data_named}
use Rattle.source_model.specs.Forest as tree
use Rattle.source_model.specs.Forest.{Forest, Part, has, is_any_part, part, parts}
use Rattle.source_model.specs.Nodes.{Around, Node, entered, nodes_in, nothing_around}
use Rattle.source_model.specs.OutOfRange.{data_named_length, data_too_short_of, data_unsized_of, field_size, label_if_none, label_if_short}
use Rattle.source_model.specs.Source.{Source}
use Rattle.source_model.specs.Values.{name_text}
use Rattle.source_nodes.specs.Least.{least}
use Rattle.source_syntax.proofs.LeastLemmas.{flat_append}
use Rattle.check_data.specs.FieldFaults.{AreLeast, where_field}
use Rattle.check_data.specs.declared.mapped_fields.DataFaults.{DataFaults}

neither : (ps qs : List Part) → is_any_part (ps ++ qs) ≡ false → (is_any_part ps ≡ false) × (is_any_part qs ≡ false)
neither [] qs e = (refl, e)
neither (p ∷ ps) qs e = absurd cc

module _ (p : ℕ) (b f : Forest) (none : has AT_NAME (tree.branch p b f) ≡ false) where
  apart : (is_any_part (if (AT_NAME == p) || false then part p b ∷ [] else parts (AT_NAME ∷ []) b) ≡ false) × (has AT_NAME f ≡ false)
  apart = neither (if (AT_NAME == p) || false then part p b ∷ [] else parts (AT_NAME ∷ []) b) (parts (AT_NAME ∷ []) f) none

  none_below : has AT_NAME b ≡ false
  none_below = go ((AT_NAME == p) || false) apart.0
    where
      go : (c : Bool) → is_any_part (if c then part p b ∷ [] else parts (AT_NAME ∷ []) b) ≡ false → has AT_NAME b ≡ false
      go true e = absurd cc
      go false e = e

  none_after : has AT_NAME f ≡ false
  none_after = apart.1

module _ (s : Source) (broken : Node → List ℕ) (unmapped : (n : Node) → has AT_NAME n.below ≡ false → broken n ≡ []) where
  none_broken : (a : Around) (f : Forest) → has AT_NAME f ≡ false → flat_map broken (nodes_in s a f) ≡ []
  none_broken a tree.none e = refl
  none_broken a (tree.leaf k f) e = none_broken a f e
  none_broken a (tree.branch p b f) e =
      let inner = entered s a p b in
      let n : Node = record { production = p; below = b; around = inner } in
      flat_append broken (n ∷ nodes_in s inner b) (nodes_in s a f)
      ∙ ap (λ ks. (ks ++ flat_map broken (nodes_in s inner b)) ++ flat_map broken (nodes_in s a f)) (unmapped n (none_below p b f e))
      ∙ ap (λ ks. ks ++ flat_map broken (nodes_in s a f)) (none_broken inner b (none_below p b f e))
      ∙ none_broken a f (none_after p b f e)

module _ (s : Source) where
  either_none : (c : Bool) (ks : List ℕ) → ks ≡ [] → (if c then ks else []) ≡ []
  either_none true ks e = e
  either_none false ks e = refl

  none_short : (n : Node) → has AT_NAME n.below ≡ false → where_field (data_too_short_of s) n ≡ []
  none_short n e =
      either_none (n.production == FIELD) (data_too_short_of s n)
      (ap (λ (b : Bool). if b then label_if_short (field_size s n) (data_named_length s (data_named s (name_text s (at_token n.below)))) (at_token n.below) else []) e)

  none_unsized : (n : Node) → has AT_NAME n.below ≡ false → where_field (data_unsized_of s) n ≡ []
  none_unsized n e =
      either_none (n.production == FIELD) (data_unsized_of s n) (ap (λ (b : Bool). if b then label_if_none (field_size s n) (at_token n.below) else []) e)

  pub no_data : (d : DataFaults) → has AT_NAME s.tree ≡ false → d.short ≡ None → d.without_size ≡ None → AreLeast s (nodes_in s nothing_around s.tree) d
  no_data d e h i = record {
    short = h ∙ sym (ap least (none_broken s (where_field (data_too_short_of s)) none_short nothing_around s.tree e));
    without-size = i ∙ sym (ap least (none_broken s (where_field (data_unsized_of s)) none_unsized nothing_around s.tree e));
  }
