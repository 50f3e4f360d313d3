-- The grammar's table passes each test: computed over all of it.
use Rattle.std.proofs.Common.{◌≡◌, ℕ, List, true, take, drop, refl}
use Rattle.std.specs.Prelude.{slice_index}
use Rattle.ilasm_grammar.specs.declared.rules.TheConstants.{HEADS}
use Rattle.ilasm_grammar.specs.declared.choices.TheConstants.{ROWS, FALLBACKS, OWNERS, PICKS}
use Rattle.ilasm_grammar.specs.Certificate.{first_masks, follow_masks, nullable_mask, weights, witnesses, ranks, parents, surplus, shortfall}
use Rattle.ilasm_grammar.specs.Choice.{load_of}
use Rattle.ilasm_grammar.specs.Ilasm.{body_at, has_bit}
use Rattle.ilasm_grammar.proofs.Tables.{Tables, IsChecked, all_below, first_ok, vanish_ok, followed_ok, symbols_ok, load_ok, nodes_ok, row_ok, follow_in_range, witness_ok, parent_ok}

-- the cells of a nonterminal's row, one for each terminal and one for the end
unfoldable pub row_in : List ℕ → ℕ → List ℕ
row_in cells n = take 411 (drop (slice_index ROWS n) cells)

unfoldable pub ilasm_tables : Tables
ilasm_tables = record {
  productions = 641;
  nonterminals = 165;
  end = 410;
  head = slice_index HEADS;
  body = body_at;
  owners = row_in OWNERS;
  picks = row_in PICKS;
  fallback = slice_index FALLBACKS;
  first = slice_index first_masks;
  follow = slice_index follow_masks;
  nullable = has_bit nullable_mask;
  weight = slice_index weights;
  witness = slice_index witnesses;
  rank = slice_index ranks;
  parent = slice_index parents;
  surplus = slice_index surplus;
  shortfall = slice_index shortfall;
}

t_first : all_below (first_ok ilasm_tables) ilasm_tables.productions ≡ true
unfolding ilasm_tables body_at has_bit row_in first_masks nullable_mask
t_first = refl

t_vanish : all_below (vanish_ok ilasm_tables) ilasm_tables.productions ≡ true
unfolding ilasm_tables body_at has_bit nullable_mask
t_vanish = refl

t_followed : all_below (followed_ok ilasm_tables) ilasm_tables.productions ≡ true
unfolding ilasm_tables body_at has_bit first_masks follow_masks nullable_mask
t_followed = refl

t_symbols : all_below (symbols_ok ilasm_tables) ilasm_tables.productions ≡ true
unfolding ilasm_tables body_at ranks
t_symbols = refl

t_load : all_below (load_ok ilasm_tables) ilasm_tables.productions ≡ true
unfolding ilasm_tables body_at has_bit nullable_mask weights load_of
t_load = refl

t_nodes : all_below (nodes_ok ilasm_tables) ilasm_tables.productions ≡ true
unfolding ilasm_tables body_at surplus shortfall
t_nodes = refl

t_row : all_below (row_ok ilasm_tables) ilasm_tables.nonterminals ≡ true
unfolding ilasm_tables has_bit row_in follow_masks nullable_mask
t_row = refl

t_follow_in_range : all_below (follow_in_range ilasm_tables) ilasm_tables.nonterminals ≡ true
unfolding ilasm_tables follow_masks
t_follow_in_range = refl

t_witness : all_below (witness_ok ilasm_tables) ilasm_tables.nonterminals ≡ true
unfolding ilasm_tables body_at witnesses ranks
t_witness = refl

t_parent : all_below (parent_ok ilasm_tables) ilasm_tables.nonterminals ≡ true
unfolding ilasm_tables body_at parents
t_parent = refl

pub ilasm_checked : IsChecked ilasm_tables
ilasm_checked = record {
  first = t_first;
  vanish = t_vanish;
  followed = t_followed;
  symbols = t_symbols;
  load = t_load;
  nodes = t_nodes;
  row = t_row;
  follow_in_range = t_follow_in_range;
  witness = t_witness;
  parent = t_parent;
}
