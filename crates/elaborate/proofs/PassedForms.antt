-- In what the walk for data and for the sizes of classes goes past stands none of them (ECMA-335 II.5.1).
use Rattle.std.proofs.Common.{◌≡◌, ℕ, [], ◌∷◌, true, refl}
use Rattle.ilasm_grammar.specs.Ilasm.{body_at, has_bit}
use Rattle.ilasm_grammar.specs.declared.productions.TheConstants.{DATA, MEMBER_SIZE}
use Rattle.ilasm_grammar.proofs.TableCheck.{ilasm_tables}
use Rattle.ilasm_grammar.proofs.Tables.{all_below}
use Rattle.source_flags.proofs.Apart.{all_outside, are_apart, stays}
use Rattle.source_model.specs.Forest.{Forest, parts, parts_outside}
use Rattle.source_model.specs.Source.{Source}
use Rattle.source_nodes.specs.Derived.{HasBodies}
use Rattle.elaborate.specs.Standing.{passed_forms}

-- the nonterminals that stand somewhere below what is gone past
unfoldable passed_mask : ℕ
passed_mask = 0x1ffffffffffffffff2bfff7ffffffffffff3820

passed_closed : all_below (stays passed_mask passed_forms) ilasm_tables.productions ≡ true
unfolding ilasm_tables body_at has_bit passed_mask
passed_closed = refl

data_apart : are_apart passed_mask (DATA ∷ []) ≡ true
unfolding ilasm_tables has_bit passed_mask
data_apart = refl

sizes_apart : are_apart passed_mask (MEMBER_SIZE ∷ []) ≡ true
unfolding ilasm_tables has_bit passed_mask
sizes_apart = refl

pub same_data : (s : Source) (f : Forest) → HasBodies s f → parts_outside passed_forms (DATA ∷ []) f ≡ parts (DATA ∷ []) f
same_data s f h = all_outside passed_mask passed_forms (DATA ∷ []) passed_closed data_apart s f h

pub same_sizes : (s : Source) (f : Forest) → HasBodies s f → parts_outside passed_forms (MEMBER_SIZE ∷ []) f ≡ parts (MEMBER_SIZE ∷ []) f
same_sizes s f h = all_outside passed_mask passed_forms (MEMBER_SIZE ∷ []) passed_closed sizes_apart s f h
