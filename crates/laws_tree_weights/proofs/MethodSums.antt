-- Methods, with their bodies, their parameters and what they override: what each brings, with its rows.
use Rattle.std.proofs.Common.{ℕ, ◌+◌, ◌*◌, ◌≤◌, List, [], ◌∷◌, map, length, arith}
use Rattle.std.specs.Prelude.{sum_by}
use Rattle.std.specs.List.{flat_map}
use Rattle.assembly_tree.specs.Room.{method_texts}
use Rattle.assembly_tree.specs.Weight.{param_weight, method_weight}
use Rattle.assembly_tree.specs.declared.members.Method.{Method}
use Rattle.image_tokens.specs.Loaded.{entry_sizes}
use Rattle.image_members.specs.CodeBytes.{body_of, stated_weight, stated_room}
use Rattle.image_members.specs.DeclaredMembers.{method_bytes}
use Rattle.image_members.specs.Places.{params_of}
use Rattle.laws_tree_weights.specs.ImageBytes.{override_weight, override_count, overrides_weight, overrides_count}
use Rattle.laws_tree_weights.proofs.AttributeSums.{method_attributes}
use Rattle.laws_tree_weights.proofs.BodySums.{body_fits}
use Rattle.laws_tree_weights.proofs.OwnedSums.{method_generics}
use Rattle.laws_tree_weights.proofs.PartLemmas.{attributes_fit}
use Rattle.laws_tree_weights.proofs.Sums.{sum_mapped, sum_flat, sum_each, sum_scaled, totals_least}

abbrev pub method_entries : Method → ℕ
method_entries m = entry_sizes (method_texts m)

abbrev own_params : Method → ℕ
own_params m = sum_by param_weight m.params

abbrev row_of : Method → ℕ
row_of m = method_bytes m + 20

abbrev names_of : Method → ℕ
names_of m = stated_weight m.body

abbrev room_of : Method → ℕ
room_of m = stated_room m.body

abbrev override_rows : Method → ℕ
override_rows m = 12 * override_count m

method_fits : (m : Method)
    → row_of m + (names_of m + (room_of m + (method_entries m + (override_weight m + (override_rows m + (own_params m + (method_generics m + (method_attributes m + 0)))))))) ≤ method_weight m
unfolding method_bytes method_texts method_weight
method_fits m = let body = body_fits m.body in let attributes = attributes_fit m.attributes in omega arith

pub methods_fit : (methods : List Method)
    → sum_by method_bytes methods + 20 * length methods + sum_by stated_weight (map body_of methods) + sum_by stated_room (map body_of methods)
    + sum_by method_entries methods + overrides_weight methods + 12 * overrides_count methods + sum_by param_weight (flat_map params_of methods)
    + sum_by method_generics methods + sum_by method_attributes methods
    ≤ sum_by method_weight methods
methods_fit methods =
    let rows = sum_each method_bytes 20 methods in
    let names = sum_mapped stated_weight body_of methods in
    let rooms = sum_mapped stated_room body_of methods in
    let overrides = sum_scaled override_count 12 methods in
    let params = sum_flat param_weight params_of methods in
    let all = totals_least (row_of ∷ names_of ∷ room_of ∷ method_entries ∷ override_weight ∷ override_rows ∷ own_params ∷ method_generics ∷ method_attributes ∷ []) method_weight method_fits methods in
    omega arith
