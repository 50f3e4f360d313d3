-- Fields, with their offsets and their data, and parameters: what each brings, with its rows.
use Rattle.std.proofs.Common.{ℕ, ◌+◌, ◌*◌, ◌≤◌, List, [], ◌∷◌, length, Option, Some, None, arith}
use Rattle.std.specs.Prelude.{sum_by}
use Rattle.std.specs.List.{enumerate_from, flat_map}
use Rattle.assembly_tree.specs.Weight.{optional, field_weight, param_weight}
use Rattle.assembly_tree.specs.declared.members.Field.{Field}
use Rattle.assembly_tree.specs.declared.members.Param.{Param}
use Rattle.image_members.specs.DataRows.{Datum, stated_data, field_data, all_data, data_room}
use Rattle.image_members.specs.DeclaredMembers.{field_bytes}
use Rattle.image_rows.specs.FieldRows.{stated_offset, offset_rows}
use Rattle.image_rows.specs.ParamRows.{param_bytes}
use Rattle.laws_tree_weights.proofs.AttributeSums.{field_attributes, param_attributes}
use Rattle.laws_tree_weights.proofs.OwnedSums.{field_constant, param_constant}
use Rattle.laws_tree_weights.proofs.PartLemmas.{attributes_fit}
use Rattle.laws_tree_weights.proofs.Sums.{sum_each, sum_same, sum_numbered, totals_least}

-- ---- offsets and data

abbrev offset_part : Field → ℕ
offset_part f = optional (λ _. 8) f.offset

stated_offset_few : (row : ℕ) (o : Option ℕ) → sum_by (λ _. 8) (stated_offset row o) ≤ optional (λ _. 8) o
stated_offset_few row None = omega arith
stated_offset_few row (Some offset) = omega arith

offsets_few : (fields : List Field) → 8 * length (flat_map offset_rows (enumerate_from 1 fields)) ≤ sum_by offset_part fields
offsets_few fields =
    let each = sum_same 8 (flat_map offset_rows (enumerate_from 1 fields)) in
    let all = sum_numbered (λ _. 8) offset_rows offset_part (λ row f. stated_offset_few row f.offset) 1 fields in
    omega arith

abbrev datum_part : Datum → ℕ
datum_part d = data_room d + 8

abbrev data_part : Field → ℕ
data_part f = optional (λ bytes. 15 + length bytes) f.content

stated_data_few : (row : ℕ) (content : Option (List ℕ)) → sum_by datum_part (stated_data row content) ≤ optional (λ bytes. 15 + length bytes) content
stated_data_few row None = omega arith
stated_data_few row (Some bytes) = omega arith

data_few : (fields : List Field) → sum_by data_room (all_data 1 fields) + 8 * length (all_data 1 fields) ≤ sum_by data_part fields
data_few fields =
    let each = sum_each data_room 8 (all_data 1 fields) in
    let all = sum_numbered datum_part field_data data_part (λ row f. stated_data_few row f.content) 1 fields in
    omega arith

-- ---- fields

offset_fits : (o : Option ℕ) → optional (λ _. 8) o ≤ optional (λ _. 64) o
offset_fits None = omega arith
offset_fits (Some offset) = omega arith

data_fits : (content : Option (List ℕ)) → optional (λ bytes. 15 + length bytes) content ≤ optional (λ bytes. 64 + length bytes) content
data_fits None = omega arith
data_fits (Some bytes) = omega arith

field_fits : (f : Field) → field_bytes f + 10 + (offset_part f + (data_part f + (field_constant f + (field_attributes f + 0)))) ≤ field_weight f
unfolding field_bytes field_weight
field_fits f =
    let offset = offset_fits f.offset in
    let contents = data_fits f.content in
    let attributes = attributes_fit f.attributes in
    omega arith

pub fields_fit : (fields : List Field)
    → sum_by field_bytes fields + 10 * length fields + 8 * length (flat_map offset_rows (enumerate_from 1 fields))
    + (sum_by data_room (all_data 1 fields) + 8 * length (all_data 1 fields)) + sum_by field_constant fields + sum_by field_attributes fields
    ≤ sum_by field_weight fields
fields_fit fields =
    let rows = sum_each field_bytes 10 fields in
    let offsets = offsets_few fields in
    let contents = data_few fields in
    let all = totals_least ((λ f. field_bytes f + 10) ∷ offset_part ∷ data_part ∷ field_constant ∷ field_attributes ∷ []) field_weight field_fits fields in
    omega arith

-- ---- parameters

param_fits : (p : Param) → param_bytes p + 8 + (param_constant p + (param_attributes p + 0)) ≤ param_weight p
unfolding param_bytes param_weight
param_fits p = let attributes = attributes_fit p.attributes in omega arith

pub params_fit : (params : List Param)
    → sum_by param_bytes params + 8 * length params + sum_by param_constant params + sum_by param_attributes params ≤ sum_by param_weight params
params_fit params =
    let rows = sum_each param_bytes 8 params in
    let all = totals_least ((λ p. param_bytes p + 8) ∷ param_constant ∷ param_attributes ∷ []) param_weight param_fits params in
    omega arith
