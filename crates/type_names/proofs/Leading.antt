-- The nodes to which scopes lead.
use Rattle.std.proofs.Common.{◌≡◌, ℕ, ◌+◌, ◌^◌, ◌<◌, ◌≤◌, List, Some, length, ◌∙◌, ap, subst, arith}
use Rattle.std.specs.Prelude.{◌==◌, if◌then◌else◌}
use Rattle.std.proofs.lemmas.Bool.{eq-eqb, ne_eqb}
use Rattle.metadata_tables.specs.CodedIndex.{unpacked}
use Rattle.metadata_tables.specs.declared.coded.Coded.TheVariants.{ResolutionScope}
use Rattle.image_model.specs.Faults.{HasTables}
use Rattle.image_model.specs.Rows.{count_of, HasRow}
use Rattle.type_names.specs.Forest.{IsScope, ref_node, assembly_node, led_to}
use Rattle.type_names.proofs.Paths.{names_one}
use Rattle.type_names.proofs.Sizes.{few_types, few_references, few_assemblies}

pub scope_row : (image : List ℕ) (scope table row : ℕ) → IsScope image scope → unpacked ResolutionScope scope ≡ Some (table, row) → HasRow image table row
scope_row image scope table row there names =
    let (t, r, told, row_there) = there in
    let one = names_one ResolutionScope scope t r table row told names in
    subst (λ z. HasRow image table z) one.1 (subst (λ z. HasRow image z r) one.0 row_there)

pub ref_small : (image : List ℕ) → HasTables image → length image ≤ 2 ^ 26 → (table row : ℕ) → table ≡ 0x01 → HasRow image table row → count_of image 0x02 + row < 2 ^ 32
ref_small image has small table row e there =
    let t = few_types image has in
    let r = few_references image has in
    let h = (subst (λ z. HasRow image z row) e there).1 in
    omega arith

pub assembly_small : (image : List ℕ) → HasTables image → length image ≤ 2 ^ 26 → (table row : ℕ) → table ≡ 0x23 → HasRow image table row
    → (count_of image 0x02 + count_of image 0x01 < 2 ^ 32) × (count_of image 0x02 + count_of image 0x01 + row < 2 ^ 32)
assembly_small image has small table row e there =
    let t = few_types image has in
    let r = few_references image has in
    let a = few_assemblies image has in
    let h = (subst (λ z. HasRow image z row) e there).1 in
    (omega arith, omega arith)

pub led_to_ref : (image : List ℕ) (table row : ℕ) → table ≡ 0x01 → led_to image (Some (table, row)) ≡ ref_node image row
led_to_ref image table row e = ap (λ b. if b then ref_node image row else (if table == 0x23 then assembly_node image row else 0)) (eq-eqb table 0x01 e)

pub led_to_assembly : (image : List ℕ) (table row : ℕ) → (table ≡ 0x01 → ⊥) → table ≡ 0x23 → led_to image (Some (table, row)) ≡ assembly_node image row
led_to_assembly image table row n e =
    ap (λ b. if b then ref_node image row else (if table == 0x23 then assembly_node image row else 0)) (ne_eqb table 0x01 n)
    ∙ ap (λ b. if b then assembly_node image row else 0) (eq-eqb table 0x23 e)

pub led_to_module : (image : List ℕ) (table row : ℕ) → (table ≡ 0x01 → ⊥) → (table ≡ 0x23 → ⊥) → led_to image (Some (table, row)) ≡ 0
led_to_module image table row n m =
    ap (λ b. if b then ref_node image row else (if table == 0x23 then assembly_node image row else 0)) (ne_eqb table 0x01 n)
    ∙ ap (λ b. if b then assembly_node image row else 0) (ne_eqb table 0x23 m)
