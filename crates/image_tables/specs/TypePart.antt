-- The rows of types while they are added (ECMA-335 II.22.37).
use Rattle.std.specs.Prelude.{◌≢◌, ◌≡◌, ℕ, ◌+◌, ◌≤◌, List, sum_by}
use Rattle.assembly_tree.specs.declared.assembly.Assembly.{Assembly}
use Rattle.metadata_tables.specs.Encoding.{rows_of}
use Rattle.image_tokens.specs.References.{size, Grows, AreKnown}
use Rattle.image_tokens.specs.declared.references.References.{References}
use Rattle.image_rows.specs.Filled.{HoldsTypeRows}
use Rattle.image_members.specs.Pushing.{Tables}
use Rattle.image_rows.specs.TypeRows.{base_of, base_weight}
use Rattle.image_members.specs.declared.classes.Class.{Class}

-- what the bases of types bring
abbrev pub bases_bytes : List Class → ℕ
bases_bytes classes = sum_by (λ c. base_weight (base_of c)) classes

-- TypeDef has got its rows, and no other table has changed
pub record AddsTypeRows (a : Assembly) (classes : List Class) (old new : References) (from to : Tables) : Type 0 where
  pub grows : Grows old new
  pub known : AreKnown new
  pub room : size new ≤ size old + bases_bytes classes
  pub holds : HoldsTypeRows a classes new to
  pub others : (other : ℕ) → other ≢ 0x02 → rows_of to other ≡ rows_of from other
