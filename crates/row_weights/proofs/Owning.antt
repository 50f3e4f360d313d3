-- The type that has a field or a method.
use Rattle.std.proofs.Common.{◌≡◌, ℕ, ◌<◌, ◌≤◌, List, subst, arith}
use Rattle.std.specs.Prelude.{Contains}
use Rattle.image_model.specs.Rows.{count_of, HasRow, fields_of, methods_of}
use Rattle.image_model.specs.Structure.{Rises, LiesIn}
use Rattle.row_weights.specs.Rows.{IsOwner}
use Rattle.row_demands.specs.Members.{run_begin, run_of}
use Rattle.row_demands.specs.Structured.{MeetStructure}
use Rattle.row_demands.proofs.Holding.{holds_behind}
use Rattle.row_demands.proofs.RunParts.{fields_are, methods_are, fields_rise, methods_rise, field_lies, method_lies}

module _ (image : List ℕ) (meets : MeetStructure image) where
  pub fields_rise_here : (row : ℕ) → HasRow image 0x02 row → Rises (run_begin image 0x02 4 0x04) row
  fields_rise_here = fields_rise image (λ row there. meets.runs 0x02 row)

  pub methods_rise_here : (row : ℕ) → HasRow image 0x02 row → Rises (run_begin image 0x02 5 0x06) row
  methods_rise_here = methods_rise image (λ row there. meets.runs 0x02 row)

  field_in : (row : ℕ) → HasRow image 0x04 row → LiesIn image 0x02 (run_of image 0x02 4 0x04) row
  field_in row there = (field_lies image row there).0 (meets.runs 0x04 row)

  method_in : (row : ℕ) → HasRow image 0x06 row → LiesIn image 0x02 (run_of image 0x02 5 0x06) row
  method_in row there = ((method_lies image row there).0 (meets.runs 0x06 row)).1

  pub field_types : (row : ℕ) → HasRow image 0x04 row → 0 < count_of image 0x02
  field_types row there = let l = field_in row there in let a = l.1.0 in let b = l.1.1 in omega arith

  pub method_types : (row : ℕ) → HasRow image 0x06 row → 0 < count_of image 0x02
  method_types row there = let l = method_in row there in let a = l.1.0 in let b = l.1.1 in omega arith

  pub first_field_before : (row : ℕ) → HasRow image 0x04 row → run_begin image 0x02 4 0x04 1 ≤ row
  first_field_before row there = (holds_behind image 0x02 4 0x04 row fields_rise_here there (field_types row there)).1 (field_in row there)

  pub first_method_before : (row : ℕ) → HasRow image 0x06 row → run_begin image 0x02 5 0x06 1 ≤ row
  first_method_before row there = (holds_behind image 0x02 5 0x06 row methods_rise_here there (method_types row there)).1 (method_in row there)

owned : (image : List ℕ) (run members : ℕ → List ℕ) → ((type : ℕ) → members type ≡ run type) → (row type : ℕ) → HasRow image 0x02 type
    → ((other : ℕ) → HasRow image 0x02 other → Contains (run other) row → other ≡ type) → IsOwner image members row type
owned image run members same row type there only = record {
  there = there;
  only = λ other t h. only other t (subst (λ (ms : List ℕ). Contains ms row) (same other) h);
}

pub field_owned : (image : List ℕ) (row type : ℕ) → HasRow image 0x02 type → ((other : ℕ) → HasRow image 0x02 other → Contains (run_of image 0x02 4 0x04 other) row → other ≡ type)
    → IsOwner image (fields_of image) row type
field_owned image row type there only = owned image (run_of image 0x02 4 0x04) (fields_of image) (fields_are image) row type there only

pub method_owned : (image : List ℕ) (row type : ℕ) → HasRow image 0x02 type → ((other : ℕ) → HasRow image 0x02 other → Contains (run_of image 0x02 5 0x06 other) row → other ≡ type)
    → IsOwner image (methods_of image) row type
method_owned image row type there only = owned image (run_of image 0x02 5 0x06) (methods_of image) (methods_are image) row type there only
