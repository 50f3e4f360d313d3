-- Rows that aren't there meet each demand.
use Rattle.std.proofs.Common.{◌≡◌, ℕ, ◌+◌, ◌<◌, ◌≤◌, ◌⊎◌, inl, inr, List, sym, subst, arith}
use Rattle.body_codec.specs.Names.{NameMap}
use Rattle.image_model.specs.Rows.{count_of, HasRow}
use Rattle.image_model.specs.Used.{IsUsed}
use Rattle.image_model.specs.Faults.{RowRule, indexes, entries, manifest, runs, order, scopes, signatures, distinct, values, header, instructions, clauses, tokens, attributes, bases, accessors, RowMeets, HasTables}
use Rattle.row_demands.proofs.RunParts.{runs_of_none}
use Rattle.row_demands.proofs.Tables.{none_past}

-- a row past the last table of the profile, or more than one past the last row of its table
abbrev pub IsOutside : List ℕ → ℕ → ℕ → Type 0
IsOutside image table row = (45 ≤ table) ⊎ (count_of image table + 1 < row)

used_there : {image : List ℕ} {table row : ℕ} → IsUsed image table row → HasRow image table row
used_there (IsUsed.by_row plain from names reference there) = there
used_there (IsUsed.by_reference used names reference there) = there
used_there (IsUsed.by_body method names token reference there) = there

module _ (image : List ℕ) (names : NameMap) (tables : HasTables image) (table row : ℕ) (outside : IsOutside image table row) where
  gone : HasRow image table row → ⊥
  gone there = elim outside [
    | inl far ↦ none_past image tables table row (inl far) there
    | inr past ↦ none_past image tables table row (inr (omega arith)) there
  ]

  -- there is no such row of the table that the demand speaks of
  none_of : (t : ℕ) → table ≡ t → HasRow image t row → ⊥
  none_of t e there = gone (subst (λ (u : ℕ). HasRow image u row) (sym e) there)

  no_use : (t : ℕ) → table ≡ t → IsUsed image t row → ⊥
  no_use t e used = none_of t e (used_there used)

  early_table : (t : ℕ) → t < 45 → table ≡ t → row ≤ 1 → ⊥
  early_table t few e low = elim outside [ inl far ↦ omega arith | inr past ↦ omega arith ]

  pub outside_meets : (rule : RowRule) → RowMeets image names rule table row
  outside_meets indexes = λ there. absurd (gone there)
  outside_meets entries = λ there. absurd (gone there)
  outside_meets manifest = record {
    one_module = λ e z. absurd (early_table 0x00 (omega arith) e (omega arith));
    some_types = λ e z. absurd (early_table 0x02 (omega arith) e (omega arith));
    module_type = λ e z. absurd (early_table 0x02 (omega arith) e (omega arith));
    one_assembly = λ e z. absurd (early_table 0x20 (omega arith) e (omega arith));
  }
  outside_meets runs = runs_of_none image table row gone
  outside_meets order = λ late there. absurd (gone there)
  outside_meets scopes = record { reference = λ e there. absurd (none_of 0x01 e there); nesting = λ e there. absurd (none_of 0x29 e there) }
  outside_meets signatures = record {
    field = λ e there. absurd (none_of 0x04 e there);
    method = λ e there. absurd (none_of 0x06 e there);
    property = λ e there. absurd (none_of 0x17 e there);
    member = λ e used. absurd (no_use 0x0A e used);
    locals = λ e used. absurd (no_use 0x11 e used);
    override = λ e there. absurd (none_of 0x19 e there);
    type = λ e used. absurd (no_use 0x1B e used);
    instance = λ e used. absurd (no_use 0x2B e used);
    instance_of = λ e there. absurd (none_of 0x2B e there);
  }
  outside_meets distinct = record {
    type = λ e there. absurd (none_of 0x02 e there);
    field = λ e there. absurd (none_of 0x04 e there);
    method = λ e there. absurd (none_of 0x06 e there);
    event = λ e there. absurd (none_of 0x14 e there);
    property = λ e there. absurd (none_of 0x17 e there);
  }
  outside_meets values = record {
    type_generics = λ e there. absurd (none_of 0x02 e there);
    layout = λ e there. absurd (none_of 0x02 e there);
    field = λ e there. absurd (none_of 0x04 e there);
    method_generics = λ e there. absurd (none_of 0x06 e there);
    method = λ e there. absurd (none_of 0x06 e there);
    param = λ e there. absurd (none_of 0x08 e there);
    event_of = λ e there. absurd (none_of 0x14 e there);
    event_kinds_are = λ e there. absurd (none_of 0x14 e there);
    property = λ e there. absurd (none_of 0x17 e there);
    property_kinds_are = λ e there. absurd (none_of 0x17 e there);
    override = λ e there. absurd (none_of 0x19 e there);
    instance = λ e used. absurd (no_use 0x2B e used);
  }
  outside_meets header = record { code_type = λ e there. absurd (none_of 0x06 e there); header = λ e there. absurd (none_of 0x06 e there) }
  outside_meets instructions = λ e there. absurd (none_of 0x06 e there)
  outside_meets clauses = λ e there. absurd (none_of 0x06 e there)
  outside_meets tokens = λ e there. absurd (none_of 0x06 e there)
  outside_meets attributes = record { parent = λ e there. absurd (none_of 0x0C e there); constructor = λ e there. absurd (none_of 0x0C e there) }
  outside_meets bases = record { interface = λ e there. absurd (none_of 0x02 e there); other = λ e there. absurd (none_of 0x02 e there) }
  outside_meets accessors = record { event = λ e there. absurd (none_of 0x14 e there); property = λ e there. absurd (none_of 0x17 e there) }
