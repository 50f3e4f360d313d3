-- What is asked of the runs of each table's rows, apart.
use Rattle.std.proofs.Common.{◌≡◌, ℕ, ◌-◌, ◌<◌, ◌≤◌, List, refl, arith, subst, sym, ap}
use Rattle.std.specs.Prelude.{◌↔◌, Contains}
use Rattle.image_model.specs.Rows.{count_of, HasRow, first_field, first_method, first_param, first_event, first_property, fields_of, methods_of, params_of, events_in, properties_in}
use Rattle.image_model.specs.Columns.{event_map_parent, property_map_parent, param_sequence}
use Rattle.image_model.specs.Structure.{HasRuns, Rises, LiesIn, IsFirstWith, RisesInMethod}
use Rattle.row_demands.specs.Members.{run_begin, run_of}
use Rattle.row_demands.proofs.Tiles.{range_contains}
use Rattle.row_demands.proofs.Holding.{goes_on, breaks_off}

pub runs_of_types : (image : List ℕ) (row : ℕ) → HasRow image 0x02 row → HasRuns image 0x02 row ↔ ((Rises (first_field image) row) × (Rises (first_method image) row))
runs_of_types image row there = (
  λ h. (h.fields refl there, h.methods refl there),
  λ p. record { fields = λ e h. p.0; methods = λ e h. p.1; in_type = λ e h. absurd (omega arith); params = λ e h. absurd (omega arith); method_in_type = λ e h. absurd (omega arith); in_method = λ e h. absurd (omega arith); sequence = λ e h. absurd (omega arith); events = λ e h. absurd (omega arith); one_event_map = λ e h. absurd (omega arith); event_in_map = λ e h. absurd (omega arith); properties = λ e h. absurd (omega arith); one_property_map = λ e h. absurd (omega arith); property_in_map = λ e h. absurd (omega arith) },
)

pub runs_of_fields : (image : List ℕ) (row : ℕ) → HasRow image 0x04 row → HasRuns image 0x04 row ↔ ((LiesIn image 0x02 (fields_of image) row))
runs_of_fields image row there = (
  λ h. h.in_type refl there,
  λ p. record { fields = λ e h. absurd (omega arith); methods = λ e h. absurd (omega arith); in_type = λ e h. p; params = λ e h. absurd (omega arith); method_in_type = λ e h. absurd (omega arith); in_method = λ e h. absurd (omega arith); sequence = λ e h. absurd (omega arith); events = λ e h. absurd (omega arith); one_event_map = λ e h. absurd (omega arith); event_in_map = λ e h. absurd (omega arith); properties = λ e h. absurd (omega arith); one_property_map = λ e h. absurd (omega arith); property_in_map = λ e h. absurd (omega arith) },
)

pub runs_of_methods : (image : List ℕ) (row : ℕ) → HasRow image 0x06 row → HasRuns image 0x06 row ↔ ((Rises (first_param image) row) × (LiesIn image 0x02 (methods_of image) row))
runs_of_methods image row there = (
  λ h. (h.params refl there, h.method_in_type refl there),
  λ p. record { fields = λ e h. absurd (omega arith); methods = λ e h. absurd (omega arith); in_type = λ e h. absurd (omega arith); params = λ e h. p.0; method_in_type = λ e h. p.1; in_method = λ e h. absurd (omega arith); sequence = λ e h. absurd (omega arith); events = λ e h. absurd (omega arith); one_event_map = λ e h. absurd (omega arith); event_in_map = λ e h. absurd (omega arith); properties = λ e h. absurd (omega arith); one_property_map = λ e h. absurd (omega arith); property_in_map = λ e h. absurd (omega arith) },
)

pub runs_of_params : (image : List ℕ) (row : ℕ) → HasRow image 0x08 row → HasRuns image 0x08 row ↔ ((LiesIn image 0x06 (params_of image) row) × (RisesInMethod image row))
runs_of_params image row there = (
  λ h. (h.in_method refl there, h.sequence refl there),
  λ p. record { fields = λ e h. absurd (omega arith); methods = λ e h. absurd (omega arith); in_type = λ e h. absurd (omega arith); params = λ e h. absurd (omega arith); method_in_type = λ e h. absurd (omega arith); in_method = λ e h. p.0; sequence = λ e h. p.1; events = λ e h. absurd (omega arith); one_event_map = λ e h. absurd (omega arith); event_in_map = λ e h. absurd (omega arith); properties = λ e h. absurd (omega arith); one_property_map = λ e h. absurd (omega arith); property_in_map = λ e h. absurd (omega arith) },
)

pub runs_of_event_maps : (image : List ℕ) (row : ℕ) → HasRow image 0x12 row → HasRuns image 0x12 row ↔ ((Rises (first_event image) row) × (IsFirstWith (event_map_parent image) row))
runs_of_event_maps image row there = (
  λ h. (h.events refl there, h.one_event_map refl there),
  λ p. record { fields = λ e h. absurd (omega arith); methods = λ e h. absurd (omega arith); in_type = λ e h. absurd (omega arith); params = λ e h. absurd (omega arith); method_in_type = λ e h. absurd (omega arith); in_method = λ e h. absurd (omega arith); sequence = λ e h. absurd (omega arith); events = λ e h. p.0; one_event_map = λ e h. p.1; event_in_map = λ e h. absurd (omega arith); properties = λ e h. absurd (omega arith); one_property_map = λ e h. absurd (omega arith); property_in_map = λ e h. absurd (omega arith) },
)

pub runs_of_events : (image : List ℕ) (row : ℕ) → HasRow image 0x14 row → HasRuns image 0x14 row ↔ ((LiesIn image 0x12 (events_in image) row))
runs_of_events image row there = (
  λ h. h.event_in_map refl there,
  λ p. record { fields = λ e h. absurd (omega arith); methods = λ e h. absurd (omega arith); in_type = λ e h. absurd (omega arith); params = λ e h. absurd (omega arith); method_in_type = λ e h. absurd (omega arith); in_method = λ e h. absurd (omega arith); sequence = λ e h. absurd (omega arith); events = λ e h. absurd (omega arith); one_event_map = λ e h. absurd (omega arith); event_in_map = λ e h. p; properties = λ e h. absurd (omega arith); one_property_map = λ e h. absurd (omega arith); property_in_map = λ e h. absurd (omega arith) },
)

pub runs_of_property_maps : (image : List ℕ) (row : ℕ) → HasRow image 0x15 row → HasRuns image 0x15 row ↔ ((Rises (first_property image) row) × (IsFirstWith (property_map_parent image) row))
runs_of_property_maps image row there = (
  λ h. (h.properties refl there, h.one_property_map refl there),
  λ p. record { fields = λ e h. absurd (omega arith); methods = λ e h. absurd (omega arith); in_type = λ e h. absurd (omega arith); params = λ e h. absurd (omega arith); method_in_type = λ e h. absurd (omega arith); in_method = λ e h. absurd (omega arith); sequence = λ e h. absurd (omega arith); events = λ e h. absurd (omega arith); one_event_map = λ e h. absurd (omega arith); event_in_map = λ e h. absurd (omega arith); properties = λ e h. p.0; one_property_map = λ e h. p.1; property_in_map = λ e h. absurd (omega arith) },
)

pub runs_of_properties : (image : List ℕ) (row : ℕ) → HasRow image 0x17 row → HasRuns image 0x17 row ↔ ((LiesIn image 0x15 (properties_in image) row))
runs_of_properties image row there = (
  λ h. h.property_in_map refl there,
  λ p. record { fields = λ e h. absurd (omega arith); methods = λ e h. absurd (omega arith); in_type = λ e h. absurd (omega arith); params = λ e h. absurd (omega arith); method_in_type = λ e h. absurd (omega arith); in_method = λ e h. absurd (omega arith); sequence = λ e h. absurd (omega arith); events = λ e h. absurd (omega arith); one_event_map = λ e h. absurd (omega arith); event_in_map = λ e h. absurd (omega arith); properties = λ e h. absurd (omega arith); one_property_map = λ e h. absurd (omega arith); property_in_map = λ e h. p },
)

pub runs_of_none : (image : List ℕ) (table row : ℕ) → (HasRow image table row → ⊥) → HasRuns image table row
runs_of_none image table row none =
    record { fields = λ e h. absurd (none (subst (λ t. HasRow image t row) (sym e) h)); methods = λ e h. absurd (none (subst (λ t. HasRow image t row) (sym e) h)); in_type = λ e h. absurd (none (subst (λ t. HasRow image t row) (sym e) h)); params = λ e h. absurd (none (subst (λ t. HasRow image t row) (sym e) h)); method_in_type = λ e h. absurd (none (subst (λ t. HasRow image t row) (sym e) h)); in_method = λ e h. absurd (none (subst (λ t. HasRow image t row) (sym e) h)); sequence = λ e h. absurd (none (subst (λ t. HasRow image t row) (sym e) h)); events = λ e h. absurd (none (subst (λ t. HasRow image t row) (sym e) h)); one_event_map = λ e h. absurd (none (subst (λ t. HasRow image t row) (sym e) h)); event_in_map = λ e h. absurd (none (subst (λ t. HasRow image t row) (sym e) h)); properties = λ e h. absurd (none (subst (λ t. HasRow image t row) (sym e) h)); one_property_map = λ e h. absurd (none (subst (λ t. HasRow image t row) (sym e) h)); property_in_map = λ e h. absurd (none (subst (λ t. HasRow image t row) (sym e) h)) }

pub runs_of_others : (image : List ℕ) (table row : ℕ) → (table ≡ 0x02 → ⊥) → (table ≡ 0x04 → ⊥) → (table ≡ 0x06 → ⊥) → (table ≡ 0x08 → ⊥) → (table ≡ 0x12 → ⊥) → (table ≡ 0x14 → ⊥) → (table ≡ 0x15 → ⊥) → (table ≡ 0x17 → ⊥) → HasRuns image table row
runs_of_others image table row n2 n4 n6 n8 n18 n20 n21 n23 =
    record { fields = λ e h. absurd (n2 e); methods = λ e h. absurd (n2 e); in_type = λ e h. absurd (n4 e); params = λ e h. absurd (n6 e); method_in_type = λ e h. absurd (n6 e); in_method = λ e h. absurd (n8 e); sequence = λ e h. absurd (n8 e); events = λ e h. absurd (n18 e); one_event_map = λ e h. absurd (n18 e); event_in_map = λ e h. absurd (n20 e); properties = λ e h. absurd (n21 e); one_property_map = λ e h. absurd (n21 e); property_in_map = λ e h. absurd (n23 e) }

-- the members of owners, by the numbers of tables and columns
pub fields_are : (image : List ℕ) (row : ℕ) → fields_of image row ≡ run_of image 0x02 4 0x04 row
unfolding fields_of
fields_are image row = refl

pub methods_are : (image : List ℕ) (row : ℕ) → methods_of image row ≡ run_of image 0x02 5 0x06 row
unfolding methods_of
methods_are image row = refl

pub params_are : (image : List ℕ) (row : ℕ) → params_of image row ≡ run_of image 0x06 5 0x08 row
unfolding params_of
params_are image row = refl

pub lies_same : (image : List ℕ) (owners row : ℕ) (f g : ℕ → List ℕ) → ((owner : ℕ) → f owner ≡ g owner) → LiesIn image owners f row ↔ LiesIn image owners g row
lies_same image owners row f g same = (
  λ l. let (k, there, has) = l in (k, there, subst (λ members. Contains members row) (same k) has),
  λ l. let (k, there, has) = l in (k, there, subst (λ members. Contains members row) (sym (same k)) has),
)

pub both : {A B C : Type 0} → A ↔ B → C ↔ B → A ↔ C
both f g = (λ a. g.1 (f.0 a), λ c. f.1 (g.0 c))

-- beginnings rise where what is asked of runs holds
pub fields_rise : (image : List ℕ) → ((row : ℕ) → HasRow image 0x02 row → HasRuns image 0x02 row) → (row : ℕ) → HasRow image 0x02 row → Rises (run_begin image 0x02 4 0x04) row
fields_rise image h row there = (h row there).fields refl there

pub methods_rise : (image : List ℕ) → ((row : ℕ) → HasRow image 0x02 row → HasRuns image 0x02 row) → (row : ℕ) → HasRow image 0x02 row → Rises (run_begin image 0x02 5 0x06) row
methods_rise image h row there = (h row there).methods refl there

pub params_rise : (image : List ℕ) → ((row : ℕ) → HasRow image 0x06 row → HasRuns image 0x06 row) → (row : ℕ) → HasRow image 0x06 row → Rises (run_begin image 0x06 5 0x08) row
params_rise image h row there = (h row there).params refl there

pub events_rise : (image : List ℕ) → ((row : ℕ) → HasRow image 0x12 row → HasRuns image 0x12 row) → (row : ℕ) → HasRow image 0x12 row → Rises (run_begin image 0x12 1 0x14) row
events_rise image h row there = (h row there).events refl there

pub properties_rise : (image : List ℕ) → ((row : ℕ) → HasRow image 0x15 row → HasRuns image 0x15 row) → (row : ℕ) → HasRow image 0x15 row → Rises (run_begin image 0x15 1 0x17) row
properties_rise image h row there = (h row there).properties refl there

-- what is asked of a member, by the numbers of tables and columns
pub field_lies : (image : List ℕ) (row : ℕ) → HasRow image 0x04 row → HasRuns image 0x04 row ↔ LiesIn image 0x02 (run_of image 0x02 4 0x04) row
field_lies image row there = let r = runs_of_fields image row there in let l = lies_same image 0x02 row (fields_of image) (run_of image 0x02 4 0x04) (fields_are image) in (λ h. l.0 (r.0 h), λ h. r.1 (l.1 h))

pub method_lies : (image : List ℕ) (row : ℕ) → HasRow image 0x06 row → HasRuns image 0x06 row ↔ (Rises (run_begin image 0x06 5 0x08) row × LiesIn image 0x02 (run_of image 0x02 5 0x06) row)
method_lies image row there = let r = runs_of_methods image row there in let l = lies_same image 0x02 row (methods_of image) (run_of image 0x02 5 0x06) (methods_are image) in (λ h. ((r.0 h).0, l.0 (r.0 h).1), λ h. r.1 (h.0, l.1 h.1))

pub param_lies : (image : List ℕ) (row : ℕ) → HasRow image 0x08 row → HasRuns image 0x08 row ↔ (LiesIn image 0x06 (run_of image 0x06 5 0x08) row × RisesInMethod image row)
param_lies image row there = let r = runs_of_params image row there in let l = lies_same image 0x06 row (params_of image) (run_of image 0x06 5 0x08) (params_are image) in (λ h. (l.0 (r.0 h).0, (r.0 h).1), λ h. r.1 (l.1 h.0, h.1))

-- ---- the sequences of a method's params (II.22.33)

module _ (image : List ℕ) (row : ℕ) (there : HasRow image 0x08 row)
    (rise : (method : ℕ) → HasRow image 0x06 method → HasRuns image 0x06 method) where
  in_run : (method : ℕ) (param : ℕ) → Contains (params_of image method) param → Contains (run_of image 0x06 5 0x08 method) param
  in_run method param has = subst (λ members. Contains members param) (params_are image method) has

  -- no method has a param before the first
  pub first_rises : ((method : ℕ) → HasRow image 0x06 method → 0 < run_begin image 0x06 5 0x08 method) → row ≤ 1 → RisesInMethod image row
  first_rises positive one method owner before here =
      let r = range_contains (run_begin image 0x06 5 0x08 method) _ (row - 1) (in_run method (row - 1) before) in
      let p = positive method owner in
      absurd (omega arith)

  -- where a method's params begin at it, none has it and the one before
  pub begun_rises : ((method : ℕ) × HasRow image 0x06 method × (run_begin image 0x06 5 0x08 method ≡ row)) → RisesInMethod image row
  begun_rises begins method owner before here =
      let (first, owns, at) = begins in
      absurd (breaks_off image 0x06 5 0x08 row (params_rise image rise) there first owns at method owner (in_run method (row - 1) before) (in_run method row here))

  -- elsewhere the method of the one before it has it too
  pub met_rises : (((method : ℕ) × HasRow image 0x06 method × (run_begin image 0x06 5 0x08 method ≡ row)) → ⊥) → LiesIn image 0x06 (params_of image) (row - 1)
      → RisesInMethod image row → param_sequence image (row - 1) < param_sequence image row
  met_rises none lies rises =
      let (method, owner, before) = lies in
      let here = goes_on image 0x06 5 0x08 row (params_rise image rise) there (λ j owns at. none (j, owns, at)) method owner (in_run method (row - 1) before) in
      rises method owner before (subst (λ members. Contains members row) (sym (params_are image method)) here)
