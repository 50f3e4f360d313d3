-- The rows of methods, and their bodies.
use Rattle.std.proofs.Common.{◌≡◌, ap, refl, sym, ◌∙◌, subst, ℕ, ◌+◌, ◌-◌, ◌<◌, ◌≤◌, ◌^◌, List, [], ◌∷◌, ◌++◌, length, map, Option, arith}
use Rattle.std.specs.Borrow.{Bor}
use Rattle.std.specs.Prelude.{sum_by}
use Rattle.std.specs.List.{AllByRecursion, AllZip}
use Rattle.std.proofs.lemmas.List.{append-nil, length-map}
use Rattle.assembly_tree.specs.declared.assembly.Assembly.{Assembly}
use Rattle.assembly_tree.specs.declared.body.Body.{Body}
use Rattle.assembly_tree.specs.declared.members.Method.{Method}
use Rattle.assembly_tree.specs.declared.members.Param.{Param}
use Rattle.metadata_tables.specs.Encoding.{rows_of, rows_in}
use Rattle.type_terms.specs.declared.reference.MethodRef.{MethodRef}
use Rattle.image_tokens.specs.References.{size, Grows, AreKnown}
use Rattle.image_tokens.specs.Writable.{IsMethodRefWritable}
use Rattle.image_tokens.specs.declared.references.Declared.{Declared}
use Rattle.image_tokens.specs.declared.references.References.{References}
use Rattle.image_tokens.specs.declared.row_set.Cells.{Cells}
use Rattle.image_tokens.proofs.GrowthLemmas.{grows_refl, grows_trans}
use Rattle.image_members.specs.CodeBytes.{body_of, stated_weight, stated_room, HasBody, AddsBodies, CanPushBodies}
use Rattle.image_rows.specs.FieldRows.{AddsItems}
use Rattle.image_rows.specs.Filled.{HoldsItems, HoldsMethods}
use Rattle.image_members.specs.Lists.{params_in}
use Rattle.image_rows.specs.MethodRows.{PlacedMethod, placed_methods, IsMethodRow, IsMethodAt}
use Rattle.image_rows.specs.OverrideRows.{Override, overrides, overrides_from, override_bytes, IsOverrideRow, CanPushOverride}
use Rattle.image_rows.specs.ParamRows.{all_params, param_bytes, IsParamRow, IsPlainParam}
use Rattle.image_members.specs.Places.{lent, all_methods, params_of}
use Rattle.image_members.specs.Pushing.{Tables, AddsRows, Pushes, CanPush}
use Rattle.image_members.specs.declared.classes.Class.{Class}
use Rattle.image_members.proofs.CodeLemmas.{body_later}
use Rattle.image_rows.proofs.FieldLemmas.{lent_long}
use Rattle.image_rows.proofs.OverrideLemmas.{override_kept}
use Rattle.image_rows.proofs.ParamLemmas.{param_kept}
use Rattle.image_members.proofs.PushLemmas.{all_front, all_back}
use Rattle.image_members.proofs.ZipLemmas.{zip_later, zip_long}
use Rattle.image_tables.specs.Filling.{method_part, IsReady, Fills, Lengthens}
use Rattle.image_tables.specs.Parts.{KeepsOtherParts}
use Rattle.image_tables.proofs.HoldsLemmas.{declared_later, method_row_kept}
use Rattle.image_tables.proofs.OrderLemmas.{methods_declared, params_same}
use Rattle.image_tables.proofs.PartLemmas.{none_at, still_none, adds_part, others_trans, all_rows, held, held_later, can_push}
use Rattle.laws_tree_weights.specs.ImageBytes.{overrides_weight, overrides_count}
use Rattle.laws_tree_weights.specs.Laws.{OverridesAreCounted}

pub method_part_is : (a : Assembly) (classes : List Class) → method_part a classes
    ≡ sum_by stated_weight (map body_of (all_methods a classes)) + sum_by param_bytes (params_in a classes) + overrides_weight (all_methods a classes)
unfolding method_part
method_part_is a classes = refl

-- ---- what is overridden can be written

all_overrides : (r : References) (type body : ℕ) (ms : List MethodRef) → AllByRecursion (IsMethodRefWritable r) ms → AllByRecursion (CanPushOverride r) (overrides type body ms)
all_overrides r type body [] h = tt
all_overrides r type body (m ∷ ms) h = (h.0, all_overrides r type body ms h.1)

all_and_all : {X : Type 0} (P : X → Type 0) (xs ys : List X) → AllByRecursion P xs → AllByRecursion P ys → AllByRecursion P (xs ++ ys)
all_and_all P [] ys h k = k
all_and_all P (x ∷ xs) ys h k = (h.0, all_and_all P xs ys h.1 k)

overrides_can : (r : References) (row : ℕ) (declared : List Cells) (ms : List Method) → AllByRecursion (λ (m : Method). AllByRecursion (IsMethodRefWritable r) m.overrides) ms
    → AllByRecursion (CanPushOverride r) (overrides_from row declared ms)
overrides_can r row declared [] h = tt
overrides_can r row [] (m ∷ ms) h = tt
overrides_can r row (cells ∷ declared) (m ∷ ms) h =
    all_and_all (CanPushOverride r) (overrides cells.first row m.overrides) (overrides_from (row + 1) declared ms) (all_overrides r cells.first row m.overrides h.0)
    (overrides_can r (row + 1) declared ms h.1)

-- ---- the steps

module _ (a : Assembly) (classes : List Class) (xs : List (Bor Method)) (same : lent xs ≡ all_methods a classes) (r0 : References) (t0 : Tables) (code0 : List ℕ)
    (ready : IsReady 1 (method_part a classes) a classes r0 t0) where
  pub bodies_can : length code0 + sum_by stated_room (map body_of (all_methods a classes)) ≤ 2 ^ 26 → CanPushBodies (map body_of (lent xs)) r0 code0
  bodies_can long = subst (λ (ms : List Method). CanPushBodies (map body_of ms) r0 code0) (sym same) (record {
    known = ready.known;
    each = (ready.can r0 (grows_refl r0)).bodies;
    room = (let bytes = method_part_is a classes in let room = ready.room in omega arith);
    long = long;
  })

  module _ (r1 : References) (code1 : List ℕ) (rvas : List ℕ) (bodies : AddsBodies (map body_of (lent xs)) r0 r1 code0 code1 rvas) where
    all_bodies : AddsBodies (map body_of (all_methods a classes)) r0 r1 code0 code1 rvas
    all_bodies = subst (λ (ms : List Method). AddsBodies (map body_of ms) r0 r1 code0 code1 rvas) same bodies

    pub methods_can : AllZip (IsMethodAt r1) r1.declared.methods (lent xs)
    methods_can = subst (λ (ms : List Method). AllZip (IsMethodAt r1) r1.declared.methods ms) (sym same) (methods_declared a classes r1 (declared_later a classes r0 r1 bodies.grows ready.declared))

    pub as_many_bodies : length rvas ≡ length xs
    as_many_bodies = zip_long (HasBody r1 code1) rvas (map body_of (lent xs)) bodies.each ∙ length-map (lent xs) body_of ∙ lent_long xs

    pub few_methods : rows_in t0 0x06 + length xs < 2 ^ 24
    few_methods =
        let none = ap (length {A = List ℕ}) (none_at 1 0x06 1 t0 ready.lacks refl (omega arith)) in
        let few = ready.few.methods in
        let long = sym (lent_long xs) ∙ ap (length {A = Method}) same in
        omega arith

    pub few_runs : sum_by (λ m. length (params_of m)) (lent xs) < 2 ^ 24
    few_runs = subst (λ (ms : List Method). sum_by (λ m. length (params_of m)) ms < 2 ^ 24) (sym same) (let few = ready.few.param_runs in omega arith)

    pub plain_params : AllByRecursion IsPlainParam (all_params a.methods classes)
    plain_params = subst (λ (ps : List Param). AllByRecursion IsPlainParam ps) (params_same a classes) (ready.can r0 (grows_refl r0)).params

    pub params_room : size r1 + sum_by param_bytes (all_params a.methods classes) ≤ 2 ^ 26
    params_room =
        subst (λ (ps : List Param). size r1 + sum_by param_bytes ps ≤ 2 ^ 26) (params_same a classes)
        (let bytes = method_part_is a classes in let room = ready.room in let first = all_bodies.room in omega arith)

    module _ (params : ℕ) (params_are : params ≡ length (params_in a classes)) (t1 : Tables) (rows : AddsItems 0x06 (IsMethodRow params r1) (placed_methods 1 rvas (lent xs)) t0 t1) where
      no_params : rows_of t1 0x08 ≡ []
      no_params = still_none 0x06 0x08 rows.rows t0 t1 rows.adds (λ e. absurd (omega arith)) (none_at 1 0x08 1 t0 ready.lacks refl (omega arith))

      pub few_params : rows_in t1 0x08 + length (all_params a.methods classes) < 2 ^ 24
      few_params =
          subst (λ (ps : List Param). rows_in t1 0x08 + length ps < 2 ^ 24) (params_same a classes)
          (let none = ap (length {A = List ℕ}) no_params in let few = ready.few.params in omega arith)

      module _ (r2 : References) (t2 : Tables) (pushed : Pushes 0x08 IsParamRow param_bytes (all_params a.methods classes) r1 r2 t1 t2) where
        then_params : Pushes 0x08 IsParamRow param_bytes (params_in a classes) r1 r2 t1 t2
        then_params = subst (λ (ps : List Param). Pushes 0x08 IsParamRow param_bytes ps r1 r2 t1 t2) (sym (params_same a classes)) pushed

        both : Grows r0 r2
        both = grows_trans r0 r1 r2 bodies.grows pushed.grows

        pub declared_long : length r2.declared.methods ≡ length xs
        declared_long =
            zip_long (IsMethodAt r2) r2.declared.methods (all_methods a classes) (methods_declared a classes r2 (declared_later a classes r0 r2 both ready.declared))
            ∙ sym (ap (length {A = Method}) same) ∙ lent_long xs

        pub methods_few : length xs < 2 ^ 24
        methods_few = let few = ready.few.methods in let long = sym (lent_long xs) ∙ ap (length {A = Method}) same in omega arith

        no_overrides : rows_of t2 0x19 ≡ []
        no_overrides =
            still_none 0x08 0x19 pushed.rows t1 t2 pushed.adds (λ e. absurd (omega arith))
            (still_none 0x06 0x19 rows.rows t0 t1 rows.adds (λ e. absurd (omega arith)) (none_at 1 0x19 1 t0 ready.lacks refl (omega arith)))

        pub overrides_pushable : OverridesAreCounted → CanPush 0x19 CanPushOverride override_bytes (overrides_from 1 r2.declared.methods (lent xs)) r2 t2
        overrides_pushable law =
            let counted = law 1 r2.declared.methods (all_methods a classes) in
            let weight = counted.0 in
            let count = counted.1 in
            subst (λ (ms : List Method). CanPush 0x19 CanPushOverride override_bytes (overrides_from 1 r2.declared.methods ms) r2 t2) (sym same)
            (can_push 0x19 CanPushOverride override_bytes (overrides_from 1 r2.declared.methods (all_methods a classes)) r2 t2 pushed.known
            (overrides_can r2 1 r2.declared.methods (all_methods a classes) (ready.can r2 both).overrides) no_overrides
            (let few = ready.few.overrides in omega arith)
            (let bytes = method_part_is a classes in let room = ready.room in let first = all_bodies.room in let second = then_params.room in omega arith))

        pub methods_filled : (r3 : References) (t3 : Tables) → OverridesAreCounted → Pushes 0x19 IsOverrideRow override_bytes (overrides_from 1 r2.declared.methods (lent xs)) r2 r3 t2 t3
            → Fills 1 (method_part a classes) (λ r t. HoldsMethods a classes r t code1) r0 r3 t0 t3
        methods_filled r3 t3 law raw =
            let done : Pushes 0x19 IsOverrideRow override_bytes (overrides_from 1 r2.declared.methods (all_methods a classes)) r2 r3 t2 t3 =
            subst (λ (ms : List Method). Pushes 0x19 IsOverrideRow override_bytes (overrides_from 1 r2.declared.methods ms) r2 r3 t2 t3) same raw in
            let weight = (law 1 r2.declared.methods (all_methods a classes)).0 in
            let later = grows_trans r1 r2 r3 pushed.grows done.grows in
            let count = length (params_in a classes) in
            let adds : AddsItems 0x06 (IsMethodRow count r1) (placed_methods 1 rvas (all_methods a classes)) t0 t1 =
            subst (λ (n : ℕ). AddsItems 0x06 (IsMethodRow n r1) (placed_methods 1 rvas (all_methods a classes)) t0 t1) params_are
            (subst (λ (ms : List Method). AddsItems 0x06 (IsMethodRow params r1) (placed_methods 1 rvas ms) t0 t1) same rows) in
            let method_rows : rows_of t3 0x06 ≡ adds.rows =
            done.adds.others 0x06 (λ e. absurd (omega arith)) ∙ pushed.adds.others 0x06 (λ e. absurd (omega arith))
            ∙ all_rows 0x06 adds.rows t0 t1 (none_at 1 0x06 1 t0 ready.lacks refl (omega arith)) adds.adds in
            record {
              grows = grows_trans r0 r1 r3 bodies.grows later;
              known = done.known;
              room = (let bytes = method_part_is a classes in let first = all_bodies.room in let second = then_params.room in let third = done.room in omega arith);
              holds = record {
                rvas = rvas;
                bodies = zip_later (HasBody r1 code1) (HasBody r3 code1) rvas (map body_of (all_methods a classes))
                    (λ rva x k. subst (λ (code : List ℕ). HasBody r3 code rva x) (append-nil code1) (body_later r1 r3 code1 [] later rva x k)) all_bodies.each;
                methods = subst (λ (rs : List (List ℕ)). AllZip (IsMethodRow count r3) rs (placed_methods 1 rvas (all_methods a classes))) (sym method_rows)
                    (zip_later (IsMethodRow count r1) (IsMethodRow count r3) adds.rows (placed_methods 1 rvas (all_methods a classes))
                    (λ cells p k. method_row_kept count r1 r3 later cells p k) adds.each);
                params = held_later 0x08 IsParamRow param_kept (params_in a classes) r2 r3 t2 t3 done.grows (done.adds.others 0x08 (λ e. absurd (omega arith)))
                    (held 0x08 IsParamRow param_kept param_bytes (params_in a classes) r1 r2 t1 t2 no_params then_params);
                overrides = subst (λ (ds : Declared). HoldsItems 0x19 IsOverrideRow (overrides_from 1 ds.methods (all_methods a classes)) r3 t3) (sym done.grows.declared)
                    (held 0x19 IsOverrideRow override_kept override_bytes (overrides_from 1 r2.declared.methods (all_methods a classes)) r2 r3 t2 t3 no_overrides done);
              };
              others = others_trans 1 t0 t1 t3 (adds_part 1 0x06 rows.rows t0 t1 refl rows.adds)
                  (others_trans 1 t1 t2 t3 (adds_part 1 0x08 pushed.rows t1 t2 refl pushed.adds) (adds_part 1 0x19 done.rows t2 t3 refl done.adds));
            }

    pub code_lengthened : Lengthens (sum_by stated_room (map body_of (all_methods a classes))) code0 code1
    code_lengthened = record { more = bodies.more; is = bodies.is; long = all_bodies.long }
