-- The rows of references as they come into their tables.
use Rattle.std.proofs.Common.{◌≡◌, ℕ, zero, suc, ◌+◌, ◌-◌, ◌^◌, ◌<◌, ◌≤◌, List, [], ◌∷◌, ◌++◌, Some, length, map, take, sym, ◌∙◌, ap, refl, subst, arith}
use Rattle.std.specs.Prelude.{slice_get}
use Rattle.std.proofs.lemmas.List.{append-nil, append_assoc, length-map, length-take, map-append, take_more}
use Rattle.std.proofs.lemmas.Option.{slice_get_within, get_or_from_slice_get}
use Rattle.metadata_tables.specs.Encoding.{rows_of, rows_in, AddsRow, IsRowOf}
use Rattle.metadata_tables.specs.Laws.{RowOfColumns}
use Rattle.metadata_tables.specs.Schema.{schema}
use Rattle.image_layout.specs.Referred.{first_cells, LacksReferences, KeepsOthers}
use Rattle.image_tokens.specs.declared.references.References.{References}
use Rattle.image_tokens.specs.declared.row_set.Cells.{Cells}
use Rattle.image_rows.specs.Filled.{HoldsReferences}
use Rattle.image_members.specs.Pushing.{Tables, AddsRows}

-- ---- one table

take_whole : {X : Type 0} (k : ℕ) (xs : List X) → length xs ≤ k → take k xs ≡ xs
take_whole zero [] h = refl
take_whole zero (x ∷ xs) h = absurd (omega arith)
take_whole (suc k) [] h = refl
take_whole (suc k) (x ∷ xs) h = ap (λ ys. x ∷ ys) (take_whole k xs (omega arith))

module _ (table columns : ℕ) (set : List Cells) where
  abbrev pub Front : ℕ → Tables → Tables → Type 0
  Front k from to = AddsRows table (map (first_cells columns) (take k set)) from to

  pub set_begin : (from : Tables) → Front 0 from from
  set_begin from = record { added = sym (append-nil (rows_of from table)); others = λ other n. refl }

  pub set_more : (k : ℕ) (x : Cells) (cells : List ℕ) (from via to : Tables) → slice_get set k ≡ Some x → cells ≡ first_cells columns x → Front k from via
      → AddsRow via to table cells → Front (k + 1) from to
  set_more k x cells from via to at is p q =
      let more : take (k + 1) set ≡ take k set ++ x ∷ [] =
      take_more set k x (slice_get_within set k x at) ∙ ap (λ y. take k set ++ y ∷ []) (get_or_from_slice_get set k x x at) in
      let rows : map (first_cells columns) (take (k + 1) set) ≡ map (first_cells columns) (take k set) ++ cells ∷ [] =
      ap (map (first_cells columns)) more ∙ map-append (first_cells columns) (take k set) (x ∷ []) ∙ ap (λ row. map (first_cells columns) (take k set) ++ row ∷ []) (sym is) in
      record {
        added = q.added ∙ ap (λ before. before ++ cells ∷ []) p.added ∙ append_assoc (rows_of from table) (map (first_cells columns) (take k set)) (cells ∷ [])
            ∙ ap (λ after. rows_of from table ++ after) (sym rows);
        others = λ other n. q.others other n ∙ p.others other n;
      }

  pub set_room : (k : ℕ) (from via : Tables) → rows_of from table ≡ [] → k < length set → length set < 2 ^ 24 → Front k from via → rows_in via table < 2 ^ 24 - 1
  set_room k from via empty inside few p =
      let long : rows_in via table ≡ length (take k set) = ap length (p.added ∙ ap (λ rows. rows ++ map (first_cells columns) (take k set)) empty)
      ∙ length-map (take k set) (first_cells columns) in
      let front = length-take k set in
      omega arith

  pub set_end : (k : ℕ) (from to : Tables) → length set ≤ k → Front k from to → AddsRows table (map (first_cells columns) set) from to
  set_end k from to all p = subst (λ xs. AddsRows table (map (first_cells columns) xs) from to) (take_whole k set all) p

-- ---- the cells of a row

module _ (columns : RowOfColumns) where
  pub name_cells : (c : Cells) → IsRowOf 0x01 (first_cells 3 c)
  unfolding schema
  name_cells c = columns 0x01 (first_cells 3 c) (omega arith) (tt, (tt, (tt, tt)))

  pub member_cells : (c : Cells) → IsRowOf 0x0A (first_cells 3 c)
  unfolding schema
  member_cells c = columns 0x0A (first_cells 3 c) (omega arith) (tt, (tt, (tt, tt)))

  pub local_cells : (c : Cells) → IsRowOf 0x11 (first_cells 1 c)
  unfolding schema
  local_cells c = columns 0x11 (first_cells 1 c) (omega arith) (tt, tt)

  pub spec_cells : (c : Cells) → IsRowOf 0x1B (first_cells 1 c)
  unfolding schema
  spec_cells c = columns 0x1B (first_cells 1 c) (omega arith) (tt, tt)

  pub instance_cells : (c : Cells) → IsRowOf 0x2B (first_cells 2 c)
  unfolding schema
  instance_cells c = columns 0x2B (first_cells 2 c) (omega arith) (tt, (tt, tt))

-- ---- the five tables

abbrev pub Adds : ℕ → ℕ → List Cells → Tables → Tables → Type 0
Adds table columns set from to = AddsRows table (map (first_cells columns) set) from to

module _ (r : References) (t0 t1 t2 t3 t4 t5 : Tables) (none : LacksReferences t0) (p1 : Adds 0x01 3 r.referred.names t0 t1) where
  pub no_members : rows_of t1 0x0A ≡ []
  no_members = p1.others 0x0A (λ q. absurd (omega arith)) ∙ none.members

  module _ (p2 : Adds 0x0A 3 r.referred.members t1 t2) where
    pub no_locals : rows_of t2 0x11 ≡ []
    no_locals = p2.others 0x11 (λ q. absurd (omega arith)) ∙ p1.others 0x11 (λ q. absurd (omega arith)) ∙ none.locals

    module _ (p3 : Adds 0x11 1 r.referred.locals t2 t3) where
      pub no_specs : rows_of t3 0x1B ≡ []
      no_specs = p3.others 0x1B (λ q. absurd (omega arith)) ∙ p2.others 0x1B (λ q. absurd (omega arith)) ∙ p1.others 0x1B (λ q. absurd (omega arith)) ∙ none.specs

      module _ (p4 : Adds 0x1B 1 r.referred.specs t3 t4) where
        pub no_instances : rows_of t4 0x2B ≡ []
        no_instances = p4.others 0x2B (λ q. absurd (omega arith)) ∙ p3.others 0x2B (λ q. absurd (omega arith)) ∙ p2.others 0x2B (λ q. absurd (omega arith))
            ∙ p1.others 0x2B (λ q. absurd (omega arith)) ∙ none.instances

        module _ (p5 : Adds 0x2B 2 r.referred.instances t4 t5) where
          pub holds_references : HoldsReferences r t5
          holds_references = record {
            names = p5.others 0x01 (λ q. absurd (omega arith)) ∙ p4.others 0x01 (λ q. absurd (omega arith)) ∙ p3.others 0x01 (λ q. absurd (omega arith))
                ∙ p2.others 0x01 (λ q. absurd (omega arith)) ∙ p1.added ∙ ap (λ rows. rows ++ map (first_cells 3) r.referred.names) none.names;
            members = p5.others 0x0A (λ q. absurd (omega arith)) ∙ p4.others 0x0A (λ q. absurd (omega arith)) ∙ p3.others 0x0A (λ q. absurd (omega arith))
                ∙ p2.added ∙ ap (λ rows. rows ++ map (first_cells 3) r.referred.members) no_members;
            locals = p5.others 0x11 (λ q. absurd (omega arith)) ∙ p4.others 0x11 (λ q. absurd (omega arith)) ∙ p3.added
                ∙ ap (λ rows. rows ++ map (first_cells 1) r.referred.locals) no_locals;
            specs = p5.others 0x1B (λ q. absurd (omega arith)) ∙ p4.added ∙ ap (λ rows. rows ++ map (first_cells 1) r.referred.specs) no_specs;
            instances = p5.added ∙ ap (λ rows. rows ++ map (first_cells 2) r.referred.instances) no_instances;
          }

          pub keeps_others : KeepsOthers t0 t5
          keeps_others table n1 n2 n3 n4 n5 = p5.others table n5 ∙ p4.others table n4 ∙ p3.others table n3 ∙ p2.others table n2 ∙ p1.others table n1
