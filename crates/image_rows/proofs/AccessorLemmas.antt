-- The rows of MethodSemantics, one for each accessor.
use Rattle.std.proofs.Common.{◌≡◌, ap, refl, sym, ◌∙◌, subst, ℕ, suc, zero, ◌+◌, ◌-◌, ◌<◌, ◌≤◌, ◌^◌, List, [], ◌∷◌, ◌++◌, map, length, Option, Some, None, arith}
use Rattle.std.specs.Prelude.{slice_get}
use Rattle.std.specs.List.{AllByRecursion}
use Rattle.std.specs.Option.{option_map}
use Rattle.std.proofs.lemmas.List.{length-append, length-map, map-append}
use Rattle.metadata_tables.specs.Encoding.{rows_of, rows_in, AddsRow, IsRowOf}
use Rattle.metadata_tables.specs.Laws.{RowOfColumns}
use Rattle.metadata_tables.specs.Schema.{schema}
use Rattle.metadata_tables.specs.declared.coded.Coded.TheVariants.{HasSemantics}
use Rattle.assembly_tree.specs.declared.members.Accessor.{Accessor}
use Rattle.image_members.specs.ByNumber.{or_none, owned_in}
use Rattle.image_tokens.specs.Indexes.{index_of}
use Rattle.image_members.specs.Pushing.{Tables, AddsRows}
use Rattle.image_rows.specs.SemanticsRows.{accessors_with, methods_of, accessors_in, semantics_row, CanAddAccessors}
use Rattle.image_rows.specs.declared.semantics_rows.Access.{Access}
use Rattle.image_rows.specs.declared.semantics_rows.Accessing.{Accessing}
use Rattle.image_members.proofs.PushLemmas.{rows_none, rows_one, rows_both, all_front, all_back}

pub semantics_cells : RowOfColumns → (kind method association : ℕ) → kind < 2 ^ 16 → IsRowOf 0x18 (kind ∷ method ∷ association ∷ [])
unfolding schema
semantics_cells law kind method association k = law 0x18 (kind ∷ method ∷ association ∷ []) (omega arith) (k, (tt, (tt, tt)))

abbrev Items : Type 0
Items = List (ℕ × (ℕ × ℕ))

abbrev Adds : Items → Tables → Tables → Type 0
Adds items from to = AddsRows 0x18 (map semantics_row items) from to

-- ---- the items before `rest` have their rows

pub record Adding (from to : Tables) (xs rest : List (ℕ × (ℕ × ℕ))) : Type 0 where
  pub on : (end : Tables) → AddsRows 0x18 (map semantics_row rest) to end → AddsRows 0x18 (map semantics_row xs) from end
  pub can : CanAddAccessors rest to

pub begin : (from : Tables) (xs : Items) → CanAddAccessors xs from → Adding from from xs xs
begin from xs can = record { on = λ end h. h; can = can }

pub front : (from to : Tables) (xs rest step more : Items) → rest ≡ step ++ more → Adding from to xs rest → CanAddAccessors step to
front from to xs rest step more e d = record {
  methods = all_front (λ (a : ℕ × (ℕ × ℕ)). a.1.1 < 2 ^ 24) step more (subst (λ ys. AllByRecursion (λ (a : ℕ × (ℕ × ℕ)). a.1.1 < 2 ^ 24) ys) e d.can.methods);
  few = (let few = d.can.few in let long = ap (length {A = ℕ × (ℕ × ℕ)}) e ∙ length-append step more in omega arith);
}

pub go_on : (from via to : Tables) (xs rest step more : Items) → rest ≡ step ++ more → Adding from via xs rest → AddsRows 0x18 (map semantics_row step) via to → Adding from to xs more
go_on from via to xs rest step more e d one =
    let long = ap (length {A = ℕ × (ℕ × ℕ)}) e ∙ length-append step more in
    let added = ap (length {A = List ℕ}) one.added ∙ length-append (rows_of via 0x18) (map semantics_row step) in
    let same = length-map step semantics_row in
    record {
      on = λ end h. d.on end (subst (λ rows. AddsRows 0x18 rows via end) (sym (ap (map semantics_row) e ∙ map-append semantics_row step more))
          (rows_both 0x18 (map semantics_row step) (map semantics_row more) via to end one h));
      can = record {
        methods = all_back (λ (a : ℕ × (ℕ × ℕ)). a.1.1 < 2 ^ 24) step more (subst (λ ys. AllByRecursion (λ (a : ℕ × (ℕ × ℕ)). a.1.1 < 2 ^ 24) ys) e d.can.methods);
        few = (let few = d.can.few in omega arith);
      };
    }

pub end : (from to : Tables) (xs rest : Items) → rest ≡ [] → Adding from to xs rest → AddsRows 0x18 (map semantics_row xs) from to
end from to xs rest e d = d.on to (subst (λ ys. AddsRows 0x18 (map semantics_row ys) to to) (sym e) (rows_none 0x18 to))

-- ---- one

pub accessor_added : (from to : Tables) (association first : ℕ) (a : Accessor) → AddsRow from to 0x18 (a.kind ∷ (first + a.method) ∷ association ∷ [])
    → AddsRows 0x18 (map semantics_row (accessors_with association first (a ∷ []))) from to
accessor_added from to association first a h = rows_one 0x18 (a.kind ∷ (first + a.method) ∷ association ∷ []) from to h

-- ---- a row of a table

methods_at : (of : List Access) (k : ℕ) → slice_get (map methods_of of) k ≡ option_map methods_of (slice_get of k)
methods_at [] k = refl
methods_at (x ∷ of) zero = refl
methods_at (x ∷ of) (suc k) = methods_at of k

same_pairs : (association first : ℕ) (xs : List Accessor) → map (λ (x : ℕ × ℕ). (association, x)) (map (λ (x : Accessor). (x.kind, first + x.method)) xs) ≡ accessors_with association first xs
same_pairs association first [] = refl
same_pairs association first (x ∷ xs) = ap (λ ys. (association, (x.kind, first + x.method)) ∷ ys) (same_pairs association first xs)

pub no_access : (k : ℕ) (t : Accessing) → None ≡ slice_get t.of k → accessors_in k t ≡ []
no_access k t e =
    ap (λ (o : Option (List (ℕ × ℕ))). map (λ (x : ℕ × ℕ). (index_of HasSemantics t.table (k + 1), x)) (or_none o)) (methods_at t.of k ∙ ap (option_map methods_of) (sym e))

pub an_access : (k : ℕ) (t : Accessing) (a : Access) → Some a ≡ slice_get t.of k → accessors_in k t ≡ accessors_with (index_of HasSemantics t.table (k + 1)) a.first a.of.now
an_access k t a e =
    ap (λ (o : Option (List (ℕ × ℕ))). map (λ (x : ℕ × ℕ). (index_of HasSemantics t.table (k + 1), x)) (or_none o)) (methods_at t.of k ∙ ap (option_map methods_of) (sym e))
    ∙ same_pairs (index_of HasSemantics t.table (k + 1)) a.first a.of.now
