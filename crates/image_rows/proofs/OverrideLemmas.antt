-- The rows of MethodImpl.
use Rattle.std.proofs.Common.{◌≡◌, ap, refl, sym, ◌∙◌, subst, ℕ, ◌+◌, ◌<◌, ◌≤◌, ◌^◌, List, [], ◌∷◌, ◌++◌, map, drop, length, Some, arith}
use Rattle.std.specs.Borrow.{Bor}
use Rattle.std.specs.Prelude.{slice_get}
use Rattle.assembly_tree.specs.Weight.{method_ref_weight}
use Rattle.assembly_tree.specs.declared.members.Method.{Method}
use Rattle.metadata_tables.specs.Encoding.{AddsRow, IsRowOf}
use Rattle.metadata_tables.specs.Laws.{RowOfColumns}
use Rattle.metadata_tables.specs.Schema.{schema}
use Rattle.metadata_tables.specs.declared.coded.Coded.TheVariants.{MethodDefOrRef}
use Rattle.type_terms.specs.declared.reference.MethodRef.{MethodRef}
use Rattle.image_tokens.specs.Indexes.{index_of, index_of_token}
use Rattle.image_tokens.specs.KnownTokens.{methods_apart}
use Rattle.image_tokens.specs.Members.{Leaves, HasMethod}
use Rattle.image_rows.specs.OverrideRows.{Override, overrides, overrides_from, override_bytes, IsOverrideRow, CanPushOverride}
use Rattle.image_members.specs.Places.{lent}
use Rattle.image_members.specs.Pushing.{Tables, Pushes, CanPush}
use Rattle.image_tokens.specs.References.{Grows}
use Rattle.image_tokens.specs.declared.references.Declared.{Declared}
use Rattle.image_tokens.specs.declared.references.References.{References}
use Rattle.image_tokens.specs.declared.row_set.Cells.{Cells}
use Rattle.image_tokens.proofs.BodyLemmas.{method_can}
use Rattle.image_rows.proofs.FieldLemmas.{drop_at}
use Rattle.image_tokens.proofs.GrowthLemmas.{token_kept}
use Rattle.image_members.proofs.KindLemmas.{RowKind, Pushing, begin, front, go_on, end, one_pushed}

pub override_cells : RowOfColumns → (type body of : ℕ) → IsRowOf 0x19 (type ∷ body ∷ of ∷ [])
unfolding schema
override_cells law type body of = law 0x19 (type ∷ body ∷ of ∷ []) (omega arith) (tt, (tt, (tt, tt)))

pub override_kept : (a b : References) → Grows a b → (cells : List ℕ) (o : Override) → IsOverrideRow a cells o → IsOverrideRow b cells o
override_kept a b g cells o h = record { token = h.token; are = h.are; token_is = token_kept methods_apart a.known.methods b.known.methods o.of h.token g.known_methods h.token_is }

pub override_still : (a b : References) → Grows a b → (o : Override) → CanPushOverride a o → CanPushOverride b o
override_still a b g o h = method_can a b g o.of h

abbrev pub override_kind : RowKind Override
override_kind = record { table = 0x19; is = IsOverrideRow; weigh = override_bytes; can = CanPushOverride; kept = override_kept; still = override_still }

pub override_pushed : (a b : References) (from to : Tables) (type body : ℕ) (m : MethodRef) (token : ℕ) → Leaves (HasMethod m) a b (method_ref_weight m) token
    → AddsRow from to 0x19 (type ∷ index_of MethodDefOrRef 0x06 body ∷ index_of_token MethodDefOrRef token ∷ []) → Pushes 0x19 IsOverrideRow override_bytes (overrides type body (m ∷ [])) a b from to
override_pushed a b from to type body m token t row =
    one_pushed override_kind a b from to (type ∷ index_of MethodDefOrRef 0x06 body ∷ index_of_token MethodDefOrRef token ∷ []) (record { type = type; body = body; of = m }) t.grows t.known t.room row
    (record { token = token; are = refl; token_is = t.is })

-- ---- method by method

-- the methods before `rest` have their rows, and the declared rows of the others follow from this place on
pub record OverridesTo (a b : References) (from to : Tables) (place : ℕ) (xs rest : List (Bor Method)) : Type 0 where
  pub pushing : Pushing override_kind a b from to (overrides_from 1 a.declared.methods (lent xs)) (overrides_from (place + 1) (drop place a.declared.methods) (lent rest))
  pub same : b.declared ≡ a.declared
  pub within : place + length rest ≡ length a.declared.methods
  pub bound : length a.declared.methods < 2 ^ 24

pub overrides_begin : (a : References) (from : Tables) (xs : List (Bor Method)) → length a.declared.methods ≡ length xs → length xs < 2 ^ 24
    → CanPush 0x19 CanPushOverride override_bytes (overrides_from 1 a.declared.methods (lent xs)) a from → OverridesTo a a from from 0 xs xs
overrides_begin a from xs long few can = record {
  pushing = begin override_kind a from (overrides_from 1 a.declared.methods (lent xs)) can;
  same = refl;
  within = omega arith;
  bound = omega arith;
}

module _ (a b : References) (from to : Tables) (place : ℕ) (xs rest more : List (Bor Method)) (x : Bor Method) (e : rest ≡ x ∷ more) (d : OverridesTo a b from to place xs rest) where
  pub place_within : place < length b.declared.methods
  place_within = let within = d.within in let same = ap (λ (s : Declared). length s.methods) d.same in let long = ap (length {A = Bor Method}) e in omega arith

  pub place_few : place + 1 < 2 ^ 24
  place_few = let within = d.within in let bound = d.bound in let long = ap (length {A = Bor Method}) e in omega arith

  module _ (cells : Cells) (at : slice_get b.declared.methods place ≡ Some cells) (lent_overrides : List MethodRef) (same : lent_overrides ≡ x.now.overrides) where
    abbrev step : List Override
    step = overrides cells.first (place + 1) lent_overrides

    abbrev later : List Override
    later = overrides_from (place + 1 + 1) (drop (place + 1) a.declared.methods) (lent more)

    items : overrides_from (place + 1) (drop place a.declared.methods) (lent rest) ≡ overrides cells.first (place + 1) lent_overrides ++ overrides_from (place + 1 + 1) (drop (place + 1) a.declared.methods) (lent more)
    items =
        let here : drop place a.declared.methods ≡ cells ∷ drop (place + 1) a.declared.methods =
        drop_at a.declared.methods place cells (sym (ap (λ (s : Declared). slice_get s.methods place) d.same) ∙ at) in
        ap (λ (ms : List (Bor Method)). overrides_from (place + 1) (drop place a.declared.methods) (lent ms)) e ∙ ap (λ cs. overrides_from (place + 1) cs (x.now ∷ lent more)) here
        ∙ ap (λ ms. overrides cells.first (place + 1) ms ++ overrides_from (place + 1 + 1) (drop (place + 1) a.declared.methods) (lent more)) (sym same)

    pub overrides_can : CanPush 0x19 CanPushOverride override_bytes (overrides cells.first (place + 1) lent_overrides) b to
    overrides_can = front override_kind a b from to (overrides_from 1 a.declared.methods (lent xs)) (overrides_from (place + 1) (drop place a.declared.methods) (lent rest)) step later items d.pushing

    pub overrides_on : (c : References) (next : Tables) → Pushes 0x19 IsOverrideRow override_bytes (overrides cells.first (place + 1) lent_overrides) b c to next
        → OverridesTo a c from next (place + 1) xs more
    overrides_on c next h = record {
      pushing = go_on override_kind a b c from to next (overrides_from 1 a.declared.methods (lent xs)) (overrides_from (place + 1) (drop place a.declared.methods) (lent rest)) step later items d.pushing h;
      same = h.grows.declared ∙ d.same;
      within = (let within = d.within in let long = ap (length {A = Bor Method}) e in omega arith);
      bound = d.bound;
    }

pub overrides_end : (a b : References) (from to : Tables) (place : ℕ) (xs rest : List (Bor Method)) → rest ≡ [] → OverridesTo a b from to place xs rest
    → Pushes 0x19 IsOverrideRow override_bytes (overrides_from 1 a.declared.methods (lent xs)) a b from to
overrides_end a b from to place xs rest e d =
    end override_kind a b from to (overrides_from 1 a.declared.methods (lent xs)) (overrides_from (place + 1) (drop place a.declared.methods) (lent rest))
    (ap (λ (ms : List (Bor Method)). overrides_from (place + 1) (drop place a.declared.methods) (lent ms)) e) d.pushing
