-- The rows of GenericParam.
use Rattle.std.proofs.Common.{◌≡◌, ap, refl, sym, ◌∙◌, subst, ℕ, zero, suc, ◌+◌, ◌<◌, ◌≤◌, ◌^◌, List, [], ◌∷◌, ◌++◌, map, length, Option, Some, None, arith}
use Rattle.std.specs.Borrow.{Bor}
use Rattle.std.specs.Prelude.{slice_get}
use Rattle.std.specs.List.{enumerate_from}
use Rattle.std.specs.Option.{option_map}
use Rattle.metadata_tables.specs.Encoding.{AddsRow, IsRowOf, rows_in}
use Rattle.metadata_tables.specs.Laws.{RowOfColumns}
use Rattle.metadata_tables.specs.Schema.{schema}
use Rattle.metadata_tables.specs.declared.coded.Coded.TheVariants.{TypeOrMethodDef}
use Rattle.assembly_tree.specs.declared.members.Generic.{Generic}
use Rattle.image_members.specs.ByNumber.{or_none}
use Rattle.image_members.specs.GenericRows.{generic_of, generics_in, generics_with, generic_bytes, IsGenericRow, CanPushGeneric}
use Rattle.image_tokens.specs.Indexes.{index_of}
use Rattle.image_tokens.specs.Members.{Leaves, IsTextAt}
use Rattle.image_members.specs.Places.{lent}
use Rattle.image_members.specs.Pushing.{Tables, Pushes, CanPush}
use Rattle.image_tokens.specs.References.{Grows, size}
use Rattle.image_members.specs.declared.generic_rows.Parametric.{Parametric}
use Rattle.image_tokens.specs.declared.references.References.{References}
use Rattle.image_members.proofs.KindLemmas.{RowKind, Pushing, begin, front, go_on, end, one_pushed}
use Rattle.image_tokens.proofs.PathLemmas.{text_kept}

pub generic_cells : RowOfColumns → (number flags owner name : ℕ) → number < 2 ^ 16 → flags < 2 ^ 16 → IsRowOf 0x2A (number ∷ flags ∷ owner ∷ name ∷ [])
unfolding schema
generic_cells law number flags owner name n f = law 0x2A (number ∷ flags ∷ owner ∷ name ∷ []) (omega arith) (n, (f, (tt, (tt, tt))))

pub generic_kept : (a b : References) → Grows a b → (cells : List ℕ) (g : ℕ × (ℕ × Generic)) → IsGenericRow a cells g → IsGenericRow b cells g
generic_kept a b s cells g h = record { name = h.name; are = h.are; name_is = text_kept a.heaps.strings b.heaps.strings g.1.1.name h.name s.strings h.name_is }

pub generic_still : (a b : References) → Grows a b → (g : ℕ × (ℕ × Generic)) → CanPushGeneric a g → CanPushGeneric b g
generic_still a b s g h = record { name = h.name; number = h.number }

abbrev pub generic_kind : RowKind (ℕ × (ℕ × Generic))
generic_kind = record { table = 0x2A; is = IsGenericRow; weigh = generic_bytes; can = CanPushGeneric; kept = generic_kept; still = generic_still }

pub generic_bytes_are : (owner number : ℕ) (g : Generic) → generic_bytes (owner, (number, g)) ≡ length g.name + 1
unfolding generic_bytes
generic_bytes_are owner number g = refl

pub generic_pushed : (a b : References) (from to : Tables) (owner number : ℕ) (g : Generic) (name : ℕ) → Leaves (IsTextAt g.name) a b (length g.name + 1) name
    → AddsRow from to 0x2A (number ∷ g.flags ∷ owner ∷ name ∷ []) → Pushes 0x2A IsGenericRow generic_bytes (generics_with owner number (g ∷ [])) a b from to
generic_pushed a b from to owner number g name t row =
    let bytes = generic_bytes_are owner number g in
    let first = t.room in
    one_pushed generic_kind a b from to (number ∷ g.flags ∷ owner ∷ name ∷ []) (owner, (number, g)) t.grows t.known (omega arith) row (record { name = name; are = refl; name_is = t.is })

-- ---- a row of a table

counted_at : (of : List (Bor (List Generic))) (k : ℕ) → slice_get (map (λ (gs : List Generic). enumerate_from 0 gs) (lent of)) k ≡ option_map (λ (x : Bor (List Generic)). enumerate_from 0 x.now) (slice_get of k)
counted_at [] k = refl
counted_at (x ∷ of) zero = refl
counted_at (x ∷ of) (suc k) = counted_at of k

pub no_generics : (k : ℕ) (t : Parametric) → None ≡ slice_get t.of k → generics_in k t ≡ []
no_generics k t e =
    ap (λ (o : Option (List (ℕ × Generic))). map (λ (x : ℕ × Generic). (index_of TypeOrMethodDef t.table (k + 1), x)) (or_none o))
    (counted_at t.of k ∙ ap (option_map (λ (x : Bor (List Generic)). enumerate_from 0 x.now)) (sym e))

pub some_generics : (k : ℕ) (t : Parametric) (gs : Bor (List Generic)) → Some gs ≡ slice_get t.of k → generics_in k t ≡ generics_with (index_of TypeOrMethodDef t.table (k + 1)) 0 gs.now
some_generics k t gs e =
    ap (λ (o : Option (List (ℕ × Generic))). map (λ (x : ℕ × Generic). (index_of TypeOrMethodDef t.table (k + 1), x)) (or_none o))
    (counted_at t.of k ∙ ap (option_map (λ (x : Bor (List Generic)). enumerate_from 0 x.now)) (sym e))

pub same_generics : (owner number : ℕ) (xs : List Generic) → map generic_of (generics_with owner number xs) ≡ xs
same_generics owner number [] = refl
same_generics owner number (x ∷ xs) = ap (λ ys. x ∷ ys) (same_generics owner (number + 1) xs)

-- ---- those of one owner, by their numbers

many : (owner number : ℕ) (xs : List Generic) → length (generics_with owner number xs) ≡ length xs
many owner number [] = refl
many owner number (x ∷ xs) = ap suc (many owner (number + 1) xs)

pub record GenericsTo (owner number : ℕ) (a b : References) (from to : Tables) (xs rest : List Generic) : Type 0 where
  pub pushing : Pushing generic_kind a b from to (generics_with owner 0 xs) (generics_with owner number rest)
  pub within : number + length rest < 2 ^ 24

pub generics_begin : (owner : ℕ) (a : References) (from : Tables) (xs : List Generic) → CanPush 0x2A CanPushGeneric generic_bytes (generics_with owner 0 xs) a from → GenericsTo owner 0 a a from from xs xs
generics_begin owner a from xs h = record {
  pushing = begin generic_kind a from (generics_with owner 0 xs) h;
  within = (let few = h.few in let long = many owner 0 xs in omega arith);
}

module _ (owner number : ℕ) (a b : References) (from to : Tables) (xs rest more : List Generic) (x : Generic) (e : rest ≡ x ∷ more) (d : GenericsTo owner number a b from to xs rest) where
  here : generics_with owner number rest ≡ generics_with owner number (x ∷ []) ++ generics_with owner (number + 1) more
  here = ap (generics_with owner number) e

  pub generics_can : CanPush 0x2A CanPushGeneric generic_bytes (generics_with owner number (x ∷ [])) b to
  generics_can = front generic_kind a b from to (generics_with owner 0 xs) (generics_with owner number rest) (generics_with owner number (x ∷ [])) (generics_with owner (number + 1) more) here d.pushing

  pub number_few : number < 2 ^ 24
  number_few = let within = d.within in omega arith

  pub generics_on : (c : References) (next : Tables) → Pushes 0x2A IsGenericRow generic_bytes (generics_with owner number (x ∷ [])) b c to next → GenericsTo owner (number + 1) a c from next xs more
  generics_on c next h = record {
    pushing = go_on generic_kind a b c from to next (generics_with owner 0 xs) (generics_with owner number rest) (generics_with owner number (x ∷ [])) (generics_with owner (number + 1) more) here d.pushing h;
    within = (let within = d.within in let long = ap (length {A = Generic}) e in omega arith);
  }

pub generics_end : (owner number : ℕ) (a b : References) (from to : Tables) (xs rest : List Generic) → rest ≡ [] → GenericsTo owner number a b from to xs rest
    → Pushes 0x2A IsGenericRow generic_bytes (generics_with owner 0 xs) a b from to
generics_end owner number a b from to xs rest e d = end generic_kind a b from to (generics_with owner 0 xs) (generics_with owner number rest) (ap (generics_with owner number) e) d.pushing
