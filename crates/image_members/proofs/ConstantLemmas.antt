-- The rows of Constant.
use Rattle.std.proofs.Common.{◌≡◌, ap, refl, sym, ◌∙◌, subst, ℕ, zero, suc, ◌+◌, ◌<◌, ◌≤◌, ◌^◌, List, [], ◌∷◌, map, length, Option, Some, None, arith}
use Rattle.std.specs.Borrow.{Bor}
use Rattle.std.specs.Prelude.{slice_get}
use Rattle.std.specs.Option.{option_map}
use Rattle.metadata_tables.specs.Encoding.{AddsRow, IsRowOf}
use Rattle.metadata_tables.specs.Laws.{RowOfColumns}
use Rattle.metadata_tables.specs.Schema.{schema}
use Rattle.metadata_tables.specs.declared.coded.Coded.TheVariants.{HasConstant}
use Rattle.assembly_tree.specs.declared.members.Constant.{Constant}
use Rattle.image_tokens.specs.Blobs.{HoldsBlob}
use Rattle.image_members.specs.ByNumber.{or_none, owned_in}
use Rattle.image_members.specs.ConstantRows.{stated_constant, constant_with, constants_in, constant_bytes, IsConstantRow, CanPushConstant}
use Rattle.image_members.specs.Constants.{element_of, value_of}
use Rattle.image_tokens.specs.Indexes.{index_of}
use Rattle.image_members.specs.Places.{lent}
use Rattle.image_members.specs.Pushing.{Tables, Pushes}
use Rattle.image_tokens.specs.References.{Grows, Goes, AreKnown, size}
use Rattle.image_members.specs.declared.constant_rows.Valued.{Valued}
use Rattle.image_tokens.specs.declared.references.References.{References}
use Rattle.image_members.proofs.ByNumberLemmas.{lent_at}
use Rattle.image_members.proofs.KindLemmas.{RowKind, one_pushed, none_pushed}
use Rattle.image_members.proofs.ManifestLemmas.{blob_kept}

pub constant_cells : RowOfColumns → (element parent value : ℕ) → element < 256 → IsRowOf 0x0B (element ∷ 0 ∷ parent ∷ value ∷ [])
unfolding schema
constant_cells law element parent value e = law 0x0B (element ∷ 0 ∷ parent ∷ value ∷ []) (omega arith) (e, (omega arith, (tt, (tt, tt))))

pub constant_kept : (a b : References) → Grows a b → (cells : List ℕ) (x : ℕ × Constant) → IsConstantRow a cells x → IsConstantRow b cells x
constant_kept a b g cells x h = record { value = h.value; are = h.are; value_is = blob_kept a.heaps.blobs b.heaps.blobs (value_of x.1) h.value g.blobs h.value_is }

pub constant_still : (a b : References) → Grows a b → (x : ℕ × Constant) → CanPushConstant a x → CanPushConstant b x
constant_still a b g x h = h

abbrev pub constant_kind : RowKind (ℕ × Constant)
constant_kind = record { table = 0x0B; is = IsConstantRow; weigh = constant_bytes; can = CanPushConstant; kept = constant_kept; still = constant_still }

pub constant_bytes_are : (parent : ℕ) (c : Constant) → constant_bytes (parent, c) ≡ length (value_of c) + 4
unfolding constant_bytes
constant_bytes_are parent c = refl

pub constant_pushed : (a b : References) (from to : Tables) (parent value : ℕ) (c : Constant) (bytes : List ℕ) → bytes ≡ value_of c → Goes a b (length bytes + 4) → HoldsBlob b.heaps.blobs bytes value
    → AddsRow from to 0x0B (element_of c ∷ 0 ∷ parent ∷ value ∷ []) → Pushes 0x0B IsConstantRow constant_bytes (constant_with parent (Some c)) a b from to
constant_pushed a b from to parent value c bytes same g is row =
    let weighs = constant_bytes_are parent c in
    let long = ap (length {A = ℕ}) same in
    let room = g.size in
    one_pushed constant_kind a b from to (element_of c ∷ 0 ∷ parent ∷ value ∷ []) (parent, c) g.grows g.known (omega arith) row
    (record { value = value; are = refl; value_is = subst (λ (bs : List ℕ). HoldsBlob b.heaps.blobs bs value) same is })

pub no_constant : (a : References) (from : Tables) (parent : ℕ) (c : Option Constant) → c ≡ None → AreKnown a → Pushes 0x0B IsConstantRow constant_bytes (constant_with parent c) a a from from
no_constant a from parent c e known = subst (λ (x : Option Constant). Pushes 0x0B IsConstantRow constant_bytes (constant_with parent x) a a from from) (sym e) (none_pushed constant_kind a from known)

-- ---- a row of a table

stated_at : (of : List (Bor (Option Constant))) (k : ℕ) → slice_get (map stated_constant (lent of)) k ≡ option_map (λ (x : Bor (Option Constant)). stated_constant x.now) (slice_get of k)
stated_at [] k = refl
stated_at (x ∷ of) zero = refl
stated_at (x ∷ of) (suc k) = stated_at of k

pub none_constant : (k : ℕ) (t : Valued) → None ≡ slice_get t.of k → constants_in k t ≡ []
none_constant k t e =
    ap (λ (o : Option (List Constant)). map (λ (x : Constant). (index_of HasConstant t.table (k + 1), x)) (or_none o)) (stated_at t.of k ∙ ap (option_map (λ (x : Bor (Option Constant)). stated_constant x.now)) (sym e))

pub some_constant : (k : ℕ) (t : Valued) (c : Bor (Option Constant)) → Some c ≡ slice_get t.of k → constants_in k t ≡ constant_with (index_of HasConstant t.table (k + 1)) c.now
some_constant k t c e =
    ap (λ (o : Option (List Constant)). map (λ (x : Constant). (index_of HasConstant t.table (k + 1), x)) (or_none o)) (stated_at t.of k ∙ ap (option_map (λ (x : Bor (Option Constant)). stated_constant x.now)) (sym e))
