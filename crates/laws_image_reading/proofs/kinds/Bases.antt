-- Interfaces have no base, and other types have one but for a few (ECMA-335 II.22.37).
use Rattle.std.proofs.Common.{◌≡◌, ◌≢◌, ap, refl, sym, ◌∙◌, subst, ℕ, ◌+◌, ◌-◌, ◌*◌, ◌<◌, ◌⊎◌, ◌&&◌, ◌||◌, Bool, true, true≢false, nat_eq, List, Option, Some, None, inl, inr, arith}
use Rattle.std.specs.Prelude.{IsTrue, codes, is_none, is_some, slice_get, slice_index}
use Rattle.std.specs.Int.{bit_at}
use Rattle.std.specs.List.{AllByRecursion}
use Rattle.std.proofs.lemmas.Bool.{and_parts, cases_eq, cond-true, cond-false, or_cases}
use lib.Pointwise.{pointwise}
use Rattle.heaps.specs.Heap.{Heap}
use Rattle.metadata_tables.specs.CodedIndex.{tag_of}
use Rattle.metadata_tables.specs.declared.coded.Coded.TheVariants.{TypeDefOrRef}
use Rattle.type_terms.specs.declared.name.TypeId.{TypeId}
use Rattle.type_terms.specs.declared.name.TypeName.{TypeName}
use Rattle.type_terms.specs.declared.term.Owner.{Owner, out-Owner}
use Rattle.type_terms.specs.declared.term.Owner.TheOpen.{Owner-F, Name, Spec}
use Rattle.type_terms.specs.declared.term.SigType.{SigType}
use Rattle.assembly_tree.specs.WellFormedNames.{is_system_object}
use Rattle.assembly_tree.specs.WellFormedTypes.{is_interface, is_base}
use Rattle.assembly_tree.specs.declared.assembly.Assembly.{Assembly}
use Rattle.assembly_tree.specs.declared.typedef.TypeDef.TheViews.{out-TypeDef}
use Rattle.body_codec.specs.Names.{NameMap}
use Rattle.image_tokens.specs.Indexes.{IsToken, index_of_token}
use Rattle.image_tokens.specs.KnownTokens.{names_apart, types_apart, layer_token}
use Rattle.image_tokens.specs.NameTokens as names
use Rattle.image_tokens.specs.NameTokens.{HasNameToken}
use Rattle.image_tokens.specs.References.{tokens_of, IsSpecToken, AreKnown}
use Rattle.image_tokens.specs.TypePaths.{Follows, last, on}
use Rattle.image_tokens.specs.declared.references.References.{References}
use Rattle.image_tokens.specs.declared.row_set.Cells.{Cells}
use Rattle.image_tokens.proofs.NameLemmas.{holds_of_found}
use Rattle.image_rows.specs.TypeRows.{IsBase, base_of}
use Rattle.image_members.specs.declared.classes.Class.{Class}
use Rattle.image_layout.specs.Laws.{ReadsHeaps}
use Rattle.image_model.specs.Columns.{type_extends}
use Rattle.image_model.specs.Faults.{Holds, bases}
use Rattle.image_model.specs.Members.{IsInterface, MayLackBase, object_id}
use Rattle.image_model.specs.Naming.{HasId}
use Rattle.image_model.specs.Rows.{HasRow, enclosing}
use Rattle.laws_image_parts.specs.NestingRead.{AreEnclosed}
use Rattle.laws_image_parts.specs.PartsRead.{PartsAreRead}
use Rattle.laws_image_parts.specs.RowsRead.{ReadsTypeRows}
use Rattle.laws_image_parts.specs.RunsRead.{RunsRead}
use Rattle.laws_image_parts.proofs.IndexLemmas.{index_is}
use Rattle.laws_image_reading.proofs.kinds.Bits.{interface_set, interface_clear}
use Rattle.laws_image_reading.proofs.kinds.Formed.{IsFormedClass, head_formed}
use Rattle.laws_image_reading.proofs.kinds.General.{all_at, get_some}
use Rattle.laws_image_reading.proofs.kinds.Texts.{text_is}
use Rattle.laws_image_reading.proofs.kinds.Rows.{index_by_token, none_is}

-- ---- the condition on a base

base_when : (top : Bool) (id : TypeId) (flags : ℕ) (o : Option Owner) → IsTrue (is_base top id flags o) → bit_at flags 5 ≡ 1 → o ≡ None
base_when top id flags o h bit = none_is o (sym (cond-true (is_interface flags) (is_none o) (is_some o || (top && is_system_object id)) (interface_set flags bit)) ∙ h)

base_unless : (top : Bool) (id : TypeId) (flags : ℕ) (o : Option Owner) → IsTrue (is_base top id flags o) → (bit_at flags 5 ≡ 1 → ⊥)
    → IsTrue (is_some o) ⊎ ((top ≡ true) × IsTrue (is_system_object id))
base_unless top id flags o h bit =
    elim (or_cases (is_some o) (top && is_system_object id) (sym (cond-false (is_interface flags) (is_none o) (is_some o || (top && is_system_object id)) (interface_clear flags bit)) ∙ h)) [
      | inl some ↦ inl some
      | inr lacks ↦ inr (and_parts top (is_system_object id) lacks)
    ]

object_is : (id : TypeId) → IsTrue (is_system_object id) → id ≡ object_id
object_is id h =
    let both = and_parts (pointwise nat_eq id.space (codes "System")) (pointwise nat_eq id.name (codes "Object")) h in
    let space = text_is id.space (codes "System") both.0 in
    let name = text_is id.name (codes "Object") both.1 in
    λ i. record { space = space i; name = name i }

-- ---- the index of a base

-- the token of a type is that of a row of TypeDef, TypeRef or TypeSpec
record IsTypeRow (token : ℕ) : Type 0 where
  table : ℕ
  row : ℕ
  is : IsToken token table row
  some : 0 < row
  tag : ℕ
  tag_is : tag_of TypeDefOrRef table ≡ Some tag

follows_some : (strings : Heap) (rows : List Cells) (inner : ℕ → ℕ) (scope end : ℕ) (path : List TypeId) → Follows strings rows inner scope path end → 0 < end
follows_some strings rows inner scope end path (last t is) = t.at.counted
follows_some strings rows inner scope end path (on {row = row} {rest = rest} t is f) = follows_some strings rows inner (inner row) end rest f

module _ (r : References) (known : AreKnown r) where
  name_row : (name : TypeName) (token : ℕ) → HasNameToken r.heaps.strings r.declared.types r.referred.names name token → IsTypeRow token
  unfolding tag_of
  name_row name token (names.of_declared {row = row} here f is) =
      record { table = 0x02; row = row; is = is; some = follows_some r.heaps.strings r.declared.types _ 0 row name.path f; tag = 0; tag_is = refl }
  name_row name token (names.of_referred {row = row} scope f is) =
      record { table = 0x01; row = row; is = is; some = follows_some r.heaps.strings r.referred.names _ _ row name.path f; tag = 1; tag_is = refl }

  layer_row : (l : Owner-F Owner SigType) (token : ℕ) → layer_token r.known.names r.known.specs l ≡ Some token → IsTypeRow token
  unfolding tag_of
  layer_row (Name name) token at =
      name_row name token (holds_of_found names_apart (λ e. HasNameToken r.heaps.strings r.declared.types r.referred.names e.0 e.1) r.known.names name token known.names.each at)
  layer_row (Spec of) token at =
      let h : IsSpecToken r of token = holds_of_found types_apart (λ e. IsSpecToken r e.0 e.1) r.known.specs of token known.specs at in
      record { table = 0x1B; row = h.row; is = h.is; some = h.at.counted; tag = 2; tag_is = refl }

  pub type_index : (o : Owner) (token : ℕ) → tokens_of r o ≡ Some token → index_of_token TypeDefOrRef token ≡ 0 → ⊥
  type_index o token at none =
      let t = layer_row (out-Owner o) token at in
      let some = t.some in
      let is : index_of_token TypeDefOrRef token ≡ t.row * 4 + t.tag = index_by_token TypeDefOrRef token t.table t.row t.is ∙ index_is TypeDefOrRef t.table t.row t.tag t.tag_is in
      omega arith

  base_none : (o : Option Owner) (index : ℕ) → IsBase r o index → o ≡ None → index ≡ 0
  base_none None index h e = h
  base_none (Some o) index h e = absurd cc

  base_some : (o : Option Owner) (index : ℕ) → IsBase r o index → IsTrue (is_some o) → index ≡ 0 → ⊥
  base_some None index h e none = absurd (true≢false (sym e))
  base_some (Some o) index h e none = type_index o h.0 h.1 (sym h.2 ∙ none)

-- ---- rows

module _ (parts : PartsAreRead) (a : Assembly) (classes : List Class) (r : References) (code image : List ℕ) (known : AreKnown r) (heaps : ReadsHeaps r image)
    (types : ReadsTypeRows a classes r image) (runs : RunsRead a classes r code image) (enclosed : AreEnclosed classes image) (formed : AllByRecursion (IsFormedClass a) classes) where
  -- what is asked of the base of a row
  abbrev Meets : ℕ → Type 0
  Meets row = (IsInterface image row → type_extends image row ≡ 0) × ((IsInterface image row → ⊥) → (type_extends image row ≢ 0) ⊎ MayLackBase image row)

  module_meets : Meets 1
  module_meets =
      let base : type_extends image 1 ≡ 0 = ap (λ (cs : List ℕ). slice_index cs 3) types.module_is.are in
      (λ h. base, λ h. inr (inl refl))

  class_meets : (k : ℕ) (c : Class) → slice_get classes k ≡ Some c → Meets (2 + k)
  class_meets k c at =
      let own = runs.type_rows k c at in
      let head = parts.class a classes r image (2 + k) c heaps own in
      let f = all_at (IsFormedClass a) classes k c formed at in
      let id = (out-TypeDef c.of.now).id in
      let flags = (out-TypeDef c.of.now).flags in
      let base = (head_formed a c f).base in
      let cell : type_extends image (2 + k) ≡ own.2.base = ap (λ (cs : List ℕ). slice_index cs 3) own.2.are in (
        λ h. cell ∙ base_none r known (base_of c) own.2.base own.2.base_is (base_when f.top id flags (base_of c) base (ap (λ n. bit_at n 5) head.flags ∙ h)),
        λ h. by_base (2 + k) (base_of c) own.2.base f.top id cell own.2.base_is head.id (λ top. enclosed.each k c at ∙ f.at_top top)
            (base_unless f.top id flags (base_of c) base (λ bit. h (ap (λ n. bit_at n 5) (sym head.flags) ∙ bit))),
      )
    where
      by_base : (row : ℕ) (o : Option Owner) (index : ℕ) (top : Bool) (id : TypeId) → type_extends image row ≡ index → IsBase r o index → HasId image row id → (top ≡ true → enclosing image row ≡ 0)
          → IsTrue (is_some o) ⊎ ((top ≡ true) × IsTrue (is_system_object id)) → (type_extends image row ≢ 0) ⊎ MayLackBase image row
      by_base row o index top id cell is has outer (inl some) = inl (λ none. base_some r known o index is some (sym cell ∙ none))
      by_base row o index top id cell is has outer (inr lacks) = inr (inr (outer lacks.0, subst (HasId image row) (object_is id lacks.1) has))

  row_meets : (row : ℕ) → HasRow image 0x02 row → Meets row
  row_meets row there = elim (cases_eq row 1) [
    | inl first ↦ subst Meets (sym first) module_meets
    | inr later ↦
        let some = there.0 in
        let high = there.1 in
        let count = types.count in
        let found = get_some classes (row - 2) (omega arith) in
        let same : 2 + (row - 2) ≡ row = omega arith in
        subst Meets same (class_meets (row - 2) found.0 found.1)
  ]

  pub bases_meet : (names : NameMap) → Holds image names bases
  bases_meet names = λ table row. record { interface = λ is there. (row_meets row there).0; other = λ is there. (row_meets row there).1 }
