-- The rows of TypeDef.
use Rattle.std.proofs.Common.{◌≡◌, ap, refl, sym, ◌∙◌, subst, ℕ, zero, suc, ◌+◌, ◌-◌, ◌<◌, ◌≤◌, ◌^◌, List, [], ◌∷◌, map, length, Option, Some, None, arith}
use Rattle.std.specs.Prelude.{slice_get, sum_by}
use Rattle.std.specs.List.{AllByRecursion}
use Rattle.std.proofs.lemmas.List.Sums.{sum_by-cons}
use Rattle.std.proofs.lemmas.Option.{same_Some, slice_get_within}
use Rattle.metadata_tables.specs.Encoding.{rows_in, AddsRow, IsRowOf}
use Rattle.metadata_tables.specs.Indexes.{run_cell}
use Rattle.metadata_tables.specs.Laws.{RowOfColumns}
use Rattle.metadata_tables.specs.Schema.{schema}
use Rattle.metadata_tables.specs.declared.coded.Coded.TheVariants.{TypeDefOrRef}
use Rattle.assembly_tree.specs.declared.typedef.TypeDef.TheViews.{out-TypeDef}
use Rattle.type_terms.specs.declared.term.Owner.{Owner}
use Rattle.image_members.specs.Declaring.{Place, module_place, class_id, class_place, places, HoldsPlace, AreDeclared}
use Rattle.image_members.specs.DeclaredMembers.{class_fields, class_methods}
use Rattle.image_tokens.specs.Indexes.{index_of_token}
use Rattle.image_tokens.specs.Noted.{IsOwned}
use Rattle.image_members.specs.Pushing.{Tables, Pushes}
use Rattle.image_tokens.specs.References.{size, tokens_of, Grows, AreKnown}
use Rattle.image_rows.specs.TypeRows.{Numbered, numbered, base_of, IsBase, IsTypeDefRow, AddsModuleType, StandsAt, CanBeBase, base_weight, numbered_weight, Refers}
use Rattle.image_tokens.specs.Writable.{IsOwnerWritable}
use Rattle.image_members.specs.declared.classes.Class.{Class}
use Rattle.image_tokens.specs.declared.references.Declared.{Declared}
use Rattle.image_tokens.specs.declared.references.References.{References}
use Rattle.image_tokens.specs.declared.row_set.Cells.{Cells}
use Rattle.image_members.proofs.DeclaringLemmas.{place_kept}
use Rattle.image_tokens.proofs.FoundLemmas.{at_map}
use Rattle.image_tokens.proofs.GrowthLemmas.{grows_refl, tokens_kept}
use Rattle.image_tokens.proofs.NameLemmas.{all_weaker}
use Rattle.image_tokens.proofs.PathLemmas.{text_kept}
use Rattle.image_members.proofs.PushLemmas.{rows_one, pushes_none, pushes_one, pushes_both, pushes_count}
use Rattle.image_tokens.proofs.WritableLemmas.{still_writable_owner}
use Rattle.image_members.proofs.ZipLemmas.{zip_from, zip_later}

pub type_cells : RowOfColumns → (flags name space base field method : ℕ) → flags < 2 ^ 32 → IsRowOf 0x02 (flags ∷ name ∷ space ∷ base ∷ field ∷ method ∷ [])
unfolding schema
type_cells law flags name space base field method f = law 0x02 (flags ∷ name ∷ space ∷ base ∷ field ∷ method ∷ []) (omega arith) (f, (tt, (tt, (tt, (tt, (tt, tt))))))

-- ---- bases

pub no_base : (a : References) (base : Option Owner) → AreKnown a → base ≡ None → Refers base a a 0
no_base a base known e = record { grows = grows_refl a; known = known; room = omega arith; is = subst (λ (x : Option Owner). IsBase a x 0) (sym e) refl }

pub a_base : (a b : References) (base : Option Owner) (o : Owner) (token : ℕ) → base ≡ Some o → IsOwned a b o token → Refers base a b (index_of_token TypeDefOrRef token)
a_base a b base o token e h = record {
  grows = h.grows;
  known = h.known;
  room = (let room = h.room in let weighs = ap base_weight e in omega arith);
  is = subst (λ (x : Option Owner). IsBase b x (index_of_token TypeDefOrRef token)) (sym e) (token, h.token_is, refl);
}

pub base_can : (r : References) (base : Option Owner) (o : Owner) → base ≡ Some o → CanBeBase r base → IsOwnerWritable r o
base_can r base o e h = subst (CanBeBase r) e h

base_kept : (a b : References) → Grows a b → (base : Option Owner) (index : ℕ) → IsBase a base index → IsBase b base index
base_kept a b g None index h = h
base_kept a b g (Some o) index h = (h.0, tokens_kept a b g o h.0 h.1, h.2)

base_still : (a b : References) → Grows a b → (base : Option Owner) → CanBeBase a base → CanBeBase b base
base_still a b g None h = h
base_still a b g (Some o) h = still_writable_owner a b g o h

-- a declared type is among the declared types
pub stands_within : (r : References) (k : ℕ) (p : Place) → StandsAt r k p → k < length r.declared.types
stands_within r k p h = slice_get_within r.declared.types k h.0 h.1

-- the row of `<Module>`
pub module_type_pushed : (fields methods : ℕ) (r : References) (from to : Tables) (cells : Cells) → StandsAt r 0 module_place → slice_get r.declared.types 0 ≡ Some cells
    → AddsRow from to 0x02 (0 ∷ cells.second ∷ cells.third ∷ 0 ∷ run_cell fields 1 ∷ run_cell methods 1 ∷ []) → AddsModuleType fields methods r from to
module_type_pushed fields methods r from to cells stands at row =
    let same : stands.0 ≡ cells = same_Some stands.0 cells (sym stands.1 ∙ at) in
    let holds : HoldsPlace r.heaps.strings cells module_place = subst (λ (x : Cells). HoldsPlace r.heaps.strings x module_place) same stands.2 in
    let whole : List ℕ = 0 ∷ cells.second ∷ cells.third ∷ 0 ∷ run_cell fields 1 ∷ run_cell methods 1 ∷ [] in
    record { cells = whole; adds = rows_one 0x02 whole from to row; is = record { name = cells.second; space = cells.third; are = refl; id_is = holds.id_is } }

-- ---- rows

module _ (fields methods : ℕ) where
  pub row_kept : (a b : References) → Grows a b → (cells : List ℕ) (n : Numbered) → IsTypeDefRow fields methods a cells n → IsTypeDefRow fields methods b cells n
  row_kept a b g cells n h = record {
    name = h.name;
    space = h.space;
    base = h.base;
    are = h.are;
    id_is = record {
      name_is = text_kept a.heaps.strings b.heaps.strings (class_id n.class).name h.name g.strings h.id_is.name_is;
      space_is = text_kept a.heaps.strings b.heaps.strings (class_id n.class).space h.space g.strings h.id_is.space_is;
    };
    base_is = base_kept a b g (base_of n.class) h.base h.base_is;
  }

  abbrev pub PushesTypes : List Numbered → References → References → Tables → Tables → Type 0
  PushesTypes = Pushes 0x02 (IsTypeDefRow fields methods) numbered_weight

  -- the row of a declared type
  pub type_pushed : (a b : References) (from to : Tables) (c : Class) (place field method base : ℕ) (cells : Cells) → StandsAt a place (class_place c)
      → slice_get a.declared.types place ≡ Some cells → Refers (base_of c) a b base
      → AddsRow from to 0x02 ((out-TypeDef c.of.now).flags ∷ cells.second ∷ cells.third ∷ base ∷ run_cell fields field ∷ run_cell methods method ∷ [])
      → PushesTypes (record { class = c; field = field; method = method } ∷ []) a b from to
  type_pushed a b from to c place field method base cells stands at h row =
      let same : stands.0 ≡ cells = same_Some stands.0 cells (sym stands.1 ∙ at) in
      let holds : HoldsPlace b.heaps.strings cells (class_place c) = place_kept a.heaps.strings b.heaps.strings h.grows.strings cells (class_place c)
      (subst (λ (x : Cells). HoldsPlace a.heaps.strings x (class_place c)) same stands.2) in
      let room = h.room in
      pushes_one 0x02 (IsTypeDefRow fields methods) numbered_weight row_kept a b from to
      ((out-TypeDef c.of.now).flags ∷ cells.second ∷ cells.third ∷ base ∷ run_cell fields field ∷ run_cell methods method ∷ []) (record { class = c; field = field; method = method })
      h.grows h.known (omega arith) row (record { name = cells.second; space = cells.third; base = base; are = refl; id_is = holds.id_is; base_is = h.is })

  -- ---- each type in turn

  abbrev fields_in : Class → ℕ
  fields_in c = length (class_fields c)

  abbrev methods_in : Class → ℕ
  methods_in c = length (class_methods c)

  abbrev weight_in : Class → ℕ
  weight_in c = base_weight (base_of c)

  abbrev Bases : References → List Class → Type 0
  Bases r cs = AllByRecursion (λ c. CanBeBase r (base_of c)) cs

  -- the types before `rest` have their rows; the next has this place among the declared types, and its runs begin at these rows
  pub record TypesTo (first also : ℕ) (a b : References) (from to : Tables) (place field method : ℕ) (cs rest : List Class) : Type 0 where
    pub on : (c : References) (end : Tables) → PushesTypes (numbered field method rest) b c to end → PushesTypes (numbered first also cs) a c from end
    pub known : AreKnown b
    pub declared : AreDeclared b.heaps.strings b.declared.types (places cs)
    pub ahead : (j k : ℕ) (c : Class) → j ≡ place + k → slice_get rest k ≡ Some c → slice_get (places cs) j ≡ Some (class_place c)
    pub bases : Bases b rest
    pub few : rows_in to 0x02 + length rest < 2 ^ 24
    pub room : size b + sum_by weight_in rest ≤ 2 ^ 26
    pub next : place + length rest < 2 ^ 24
    pub field_room : field + sum_by fields_in rest ≤ 2 ^ 24
    pub method_room : method + sum_by methods_in rest ≤ 2 ^ 24

  from_first : (cs : List Class) (j k : ℕ) (c : Class) → j ≡ 1 + k → slice_get cs k ≡ Some c → slice_get (places cs) j ≡ Some (class_place c)
  from_first cs zero k c e at = absurd (omega arith)
  from_first cs (suc j) k c e at =
      let same : j ≡ k = omega arith in
      at_map class_place cs j c (ap (slice_get cs) same ∙ at)

  pub types_begin : (first also : ℕ) (a : References) (from : Tables) (cs : List Class) → AreKnown a → AreDeclared a.heaps.strings a.declared.types (places cs) → Bases a cs
      → rows_in from 0x02 + length cs < 2 ^ 24 - 1 → size a + sum_by weight_in cs ≤ 2 ^ 26 → length cs < 2 ^ 24 - 2 → first + sum_by fields_in cs ≤ 2 ^ 24 → also + sum_by methods_in cs ≤ 2 ^ 24
      → TypesTo first also a a from from 1 first also cs cs
  types_begin first also a from cs known declared bases few room count f m = record {
    on = λ c end h. h;
    known = known;
    declared = declared;
    ahead = from_first cs;
    bases = bases;
    few = omega arith;
    room = room;
    next = omega arith;
    field_room = f;
    method_room = m;
  }

  module _ (first also : ℕ) (a b : References) (from to : Tables) (place field method : ℕ) (cs rest more : List Class) (c : Class) (e : rest ≡ c ∷ more)
      (d : TypesTo first also a b from to place field method cs rest) where
    pub types_stand : StandsAt b place (class_place c)
    types_stand =
        let here : slice_get rest 0 ≡ Some c = ap (λ ys. slice_get ys 0) e in
        zip_from (HoldsPlace b.heaps.strings) b.declared.types (places cs) place (class_place c) d.declared (d.ahead place 0 c (omega arith) here)

    pub types_base : CanBeBase b (base_of c)
    types_base = (subst (λ ys. Bases b ys) e d.bases).0

    pub types_few : rows_in to 0x02 < 2 ^ 24 - 1
    types_few = let few = d.few in let long = ap (length {A = Class}) e in omega arith

    pub types_room : size b + base_weight (base_of c) ≤ 2 ^ 26
    types_room = let room = d.room in let heavy = ap (sum_by weight_in) e ∙ sum_by-cons weight_in c more in omega arith

    pub types_fields : field + length (class_fields c) ≤ 2 ^ 24
    types_fields = let room = d.field_room in let all = ap (sum_by fields_in) e ∙ sum_by-cons fields_in c more in omega arith

    pub types_methods : method + length (class_methods c) ≤ 2 ^ 24
    types_methods = let room = d.method_room in let all = ap (sum_by methods_in) e ∙ sum_by-cons methods_in c more in omega arith

    pub types_next : place + 1 < 2 ^ 24 + 1
    types_next = let next = d.next in let long = ap (length {A = Class}) e in omega arith

    pub types_on : (z : References) (end : Tables) → PushesTypes (record { class = c; field = field; method = method } ∷ []) b z to end
        → TypesTo first also a z from end (place + 1) (field + length (class_fields c)) (method + length (class_methods c)) cs more
    types_on z end one =
        let long = ap (length {A = Class}) e in
        let heavy = ap (sum_by weight_in) e ∙ sum_by-cons weight_in c more in
        let all_fields = ap (sum_by fields_in) e ∙ sum_by-cons fields_in c more in
        let all_methods = ap (sum_by methods_in) e ∙ sum_by-cons methods_in c more in
        let item : Numbered = record { class = c; field = field; method = method } in
        let alone = sum_by-cons numbered_weight item [] in
        let count = pushes_count 0x02 (IsTypeDefRow fields methods) numbered_weight row_kept (item ∷ []) b z to end one in
        let types : z.declared.types ≡ b.declared.types = ap (λ (x : Declared). x.types) one.grows.declared in
        record {
          on = λ later last h. d.on later last (subst (λ ys. PushesTypes (numbered field method ys) b later to last) (sym e)
              (pushes_both 0x02 (IsTypeDefRow fields methods) numbered_weight row_kept (item ∷ []) (numbered (field + length (class_fields c)) (method + length (class_methods c)) more)
              b z later to end last one h));
          known = one.known;
          declared = subst (λ rows. AreDeclared z.heaps.strings rows (places cs)) (sym types)
              (zip_later (HoldsPlace b.heaps.strings) (HoldsPlace z.heaps.strings) b.declared.types (places cs) (place_kept b.heaps.strings z.heaps.strings one.grows.strings) d.declared);
          ahead = λ j k x is at. d.ahead j (suc k) x (omega arith) (subst (λ ys. slice_get ys (suc k) ≡ Some x) (sym e) at);
          bases = all_weaker (λ x. CanBeBase b (base_of x)) (λ x. CanBeBase z (base_of x)) more (λ x h. base_still b z one.grows (base_of x) h) (subst (λ ys. Bases b ys) e d.bases).1;
          few = (let few = d.few in omega arith);
          room = (let room = d.room in let step = one.room in omega arith);
          next = (let next = d.next in omega arith);
          field_room = (let room = d.field_room in omega arith);
          method_room = (let room = d.method_room in omega arith);
        }

  pub types_end : (first also : ℕ) (a b : References) (from to : Tables) (place field method : ℕ) (cs rest : List Class) → rest ≡ [] → TypesTo first also a b from to place field method cs rest
      → PushesTypes (numbered first also cs) a b from to
  types_end first also a b from to place field method cs rest e d =
      d.on b to (subst (λ ys. PushesTypes (numbered field method ys) b b to to) (sym e) (pushes_none 0x02 (IsTypeDefRow fields methods) numbered_weight row_kept b to d.known))
