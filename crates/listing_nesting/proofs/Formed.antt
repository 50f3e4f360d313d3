-- A type of a well-formed tree meets the conditions under which it is read back.
use Rattle.std.proofs.Common.{◌≡◌, ℕ, zero, suc, ◌+◌, ◌≤◌, ◌^◌, ◌&&◌, ◌||◌, not, nat_eq, nat_lt, nat_le, Bool, true, false, cond, List, [], ◌∷◌, ◌++◌, map, take, length, length-append, Option, None, Some, refl, ap, sym, subst, ◌∙◌, append_assoc, arith, inl, inr}
use Rattle.std.proofs.lemmas.Bool.{and_parts, cases_Bool, eqb-true, leb-true, ltb-true, false≢true, true≢false}
use Rattle.std.proofs.lemmas.List.Sums.{sum_by-cons, sum-map}
use Rattle.std.specs.List.{list_all, list_any}
use Rattle.std.specs.Prelude.{sum_by, is_some}
use lib.Pointwise.{pointwise, bytes_decides}
use Rattle.opcode_table.specs.Opcodes.{kind_of}
use Rattle.opcode_table.specs.Sizes.{opcode_size}
use Rattle.opcode_table.specs.declared.kind.OperandKind.{OperandKind}
use Rattle.opcode_table.specs.declared.kind.OperandKind.TheVariants as form
use Rattle.opcode_table.specs.declared.op.Op.{Op}
use Rattle.opcode_table.specs.declared.op.Op.TheVariants.{Br}
use Rattle.type_terms.specs.declared.name.TypeId.{TypeId}
use Rattle.assembly_tree.specs.DataSize.{is_id, named, with_type, type_below, type_at}
use Rattle.assembly_tree.specs.Weight.{optional, operand_weight, instruction_weight, body_weight, method_weight, own_weight, typedef_step, typedef_weight}
use Rattle.assembly_tree.specs.WellFormedBodies.{operand_size, operand_kind, size_of, offset_of}
use Rattle.assembly_tree.specs.WellFormedMembers.{is_method}
use Rattle.assembly_tree.specs.WellFormedNames.{all_differ, is_type_id, is_module_path, is_short_path, is_type_name}
use Rattle.assembly_tree.specs.WellFormedTypes.{is_own, is_same_id, are_types}
use Rattle.assembly_tree.specs.declared.assembly.Assembly.{Assembly}
use Rattle.assembly_tree.specs.declared.body.Body.{Body}
use Rattle.assembly_tree.specs.declared.body.Ins.{Ins}
use Rattle.assembly_tree.specs.declared.body.Operand as operand
use Rattle.assembly_tree.specs.declared.members.Method.{Method}
use Rattle.assembly_tree.specs.declared.typedef.TypeDef.{TypeDef}
use Rattle.assembly_tree.specs.declared.typedef.TypeDef.TheFolds.{fold_out-TypeDef}
use Rattle.assembly_tree.specs.declared.typedef.TypeDef.TheViews.{out-TypeDef}
use Rattle.assembly_tree.proofs.FormedFacts.{heads_named, types_named, methods_named}
use Rattle.listing_groups.specs.Laws.{are_short}
use Rattle.listing_growth.specs.Held.{is_method_held, is_own_held, typedef_holds, is_typedef_held}
use Rattle.listing_members.specs.Laws.{is_head}
use Rattle.listing_methods.specs.Laws.{is_short_code}
use Rattle.listing_nesting.specs.Laws.{AreNested, IsNested, EachNested, TypesAreFormed}

both : (x y : Bool) → x ≡ true → y ≡ true → (x && y) ≡ true
both true y h k = k
both false y h k = h

-- ---- code isn't longer than it weighs

small_opcode : (op : Op) → opcode_size op ≤ 2
unfolding opcode_size
small_opcode Br = omega arith
small_opcode op = omega arith

small_operand : (k : OperandKind) (o : operand.Operand) → operand_size k o ≤ 8 + operand_weight o
unfolding operand_weight
small_operand form.Nothing o = omega arith
small_operand form.Var8 o = omega arith
small_operand form.Var16 o = omega arith
small_operand form.Num8 o = omega arith
small_operand form.Num32 o = omega arith
small_operand form.Num64 o = omega arith
small_operand form.Byte o = omega arith
small_operand form.Real4 o = omega arith
small_operand form.Real8 o = omega arith
small_operand form.Branch8 o = omega arith
small_operand form.Branch32 o = omega arith
small_operand form.Switch (operand.TheVariants.Targets at) = omega arith
small_operand form.Switch o = omega arith
small_operand form.Method o = omega arith
small_operand form.Field o = omega arith
small_operand form.Of o = omega arith
small_operand form.Text o = omega arith
small_operand form.Token o = omega arith

size_light : (i : Ins) → size_of i ≤ instruction_weight i
unfolding size_of instruction_weight operand_kind
size_light i = let one = small_opcode i.op in let two = small_operand (kind_of i.op) i.operand in omega arith

front_light : (is : List Ins) (k : ℕ) → offset_of is k ≤ sum_by instruction_weight is
front_light is zero = omega arith
front_light [] (suc k) = omega arith
front_light (i ∷ is) (suc k) =
    let rest = front_light is k in
    let one = size_light i in
    let a = sum_by-cons size_of i (take k is) in
    let b = sum_by-cons instruction_weight i is in
    omega arith

code_short : (b : Option Body) → optional body_weight b ≤ 2 ^ 26 → is_short_code b
unfolding body_weight
code_short None light = tt
code_short (Some b) light = let front = front_light b.code (length b.code) in omega arith

pub methods_short : (ms : List Method) → sum_by method_weight ms ≤ 2 ^ 26 → are_short ms
unfolding method_weight
methods_short [] light = tt
methods_short (m ∷ ms) light =
    let sum = sum_by-cons method_weight m ms in
    let own : optional body_weight m.body ≤ 2 ^ 26 = omega arith in
    let later : sum_by method_weight ms ≤ 2 ^ 26 = omega arith in
    (code_short m.body own, methods_short ms later)

-- ---- weights of types

weight_out : (t : TypeDef) → typedef_weight t ≡ own_weight (out-TypeDef t) + sum_by typedef_weight (out-TypeDef t).nested
unfolding own_weight
weight_out t = fold_out-TypeDef ℕ typedef_step t ∙ ap (λ s. own_weight (out-TypeDef t) + s) (sum-map typedef_weight (out-TypeDef t).nested)

pub record IsLight (t : TypeDef) : Type 0 where
  pub methods : sum_by method_weight (out-TypeDef t).methods ≤ 2 ^ 26
  pub nested : sum_by typedef_weight (out-TypeDef t).nested ≤ 2 ^ 26

light_out : (t : TypeDef) → typedef_weight t ≤ 2 ^ 26 → IsLight t
unfolding own_weight
light_out t light = let all = weight_out t in record { methods = omega arith; nested = omega arith }

-- ---- what a tree in memory holds

all_held : (ts : List TypeDef) → list_all (λ ok. ok) (map is_typedef_held ts) ≡ true → list_all is_typedef_held ts ≡ true
all_held [] h = refl
all_held (t ∷ ts) h =
    let hs = and_parts (is_typedef_held t) (list_all (λ ok. ok) (map is_typedef_held ts)) h in
    both (is_typedef_held t) (list_all is_typedef_held ts) hs.0 (all_held ts hs.1)

held_out : (t : TypeDef) → is_typedef_held t ≡ true → (is_own_held (out-TypeDef t) ≡ true) × (list_all is_typedef_held (out-TypeDef t).nested ≡ true)
unfolding is_typedef_held is_own_held
held_out t h =
    let hs = and_parts _ _ (sym (fold_out-TypeDef Bool typedef_holds t) ∙ h) in (hs.0, all_held (out-TypeDef t).nested hs.1)

-- ---- names

id_same : (i j : TypeId) → is_id i j ≡ true → i ≡ j
id_same i j h =
    let hs = and_parts (pointwise nat_eq i.space j.space) (pointwise nat_eq i.name j.name) h in
    let space = (bytes_decides i.space j.space).0 hs.0 in
    let name = (bytes_decides i.name j.name).0 hs.1 in
    λ k. record { space = space k; name = name k }

id_own : (i : TypeId) → is_id i i ≡ true
id_own i = both _ _ ((bytes_decides i.space i.space).1 refl) ((bytes_decides i.name i.name).1 refl)

id_turned : (i j : TypeId) → is_id i j ≡ false → is_id j i ≡ false
id_turned i j e = elim (cases_Bool (is_id j i)) [
  | inl is ↦ absurd (true≢false (sym (id_own i) ∙ subst (λ k. is_id i k ≡ false) (id_same j i is) e))
  | inr other ↦ other
]

-- each of these is the first of its name among those
abbrev AllFirst : List TypeDef → List TypeDef → Type 0
AllFirst all [] = Unit {0}
AllFirst all (t ∷ ts) = (named (out-TypeDef t).id all ≡ Some t) × AllFirst all ts

none_same : (b c : Bool) → not (b || c) ≡ true → (b ≡ false) × (not c ≡ true)
none_same true c h = absurd (false≢true h)
none_same false c h = (refl, h)

first_behind : (t : TypeDef) (all us : List TypeDef) → not (list_any (is_same_id t) us) ≡ true → AllFirst all us → AllFirst (t ∷ all) us
first_behind t all [] h f = tt
first_behind t all (u ∷ us) h f =
    let hs = none_same (is_same_id t u) (list_any (is_same_id t) us) h in (
      ap (λ (c : Bool). cond c (Some t) (named (out-TypeDef u).id all)) (id_turned (out-TypeDef t).id (out-TypeDef u).id hs.0) ∙ f.0,
      first_behind t all us hs.1 f.1,
    )

all_first : (ts : List TypeDef) → all_differ is_same_id ts ≡ true → AllFirst ts ts
all_first [] h = tt
all_first (t ∷ ts) h =
    let hs = and_parts (not (list_any (is_same_id t) ts)) (all_differ is_same_id ts) h in
    (ap (λ (c : Bool). cond c (Some t) (named (out-TypeDef t).id ts)) (id_own (out-TypeDef t).id), first_behind t ts ts hs.0 (all_first ts hs.1))

-- ---- paths

longer : (path : List TypeId) (id : TypeId) → nat_lt 0 (length (path ++ id ∷ [])) ≡ true
longer [] id = refl
longer (x ∷ path) id = grind arith

all_more : (path : List TypeId) (id : TypeId) → list_all is_type_id path ≡ true → is_type_id id ≡ true → list_all is_type_id (path ++ id ∷ []) ≡ true
all_more [] id h k = both _ _ k refl
all_more (x ∷ path) id h k =
    let hs = and_parts (is_type_id x) (list_all is_type_id path) h in both _ _ hs.0 (all_more path id hs.1 k)

short_path : (path : List TypeId) → length path ≤ 100 → is_short_path path ≡ true
short_path path h = by (length path) h
  where
    by : (k : ℕ) → k ≤ 100 → nat_le k 100 ≡ true
    by k h = grind (arith, h)

either : (x y : Bool) → y ≡ true → (x || y) ≡ true
either true y h = refl
either false y h = h

-- ---- heads of methods

heads_are : (a : Assembly) (ms : List Method) → list_all (is_method a) ms ≡ true → list_all is_method_held ms ≡ true → list_all (is_head a) ms ≡ true
unfolding is_method_held
heads_are a [] m h = refl
heads_are a (x ∷ xs) m h =
    let ms = and_parts (is_method a x) (list_all (is_method a) xs) m in
    let hs = and_parts (is_method_held x) (list_all is_method_held xs) h in
    let f = (methods_named a x).0 ms.0 in
    let h5 = and_parts _ _ hs.0 in
    let h4 = and_parts _ _ h5.0 in
    let h3 = and_parts _ _ h4.0 in
    let h2 = and_parts _ _ h3.0 in
    let h1 = and_parts _ _ h2.0 in
    both _ _ (both _ _ f.name (both _ _ f.sig (and_parts _ _ h1.0).1)) (heads_are a xs ms.1 hs.1)

-- ---- one type

module _ (a : Assembly) (top : Bool) (depth : ℕ) (outer : List TypeId) (ts : List TypeDef) (nested : AreNested a top (suc depth) outer ts) where
  module _ (t : TypeDef) (own : is_own a top (out-TypeDef t) ≡ true) (inner : are_types a false depth (out-TypeDef t).nested ≡ true) (held : is_typedef_held t ≡ true) (light : typedef_weight t ≤ 2 ^ 26) (first : named (out-TypeDef t).id ts ≡ Some t) where
    abbrev path : List TypeId
    path = outer ++ (out-TypeDef t).id ∷ []

    path_length : length path ≡ suc (length outer)
    path_length = let e = length-append outer ((out-TypeDef t).id ∷ []) in omega arith

    path_short : length path ≤ 100
    path_short = let e = path_length in let s = nested.short in omega arith

    path_leads : is_some (type_at a.types path) ≡ true
    path_leads = ap (λ o. is_some o) (nested.leads (out-TypeDef t).id [] ∙ ap (with_type (type_below [])) first)

    inner_leads : (id : TypeId) (more : List TypeId) → type_at a.types (path ++ id ∷ more) ≡ type_at (out-TypeDef t).nested (id ∷ more)
    inner_leads id more =
        ap (type_at a.types) (append_assoc outer ((out-TypeDef t).id ∷ []) (id ∷ more))
        ∙ (nested.leads (out-TypeDef t).id (id ∷ more) ∙ ap (with_type (type_below (id ∷ more))) first)

    abbrev facts : IsLight t
    facts = light_out t light

    is_nested : IsNested a top depth outer t
    unfolding is_own_held is_type_name
    is_nested =
        let f = (types_named a top (out-TypeDef t)).0 own in
        let g = (heads_named a top (out-TypeDef t)).0 f.head in
        let out = held_out t held in
        let h9 = and_parts _ _ out.0 in
        let h8 = and_parts _ _ h9.0 in
        let h7 = and_parts _ _ h8.0 in
        let h6 = and_parts _ _ h7.0 in
        let h5 = and_parts _ _ h6.0 in
        let h4 = and_parts _ _ h5.0 in
        let h3 = and_parts _ _ h4.0 in
        let h2 = and_parts _ _ h3.0 in
        let h1 = and_parts _ _ h2.0 in
        let few = leb-true (length (out-TypeDef t).generics) 65535 g.count in
        let all = all_more outer (out-TypeDef t).id nested.named g.id in
        record {
          head = record {
            id = g.id;
            flags = ltb-true (out-TypeDef t).flags 0x100000000 h1.0;
            extends = g.extends;
            rising = g.rising;
            implements = g.implements;
            extends_held = h3.1;
            implements_held = h4.1;
          };
          base = g.base;
          members = record {
            layout = h1.1;
            attributes = g.attributes;
            attributes_held = h9.1;
            generics = g.generics;
            generics_held = h2.1;
            few = omega arith;
            fields = f.fields;
            fields_held = h5.1;
            methods = f.methods;
            methods_held = h6.1;
            short = methods_short (out-TypeDef t).methods facts.methods;
            properties = f.properties;
            properties_held = h7.1;
            property_accessors = f.property_accessors;
            events = f.events;
            events_held = h8.1;
            event_accessors = f.event_accessors;
            named = both _ _ (both _ _ (short_path path path_short) all) (either (is_module_path path) (is_some (type_at a.types path)) path_leads);
            inside = longer outer (out-TypeDef t).id;
            heads = heads_are a (out-TypeDef t).methods f.methods h6.1;
            differ = f.methods_differ;
          };
          nested = record {
            formed = inner;
            held = out.1;
            light = facts.nested;
            named = all;
            short = (let e = path_length in let s = nested.short in omega arith);
            outermost = λ e. absurd (false≢true e);
            leads = inner_leads;
          };
        }

  each : (us : List TypeDef) → list_all (λ t. is_own a top (out-TypeDef t) && are_types a false depth (out-TypeDef t).nested) us ≡ true →
      list_all is_typedef_held us ≡ true → sum_by typedef_weight us ≤ 2 ^ 26 → AllFirst ts us → EachNested a top depth outer us
  each [] m h l f = tt
  each (t ∷ us) m h l f =
      let ms =
      and_parts (is_own a top (out-TypeDef t) && are_types a false depth (out-TypeDef t).nested)
      (list_all (λ v. is_own a top (out-TypeDef v) && are_types a false depth (out-TypeDef v).nested) us) m in
      let own = and_parts (is_own a top (out-TypeDef t)) (are_types a false depth (out-TypeDef t).nested) ms.0 in
      let hs = and_parts (is_typedef_held t) (list_all is_typedef_held us) h in
      let sum = sum_by-cons typedef_weight t us in
      let here : typedef_weight t ≤ 2 ^ 26 = omega arith in
      let later : sum_by typedef_weight us ≤ 2 ^ 26 = omega arith in
      (is_nested t own.0 own.1 hs.0 here f.0, each us ms.1 hs.1 later f.1)

  all : EachNested a top depth outer ts
  unfolding are_types
  all =
      let ms = and_parts _ _ nested.formed in
      each ts ms.1 nested.held nested.light (all_first ts ms.0)

no_types : (a : Assembly) (top : Bool) (ts : List TypeDef) → are_types a top zero ts ≡ true → ts ≡ []
unfolding are_types
no_types a top [] h = refl
no_types a top (t ∷ ts) h = let none = eqb-true (suc (length ts)) 0 h in absurd (omega arith)

pub types_are_formed : TypesAreFormed
types_are_formed = record {
  none = λ a top outer ts nested. no_types a top ts nested.formed;
  each = λ a top depth outer ts nested. all a top depth outer ts nested;
}
