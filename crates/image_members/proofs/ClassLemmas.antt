-- Types that are added in the order of their rows.
use Rattle.std.proofs.Common.{◌≡◌, ◌∙◌, ap, refl, sym, subst, ℕ, ◌+◌, ◌*◌, ◌-◌, ◌<◌, ◌≤◌, ◌^◌, List, [], ◌∷◌, ◌++◌, map, length, arith}
use Rattle.std.specs.List.{sum_by}
use Rattle.std.proofs.lemmas.List.{append-nil, append_assoc, length-append}
use Rattle.std.proofs.lemmas.List.Sums.{sum_by-cons, sum-map}
use Rattle.assembly_tree.specs.Nesting.{types_step, types_in}
use Rattle.assembly_tree.specs.Weight.{own_weight, typedef_step, typedef_weight, weight_of}
use Rattle.assembly_tree.specs.declared.assembly.Assembly.{Assembly}
use Rattle.assembly_tree.specs.declared.typedef.TypeDef.{TypeDef}
use Rattle.assembly_tree.specs.declared.typedef.TypeDef.TheViews.{out-TypeDef}
use Rattle.assembly_tree.specs.declared.typedef.TypeDef.TheFolds.{fold-roll-TypeDef, ind-TypeDef}
use Rattle.image_members.specs.Classes.{AreClasses, none, more, AddsClasses}
use Rattle.image_members.specs.declared.classes.Class.{Class}
use Rattle.image_members.proofs.NestLemmas.{types_in_out}

pub adds_none : (encloser : ℕ) (types : List TypeDef) (a : List Class) → types ≡ [] → AddsClasses encloser types a a
adds_none encloser types a e = record { more = []; is = sym (append-nil a); are = none e refl; count = sym (ap (sum_by types_in) e) }

-- a type, those that it nests, and those beside it
pub adds_more : (encloser : ℕ) (types beside : List TypeDef) (t : TypeDef) (class : Class) (a b c d : List Class) → types ≡ t ∷ beside → class.of.now ≡ t → class.encloser ≡ encloser
    → b ≡ a ++ class ∷ [] → AddsClasses (length a + 2) (out-TypeDef t).nested b c → AddsClasses encloser beside c d → AddsClasses encloser types a d
adds_more encloser types beside t class a b c d is of in_it one inner others =
    let long_b = ap (length {A = Class}) one ∙ length-append a (class ∷ []) in
    let long_c = ap (length {A = Class}) inner.is ∙ length-append b inner.more in
    let below : length b + 2 ≡ length a + 2 + 1 = omega arith in
    let behind : length c + 2 ≡ length a + 2 + 1 + length inner.more = omega arith in
    let its = types_in_out t in
    let all = ap (sum_by types_in) is ∙ sum_by-cons types_in t beside in
    let first = inner.count in
    let rest = others.count in
    let both = length-append inner.more others.more in
    record {
      more = class ∷ (inner.more ++ others.more);
      is = others.is ∙ ap (λ xs. xs ++ others.more) (inner.is ∙ ap (λ xs. xs ++ inner.more) one) ∙ append_assoc (a ++ class ∷ []) inner.more others.more
          ∙ append_assoc a (class ∷ []) (inner.more ++ others.more);
      are = more of in_it (subst (λ n. AreClasses (length a + 2) n (out-TypeDef t).nested inner.more) below inner.are)
          (subst (λ n. AreClasses encloser n beside others.more) behind others.are) is refl;
      count = omega arith;
    }

-- the types before `rest` are added, and there is room for the others
pub record AddsTo (encloser : ℕ) (old new : List Class) (types rest : List TypeDef) : Type 0 where
  pub on : (later : List Class) → AddsClasses encloser rest new later → AddsClasses encloser types old later
  pub room : length new + sum_by types_in rest < 2 ^ 24 - 2

pub adds_begin : (encloser : ℕ) (a : List Class) (types : List TypeDef) → length a + sum_by types_in types < 2 ^ 24 - 2 → AddsTo encloser a a types types
adds_begin encloser a types room = record { on = λ later h. h; room = room }

pub adds_fit : (encloser : ℕ) (a b c : List Class) (types rest beside : List TypeDef) (t : TypeDef) (class : Class) → rest ≡ t ∷ beside → AddsTo encloser a b types rest
    → c ≡ b ++ class ∷ [] → length c + sum_by types_in (out-TypeDef t).nested < 2 ^ 24 - 2
adds_fit encloser a b c types rest beside t class e l one =
    let long = ap (length {A = Class}) one ∙ length-append b (class ∷ []) in
    let its = types_in_out t in
    let all = ap (sum_by types_in) e ∙ sum_by-cons types_in t beside in
    let room = l.room in
    omega arith

pub adds_on : (encloser : ℕ) (a b c d : List Class) (types rest beside : List TypeDef) (t : TypeDef) (class : Class) → rest ≡ t ∷ beside → AddsTo encloser a b types rest
    → class.of.now ≡ t → class.encloser ≡ encloser → c ≡ b ++ class ∷ [] → AddsClasses (length b + 2) (out-TypeDef t).nested c d → AddsTo encloser a d types beside
adds_on encloser a b c d types rest beside t class e l of in_it one inner = record {
  on = λ later h. l.on later (adds_more encloser rest beside t class b c d later e of in_it one inner h);
  room =
      let long_c = ap (length {A = Class}) one ∙ length-append b (class ∷ []) in
      let long_d = ap (length {A = Class}) inner.is ∙ length-append c inner.more in
      let count = inner.count in
      let its = types_in_out t in
      let all = ap (sum_by types_in) e ∙ sum_by-cons types_in t beside in
      let room = l.room in
      omega arith;
}

pub adds_end : (encloser : ℕ) (a b : List Class) (types rest : List TypeDef) → rest ≡ [] → AddsTo encloser a b types rest → AddsClasses encloser types a b
adds_end encloser a b types rest e l = l.on b (adds_none encloser rest b e)

-- ---- each type weighs 64 at least

abbrev Weighs : TypeDef → Type 0
Weighs t = 64 * types_in t ≤ typedef_weight t

nested_weigh : (ts : List ((t : TypeDef) × Weighs t)) → 64 * sum_by types_in (map (λ e. e.0) ts) ≤ sum_by typedef_weight (map (λ e. e.0) ts)
nested_weigh [] = omega arith
nested_weigh (e ∷ ts) =
    let rest = nested_weigh ts in
    let one = e.1 in
    let count = sum_by-cons types_in e.0 (map (λ x. x.0) ts) in
    let all = sum_by-cons typedef_weight e.0 (map (λ x. x.0) ts) in
    omega arith

type_weighs : (t : TypeDef) → Weighs t
unfolding own_weight
type_weighs = ind-TypeDef Weighs (λ x y is.
    let inner = subst (λ z. 64 * sum_by types_in z.nested ≤ sum_by typedef_weight z.nested) is (nested_weigh y.nested) in
    let its_count = fold-roll-TypeDef ℕ types_step x in
    let its_weight = fold-roll-TypeDef ℕ typedef_step x in
    let counts = sum-map types_in x.nested in
    let weights = sum-map typedef_weight x.nested in
    omega arith)

types_weigh : (ts : List TypeDef) → 64 * sum_by types_in ts ≤ sum_by typedef_weight ts
types_weigh [] = omega arith
types_weigh (t ∷ ts) =
    let rest = types_weigh ts in
    let one = type_weighs t in
    let count = sum_by-cons types_in t ts in
    let all = sum_by-cons typedef_weight t ts in
    omega arith

pub few_types : (a : Assembly) → 64 * sum_by types_in a.types ≤ weight_of a
unfolding weight_of
few_types a = let types = types_weigh a.types in omega arith

-- all types of an assembly, from the second row on
pub all_classes : (lent types : List TypeDef) (a b : List Class) → a ≡ [] → lent ≡ types → AddsClasses 0 lent a b → AreClasses 0 2 types b × (length b ≡ sum_by types_in types)
all_classes lent types a b empty same h =
    let is : b ≡ h.more = h.is ∙ ap (λ xs. xs ++ h.more) empty in
    let row : length a + 2 ≡ 2 = ap (λ (xs : List Class). length xs + 2) empty in (
      subst (λ ts. AreClasses 0 2 ts b) same (subst (λ xs. AreClasses 0 2 lent xs) (sym is) (subst (λ n. AreClasses 0 n lent h.more) row h.are)),
      ap (length {A = Class}) is ∙ h.count ∙ ap (sum_by types_in) same,
    )
