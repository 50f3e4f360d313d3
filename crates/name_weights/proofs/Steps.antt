-- The weights of nodes while they are found, those with shorter paths first.
use Rattle.std.proofs.Common.{◌≡◌, ℕ, ◌+◌, ◌-◌, ◌^◌, ◌<◌, ◌≤◌, inl, inr, min, max, List, [], ◌∷◌, ◌++◌, length, get_or, set, sym, ◌∙◌, ap, subst, arith}
use Rattle.std.specs.Prelude.{sum_by}
use Rattle.std.proofs.lemmas.Bool.{cases_eq}
use Rattle.std.proofs.lemmas.List.{length-append, length-set, get_or-set_same, get_or-set_other}
use Rattle.std.proofs.lemmas.List.Sums.{sum_by-cons, sum_by-append}
use Rattle.assembly_tree.specs.Weight.{id_weight}
use Rattle.image_model.specs.Structure.{max_path}
use Rattle.name_numbers.specs.Names.{depth_at}
use Rattle.name_numbers.specs.declared.numbering.Named.{Named}
use Rattle.type_names.specs.Numbers.{NodeNames, IsNode, TellNames, length_of}
use Rattle.type_terms.specs.declared.name.Scope.{Scope}
use Rattle.type_terms.specs.declared.name.TypeId.{TypeId}
use Rattle.name_weights.specs.declared.parts.Part.{Part}
use Rattle.name_weights.specs.Weights.{path_weight, named_count, IsMade, IsPart, HasLevel, IsDeepest, AreWeighed, AreWeights}

-- ---- levels

pub level_told : (image : List ℕ) (named : List Named) (k : ℕ) → TellNames image named → IsNode image k → (level : ℕ) → level ≡ length_of named k → HasLevel image k level
level_told image named k tell node level e scope path names few =
    let some : 0 < depth_at named k = (tell.has k node).1 (scope, path, names, few) in
    let d = tell.depth k scope path node some names in
    omega (arith, e, d)

pub none_deep : (image : List ℕ) → IsDeepest image 0 1
none_deep image k scope path node less names few = absurd (let n = node.0 in omega (arith, n, less))

pub deeper : (image : List ℕ) (deepest k level now : ℕ) → now ≡ max level deepest → HasLevel image k level → IsDeepest image deepest k → IsDeepest image now (k + 1)
deeper image deepest k level now e has before j scope path node less names few = elim (cases_eq j k) [
  | inl is ↦ let l = has scope path (subst (λ (z : ℕ). NodeNames image z scope path) is names) few in omega (arith, e, l)
  | inr other ↦ let b = before j scope path node (omega (arith, less, other)) names few in omega (arith, e, b)
]

-- ---- weights

-- a path is made of something
made_long : {image : List ℕ} {part : Part} {scope : Scope} {path : List TypeId} → IsMade image part scope path → 0 < length path
made_long m = let l = ap length m.is ∙ length-append m.before (m.id ∷ []) in omega (arith, l)

sum_more : (before : List TypeId) (id : TypeId) → sum_by id_weight (before ++ id ∷ []) ≡ sum_by id_weight before + id_weight id
sum_more before id =
    let s = sum_by-append id_weight before (id ∷ []) in
    let c = sum_by-cons id_weight id [] in
    omega (arith, s, c)

pub weighed_one : (image : List ℕ) (level k now : ℕ) (weights : List ℕ) (part : Part) (scope : Scope) (path : List TypeId) → AreWeighed image level k weights → IsMade image part scope path
    → length path ≡ level + 1 → length path ≤ max_path → now ≡ min (get_or weights part.outer 0 + part.own) (2 ^ 32 - 1) → now ≡ path_weight path
weighed_one image level k now weights part scope path are m long few e =
    let l : length path ≡ length m.before + 1 = ap length m.is ∙ length-append m.before (m.id ∷ []) in
    let own = m.own in
    let whole : sum_by id_weight path ≡ sum_by id_weight m.before + id_weight m.id = ap (sum_by id_weight) m.is ∙ sum_more m.before m.id in
    elim m.outer [
      | inl top ↦
          let zero : get_or weights part.outer 0 ≡ 0 = ap (λ (z : ℕ). get_or weights z 0) top.0 ∙ are.none in
          let empty : sum_by id_weight m.before ≡ 0 = ap (sum_by id_weight) top.1 in
          omega (arith, e, own, whole, zero, empty)
      | inr under ↦
          let w = are.each part.outer scope m.before under.0 under.1 (omega (arith, l, few)) (inl (omega (arith, l, long))) in
          omega (arith, e, own, whole, w)
    ]

-- a node is weighed
pub weighed_more : (image : List ℕ) (level k now : ℕ) (weights : List ℕ) (part : Part) → IsNode image k → HasLevel image k (level + 1) → IsPart image k part → AreWeighed image level k weights
    → now ≡ min (get_or weights part.outer 0 + part.own) (2 ^ 32 - 1) → AreWeighed image level (k + 1) (set weights k now)
weighed_more image level k now weights part node has is are e = record {
  long = length-set weights k now ∙ are.long;
  none = get_or-set_other weights k 0 now 0 (λ z. let n = node.0 in omega (arith, n, z)) ∙ are.none;
  each = λ j scope path there names few h. elim (cases_eq j k) [
    | inl same ↦
        let here : NodeNames image k scope path = subst (λ (z : ℕ). NodeNames image z scope path) same names in
        let long = has scope path here few in
        let within : k < length weights = let l = are.long in let n = node.1 in omega (arith, l, n) in
        ap (λ (z : ℕ). get_or (set weights k now) z 0) same ∙ get_or-set_same weights k now 0 within
        ∙ weighed_one image level k now weights part scope path are (is.made scope path here) (sym long) few e
    | inr other ↦
        get_or-set_other weights k j now 0 other
        ∙ are.each j scope path there names few (elim h [ inl low ↦ inl low | inr at ↦ inr (at.0, let u = at.1 in omega (arith, u, other)) ])
  ];
}

-- a node isn't to be weighed yet
pub weighed_past : (image : List ℕ) (level k at : ℕ) (weights : List ℕ) → HasLevel image k at → (at ≡ level + 1 → ⊥) → AreWeighed image level k weights → AreWeighed image level (k + 1) weights
weighed_past image level k at weights has other are = record {
  long = are.long;
  none = are.none;
  each = λ j scope path there names few h. elim h [
    | inl low ↦ are.each j scope path there names few (inl low)
    | inr now ↦ elim (cases_eq j k) [
      | inl same ↦
          let long = has scope path (subst (λ (z : ℕ). NodeNames image z scope path) same names) few in
          absurd (other (long ∙ now.0))
      | inr not ↦ are.each j scope path there names few (inr (now.0, let u = now.1 in omega (arith, u, not)))
    ]
  ];
}

-- at the first node, and behind the last
pub weighed_first : (image : List ℕ) (level : ℕ) (weights : List ℕ) → AreWeighed image level 0 weights → AreWeighed image level 1 weights
weighed_first image level weights are = record {
  long = are.long;
  none = are.none;
  each = λ j scope path there names few h. are.each j scope path there names few (elim h [ inl low ↦ inl low | inr now ↦ absurd (let n = there.0 in let u = now.1 in omega (arith, n, u)) ]);
}

pub weighed_last : (image : List ℕ) (level next upto : ℕ) (weights : List ℕ) → next ≡ level + 1 → upto ≡ named_count image + 1 → AreWeighed image level upto weights → AreWeighed image next 0 weights
weighed_last image level next upto weights e end are = record {
  long = are.long;
  none = are.none;
  each = λ j scope path there names few h. elim (cases_eq (length path) (level + 1)) [
    | inl at ↦ are.each j scope path there names few (inr (at, let n = there.1 in omega (arith, n, end)))
    | inr other ↦ are.each j scope path there names few (inl (elim h [ inl low ↦ omega (arith, low, e, other) | inr now ↦ absurd (let u = now.1 in omega (arith, u)) ]))
  ];
}

-- before any is weighed
pub weighed_none : (image : List ℕ) (weights : List ℕ) → length weights ≡ named_count image + 1 → get_or weights 0 0 ≡ 0
    → ((k : ℕ) (scope : Scope) (path : List TypeId) → NodeNames image k scope path → 0 < length path) → AreWeighed image 0 0 weights
weighed_none image weights long none some = record {
  long = long;
  none = none;
  each = λ j scope path there names few h. let l = some j scope path names in elim h [ inl low ↦ absurd (omega (arith, l, low)) | inr now ↦ absurd (let u = now.1 in omega (arith, u)) ];
}

-- all are weighed
pub weighed_all : (image : List ℕ) (levels deepest upto : ℕ) (weights : List ℕ) → levels ≡ min deepest 100 → upto ≡ named_count image + 1 → IsDeepest image deepest upto
    → ((k : ℕ) (scope : Scope) (path : List TypeId) → IsNode image k → NodeNames image k scope path → length path ≤ max_path) → AreWeighed image levels 0 weights → AreWeights image weights
weighed_all image levels deepest upto weights e end deep all are = record {
  long = are.long;
  each = λ k scope path there names.
      let few = all k scope path there names in
      are.each k scope path there names few (inl (let d = deep k scope path there (let n = there.1 in omega (arith, n, end)) names few in omega (arith, e, d, few)));
}
