-- The first type of a path is the one that the path leads to.
use Rattle.std.proofs.Common.{◌≡◌, ℕ, zero, suc, ◌&&◌, ◌||◌, not, nat_eq, Bool, true, false, cond, inl, inr, List, [], ◌∷◌, ◌++◌, length, Option, None, Some, refl, ap, sym, subst, ◌∙◌, append-nil, append_assoc, arith}
use Rattle.std.proofs.lemmas.Bool.{and_parts, cases_Bool, eqb-true, false≢true, true≢false}
use Rattle.std.specs.List.{list_all, list_any}
use Rattle.std.specs.Prelude.{find, option_map}
use lib.Pointwise.{pointwise, bytes_decides}
use Rattle.type_terms.specs.declared.name.TypeId.{TypeId}
use Rattle.assembly_tree.specs.DataSize.{is_id, named, with_type, type_below, type_at}
use Rattle.assembly_tree.specs.WellFormedNames.{all_differ}
use Rattle.assembly_tree.specs.WellFormedTypes.{is_own, is_same_id, are_types}
use Rattle.assembly_tree.specs.declared.assembly.Assembly.{Assembly}
use Rattle.assembly_tree.specs.declared.typedef.Layout.{Layout}
use Rattle.assembly_tree.specs.declared.typedef.TypeDef.{TypeDef}
use Rattle.assembly_tree.specs.declared.typedef.TypeDef.TheFolds.{fold_out-TypeDef}
use Rattle.assembly_tree.specs.declared.typedef.TypeDef.TheViews.{out-TypeDef}
use Rattle.type_places.specs.Laws.{PathsLead}
use Rattle.type_places.specs.Places.{Placed, places_step, places_of, places, has_path, layout_found, layout_of}

-- ---- names

id_same : (i j : TypeId) → is_id i j ≡ true → i ≡ j
id_same i j h =
    let hs = and_parts (pointwise nat_eq i.space j.space) (pointwise nat_eq i.name j.name) h in
    let space = (bytes_decides i.space j.space).0 hs.0 in
    let name = (bytes_decides i.name j.name).0 hs.1 in
    λ k. record { space = space k; name = name k }

both : (x y : Bool) → x ≡ true → y ≡ true → (x && y) ≡ true
both true y h k = k
both false y h k = h

pub id_own : (i : TypeId) → is_id i i ≡ true
id_own i = both _ _ ((bytes_decides i.space i.space).1 refl) ((bytes_decides i.name i.name).1 refl)

id_turned : (i j : TypeId) → is_id i j ≡ false → is_id j i ≡ false
id_turned i j e = elim (cases_Bool (is_id j i)) [
  | inl is ↦ absurd (true≢false (sym (id_own i) ∙ subst (λ k. is_id i k ≡ false) (id_same j i is) e))
  | inr other ↦ other
]

abbrev pub is_path : List TypeId → List TypeId → Bool
is_path p q = pointwise is_id p q

-- what two paths have before them plays no part
pub past_outer : (outer p q : List TypeId) → is_path (outer ++ p) (outer ++ q) ≡ is_path p q
past_outer [] p q = refl
past_outer (i ∷ outer) p q = ap (λ c. c && is_path (outer ++ p) (outer ++ q)) (id_own i) ∙ past_outer outer p q

-- ---- the first of two lists

abbrev or_later : Option (Option Layout) → Option (Option Layout) → Option (Option Layout)
or_later None later = later
or_later (Some l) later = Some l

found_join : (path : List TypeId) (xs ys : List Placed) → layout_found path (xs ++ ys) ≡ or_later (layout_found path xs) (layout_found path ys)
found_join path [] ys = refl
found_join path (x ∷ xs) ys = by (has_path path x) (found_join path xs ys)
  where
    by : (c : Bool) → layout_found path (xs ++ ys) ≡ or_later (layout_found path xs) (layout_found path ys) →
        option_map (λ (q : Placed). q.layout) (cond c (Some x) (find (has_path path) (xs ++ ys)))
        ≡ or_later (option_map (λ (q : Placed). q.layout) (cond c (Some x) (find (has_path path) xs))) (layout_found path ys)
    by true e = refl
    by false e = e

-- the first or those behind it
found_first : (path : List TypeId) (x : Placed) (xs : List Placed) → has_path path x ≡ true → layout_found path (x ∷ xs) ≡ Some x.layout
found_first path x xs e = ap (λ (c : Bool). option_map (λ (q : Placed). q.layout) (cond c (Some x) (find (has_path path) xs))) e

found_behind : (path : List TypeId) (x : Placed) (xs : List Placed) → has_path path x ≡ false → layout_found path (x ∷ xs) ≡ layout_found path xs
found_behind path x xs e = ap (λ (c : Bool). option_map (λ (q : Placed). q.layout) (cond c (Some x) (find (has_path path) xs))) e

-- ---- types by their names

pub none_same : (b c : Bool) → not (b || c) ≡ true → (b ≡ false) × (not c ≡ true)
none_same true c h = absurd (false≢true h)
none_same false c h = (refl, h)

-- a name that no other has isn't found among them
pub none_named : (t : TypeDef) (ts : List TypeDef) → not (list_any (is_same_id t) ts) ≡ true → named (out-TypeDef t).id ts ≡ None
none_named t [] h = refl
none_named t (u ∷ us) h =
    let hs = none_same (is_same_id t u) (list_any (is_same_id t) us) h in
    ap (λ (c : Bool). cond c (Some u) (named (out-TypeDef t).id us)) hs.0 ∙ none_named t us hs.1

-- ---- one type

module _ (t : TypeDef) where
  abbrev pub id : TypeId
  id = (out-TypeDef t).id

  abbrev pub inner : List TypeId → List TypeId
  inner outer = outer ++ id ∷ []

  abbrev pub own : List TypeId → Placed
  own outer = record { path = inner outer; layout = (out-TypeDef t).layout }

  pub places_out : (outer : List TypeId) → places_of t outer ≡ own outer ∷ places (inner outer) (out-TypeDef t).nested
  unfolding places_of
  places_out outer = ap (λ g. g outer) (fold_out-TypeDef (List TypeId → List Placed) places_step t)

-- ---- paths that lead elsewhere

abbrev pub IsOff : List TypeId → List TypeId → Type 0
IsOff outer path = (more : List TypeId) → is_path (outer ++ more) path ≡ false

off_beside : (outer : List TypeId) (i j : TypeId) (more : List TypeId) → is_id i j ≡ false → IsOff (outer ++ i ∷ []) (outer ++ j ∷ more)
off_beside outer i j more e rest =
    ap (λ q. is_path q (outer ++ j ∷ more)) (append_assoc outer (i ∷ []) rest)
    ∙ (past_outer outer (i ∷ rest) (j ∷ more) ∙ ap (λ c. c && is_path rest more) e)

-- a path that none leads to from there, but for what stands there itself
abbrev pub IsBeyond : List TypeId → List TypeId → Type 0
IsBeyond outer path = (i : TypeId) (more : List TypeId) → is_path (outer ++ i ∷ more) path ≡ false

beyond_inside : (outer path : List TypeId) (i : TypeId) → IsBeyond outer path → IsBeyond (outer ++ i ∷ []) path
beyond_inside outer path i h j more = ap (λ q. is_path q path) (append_assoc outer (i ∷ []) (j ∷ more)) ∙ h i (j ∷ more)

module _ (a : Assembly) where
  abbrev pub Passes : Bool → ℕ → TypeDef → Bool
  Passes top depth t = is_own a top (out-TypeDef t) && are_types a false depth (out-TypeDef t).nested

  abbrev pub NoneBeyond : List TypeDef → Type 0
  NoneBeyond ts = (outer path : List TypeId) → IsBeyond outer path → layout_found path (places outer ts) ≡ None

  one_beyond : (t : TypeDef) → NoneBeyond (out-TypeDef t).nested → (outer path : List TypeId) → is_path (inner t outer) path ≡ false → IsBeyond (inner t outer) path →
      layout_found path (places_of t outer) ≡ None
  one_beyond t deeper outer path here h =
      ap (layout_found path) (places_out t outer)
      ∙ (found_behind path (own t outer) (places (inner t outer) (out-TypeDef t).nested) here ∙ deeper (inner t outer) path h)

  pub none_beyond : (depth : ℕ) (top : Bool) (ts : List TypeDef) → are_types a top depth ts ≡ true → NoneBeyond ts
  unfolding are_types
  none_beyond zero top [] m outer path h = refl
  none_beyond zero top (t ∷ ts) m outer path h = let none = eqb-true (suc (length ts)) 0 m in absurd (omega arith)
  none_beyond (suc depth) top ts m outer path h = go (λ us n. none_beyond depth false us n) ts (and_parts _ _ m).1 outer path h
    where
      go : ((us : List TypeDef) → are_types a false depth us ≡ true → NoneBeyond us) → (us : List TypeDef) → list_all (Passes top depth) us ≡ true → NoneBeyond us
      go deeper [] mm outer path h = refl
      go deeper (t ∷ us) mm outer path h =
          let ms = and_parts (Passes top depth t) (list_all (Passes top depth) us) mm in
          let own = and_parts (is_own a top (out-TypeDef t)) (are_types a false depth (out-TypeDef t).nested) ms.0 in
          found_join path (places_of t outer) (places outer us)
          ∙ (ap (λ o. or_later o (layout_found path (places outer us))) (one_beyond t (deeper (out-TypeDef t).nested own.1) outer path (h (id t) []) (beyond_inside outer path (id t) h))
          ∙ go deeper us ms.1 outer path h)

  one_off : (t : TypeDef) → NoneBeyond (out-TypeDef t).nested → (outer path : List TypeId) → IsOff (inner t outer) path → layout_found path (places_of t outer) ≡ None
  one_off t deeper outer path off =
      let bare : is_path (inner t outer) path ≡ false = ap (λ q. is_path q path) (sym (append-nil (inner t outer))) ∙ off [] in
      one_beyond t deeper outer path bare (λ i more. off (i ∷ more))

  -- ---- paths that lead to types

  abbrev pub Leads : List TypeDef → Type 0
  Leads ts = (outer : List TypeId) (i : TypeId) (more : List TypeId) → layout_found (outer ++ i ∷ more) (places outer ts) ≡ layout_of (type_at ts (i ∷ more))

  -- into a type
  one_leads : (t : TypeDef) → Leads (out-TypeDef t).nested → (outer more : List TypeId) → layout_found (outer ++ id t ∷ more) (places_of t outer) ≡ layout_of (type_below more t)
  one_leads t deeper outer [] =
      let here : is_path (inner t outer) (outer ++ id t ∷ []) ≡ true = past_outer outer (id t ∷ []) (id t ∷ []) ∙ both (is_id (id t) (id t)) true (id_own (id t)) refl in
      ap (layout_found (outer ++ id t ∷ [])) (places_out t outer) ∙ found_first (outer ++ id t ∷ []) (own t outer) (places (inner t outer) (out-TypeDef t).nested) here
  one_leads t deeper outer (j ∷ more) =
      let path = outer ++ id t ∷ (j ∷ more) in
      let not_here : is_path (inner t outer) path ≡ false = past_outer outer (id t ∷ []) (id t ∷ (j ∷ more)) ∙ ap (λ c. c && false) (id_own (id t)) in
      ap (layout_found path) (places_out t outer)
      ∙ (found_behind path (own t outer) (places (inner t outer) (out-TypeDef t).nested) not_here
      ∙ (ap (λ q. layout_found q (places (inner t outer) (out-TypeDef t).nested)) (sym (append_assoc outer (id t ∷ []) (j ∷ more))) ∙ deeper (inner t outer) j more))

  -- to a type or to one behind it
  first_leads : (t : TypeDef) (us : List TypeDef) → not (list_any (is_same_id t) us) ≡ true → Leads (out-TypeDef t).nested →
      NoneBeyond (out-TypeDef t).nested → Leads us → Leads (t ∷ us)
  first_leads t us alone inside off later outer i more = elim (cases_Bool (is_id i (id t))) [
    | inl is ↦
        let same : i ≡ id t = id_same i (id t) is in
        let none : layout_found (outer ++ id t ∷ more) (places outer us) ≡ None = later outer (id t) more ∙ ap (λ o. layout_of (with_type (type_below more) o)) (none_named t us alone) in
        found_join (outer ++ i ∷ more) (places_of t outer) (places outer us)
        ∙ (ap (λ j. or_later (layout_found (outer ++ j ∷ more) (places_of t outer)) (layout_found (outer ++ j ∷ more) (places outer us))) same
        ∙ (ap (or_later (layout_found (outer ++ id t ∷ more) (places_of t outer))) none
        ∙ (or_none (layout_found (outer ++ id t ∷ more) (places_of t outer))
        ∙ (one_leads t inside outer more
        ∙ sym (ap (λ (c : Bool). layout_of (with_type (type_below more) (cond c (Some t) (named i us)))) is)))))
    | inr other ↦
        found_join (outer ++ i ∷ more) (places_of t outer) (places outer us)
        ∙ (ap (λ o. or_later o (layout_found (outer ++ i ∷ more) (places outer us)))
        (one_off t off outer (outer ++ i ∷ more) (off_beside outer (id t) i more (id_turned i (id t) other)))
        ∙ (later outer i more
        ∙ sym (ap (λ (c : Bool). layout_of (with_type (type_below more) (cond c (Some t) (named i us)))) other)))
  ]
    where
      or_none : (o : Option (Option Layout)) → or_later o None ≡ o
      or_none None = refl
      or_none (Some l) = refl

  pub all_lead : (depth : ℕ) (top : Bool) (ts : List TypeDef) → are_types a top depth ts ≡ true → Leads ts
  unfolding are_types
  all_lead zero top [] m outer i more = refl
  all_lead zero top (t ∷ ts) m outer i more = let none = eqb-true (suc (length ts)) 0 m in absurd (omega arith)
  all_lead (suc depth) top ts m outer i more = go (λ us n. all_lead depth false us n) ts (and_parts _ _ m).0 (and_parts _ _ m).1 outer i more
    where
      go : ((us : List TypeDef) → are_types a false depth us ≡ true → Leads us) → (us : List TypeDef) → all_differ is_same_id us ≡ true → list_all (Passes top depth) us ≡ true → Leads us
      go deeper [] d mm outer i more = refl
      go deeper (t ∷ us) d mm outer i more =
          let ds = and_parts (not (list_any (is_same_id t) us)) (all_differ is_same_id us) d in
          let ms = and_parts (Passes top depth t) (list_all (Passes top depth) us) mm in
          let own = and_parts (is_own a top (out-TypeDef t)) (are_types a false depth (out-TypeDef t).nested) ms.0 in
          first_leads t us ds.0 (deeper (out-TypeDef t).nested own.1) (none_beyond depth false (out-TypeDef t).nested own.1) (go deeper us ds.1 ms.1) outer i more

-- an empty path leads nowhere
bare_beyond : IsBeyond [] []
bare_beyond i more = refl

pub paths_lead : PathsLead
paths_lead a top depth ts m [] = none_beyond a depth top ts m [] [] bare_beyond
paths_lead a top depth ts m (i ∷ more) = all_lead a depth top ts m [] i more
