-- The places to which the types of a declaration lead, one type after the other.
use Rattle.std.proofs.Common.{◌≡◌, inl, inr, refl, sym, ◌∙◌, ap, subst, ℕ, zero, suc, ◌+◌, ◌<◌, arith, List, [], ◌∷◌, ◌++◌, length, take, get_or, Option, None, Some, cond}
use Rattle.std.specs.Prelude.{slice_get, Result, Ok, Err, OnOk, IfOk}
use Rattle.std.specs.List.{Contains}
use Rattle.std.proofs.lemmas.Bool.{cases_Bool}
use Rattle.std.proofs.lemmas.List.{append_assoc, append-nil, length-append, take_more, get_or_push, get_or_append_left}
use Rattle.std.proofs.lemmas.List.Elements.{Contains-append_left, Contains-append_right, Contains-append_cases}
use Rattle.std.proofs.lemmas.Option.{slice_get_within, slice_get_cases}
use Rattle.type_terms.specs.declared.name.TypeName.{TypeName}
use Rattle.type_terms.specs.declared.term.SigType.{SigType}
use Rattle.type_hierarchy.specs.Ancestors.{Step, to_base, to_interface, to_chain, name_in}
use Rattle.type_hierarchy.specs.Hierarchy.{Hierarchy, Declaration}
use Rattle.type_hierarchy.specs.Distinct.{AreOnce}
use Rattle.type_tables.specs.Landings.{AreSteps, AddsPlaces, HaveSteps, IsListed, IsTypeLanding, TypeLandsAt, bases}
use Rattle.type_hierarchy.specs.Names.{same_name}
use Rattle.type_hierarchy.specs.Reading.{as_list}
use Rattle.type_hierarchy.specs.Tables.{declaration, declaration_in, entry_in, entry_of, hierarchy_in}
use Rattle.type_hierarchy.specs.declared.tables.Declared.{Declared}
use Rattle.type_hierarchy.specs.declared.tables.Tables.{Tables}
use Rattle.type_hierarchy.proofs.ChainLemmas.{snoc_cases}
use Rattle.type_tables.proofs.LandingLemmas.{some_none, some_same, type_landing_one}
use Rattle.type_hierarchy.proofs.QueueLemmas.{no_ids}
use Rattle.type_tables.proofs.ReachLemmas.{steps_from}
use Rattle.type_hierarchy.proofs.TableLemmas.{entry_at, name_decides}

none_of : {X : Type 0} (x : X) → Contains [] x → ⊥
none_of x (k, h, e) = omega arith

one_of : {X : Type 0} (x y : X) → Contains (x ∷ []) y → x ≡ y
one_of x y (zero, h, e) = e
one_of x y (suc k, h, e) = absurd (omega arith)

-- ---- what holds at a good end

pub on_ok : {T E : Type 0} (r : Result T E) (P Q : Type 0) → (P → Q) → OnOk r P → OnOk r Q
on_ok (Ok x) P Q f p = f p
on_ok (Err e) P Q f p = tt

pub if_ok : {T E : Type 0} (r : Result T E) (P Q : T → Type 0) → ((x : T) → P x → Q x) → IfOk r P → IfOk r Q
if_ok (Ok x) P Q f p = f x p
if_ok (Err e) P Q f p = tt

-- ---- one type, and more

module _ (w : Hierarchy) (names : List TypeName) where
  pub places_none : (old : List ℕ) → AddsPlaces w names [] old old
  places_none old = record {
    more = [];
    is = sym (append-nil old);
    only = λ j c. absurd (no_ids j c);
    has = λ t j c at. absurd (none_of t c);
  }

  -- one that leads to no place
  pub places_nowhere : (t : SigType) (old : List ℕ) → IsTypeLanding w names t None → AddsPlaces w names (t ∷ []) old old
  places_nowhere t old never = record {
    more = [];
    is = sym (append-nil old);
    only = λ j c. absurd (no_ids j c);
    has = λ u j c at. absurd (never j (subst (λ (v : SigType). TypeLandsAt w names v j) (sym (one_of t u c)) at));
  }

  pub places_one : (t : SigType) (k : ℕ) (old new : List ℕ) → AreOnce names → IsTypeLanding w names t (Some k) → new ≡ old ++ k ∷ [] → AddsPlaces w names (t ∷ []) old new
  places_one t k old new once at e = record {
    more = k ∷ [];
    is = e;
    only = λ j c. (t, (0, omega arith, refl), subst (λ (i : ℕ). TypeLandsAt w names t i) (one_of k j c) at);
    has = λ u j c land. (0, omega arith, type_landing_one w names t k j once at (subst (λ (v : SigType). TypeLandsAt w names v j) (sym (one_of t u c)) land));
  }

  pub places_both : (ts us : List SigType) (old middle new : List ℕ) → AddsPlaces w names ts old middle → AddsPlaces w names us middle new → AddsPlaces w names (ts ++ us) old new
  places_both ts us old middle new a b = record {
    more = a.more ++ b.more;
    is = b.is ∙ ap (λ l. l ++ b.more) a.is ∙ append_assoc old a.more b.more;
    only = λ j c. elim (Contains-append_cases a.more b.more j c) [
      | inl d ↦ let x = a.only j d in (x.0, Contains-append_left ts us x.0 x.1, x.2)
      | inr d ↦ let x = b.only j d in (x.0, Contains-append_right ts us x.0 x.1, x.2)
    ];
    has = λ t j c at. elim (Contains-append_cases ts us t c) [
      | inl d ↦ Contains-append_left a.more b.more j (a.has t j d at)
      | inr d ↦ Contains-append_right a.more b.more j (b.has t j d at)
    ];
  }

  pub places_next : (ts : List SigType) (i : ℕ) (t : SigType) (old middle new : List ℕ) → AddsPlaces w names (take i ts) old middle → AddsPlaces w names (t ∷ []) middle new
      → i < length ts → t ≡ get_or ts i t → AddsPlaces w names (take (i + 1) ts) old new
  places_next ts i t old middle new a b low e =
      subst (λ (us : List SigType). AddsPlaces w names us old new) (ap (λ u. take i ts ++ u ∷ []) e ∙ sym (take_more ts i t low)) (places_both (take i ts) (t ∷ []) old middle new a b)

  -- ---- declarations

  pub have_none : HaveSteps w names [] []
  have_none = record { paired = refl; each = λ k d e. absurd (let h : ⊥ = cc in h) }

  have_push : (entries : List Declared) (d : Declared) (all : List (List ℕ)) (nexts : List ℕ) → HaveSteps w names entries all → AddsPlaces w names (bases d) [] nexts
      → HaveSteps w names (entries ++ d ∷ []) (all ++ nexts ∷ [])
  have_push entries d all nexts h a = record {
    paired = length-append all (nexts ∷ []) ∙ ap (λ n. n + 1) h.paired ∙ sym (length-append entries (d ∷ []));
    each = λ k u e. elim (snoc_cases entries d u k e) [
      | inl old ↦
          let low = slice_get_within entries k u old in
          let paired : length all ≡ length entries = h.paired in
          subst (λ (l : List ℕ). AddsPlaces w names (bases u) [] l) (sym (get_or_append_left all (nexts ∷ []) [] k (omega arith))) (h.each k u old)
      | inr new ↦
          let is : get_or (all ++ nexts ∷ []) k [] ≡ nexts = get_or_push all nexts [] k (h.paired ∙ sym new.0) in
          subst (λ (l : List ℕ). AddsPlaces w names (bases u) [] l) (sym is) (subst (λ (v : Declared). AddsPlaces w names (bases v) [] nexts) (sym new.1) a)
    ];
  }

  pub have_next : (entries : List Declared) (i : ℕ) (d : Declared) (all more : List (List ℕ)) (nexts : List ℕ) → HaveSteps w names (take i entries) all → i < length entries → d ≡ get_or entries i d
      → AddsPlaces w names (bases d) [] nexts → more ≡ all ++ nexts ∷ [] → HaveSteps w names (take (i + 1) entries) more
  have_next entries i d all more nexts h low is a e =
      subst (λ (l : List (List ℕ)). HaveSteps w names (take (i + 1) entries) l) (sym e)
      (subst (λ (es : List Declared). HaveSteps w names es (all ++ nexts ∷ [])) (ap (λ u. take i entries ++ u ∷ []) is ∙ sym (take_more entries i d low))
      (have_push (take i entries) d all nexts h a))

  -- ---- steps by places

  -- the declaration of the name at each place stands there
  pub record IsRow (entries : List Declared) : Type 0 where
    pub paired : length names ≡ length entries
    pub each : (k : ℕ) (name : TypeName) (d : Declared) → slice_get names k ≡ Some name → slice_get entries k ≡ Some d → w.declared name ≡ Some (declaration d)

  base_in : (o : Option SigType) (t : SigType) → o ≡ Some t → Contains (as_list o) t
  base_in None t e = absurd (let h : ⊥ = cc in h)
  base_in (Some b) t e = (0, omega arith, some_same refl e)

  in_base : (o : Option SigType) (t : SigType) → Contains (as_list o) t → o ≡ Some t
  in_base None t c = absurd (none_of t c)
  in_base (Some b) t c = ap Some (one_of b t c)

  there : {X : Type 0} (xs : List X) (k : ℕ) → k < length xs → (x : X) × (slice_get xs k ≡ Some x)
  there xs k low = elim ((slice_get_cases xs k).1) [
    | inl at ↦ (at.0, at.2)
    | inr past ↦ absurd (let p = past.0 in omega arith)
  ]

  step_of : (d : Declared) (name next : TypeName) (t : SigType) → w.declared name ≡ Some (declaration d) → Contains (bases d) t → name_in w t ≡ Some next → Step w name next
  step_of d name next t e c n = elim (Contains-append_cases (as_list d.base) d.interfaces t c) [
    | inl b ↦ to_base e (in_base d.base t b) n
    | inr i ↦ to_interface e i n
  ]

  -- what a step goes to is the base or an interface
  record IsStepOf (d : Declared) (next : TypeName) : Type 0 where
    t : SigType
    among : Contains (bases d) t
    named : name_in w t ≡ Some next

  of_step : (d : Declared) (name next : TypeName) → w.declared name ≡ Some (declaration d) → Step w name next → IsStepOf d next
  of_step d name next e (to_base {d = x} {b = b} f g n) =
      let same : x ≡ declaration d = some_same f e in
      record {
        t = b;
        among = Contains-append_left (as_list d.base) d.interfaces b (base_in d.base b (subst (λ (y : Declaration). y.base ≡ Some b) same g));
        named = n;
      }
  of_step d name next e (to_interface {d = x} {b = b} f g n) =
      let same : x ≡ declaration d = some_same f e in
      record {
        t = b;
        among = Contains-append_right (as_list d.base) d.interfaces b (subst (λ (y : Declaration). Contains y.interfaces b) same g);
        named = n;
      }
  of_step d name next e (to_chain f c) = absurd (some_none e f)

  pub row_steps : (entries : List Declared) (steps : List (List ℕ)) → IsRow entries → HaveSteps w names entries steps → AreSteps w names steps
  row_steps entries steps r h = record {
    paired = h.paired ∙ sym r.paired;
    only = λ i j s.
        let low : i < length steps = steps_from steps i j s in
        let first : length steps ≡ length entries = h.paired in
        let second : length names ≡ length entries = r.paired in
        let d = there entries i (omega arith) in
        let n = there names i (omega arith) in
        let a = h.each i d.0 d.1 in
        let x = a.only j (subst (λ (l : List ℕ). Contains l j) a.is s) in
        record { name = n.0; next = x.2.name; from = n.1; step = step_of d.0 n.0 x.2.name x.0 (r.each i n.0 d.0 n.1 d.1) x.1 x.2.is; to = x.2.to };
    all = λ i j leap.
        let low = slice_get_within names i leap.name leap.from in
        let second : length names ≡ length entries = r.paired in
        let d = there entries i (omega arith) in
        let a = h.each i d.0 d.1 in
        let x = of_step d.0 leap.name leap.next (r.each i leap.name d.0 leap.from d.1) leap.step in
        subst (λ (l : List ℕ). Contains l j) (sym a.is) (a.has x.t j x.among (record { name = leap.next; is = x.named; to = leap.to }));
  }

  pub row_listed : (entries : List Declared) → IsRow entries → AreOnce names → ((name : TypeName) (d : Declaration) → w.declared name ≡ Some d → (k : ℕ) × (slice_get names k ≡ Some name)) → IsListed w names
  row_listed entries r once find = record {
    named = λ k name at.
        let low = slice_get_within names k name at in
        let second : length names ≡ length entries = r.paired in
        let d = there entries k (omega arith) in
        (declaration d.0, r.each k name d.0 at d.1);
    found = find;
    once = once;
  }

-- ---- the names of tables

find_entry : (names : List TypeName) (entries : List Declared) (name : TypeName) (d : Declared) → entry_in names entries name ≡ Some d → (k : ℕ) × (slice_get names k ≡ Some name)
find_entry [] entries name d e = absurd (let h : ⊥ = cc in h)
find_entry (n ∷ names) [] name d e = absurd (let h : ⊥ = cc in h)
find_entry (n ∷ names) (x ∷ entries) name d e = elim (cases_Bool (same_name name n)) [
  | inl this ↦ (0, ap Some (sym ((name_decides name n).0 this)))
  | inr other ↦ let k = find_entry names entries name d (sym (ap (λ b. cond b (Some x) (entry_in names entries name)) other) ∙ e) in (suc k.0, k.1)
]

tables_row : (t : Tables) → length t.names ≡ length t.entries → AreOnce t.names → IsRow (hierarchy_in t) t.names t.entries
unfolding hierarchy_in entry_of
tables_row t paired once = record {
  paired = paired;
  each = λ k name d at is. ap declaration_in (entry_at t.names t.entries k name at (λ j h. once j k name h at) ∙ is);
}

tables_find : (t : Tables) (name : TypeName) (d : Declaration) → (hierarchy_in t).declared name ≡ Some d → (k : ℕ) × (slice_get t.names k ≡ Some name)
unfolding hierarchy_in entry_of
tables_find t name d e = go (entry_in t.names t.entries name) refl
  where
    go : (o : Option Declared) → entry_in t.names t.entries name ≡ o → (k : ℕ) × (slice_get t.names k ≡ Some name)
    go None f = absurd (let h : None ≡ Some d = ap declaration_in (sym f) ∙ e in let z : ⊥ = cc in z)
    go (Some x) f = find_entry t.names t.entries name x f

pub tables_listed : (t : Tables) → length t.names ≡ length t.entries → AreOnce t.names → IsListed (hierarchy_in t) t.names
tables_listed t paired once = row_listed (hierarchy_in t) t.names t.entries (tables_row t paired once) once (tables_find t)

pub tables_steps : (t : Tables) (steps : List (List ℕ)) → length t.names ≡ length t.entries → AreOnce t.names → HaveSteps (hierarchy_in t) t.names t.entries steps
    → AreSteps (hierarchy_in t) t.names steps
tables_steps t steps paired once h = row_steps (hierarchy_in t) t.names t.entries steps (tables_row t paired once) h
