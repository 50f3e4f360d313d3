-- Which names are value types, one declared type after the other.
use Rattle.std.proofs.Common.{◌≡◌, ◌∙◌, ◌⊎◌, ap, sym, refl, inl, inr, arith, None, Some, ℕ, suc, ◌+◌, ◌<◌, ◌≤◌, Bool, true, false, ◌&&◌, ◌||◌, not, List, [], ◌∷◌, length, Option}
use Rattle.std.specs.Prelude.{slice_get}
use Rattle.std.proofs.lemmas.Bool.{cases_Bool, cases_lt}
use Rattle.std.proofs.lemmas.Option.{same_Some, slice_get_within}
use Rattle.type_terms.specs.declared.name.Scope.{Scope}
use Rattle.type_terms.specs.declared.name.TypeId.{TypeId}
use Rattle.type_terms.specs.declared.name.TypeName.{TypeName}
use Rattle.assembly_tree.specs.declared.typedef.TypeDef.{TypeDef}
use Rattle.assembly_tree.specs.declared.typedef.TypeDef.TheViews.{out-TypeDef}
use Rattle.type_tables.specs.Building.{AreValues}
use Rattle.type_hierarchy.specs.Declarations.{Place, base_is_in, has_base, is_value_type, place_of, valuetype_names}
use Rattle.type_hierarchy.specs.Gathered.{scope_by, with_name}
use Rattle.type_tables.specs.Members.{IsScopes}
use Rattle.type_hierarchy.specs.Names.{is_among, same_name, the_enum, the_value_type}
use Rattle.type_tables.specs.Placed.{Row, Stands}
use Rattle.type_tables.specs.Places.{ArePlaces, IsPlace}
use Rattle.type_hierarchy.specs.Reading.{is_value_base}
use Rattle.type_hierarchy.specs.Scopes.{Sources, Member, core_of, scope_in}
use Rattle.type_hierarchy.specs.declared.meanings.Meanings.{Meanings}
use Rattle.type_tables.specs.declared.scopes.Scopes.{Scopes}
use Rattle.type_hierarchy.specs.declared.values.Values.{Values}
use Rattle.type_tables.proofs.MarkLemmas.{among_with}
use Rattle.type_tables.proofs.PlaceLemmas.{declared_among}
use Rattle.type_tables.proofs.SoFar.{meaning_at}
use Rattle.type_hierarchy.proofs.TableLemmas.{name_decides}

-- whether a name is declared with the core's ValueType or Enum as its base
abbrev pub is_based : Sources → TypeName → Bool
is_based s name = has_base s the_value_type (place_of s name) || has_base s the_enum (place_of s name)

-- the names with `valuetype` before them, and those of the first `k` declared types that have such a base
pub record AreFound (s : Sources) (r : Row) (k : ℕ) (names : List TypeName) : Type 0 where
  pub sound : (name : TypeName) → is_among names name ≡ true → (is_based s name || is_among (valuetype_names s) name) ≡ true
  pub marked : (name : TypeName) → is_among (valuetype_names s) name ≡ true → is_among names name ≡ true
  pub based : (j : ℕ) (name : TypeName) → j < k → slice_get r.names j ≡ Some name → is_based s name ≡ true → is_among names name ≡ true

or_true : (a b : Bool) → b ≡ true → (a || b) ≡ true
or_true true b h = refl
or_true false b h = h

or_cases : (a b : Bool) → (a || b) ≡ true → (a ≡ true) ⊎ (b ≡ true)
or_cases true b h = inl refl
or_cases false b h = inr h

pub found_none : (s : Sources) (r : Row) (names : List TypeName) → ((name : TypeName) → is_among names name ≡ is_among (valuetype_names s) name) → AreFound s r 0 names
found_none s r names e = record {
  sound = λ name h. or_true (is_based s name) (is_among (valuetype_names s) name) (sym (e name) ∙ h);
  marked = λ name h. e name ∙ h;
  based = λ j name low at h. absurd (omega (arith, low));
}

-- whether the base of the type at a place is such a class, by what is kept
module _ (s : Sources) (z : Scopes) (r : Row) (ok : IsScopes s z) (places : ArePlaces s r) (k at : ℕ) (name : TypeName) (t : TypeDef) (means : Meanings)
    (stands : Stands r k name at t) (meant : slice_get z.meanings at ≡ Some means) where
  abbrev pub place : IsPlace s name at t
  place = places.each k at name t stands

  abbrev pub this : Member
  this = place.member

  pub meaning : (scope : Scope) → scope_by means scope ≡ scope_in s this scope
  meaning = meaning_at s z at this means ok place.in_member meant

  pub scopes_same : scope_by means ≡ scope_in s this
  scopes_same = λ i scope. meaning scope i

  pub base_same : (path : List TypeId) → base_is_in z.core (scope_by means) path (out-TypeDef t).extends ≡ has_base s path (place_of s name)
  base_same path =
      (λ i. base_is_in (ok.core i) (scopes_same i) path (out-TypeDef t).extends)
      ∙ ap (has_base s path) (sym place.is)

  pub based_same : (b : Bool) → b ≡ (base_is_in z.core (scope_by means) the_value_type (out-TypeDef t).extends || base_is_in z.core (scope_by means) the_enum (out-TypeDef t).extends)
      → b ≡ is_based s name
  based_same b e = e ∙ (λ i. base_same the_value_type i || base_same the_enum i)

-- one declared type more
pub found_more : (s : Sources) (r : Row) (k : ℕ) (name : TypeName) (now : List TypeName) → slice_get r.names k ≡ Some name → is_based s name ≡ true
    → AreFound s r k now → AreFound s r (k + 1) (with_name now name)
found_more s r k name now at yet before = record {
  sound = λ n h. elim (or_cases (is_among now n) (same_name n name) (sym (among_with now name n) ∙ h)) [
    | inl was ↦ before.sound n was
    | inr is ↦ ap (λ (m : TypeName). is_based s m || is_among (valuetype_names s) m) ((name_decides n name).0 is) ∙ ap (λ b. b || is_among (valuetype_names s) name) yet
  ];
  marked = λ n h. among_with now name n ∙ ap (λ b. b || same_name n name) (before.marked n h);
  based = λ j n low here h. among_with now name n ∙ elim (cases_lt j k) [
    | inl less ↦ ap (λ b. b || same_name n name) (before.based j n less here h)
    | inr least ↦
        let e : j ≡ k = omega (arith, low, least) in
        let same : n ≡ name = same_Some n name (sym here ∙ ap (slice_get r.names) e ∙ at) in
        or_true (is_among now n) (same_name n name) ((name_decides n name).1 same)
  ];
}

pub found_same : (s : Sources) (r : Row) (k : ℕ) (name : TypeName) (now : List TypeName) → slice_get r.names k ≡ Some name → is_based s name ≡ false
    → AreFound s r k now → AreFound s r (k + 1) now
found_same s r k name now at never before = record {
  sound = before.sound;
  marked = before.marked;
  based = λ j n low here h. elim (cases_lt j k) [
    | inl less ↦ before.based j n less here h
    | inr least ↦
        let e : j ≡ k = omega (arith, low, least) in
        let same : n ≡ name = same_Some n name (sym here ∙ ap (slice_get r.names) e ∙ at) in
        absurd (let t : is_based s name ≡ true = ap (is_based s) (sym same) ∙ h in let f : ⊥ = cc in f)
  ];
}

-- ---- all of them

same_bools : (a b : Bool) → (a ≡ true → b ≡ true) → (b ≡ true → a ≡ true) → a ≡ b
same_bools true b f g = sym (f refl)
same_bools false true f g = g refl
same_bools false false f g = refl

based_place : (s : Sources) (name : TypeName) (o : Option Place) → (has_base s the_value_type o || has_base s the_enum o) ≡ true → (p : Place) × (o ≡ Some p)
based_place s name None h = absurd (let f : ⊥ = cc in f)
based_place s name (Some p) h = (p, refl)

-- where a name is among others it has a place there
pub among_place : (names : List TypeName) (name : TypeName) → is_among names name ≡ true → (j : ℕ) × (slice_get names j ≡ Some name)
among_place [] name h = absurd (let f : ⊥ = cc in f)
among_place (n ∷ names) name h = elim (cases_Bool (same_name name n)) [
  | inl e ↦ (0, ap Some (sym ((name_decides name n).0 e)))
  | inr e ↦ let more = among_place names name (sym (ap (λ b. b || is_among names name) e) ∙ h) in (suc more.0, more.1)
]

pub values_all : (s : Sources) (r : Row) (k : ℕ) (v : Values) → v.core ≡ core_of s → ArePlaces s r → length r.names ≤ k → AreFound s r k v.names → AreValues s v
unfolding is_value_type
values_all s r k v core places past found = record {
  core = core;
  each = λ name.
      let either = is_based s name || is_among (valuetype_names s) name in
      let down : is_among v.names name ≡ true → either ≡ true = found.sound name in
      let back : either ≡ true → is_among v.names name ≡ true = λ h. elim (or_cases (is_based s name) (is_among (valuetype_names s) name) h) [
        | inl based ↦
            let p = based_place s name (place_of s name) based in
            let there = among_place r.names name (ap (λ l. is_among l name) places.names ∙ declared_among s name p.0 p.1) in
            found.based there.0 name (let low = slice_get_within r.names there.0 name there.1 in omega (arith, low, past)) there.1 based
        | inr marked ↦ found.marked name marked
      ] in
      λ i. not (is_value_base (core i) name) && same_bools (is_among v.names name) either down back i;
}
