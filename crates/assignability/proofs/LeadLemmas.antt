-- Steps by places lead back to a type exactly where steps lead back to its name.
use Rattle.std.proofs.Common.{◌≡◌, ◌⊎◌, inl, inr, refl, sym, subst, ℕ, ◌<◌, arith, List, length, None, Some}
use Rattle.std.specs.Prelude.{slice_get}
use Rattle.std.proofs.lemmas.Option.{slice_get_within}
use Rattle.type_terms.specs.declared.name.TypeName.{TypeName}
use Rattle.type_hierarchy.specs.Ancestors.{Step, to_base, to_interface, to_chain, Leads, one_step, step_more}
use Rattle.type_hierarchy.specs.Hierarchy.{Hierarchy, Declaration, chained}
use Rattle.type_tables.specs.Landings.{AreSteps, IsListed, Lands, here, along, LeapsTo}
use Rattle.type_tables.specs.Walks as walks
use Rattle.type_tables.proofs.LandingLemmas.{some_same}

-- ---- from places to names

lead_before : (w : Hierarchy) {a b c : TypeName} → Step w a b → Leads w b c → Leads w a c
lead_before w s (one_step t) = step_more (one_step s) t
lead_before w s (step_more l t) = step_more (lead_before w s l) t

pub lead_on : (w : Hierarchy) {a b c : TypeName} → Leads w a b → Leads w b c → Leads w a c
lead_on w l (one_step t) = step_more l t
lead_on w l (step_more k t) = step_more (lead_on w l k) t

-- one step and then along a core chain
lead_along : (w : Hierarchy) {a b c : TypeName} → Leads w a b → Lands w b c → Leads w a c
lead_along w l (here e) = l
lead_along w l (along e c r) = lead_along w (step_more l (to_chain e c)) r

pub leap_leads : (w : Hierarchy) (names : List TypeName) (i j : ℕ) (a b : TypeName) → slice_get names i ≡ Some a → slice_get names j ≡ Some b → LeapsTo w names i j → Leads w a b
leap_leads w names i j a b ea eb l =
    let way : Leads w l.name l.to.last = lead_along w (one_step l.step) l.to.lands in
    let same_first : l.name ≡ a = some_same l.from ea in
    let same_last : l.to.last ≡ b = some_same l.to.at eb in
    subst (λ (x : TypeName). Leads w x b) same_first (subst (λ (x : TypeName). Leads w l.name x) same_last way)

module _ (w : Hierarchy) (names : List TypeName) (steps : List (List ℕ)) (are : AreSteps w names steps) where
  pub places_lead : (i j : ℕ) (a b : TypeName) → slice_get names i ≡ Some a → slice_get names j ≡ Some b → walks.Leads steps i j → Leads w a b
  places_lead i j a b ea eb (walks.one_step s) = leap_leads w names i j a b ea eb (are.only i j s)
  places_lead i j a b ea eb (walks.step_more {middle = m} l s) =
      let leap = are.only m j s in
      lead_on w (places_lead i m a leap.name ea leap.from l) (leap_leads w names m j leap.name b leap.from eb leap)

-- ---- from names to places

-- a name and then along a core chain
data Along (w : Hierarchy) (y : TypeName) : TypeName → Type 0 where
  itself : Along w y y
  further : {x z : TypeName} → Along w y x → w.declared x ≡ None → chained w x ≡ Some z → Along w y z

lands_from : (w : Hierarchy) {y x last : TypeName} → Along w y x → Lands w x last → Lands w y last
lands_from w itself l = l
lands_from w (further a e c) l = lands_from w a (along e c l)

-- steps lead by places from place i to place m, none or more, from there one step, and then along a core chain to a name
record Under (w : Hierarchy) (names : List TypeName) (steps : List (List ℕ)) (i : ℕ) (x : TypeName) : Type 0 where
  m : ℕ
  before : (i ≡ m) ⊎ walks.Leads steps i m
  name : TypeName
  next : TypeName
  from : slice_get names m ≡ Some name
  step : Step w name next
  way : Along w next x

module _ (w : Hierarchy) (names : List TypeName) (steps : List (List ℕ)) (are : AreSteps w names steps) (listed : IsListed w names) where
  abbrev At : ℕ → TypeName → Type 0
  At i x = Under w names steps i x

  -- a declared name that is reached so stands at a place to which steps lead
  arrive : (i j : ℕ) (x : TypeName) → slice_get names j ≡ Some x → At i x → walks.Leads steps i j
  arrive i j x at u =
      let s : walks.StepsTo steps u.m j = are.all u.m j (record { name = u.name; next = u.next; from = u.from; step = u.step; to = record { last = x; lands = lands_from w u.way (here (listed.named j x at).1); at = at } }) in
      elim u.before [
        | inl same ↦ subst (λ (k : ℕ). walks.Leads steps k j) (sym same) (walks.one_step s)
        | inr l ↦ walks.step_more l s
      ]

  -- on from a declared name
  go_on_from : (i : ℕ) (x z : TypeName) (d : Declaration) → w.declared x ≡ Some d → At i x → Step w x z → At i z
  go_on_from i x z d e u s =
      let at = listed.found x d e in
      record { m = at.0; before = inr (arrive i at.0 x at.1 u); name = x; next = z; from = at.1; step = s; way = itself }

  go_on : (i : ℕ) (x z : TypeName) → At i x → Step w x z → At i z
  go_on i x z u (to_chain e c) = record { m = u.m; before = u.before; name = u.name; next = u.next; from = u.from; step = u.step; way = further u.way e c }
  go_on i x z u (to_base {d = d} e b n) = go_on_from i x z d e u (to_base e b n)
  go_on i x z u (to_interface {d = d} e b n) = go_on_from i x z d e u (to_interface e b n)

  reach : (i : ℕ) (a x : TypeName) → slice_get names i ≡ Some a → Leads w a x → At i x
  reach i a x at (one_step s) = record { m = i; before = inl refl; name = a; next = x; from = at; step = s; way = itself }
  reach i a x at (step_more {middle = m} l s) = go_on i m x (reach i a m at l) s

  pub names_lead : (i j : ℕ) (a b : TypeName) → slice_get names i ≡ Some a → slice_get names j ≡ Some b → Leads w a b → walks.Leads steps i j
  names_lead i j a b ea eb l = arrive i j b eb (reach i a b ea l)

-- each step is to a place
pub steps_within : (w : Hierarchy) (names : List TypeName) (steps : List (List ℕ)) → AreSteps w names steps → walks.IsWithin steps
steps_within w names steps are = record {
  below = λ i j s.
      let leap = are.only i j s in
      let low : j < length names = slice_get_within names j leap.to.last leap.to.at in
      let paired : length steps ≡ length names = are.paired in
      omega arith;
}
