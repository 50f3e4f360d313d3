-- What the interfaces of a type and of its ancestors lead to.
use Rattle.std.proofs.Common.{◌≡◌, ◌⊎◌, inl, inr, refl, sym, ◌∙◌, subst, ℕ, ◌<◌, ◌↔◌, arith, Bool, IsTrue, List, [], ◌++◌, length, get_or, None, Some}
use Rattle.std.specs.List.{Contains}
use Rattle.std.proofs.lemmas.List.Elements.{Contains-append_cases}
use Rattle.std.proofs.lemmas.Option.{slice_get-get_or}
use Rattle.type_terms.specs.declared.term.SigType.{SigType}
use Rattle.sig_pool.specs.declared.node.Node.{Node}
use Rattle.sig_pool.specs.Pool.{HasAll, Extends, IsPool}
use Rattle.sig_pool.specs.Replaced.{terms_at}
use Rattle.sig_pool.specs.Terms.{AllBelow, term_of}
use Rattle.sig_pool.proofs.PoolLaws.{same_terms}
use Rattle.type_hierarchy.specs.Hierarchy.{Hierarchy, parent, interfaces, Up, itself, to_parent, to_interface, Chain, alone, further}
use Rattle.type_hierarchy.specs.Queues.{AddsAll, HasType, UpFromSome}
use Rattle.type_hierarchy.proofs.Climbing.{up_trans, chain_up, next_step, Next, none, some, some_same}
use Rattle.type_hierarchy.proofs.GrowLemmas.{extends_long}
use Rattle.type_hierarchy.proofs.QueueLemmas.{no_ids}
use Rattle.type_order.specs.Found.{IsLedTo, IsLedByChain, AreLed, AreAbove}
use Rattle.type_order.proofs.WalkLemmas.{among, among_back, within_one, at_place}

-- ---- the interfaces of one type

-- the ids of the interfaces, and all above them
module _ (w : Hierarchy) (ns ms ls : List Node) (id : ℕ) (is queue all : List ℕ) (low : id < length ns) (x : Extends ns ms) (y : Extends ms ls)
    (hi : HasAll ms is (interfaces w (term_of ns id))) (a : AddsAll [] queue is) (b : AreAbove w ms ls queue all) where
  only : (k : ℕ) → Contains queue k → Contains is k
  only k c = a.only k (subst (λ (l : List ℕ). Contains l k) a.is c)

  led : (t : SigType) → UpFromSome w ms queue t → IsLedTo w (term_of ns id) t
  led t u = record {
    by = term_of ms u.id;
    listed = subst (λ (l : List SigType). Contains l (term_of ms u.id)) hi.terms (among_back ms is u.id (only u.id u.among));
    up = u.up;
  }

  from : (t : SigType) → IsLedTo w (term_of ns id) t → UpFromSome w ms queue t
  from t l =
      let h : HasType ms is l.by = among ms is l.by (subst (λ (m : List SigType). Contains m l.by) (sym hi.terms) l.listed) in
      record { id = h.id; among = a.has h.id h.among; up = subst (λ (u : SigType). Up w u t) (sym h.is) l.up }

  pub are_led : AreLed w ls id all
  are_led =
      let here : term_of ls id ≡ term_of ns id = y.terms id (let l = extends_long ns ms x in omega arith) ∙ x.terms id low in
      record {
        within = let l = extends_long ns ms x in let m = extends_long ms ls y in omega arith;
        all = b.within;
        exact = λ t. (λ h. subst (λ (s : SigType). IsLedTo w s t) (sym here) (led t ((b.exact t).0 h)), λ h. (b.exact t).1 (from t (subst (λ (s : SigType). IsLedTo w s t) here h)));
      }

-- the queue of the interfaces
pub queue_within : (b : ℕ) (is old queue : List ℕ) → old ≡ [] → AllBelow b is → AddsAll old queue is → AllBelow b queue
queue_within b is old queue e p a k d h = within_one is b (get_or queue k d) p (only (get_or queue k d) (at_place queue k (get_or queue k d) (slice_get-get_or queue k d h)))
  where
    only : (x : ℕ) → Contains queue x → Contains is x
    only x c = elim (Contains-append_cases old a.more x (subst (λ (l : List ℕ). Contains l x) a.is c)) [
      | inl f ↦ absurd (no_ids x (subst (λ (l : List ℕ). Contains l x) e f))
      | inr f ↦ a.only x f
    ]

-- an id, where its type is among the types of ids
pub type_held : (ns : List Node) (ids : List ℕ) (b : ℕ) (r : Bool) → IsPool ns → AllBelow (length ns) ids → b < length ns → (IsTrue r ↔ Contains ids b) → IsTrue r ↔ HasType ns ids (term_of ns b)
type_held ns ids b r p all low h = (
  λ t. record { id = b; among = h.0 t; is = refl },
  λ t. h.1 (subst (λ (j : ℕ). Contains ids j) (same_terms ns t.id b p (within_one ids (length ns) t.id all t.among) low t.is) t.among),
)

pub led_as : (w : Hierarchy) (ns : List Node) (id b : ℕ) (ids : List ℕ) (r : Bool) → AreLed w ns id ids → (IsTrue r ↔ HasType ns ids (term_of ns b)) → IsTrue r ↔ IsLedTo w (term_of ns id) (term_of ns b)
led_as w ns id b ids r h e = (λ t. (h.exact (term_of ns b)).0 (e.0 t), λ l. e.1 ((h.exact (term_of ns b)).1 l))

pub led_before : (w : Hierarchy) (ns ms : List Node) (a b : ℕ) (r : Bool) → Extends ns ms → a < length ns → b < length ns → (IsTrue r ↔ IsLedTo w (term_of ms a) (term_of ms b)) → IsTrue r ↔ IsLedTo w (term_of ns a) (term_of ns b)
led_before w ns ms a b r x la lb h =
    subst (λ (s : SigType). IsTrue r ↔ IsLedTo w s (term_of ns b)) (x.terms a la) (subst (λ (t : SigType). IsTrue r ↔ IsLedTo w (term_of ms a) t) (x.terms b lb) h)

-- ---- the interfaces of ancestors

-- `at` is on the chain of `a`, and each type there whose interfaces lead to `b` is on that of `at`
pub record Climbs (w : Hierarchy) (a at b : SigType) : Type 0 where
  pub chain : Chain w a at
  pub rest : (x : SigType) → Chain w a x → IsLedTo w x b → Chain w at x

pub climbs_begin : (w : Hierarchy) (a b : SigType) → Climbs w a a b
climbs_begin w a b = record { chain = alone; rest = λ x c l. c }

pub climbs_more : (w : Hierarchy) (a at p b : SigType) → Climbs w a at b → (IsLedTo w at b → ⊥) → parent w at ≡ Some p → Climbs w a p b
climbs_more w a at p b r n e = record { chain = further r.chain e; rest = λ x c l. go x l (next_step w (r.rest x c l)) }
  where
    go : (x : SigType) → IsLedTo w x b → Next w at x → Chain w p x
    go x l (none h) = absurd (n (subst (λ (y : SigType). IsLedTo w y b) h l))
    go x l (some f d) = subst (λ (y : SigType). Chain w y x) (some_same f e) d

pub climbs_end : (w : Hierarchy) (a at b : SigType) → Climbs w a at b → (IsLedTo w at b → ⊥) → parent w at ≡ None → IsLedByChain w a b → ⊥
climbs_end w a at b r n e l = go l.at l.led (next_step w (r.rest l.at l.chain l.led))
  where
    go : (x : SigType) → IsLedTo w x b → Next w at x → ⊥
    go x l (none h) = n (subst (λ (y : SigType). IsLedTo w y b) h l)
    go x l (some f d) = let g : ⊥ = cc in g

pub climbs_found : (w : Hierarchy) (a at b : SigType) → Climbs w a at b → IsLedTo w at b → IsLedByChain w a b
climbs_found w a at b r l = record { at = at; chain = r.chain; led = l }

-- ---- what lies above

pub above_cases : (w : Hierarchy) {a b : SigType} → Up w a b → Chain w a b ⊎ IsLedByChain w a b
above_cases w itself = inl alone
above_cases w (to_parent {s = s} {u = u} r e) = elim (above_cases w r) [
  | inl c ↦ inl (further c e)
  | inr l ↦ inr (record { at = l.at; chain = l.chain; led = record { by = l.led.by; listed = l.led.listed; up = to_parent l.led.up e } })
]
above_cases w (to_interface {s = s} {u = u} r c) = elim (above_cases w r) [
  | inl d ↦ inr (record { at = s; chain = d; led = record { by = u; listed = c; up = itself } })
  | inr l ↦ inr (record { at = l.at; chain = l.chain; led = record { by = l.led.by; listed = l.led.listed; up = to_interface l.led.up c } })
]

pub led_up : (w : Hierarchy) {a b : SigType} → IsLedByChain w a b → Up w a b
led_up w l = up_trans w (to_interface (chain_up w l.chain) l.led.listed) l.led.up

-- a type that isn't an ancestor
pub above_by_led : (w : Hierarchy) (a b : SigType) → (Chain w a b → ⊥) → IsLedByChain w a b ↔ Up w a b
above_by_led w a b n = (led_up w, λ u. elim (above_cases w u) [ inl c ↦ absurd (n c) | inr l ↦ l ])
