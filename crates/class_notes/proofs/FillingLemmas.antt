-- How it is found whether a slot is filled.
use Rattle.std.proofs.Common.{◌≡◌, ◌∙◌, refl, sym, subst, inl, inr, ◌↔◌, ℕ, ◌<◌, Bool, true, false, true≢false, List, [], ◌∷◌, length, drop, None, Some, IsTrue}
use Rattle.std.specs.List.{Contains}
use Rattle.type_terms.specs.declared.term.SigType.{SigType}
use Rattle.assembly_tree.specs.declared.assembly.Assembly.{Assembly}
use Rattle.assembly_tree.specs.declared.members.Method.{Method}
use Rattle.sig_pool.specs.declared.node.Node.{Node}
use Rattle.sig_pool.specs.Pool.{IsPool, Extends, Has}
use Rattle.sig_pool.specs.Terms.{term_of}
use Rattle.type_hierarchy.specs.Hierarchy.{Hierarchy, Chain, alone, further, parent}
use Rattle.type_hierarchy.proofs.Climbing.{chain_trans}
use Rattle.type_hierarchy.proofs.GrowLemmas.{has_extends}
use Rattle.class_model.specs.Filled.{IsFilled}
use Rattle.class_model.proofs.Members.{nothing_in, first_in, later_in, first_or_later}
use Rattle.class_members.specs.Facts.{IsFound, IsKeyOf, IsSame, IsWanted}
use Rattle.class_members.specs.Offers.{Offer, IsOffered}
use Rattle.class_members.specs.Wants.{member_want, written_want, applied_want, wants}
use Rattle.class_members.specs.declared.wanting.Wanted.{Wanted}
use Rattle.class_members.proofs.Finding.{held_is_found, key_extends}
use Rattle.class_notes.specs.Reading.{HasRead, IsOwnFilled}
use Rattle.class_notes.proofs.Growing.{read_grows}
use Rattle.class_notes.proofs.ReadingLemmas.{offered_by, own_fills, filled_above, filled_cases, filled_top}

pub wanted_grows : (ns ms : List Node) (w : Hierarchy) (face : SigType) (slot : Method) (x : Wanted) → Extends ns ms → IsWanted ns w face slot x → IsWanted ms w face slot x
wanted_grows ns ms w face slot x e h = record {
  member = key_extends ns ms (member_want w face slot) (drop 1 x.member) e h.member;
  written = key_extends ns ms (written_want w face slot) (drop 1 x.written) e h.written;
  applied = key_extends ns ms (applied_want w face slot) (drop 1 x.applied) e h.applied;
}

pub wanted_same : (ns : List Node) (w : Hierarchy) (face : SigType) (slot : Method) (x y : Wanted) → IsSame x y → IsWanted ns w face slot x → IsWanted ns w face slot y
wanted_same ns w face slot x y s h = record {
  member = subst (IsKeyOf ns (member_want w face slot)) (sym s.member) h.member;
  written = subst (IsKeyOf ns (written_want w face slot)) (sym s.written) h.written;
  applied = subst (IsKeyOf ns (applied_want w face slot)) (sym s.applied) h.applied;
}

module _ (a : Assembly) (w : Hierarchy) (ns : List Node) (facts : List (List ℕ)) (t face : SigType) (slot : Method) (at : ℕ) (x : Wanted)
    (p : IsPool ns) (h : Has ns at t) (r : HasRead a w ns facts t) (v : IsWanted ns w face slot x) where
  own : (o : Offer) (key : List ℕ) → Contains (wants w face slot) o → IsKeyOf ns o key → Contains facts (at ∷ key) → IsOwnFilled a w t face slot
  own o key c k d = record { want = o; among = c; offered = offered_by a w ns facts r.all_true at t o key h k d }

  found_own : IsFound facts at x → IsOwnFilled a w t face slot
  found_own (inl c) = own (member_want w face slot) (drop 1 x.member) (first_in (member_want w face slot) (written_want w face slot ∷ applied_want w face slot ∷ [])) v.member c
  found_own (inr (inl c)) = own (written_want w face slot) (drop 1 x.written) (later_in (member_want w face slot) (written_want w face slot ∷ applied_want w face slot ∷ []) (written_want w face slot) (first_in (written_want w face slot) (applied_want w face slot ∷ []))) v.written c
  found_own (inr (inr c)) = own (applied_want w face slot) (drop 1 x.applied) (later_in (member_want w face slot) (written_want w face slot ∷ applied_want w face slot ∷ []) (applied_want w face slot) (later_in (written_want w face slot) (applied_want w face slot ∷ []) (applied_want w face slot) (first_in (applied_want w face slot) []))) v.applied c

  there : (o : Offer) (key : List ℕ) → IsOffered a w t o → IsKeyOf ns o key → Contains facts (at ∷ key)
  there o key f k = (held_is_found ns facts t o at key p h k).1 (r.above t alone o f)

  own_found : IsOwnFilled a w t face slot → IsFound facts at x
  own_found o = elim (first_or_later (member_want w face slot) (written_want w face slot ∷ applied_want w face slot ∷ []) o.want o.among) [
    | inl e ↦ inl (there (member_want w face slot) (drop 1 x.member) (subst (IsOffered a w t) (sym e) o.offered) v.member)
    | inr l ↦ elim (first_or_later (written_want w face slot) (applied_want w face slot ∷ []) o.want l) [
      | inl e ↦ inr (inl (there (written_want w face slot) (drop 1 x.written) (subst (IsOffered a w t) (sym e) o.offered) v.written))
      | inr m ↦ elim (first_or_later (applied_want w face slot) [] o.want m) [
        | inl e ↦ inr (inr (there (applied_want w face slot) (drop 1 x.applied) (subst (IsOffered a w t) (sym e) o.offered) v.applied))
        | inr n ↦ absurd (nothing_in o.want n)
      ]
    ]
  ]

  pub found_is_own : IsFound facts at x ↔ IsOwnFilled a w t face slot
  found_is_own = (found_own, own_found)

pub iff_on : {A B C : Type 0} → (A ↔ B) → (B ↔ C) → A ↔ C
iff_on f g = (λ x. g.0 (f.0 x), λ y. f.1 (g.1 y))

-- ---- climbing

-- the slot is filled for `t` where it is for its ancestor `at`
pub record Climbed (a : Assembly) (w : Hierarchy) (t at face : SigType) (slot : Method) : Type 0 where
  pub chain : Chain w t at
  pub same : IsFilled a w t face slot ↔ IsFilled a w at face slot

pub climbed_none : (a : Assembly) (w : Hierarchy) (t face : SigType) (slot : Method) → Climbed a w t t face slot
climbed_none a w t face slot = record { chain = alone; same = (λ f. f, λ f. f) }

pub read_along : (a : Assembly) (w : Hierarchy) (ns : List Node) (facts : List (List ℕ)) (t at : SigType) → Chain w t at → HasRead a w ns facts t → HasRead a w ns facts at
read_along a w ns facts t at c h = record { all_true = h.all_true; above = λ u d. h.above u (chain_trans w c d) }

module _ (a : Assembly) (w : Hierarchy) (t at face : SigType) (slot : Method) (c : Climbed a w t at face slot) where
  pub climbed_more : (p : SigType) → parent w at ≡ Some p → (IsOwnFilled a w at face slot → ⊥) → Climbed a w t p face slot
  climbed_more p e n = record { chain = further c.chain e; same = iff_on c.same (down, filled_above a w at face slot p e) }
    where
      down : IsFilled a w at face slot → IsFilled a w p face slot
      down f = elim (filled_cases a w at face slot p e f) [ inl o ↦ absurd (n o) | inr g ↦ g ]

  pub climbed_top : parent w at ≡ None → (IsOwnFilled a w at face slot → ⊥) → IsFilled a w t face slot → ⊥
  climbed_top e n f = n (filled_top a w at face slot e (c.same.0 f))

  pub climbed_found : IsOwnFilled a w at face slot → IsFilled a w t face slot
  climbed_found o = c.same.1 (own_fills a w at face slot o)

pub yes_when : {A : Type 0} → A → IsTrue true ↔ A
yes_when x = (λ t. x, λ y. refl)

pub no_when : {A : Type 0} → (A → ⊥) → IsTrue false ↔ A
no_when n = (λ e. absurd (true≢false (sym e)), λ x. absurd (n x))

pub not_when : {A : Type 0} {b : Bool} → (IsTrue b ↔ A) → b ≡ false → A → ⊥
not_when f e x = true≢false (sym (f.1 x) ∙ e)

pub found_as : (a : Assembly) (w : Hierarchy) (ns ms : List Node) (facts : List (List ℕ)) (at : ℕ) (face : SigType) (slot : Method) (x : Wanted) (r : Bool) → IsPool ms → Extends ns ms → at < length ns →
    HasRead a w ns facts (term_of ns at) → IsWanted ms w face slot x → (IsTrue r ↔ IsFound facts at x) → IsTrue r ↔ IsOwnFilled a w (term_of ns at) face slot
found_as a w ns ms facts at face slot x r p e low h v f =
    let has : Has ms at (term_of ns at) = has_extends ns ms at (term_of ns at) (record { within = low; term = refl }) e in
    iff_on f (found_is_own a w ms facts (term_of ns at) face slot at x p has (read_grows a w ns ms e facts (term_of ns at) h) v)

-- whether the type of an id above another fills a slot itself
pub climbed_is : (a : Assembly) (w : Hierarchy) (ns ms pool : List Node) (facts : List (List ℕ)) (t face : SigType) (slot : Method) (at : ℕ) (x : Wanted) (r : Bool) → pool ≡ ms → IsPool pool → Extends ns ms →
    at < length ms → HasRead a w ns facts t → Climbed a w t (term_of ms at) face slot → IsWanted ms w face slot x → (IsTrue r ↔ IsFound facts at x) → IsTrue r ↔ IsOwnFilled a w (term_of ms at) face slot
climbed_is a w ns ms pool facts t face slot at x r e p y low h c v f =
    iff_on f (found_is_own a w ms facts (term_of ms at) face slot at x (subst IsPool e p) (record { within = low; term = refl })
    (read_grows a w ns ms y facts (term_of ms at) (read_along a w ns facts t (term_of ms at) c.chain h)) v)
