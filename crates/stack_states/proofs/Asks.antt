-- What a stack is asked, from what is asked of its operands one by one.
use Rattle.std.proofs.Common.{◌≡◌, ◌↔◌, ◌∙◌, ◌⊎◌, inl, inr, ap, sym, subst, refl, ℕ, ◌+◌, ◌<◌, arith, Bool, true, false, ◌&&◌, not, IsTrue, List, length, get_or, slice_get, Option, Some, None}
use Rattle.std.specs.Option.{option_map}
use Rattle.std.proofs.lemmas.List.{length-map}
use Rattle.std.proofs.lemmas.Option.{slice_get-map}
use Rattle.type_terms.specs.declared.term.SigType.{SigType}
use Rattle.sig_pool.specs.declared.node.Node.{Node}
use Rattle.sig_pool.specs.Terms.{term_of}
use Rattle.type_hierarchy.specs.declared.stack_type.StackType.{StackType}
use Rattle.type_hierarchy.specs.Hierarchy.{Hierarchy}
use Rattle.type_hierarchy.specs.Meaning.{meant, IsWithin}
use Rattle.type_hierarchy.specs.Pooled.{HasOption}
use Rattle.type_hierarchy.specs.Stack.{Stack, bad, ref}
use Rattle.type_hierarchy.specs.Tables.{hierarchy_in}
use Rattle.type_hierarchy.specs.World.{Content, hierarchy, Stays}
use Rattle.stack_states.specs.Asking.{IsWrongAt, IsUnassignableAt, HasUnassignable, IsUnstored, FailsToFit, IsMismatched}
use Rattle.stack_rows.specs.declared.row.Demand.{Demand}
use Rattle.stack_rows.specs.declared.row.Pairing.{Pairing}
use Rattle.stack_rows.specs.declared.row.Row.{Row}
use Rattle.stack_rows.specs.declared.row.Together.TheVariants.{Paired, Stored}
use Rattle.code_flow.specs.Demands as demands
use Rattle.code_flow.specs.Demands.{comparable, Meets, HasWrongKind, FailsToAssign, IsUnassignable, NotStored, FailToStore, AreMismatched, IsMismatch, go_together, referent}
use Rattle.code_flow.specs.Effects.{operands_of, taken}
use Rattle.code_flow.specs.Rows as rows
use Rattle.stack_rows.specs.RowMeanings.{stack_meant, IsStackWithin, comparable_test, demand_meant, together_meant, pairing_meant, row_meant, IsRowWithin}
use Rattle.stack_rows.proofs.Growing.{row_same, stack_same}

-- ---- one operand

-- an operand of a row, as the code finds it
pub operand_is : (ns : List Node) (r : Row) (s : List StackType) (k : ℕ) (v : StackType) → meant ns v ≡ get_or (operands_of (length r.operands) (stack_meant ns s)) k bad
    → get_or (taken (row_meant ns r) (stack_meant ns s)) k bad ≡ meant ns v
operand_is ns r s k v is =
    ap (λ (n : ℕ). get_or (operands_of n (stack_meant ns s)) k bad) (length-map r.operands (demand_meant ns)) ∙ sym is

demand_is : (ns : List Node) (r : Row) (k : ℕ) (d : Demand) → slice_get r.operands k ≡ Some d → slice_get (row_meant ns r).operands k ≡ Some (demand_meant ns d)
demand_is ns r k d e = slice_get-map (demand_meant ns) r.operands k ∙ ap (option_map (demand_meant ns)) e

some_same : {A : Type 0} {a b : A} → Some a ≡ Some b → a ≡ b
some_same e = cc

pub wrong_at : (w : Hierarchy) (ns : List Node) (r : Row) (s : List StackType) (k : ℕ) (d : Demand) (v : StackType) (b : Bool) → slice_get r.operands k ≡ Some d
    → meant ns v ≡ get_or (operands_of (length r.operands) (stack_meant ns s)) k bad → (IsTrue b ↔ HasWrongKind w (demand_meant ns d) (meant ns v))
    → (IsTrue b ↔ IsWrongAt k w (row_meant ns r) (stack_meant ns s))
wrong_at w ns r s k d v b asked is h =
    let e = demand_is ns r k d asked in
    let o = operand_is ns r s k v is in (
      λ t. record { demand = demand_meant ns d; asked = e; wrong = subst (HasWrongKind w (demand_meant ns d)) (sym o) (h.0 t) },
      λ x.
          let same : x.demand ≡ demand_meant ns d = some_same (sym x.asked ∙ e) in
          let P : demands.Demand → Type 0 = λ (y : demands.Demand). HasWrongKind w y (get_or (taken (row_meant ns r) (stack_meant ns s)) k bad) in
          h.1 (subst (HasWrongKind w (demand_meant ns d)) o (subst P same x.wrong)),
    )

pub unassignable_at : (w : Hierarchy) (ns : List Node) (r : Row) (s : List StackType) (k : ℕ) (d : Demand) (v : StackType) (b : Bool) → slice_get r.operands k ≡ Some d
    → meant ns v ≡ get_or (operands_of (length r.operands) (stack_meant ns s)) k bad → (IsTrue b ↔ FailsToAssign w (demand_meant ns d) (meant ns v))
    → (IsTrue b ↔ IsUnassignableAt k w (row_meant ns r) (stack_meant ns s))
unassignable_at w ns r s k d v b asked is h =
    let e = demand_is ns r k d asked in
    let o = operand_is ns r s k v is in (
      λ t. record { demand = demand_meant ns d; asked = e; fails = subst (FailsToAssign w (demand_meant ns d)) (sym o) (h.0 t) },
      λ x.
          let same : x.demand ≡ demand_meant ns d = some_same (sym x.asked ∙ e) in
          let P : demands.Demand → Type 0 = λ (y : demands.Demand). FailsToAssign w y (get_or (taken (row_meant ns r) (stack_meant ns s)) k bad) in
          h.1 (subst (FailsToAssign w (demand_meant ns d)) o (subst P same x.fails)),
    )

-- ---- as a world goes on

module _ (P : Hierarchy → rows.Row → List Stack → Type 0) (a b : Content) (r : Row) (s : List StackType) where
  pub back : Stays a b → IsRowWithin (length a.nodes) r → IsStackWithin (length a.nodes) s
      → P (hierarchy b) (row_meant b.nodes r) (stack_meant b.nodes s) → P (hierarchy a) (row_meant a.nodes r) (stack_meant a.nodes s)
  back t rin sin p =
      subst (λ (h : Hierarchy). P h (row_meant a.nodes r) (stack_meant a.nodes s)) (ap hierarchy_in t.tables)
      (subst (λ (y : rows.Row). P (hierarchy b) y (stack_meant a.nodes s)) (row_same a.nodes b.nodes r t.nodes rin)
      (subst (λ (xs : List Stack). P (hierarchy b) (row_meant b.nodes r) xs) (stack_same a.nodes b.nodes s t.nodes sin) p))

  pub onward : Stays a b → IsRowWithin (length a.nodes) r → IsStackWithin (length a.nodes) s
      → P (hierarchy a) (row_meant a.nodes r) (stack_meant a.nodes s) → P (hierarchy b) (row_meant b.nodes r) (stack_meant b.nodes s)
  onward t rin sin p =
      subst (λ (h : Hierarchy). P h (row_meant b.nodes r) (stack_meant b.nodes s)) (sym (ap hierarchy_in t.tables))
      (subst (λ (y : rows.Row). P (hierarchy a) y (stack_meant b.nodes s)) (sym (row_same a.nodes b.nodes r t.nodes rin))
      (subst (λ (xs : List Stack). P (hierarchy a) (row_meant a.nodes r) xs) (sym (stack_same a.nodes b.nodes s t.nodes sin)) p))

-- ---- a loop over the operands

module _ (P : ℕ → Hierarchy → rows.Row → List Stack → Type 0) (a b : Content) (r : Row) (s : List StackType) where
  pub found : (k : ℕ) (x : Bool) → Stays a b → IsRowWithin (length a.nodes) r → IsStackWithin (length a.nodes) s
      → (IsTrue x ↔ P k (hierarchy b) (row_meant b.nodes r) (stack_meant b.nodes s)) → x ≡ true
      → (IsTrue true ↔ ((j : ℕ) × P j (hierarchy a) (row_meant a.nodes r) (stack_meant a.nodes s)))
  found k x t rin sin h e = (λ u. (k, back (P k) a b r s t rin sin (h.0 e)), λ u. refl)

  pub none_more : (k : ℕ) (x : Bool) → Stays a b → IsRowWithin (length a.nodes) r → IsStackWithin (length a.nodes) s
      → ((j : ℕ) → j < k → P j (hierarchy a) (row_meant a.nodes r) (stack_meant a.nodes s) → ⊥)
      → (IsTrue x ↔ P k (hierarchy b) (row_meant b.nodes r) (stack_meant b.nodes s)) → x ≡ false
      → (j : ℕ) → j < k + 1 → P j (hierarchy a) (row_meant a.nodes r) (stack_meant a.nodes s) → ⊥
  none_more k x t rin sin none h e j low p = elim (cases_lt j k low) [
    | inl less ↦ none j less p
    | inr same ↦
        let here : P k (hierarchy a) (row_meant a.nodes r) (stack_meant a.nodes s) = subst (λ (i : ℕ). P i (hierarchy a) (row_meant a.nodes r) (stack_meant a.nodes s)) same p in
        let yes : x ≡ true = h.1 (onward (P k) a b r s t rin sin here) in
        cc
  ]
    where
      cases_lt : (i n : ℕ) → i < n + 1 → (i < n) ⊎ (i ≡ n)
      cases_lt i n l = grind arith

-- ---- operands together

module _ {A : Type 0} (F : A → Type 0) where
  along : {x y : A} → x ≡ y → F x ↔ F y
  along e = (subst F e, subst F (sym e))

iff_on : {P Q R : Type 0} → (P ↔ Q) → (Q ↔ R) → (P ↔ R)
iff_on f g = (λ p. g.0 (f.0 p), λ r. f.1 (g.1 r))

-- of a row that stores
pub unstored_is : (w : Hierarchy) (ns : List Node) (r : Row) (s : List StackType) (p v : StackType) → r.together ≡ Stored
    → meant ns p ≡ get_or (operands_of (length r.operands) (stack_meant ns s)) 0 bad → meant ns v ≡ get_or (operands_of (length r.operands) (stack_meant ns s)) 1 bad
    → (NotStored w (meant ns v) (referent (meant ns p)) ↔ IsUnstored w (row_meant ns r) (stack_meant ns s))
unstored_is w ns r s p v e is0 is1 =
    let l = taken (row_meant ns r) (stack_meant ns s) in
    iff_on (along (λ (x : Stack). NotStored w (meant ns v) (referent x)) (sym (operand_is ns r s 0 p is0)))
    (iff_on (along (λ (x : Stack). NotStored w x (referent (get_or l 0 bad))) (sym (operand_is ns r s 1 v is1)))
    (along (λ (t : demands.Together). FailToStore w t l) (sym (ap together_meant e))))

pub unstored_some : (w : Hierarchy) (ns : List Node) (r : Row) (s : List StackType) (p v : StackType) (key : ℕ) (b : Bool) → r.together ≡ Stored
    → meant ns p ≡ get_or (operands_of (length r.operands) (stack_meant ns s)) 0 bad → meant ns v ≡ get_or (operands_of (length r.operands) (stack_meant ns s)) 1 bad
    → HasOption ns (Some key) (referent (meant ns p)) → (IsTrue b ↔ IsUnassignable w (ref (term_of ns key)) (meant ns v))
    → (IsTrue b ↔ IsUnstored w (row_meant ns r) (stack_meant ns s))
unstored_some w ns r s p v key b e is0 is1 (t, o, has) h =
    iff_on h (iff_on (along (λ (x : SigType). IsUnassignable w (ref x) (meant ns v)) has.term)
    (iff_on (along (NotStored w (meant ns v)) (sym o)) (unstored_is w ns r s p v e is0 is1)))

pub unstored_none : (w : Hierarchy) (ns : List Node) (r : Row) (s : List StackType) (p v : StackType) → r.together ≡ Stored
    → meant ns p ≡ get_or (operands_of (length r.operands) (stack_meant ns s)) 0 bad → meant ns v ≡ get_or (operands_of (length r.operands) (stack_meant ns s)) 1 bad
    → HasOption ns None (referent (meant ns p)) → (IsTrue false ↔ IsUnstored w (row_meant ns r) (stack_meant ns s))
unstored_none w ns r s p v e is0 is1 o =
    let f : NotStored w (meant ns v) None ↔ IsUnstored w (row_meant ns r) (stack_meant ns s) = iff_on (along (NotStored w (meant ns v)) (sym o)) (unstored_is w ns r s p v e is0 is1) in
    (λ (x : IsTrue false). absurd (let g : ⊥ = cc in g), λ u. absurd (f.1 u))

-- of a row of a pair
mismatch_tests : (w : Hierarchy) (p : demands.Pairing) (l : List Stack) (a b g : Bool) → a ≡ comparable_test (get_or l 0 bad) → b ≡ comparable_test (get_or l 1 bad)
    → g ≡ go_together p (get_or l 0 bad) (get_or l 1 bad) → (IsTrue (a && b && not g) ↔ IsMismatch w p l)
mismatch_tests w p l true true true ea eb eg = (λ (e : IsTrue false). absurd (let f : ⊥ = cc in f), λ x. absurd (x.fails (sym eg)))
mismatch_tests w p l true true false ea eb eg = (λ e. record { left = sym ea; right = sym eb; fails = λ f. let h : true ≡ false = sym f ∙ sym eg in cc }, λ x. refl)
mismatch_tests w p l true false g ea eb eg = (λ (e : IsTrue false). absurd (let f : ⊥ = cc in f), λ x. absurd (let h : true ≡ false = sym x.right ∙ sym eb in cc))
mismatch_tests w p l false b g ea eb eg = (λ (e : IsTrue false). absurd (let f : ⊥ = cc in f), λ x. absurd (let h : true ≡ false = sym x.left ∙ sym ea in cc))

pub mismatched_pair : (w : Hierarchy) (ns : List Node) (r : Row) (s : List StackType) (p : Pairing) (x y : StackType) (b : Bool) → r.together ≡ Paired p
    → meant ns x ≡ get_or (operands_of (length r.operands) (stack_meant ns s)) 0 bad → meant ns y ≡ get_or (operands_of (length r.operands) (stack_meant ns s)) 1 bad
    → b ≡ (comparable_test (meant ns x) && comparable_test (meant ns y) && not (go_together (pairing_meant p) (meant ns x) (meant ns y)))
    → (IsTrue b ↔ IsMismatched w (row_meant ns r) (stack_meant ns s))
mismatched_pair w ns r s p x y b e is0 is1 tests =
    let l = taken (row_meant ns r) (stack_meant ns s) in
    let e0 = operand_is ns r s 0 x is0 in
    let e1 = operand_is ns r s 1 y is1 in
    let m = mismatch_tests w (pairing_meant p) l (comparable_test (meant ns x)) (comparable_test (meant ns y)) (go_together (pairing_meant p) (meant ns x) (meant ns y))
    (ap comparable_test (sym e0)) (ap comparable_test (sym e1)) (λ i. go_together (pairing_meant p) (sym e0 i) (sym e1 i)) in
    iff_on (along IsTrue tests) (iff_on m (along (λ (t : demands.Together). AreMismatched w t l) (sym (ap together_meant e))))

-- ---- both

pub fits_rest : (a b : Content) (r : Row) (s : List StackType) (x y : Bool) → Stays a b → IsRowWithin (length a.nodes) r → IsStackWithin (length a.nodes) s
    → (IsTrue x ↔ IsUnstored (hierarchy a) (row_meant a.nodes r) (stack_meant a.nodes s)) → x ≡ false
    → (IsTrue y ↔ HasUnassignable (hierarchy b) (row_meant b.nodes r) (stack_meant b.nodes s))
    → (IsTrue y ↔ FailsToFit (hierarchy a) (row_meant a.nodes r) (stack_meant a.nodes s))
fits_rest a b r s x y t rin sin h e g = (
  λ u. inl (back HasUnassignable a b r s t rin sin (g.0 u)),
  λ f. elim f [
    | inl p ↦ g.1 (onward HasUnassignable a b r s t rin sin p)
    | inr q ↦ absurd (let yes : x ≡ true = h.1 q in cc)
  ],
)

-- ---- equal numbers and pools

pub counted : (ns : List Node) (s : List StackType) (m n k : ℕ) (v : StackType) → m ≡ n → meant ns v ≡ get_or (operands_of m (stack_meant ns s)) k bad
    → meant ns v ≡ get_or (operands_of n (stack_meant ns s)) k bad
counted ns s m n k v e h = subst (λ (c : ℕ). meant ns v ≡ get_or (operands_of c (stack_meant ns s)) k bad) e h

pub referent_at : (ps ns : List Node) (v : StackType) (o p : Option ℕ) → ps ≡ ns → o ≡ p → HasOption ps o (referent (meant ps v)) → HasOption ns p (referent (meant ns v))
referent_at ps ns v o p e f h =
    subst (λ (q : Option ℕ). HasOption ns q (referent (meant ns v))) f (subst (λ (qs : List Node). HasOption qs o (referent (meant qs v))) e h)

pub within_pool : (ps ns : List Node) (v : StackType) → ps ≡ ns → IsWithin (length ns) v → IsWithin (length ps) v
within_pool ps ns v e h = subst (λ (qs : List Node). IsWithin (length qs) v) (sym e) h
