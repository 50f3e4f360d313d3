-- The stack after an instruction, value by value.
use Rattle.std.proofs.Common.{◌≡◌, ◌∙◌, ap, sym, subst, refl, ℕ, zero, suc, ◌+◌, ◌-◌, ◌<◌, Bool, false, if◌then◌else◌, List, [], ◌∷◌, ◌++◌, map, take, length, get_or}
use Rattle.std.specs.List.{All}
use Rattle.std.proofs.lemmas.List.{length-map, map_more, append_assoc}
use Rattle.std.proofs.lemmas.List.Elements.{All-push, All-get_or}
use Rattle.sig_pool.specs.declared.node.Node.{Node}
use Rattle.type_hierarchy.specs.declared.stack_type.StackType.{StackType}
use Rattle.type_hierarchy.specs.Meaning.{meant, IsWithin, Means}
use Rattle.type_hierarchy.specs.Stack.{Stack, bad}
use Rattle.type_hierarchy.specs.World.{Content, Stays}
use Rattle.stack_rows.specs.declared.row.Pairing.{Pairing}
use Rattle.stack_rows.specs.declared.row.Pushed.{Pushed}
use Rattle.stack_rows.specs.declared.row.Pushed.TheVariants.{SameNumber, SameInteger, Computed}
use Rattle.stack_rows.specs.declared.row.Row.{Row}
use Rattle.code_flow.specs.Demands.{is_number, is_integer, referent, object_element, outcome}
use Rattle.code_flow.specs.Effects.{operands_of, below_operands, taken, results, effect}
use Rattle.code_flow.specs.Rows as rows
use Rattle.code_flow.specs.Rows.{given, kept_if, reference_to, fetched_from, always, same, same_number, same_integer, pointed, fetched, computed}
use Rattle.stack_rows.specs.RowMeanings.{stack_meant, IsStackWithin, MeansStack, given_by, demand_meant, pairing_meant, pushed_meant, IsPushedWithin, row_meant}
use Rattle.stack_states.proofs.Asks.{operand_is}
use Rattle.stack_rows.proofs.Growing.{type_kept, pushed_kept, stack_kept}

-- ---- one value

pub given_number : (ns : List Node) (p : Pushed) (a b r : StackType) (t : Bool) → p ≡ SameNumber → t ≡ is_number (meant ns a) → meant ns r ≡ kept_if t (meant ns a)
    → IsWithin (length ns) r → Means ns r (given_by (meant ns a) (meant ns b) (pushed_meant ns p))
given_number ns p a b r t is e h w = record {
  within = w;
  is = h ∙ ap (λ (x : Bool). kept_if x (meant ns a)) e ∙ ap (λ (q : Pushed). given_by (meant ns a) (meant ns b) (pushed_meant ns q)) (sym is);
}

pub given_integer : (ns : List Node) (p : Pushed) (a b r : StackType) (t : Bool) → p ≡ SameInteger → t ≡ is_integer (meant ns a) → meant ns r ≡ kept_if t (meant ns a)
    → IsWithin (length ns) r → Means ns r (given_by (meant ns a) (meant ns b) (pushed_meant ns p))
given_integer ns p a b r t is e h w = record {
  within = w;
  is = h ∙ ap (λ (x : Bool). kept_if x (meant ns a)) e ∙ ap (λ (q : Pushed). given_by (meant ns a) (meant ns b) (pushed_meant ns q)) (sym is);
}

pub given_outcome : (ns : List Node) (p : Pushed) (a b r : StackType) (g : Pairing) → p ≡ Computed g → meant ns r ≡ outcome (pairing_meant g) (meant ns a) (meant ns b)
    → IsWithin (length ns) r → Means ns r (given_by (meant ns a) (meant ns b) (pushed_meant ns p))
given_outcome ns p a b r g is h w = record {
  within = w;
  is = h ∙ ap (λ (q : Pushed). given_by (meant ns a) (meant ns b) (pushed_meant ns q)) (sym is);
}

-- only the first two operands count
pub given_same : (xs : List Stack) (a b : Stack) → get_or xs 0 bad ≡ a → get_or xs 1 bad ≡ b → (p : rows.Pushed) → given_by a b p ≡ given xs p
given_same xs a b e0 e1 (always s) = refl
given_same xs a b e0 e1 same = sym e0
given_same xs a b e0 e1 same_number = ap (λ (x : Stack). kept_if (is_number x) x) (sym e0)
given_same xs a b e0 e1 same_integer = ap (λ (x : Stack). kept_if (is_integer x) x) (sym e0)
given_same xs a b e0 e1 pointed = ap (λ (x : Stack). reference_to (referent x)) (sym e0)
given_same xs a b e0 e1 fetched = ap (λ (x : Stack). fetched_from x (object_element x)) (sym e0)
given_same xs a b e0 e1 (computed p) =
    let f : a ≡ get_or xs 0 bad = sym e0 in
    let g : b ≡ get_or xs 1 bad = sym e1 in
    λ i. outcome p (f i) (g i)

-- ---- lists

map_append : {A B : Type 0} (f : A → B) (xs ys : List A) → map f (xs ++ ys) ≡ map f xs ++ map f ys
map_append f [] ys = refl
map_append f (x ∷ xs) ys = ap (λ l. f x ∷ l) (map_append f xs ys)

map_take : {A B : Type 0} (f : A → B) (n : ℕ) (xs : List A) → map f (take n xs) ≡ take n (map f xs)
map_take f zero xs = refl
map_take f (suc n) [] = refl
map_take f (suc n) (x ∷ xs) = ap (λ l. f x ∷ l) (map_take f n xs)

map_same : {A B : Type 0} (f g : A → B) → ((a : A) → f a ≡ g a) → (xs : List A) → map f xs ≡ map g xs
map_same f g e [] = refl
map_same f g e (x ∷ xs) = let h : f x ≡ g x = e x in let t = map_same f g e xs in λ i. h i ∷ t i

pub stack_pushed : (ns : List Node) (s t : List StackType) (v : StackType) (xs : List Stack) (x : Stack) → t ≡ s ++ v ∷ [] → MeansStack ns s xs → Means ns v x → MeansStack ns t (xs ++ x ∷ [])
stack_pushed ns s t v xs x e m h = record {
  within = subst (IsStackWithin (length ns)) (sym e) (All-push (IsWithin (length ns)) s v m.within h.within);
  is = ap (stack_meant ns) e ∙ map_append (meant ns) s (v ∷ []) ∙ (let f : stack_meant ns s ≡ xs = m.is in let g : meant ns v ≡ x = h.is in λ i. f i ++ g i ∷ []);
}

-- ---- one more value in the loop

pub pushed_one : (a b d : Content) (base s t : List StackType) (ps : List Pushed) (i : ℕ) (p : Pushed) (f g v : StackType) → Stays a b → Stays b d
    → IsWithin (length a.nodes) f → IsWithin (length a.nodes) g → All (IsPushedWithin (length a.nodes)) ps → i < length ps → p ≡ get_or ps i p
    → MeansStack b.nodes s (stack_meant a.nodes base ++ map (given_by (meant a.nodes f) (meant a.nodes g)) (map (pushed_meant a.nodes) (take i ps)))
    → Means d.nodes v (given_by (meant b.nodes f) (meant b.nodes g) (pushed_meant b.nodes p)) → t ≡ s ++ v ∷ []
    → MeansStack d.nodes t (stack_meant a.nodes base ++ map (given_by (meant a.nodes f) (meant a.nodes g)) (map (pushed_meant a.nodes) (take (i + 1) ps)))
pushed_one a b d base s t ps i p f g v ab bd wf wg all low is m h e =
    let F : rows.Pushed → Stack = given_by (meant a.nodes f) (meant a.nodes g) in
    let P : Pushed → rows.Pushed = pushed_meant a.nodes in
    let wp : IsPushedWithin (length a.nodes) p = subst (IsPushedWithin (length a.nodes)) (sym is) (All-get_or (IsPushedWithin (length a.nodes)) ps i p low all) in
    let ef = type_kept a.nodes b.nodes f ab.nodes wf in
    let eg = type_kept a.nodes b.nodes g ab.nodes wg in
    let ep = pushed_kept a.nodes b.nodes p ab.nodes wp in
    let ev : given_by (meant b.nodes f) (meant b.nodes g) (pushed_meant b.nodes p) ≡ F (P p) = λ j. given_by (ef j) (eg j) (ep j) in
    let hv : Means d.nodes v (F (P p)) = record { within = h.within; is = h.is ∙ ev } in
    let front : List Stack = stack_meant a.nodes base ++ map F (map P (take i ps)) in
    let grown : MeansStack d.nodes t (front ++ F (P p) ∷ []) =
    stack_pushed d.nodes s t v front (F (P p)) e (stack_kept b.nodes d.nodes s front bd.nodes m) hv in
    let more : map F (map P (take (i + 1) ps)) ≡ map F (map P (take i ps)) ++ F (P p) ∷ [] =
    ap (map F) (map_more P ps i p low) ∙ map_append F (map P (take i ps)) (P (get_or ps i p) ∷ []) ∙ ap (λ (q : Pushed). map F (map P (take i ps)) ++ F (P q) ∷ []) (sym is) in
    record {
      within = grown.within;
      is = grown.is ∙ append_assoc (stack_meant a.nodes base) (map F (map P (take i ps))) (F (P p) ∷ []) ∙ ap (λ (l : List Stack). stack_meant a.nodes base ++ l) (sym more);
    }

-- ---- the whole

pub after_is : (ns ms : List Node) (r : Row) (s below t : List StackType) (ps : List Pushed) (f g : StackType) → r.empties ≡ false → below ≡ take (length s - length r.operands) s → ps ≡ r.pushed
    → meant ns f ≡ get_or (operands_of (length r.operands) (stack_meant ns s)) 0 bad → meant ns g ≡ get_or (operands_of (length r.operands) (stack_meant ns s)) 1 bad
    → MeansStack ms t (stack_meant ns below ++ map (given_by (meant ns f) (meant ns g)) (map (pushed_meant ns) ps))
    → MeansStack ms t (effect (row_meant ns r) (stack_meant ns s))
after_is ns ms r s below t ps f g empties eb ep is0 is1 m =
    let R = row_meant ns r in
    let S = stack_meant ns s in
    let lower : stack_meant ns below ≡ below_operands (length R.operands) S =
    ap (stack_meant ns) eb ∙ map_take (meant ns) (length s - length r.operands) s
    ∙ (let a : length s ≡ length S = sym (length-map s (meant ns)) in let b : length r.operands ≡ length R.operands = sym (length-map r.operands (demand_meant ns)) in λ i. take (a i - b i) S) in
    let upper : map (given_by (meant ns f) (meant ns g)) (map (pushed_meant ns) ps) ≡ results R S =
    ap (λ (l : List Pushed). map (given_by (meant ns f) (meant ns g)) (map (pushed_meant ns) l)) ep
    ∙ map_same (given_by (meant ns f) (meant ns g)) (given (taken R S)) (given_same (taken R S) (meant ns f) (meant ns g) (operand_is ns r s 0 f is0) (operand_is ns r s 1 g is1)) R.pushed in
    record {
      within = m.within;
      is = m.is ∙ (λ i. lower i ++ upper i)
          ∙ ap (λ (x : Bool). if x then [] else below_operands (length R.operands) S ++ results R S) (sym empties);
    }
