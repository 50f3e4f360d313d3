-- What rows, stacks and frames mean as a pool of types grows.
use Rattle.std.proofs.Common.{rules, ◌≡◌, ◌∙◌, ap, refl, ℕ, suc, ◌≤◌, arith, List, [], ◌∷◌, ◌++◌, length, map}
use Rattle.std.specs.List.{All}
use Rattle.std.proofs.lemmas.List.{append_assoc, length-append}
use Rattle.std.proofs.lemmas.List.Elements.{All-weaker, All-head, All-tail}
use Rattle.type_terms.specs.declared.term.SigType.{SigType}
use Rattle.sig_pool.specs.declared.node.Node.{Node}
use Rattle.sig_pool.specs.Pool.{Has, HasAll, Extends}
use Rattle.sig_pool.specs.Terms.{AllBelow, term_of}
use Rattle.type_hierarchy.specs.declared.stack_type.StackType.{StackType}
use Rattle.type_hierarchy.specs.declared.stack_type.StackType.TheVariants.{I4, I8, N, F, Null, Ref, Boxed, Val, Ptr, Bad}
use Rattle.type_hierarchy.specs.Meaning.{meant, IsWithin, Means}
use Rattle.type_hierarchy.specs.Stack as stack
use Rattle.type_hierarchy.specs.World.{Content, Stays}
use Rattle.stack_rows.specs.declared.frame.CodeFrame.{CodeFrame}
use Rattle.stack_rows.specs.declared.row.Demand.{Demand}
use Rattle.stack_rows.specs.declared.row.Demand.TheVariants.{Nothing, Any, Number, Integer, Index, Object, Condition, Comparable, Exactly, OneOf, To, ObjectPointer, Vector, VectorOf, ObjectVector}
use Rattle.stack_rows.specs.declared.row.Pushed.{Pushed}
use Rattle.stack_rows.specs.declared.row.Pushed.TheVariants.{Always, Same, SameNumber, SameInteger, Pointed, Fetched, Computed}
use Rattle.stack_rows.specs.declared.row.Row.{Row}
use Rattle.code_flow.specs.Demands as demands
use Rattle.code_flow.specs.Frames.{Frame}
use Rattle.code_flow.specs.Rows as rows
use Rattle.stack_rows.specs.RowMeanings.{stack_meant, IsStackWithin, MeansStack, demand_meant, IsDemandWithin, together_meant, pushed_meant, IsPushedWithin, row_meant, IsRowWithin, MeansRow, MeansFrame}

pub extends_long : (ns ms : List Node) → Extends ns ms → length ns ≤ length ms
extends_long ns ms x = omega (arith, ap length x.nodes, length-append ns x.more)

pub extends_trans : (ns ms ls : List Node) → Extends ns ms → Extends ms ls → Extends ns ls
extends_trans ns ms ls x y = record {
  more = x.more ++ y.more;
  nodes = y.nodes ∙ ap (λ l. l ++ y.more) x.nodes ∙ append_assoc ns x.more y.more;
  terms = λ k h. y.terms k (let l = extends_long ns ms x in omega arith) ∙ x.terms k h;
}

pub stays_still : (a : Content) → Stays a a
stays_still a = record { tables = refl; nodes = record { more = []; nodes = search rules; terms = λ k h. refl } }

pub stays_on : (a b c : Content) → Stays a b → Stays b c → Stays a c
stays_on a b c s t = record { tables = t.tables ∙ s.tables; nodes = extends_trans a.nodes b.nodes c.nodes s.nodes t.nodes }

-- ---- types

pub has_kept : (ns ms : List Node) (id : ℕ) (t : SigType) → Extends ns ms → Has ns id t → Has ms id t
has_kept ns ms id t x h = record {
  within = let l = extends_long ns ms x in let w = h.within in omega arith;
  term = x.terms id h.within ∙ h.term;
}

terms_kept : (ns ms : List Node) (ids : List ℕ) → Extends ns ms → AllBelow (length ns) ids → map (term_of ms) ids ≡ map (term_of ns) ids
terms_kept ns ms [] x p = refl
terms_kept ns ms (k ∷ ids) x p =
    let h : term_of ms k ≡ term_of ns k = x.terms k (p 0 0 (omega arith)) in
    let t = terms_kept ns ms ids x (λ i d g. p (suc i) d (omega arith)) in
    λ i. h i ∷ t i

pub below_kept : (ns ms : List Node) (ids : List ℕ) → Extends ns ms → AllBelow (length ns) ids → AllBelow (length ms) ids
below_kept ns ms ids x p k d h = let l = extends_long ns ms x in let w = p k d h in omega arith

pub all_kept : (ns ms : List Node) (ids : List ℕ) (ts : List SigType) → Extends ns ms → HasAll ns ids ts → HasAll ms ids ts
all_kept ns ms ids ts x h = record { within = below_kept ns ms ids x h.within; terms = terms_kept ns ms ids x h.within ∙ h.terms }

pub frame_kept : (ns ms : List Node) (v : CodeFrame) (f : Frame) → Extends ns ms → MeansFrame ns v f → MeansFrame ms v f
frame_kept ns ms v f x h = record {
  arguments = all_kept ns ms v.arguments f.arguments x h.arguments;
  locals = all_kept ns ms v.locals f.locals x h.locals;
  returns = has_kept ns ms v.returns f.returns x h.returns;
}

-- ---- stack types

pub type_within : (n m : ℕ) (s : StackType) → n ≤ m → IsWithin n s → IsWithin m s
type_within n m (Ref k) l h = omega arith
type_within n m (Boxed k) l h = omega arith
type_within n m (Val k) l h = omega arith
type_within n m (Ptr k) l h = omega arith
type_within n m I4 l h = tt
type_within n m I8 l h = tt
type_within n m N l h = tt
type_within n m F l h = tt
type_within n m Null l h = tt
type_within n m Bad l h = tt

pub type_kept : (ns ms : List Node) (s : StackType) → Extends ns ms → IsWithin (length ns) s → meant ms s ≡ meant ns s
type_kept ns ms (Ref k) x h = ap stack.ref (x.terms k h)
type_kept ns ms (Boxed k) x h = ap stack.boxed (x.terms k h)
type_kept ns ms (Val k) x h = ap stack.val (x.terms k h)
type_kept ns ms (Ptr k) x h = ap stack.ptr (x.terms k h)
type_kept ns ms I4 x h = refl
type_kept ns ms I8 x h = refl
type_kept ns ms N x h = refl
type_kept ns ms F x h = refl
type_kept ns ms Null x h = refl
type_kept ns ms Bad x h = refl

pub means_kept : (ns ms : List Node) (s : StackType) (t : stack.Stack) → Extends ns ms → Means ns s t → Means ms s t
means_kept ns ms s t x h = record {
  within = type_within (length ns) (length ms) s (extends_long ns ms x) h.within;
  is = type_kept ns ms s x h.within ∙ h.is;
}

-- a list keeps its meaning where each item does
list_kept : {A B : Type 0} (f g : A → B) (P : A → Type 0) → ((a : A) → P a → g a ≡ f a) → (xs : List A) → All P xs → map g xs ≡ map f xs
list_kept f g P e [] h = refl
list_kept f g P e (a ∷ xs) h =
    let i : g a ≡ f a = e a (All-head P a xs h) in
    let t = list_kept f g P e xs (All-tail P a xs h) in
    λ j. i j ∷ t j

pub stack_within : (ns ms : List Node) (s : List StackType) → Extends ns ms → IsStackWithin (length ns) s → IsStackWithin (length ms) s
stack_within ns ms s x h = All-weaker (IsWithin (length ns)) (IsWithin (length ms)) (λ t w. type_within (length ns) (length ms) t (extends_long ns ms x) w) s h

pub stack_same : (ns ms : List Node) (s : List StackType) → Extends ns ms → IsStackWithin (length ns) s → stack_meant ms s ≡ stack_meant ns s
stack_same ns ms s x h = list_kept (meant ns) (meant ms) (IsWithin (length ns)) (λ t w. type_kept ns ms t x w) s h

pub stack_kept : (ns ms : List Node) (s : List StackType) (xs : List stack.Stack) → Extends ns ms → MeansStack ns s xs → MeansStack ms s xs
stack_kept ns ms s xs x h = record { within = stack_within ns ms s x h.within; is = stack_same ns ms s x h.within ∙ h.is }

-- ---- demands

pub demand_within : (n m : ℕ) (d : Demand) → n ≤ m → IsDemandWithin n d → IsDemandWithin m d
demand_within n m Nothing l h = tt
demand_within n m Any l h = tt
demand_within n m Number l h = tt
demand_within n m Integer l h = tt
demand_within n m Index l h = tt
demand_within n m Object l h = tt
demand_within n m Condition l h = tt
demand_within n m Comparable l h = tt
demand_within n m (Exactly t) l h = type_within n m t l h
demand_within n m (OneOf t u) l h = (type_within n m t l h.0, type_within n m u l h.1)
demand_within n m (To t) l h = type_within n m t l h
demand_within n m ObjectPointer l h = tt
demand_within n m Vector l h = tt
demand_within n m (VectorOf k) l h = omega arith
demand_within n m ObjectVector l h = tt

pub demand_kept : (ns ms : List Node) (d : Demand) → Extends ns ms → IsDemandWithin (length ns) d → demand_meant ms d ≡ demand_meant ns d
demand_kept ns ms Nothing x h = refl
demand_kept ns ms Any x h = refl
demand_kept ns ms Number x h = refl
demand_kept ns ms Integer x h = refl
demand_kept ns ms Index x h = refl
demand_kept ns ms Object x h = refl
demand_kept ns ms Condition x h = refl
demand_kept ns ms Comparable x h = refl
demand_kept ns ms (Exactly t) x h = ap demands.exactly (type_kept ns ms t x h)
demand_kept ns ms (OneOf t u) x h = let a = type_kept ns ms t x h.0 in let b = type_kept ns ms u x h.1 in λ i. demands.one_of (a i) (b i)
demand_kept ns ms (To t) x h = ap demands.to (type_kept ns ms t x h)
demand_kept ns ms ObjectPointer x h = refl
demand_kept ns ms Vector x h = refl
demand_kept ns ms (VectorOf k) x h = ap demands.vector_of (x.terms k h)
demand_kept ns ms ObjectVector x h = refl

-- ---- results

pub pushed_within : (n m : ℕ) (p : Pushed) → n ≤ m → IsPushedWithin n p → IsPushedWithin m p
pushed_within n m (Always t) l h = type_within n m t l h
pushed_within n m Same l h = tt
pushed_within n m SameNumber l h = tt
pushed_within n m SameInteger l h = tt
pushed_within n m Pointed l h = tt
pushed_within n m Fetched l h = tt
pushed_within n m (Computed p) l h = tt

pub pushed_kept : (ns ms : List Node) (p : Pushed) → Extends ns ms → IsPushedWithin (length ns) p → pushed_meant ms p ≡ pushed_meant ns p
pushed_kept ns ms (Always t) x h = ap rows.always (type_kept ns ms t x h)
pushed_kept ns ms Same x h = refl
pushed_kept ns ms SameNumber x h = refl
pushed_kept ns ms SameInteger x h = refl
pushed_kept ns ms Pointed x h = refl
pushed_kept ns ms Fetched x h = refl
pushed_kept ns ms (Computed p) x h = refl

-- ---- rows

pub row_within : (ns ms : List Node) (r : Row) → Extends ns ms → IsRowWithin (length ns) r → IsRowWithin (length ms) r
row_within ns ms r x h = record {
  operands = All-weaker (IsDemandWithin (length ns)) (IsDemandWithin (length ms)) (λ d w. demand_within (length ns) (length ms) d (extends_long ns ms x) w) r.operands h.operands;
  pushed = All-weaker (IsPushedWithin (length ns)) (IsPushedWithin (length ms)) (λ p w. pushed_within (length ns) (length ms) p (extends_long ns ms x) w) r.pushed h.pushed;
}

pub row_same : (ns ms : List Node) (r : Row) → Extends ns ms → IsRowWithin (length ns) r → row_meant ms r ≡ row_meant ns r
row_same ns ms r x h =
    let o = list_kept (demand_meant ns) (demand_meant ms) (IsDemandWithin (length ns)) (λ d w. demand_kept ns ms d x w) r.operands h.operands in
    let p = list_kept (pushed_meant ns) (pushed_meant ms) (IsPushedWithin (length ns)) (λ q w. pushed_kept ns ms q x w) r.pushed h.pushed in
    λ i. record { operands = o i; together = together_meant r.together; pushed = p i; empties = r.empties }

pub row_kept : (ns ms : List Node) (r : Row) (y : rows.Row) → Extends ns ms → MeansRow ns r y → MeansRow ms r y
row_kept ns ms r y x h = record { within = row_within ns ms r x h.within; is = row_same ns ms r x h.within ∙ h.is }
