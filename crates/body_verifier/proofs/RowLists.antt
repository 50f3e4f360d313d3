-- The rows of a body, instruction by instruction.
use Rattle.std.proofs.Common.{◌≡◌, ◌∙◌, ap, sym, subst, refl, inl, inr, ◌⊎◌, ℕ, zero, suc, ◌+◌, ◌<◌, arith, add-one, List, [], ◌∷◌, ◌++◌, length, get_or}
use Rattle.std.specs.Prelude.{slice_get, Option, None, Some, IfSome}
use Rattle.std.specs.List.{All}
use Rattle.std.proofs.lemmas.List.{length-append}
use Rattle.std.proofs.lemmas.List.Elements.{All-nil, All-push, All-weaker}
use Rattle.std.proofs.lemmas.Option.{slice_get_read, slice_get_within, get_or_from_slice_get}
use Rattle.assembly_tree.specs.declared.body.Ins.{Ins}
use Rattle.sig_pool.specs.declared.node.Node.{Node}
use Rattle.sig_pool.specs.Pool.{Extends}
use Rattle.type_hierarchy.specs.Hierarchy.{Hierarchy}
use Rattle.type_hierarchy.specs.Tables.{hierarchy_in}
use Rattle.type_hierarchy.specs.World.{Content, hierarchy, Stays}
use Rattle.stack_rows.specs.declared.frame.CodeFrame.{CodeFrame}
use Rattle.code_flow.specs.declared.operation.Operation.{Operation}
use Rattle.stack_rows.specs.declared.row.Row.{Row}
use Rattle.code_flow.specs.Frames.{Frame}
use Rattle.code_flow.specs.Operations.{operation}
use Rattle.stack_rows.specs.RowMeanings.{framed, type_option, row_meant, IsRowWithin, IsFrameWithin, MeansFrame, MeansRow}
use Rattle.code_flow.specs.Rows.{row_by, row_of, constraint, constraint_by, constraint_of}
use Rattle.body_verifier.specs.Ways.{AreRows}
use Rattle.stack_rows.proofs.Growing.{extends_long, below_kept, frame_kept, row_within, row_same, row_kept}
use Rattle.code_flow.proofs.PairLemmas.{one_item}
use Rattle.stack_rows.proofs.RowParts.{option_same}

-- ---- lists

last_or_before : {X : Type 0} (xs : List X) (x y : X) (k : ℕ) → slice_get (xs ++ x ∷ []) k ≡ Some y → (slice_get xs k ≡ Some y) ⊎ ((k ≡ length xs) × (y ≡ x))
last_or_before [] x y zero e = let s : y ≡ x = cc in inr (refl, s)
last_or_before [] x y (suc k) e = absurd (let f : ⊥ = cc in f)
last_or_before (z ∷ xs) x y zero e = inl e
last_or_before (z ∷ xs) x y (suc k) e = elim (last_or_before xs x y k e) [
  | inl h ↦ inl h
  | inr h ↦ inr (ap suc h.0, h.1)
]

one_of_all : {X : Type 0} (P : X → Type 0) (xs : List X) (k : ℕ) (x : X) → All P xs → slice_get xs k ≡ Some x → P x
one_of_all P xs k x h e = subst P (get_or_from_slice_get xs k x x e) (h k x (slice_get_within xs k x e))

-- ---- frames

pub framed_is : (w : Hierarchy) (ns : List Node) (v : CodeFrame) (f : Frame) → w ≡ f.types → MeansFrame ns v f → framed w ns v f ≡ f
framed_is w ns v f e h =
    let a = h.arguments.terms in
    let l = h.locals.terms in
    let r = h.returns.term in
    λ i. record { image = f.image; types = e i; code = f.code; clauses = f.clauses; bound = f.bound; arguments = a i; locals = l i; returns = r i }

pub frame_still : (ns ms : List Node) (v : CodeFrame) → Extends ns ms → IsFrameWithin (length ns) v → IsFrameWithin (length ms) v
frame_still ns ms v x h = record {
  arguments = below_kept ns ms v.arguments x h.arguments;
  locals = below_kept ns ms v.locals x h.locals;
  returns = let l = extends_long ns ms x in let r = h.returns in omega (arith, l, r);
}

-- ---- the first rows

-- the rows of the first `n` instructions of a frame, in order
pub record RowsTo (ns : List Node) (rs : List Row) (f : Frame) (n : ℕ) : Type 0 where
  pub long : length rs ≡ n
  pub within : All (IsRowWithin (length ns)) rs
  pub are : (k : ℕ) (r : Row) (i : Ins) → slice_get rs k ≡ Some r → slice_get f.code k ≡ Some i → row_meant ns r ≡ row_of f k i

pub no_rows : (ns : List Node) (f : Frame) (rs : List Row) → rs ≡ [] → RowsTo ns rs f 0
no_rows ns f rs e = subst (λ (l : List Row). RowsTo ns l f 0) (sym e) (record {
  long = refl;
  within = All-nil (IsRowWithin (length ns));
  are = λ k r i a b. absurd (let f : ⊥ = cc in f);
})

rows_on : (ns ms : List Node) (rs : List Row) (f : Frame) (n : ℕ) → Extends ns ms → RowsTo ns rs f n → RowsTo ms rs f n
rows_on ns ms rs f n x h = record {
  long = h.long;
  within = All-weaker (IsRowWithin (length ns)) (IsRowWithin (length ms)) (λ r w. row_within ns ms r x w) rs h.within;
  are = λ k r i a b. row_same ns ms r x (one_of_all (IsRowWithin (length ns)) rs k r h.within a) ∙ h.are k r i a b;
}

rows_end : (ns : List Node) (rs : List Row) (f : Frame) (n : ℕ) (r : Row) (i : Ins) → RowsTo ns rs f n → MeansRow ns r (row_of f n i) → slice_get f.code n ≡ Some i → RowsTo ns (rs ++ r ∷ []) f (n + 1)
rows_end ns rs f n r i h m at = record {
  long = let a = length-append rs (r ∷ []) in let b = h.long in omega (arith, a, b);
  within = All-push (IsRowWithin (length ns)) rs r h.within m.within;
  are = λ k s j a b. elim (last_or_before rs r s k a) [
    | inl e ↦ h.are k s j e b
    | inr e ↦
        let here : k ≡ n = e.0 ∙ h.long in
        let ins : j ≡ i = one_item f.code k n j i here b at in
        ap (row_meant ns) e.1 ∙ m.is ∙ (λ z. row_of f (sym here z) (sym ins z))
  ];
}

-- ---- the loop

instruction_at : (f : Frame) (code : List Ins) (n : ℕ) (i : Ins) → f.code ≡ code → n < length code → i ≡ get_or code n i → slice_get f.code n ≡ Some i
instruction_at f code n i e low is = ap (λ cs. slice_get cs n) e ∙ slice_get_read code (length code) n i refl low is

-- one more row: from `b` the world goes on to `c` with it, and to `d` with the type that `constrained.` names
pub rows_more : (a b c d : Content) (v : CodeFrame) (f : Frame) (code : List Ins) (rs later : List Row) (n : ℕ) (i : Ins) (k : Option ℕ) (r : Row) (o : Operation)
    → Stays a b → Stays b c → Stays c d → f.types ≡ hierarchy a → f.code ≡ code → MeansFrame a.nodes v f → n < length code → i ≡ get_or code n i → o ≡ operation i.op
    → type_option b.nodes k ≡ constraint f n → RowsTo b.nodes rs f n → MeansRow c.nodes r (row_by (framed (hierarchy b) b.nodes v f) (type_option b.nodes k) i o)
    → later ≡ rs ++ r ∷ [] → RowsTo d.nodes later f (n + 1)
rows_more a b c d v f code rs later n i k r o ab bc cd types is_code means low is does before h m e =
    let at = instruction_at f code n i is_code low is in
    let whole : framed (hierarchy b) b.nodes v f ≡ f =
    framed_is (hierarchy b) b.nodes v f (ap hierarchy_in ab.tables ∙ sym types) (frame_kept a.nodes b.nodes v f ab.nodes means) in
    let row : MeansRow c.nodes r (row_of f n i) = subst (MeansRow c.nodes r) (λ z. row_by (whole z) (before z) i (does z)) m in
    let grown = rows_end d.nodes rs f n r i (rows_on c.nodes d.nodes rs f n cd.nodes (rows_on b.nodes c.nodes rs f n bc.nodes h)) (row_kept c.nodes d.nodes r (row_of f n i) cd.nodes row) at in
    subst (λ (l : List Row). RowsTo d.nodes l f (n + 1)) (sym e) grown

pub constraint_none : (ns : List Node) (f : Frame) → type_option ns None ≡ constraint f 0
unfolding constraint
constraint_none ns f = refl

constraint_next : (f : Frame) (n : ℕ) (i : Ins) → slice_get f.code n ≡ Some i → constraint f (suc n) ≡ constraint_by f (constraint f n) (operation i.op) i.operand
unfolding constraint
constraint_next f n i at = ap (constraint_of f (constraint f n)) at

pub constraint_more : (a b c d : Content) (f : Frame) (code : List Ins) (n : ℕ) (i : Ins) (k later : Option ℕ) (o : Operation)
    → Stays a b → Stays b c → f.types ≡ hierarchy a → f.code ≡ code → n < length code → i ≡ get_or code n i → o ≡ operation i.op → IfSome k (λ j. j < length b.nodes)
    → type_option b.nodes k ≡ constraint f n → (f.types ≡ hierarchy c → type_option d.nodes later ≡ constraint_by f (type_option c.nodes k) o i.operand)
    → type_option d.nodes later ≡ constraint f (n + 1)
constraint_more a b c d f code n i k later o ab bc types is_code low is does within before after =
    let at = instruction_at f code n i is_code low is in
    let same : type_option c.nodes k ≡ constraint f n = option_same b c k bc within ∙ before in
    after (types ∙ sym (ap hierarchy_in (bc.tables ∙ ab.tables))) ∙ (λ z. constraint_by f (same z) (does z) i.operand) ∙ sym (constraint_next f n i at)
    ∙ ap (constraint f) (sym (add-one n))

pub rows_done : (ns : List Node) (rs : List Row) (f : Frame) (code : List Ins) (n : ℕ) → RowsTo ns rs f n → f.code ≡ code → n ≡ length code → AreRows ns rs f
rows_done ns rs f code n h e full = record { long = h.long ∙ full ∙ ap length (sym e); within = h.within; are = h.are }

-- as the pool of types grows
pub are_rows_on : (ns ms : List Node) (rs : List Row) (f : Frame) → Extends ns ms → AreRows ns rs f → AreRows ms rs f
are_rows_on ns ms rs f x h =
    let kept = rows_on ns ms rs f (length f.code) x (record { long = h.long; within = h.within; are = h.are }) in
    record { long = kept.long; within = kept.within; are = kept.are }
