-- What the types of a pool's nodes are, and how they stay as the pool grows.
use Rattle.std.proofs.Common.{◌≡◌, ◌⊎◌, inl, inr, ap, refl, sym, ◌∙◌, ℕ, zero, suc, ◌+◌, ◌<◌, ◌≤◌, List, [], ◌∷◌, ◌++◌, map, length, get_or, slice_get, Some, append_assoc, arith, add-zero, zero-add}
use Rattle.std.proofs.lemmas.List.{append-nil}
use Rattle.std.proofs.lemmas.Option.{slice_get_within, slice_get-get_or}
use Rattle.std.proofs.Math.ListN.{get_or-append, length-append}
use Rattle.std.proofs.Math.Seq.{get_or-append_seam}
use Rattle.type_terms.specs.declared.term.Primitive.TheVariants.{Void}
use Rattle.type_terms.specs.declared.term.Owner.TheVariants as owner
use Rattle.type_terms.specs.declared.term.Owner.TheOpen as layer
use Rattle.type_terms.specs.declared.term.SigType.{SigType, roll-SigType, out-SigType, out-roll-SigType}
use Rattle.type_terms.specs.declared.term.SigType.TheVariants as type
use Rattle.sig_pool.specs.declared.node.Node.{Node}
use Rattle.sig_pool.specs.declared.node.Node.TheVariants.{Prim, Class, Value, Inst, Var, MVar, SzArray, Array, ByRef, Pointer, Mod, Pinned}
use Rattle.sig_pool.specs.declared.node.NodeOwner.{NodeOwner}
use Rattle.sig_pool.specs.declared.node.NodeOwner.TheVariants.{Name, Spec}
use Rattle.sig_pool.specs.Terms.{children, owner_children, AllBelow, at, owner_of, layer_of, built, grown, terms, term_of}
use Rattle.sig_pool.specs.Pool.{IsPool, Extends, Has}

one : (k b : ℕ) (ks : List ℕ) → AllBelow b (k ∷ ks) → k < b
one k b ks p = p 0 0 (omega arith)

later : (k b : ℕ) (ks : List ℕ) → AllBelow b (k ∷ ks) → AllBelow b ks
later k b ks p = λ i d h. p (suc i) d (omega arith)

-- ---- a node depends on its children alone

module _ (ts us : List SigType) (b : ℕ) (same : (j : ℕ) → j < b → at ts j ≡ at us j) where
  args_same : (ks : List ℕ) → AllBelow b ks → map (at ts) ks ≡ map (at us) ks
  args_same [] p = refl
  args_same (k ∷ ks) p =
      let h : at ts k ≡ at us k = same k (one k b ks p) in
      let t = args_same ks (later k b ks p) in
      λ i. h i ∷ t i

  owner_same : (o : NodeOwner) → AllBelow b (owner_children o) → owner_of ts o ≡ owner_of us o
  owner_same (Name n) p = refl
  owner_same (Spec k) p = ap owner.Spec (same k (one k b [] p))

  layer_same : (n : Node) → AllBelow b (children n) → layer_of ts n ≡ layer_of us n
  layer_same (Prim x) p = refl
  layer_same (Class n) p = refl
  layer_same (Value n) p = refl
  layer_same (Inst v n args) p = ap (layer.Inst v n) (args_same args p)
  layer_same (Var n) p = refl
  layer_same (MVar n) p = refl
  layer_same (SzArray k) p = ap layer.SzArray (same k (one k b [] p))
  layer_same (Array k r s l) p = ap (λ t. layer.Array t r s l) (same k (one k b [] p))
  layer_same (ByRef k) p = ap layer.ByRef (same k (one k b [] p))
  layer_same (Pointer k) p = ap layer.Pointer (same k (one k b [] p))
  layer_same (Mod r o k) p =
      let h : at ts k ≡ at us k = same k (one k b (owner_children o) p) in
      let t : owner_of ts o ≡ owner_of us o = owner_same o (later k b (owner_children o) p) in
      λ i. layer.Mod r (t i) (h i)
  layer_same (Pinned k) p = ap layer.Pinned (same k (one k b [] p))

  pub built_same : (n : Node) → AllBelow b (children n) → built ts n ≡ built us n
  unfolding built
  built_same n p = ap roll-SigType (layer_same n p)

-- ---- growing

grown_keeps : (ns : List Node) (ts : List SigType) (j : ℕ) → j < length ts → at (grown ts ns) j ≡ at ts j
grown_keeps [] ts j h = refl
grown_keeps (n ∷ ns) ts j h =
    grown_keeps ns (ts ++ built ts n ∷ []) j (omega (arith, length-append ts (built ts n ∷ []))) ∙ get_or-append ts (built ts n ∷ []) (type.Prim Void) j h

length_grown : (ns : List Node) (ts : List SigType) → length (grown ts ns) ≡ length ts + length ns
length_grown [] ts = omega arith
length_grown (n ∷ ns) ts = omega (arith, length_grown ns (ts ++ built ts n ∷ []), length-append ts (built ts n ∷ []))

grown_append : (ns ms : List Node) (ts : List SigType) → grown ts (ns ++ ms) ≡ grown (grown ts ns) ms
grown_append [] ms ts = refl
grown_append (n ∷ ns) ms ts = grown_append ns ms (ts ++ built ts n ∷ [])

grown_is : (ns : List Node) (ts : List SigType) (k : ℕ) (n : Node) → slice_get ns k ≡ Some n → AllBelow (length ts + k) (children n) → at (grown ts ns) (length ts + k) ≡ built (grown ts ns) n
grown_is [] ts k n e p = cc
grown_is (m ∷ ns) ts zero n e p =
    let same : m ≡ n = cc in
    let us : List SigType = ts ++ built ts m ∷ [] in
    let here : at (grown us ns) (length ts + 0) ≡ built ts m =
    rw (add-zero (length ts)) (grown_keeps ns us (length ts) (omega (arith, length-append ts (built ts m ∷ []))) ∙ get_or-append_seam ts (built ts m) [] (type.Prim Void)) in
    let kept : (j : ℕ) → j < length ts + 0 → at ts j ≡ at (grown us ns) j =
    λ j h. sym (grown_keeps ns us j (omega (arith, length-append ts (built ts m ∷ []))) ∙ get_or-append ts (built ts m ∷ []) (type.Prim Void) j (omega arith)) in
    here ∙ ap (built ts) same ∙ built_same ts (grown us ns) (length ts + 0) kept n p
grown_is (m ∷ ns) ts (suc k) n e p =
    let us : List SigType = ts ++ built ts m ∷ [] in
    let long : length us + k ≡ length ts + suc k = omega (arith, length-append ts (built ts m ∷ [])) in
    rw (sym long) (grown_is ns us k n e (rw long p))

-- ---- the types of a pool

pub terms_length : (ns : List Node) → length (terms ns) ≡ length ns
unfolding terms
terms_length ns = omega (arith, length_grown ns [])

pub term_kept : (ns ms : List Node) (k : ℕ) → k < length ns → term_of (ns ++ ms) k ≡ term_of ns k
unfolding terms term_of
term_kept ns ms k h = ap (λ ts. at ts k) (grown_append ns ms []) ∙ grown_keeps ms (grown [] ns) k (omega (arith, length_grown ns []))

pub term_is : (ns : List Node) (k : ℕ) (n : Node) → IsPool ns → slice_get ns k ≡ Some n → term_of ns k ≡ built (terms ns) n
unfolding terms term_of
term_is ns k n p e =
    let h = grown_is ns [] k n e (rw (zero-add k) (p.below k n e)) in
    rw (zero-add k) at h

-- a new node at the end
pub term_new : (ns : List Node) (n : Node) → term_of (ns ++ n ∷ []) (length ns) ≡ built (terms ns) n
unfolding terms term_of
term_new ns n =
    let long : length (grown [] ns) ≡ length ns = omega (arith, length_grown ns []) in
    ap (λ ts. at ts (length ns)) (grown_append ns (n ∷ []) []) ∙ rw long at (get_or-append_seam (grown [] ns) (built (grown [] ns) n) [] (type.Prim Void))

-- ---- a pool before and after

pub extends_refl : (ns : List Node) → Extends ns ns
extends_refl ns = record { more = []; nodes = sym (append-nil ns); terms = λ k h. refl }

pub extends_append : (ns ms : List Node) → Extends ns (ns ++ ms)
extends_append ns ms = record { more = ms; nodes = refl; terms = λ k h. term_kept ns ms k h }

pub extends_trans : (ns ms ks : List Node) → Extends ns ms → Extends ms ks → Extends ns ks
extends_trans ns ms ks p q = record {
  more = p.more ++ q.more;
  nodes = q.nodes ∙ ap (λ l. l ++ q.more) p.nodes ∙ append_assoc ns p.more q.more;
  terms = λ k h. q.terms k (omega (arith, ap length p.nodes, length-append ns p.more)) ∙ p.terms k h;
}

pub extends_long : (ns ms : List Node) → Extends ns ms → length ns ≤ length ms
extends_long ns ms p = omega (arith, ap length p.nodes, length-append ns p.more)

pub has_extends : (ns ms : List Node) (id : ℕ) (t : SigType) → Extends ns ms → Has ns id t → Has ms id t
has_extends ns ms id t p h = record { within = omega (arith, extends_long ns ms p, h.within); term = p.terms id h.within ∙ h.term }

pub has_node : (ns : List Node) (k : ℕ) (n : Node) → IsPool ns → slice_get ns k ≡ Some n → Has ns k (built (terms ns) n)
has_node ns k n p e = record { within = slice_get_within ns k n e; term = term_is ns k n p e }

pub has_new : (ns : List Node) (n : Node) → Has (ns ++ n ∷ []) (length ns) (built (terms ns) n)
has_new ns n = record { within = omega (arith, length-append ns (n ∷ [])); term = term_new ns n }

-- ---- a new node keeps what holds of a pool

at_end : (ns : List Node) (n : Node) (k : ℕ) (m : Node) → slice_get (ns ++ n ∷ []) k ≡ Some m → (slice_get ns k ≡ Some m) ⊎ ((k ≡ length ns) × (n ≡ m))
at_end [] n zero m e = inr (refl, cc)
at_end [] n (suc k) m e = cc
at_end (x ∷ ns) n zero m e = inl e
at_end (x ∷ ns) n (suc k) m e =
    elim (at_end ns n k m e) [ inl h ↦ inl h | inr h ↦ inr (omega (arith, h.0), h.1) ]

pub push_pool : (ns : List Node) (n : Node) → IsPool ns → AllBelow (length ns) (children n) → ((k : ℕ) → slice_get ns k ≡ Some n → ⊥) → IsPool (ns ++ n ∷ [])
push_pool ns n p below other = record {
  below = λ k m e. elim (at_end ns n k m e) [
    | inl h ↦ p.below k m h
    | inr h ↦ rw (h.0, ← h.1) below
  ];
  distinct = λ j k m d e. elim (at_end ns n j m d) [
    | inl h ↦ elim (at_end ns n k m e) [
      | inl g ↦ p.distinct j k m h g
      | inr g ↦ absurd (other j (rw g.1 h))
    ]
    | inr h ↦ elim (at_end ns n k m e) [
      | inl g ↦ absurd (other k (rw h.1 g))
      | inr g ↦ h.0 ∙ sym g.0
    ]
  ];
}

-- ---- two ids are equal where their types are

module _ (ts : List SigType) (j k : ℕ) (apart : (i l : ℕ) → i < j → l < k → at ts i ≡ at ts l → i ≡ l) where
  args_apart : (xs ys : List ℕ) → AllBelow j xs → AllBelow k ys → map (at ts) xs ≡ map (at ts) ys → xs ≡ ys
  args_apart [] [] p q e = refl
  args_apart [] (y ∷ ys) p q e = cc
  args_apart (x ∷ xs) [] p q e = cc
  args_apart (x ∷ xs) (y ∷ ys) p q e =
      let h : at ts x ≡ at ts y = cc in
      let t : map (at ts) xs ≡ map (at ts) ys = cc in
      let a : x ≡ y = apart x y (one x j xs p) (one y k ys q) h in
      let b : xs ≡ ys = args_apart xs ys (later x j xs p) (later y k ys q) t in
      λ i. a i ∷ b i

  owner_apart : (o p : NodeOwner) → AllBelow j (owner_children o) → AllBelow k (owner_children p) → owner_of ts o ≡ owner_of ts p → o ≡ p
  owner_apart (Name n) (Name m) p q e = ap Name (cc)
  owner_apart (Spec x) (Spec y) p q e = let h : at ts x ≡ at ts y = cc in ap Spec (apart x y (one x j [] p) (one y k [] q) h)
  owner_apart (Name n) (Spec y) p q e = cc
  owner_apart (Spec x) (Name m) p q e = cc

  single : (x y : ℕ) → AllBelow j (x ∷ []) → AllBelow k (y ∷ []) → at ts x ≡ at ts y → x ≡ y
  single x y p q e = apart x y (one x j [] p) (one y k [] q) e

  nodes_apart : (n m : Node) → AllBelow j (children n) → AllBelow k (children m) → layer_of ts n ≡ layer_of ts m → n ≡ m
  nodes_apart (Prim x) (Prim y) p q e = ap Prim (cc)
  nodes_apart (Class n) (Class m) p q e = ap Class (cc)
  nodes_apart (Value n) (Value m) p q e = ap Value (cc)
  nodes_apart (Inst v n xs) (Inst w m ys) p q e =
      let a : v ≡ w = cc in
      let b : n ≡ m = cc in
      let t : map (at ts) xs ≡ map (at ts) ys = cc in
      let c : xs ≡ ys = args_apart xs ys p q t in
      λ i. Inst (a i) (b i) (c i)
  nodes_apart (Var n) (Var m) p q e = ap Var (cc)
  nodes_apart (MVar n) (MVar m) p q e = ap MVar (cc)
  nodes_apart (SzArray x) (SzArray y) p q e = ap SzArray (single x y p q (cc))
  nodes_apart (Array x r s l) (Array y u z w) p q e =
      let a : x ≡ y = single x y p q (cc) in
      let b : r ≡ u = cc in
      let c : s ≡ z = cc in
      let d : l ≡ w = cc in
      λ i. Array (a i) (b i) (c i) (d i)
  nodes_apart (ByRef x) (ByRef y) p q e = ap ByRef (single x y p q (cc))
  nodes_apart (Pointer x) (Pointer y) p q e = ap Pointer (single x y p q (cc))
  nodes_apart (Mod r o x) (Mod u v y) p q e =
      let a : r ≡ u = cc in
      let h : at ts x ≡ at ts y = cc in
      let g : owner_of ts o ≡ owner_of ts v = cc in
      let b : x ≡ y = apart x y (one x j (owner_children o) p) (one y k (owner_children v) q) h in
      let c : o ≡ v = owner_apart o v (later x j (owner_children o) p) (later y k (owner_children v) q) g in
      λ i. Mod (a i) (c i) (b i)
  nodes_apart (Pinned x) (Pinned y) p q e = ap Pinned (single x y p q (cc))
  nodes_apart n m p q e = cc

built_layer : (ts : List SigType) (n m : Node) → built ts n ≡ built ts m → layer_of ts n ≡ layer_of ts m
unfolding built
built_layer ts n m e = sym (out-roll-SigType (layer_of ts n)) ∙ ap out-SigType e ∙ out-roll-SigType (layer_of ts m)

pub term_at : (ns : List Node) (k : ℕ) → term_of ns k ≡ at (terms ns) k
unfolding term_of
term_at ns k = refl

apart_below : (ns : List Node) → IsPool ns → (b j k : ℕ) → j < b → k < b → j < length ns → k < length ns → term_of ns j ≡ term_of ns k → j ≡ k
apart_below ns p zero j k hj hk lj lk e = absurd (omega arith)
apart_below ns p (suc b) j k hj hk lj lk e =
    let nj : Node = get_or ns j (Prim Void) in
    let nk : Node = get_or ns k (Prim Void) in
    let ej : slice_get ns j ≡ Some nj = slice_get-get_or ns j (Prim Void) lj in
    let ek : slice_get ns k ≡ Some nk = slice_get-get_or ns k (Prim Void) lk in
    let f : built (terms ns) nj ≡ built (terms ns) nk = sym (term_is ns j nj p ej) ∙ e ∙ term_is ns k nk p ek in
    let same : nj ≡ nk = nodes_apart (terms ns) j k
    (λ i l hi hl g. apart_below ns p b i l (omega arith) (omega arith) (omega arith) (omega arith) (term_at ns i ∙ g ∙ sym (term_at ns l)))
    nj nk (p.below j nj ej) (p.below k nk ek) (built_layer (terms ns) nj nk f) in
    p.distinct j k nk (ej ∙ ap Some same) ek

pub same_terms : (ns : List Node) (j k : ℕ) → IsPool ns → j < length ns → k < length ns → term_of ns j ≡ term_of ns k → j ≡ k
same_terms ns j k p h g e = apart_below ns p (suc (j + k)) j k (omega arith) (omega arith) h g e
