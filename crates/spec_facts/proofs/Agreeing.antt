-- A scan with one map is a scan with another where both tell the same of what is met.
use Rattle.std.proofs.Common.{◌≡◌, ℕ, zero, suc, ◌+◌, ◌≤◌, ◌<◌, ◌⊎◌, inl, inr, Bool, true, false, cond, nat_eq, ◌&&◌, List, length, Option, Some, None, refl, sym, ap, subst, ◌∙◌, arith}
use Rattle.sig_codec.specs.declared.element.Element.{Element}
use Rattle.sig_codec.specs.declared.element.Element.TheVariants as element
use Rattle.sig_codec.specs.Signature.{max_depth, max_nodes}
use Rattle.sig_codec.specs.Tokens.{token_of_coded}
use Rattle.sig_codec.specs.Reading.{◌>>=◌, Step, Read, byte_at, number_at, kind_at, element_of, is_declared, is_at_sentinel}
use Rattle.sig_codec.proofs.Numbers.{some_is, bind_some}
use Rattle.sig_codec.proofs.StepParts.{let_through, kept_out}
use Rattle.signature_facts.specs.declared.facts.Facts.{Facts}
use Rattle.signature_facts.specs.declared.facts.OwnerFacts.{OwnerFacts}
use Rattle.signature_facts.specs.Facts.{leaf, joined, node, inst_tag, mod_tag}
use Rattle.signature_facts.specs.Scanning.{OwnersFacts, FactsStep, owner_at, declared_at, generic_at, types_at, all_types_at, boxed_at, named_at, numbered_at, shape_at, array_at, inst_at, after_facts, modified_at, parts_at, type_at, whole_type}

-- Which facts of a type are of interest, and which of what stands in it.
pub record IsClosed (Whole Part : Facts → Type 0) : Type 0 where
  pub inside : (f : Facts) → Whole (node f) → Part f
  pub first : (f g : Facts) → Part (joined f g) → Part f
  pub second : (f g : Facts) → Part (joined f g) → Part g
  pub part : (f : Facts) → Part f → Whole f

-- what one map tells of names, and of other parts of interest, the other tells too
abbrev pub Agrees : (Facts → Type 0) → OwnersFacts → OwnersFacts → Type 0
Agrees Part one other = (token : ℕ) (o : OwnerFacts) → one token ≡ Some o → (o.is_name ≡ true) ⊎ Part o.facts → other token ≡ Some o

abbrev given : {X : Type 0} → X → List ℕ → Step X
given x rest = Some (x, rest)

abbrev left : Facts → List ℕ → ℕ → Read Facts
left f rest many = Some (f, rest, many)

module _ (Whole Part : Facts → Type 0) (closed : IsClosed Whole Part) (one other : OwnersFacts) (agrees : Agrees Part one other) where
  -- an owner that is met by one is met by the other, if it is a name or of interest
  owner_agrees : (b : List ℕ) (x : ℕ × OwnerFacts × List ℕ) → owner_at one b ≡ Some x → (x.1.is_name ≡ true) ⊎ Part x.1.facts → owner_at other b ≡ Some x
  unfolding owner_at
  owner_agrees b x e h =
      let third : ℕ → List ℕ → OwnerFacts → Option (ℕ × OwnerFacts × List ℕ) = λ t rest o. Some (t, o, rest) in
      let second : List ℕ → ℕ → Option (ℕ × OwnerFacts × List ℕ) = λ rest t. one t >>= third t rest in
      let first : (ℕ × List ℕ) → Option (ℕ × OwnerFacts × List ℕ) = λ n. token_of_coded n.0 >>= second n.1 in
      let p = bind_some (number_at b) first x e in
      let q = bind_some (token_of_coded p.0.0) (second p.0.1) x p.2 in
      let r = bind_some (one q.0) (third q.0 p.0.1) x q.2 in
      let z : ℕ × OwnerFacts × List ℕ = (q.0, r.0, p.0.1) in
      let is = some_is z x r.2 in
      let same : r.0 ≡ x.1 = ap (λ (y : ℕ × OwnerFacts × List ℕ). y.1) is in
      let known : other q.0 ≡ Some r.0 = agrees q.0 r.0 r.1 (subst (λ (o : OwnerFacts). (o.is_name ≡ true) ⊎ Part o.facts) (sym same) h) in
      rw (p.1, q.1, known) r.2

  declared_agrees : (b : List ℕ) (x : Facts × List ℕ) → declared_at one b ≡ Some x → declared_at other b ≡ Some x
  unfolding declared_at
  declared_agrees b x e =
      let next : (ℕ × OwnerFacts × List ℕ) → Step Facts = λ o. cond (o.1.is_name && is_declared o.0) (given o.1.facts o.2) None in
      let p = bind_some (owner_at one b) next x e in
      let z : Facts × List ℕ = (p.0.1.facts, p.0.2) in
      let t = let_through (p.0.1.is_name && is_declared p.0.0) z x p.2 in
      let name = both_true p.0.1.is_name (is_declared p.0.0) t.0 in
      rw (owner_agrees b p.0 p.1 (inl name)) p.2
    where
      both_true : (s t : Bool) → (s && t) ≡ true → s ≡ true
      both_true true t h = refl
      both_true false t h = absurd cc

  generic_agrees : (b : List ℕ) (x : Facts × ℕ × List ℕ) → generic_at one b ≡ Some x → generic_at other b ≡ Some x
  unfolding generic_at
  generic_agrees b x e =
      let fourth : Bool → OwnerFacts → (ℕ × List ℕ) → Option (Facts × ℕ × List ℕ) =
      λ v o n. cond o.is_name (cond (nat_eq n.0 0) None (Some (joined (leaf (inst_tag v)) o.facts, n.0, n.1))) None in
      let second : Bool → (ℕ × OwnerFacts × List ℕ) → Option (Facts × ℕ × List ℕ) = λ v o. number_at o.2 >>= fourth v o.1 in
      let first : (Bool × List ℕ) → Option (Facts × ℕ × List ℕ) = λ k. owner_at one k.1 >>= second k.0 in
      let p = bind_some (kind_at b) first x e in
      let q = bind_some (owner_at one p.0.1) (second p.0.0) x p.2 in
      let r = bind_some (number_at q.0.2) (fourth p.0.0 q.0.1) x q.2 in
      let name = named q.0.1.is_name (cond (nat_eq r.0.0 0) None (Some (joined (leaf (inst_tag p.0.0)) q.0.1.facts, r.0.0, r.0.1))) r.2 in
      rw (p.1, owner_agrees p.0.1 q.0 q.1 (inl name)) q.2
    where
      named : (t : Bool) (r : Option (Facts × ℕ × List ℕ)) → cond t r None ≡ Some x → t ≡ true
      named true r h = refl
      named false r h = absurd cc

  -- a step of one goes along a step of the other
  pub record Goes (s p : FactsStep) : Type 0 where
    pub on : (b : List ℕ) (n : ℕ) (x : Facts × List ℕ × ℕ) → s b n ≡ Some x → Whole x.0 → p b n ≡ Some x

  module _ (s p : FactsStep) (goes : Goes s p) where
    abbrev next_type : Facts → ℕ → (Facts × List ℕ × ℕ) → Option (Facts × ℕ × List ℕ × ℕ)
    next_type front count t = types_at s (joined front t.0) count t.1 t.2

    abbrev stopped : Facts → ℕ → List ℕ → ℕ → Option (Facts × ℕ × List ℕ × ℕ)
    stopped front count b n = Some (front, count, b, n)

    -- what stood before is of interest where the whole is
    front_step : (count : ℕ) → ((front : Facts) (b : List ℕ) (n : ℕ) (x : Facts × ℕ × List ℕ × ℕ) → types_at s front count b n ≡ Some x → Part x.0 → Part front)
        → (t : Bool) (front : Facts) (b : List ℕ) (n : ℕ) (x : Facts × ℕ × List ℕ × ℕ) → cond t (stopped front (suc count) b n) (s b n >>= next_type front count) ≡ Some x → Part x.0 → Part front
    front_step count ih true front b n x e h =
        let z : Facts × ℕ × List ℕ × ℕ = (front, suc count, b, n) in
        subst (λ (x : Facts × ℕ × List ℕ × ℕ). Part x.0) (sym (some_is z x e)) h
    front_step count ih false front b n x e h =
        let a = bind_some (s b n) (next_type front count) x e in
        closed.first front a.0.0 (ih (joined front a.0.0) a.0.1 a.0.2 x a.2 h)

    types_front : (count : ℕ) (front : Facts) (b : List ℕ) (n : ℕ) (x : Facts × ℕ × List ℕ × ℕ) → types_at s front count b n ≡ Some x → Part x.0 → Part front
    types_front zero front b n x e h =
        let z : Facts × ℕ × List ℕ × ℕ = (front, 0, b, n) in
        subst (λ (x : Facts × ℕ × List ℕ × ℕ). Part x.0) (sym (some_is z x e)) h
    types_front (suc count) front b n x e h = front_step count (types_front count) (is_at_sentinel b) front b n x e h

    types_step : (count : ℕ) → ((front : Facts) (b : List ℕ) (n : ℕ) (x : Facts × ℕ × List ℕ × ℕ) → types_at s front count b n ≡ Some x → Part x.0 → types_at p front count b n ≡ Some x)
        → (t : Bool) (front : Facts) (b : List ℕ) (n : ℕ) (x : Facts × ℕ × List ℕ × ℕ) → cond t (stopped front (suc count) b n) (s b n >>= next_type front count) ≡ Some x → Part x.0
        → cond t (stopped front (suc count) b n) (p b n >>= λ t. types_at p (joined front t.0) count t.1 t.2) ≡ Some x
    types_step count ih true front b n x e h = e
    types_step count ih false front b n x e h =
        let a = bind_some (s b n) (next_type front count) x e in
        let part = closed.second front a.0.0 (types_front count (joined front a.0.0) a.0.1 a.0.2 x a.2 h) in
        rw (goes.on b n a.0 a.1 (closed.part a.0.0 part)) (ih (joined front a.0.0) a.0.1 a.0.2 x a.2 h)

    types_agree : (count : ℕ) (front : Facts) (b : List ℕ) (n : ℕ) (x : Facts × ℕ × List ℕ × ℕ) → types_at s front count b n ≡ Some x → Part x.0 → types_at p front count b n ≡ Some x
    types_agree zero front b n x e h = e
    types_agree (suc count) front b n x e h = types_step count (types_agree count) (is_at_sentinel b) front b n x e h

    all_agree : (front : Facts) (count : ℕ) (b : List ℕ) (n : ℕ) (x : Facts × List ℕ × ℕ) → all_types_at s front count b n ≡ Some x → Part x.0 → all_types_at p front count b n ≡ Some x
    unfolding all_types_at
    all_agree front count b n x e h =
        let next : (Facts × ℕ × List ℕ × ℕ) → Read Facts = λ ts. cond (nat_eq ts.1 0) (left ts.0 ts.2 ts.3) None in
        let a = bind_some (types_at s front count b n) next x e in
        let z : Facts × List ℕ × ℕ = (a.0.0, a.0.2, a.0.3) in
        let t = let_through (nat_eq a.0.1 0) z x a.2 in
        let part : Part a.0.0 = subst (λ (x : Facts × List ℕ × ℕ). Part x.0) (sym t.1) h in
        rw (types_agree count front b n a.0 a.1 part) a.2

    boxed_agrees : (tag : ℕ) → Goes (boxed_at s tag) (boxed_at p tag)
    unfolding boxed_at
    boxed_agrees tag = record {
      on = λ b n x e h.
          let next : (Facts × List ℕ × ℕ) → Read Facts = λ t. left (node (joined (leaf tag) t.0)) t.1 t.2 in
          let a = bind_some (s b n) next x e in
          let z : Facts × List ℕ × ℕ = (node (joined (leaf tag) a.0.0), a.0.1, a.0.2) in
          let inside = closed.inside (joined (leaf tag) a.0.0) (subst (λ (x : Facts × List ℕ × ℕ). Whole x.0) (sym (some_is z x a.2)) h) in
          rw (goes.on b n a.0 a.1 (closed.part a.0.0 (closed.second (leaf tag) a.0.0 inside))) a.2;
    }

    array_agrees : Goes (array_at s) (array_at p)
    unfolding array_at
    array_agrees = record {
      on = λ b n x e h.
          let second : Facts → ℕ → (Facts × List ℕ) → Read Facts = λ t n shape. left (node (joined (joined (leaf 0x14) t) shape.0)) shape.1 n in
          let first : (Facts × List ℕ × ℕ) → Read Facts = λ t. shape_at t.1 >>= second t.0 t.2 in
          let a = bind_some (s b n) first x e in
          let c = bind_some (shape_at a.0.1) (second a.0.0 a.0.2) x a.2 in
          let z : Facts × List ℕ × ℕ = (node (joined (joined (leaf 0x14) a.0.0) c.0.0), c.0.1, a.0.2) in
          let inside = closed.inside (joined (joined (leaf 0x14) a.0.0) c.0.0) (subst (λ (x : Facts × List ℕ × ℕ). Whole x.0) (sym (some_is z x c.2)) h) in
          let part = closed.second (leaf 0x14) a.0.0 (closed.first (joined (leaf 0x14) a.0.0) c.0.0 inside) in
          rw (goes.on b n a.0 a.1 (closed.part a.0.0 part)) a.2;
    }

    inst_agrees : Goes (inst_at one s) (inst_at other p)
    unfolding inst_at
    inst_agrees = record {
      on = λ b n x e h.
          let second : (Facts × List ℕ × ℕ) → Read Facts = λ args. left (node args.0) args.1 args.2 in
          let first : (Facts × ℕ × List ℕ) → Read Facts = λ head. all_types_at s head.0 head.1 head.2 n >>= second in
          let a = bind_some (generic_at one b) first x e in
          let c = bind_some (all_types_at s a.0.0 a.0.1 a.0.2 n) second x a.2 in
          let z : Facts × List ℕ × ℕ = (node c.0.0, c.0.1, c.0.2) in
          let inside = closed.inside c.0.0 (subst (λ (x : Facts × List ℕ × ℕ). Whole x.0) (sym (some_is z x c.2)) h) in
          rw (generic_agrees b a.0 a.1, all_agree a.0.0 a.0.1 a.0.2 n c.0 c.1 inside) c.2;
    }

    modified_agrees : (limit : ℕ) (required : Bool) → Goes (modified_at one s limit required) (modified_at other p limit required)
    unfolding modified_at
    modified_agrees limit required = record {
      on = λ b n x e h.
          let third : OwnerFacts → (Facts × List ℕ × ℕ) → Read Facts = λ o t. left (node (joined (joined (leaf (mod_tag required)) o.facts) t.0)) t.1 t.2 in
          let second : OwnerFacts → List ℕ → ℕ → Read Facts = λ o rest k. s rest k >>= third o in
          let first : (ℕ × OwnerFacts × List ℕ) → Read Facts = λ o. after_facts o.1.facts limit n >>= second o.1 o.2 in
          let a = bind_some (owner_at one b) first x e in
          let c = bind_some (after_facts a.0.1.facts limit n) (second a.0.1 a.0.2) x a.2 in
          let d = bind_some (s a.0.2 c.0) (third a.0.1) x c.2 in
          let z : Facts × List ℕ × ℕ = (node (joined (joined (leaf (mod_tag required)) a.0.1.facts) d.0.0), d.0.1, d.0.2) in
          let tagged = joined (leaf (mod_tag required)) a.0.1.facts in
          let inside = closed.inside (joined tagged d.0.0) (subst (λ (x : Facts × List ℕ × ℕ). Whole x.0) (sym (some_is z x d.2)) h) in
          let owner = closed.second (leaf (mod_tag required)) a.0.1.facts (closed.first tagged d.0.0 inside) in
          let of = closed.part d.0.0 (closed.second tagged d.0.0 inside) in
          rw (owner_agrees b a.0 a.1 (inr owner), c.1, goes.on a.0.2 c.0 d.0 d.1 of) d.2;
    }

    named_agrees : (tag : ℕ) → Goes (named_at one tag) (named_at other tag)
    unfolding named_at
    named_agrees tag = record {
      on = λ b n x e h.
          let next : (Facts × List ℕ) → Read Facts = λ name. left (node (joined (leaf tag) name.0)) name.1 n in
          let a = bind_some (declared_at one b) next x e in
          rw (declared_agrees b a.0 a.1) a.2;
    }

    parts_agree : (limit : ℕ) (e : Element) → Goes (parts_at one s limit e) (parts_at other p limit e)
    parts_agree limit (element.Prim q) = record { on = λ b n x e h. e }
    parts_agree limit element.Pointer = boxed_agrees 0x0F
    parts_agree limit element.ByRef = boxed_agrees 0x10
    parts_agree limit element.Value = named_agrees 0x11
    parts_agree limit element.Class = named_agrees 0x12
    parts_agree limit element.Var = record { on = λ b n x e h. e }
    parts_agree limit element.Array = array_agrees
    parts_agree limit element.Inst = inst_agrees
    parts_agree limit element.SzArray = boxed_agrees 0x1D
    parts_agree limit element.MVar = record { on = λ b n x e h. e }
    parts_agree limit element.Required = modified_agrees limit true
    parts_agree limit element.Optional = modified_agrees limit false
    parts_agree limit element.Pinned = boxed_agrees 0x45

  type_agrees : (depth : ℕ) (b : List ℕ) (n : ℕ) (x : Facts × List ℕ × ℕ) → type_at one depth b n ≡ Some x → Whole x.0 → type_at other depth b n ≡ Some x
  unfolding type_at
  type_agrees zero b n x e h = e
  type_agrees (suc depth) b zero x e h = e
  type_agrees (suc depth) b (suc n) x e h =
      let s = type_at one depth in
      let p = type_at other depth in
      let second : List ℕ → Element → Read Facts = λ rest element. parts_at one s depth element rest n in
      let a = bind_some (byte_at b) (λ b. element_of b.0 >>= second b.1) x e in
      let c = bind_some (element_of a.0.0) (second a.0.1) x a.2 in
      rw (a.1, c.1) ((parts_agree s p (record { on = type_agrees depth }) depth c.0).on a.0.1 n x c.2 h)

  pub whole_agrees : (b : List ℕ) (f : Facts) → whole_type one b ≡ Some f → Whole f → whole_type other b ≡ Some f
  unfolding whole_type
  whole_agrees b f e h =
      let next : (Facts × List ℕ × ℕ) → Option Facts = λ t. cond (nat_eq (length t.1) 0) (Some t.0) None in
      let a = bind_some (type_at one max_depth b max_nodes) next f e in
      let t = let_through (nat_eq (length a.0.1) 0) a.0.0 f a.2 in
      rw (type_agrees max_depth b max_nodes a.0 a.1 (subst Whole (sym t.1) h)) a.2
