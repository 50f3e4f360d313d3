-- The scanner's steps give the facts of what the decoder's steps read.
use Rattle.std.proofs.Common.{◌≡◌, ℕ, zero, suc, ◌+◌, ◌-◌, ◌*◌, ◌≤◌, ◌<◌, Bool, true, false, cond, not, nat_lt, nat_le, nat_eq, ◌&&◌, ℤ, List, [], ◌∷◌, ◌++◌, length, map, Option, Some, None, refl, sym, ap, ◌∙◌, arith}
use Rattle.std.proofs.lemmas.Grind.{common_steps}
use Rattle.std.specs.Option.{option_map}
use Rattle.type_terms.specs.Hashing.{mix, mix_bound}
use Rattle.type_terms.specs.Depth.{depth, owner_depth}
use Rattle.type_terms.specs.Nodes.{nodes, owner_nodes}
use Rattle.type_terms.specs.declared.name.TypeName.{TypeName}
use Rattle.type_terms.specs.declared.term.Owner.{Owner}
use Rattle.type_terms.specs.declared.term.Owner.TheVariants as owner
use Rattle.type_terms.specs.declared.term.SigType.{SigType}
use Rattle.type_terms.specs.declared.term.SigType.TheVariants as type
use Rattle.type_terms.proofs.Layers.{fold-Name, fold-Spec, fold-Prim, fold-Class, fold-Value, fold-Inst, fold-Var, fold-MVar, fold-SzArray, fold-Array, fold-ByRef, fold-Pointer, fold-Mod, fold-Pinned}
use Rattle.sig_codec.specs.declared.element.Element.{Element}
use Rattle.sig_codec.specs.declared.element.Element.TheVariants as element
use Rattle.sig_codec.specs.Tokens.{token_of_coded}
use Rattle.sig_codec.specs.Reading as whole
use Rattle.sig_codec.specs.Reading.{◌>>=◌, Step, Read, TypeStep, byte_at, number_at, signed_at, variable_at, kind_at, element_of, name_of, is_declared, is_at_sentinel, each_at, after, after_owner}
use Rattle.sig_codec.proofs.Numbers.{some_is, bind_some}
use Rattle.sig_codec.proofs.StepParts.{is_owned}
use Rattle.signature_facts.specs.declared.facts.Facts.{Facts}
use Rattle.signature_facts.specs.declared.facts.OwnerFacts.{OwnerFacts}
use Rattle.signature_facts.specs.Facts.{Naming, leaf, joined, node, ranked, listed, all_joined, all_mixed, list_facts, shape_facts, name_facts, inst_tag, mod_tag, owner_step, type_step, type_facts, owner_facts}
use Rattle.signature_facts.specs.Owners.{AreBounded}
use Rattle.signature_facts.specs.Scanning as scan
use Rattle.signature_facts.specs.Scanning.{OwnersFacts, FactsStep, mixed_at, after_facts}
use Rattle.signature_facts.proofs.Sizes.{owner_sizes}

abbrev pub given : {X : Type 0} → X → List ℕ → Step X
given x rest = Some (x, rest)

abbrev pub left : {X : Type 0} → X → List ℕ → ℕ → Read X
left x rest many = Some (x, rest, many)

-- what a step gives, seen by a function
abbrev pub on_step : {A B : Type 0} → (A → B) → Step A → Step B
on_step f None = None
on_step f (Some x) = given (f x.0) x.1

abbrev pub on_read : {A B : Type 0} → (A → B) → Read A → Read B
on_read f None = None
on_read f (Some x) = left (f x.0) x.1 x.2

-- a choice of which one side is None
picked : {A B : Type 0} (f : Option A → Option B) → f None ≡ None → (t : Bool) (u : Option B) (v : Option A) → u ≡ f v → cond t None u ≡ f (cond t None v)
picked f n true u v e = sym n
picked f n false u v e = e

chosen_so : {A B : Type 0} (f : Option A → Option B) → f None ≡ None → (t : Bool) (u : Option B) (v : Option A) → u ≡ f v → cond t u None ≡ f (cond t v None)
chosen_so f n true u v e = e
chosen_so f n false u v e = sym n

-- ---- numbers

mixed_end : {X : Type 0} (into : ℕ → X → ℕ) (hash : ℕ) (x : X) (r : Step (List X))
    → on_step (all_mixed into (into hash x)) r ≡ on_step (all_mixed into hash) (r >>= λ (xs : List X × List ℕ). given (x ∷ xs.0) xs.1)
mixed_end into hash x None = refl
mixed_end into hash x (Some xs) = refl

mixed_more : {X : Type 0} (step : List ℕ → Step X) (into : ℕ → X → ℕ) (hash count : ℕ)
    → ((h : ℕ) (b : List ℕ) → mixed_at step into h count b ≡ on_step (all_mixed into h) (each_at step count b)) → (r : Step X)
    → (r >>= λ (x : X × List ℕ). mixed_at step into (into hash x.0) count x.1)
    ≡ on_step (all_mixed into hash) (r >>= λ (x : X × List ℕ). each_at step count x.1 >>= λ (xs : List X × List ℕ). given (x.0 ∷ xs.0) xs.1)
mixed_more step into hash count ih None = refl
mixed_more step into hash count ih (Some x) = ih (into hash x.0) x.1 ∙ mixed_end into hash x.0 (each_at step count x.1)

mixed_same : {X : Type 0} (step : List ℕ → Step X) (into : ℕ → X → ℕ) (count hash : ℕ) (b : List ℕ)
    → mixed_at step into hash count b ≡ on_step (all_mixed into hash) (each_at step count b)
mixed_same step into zero hash b = refl
mixed_same step into (suc count) hash b = mixed_more step into hash count (mixed_same step into count) (step b)

pub each_long : {X : Type 0} (step : List ℕ → Step X) (count : ℕ) (b : List ℕ) (x : List X × List ℕ) → each_at step count b ≡ Some x → length x.0 ≡ count
each_long {X = X} step zero b x e = let z : List X × List ℕ = ([], b) in ap (λ (y : List X × List ℕ). length y.0) (sym (some_is z x e))
each_long {X = X} step (suc count) b x e =
    let a = bind_some (step b) (λ y. each_at step count y.1 >>= λ ys. Some (y.0 ∷ ys.0, ys.1)) x e in
    let c = bind_some (each_at step count a.0.1) (λ ys. Some (a.0.0 ∷ ys.0, ys.1)) x a.2 in
    let z : List X × List ℕ = (a.0.0 ∷ c.0.0, c.0.1) in
    ap (λ (y : List X × List ℕ). length y.0) (sym (some_is z x c.2)) ∙ ap suc (each_long step count a.0.1 c.0 c.1)

listing : {X : Type 0} (into : ℕ → X → ℕ) (count : ℕ) (r : Step (List X)) → ((x : List X × List ℕ) → r ≡ Some x → length x.0 ≡ count)
    → (on_step (all_mixed into 0) r >>= λ (h : ℕ × List ℕ). given (listed count h.0) h.1) ≡ on_step (list_facts into) r
listing into count None long = refl
listing into count (Some x) long = ap (λ (k : ℕ). given (listed k (all_mixed into 0 x.0)) x.1) (sym (long x refl))

counted_rest : {X : Type 0} (step : List ℕ → Step X) (into : ℕ → X → ℕ) (limit : ℕ) (r : Step ℕ)
    → (r >>= λ (n : ℕ × List ℕ). cond (nat_lt limit n.0) None (mixed_at step into 0 n.0 n.1 >>= λ (h : ℕ × List ℕ). given (listed n.0 h.0) h.1))
    ≡ on_step (list_facts into) (r >>= λ (n : ℕ × List ℕ). cond (nat_lt limit n.0) None (each_at step n.0 n.1))
counted_rest step into limit None = refl
counted_rest step into limit (Some n) =
    let end : Step ℕ → Step Facts = λ h. h >>= λ (h : ℕ × List ℕ). given (listed n.0 h.0) h.1 in
    picked (on_step (list_facts into)) refl (nat_lt limit n.0) (end (mixed_at step into 0 n.0 n.1)) (each_at step n.0 n.1)
    (ap end (mixed_same step into n.0 0 n.1) ∙ listing into n.0 (each_at step n.0 n.1) (each_long step n.0 n.1))

counted_same : {X : Type 0} (step : List ℕ → Step X) (into : ℕ → X → ℕ) (limit : ℕ) (b : List ℕ)
    → scan.counted_at step into limit b ≡ on_step (list_facts into) (whole.counted_at step limit b)
unfolding scan.counted_at whole.counted_at
counted_same step into limit b = counted_rest step into limit (number_at b)

-- ---- shapes of arrays

abbrev pub Shape : Type 0
Shape = Option (ℕ × List ℕ × List ℤ × List ℕ)

abbrev shape : ℕ → List ℕ → List ℤ → List ℕ → Shape
shape rank sizes lower rest = Some (rank, sizes, lower, rest)

abbrev pub on_shape : Shape → Step Facts
on_shape None = None
on_shape (Some s) = given (shape_facts s.0 s.1 s.2) s.3

shape_lower : (rank : ℕ) (sizes : List ℕ) (r : Step (List ℤ))
    → (on_step (list_facts mix_bound) r >>= λ (l : Facts × List ℕ). given (ranked rank (joined (list_facts mix sizes) l.0)) l.1)
    ≡ on_shape (r >>= λ (l : List ℤ × List ℕ). shape rank sizes l.0 l.1)
shape_lower rank sizes None = refl
shape_lower rank sizes (Some l) = refl

shape_sizes : (rank : ℕ) (r : Step (List ℕ))
    → (on_step (list_facts mix) r >>= λ (s : Facts × List ℕ). scan.counted_at signed_at mix_bound rank s.1 >>= λ (l : Facts × List ℕ). given (ranked rank (joined s.0 l.0)) l.1)
    ≡ on_shape (r >>= λ (s : List ℕ × List ℕ). whole.counted_at signed_at rank s.1 >>= λ (l : List ℤ × List ℕ). shape rank s.0 l.0 l.1)
shape_sizes rank None = refl
shape_sizes rank (Some s) =
    ap (λ (r : Step Facts). r >>= λ (l : Facts × List ℕ). given (ranked rank (joined (list_facts mix s.0) l.0)) l.1) (counted_same signed_at mix_bound rank s.1)
    ∙ shape_lower rank s.0 (whole.counted_at signed_at rank s.1)

shape_rest : (r : Step ℕ)
    → (r >>= λ (n : ℕ × List ℕ). cond (nat_eq n.0 0) None
    (scan.counted_at number_at mix n.0 n.1 >>= λ (s : Facts × List ℕ). scan.counted_at signed_at mix_bound n.0 s.1 >>= λ (l : Facts × List ℕ). given (ranked n.0 (joined s.0 l.0)) l.1))
    ≡ on_shape (r >>= λ (n : ℕ × List ℕ). cond (nat_eq n.0 0) None
    (whole.counted_at number_at n.0 n.1 >>= λ (s : List ℕ × List ℕ). whole.counted_at signed_at n.0 s.1 >>= λ (l : List ℤ × List ℕ). shape n.0 s.0 l.0 l.1))
shape_rest None = refl
shape_rest (Some n) =
    let end : Step Facts → Step Facts = λ r. r >>= λ (s : Facts × List ℕ). scan.counted_at signed_at mix_bound n.0 s.1 >>= λ (l : Facts × List ℕ). given (ranked n.0 (joined s.0 l.0)) l.1 in
    let ended : Step (List ℕ) → Shape = λ r. r >>= λ (s : List ℕ × List ℕ). whole.counted_at signed_at n.0 s.1 >>= λ (l : List ℤ × List ℕ). shape n.0 s.0 l.0 l.1 in
    picked on_shape refl (nat_eq n.0 0) (end (scan.counted_at number_at mix n.0 n.1)) (ended (whole.counted_at number_at n.0 n.1))
    (ap end (counted_same number_at mix n.0 n.1) ∙ shape_sizes n.0 (whole.counted_at number_at n.0 n.1))

pub shape_same : (b : List ℕ) → scan.shape_at b ≡ on_shape (whole.shape_at b)
unfolding scan.shape_at whole.shape_at
shape_same b = shape_rest (number_at b)

module _ (naming : Naming) where
  abbrev facts : SigType → Facts
  facts = type_facts naming

  abbrev pub owned : (ℕ → Option Owner) → OwnersFacts
  owned owners token = option_map (owner_facts naming) (owners token)

  -- ---- owners

  abbrev Owned : Type 0
  Owned = Option (ℕ × Owner × List ℕ)

  abbrev own : ℕ → Owner → List ℕ → Owned
  own token o rest = Some (token, o, rest)

  abbrev own_facts : ℕ → OwnerFacts → List ℕ → Option (ℕ × OwnerFacts × List ℕ)
  own_facts token o rest = Some (token, o, rest)

  abbrev on_owner : Owned → Option (ℕ × OwnerFacts × List ℕ)
  on_owner None = None
  on_owner (Some o) = own_facts o.0 (owner_facts naming o.1) o.2

  owner_named : (token : ℕ) (rest : List ℕ) (r : Option Owner)
      → (option_map (owner_facts naming) r >>= λ (o : OwnerFacts). own_facts token o rest) ≡ on_owner (r >>= λ (o : Owner). own token o rest)
  owner_named token rest None = refl
  owner_named token rest (Some o) = refl

  owner_token : (owners : ℕ → Option Owner) (rest : List ℕ) (r : Option ℕ)
      → (r >>= λ (t : ℕ). owned owners t >>= λ (o : OwnerFacts). own_facts t o rest) ≡ on_owner (r >>= λ (t : ℕ). owners t >>= λ (o : Owner). own t o rest)
  owner_token owners rest None = refl
  owner_token owners rest (Some t) = owner_named t rest (owners t)

  owner_number : (owners : ℕ → Option Owner) (r : Step ℕ)
      → (r >>= λ (n : ℕ × List ℕ). token_of_coded n.0 >>= λ (t : ℕ). owned owners t >>= λ (o : OwnerFacts). own_facts t o n.1)
      ≡ on_owner (r >>= λ (n : ℕ × List ℕ). token_of_coded n.0 >>= λ (t : ℕ). owners t >>= λ (o : Owner). own t o n.1)
  owner_number owners None = refl
  owner_number owners (Some n) = owner_token owners n.1 (token_of_coded n.0)

  owner_same : (owners : ℕ → Option Owner) (b : List ℕ) → scan.owner_at (owned owners) b ≡ on_owner (whole.owner_at owners b)
  unfolding scan.owner_at whole.owner_at
  owner_same owners b = owner_number owners (number_at b)

  declared_by : (token : ℕ) (o : Owner) (rest : List ℕ)
      → cond ((owner_facts naming o).is_name && is_declared token) (given (owner_facts naming o).facts rest) None
      ≡ on_step (name_facts naming) (name_of o >>= λ (n : TypeName). cond (is_declared token) (given n rest) None)
  declared_by token (owner.Name n) rest =
      rw (fold-Name OwnerFacts Facts (owner_step naming) (type_step naming) n)
      (chosen_so (on_step (name_facts naming)) refl (is_declared token) (given (name_facts naming n) rest) (given n rest) refl)
  declared_by token (owner.Spec t) rest = rw (fold-Spec OwnerFacts Facts (owner_step naming) (type_step naming) t) refl

  declared_rest : (r : Owned)
      → (on_owner r >>= λ (o : ℕ × OwnerFacts × List ℕ). cond (o.1.is_name && is_declared o.0) (given o.1.facts o.2) None)
      ≡ on_step (name_facts naming) (r >>= λ (o : ℕ × Owner × List ℕ). name_of o.1 >>= λ (n : TypeName). cond (is_declared o.0) (given n o.2) None)
  declared_rest None = refl
  declared_rest (Some o) = declared_by o.0 o.1 o.2

  declared_same : (owners : ℕ → Option Owner) (b : List ℕ) → scan.declared_at (owned owners) b ≡ on_step (name_facts naming) (whole.declared_at owners b)
  unfolding scan.declared_at whole.declared_at
  declared_same owners b =
      ap (λ (r : Option (ℕ × OwnerFacts × List ℕ)). r >>= λ (o : ℕ × OwnerFacts × List ℕ). cond (o.1.is_name && is_declared o.0) (given o.1.facts o.2) None) (owner_same owners b)
      ∙ declared_rest (whole.owner_at owners b)

  -- ---- generic types

  abbrev Head : Type 0
  Head = Option (Bool × TypeName × ℕ × List ℕ)

  abbrev head : Bool → TypeName → ℕ → List ℕ → Head
  head value n count rest = Some (value, n, count, rest)

  abbrev head_facts : Facts → ℕ → List ℕ → Option (Facts × ℕ × List ℕ)
  head_facts f count rest = Some (f, count, rest)

  abbrev on_head : Head → Option (Facts × ℕ × List ℕ)
  on_head None = None
  on_head (Some h) = head_facts (joined (leaf (inst_tag h.0)) (name_facts naming h.1)) h.2 h.3

  abbrev named_head : Bool → OwnerFacts → ℕ × List ℕ → Option (Facts × ℕ × List ℕ)
  named_head value o count = cond o.is_name (cond (nat_eq count.0 0) None (head_facts (joined (leaf (inst_tag value)) o.facts) count.0 count.1)) None

  abbrev whole_head : Bool → Owner → ℕ × List ℕ → Head
  whole_head value o count = name_of o >>= λ (n : TypeName). cond (nat_eq count.0 0) None (head value n count.0 count.1)

  head_by : (value : Bool) (o : Owner) (count : ℕ × List ℕ) → named_head value (owner_facts naming o) count ≡ on_head (whole_head value o count)
  head_by value (owner.Name n) count =
      rw (fold-Name OwnerFacts Facts (owner_step naming) (type_step naming) n)
      (picked on_head refl (nat_eq count.0 0) (head_facts (joined (leaf (inst_tag value)) (name_facts naming n)) count.0 count.1) (head value n count.0 count.1) refl)
  head_by value (owner.Spec t) count = rw (fold-Spec OwnerFacts Facts (owner_step naming) (type_step naming) t) refl

  head_count : (value : Bool) (o : Owner) (r : Step ℕ)
      → (r >>= λ (n : ℕ × List ℕ). named_head value (owner_facts naming o) n) ≡ on_head (r >>= λ (n : ℕ × List ℕ). whole_head value o n)
  head_count value o None = refl
  head_count value o (Some n) = head_by value o n

  head_owner : (value : Bool) (r : Owned)
      → (on_owner r >>= λ (o : ℕ × OwnerFacts × List ℕ). number_at o.2 >>= λ (n : ℕ × List ℕ). named_head value o.1 n)
      ≡ on_head (r >>= λ (o : ℕ × Owner × List ℕ). number_at o.2 >>= λ (n : ℕ × List ℕ). whole_head value o.1 n)
  head_owner value None = refl
  head_owner value (Some o) = head_count value o.1 (number_at o.2)

  head_kind : (owners : ℕ → Option Owner) (r : Step Bool)
      → (r >>= λ (k : Bool × List ℕ). scan.owner_at (owned owners) k.1 >>= λ (o : ℕ × OwnerFacts × List ℕ). number_at o.2 >>= λ (n : ℕ × List ℕ). named_head k.0 o.1 n)
      ≡ on_head (r >>= λ (k : Bool × List ℕ). whole.owner_at owners k.1 >>= λ (o : ℕ × Owner × List ℕ). number_at o.2 >>= λ (n : ℕ × List ℕ). whole_head k.0 o.1 n)
  head_kind owners None = refl
  head_kind owners (Some k) =
      ap (λ (r : Option (ℕ × OwnerFacts × List ℕ)). r >>= λ (o : ℕ × OwnerFacts × List ℕ). number_at o.2 >>= λ (n : ℕ × List ℕ). named_head k.0 o.1 n) (owner_same owners k.1)
      ∙ head_owner k.0 (whole.owner_at owners k.1)

  head_same : (owners : ℕ → Option Owner) (b : List ℕ) → scan.generic_at (owned owners) b ≡ on_head (whole.generic_at owners b)
  unfolding scan.generic_at whole.generic_at
  head_same owners b = head_kind owners (kind_at b)

  -- ---- types, by a step that scans the types in them

  -- A step of the scanner goes along one of the decoder.
  pub record Follows (scanned : FactsStep) (sub : TypeStep) : Type 0 where
    pub same : (b : List ℕ) (n : ℕ) → scanned b n ≡ on_read facts (sub b n)

  abbrev pub Several : Type 0
  Several = Option (Facts × ℕ × List ℕ × ℕ)

  abbrev pub several : Facts → ℕ → List ℕ → ℕ → Several
  several f more rest many = Some (f, more, rest, many)

  abbrev pub on_types : Facts → ℕ → Read (List SigType) → Several
  on_types front count None = None
  on_types front count (Some x) = several (all_joined front (map facts x.0)) (count - length x.0) x.1 x.2

  types_end : (front : Facts) (t : SigType) (count : ℕ) (r : Read (List SigType))
      → on_types (joined front (facts t)) count r ≡ on_types front (suc count) (r >>= λ (ts : List SigType × List ℕ × ℕ). left (t ∷ ts.0) ts.1 ts.2)
  types_end front t count None = refl
  types_end front t count (Some x) =
      let k : count - length x.0 ≡ suc count - suc (length x.0) = omega arith in
      ap (λ (k : ℕ). several (all_joined (joined front (facts t)) (map facts x.0)) k x.1 x.2) k

  types_stop : (front : Facts) (count : ℕ) (b : List ℕ) (n : ℕ) (t : Bool) (u : Several) (v : Read (List SigType)) → u ≡ on_types front (suc count) v
      → cond t (several front (suc count) b n) u ≡ on_types front (suc count) (cond t (left [] b n) v)
  types_stop front count b n true u v e = let k : suc count ≡ suc count - 0 = omega arith in ap (λ (k : ℕ). several front k b n) k
  types_stop front count b n false u v e = e

  module _ (scanned : FactsStep) (sub : TypeStep) (f : Follows scanned sub) where
    types_more : (count : ℕ) → ((front : Facts) (b : List ℕ) (n : ℕ) → scan.types_at scanned front count b n ≡ on_types front count (whole.types_at sub count b n))
        → (front : Facts) (r : Read SigType)
        → (on_read facts r >>= λ (t : Facts × List ℕ × ℕ). scan.types_at scanned (joined front t.0) count t.1 t.2)
        ≡ on_types front (suc count) (r >>= λ (t : SigType × List ℕ × ℕ). whole.types_at sub count t.1 t.2 >>= λ (ts : List SigType × List ℕ × ℕ). left (t.0 ∷ ts.0) ts.1 ts.2)
    types_more count ih front None = refl
    types_more count ih front (Some t) = ih (joined front (facts t.0)) t.1 t.2 ∙ types_end front t.0 count (whole.types_at sub count t.1 t.2)

    pub types_same : (count : ℕ) (front : Facts) (b : List ℕ) (n : ℕ) → scan.types_at scanned front count b n ≡ on_types front count (whole.types_at sub count b n)
    types_same zero front b n = refl
    types_same (suc count) front b n =
        let go : Read Facts → Several = λ r. r >>= λ (t : Facts × List ℕ × ℕ). scan.types_at scanned (joined front t.0) count t.1 t.2 in
        let went : Read SigType → Read (List SigType) = λ r. r >>= λ (t : SigType × List ℕ × ℕ). whole.types_at sub count t.1 t.2 >>= λ (ts : List SigType × List ℕ × ℕ). left (t.0 ∷ ts.0) ts.1 ts.2 in
        types_stop front count b n (is_at_sentinel b) (go (scanned b n)) (went (sub b n)) (ap go (f.same b n) ∙ types_more count (types_same count) front (sub b n))

    abbrev on_all : Facts → Read (List SigType) → Read Facts
    on_all front = on_read (λ (ts : List SigType). all_joined front (map facts ts))

    no_more : (count k : ℕ) → nat_eq (count - k) 0 ≡ not (nat_lt k count)
    no_more count k = grind (arith, common_steps)

    all_chosen : (front : Facts) (t s : Bool) (x : List SigType × List ℕ × ℕ) → s ≡ not t
        → cond s (left (all_joined front (map facts x.0)) x.1 x.2) None ≡ on_all front (cond t None (Some x))
    all_chosen front true s x e = rw e refl
    all_chosen front false s x e = rw e refl

    all_rest : (front : Facts) (count : ℕ) (r : Read (List SigType))
        → (on_types front count r >>= λ (ts : Facts × ℕ × List ℕ × ℕ). cond (nat_eq ts.1 0) (left ts.0 ts.2 ts.3) None)
        ≡ on_all front (r >>= λ (ts : List SigType × List ℕ × ℕ). cond (nat_lt (length ts.0) count) None (Some ts))
    all_rest front count None = refl
    all_rest front count (Some x) = all_chosen front (nat_lt (length x.0) count) (nat_eq (count - length x.0) 0) x (no_more count (length x.0))

    pub all_same : (front : Facts) (count : ℕ) (b : List ℕ) (n : ℕ) → scan.all_types_at scanned front count b n ≡ on_all front (whole.all_types_at sub count b n)
    unfolding scan.all_types_at whole.all_types_at
    all_same front count b n =
        ap (λ (r : Several). r >>= λ (ts : Facts × ℕ × List ℕ × ℕ). cond (nat_eq ts.1 0) (left ts.0 ts.2 ts.3) None) (types_same count front b n)
        ∙ all_rest front count (whole.types_at sub count b n)

    -- a type made of one other
    boxed_rest : (make : SigType → SigType) (tag : ℕ) → ((t : SigType) → facts (make t) ≡ node (joined (leaf tag) (facts t))) → (r : Read SigType)
        → (on_read facts r >>= λ (t : Facts × List ℕ × ℕ). left (node (joined (leaf tag) t.0)) t.1 t.2) ≡ on_read facts (r >>= λ (t : SigType × List ℕ × ℕ). left (make t.0) t.1 t.2)
    boxed_rest make tag e None = refl
    boxed_rest make tag e (Some t) = ap (λ (g : Facts). left g t.1 t.2) (sym (e t.0))

    boxed_same : (make : SigType → SigType) (tag : ℕ) → ((t : SigType) → facts (make t) ≡ node (joined (leaf tag) (facts t))) → (b : List ℕ) (n : ℕ)
        → scan.boxed_at scanned tag b n ≡ on_read facts (whole.boxed_at sub make b n)
    unfolding scan.boxed_at
    boxed_same make tag e b n =
        ap (λ (r : Read Facts). r >>= λ (t : Facts × List ℕ × ℕ). left (node (joined (leaf tag) t.0)) t.1 t.2) (f.same b n) ∙ boxed_rest make tag e (sub b n)

    -- an array
    array_shape : (t : SigType) (n : ℕ) (r : Shape)
        → (on_shape r >>= λ (s : Facts × List ℕ). left (node (joined (joined (leaf 0x14) (facts t)) s.0)) s.1 n)
        ≡ on_read facts (r >>= λ (s : ℕ × List ℕ × List ℤ × List ℕ). left (type.Array t s.0 s.1 s.2) s.3 n)
    array_shape t n None = refl
    array_shape t n (Some s) = ap (λ (g : Facts). left g s.3 n) (sym (fold-Array OwnerFacts Facts (owner_step naming) (type_step naming) t s.0 s.1 s.2))

    array_rest : (r : Read SigType)
        → (on_read facts r >>= λ (t : Facts × List ℕ × ℕ). scan.shape_at t.1 >>= λ (s : Facts × List ℕ). left (node (joined (joined (leaf 0x14) t.0) s.0)) s.1 t.2)
        ≡ on_read facts (r >>= λ (t : SigType × List ℕ × ℕ). whole.shape_at t.1 >>= λ (s : ℕ × List ℕ × List ℤ × List ℕ). left (type.Array t.0 s.0 s.1 s.2) s.3 t.2)
    array_rest None = refl
    array_rest (Some t) =
        ap (λ (r : Step Facts). r >>= λ (s : Facts × List ℕ). left (node (joined (joined (leaf 0x14) (facts t.0)) s.0)) s.1 t.2) (shape_same t.1)
        ∙ array_shape t.0 t.2 (whole.shape_at t.1)

    array_same : (b : List ℕ) (n : ℕ) → scan.array_at scanned b n ≡ on_read facts (whole.array_at sub b n)
    unfolding scan.array_at whole.array_at
    array_same b n =
        ap (λ (r : Read Facts). r >>= λ (t : Facts × List ℕ × ℕ). scan.shape_at t.1 >>= λ (s : Facts × List ℕ). left (node (joined (joined (leaf 0x14) t.0) s.0)) s.1 t.2) (f.same b n)
        ∙ array_rest (sub b n)

    module _ (owners : ℕ → Option Owner) where
      -- a generic type
      inst_args : (value : Bool) (name : TypeName) (r : Read (List SigType))
          → (on_all (joined (leaf (inst_tag value)) (name_facts naming name)) r >>= λ (args : Facts × List ℕ × ℕ). left (node args.0) args.1 args.2)
          ≡ on_read facts (r >>= λ (args : List SigType × List ℕ × ℕ). left (type.Inst value name args.0) args.1 args.2)
      inst_args value name None = refl
      inst_args value name (Some args) = ap (λ (g : Facts). left g args.1 args.2) (sym (fold-Inst OwnerFacts Facts (owner_step naming) (type_step naming) value name args.0))

      inst_rest : (n : ℕ) (r : Head)
          → (on_head r >>= λ (h : Facts × ℕ × List ℕ). scan.all_types_at scanned h.0 h.1 h.2 n >>= λ (args : Facts × List ℕ × ℕ). left (node args.0) args.1 args.2)
          ≡ on_read facts (r >>= λ (h : Bool × TypeName × ℕ × List ℕ). whole.all_types_at sub h.2 h.3 n >>= λ (args : List SigType × List ℕ × ℕ). left (type.Inst h.0 h.1 args.0) args.1 args.2)
      inst_rest n None = refl
      inst_rest n (Some h) =
          ap (λ (r : Read Facts). r >>= λ (args : Facts × List ℕ × ℕ). left (node args.0) args.1 args.2) (all_same (joined (leaf (inst_tag h.0)) (name_facts naming h.1)) h.2 h.3 n)
          ∙ inst_args h.0 h.1 (whole.all_types_at sub h.2 h.3 n)

      inst_same : (b : List ℕ) (n : ℕ) → scan.inst_at (owned owners) scanned b n ≡ on_read facts (whole.inst_at owners sub b n)
      unfolding scan.inst_at whole.inst_at
      inst_same b n =
          ap (λ (r : Option (Facts × ℕ × List ℕ)). r >>= λ (h : Facts × ℕ × List ℕ). scan.all_types_at scanned h.0 h.1 h.2 n >>= λ (args : Facts × List ℕ × ℕ). left (node args.0) args.1 args.2) (head_same owners b)
          ∙ inst_rest n (whole.generic_at owners b)

      -- names and numbers
      named_rest : (make : TypeName → SigType) (tag : ℕ) → ((m : TypeName) → facts (make m) ≡ node (joined (leaf tag) (name_facts naming m))) → (n : ℕ) (r : Step TypeName)
          → (on_step (name_facts naming) r >>= λ (m : Facts × List ℕ). left (node (joined (leaf tag) m.0)) m.1 n) ≡ on_read facts (r >>= λ (m : TypeName × List ℕ). left (make m.0) m.1 n)
      named_rest make tag e n None = refl
      named_rest make tag e n (Some m) = ap (λ (g : Facts). left g m.1 n) (sym (e m.0))

      named_same : (make : TypeName → SigType) (tag : ℕ) → ((m : TypeName) → facts (make m) ≡ node (joined (leaf tag) (name_facts naming m))) → (b : List ℕ) (n : ℕ)
          → scan.named_at (owned owners) tag b n ≡ on_read facts (whole.named_at owners make b n)
      unfolding scan.named_at
      named_same make tag e b n =
          ap (λ (r : Step Facts). r >>= λ (m : Facts × List ℕ). left (node (joined (leaf tag) m.0)) m.1 n) (declared_same owners b) ∙ named_rest make tag e n (whole.declared_at owners b)

      numbered_rest : (make : ℕ → SigType) (tag : ℕ) → ((k : ℕ) → facts (make k) ≡ node (joined (leaf tag) (leaf k))) → (n : ℕ) (r : Step ℕ)
          → (r >>= λ (k : ℕ × List ℕ). left (node (joined (leaf tag) (leaf k.0))) k.1 n) ≡ on_read facts (r >>= λ (k : ℕ × List ℕ). left (make k.0) k.1 n)
      numbered_rest make tag e n None = refl
      numbered_rest make tag e n (Some k) = ap (λ (g : Facts). left g k.1 n) (sym (e k.0))

      numbered_same : (make : ℕ → SigType) (tag : ℕ) → ((k : ℕ) → facts (make k) ≡ node (joined (leaf tag) (leaf k))) → (b : List ℕ) (n : ℕ)
          → scan.numbered_at tag b n ≡ on_read facts (whole.numbered_at make b n)
      unfolding scan.numbered_at
      numbered_same make tag e b n = numbered_rest make tag e n (variable_at b)

      -- a type behind its modifier
      abbrev modify : Bool → OwnerFacts → Facts → Facts
      modify required o t = node (joined (joined (leaf (mod_tag required)) o.facts) t)

      mod_type : (required : Bool) (o : Owner) (r : Read SigType)
          → (on_read facts r >>= λ (t : Facts × List ℕ × ℕ). left (modify required (owner_facts naming o) t.0) t.1 t.2)
          ≡ on_read facts (r >>= λ (t : SigType × List ℕ × ℕ). left (type.Mod required o t.0) t.1 t.2)
      mod_type required o None = refl
      mod_type required o (Some t) = ap (λ (g : Facts). left g t.1 t.2) (sym (fold-Mod OwnerFacts Facts (owner_step naming) (type_step naming) required o t.0))

      mod_left : (required : Bool) (o : Owner) (rest : List ℕ) (r : Option ℕ)
          → (r >>= λ (k : ℕ). scanned rest k >>= λ (t : Facts × List ℕ × ℕ). left (modify required (owner_facts naming o) t.0) t.1 t.2)
          ≡ on_read facts (r >>= λ (k : ℕ). sub rest k >>= λ (t : SigType × List ℕ × ℕ). left (type.Mod required o t.0) t.1 t.2)
      mod_left required o rest None = refl
      mod_left required o rest (Some k) =
          ap (λ (r : Read Facts). r >>= λ (t : Facts × List ℕ × ℕ). left (modify required (owner_facts naming o) t.0) t.1 t.2) (f.same rest k) ∙ mod_type required o (sub rest k)

      mod_owner : AreBounded owners → (limit many : ℕ) (required : Bool) (r : Owned) → ((x : ℕ × Owner × List ℕ) → r ≡ Some x → owners x.0 ≡ Some x.1)
          → (on_owner r >>= λ (o : ℕ × OwnerFacts × List ℕ). after_facts o.1.facts limit many >>= λ (k : ℕ). scanned o.2 k >>= λ (t : Facts × List ℕ × ℕ). left (modify required o.1 t.0) t.1 t.2)
          ≡ on_read facts (r >>= λ (o : ℕ × Owner × List ℕ). after_owner o.1 limit many >>= λ (k : ℕ). sub o.2 k >>= λ (t : SigType × List ℕ × ℕ). left (type.Mod required o.1 t.0) t.1 t.2)
      mod_owner bounded limit many required None known = refl
      mod_owner bounded limit many required (Some o) known =
          let within = bounded o.0 o.1 (known o refl) in
          let sized = owner_sizes naming o.1 in
          let deep : (owner_facts naming o.1).facts.depth ≡ owner_depth o.1 = (let a = sized.depth in let b = within.0 in omega arith) in
          let much : (owner_facts naming o.1).facts.nodes ≡ owner_nodes o.1 = (let a = sized.nodes in let b = within.1 in omega arith) in
          let go : Option ℕ → Read Facts = λ r. r >>= λ (k : ℕ). scanned o.2 k >>= λ (t : Facts × List ℕ × ℕ). left (modify required (owner_facts naming o.1) t.0) t.1 t.2 in
          ap (λ (d : ℕ). go (after d (owner_facts naming o.1).facts.nodes limit many)) deep ∙ ap (λ (m : ℕ). go (after (owner_depth o.1) m limit many)) much
          ∙ mod_left required o.1 o.2 (after_owner o.1 limit many)

      mod_same : AreBounded owners → (limit : ℕ) (required : Bool) (b : List ℕ) (many : ℕ)
          → scan.modified_at (owned owners) scanned limit required b many ≡ on_read facts (whole.modified_at owners sub limit required b many)
      unfolding scan.modified_at whole.modified_at
      mod_same bounded limit required b many =
          ap (λ (r : Option (ℕ × OwnerFacts × List ℕ)). r >>= λ (o : ℕ × OwnerFacts × List ℕ). after_facts o.1.facts limit many >>= λ (k : ℕ). scanned o.2 k >>= λ (t : Facts × List ℕ × ℕ). left (modify required o.1 t.0) t.1 t.2)
          (owner_same owners b)
          ∙ mod_owner bounded limit many required (whole.owner_at owners b) (λ x e. (is_owned owners b x e).named)

      parts_same : AreBounded owners → (limit : ℕ) (e : Element) (b : List ℕ) (n : ℕ)
          → scan.parts_at (owned owners) scanned limit e b n ≡ on_read facts (whole.parts_at owners sub limit e b n)
      parts_same bounded limit (element.Prim p) b n = ap (λ (g : Facts). left g b n) (sym (fold-Prim OwnerFacts Facts (owner_step naming) (type_step naming) p))
      parts_same bounded limit element.Pointer b n = boxed_same type.Pointer 0x0F (fold-Pointer OwnerFacts Facts (owner_step naming) (type_step naming)) b n
      parts_same bounded limit element.ByRef b n = boxed_same type.ByRef 0x10 (fold-ByRef OwnerFacts Facts (owner_step naming) (type_step naming)) b n
      parts_same bounded limit element.Value b n = named_same type.Value 0x11 (fold-Value OwnerFacts Facts (owner_step naming) (type_step naming)) b n
      parts_same bounded limit element.Class b n = named_same type.Class 0x12 (fold-Class OwnerFacts Facts (owner_step naming) (type_step naming)) b n
      parts_same bounded limit element.Var b n = numbered_same type.Var 0x13 (fold-Var OwnerFacts Facts (owner_step naming) (type_step naming)) b n
      parts_same bounded limit element.Array b n = array_same b n
      parts_same bounded limit element.Inst b n = inst_same b n
      parts_same bounded limit element.SzArray b n = boxed_same type.SzArray 0x1D (fold-SzArray OwnerFacts Facts (owner_step naming) (type_step naming)) b n
      parts_same bounded limit element.MVar b n = numbered_same type.MVar 0x1E (fold-MVar OwnerFacts Facts (owner_step naming) (type_step naming)) b n
      parts_same bounded limit element.Required b n = mod_same bounded limit true b n
      parts_same bounded limit element.Optional b n = mod_same bounded limit false b n
      parts_same bounded limit element.Pinned b n = boxed_same type.Pinned 0x45 (fold-Pinned OwnerFacts Facts (owner_step naming) (type_step naming)) b n

  module _ (owners : ℕ → Option Owner) (bounded : AreBounded owners) where
    element_same : (scanned : FactsStep) (sub : TypeStep) → Follows scanned sub → (limit n : ℕ) (rest : List ℕ) (r : Option Element)
        → (r >>= λ (e : Element). scan.parts_at (owned owners) scanned limit e rest n) ≡ on_read facts (r >>= λ (e : Element). whole.parts_at owners sub limit e rest n)
    element_same scanned sub f limit n rest None = refl
    element_same scanned sub f limit n rest (Some e) = parts_same scanned sub f owners bounded limit e rest n

    first_same : (scanned : FactsStep) (sub : TypeStep) → Follows scanned sub → (limit n : ℕ) (r : Step ℕ)
        → (r >>= λ (b : ℕ × List ℕ). element_of b.0 >>= λ (e : Element). scan.parts_at (owned owners) scanned limit e b.1 n)
        ≡ on_read facts (r >>= λ (b : ℕ × List ℕ). element_of b.0 >>= λ (e : Element). whole.parts_at owners sub limit e b.1 n)
    first_same scanned sub f limit n None = refl
    first_same scanned sub f limit n (Some b) = element_same scanned sub f limit n b.1 (element_of b.0)

    type_same : (depth : ℕ) (b : List ℕ) (n : ℕ) → scan.type_at (owned owners) depth b n ≡ on_read facts (whole.type_at owners depth b n)
    unfolding scan.type_at whole.type_at
    type_same zero b n = refl
    type_same (suc depth) b zero = refl
    type_same (suc depth) b (suc n) =
        first_same (scan.type_at (owned owners) depth) (whole.type_at owners depth) (record { same = type_same depth }) depth n (byte_at b)

    pub type_follows : (depth : ℕ) → Follows (scan.type_at (owned owners) depth) (whole.type_at owners depth)
    type_follows depth = record { same = type_same depth }
