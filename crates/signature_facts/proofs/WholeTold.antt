-- The scanner's whole signatures give the facts of what the decoder reads.
use Rattle.std.proofs.Common.{◌≡◌, ℕ, zero, suc, ◌+◌, ◌-◌, ◌≤◌, Bool, true, false, cond, nat_lt, nat_eq, List, [], ◌∷◌, ◌++◌, length, map, Option, Some, None, refl, sym, ap, subst, ◌∙◌, arith, length-append}
use Rattle.std.proofs.lemmas.Grind.{common_steps}
use Rattle.std.specs.Option.{option_map}
use Rattle.type_terms.specs.declared.reference.MethodSig.{MethodSig}
use Rattle.type_terms.specs.declared.term.Owner.{Owner}
use Rattle.type_terms.specs.declared.term.SigType.{SigType}
use Rattle.sig_codec.specs.Reading as whole
use Rattle.sig_codec.specs.Reading.{◌>>=◌, Step, Read, TypeStep, byte_at, number_at, is_at_sentinel, ended}
use Rattle.sig_codec.specs.Signature.{max_depth, max_nodes}
use Rattle.sig_codec.proofs.Numbers.{some_is, bind_some}
use Rattle.sig_codec.proofs.StepParts.{are_all}
use Rattle.signature_facts.specs.declared.facts.Facts.{Facts}
use Rattle.signature_facts.specs.declared.facts.OwnerFacts.{OwnerFacts}
use Rattle.signature_facts.specs.declared.facts.MethodFacts.{MethodFacts}
use Rattle.signature_facts.specs.declared.facts.ListFacts.{ListFacts}
use Rattle.signature_facts.specs.Facts.{Naming, leaf, joined, all_joined, is_there, type_facts, owner_facts, method_facts, types_facts}
use Rattle.signature_facts.specs.Owners.{AreFacts, AreBounded}
use Rattle.signature_facts.specs.Scanning as scan
use Rattle.signature_facts.specs.Scanning.{OwnersFacts, FactsStep}
use Rattle.signature_facts.proofs.Told.{given, left, on_read, owned, Follows, type_follows, on_types, types_same, all_same}

-- ---- how many types are read

-- where a choice gave a value, the other choices
few_after : (t : Bool) (b : List ℕ) (n count : ℕ) (r : Read (List SigType)) (x : List SigType × List ℕ × ℕ)
    → ((y : List SigType × List ℕ × ℕ) → r ≡ Some y → length y.0 ≤ count) → cond t (left [] b n) r ≡ Some x → length x.0 ≤ count
few_after true b n count r x h e =
    let z : List SigType × List ℕ × ℕ = ([], b, n) in
    let none : length x.0 ≡ 0 = ap (λ (y : List SigType × List ℕ × ℕ). length y.0) (sym (some_is z x e)) in
    omega arith
few_after false b n count r x h e = h x e

pub few_types : (sub : TypeStep) (count : ℕ) (b : List ℕ) (n : ℕ) (x : List SigType × List ℕ × ℕ) → whole.types_at sub count b n ≡ Some x → length x.0 ≤ count
few_types sub zero b n x e =
    let z : List SigType × List ℕ × ℕ = ([], b, n) in
    let none : length x.0 ≡ 0 = ap (λ (y : List SigType × List ℕ × ℕ). length y.0) (sym (some_is z x e)) in
    omega arith
few_types sub (suc count) b n x e =
    let last : SigType → (List SigType × List ℕ × ℕ) → Read (List SigType) = λ t ts. left (t ∷ ts.0) ts.1 ts.2 in
    let rest : (SigType × List ℕ × ℕ) → Read (List SigType) = λ t. whole.types_at sub count t.1 t.2 >>= last t.0 in
    few_after (is_at_sentinel b) b n (suc count) (sub b n >>= rest) x
    (λ y h.
    let a = bind_some (sub b n) rest y h in
    let c = bind_some (whole.types_at sub count a.0.1 a.0.2) (last a.0.0) y a.2 in
    let z : List SigType × List ℕ × ℕ = (a.0.0 ∷ c.0.0, c.0.1, c.0.2) in
    let long : length y.0 ≡ suc (length c.0.0) = ap (λ (y : List SigType × List ℕ × ℕ). length y.0) (sym (some_is z y c.2)) in
    let few = few_types sub count a.0.1 a.0.2 c.0 c.1 in
    omega arith) e

pub all_counted : (sub : TypeStep) (count : ℕ) (b : List ℕ) (n : ℕ) (x : List SigType × List ℕ × ℕ) → whole.all_types_at sub count b n ≡ Some x → length x.0 ≡ count
all_counted sub count b n x e =
    let a = are_all sub count b n x e in
    let few = few_types sub count b n x a.read in
    let full = a.full in
    grind (arith, common_steps)

module _ (naming : Naming) (owners : ℕ → Option Owner) (bounded : AreBounded owners) where
  abbrev sub : TypeStep
  sub = whole.type_at owners max_depth

  abbrev scanned : FactsStep
  scanned = scan.type_at (owned naming owners) max_depth

  follows : Follows naming scanned sub
  follows = type_follows naming owners bounded max_depth

  -- ---- a type, and a field

  type_end : (r : Read SigType)
      → (on_read (type_facts naming) r >>= λ (t : Facts × List ℕ × ℕ). cond (nat_eq (length t.1) 0) (Some t.0) None) ≡ option_map (type_facts naming) (r >>= λ (t : SigType × List ℕ × ℕ). ended t)
  type_end None = refl
  type_end (Some t) = pick (nat_eq (length t.1) 0)
    where
      pick : (b : Bool) → cond b (Some (type_facts naming t.0)) None ≡ option_map (type_facts naming) (cond b (Some t.0) None)
      pick true = refl
      pick false = refl

  pub type_whole : (b : List ℕ) → scan.whole_type (owned naming owners) b ≡ option_map (type_facts naming) (whole.whole_type owners b)
  unfolding scan.whole_type whole.whole_type
  type_whole b =
      ap (λ (r : Read Facts). r >>= λ (t : Facts × List ℕ × ℕ). cond (nat_eq (length t.1) 0) (Some t.0) None) (follows.same b max_nodes) ∙ type_end (sub b max_nodes)

  -- what follows a first byte
  tagged : {A B : Type 0} (f : A → B) (tag : ℕ) (go : List ℕ → Option B) (went : List ℕ → Option A) → ((b : List ℕ) → go b ≡ option_map f (went b)) → (r : Step ℕ)
      → (r >>= λ (b : ℕ × List ℕ). cond (nat_eq b.0 tag) (go b.1) None) ≡ option_map f (r >>= λ (b : ℕ × List ℕ). cond (nat_eq b.0 tag) (went b.1) None)
  tagged f tag go went e None = refl
  tagged {A = A} {B = B} f tag go went e (Some b) = pick (nat_eq b.0 tag) (go b.1) (went b.1) (e b.1)
    where
      pick : (t : Bool) (u : Option B) (v : Option A) → u ≡ option_map f v → cond t u None ≡ option_map f (cond t v None)
      pick true u v h = h
      pick false u v h = refl

  pub field_whole : (b : List ℕ) → scan.whole_field (owned naming owners) b ≡ option_map (type_facts naming) (whole.whole_field owners b)
  unfolding scan.whole_field whole.whole_field
  field_whole b = tagged (type_facts naming) 0x06 (scan.whole_type (owned naming owners)) (whole.whole_type owners) type_whole (byte_at b)

  -- ---- lists of types

  abbrev listed : ℕ → Facts → Option ListFacts
  listed count f = Some (record { count = count; facts = f })

  listed_end : (count : ℕ) (r : Read (List SigType)) → ((x : List SigType × List ℕ × ℕ) → r ≡ Some x → length x.0 ≡ count)
      → (on_read (λ (ts : List SigType). all_joined (leaf 0) (map (type_facts naming) ts)) r >>= λ (ts : Facts × List ℕ × ℕ). cond (nat_eq (length ts.1) 0) (listed count ts.0) None)
      ≡ option_map (types_facts naming) (r >>= λ (ts : List SigType × List ℕ × ℕ). ended ts)
  unfolding types_facts
  listed_end count None long = refl
  listed_end count (Some ts) long = rw (← long ts refl) (pick (nat_eq (length ts.1) 0))
    where
      pick : (b : Bool) → cond b (listed (length ts.0) (all_joined (leaf 0) (map (type_facts naming) ts.0))) None ≡ option_map (types_facts naming) (cond b (Some ts.0) None)
      pick true = refl
      pick false = refl

  types_rest : (r : Step ℕ)
      → (r >>= λ (n : ℕ × List ℕ). scan.all_types_at scanned (leaf 0) n.0 n.1 max_nodes >>= λ (ts : Facts × List ℕ × ℕ). cond (nat_eq (length ts.1) 0) (listed n.0 ts.0) None)
      ≡ option_map (types_facts naming) (r >>= λ (n : ℕ × List ℕ). whole.all_types_at sub n.0 n.1 max_nodes >>= λ (ts : List SigType × List ℕ × ℕ). ended ts)
  types_rest None = refl
  types_rest (Some n) =
      ap (λ (r : Read Facts). r >>= λ (ts : Facts × List ℕ × ℕ). cond (nat_eq (length ts.1) 0) (listed n.0 ts.0) None) (all_same naming scanned sub follows (leaf 0) n.0 n.1 max_nodes)
      ∙ listed_end n.0 (whole.all_types_at sub n.0 n.1 max_nodes) (all_counted sub n.0 n.1 max_nodes)

  types_whole : (b : List ℕ) → scan.whole_types (owned naming owners) b ≡ option_map (types_facts naming) (whole.whole_types owners b)
  unfolding scan.whole_types whole.whole_types
  types_whole b = types_rest (number_at b)

  pub locals_whole : (b : List ℕ) → scan.whole_locals (owned naming owners) b ≡ option_map (types_facts naming) (whole.whole_locals owners b)
  unfolding scan.whole_locals whole.whole_locals
  locals_whole b = tagged (types_facts naming) 0x07 (scan.whole_types (owned naming owners)) (whole.whole_types owners) types_whole (byte_at b)

  -- at least one
  some_end : (r : Option (List SigType))
      → (option_map (types_facts naming) r >>= λ (ts : ListFacts). cond (nat_eq ts.count 0) None (Some ts)) ≡ option_map (types_facts naming) (r >>= whole.some_types)
  unfolding types_facts
  some_end None = refl
  some_end (Some ts) = pick (nat_eq (length ts) 0)
    where
      pick : (b : Bool) → cond b None (Some (types_facts naming ts)) ≡ option_map (types_facts naming) (cond b None (Some ts))
      pick true = refl
      pick false = refl

  some_whole : (b : List ℕ)
      → (scan.whole_types (owned naming owners) b >>= λ (ts : ListFacts). cond (nat_eq ts.count 0) None (Some ts)) ≡ option_map (types_facts naming) (whole.whole_types owners b >>= whole.some_types)
  some_whole b = ap (λ (r : Option ListFacts). r >>= λ (ts : ListFacts). cond (nat_eq ts.count 0) None (Some ts)) (types_whole b) ∙ some_end (whole.whole_types owners b)

  pub instantiation_whole : (b : List ℕ) → scan.whole_instantiation (owned naming owners) b ≡ option_map (types_facts naming) (whole.whole_instantiation owners b)
  unfolding scan.whole_instantiation whole.whole_instantiation
  instantiation_whole b =
      tagged (types_facts naming) 0x0A (λ b. scan.whole_types (owned naming owners) b >>= λ (ts : ListFacts). cond (nat_eq ts.count 0) None (Some ts))
      (λ b. whole.whole_types owners b >>= whole.some_types) some_whole (byte_at b)

  -- ---- parameters

  abbrev Params : Type 0
  Params = Option (List SigType × Option ℕ × List ℕ × ℕ)

  abbrev params : List SigType → Option ℕ → List ℕ → ℕ → Params
  params ts sentinel rest many = Some (ts, sentinel, rest, many)

  abbrev Scanned : Type 0
  Scanned = Option (Facts × Bool × List ℕ × ℕ)

  abbrev scanned_params : Facts → Bool → List ℕ → ℕ → Scanned
  scanned_params f b rest many = Some (f, b, rest, many)

  abbrev on_params : Facts → Params → Scanned
  on_params front None = None
  on_params front (Some p) = scanned_params (all_joined front (map (type_facts naming) p.0)) (is_there p.1) p.2 p.3

  joined_on : (front : Facts) (ts us : List SigType)
      → all_joined (all_joined front (map (type_facts naming) ts)) (map (type_facts naming) us) ≡ all_joined front (map (type_facts naming) (ts ++ us))
  joined_on front [] us = refl
  joined_on front (t ∷ ts) us = joined_on (joined front (type_facts naming t)) ts us

  others_end : (front : Facts) (fixed : List SigType) (r : Read (List SigType))
      → (on_read (λ (ts : List SigType). all_joined (all_joined front (map (type_facts naming) fixed)) (map (type_facts naming) ts)) r >>= λ (o : Facts × List ℕ × ℕ). scanned_params o.0 true o.1 o.2)
      ≡ on_params front (r >>= λ (o : List SigType × List ℕ × ℕ). params (fixed ++ o.0) (Some (length fixed)) o.1 o.2)
  others_end front fixed None = refl
  others_end front fixed (Some o) = ap (λ (f : Facts). scanned_params f true o.1 o.2) (joined_on front fixed o.0)

  others_rest : (front : Facts) (fixed : List SigType) (more many : ℕ) (r : Step ℕ)
      → (r >>= λ (m : ℕ × List ℕ). scan.all_types_at scanned (all_joined front (map (type_facts naming) fixed)) more m.1 many >>= λ (o : Facts × List ℕ × ℕ). scanned_params o.0 true o.1 o.2)
      ≡ on_params front (r >>= λ (m : ℕ × List ℕ). whole.all_types_at sub more m.1 many >>= λ (o : List SigType × List ℕ × ℕ). params (fixed ++ o.0) (Some (length fixed)) o.1 o.2)
  others_rest front fixed more many None = refl
  others_rest front fixed more many (Some m) =
      ap (λ (r : Read Facts). r >>= λ (o : Facts × List ℕ × ℕ). scanned_params o.0 true o.1 o.2)
      (all_same naming scanned sub follows (all_joined front (map (type_facts naming) fixed)) more m.1 many)
      ∙ others_end front fixed (whole.all_types_at sub more m.1 many)

  alone : (front : Facts) (t s : Bool) (u : Scanned) (v : Params) (x : List SigType × List ℕ × ℕ) → s ≡ cond t false true → u ≡ on_params front v
      → cond s (scanned_params (all_joined front (map (type_facts naming) x.0)) false x.1 x.2) u ≡ on_params front (cond t v (params x.0 None x.1 x.2))
  alone front true s u v x e h = rw e h
  alone front false s u v x e h = rw e refl

  no_more : (count k : ℕ) → nat_eq (count - k) 0 ≡ cond (nat_lt k count) false true
  no_more count k = grind (arith, common_steps)

  abbrev go_params : Facts × ℕ × List ℕ × ℕ → Scanned
  go_params fixed =
      cond (nat_eq fixed.1 0) (scanned_params fixed.0 false fixed.2 fixed.3)
      (byte_at fixed.2 >>= λ (m : ℕ × List ℕ). scan.all_types_at scanned fixed.0 fixed.1 m.1 fixed.3 >>= λ (o : Facts × List ℕ × ℕ). scanned_params o.0 true o.1 o.2)

  params_rest : (front : Facts) (count : ℕ) (r : Read (List SigType))
      → (on_types naming front count r >>= go_params) ≡ on_params front (r >>= λ (fixed : List SigType × List ℕ × ℕ). cond (nat_lt (length fixed.0) count) (whole.others_at sub count fixed) (params fixed.0 None fixed.1 fixed.2))
  params_rest front count None = refl
  params_rest front count (Some x) =
      let front_now = all_joined front (map (type_facts naming) x.0) in
      alone front (nat_lt (length x.0) count) (nat_eq (count - length x.0) 0)
      (byte_at x.1 >>= λ (m : ℕ × List ℕ). scan.all_types_at scanned front_now (count - length x.0) m.1 x.2 >>= λ (o : Facts × List ℕ × ℕ). scanned_params o.0 true o.1 o.2)
      (whole.others_at sub count x) x (no_more count (length x.0)) (others_rest front x.0 (count - length x.0) x.2 (byte_at x.1))

  params_same : (front : Facts) (count : ℕ) (b : List ℕ) (n : ℕ) → scan.params_at scanned front count b n ≡ on_params front (whole.params_at sub count b n)
  unfolding scan.params_at whole.params_at
  params_same front count b n =
      ap (λ (r : Option (Facts × ℕ × List ℕ × ℕ)). r >>= go_params) (types_same naming scanned sub follows count front b n) ∙ params_rest front count (whole.types_at sub count b n)

  -- how many parameters there are
  params_long : (front : Facts) (count : ℕ) (b : List ℕ) (n : ℕ) (p : List SigType × Option ℕ × List ℕ × ℕ) → whole.params_at sub count b n ≡ Some p → length p.0 ≡ count
  unfolding whole.params_at
  params_long front count b n p e =
      let next : (List SigType × List ℕ × ℕ) → Params = λ fixed. cond (nat_lt (length fixed.0) count) (whole.others_at sub count fixed) (params fixed.0 None fixed.1 fixed.2) in
      let a = bind_some (whole.types_at sub count b n) next p e in
      let few = few_types sub count b n a.0 a.1 in
      go a.0 few (nat_lt (length a.0.0) count) refl a.2
    where
      go : (x : List SigType × List ℕ × ℕ) → length x.0 ≤ count → (t : Bool) → nat_lt (length x.0) count ≡ t
          → cond t (whole.others_at sub count x) (params x.0 None x.1 x.2) ≡ Some p → length p.0 ≡ count
      go x few true short h =
          let last : (List SigType × List ℕ × ℕ) → Params = λ o. params (x.0 ++ o.0) (Some (length x.0)) o.1 o.2 in
          let second : (ℕ × List ℕ) → Params = λ m. whole.all_types_at sub (count - length x.0) m.1 x.2 >>= last in
          let c = bind_some (byte_at x.1) second p h in
          let d = bind_some (whole.all_types_at sub (count - length x.0) c.0.1 x.2) last p c.2 in
          let z : List SigType × Option ℕ × List ℕ × ℕ = (x.0 ++ d.0.0, Some (length x.0), d.0.1, d.0.2) in
          let long : length p.0 ≡ length (x.0 ++ d.0.0) = ap (λ (y : List SigType × Option ℕ × List ℕ × ℕ). length y.0) (sym (some_is z p d.2)) in
          let more : length d.0.0 ≡ count - length x.0 = all_counted sub (count - length x.0) c.0.1 x.2 d.0 d.1 in
          omega (arith, long, more, few, length-append x.0 d.0.0)
      go x few false full h =
          let z : List SigType × Option ℕ × List ℕ × ℕ = (x.0, None, x.1, x.2) in
          let long : length p.0 ≡ length x.0 = ap (λ (y : List SigType × Option ℕ × List ℕ × ℕ). length y.0) (sym (some_is z p h)) in
          let whole_count : count ≤ length x.0 = grind (arith, common_steps) in
          omega (arith, long, few, whole_count)

  -- ---- methods

  abbrev Call : Type 0
  Call = Bool × Bool × Bool × Bool

  abbrev signature : Call → ℕ → SigType → List SigType × Option ℕ × List ℕ × ℕ → Option MethodSig
  signature call generic ret p =
      Some (record { has_this = call.1; explicit_this = call.2; vararg = call.0; generic = generic; ret = ret; params = p.0; sentinel = p.1 })

  abbrev method_end : ℕ → ℕ → Facts × Bool × List ℕ × ℕ → Option MethodFacts
  method_end generic count p = cond (nat_eq (length p.2) 0) (Some (record { generic = generic; params = count; has_sentinel = p.1; facts = p.0 })) None

  abbrev whole_end : Call → ℕ → SigType → List SigType × Option ℕ × List ℕ × ℕ → Option MethodSig
  whole_end call generic ret p = cond (nat_eq (length p.2) 0) (signature call generic ret p) None

  method_pick : (call : Call) (generic : ℕ) (ret : SigType) (p : List SigType × Option ℕ × List ℕ × ℕ) (t : Bool)
      → cond t (Some (record { generic = generic; params = length p.0; has_sentinel = is_there p.1; facts = all_joined (joined (leaf generic) (type_facts naming ret)) (map (type_facts naming) p.0) })) None
      ≡ option_map (method_facts naming) (cond t (signature call generic ret p) None)
  unfolding method_facts
  method_pick call generic ret p true = refl
  method_pick call generic ret p false = refl

  method_params : (call : Call) (generic count : ℕ) (ret : SigType) (r : Params) → ((p : List SigType × Option ℕ × List ℕ × ℕ) → r ≡ Some p → length p.0 ≡ count)
      → (on_params (joined (leaf generic) (type_facts naming ret)) r >>= method_end generic count) ≡ option_map (method_facts naming) (r >>= whole_end call generic ret)
  method_params call generic count ret None long = refl
  method_params call generic count ret (Some p) long = rw (← long p refl) (method_pick call generic ret p (nat_eq (length p.2) 0))

  abbrev go_ret : ℕ → ℕ → Facts × List ℕ × ℕ → Option MethodFacts
  go_ret generic count ret = scan.params_at scanned (joined (leaf generic) ret.0) count ret.1 ret.2 >>= method_end generic count

  abbrev whole_ret : Call → ℕ → ℕ → SigType × List ℕ × ℕ → Option MethodSig
  whole_ret call generic count ret = whole.params_at sub count ret.1 ret.2 >>= whole_end call generic ret.0

  method_ret : (call : Call) (generic count : ℕ) (r : Read SigType)
      → (on_read (type_facts naming) r >>= go_ret generic count) ≡ option_map (method_facts naming) (r >>= whole_ret call generic count)
  method_ret call generic count None = refl
  method_ret call generic count (Some ret) =
      let front = joined (leaf generic) (type_facts naming ret.0) in
      ap (λ (r : Scanned). r >>= method_end generic count) (params_same front count ret.1 ret.2)
      ∙ method_params call generic count ret.0 (whole.params_at sub count ret.1 ret.2) (params_long front count ret.1 ret.2)

  abbrev counts : ℕ → ℕ → List ℕ → Option (ℕ × ℕ × List ℕ)
  counts generic count rest = Some (generic, count, rest)

  abbrev go_method : ℕ × ℕ × List ℕ → Option MethodFacts
  go_method c = scanned c.2 max_nodes >>= go_ret c.0 c.1

  method_count : (call : Call) (generic : ℕ) (r : Step ℕ)
      → (r >>= (λ (c : ℕ × List ℕ). counts generic c.0 c.1) >>= go_method) ≡ option_map (method_facts naming) (r >>= λ (c : ℕ × List ℕ). sub c.1 max_nodes >>= whole_ret call generic c.0)
  method_count call generic None = refl
  method_count call generic (Some c) =
      ap (λ (r : Read Facts). r >>= go_ret generic c.0) (follows.same c.1 max_nodes) ∙ method_ret call generic c.0 (sub c.1 max_nodes)

  method_generic : (call : Call) (r : Step ℕ)
      → (r >>= (λ (g : ℕ × List ℕ). number_at g.1 >>= λ (c : ℕ × List ℕ). counts g.0 c.0 c.1) >>= go_method)
      ≡ option_map (method_facts naming) (r >>= λ (g : ℕ × List ℕ). number_at g.1 >>= λ (c : ℕ × List ℕ). sub c.1 max_nodes >>= whole_ret call g.0 c.0)
  method_generic call None = refl
  method_generic call (Some g) = method_count call g.0 (number_at g.1)

  abbrev some_call : Call → Option Bool
  some_call call = Some call.3

  method_call : (rest : List ℕ) (r : Option Call)
      → (r >>= some_call >>= (λ (some : Bool). whole.generics_at some rest >>= λ (g : ℕ × List ℕ). number_at g.1 >>= λ (c : ℕ × List ℕ). counts g.0 c.0 c.1) >>= go_method)
      ≡ option_map (method_facts naming) (r >>= λ (call : Call). whole.generics_at call.3 rest >>= λ (g : ℕ × List ℕ). number_at g.1 >>= λ (c : ℕ × List ℕ). sub c.1 max_nodes >>= whole_ret call g.0 c.0)
  method_call rest None = refl
  method_call rest (Some call) = method_generic call (whole.generics_at call.3 rest)

  method_byte : (r : Step ℕ)
      → (r >>= (λ (b : ℕ × List ℕ). scan.is_generic b.0 >>= λ (some : Bool). whole.generics_at some b.1 >>= λ (g : ℕ × List ℕ). number_at g.1 >>= λ (c : ℕ × List ℕ). counts g.0 c.0 c.1) >>= go_method)
      ≡ option_map (method_facts naming) (r >>= λ (b : ℕ × List ℕ). whole.convention_of b.0 >>= λ (call : Call). whole.generics_at call.3 b.1 >>= λ (g : ℕ × List ℕ). number_at g.1
      >>= λ (c : ℕ × List ℕ). sub c.1 max_nodes >>= whole_ret call g.0 c.0)
  unfolding scan.is_generic
  method_byte None = refl
  method_byte (Some b) = method_call b.1 (whole.convention_of b.0)

  pub method_whole : (b : List ℕ) → scan.whole_method (owned naming owners) b ≡ option_map (method_facts naming) (whole.whole_method owners b)
  unfolding scan.whole_method scan.counts_at whole.whole_method
  method_whole b = method_byte (byte_at b)

  -- ---- properties

  abbrev property : Bool → SigType → List SigType × List ℕ × ℕ → Option MethodSig
  property has_this ret p =
      ended (record { has_this = has_this; explicit_this = false; vararg = false; generic = 0; ret = ret; params = p.0; sentinel = None }, p.1, p.2)

  abbrev property_end : ℕ → Facts × List ℕ × ℕ → Option MethodFacts
  property_end count p = cond (nat_eq (length p.1) 0) (Some (record { generic = 0; params = count; has_sentinel = false; facts = p.0 })) None

  property_pick : (has_this : Bool) (ret : SigType) (ts : List SigType) (t : Bool)
      → cond t (Some (record { generic = 0; params = length ts; has_sentinel = false; facts = all_joined (joined (leaf 0) (type_facts naming ret)) (map (type_facts naming) ts) })) None
      ≡ option_map (method_facts naming) (cond t (Some (record { has_this = has_this; explicit_this = false; vararg = false; generic = 0; ret = ret; params = ts; sentinel = None })) None)
  unfolding method_facts
  property_pick has_this ret ts true = refl
  property_pick has_this ret ts false = refl

  abbrev on_all : Facts → Read (List SigType) → Read Facts
  on_all front = on_read (λ (ts : List SigType). all_joined front (map (type_facts naming) ts))

  property_params : (has_this : Bool) (count : ℕ) (ret : SigType) (r : Read (List SigType)) → ((x : List SigType × List ℕ × ℕ) → r ≡ Some x → length x.0 ≡ count)
      → (on_all (joined (leaf 0) (type_facts naming ret)) r >>= property_end count) ≡ option_map (method_facts naming) (r >>= property has_this ret)
  property_params has_this count ret None long = refl
  property_params has_this count ret (Some p) long = rw (← long p refl) (property_pick has_this ret p.0 (nat_eq (length p.1) 0))

  abbrev go_property_ret : ℕ → Facts × List ℕ × ℕ → Option MethodFacts
  go_property_ret count ret = scan.all_types_at scanned (joined (leaf 0) ret.0) count ret.1 ret.2 >>= property_end count

  abbrev whole_property_ret : Bool → ℕ → SigType × List ℕ × ℕ → Option MethodSig
  whole_property_ret has_this count ret = whole.all_types_at sub count ret.1 ret.2 >>= property has_this ret.0

  property_ret : (has_this : Bool) (count : ℕ) (r : Read SigType)
      → (on_read (type_facts naming) r >>= go_property_ret count) ≡ option_map (method_facts naming) (r >>= whole_property_ret has_this count)
  property_ret has_this count None = refl
  property_ret has_this count (Some ret) =
      ap (λ (r : Read Facts). r >>= property_end count) (all_same naming scanned sub follows (joined (leaf 0) (type_facts naming ret.0)) count ret.1 ret.2)
      ∙ property_params has_this count ret.0 (whole.all_types_at sub count ret.1 ret.2) (all_counted sub count ret.1 ret.2)

  abbrev go_property : ℕ × List ℕ → Option MethodFacts
  go_property c = scanned c.1 max_nodes >>= go_property_ret c.0

  property_count : (has_this : Bool) (r : Step ℕ)
      → (r >>= go_property) ≡ option_map (method_facts naming) (r >>= λ (c : ℕ × List ℕ). sub c.1 max_nodes >>= whole_property_ret has_this c.0)
  property_count has_this None = refl
  property_count has_this (Some c) =
      ap (λ (r : Read Facts). r >>= go_property_ret c.0) (follows.same c.1 max_nodes) ∙ property_ret has_this c.0 (sub c.1 max_nodes)

  property_this : (rest : List ℕ) (r : Option Bool)
      → (r >>= (λ (has_this : Bool). number_at rest) >>= go_property)
      ≡ option_map (method_facts naming) (r >>= λ (has_this : Bool). number_at rest >>= λ (c : ℕ × List ℕ). sub c.1 max_nodes >>= whole_property_ret has_this c.0)
  property_this rest None = refl
  property_this rest (Some has_this) = property_count has_this (number_at rest)

  property_byte : (r : Step ℕ)
      → (r >>= (λ (b : ℕ × List ℕ). whole.property_has_this b.0 >>= λ (has_this : Bool). number_at b.1) >>= go_property)
      ≡ option_map (method_facts naming) (r >>= λ (b : ℕ × List ℕ). whole.property_has_this b.0 >>= λ (has_this : Bool). number_at b.1 >>= λ (c : ℕ × List ℕ). sub c.1 max_nodes >>= whole_property_ret has_this c.0)
  property_byte None = refl
  property_byte (Some b) = property_this b.1 (whole.property_has_this b.0)

  pub property_whole : (b : List ℕ) → scan.whole_property (owned naming owners) b ≡ option_map (method_facts naming) (whole.whole_property owners b)
  unfolding scan.whole_property scan.property_count_at whole.whole_property
  property_whole b = property_byte (byte_at b)

-- facts that a map tells are those of what it names
pub moved : {Y : Type 0} (facts : OwnersFacts) (naming : Naming) (owners : ℕ → Option Owner) → AreFacts naming owners facts → (scanned : OwnersFacts → Y) → scanned facts ≡ scanned (owned naming owners)
moved facts naming owners are scanned = ap scanned (λ i token. are token i)
