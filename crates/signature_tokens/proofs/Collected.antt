-- A walk along what is spelled whole collects the tokens of its term.
use Rattle.std.proofs.Common.{◌≡◌, ℕ, zero, suc, ◌+◌, ◌-◌, ◌≤◌, ◌<◌, Bool, true, false, cond, nat_lt, nat_eq, ℤ, List, [], ◌∷◌, ◌++◌, length, map, Option, Some, None, refl, sym, ap, subst, ◌∙◌, append_assoc, arith}
use Rattle.std.proofs.lemmas.Grind.{common_steps}
use Rattle.std.proofs.lemmas.List.{append-nil}
use Rattle.std.specs.List.{flat_map}
use Rattle.type_terms.specs.declared.name.Scope.TheVariants.{Extern}
use Rattle.type_terms.specs.declared.name.TypeName.{TypeName}
use Rattle.type_terms.specs.declared.reference.MethodSig.{MethodSig}
use Rattle.type_terms.specs.declared.term.Owner.{Owner, Name, fold-Owner}
use Rattle.type_terms.specs.declared.term.Primitive as prim
use Rattle.type_terms.specs.declared.term.SigType.{SigType}
use Rattle.type_terms.specs.declared.term.SigType.TheVariants as type
use Rattle.type_terms.proofs.Layers.{fold-Name, fold-Prim, fold-Class, fold-Value, fold-Inst, fold-Var, fold-MVar, fold-SzArray, fold-Array, fold-ByRef, fold-Pointer, fold-Mod, fold-Pinned}
use Rattle.sig_codec.specs.declared.element.Element.{Element}
use Rattle.sig_codec.specs.declared.element.Element.TheVariants as element
use Rattle.sig_codec.specs.Signature.{max_depth, max_nodes}
use Rattle.sig_codec.specs.Tokens.{token_of_coded}
use Rattle.sig_codec.specs.Reading as whole
use Rattle.sig_codec.specs.Reading.{◌>>=◌, Step, Read, TypeStep, byte_at, number_at, variable_at, kind_at, element_of, is_at_sentinel, ended}
use Rattle.sig_codec.proofs.Numbers.{some_is, bind_some}
use Rattle.sig_codec.proofs.StepParts.{let_through, is_variable, is_owned, is_declared_name, is_head, is_boxed, are_all, is_array, is_inst, is_modified, has_element}
use Rattle.image_model.specs.Tokens.{marked, mark_of, owner_marks, type_marks, type_tokens, sig_tokens}
use Rattle.signature_facts.specs.Scanning as scan
use Rattle.signature_facts.specs.Facts.{shape_facts}
use Rattle.signature_facts.proofs.Told.{left, on_shape, shape_same}
use Rattle.signature_facts.proofs.WholeTold.{few_types, all_counted}
use Rattle.signature_tokens.specs.Collecting.{Walk, token_at, behind_sentinel, types_at, list_at, array_at, inst_at, modified_at, numbered_at, parts_at, type_at, field_at, locals_at, returned_at, method_at, property_at}

abbrev given : List ℕ → List ℕ → Step (List ℕ)
given tokens rest = Some (tokens, rest)

abbrev given_byte : ℕ → List ℕ → Step ℕ
given_byte b rest = Some (b, rest)

abbrev given_kind : Bool → List ℕ → Step Bool
given_kind v rest = Some (v, rest)

some_rest : (u : Bool) (s : List ℕ) (v : Bool) (rest : List ℕ) → given_kind u s ≡ given_kind v rest → s ≡ rest
some_rest u s v rest e =
    let z : Bool × List ℕ = (u, s) in
    let w : Bool × List ℕ = (v, rest) in
    ap (λ (x : Bool × List ℕ). x.1) (some_is z w e)

-- the tokens of several, as a fold has them
flat_mapped : (ts : List SigType) → flat_map (λ (t : SigType). type_tokens t) ts ≡ flat_map (λ (tokens : List ℕ). tokens) (map (λ (t : SigType). type_tokens t) ts)
flat_mapped [] = refl
flat_mapped (t ∷ ts) = ap (λ (us : List ℕ). type_tokens t ++ us) (flat_mapped ts)

abbrev tokens : SigType → List ℕ
tokens t = type_tokens t

abbrev owner_tokens : Owner → List ℕ
owner_tokens o = fold-Owner (List ℕ) (List ℕ) owner_marks type_marks o

-- ---- owners

-- a token has its own mark
token_marked : (token : ℕ) (o : Owner) → marked token ≡ Some o → owner_tokens o ≡ token ∷ []
token_marked token o e =
    let n : TypeName = record { scope = Extern token; path = record { space = []; name = [] } ∷ [] } in
    ap owner_tokens (sym (some_is (Name n) o e)) ∙ fold-Name (List ℕ) (List ℕ) owner_marks type_marks n

token_read : (front s : List ℕ) (n : ℕ × List ℕ) (token : ℕ) (rest : List ℕ) → number_at s ≡ Some n → token_of_coded n.0 ≡ Some token → n.1 ≡ rest
    → token_at front s ≡ given (front ++ token ∷ []) rest
unfolding token_at
token_read front s n token rest e f g = rw (e, f, g) refl

owner_collected : (front s : List ℕ) (x : ℕ × Owner × List ℕ) → whole.owner_at marked s ≡ Some x → token_at front s ≡ given (front ++ owner_tokens x.1) x.2
owner_collected front s x e =
    let p = is_owned marked s x e in
    token_read front s p.number x.0 x.2 p.counted p.token p.rest ∙ ap (λ (ts : List ℕ). given (front ++ ts) x.2) (sym (token_marked x.0 x.1 p.named))

name_collected : (front s : List ℕ) (token : ℕ) (name : TypeName) (rest : List ℕ) → whole.owner_at marked s ≡ Some (token, Name name, rest) → token_at front s ≡ given (front ++ mark_of name) rest
name_collected front s token name rest e =
    owner_collected front s (token, Name name, rest) e ∙ ap (λ (ts : List ℕ). given (front ++ ts) rest) (fold-Name (List ℕ) (List ℕ) owner_marks type_marks name)

-- ---- types, by a step that reads the types in them

abbrev pub Collects : Walk → TypeStep → Type 0
Collects walk sub = (front b : List ℕ) (n : ℕ) (x : SigType × List ℕ × ℕ) → sub b n ≡ Some x → walk front b ≡ given (front ++ tokens x.0) x.1

module _ (walk : Walk) (sub : TypeStep) (collects : Collects walk sub) where
  abbrev several : SigType → (List SigType × List ℕ × ℕ) → Read (List SigType)
  several t ts = left (t ∷ ts.0) ts.1 ts.2

  abbrev more_types : ℕ → (SigType × List ℕ × ℕ) → Read (List SigType)
  more_types count t = whole.types_at sub count t.1 t.2 >>= several t.0

  no_sentinel : (b : List ℕ) → is_at_sentinel b ≡ false → behind_sentinel b ≡ b
  no_sentinel [] e = refl
  no_sentinel (x ∷ b) e = rw e refl

  -- those at the front, and what may follow them
  front_step : (count : ℕ) → ((front b : List ℕ) (n : ℕ) (x : List SigType × List ℕ × ℕ) → whole.types_at sub count b n ≡ Some x
      → types_at walk count front b ≡ types_at walk (count - length x.0) (front ++ flat_map tokens x.0) x.1)
      → (t : Bool) (front b : List ℕ) (n : ℕ) (x : List SigType × List ℕ × ℕ) → is_at_sentinel b ≡ t → cond t (left [] b n) (sub b n >>= more_types count) ≡ Some x
      → types_at walk (suc count) front b ≡ types_at walk (suc count - length x.0) (front ++ flat_map tokens x.0) x.1
  front_step count ih true front b n x at e =
      let z : List SigType × List ℕ × ℕ = ([], b, n) in
      let k : suc count ≡ suc count - 0 = omega arith in
      let one : types_at walk (suc count) front b ≡ types_at walk (suc count - 0) (front ++ []) b =
      ap (λ (f : List ℕ). types_at walk (suc count) f b) (sym (append-nil front)) ∙ ap (λ (k : ℕ). types_at walk k (front ++ []) b) k in
      one ∙ ap (λ (x : List SigType × List ℕ × ℕ). types_at walk (suc count - length x.0) (front ++ flat_map tokens x.0) x.1) (some_is z x e)
  front_step count ih false front b n x at e =
      let a = bind_some (sub b n) (more_types count) x e in
      let c = bind_some (whole.types_at sub count a.0.1 a.0.2) (several a.0.0) x a.2 in
      let z : List SigType × List ℕ × ℕ = (a.0.0 ∷ c.0.0, c.0.1, c.0.2) in
      let first = collects front b n a.0 a.1 in
      let k : count - length c.0.0 ≡ suc count - suc (length c.0.0) = omega arith in
      let started : types_at walk (suc count) front b ≡ types_at walk count (front ++ tokens a.0.0) a.0.1 = rw (no_sentinel b at, first) refl in
      let gone = ih (front ++ tokens a.0.0) a.0.1 a.0.2 c.0 c.1 in
      let joined : (front ++ tokens a.0.0) ++ flat_map tokens c.0.0 ≡ front ++ (tokens a.0.0 ++ flat_map tokens c.0.0) = append_assoc front (tokens a.0.0) (flat_map tokens c.0.0) in
      started ∙ gone ∙ ap (λ (f : List ℕ). types_at walk (count - length c.0.0) f c.0.1) joined
      ∙ ap (λ (k : ℕ). types_at walk k (front ++ (tokens a.0.0 ++ flat_map tokens c.0.0)) c.0.1) k
      ∙ ap (λ (x : List SigType × List ℕ × ℕ). types_at walk (suc count - length x.0) (front ++ flat_map tokens x.0) x.1) (some_is z x c.2)

  types_front : (count : ℕ) (front b : List ℕ) (n : ℕ) (x : List SigType × List ℕ × ℕ) → whole.types_at sub count b n ≡ Some x
      → types_at walk count front b ≡ types_at walk (count - length x.0) (front ++ flat_map tokens x.0) x.1
  types_front zero front b n x e =
      let z : List SigType × List ℕ × ℕ = ([], b, n) in
      ap (λ (f : List ℕ). given f b) (sym (append-nil front))
      ∙ ap (λ (x : List SigType × List ℕ × ℕ). types_at walk (0 - length x.0) (front ++ flat_map tokens x.0) x.1) (some_is z x e)
  types_front (suc count) front b n x e = front_step count (types_front count) (is_at_sentinel b) front b n x refl e

  all_collected : (count : ℕ) (front b : List ℕ) (n : ℕ) (x : List SigType × List ℕ × ℕ) → whole.all_types_at sub count b n ≡ Some x
      → types_at walk count front b ≡ given (front ++ flat_map tokens x.0) x.1
  all_collected count front b n x e =
      let p = are_all sub count b n x e in
      let long = all_counted sub count b n x e in
      let k : count - length x.0 ≡ 0 = omega arith in
      types_front count front b n x p.read ∙ ap (λ (k : ℕ). types_at walk k (front ++ flat_map tokens x.0) x.1) k

  list_collected : (front s : List ℕ) (c : ℕ × List ℕ) (n : ℕ) (x : List SigType × List ℕ × ℕ) → number_at s ≡ Some c → whole.all_types_at sub c.0 c.1 n ≡ Some x
      → list_at walk front s ≡ given (front ++ flat_map tokens x.0) x.1
  unfolding list_at
  list_collected front s c n x e f = rw e (all_collected c.0 front c.1 n x f)

  boxed_collected : (make : SigType → SigType) → ((t : SigType) → tokens (make t) ≡ tokens t) → Collects walk (λ b n. whole.boxed_at sub make b n)
  boxed_collected make is front b n x e =
      let p = is_boxed sub make b n x e in
      collects front b n (p.of, x.1, x.2) p.read ∙ ap (λ (ts : List ℕ). given (front ++ ts) x.1) (sym (is p.of) ∙ ap tokens p.made)

  named_collected : (make : TypeName → SigType) → ((name : TypeName) → tokens (make name) ≡ mark_of name) → Collects token_at (λ b n. whole.named_at marked make b n)
  named_collected make is front b n x e =
      let a = bind_some (whole.declared_at marked b) (λ name. Some (make name.0, name.1, n)) x e in
      let p = is_declared_name marked b a.0 a.1 in
      let z : SigType × List ℕ × ℕ = (make a.0.0, a.0.1, n) in
      name_collected front b p.token a.0.0 a.0.1 p.owned ∙ ap (λ (ts : List ℕ). given (front ++ ts) a.0.1) (sym (is a.0.0))
      ∙ ap (λ (x : SigType × List ℕ × ℕ). given (front ++ tokens x.0) x.1) (some_is z x a.2)

  number_skipped : (front b : List ℕ) (k : ℕ × List ℕ) → variable_at b ≡ Some k → numbered_at front b ≡ given front k.1
  unfolding numbered_at
  number_skipped front b k e = rw e refl

  numbered_collected : (make : ℕ → SigType) → ((k : ℕ) → tokens (make k) ≡ []) → Collects numbered_at (λ b n. whole.numbered_at make b n)
  numbered_collected make is front b n x e =
      let a = bind_some (variable_at b) (λ k. Some (make k.0, k.1, n)) x e in
      let z : SigType × List ℕ × ℕ = (make a.0.0, a.0.1, n) in
      let start = number_skipped front b a.0 a.1 in
      start ∙ ap (λ (f : List ℕ). given f a.0.1) (sym (append-nil front)) ∙ ap (λ (ts : List ℕ). given (front ++ ts) a.0.1) (sym (is a.0.0))
      ∙ ap (λ (x : SigType × List ℕ × ℕ). given (front ++ tokens x.0) x.1) (some_is z x a.2)

  array_collected : Collects (array_at walk) (λ b n. whole.array_at sub b n)
  unfolding array_at
  array_collected front b n x e =
      let p = is_array sub b n x e in
      let first = collects front b n (p.of, p.behind, x.2) p.read in
      let shape : scan.shape_at p.behind ≡ Some (shape_facts p.shape.0 p.shape.1 p.shape.2, p.shape.3) = shape_same p.behind ∙ ap on_shape p.shaped in
      let start : array_at walk front b ≡ given (front ++ tokens p.of) p.shape.3 = rw (first, shape) refl in
      start ∙ ap (λ (r : List ℕ). given (front ++ tokens p.of) r) p.rest
      ∙ ap (λ (ts : List ℕ). given (front ++ ts) x.1) (sym (fold-Array (List ℕ) (List ℕ) owner_marks type_marks p.of p.shape.0 p.shape.1 p.shape.2) ∙ ap tokens p.made)

  kind_read : (s : List ℕ) (v : Bool) (rest : List ℕ) → kind_at s ≡ Some (v, rest) → (k : ℕ) × (byte_at s ≡ given_byte k rest)
  kind_read [] v rest e = absurd cc
  kind_read (b ∷ s) v rest e = (b, go (nat_eq b 0x11) (nat_eq b 0x12) e)
    where
      go : (p q : Bool) → cond p (given_kind true s) (cond q (given_kind false s) None) ≡ given_kind v rest → given_byte b s ≡ given_byte b rest
      go true q f = ap (λ (r : List ℕ). given_byte b r) (some_rest true s v rest f)
      go false true f = ap (λ (r : List ℕ). given_byte b r) (some_rest false s v rest f)
      go false false f = absurd cc

  inst_collected : Collects (inst_at walk) (λ b n. whole.inst_at marked sub b n)
  unfolding inst_at
  inst_collected front b n x e =
      let p = is_inst sub marked b n x e in
      let a = is_head marked b p.head p.headed in
      let k = kind_read b p.head.0 a.kind a.value in
      let name = name_collected front a.kind a.token p.head.1 a.count a.owned in
      let args = list_collected (front ++ mark_of p.head.1) a.count (p.head.2, p.head.3) n (p.args, x.1, x.2) a.counted p.read in
      let start : inst_at walk front b ≡ given ((front ++ mark_of p.head.1) ++ flat_map tokens p.args) x.1 = rw (k.1, name) args in
      start ∙ ap (λ (f : List ℕ). given f x.1) (append_assoc front (mark_of p.head.1) (flat_map tokens p.args))
      ∙ ap (λ (ts : List ℕ). given (front ++ ts) x.1) (ap (λ (ts : List ℕ). mark_of p.head.1 ++ ts) (flat_mapped p.args) ∙ sym (fold-Inst (List ℕ) (List ℕ) owner_marks type_marks p.head.0 p.head.1 p.args) ∙ ap tokens p.made)

  mod_collected : (limit : ℕ) (required : Bool) → Collects (modified_at walk) (λ b n. whole.modified_at marked sub limit required b n)
  unfolding modified_at
  mod_collected limit required front b n x e =
      let p = is_modified sub marked limit required b n x e in
      let owner = owner_collected front b p.owner p.owned in
      let of = collects (front ++ owner_tokens p.owner.1) p.owner.2 p.left (p.of, x.1, x.2) p.read in
      let start : modified_at walk front b ≡ given ((front ++ owner_tokens p.owner.1) ++ tokens p.of) x.1 = rw owner of in
      start ∙ ap (λ (f : List ℕ). given f x.1) (append_assoc front (owner_tokens p.owner.1) (tokens p.of))
      ∙ ap (λ (ts : List ℕ). given (front ++ ts) x.1) (sym (fold-Mod (List ℕ) (List ℕ) owner_marks type_marks required p.owner.1 p.of) ∙ ap tokens p.made)

  prim_collected : (p : prim.Primitive) → Collects (λ f b. given f b) (λ b n. left (type.Prim p) b n)
  prim_collected p front b n x e =
      let z : SigType × List ℕ × ℕ = (type.Prim p, b, n) in
      ap (λ (f : List ℕ). given f b) (sym (append-nil front)) ∙ ap (λ (ts : List ℕ). given (front ++ ts) b) (sym (fold-Prim (List ℕ) (List ℕ) owner_marks type_marks p))
      ∙ ap (λ (x : SigType × List ℕ × ℕ). given (front ++ tokens x.0) x.1) (some_is z x e)

  parts_collected : (limit : ℕ) (e : Element) → Collects (parts_at walk e) (λ b n. whole.parts_at marked sub limit e b n)
  parts_collected limit (element.Prim p) = prim_collected p
  parts_collected limit element.Pointer = boxed_collected type.Pointer (fold-Pointer (List ℕ) (List ℕ) owner_marks type_marks)
  parts_collected limit element.ByRef = boxed_collected type.ByRef (fold-ByRef (List ℕ) (List ℕ) owner_marks type_marks)
  parts_collected limit element.Value = named_collected type.Value (fold-Value (List ℕ) (List ℕ) owner_marks type_marks)
  parts_collected limit element.Class = named_collected type.Class (fold-Class (List ℕ) (List ℕ) owner_marks type_marks)
  parts_collected limit element.Var = numbered_collected type.Var (fold-Var (List ℕ) (List ℕ) owner_marks type_marks)
  parts_collected limit element.Array = array_collected
  parts_collected limit element.Inst = inst_collected
  parts_collected limit element.SzArray = boxed_collected type.SzArray (fold-SzArray (List ℕ) (List ℕ) owner_marks type_marks)
  parts_collected limit element.MVar = numbered_collected type.MVar (fold-MVar (List ℕ) (List ℕ) owner_marks type_marks)
  parts_collected limit element.Required = mod_collected limit true
  parts_collected limit element.Optional = mod_collected limit false
  parts_collected limit element.Pinned = boxed_collected type.Pinned (fold-Pinned (List ℕ) (List ℕ) owner_marks type_marks)

pub type_collected : (depth : ℕ) → Collects (type_at depth) (whole.type_at marked depth)
unfolding type_at whole.type_at
type_collected zero front b n x e = absurd cc
type_collected (suc depth) front b zero x e = absurd cc
type_collected (suc depth) front b (suc n) x e =
    let p = has_element marked depth b n x e in
    let start : type_at (suc depth) front b ≡ parts_at (type_at depth) p.element front p.behind = rw (p.first, p.is) refl in
    start ∙ parts_collected (type_at depth) (whole.type_at marked depth) (type_collected depth) depth p.element front p.behind n x p.parts

-- ---- whole signatures

abbrev pub Ends : Step (List ℕ) → List ℕ → List ℕ → Type 0
Ends r front ts = (rest : List ℕ) × (r ≡ given (front ++ ts) rest)

abbrev sub : TypeStep
sub = whole.type_at marked max_depth

abbrev walk : Walk
walk = type_at max_depth

end_is : {A : Type 0} (read : A × List ℕ × ℕ) (v : A) → ended read ≡ Some v → read.0 ≡ v
end_is read v e = (let_through (nat_eq (length read.1) 0) read.0 v e).1

eq_nat : (n m : ℕ) → nat_eq n m ≡ true → n ≡ m
eq_nat n m e = grind (arith, common_steps)

pub whole_type_collected : (front b : List ℕ) (t : SigType) → whole.whole_type marked b ≡ Some t → Ends (type_at max_depth front b) front (type_tokens t)
unfolding whole.whole_type
whole_type_collected front b t e =
    let a = bind_some (sub b max_nodes) (λ t. ended t) t e in
    (a.0.1, type_collected max_depth front b max_nodes a.0 a.1 ∙ ap (λ (t : SigType). given (front ++ tokens t) a.0.1) (end_is a.0 t a.2))

-- what stands behind a first byte that is known
tagged : {A : Type 0} (tag : ℕ) (go : List ℕ → Option A) (b : List ℕ) (v : A) → (byte_at b >>= λ (x : ℕ × List ℕ). cond (nat_eq x.0 tag) (go x.1) None) ≡ Some v
    → (x : ℕ × List ℕ) × (byte_at b ≡ Some x) × (go x.1 ≡ Some v)
tagged {A = A} tag go b v e =
    let a = bind_some (byte_at b) (λ (x : ℕ × List ℕ). cond (nat_eq x.0 tag) (go x.1) None) v e in
    (a.0, a.1, taken (nat_eq a.0.0 tag) (go a.0.1) a.2)
  where
    taken : (t : Bool) (r : Option A) → cond t r None ≡ Some v → r ≡ Some v
    taken true r h = h
    taken false r h = absurd cc

pub whole_field_collected : (front b : List ℕ) (t : SigType) → whole.whole_field marked b ≡ Some t → Ends (field_at front b) front (type_tokens t)
unfolding whole.whole_field field_at
whole_field_collected front b t e =
    let p = tagged 0x06 (whole.whole_type marked) b t e in
    let w = whole_type_collected front p.0.1 t p.2 in
    (w.0, rw p.1 w.1)

types_collected : (front b : List ℕ) (ts : List SigType) → whole.whole_types marked b ≡ Some ts → Ends (list_at walk front b) front (flat_map type_tokens ts)
unfolding whole.whole_types
types_collected front b ts e =
    let second : (ℕ × List ℕ) → Option (List SigType) = λ c. whole.all_types_at sub c.0 c.1 max_nodes >>= λ ts. ended ts in
    let a = bind_some (number_at b) second ts e in
    let c = bind_some (whole.all_types_at sub a.0.0 a.0.1 max_nodes) (λ ts. ended ts) ts a.2 in
    (c.0.1, list_collected walk sub (type_collected max_depth) front b a.0 max_nodes c.0 a.1 c.1 ∙ ap (λ (ts : List SigType). given (front ++ flat_map tokens ts) c.0.1) (end_is c.0 ts c.2))

pub whole_locals_collected : (front b : List ℕ) (ts : List SigType) → whole.whole_locals marked b ≡ Some ts → Ends (locals_at front b) front (flat_map type_tokens ts)
unfolding whole.whole_locals locals_at
whole_locals_collected front b ts e =
    let p = tagged 0x07 (whole.whole_types marked) b ts e in
    let w = types_collected front p.0.1 ts p.2 in
    (w.0, rw p.1 w.1)

some_read : (b : List ℕ) (ts : List SigType) → (whole.whole_types marked b >>= whole.some_types) ≡ Some ts → whole.whole_types marked b ≡ Some ts
some_read b ts e =
    let a = bind_some (whole.whole_types marked b) whole.some_types ts e in
    a.1 ∙ kept (nat_eq (length a.0) 0) a.0 a.2
  where
    kept : (t : Bool) (us : List SigType) → cond t None (Some us) ≡ Some ts → Some us ≡ Some ts
    kept true us h = absurd cc
    kept false us h = h

pub whole_instantiation_collected : (front b : List ℕ) (ts : List SigType) → whole.whole_instantiation marked b ≡ Some ts → Ends (locals_at front b) front (flat_map type_tokens ts)
unfolding whole.whole_instantiation locals_at
whole_instantiation_collected front b ts e =
    let p = tagged 0x0A (λ b. whole.whole_types marked b >>= whole.some_types) b ts e in
    let w = types_collected front p.0.1 ts (some_read p.0.1 ts p.2) in
    (w.0, rw p.1 w.1)

-- ---- parameters

-- where fewer types than wanted were read a sentinel stands behind them
short_ends : (count : ℕ) → ((b : List ℕ) (n : ℕ) (x : List SigType × List ℕ × ℕ) → whole.types_at sub count b n ≡ Some x → length x.0 < count → is_at_sentinel x.1 ≡ true)
    → (t : Bool) (b : List ℕ) (n : ℕ) (x : List SigType × List ℕ × ℕ) → is_at_sentinel b ≡ t → cond t (left [] b n) (sub b n >>= more_types walk sub (type_collected max_depth) count) ≡ Some x
    → length x.0 < suc count → is_at_sentinel x.1 ≡ true
short_ends count ih true b n x at e lt =
    let z : List SigType × List ℕ × ℕ = ([], b, n) in
    ap (λ (x : List SigType × List ℕ × ℕ). is_at_sentinel x.1) (sym (some_is z x e)) ∙ at
short_ends count ih false b n x at e lt =
    let a = bind_some (sub b n) (more_types walk sub (type_collected max_depth) count) x e in
    let c = bind_some (whole.types_at sub count a.0.1 a.0.2) (several walk sub (type_collected max_depth) a.0.0) x a.2 in
    let z : List SigType × List ℕ × ℕ = (a.0.0 ∷ c.0.0, c.0.1, c.0.2) in
    let long : length x.0 ≡ suc (length c.0.0) = ap (λ (x : List SigType × List ℕ × ℕ). length x.0) (sym (some_is z x c.2)) in
    ap (λ (x : List SigType × List ℕ × ℕ). is_at_sentinel x.1) (sym (some_is z x c.2)) ∙ ih a.0.1 a.0.2 c.0 c.1 (omega arith)

types_short : (count : ℕ) (b : List ℕ) (n : ℕ) (x : List SigType × List ℕ × ℕ) → whole.types_at sub count b n ≡ Some x → length x.0 < count → is_at_sentinel x.1 ≡ true
types_short zero b n x e lt = absurd (omega arith)
types_short (suc count) b n x e lt = short_ends count (types_short count) (is_at_sentinel b) b n x refl e lt

-- a first type stands where there is no sentinel
no_first : (count : ℕ) (t : Bool) (b : List ℕ) (n : ℕ) (x : List SigType × List ℕ × ℕ) → cond t (left [] b n) (sub b n >>= more_types walk sub (type_collected max_depth) count) ≡ Some x
    → length x.0 ≡ suc count → t ≡ false
no_first count true b n x e long =
    let z : List SigType × List ℕ × ℕ = ([], b, n) in
    let none : length x.0 ≡ 0 = ap (λ (x : List SigType × List ℕ × ℕ). length x.0) (sym (some_is z x e)) in
    absurd (omega arith)
no_first count false b n x e long = refl

-- behind a sentinel it goes on as without one
past_sentinel : (more : ℕ) (front b : List ℕ) (mark : ℕ × List ℕ) (n : ℕ) (o : List SigType × List ℕ × ℕ) → 0 < more → is_at_sentinel b ≡ true → byte_at b ≡ Some mark
    → whole.all_types_at sub more mark.1 n ≡ Some o → types_at walk more front b ≡ types_at walk more front mark.1
past_sentinel zero front b mark n o lt at e f = absurd (omega arith)
past_sentinel (suc more) front [] mark n o lt at e f = absurd cc
past_sentinel (suc more) front (x ∷ b) mark n o lt at e f =
    let z : ℕ × List ℕ = (x, b) in
    let rest : b ≡ mark.1 = ap (λ (y : ℕ × List ℕ). y.1) (some_is z mark e) in
    let p = are_all sub (suc more) mark.1 n o f in
    let long = all_counted sub (suc more) mark.1 n o f in
    let no = no_first more (is_at_sentinel mark.1) mark.1 n o p.read long in
    let behind : behind_sentinel (x ∷ b) ≡ mark.1 = rw at rest in
    let same : behind_sentinel mark.1 ≡ mark.1 = no_sentinel walk sub (type_collected max_depth) mark.1 no in
    ap (λ (r : List ℕ). walk front r >>= λ t. types_at walk more t.0 t.1) (behind ∙ sym same)

flat_both : (ts us : List SigType) → flat_map tokens (ts ++ us) ≡ flat_map tokens ts ++ flat_map tokens us
flat_both [] us = refl
flat_both (t ∷ ts) us = ap (λ (x : List ℕ). tokens t ++ x) (flat_both ts us) ∙ sym (append_assoc (tokens t) (flat_map tokens ts) (flat_map tokens us))

abbrev Params : Type 0
Params = List SigType × Option ℕ × List ℕ × ℕ

abbrev params : List SigType → Option ℕ → List ℕ → ℕ → Option Params
params ps sentinel rest many = Some (ps, sentinel, rest, many)

params_collected : (count : ℕ) (front b : List ℕ) (n : ℕ) (p : Params) → whole.params_at sub count b n ≡ Some p → types_at walk count front b ≡ given (front ++ flat_map tokens p.0) p.2
unfolding whole.params_at
params_collected count front b n p e =
    let next : (List SigType × List ℕ × ℕ) → Option Params = λ f. cond (nat_lt (length f.0) count) (whole.others_at sub count f) (params f.0 None f.1 f.2) in
    let a = bind_some (whole.types_at sub count b n) next p e in
    types_front walk sub (type_collected max_depth) count front b n a.0 a.1 ∙ go a.0 a.1 (few_types sub count b n a.0 a.1) (nat_lt (length a.0.0) count) refl a.2
  where
    go : (x : List SigType × List ℕ × ℕ) → whole.types_at sub count b n ≡ Some x → length x.0 ≤ count → (t : Bool) → nat_lt (length x.0) count ≡ t
        → cond t (whole.others_at sub count x) (params x.0 None x.1 x.2) ≡ Some p
        → types_at walk (count - length x.0) (front ++ flat_map tokens x.0) x.1 ≡ given (front ++ flat_map tokens p.0) p.2
    go x r few true short h =
        let last : (List SigType × List ℕ × ℕ) → Option Params = λ o. params (x.0 ++ o.0) (Some (length x.0)) o.1 o.2 in
        let second : (ℕ × List ℕ) → Option Params = λ m. whole.all_types_at sub (count - length x.0) m.1 x.2 >>= last in
        let c = bind_some (byte_at x.1) second p h in
        let d = bind_some (whole.all_types_at sub (count - length x.0) c.0.1 x.2) last p c.2 in
        let z : Params = (x.0 ++ d.0.0, Some (length x.0), d.0.1, d.0.2) in
        let lt : length x.0 < count = grind (arith, common_steps) in
        let more : 0 < count - length x.0 = omega arith in
        let so_far = front ++ flat_map tokens x.0 in
        past_sentinel (count - length x.0) so_far x.1 c.0 x.2 d.0 more (types_short count b n x r lt) c.1 d.1
        ∙ all_collected walk sub (type_collected max_depth) (count - length x.0) so_far c.0.1 x.2 d.0 d.1
        ∙ ap (λ (f : List ℕ). given f d.0.1) (append_assoc front (flat_map tokens x.0) (flat_map tokens d.0.0) ∙ ap (λ (ts : List ℕ). front ++ ts) (sym (flat_both x.0 d.0.0)))
        ∙ ap (λ (p : Params). given (front ++ flat_map tokens p.0) p.2) (some_is z p d.2)
    go x r few false full h =
        let z : Params = (x.0, None, x.1, x.2) in
        let ge : count ≤ length x.0 = grind (arith, common_steps) in
        let k : count - length x.0 ≡ 0 = omega arith in
        ap (λ (k : ℕ). types_at walk k (front ++ flat_map tokens x.0) x.1) k ∙ ap (λ (p : Params). given (front ++ flat_map tokens p.0) p.2) (some_is z p h)

-- ---- methods and properties

returned_collected : (count : ℕ) (front b rest : List ℕ) (t : SigType × List ℕ × ℕ) (ps : List SigType) → sub b max_nodes ≡ Some t
    → ((f : List ℕ) → types_at walk count f t.1 ≡ given (f ++ flat_map tokens ps) rest) → returned_at count front b ≡ given (front ++ (tokens t.0 ++ flat_map tokens ps)) rest
unfolding returned_at
returned_collected count front b rest t ps e f =
    rw (type_collected max_depth front b max_nodes t e) (f (front ++ tokens t.0)) ∙ ap (λ (f : List ℕ). given f rest) (append_assoc front (tokens t.0) (flat_map tokens ps))

abbrev Call : Type 0
Call = Bool × Bool × Bool × Bool

abbrev sig_of : Call → ℕ → SigType → Params → MethodSig
sig_of call generic ret p = record { has_this = call.1; explicit_this = call.2; vararg = call.0; generic = generic; ret = ret; params = p.0; sentinel = p.1 }

method_start : (front b : List ℕ) (p : ℕ × List ℕ) (q : Call) (r c : ℕ × List ℕ) → byte_at b ≡ Some p → whole.convention_of p.0 ≡ Some q → whole.generics_at q.3 p.1 ≡ Some r → number_at r.1 ≡ Some c
    → method_at front b ≡ returned_at c.0 front c.1
unfolding method_at scan.counts_at scan.is_generic
method_start front b p q r c e f g h = rw (e, f, g, h) refl

pub whole_method_collected : (front b : List ℕ) (s : MethodSig) → whole.whole_method marked b ≡ Some s → Ends (method_at front b) front (sig_tokens s)
unfolding whole.whole_method
whole_method_collected front b s e =
    let sixth : Call → ℕ → SigType → Params → Option MethodSig = λ call g ret p. cond (nat_eq (length p.2) 0) (Some (sig_of call g ret p)) None in
    let fifth : Call → ℕ → ℕ → (SigType × List ℕ × ℕ) → Option MethodSig = λ call g n ret. whole.params_at sub n ret.1 ret.2 >>= sixth call g ret.0 in
    let fourth : Call → ℕ → (ℕ × List ℕ) → Option MethodSig = λ call g c. sub c.1 max_nodes >>= fifth call g c.0 in
    let third : Call → (ℕ × List ℕ) → Option MethodSig = λ call g. number_at g.1 >>= fourth call g.0 in
    let second : List ℕ → Call → Option MethodSig = λ rest call. whole.generics_at call.3 rest >>= third call in
    let first : (ℕ × List ℕ) → Option MethodSig = λ b. whole.convention_of b.0 >>= second b.1 in
    let p = bind_some (byte_at b) first s e in
    let q = bind_some (whole.convention_of p.0.0) (second p.0.1) s p.2 in
    let r = bind_some (whole.generics_at q.0.3 p.0.1) (third q.0) s q.2 in
    let c = bind_some (number_at r.0.1) (fourth q.0 r.0.0) s r.2 in
    let t = bind_some (sub c.0.1 max_nodes) (fifth q.0 r.0.0 c.0.0) s c.2 in
    let a = bind_some (whole.params_at sub c.0.0 t.0.1 t.0.2) (sixth q.0 r.0.0 t.0.0) s t.2 in
    let made = (let_through (nat_eq (length a.0.2) 0) (sig_of q.0 r.0.0 t.0.0 a.0) s a.2).1 in
    let all = returned_collected c.0.0 front c.0.1 a.0.2 t.0 a.0.0 t.1 (λ f. params_collected c.0.0 f t.0.1 t.0.2 a.0 a.1) in
    (a.0.2, method_start front b p.0 q.0 r.0 c.0 p.1 q.1 r.1 c.1 ∙ all ∙ ap (λ (s : MethodSig). given (front ++ sig_tokens s) a.0.2) made)

abbrev property_of : Bool → SigType → List SigType → MethodSig
property_of has_this ret ps = record { has_this = has_this; explicit_this = false; vararg = false; generic = 0; ret = ret; params = ps; sentinel = None }

property_start : (front b : List ℕ) (p : ℕ × List ℕ) (q : Bool) (c : ℕ × List ℕ) → byte_at b ≡ Some p → whole.property_has_this p.0 ≡ Some q → number_at p.1 ≡ Some c
    → property_at front b ≡ returned_at c.0 front c.1
unfolding property_at scan.property_count_at
property_start front b p q c e f g = rw (e, f, g) refl

pub whole_property_collected : (front b : List ℕ) (s : MethodSig) → whole.whole_property marked b ≡ Some s → Ends (property_at front b) front (sig_tokens s)
unfolding whole.whole_property
whole_property_collected front b s e =
    let whole_of : Bool → SigType → (List SigType × List ℕ × ℕ) → MethodSig × List ℕ × ℕ = λ this ret p. (property_of this ret p.0, p.1, p.2) in
    let fifth : Bool → SigType → (List SigType × List ℕ × ℕ) → Option MethodSig = λ this ret p. ended (whole_of this ret p) in
    let fourth : Bool → ℕ → (SigType × List ℕ × ℕ) → Option MethodSig = λ this n ret. whole.all_types_at sub n ret.1 ret.2 >>= fifth this ret.0 in
    let third : Bool → (ℕ × List ℕ) → Option MethodSig = λ this c. sub c.1 max_nodes >>= fourth this c.0 in
    let second : List ℕ → Bool → Option MethodSig = λ rest this. number_at rest >>= third this in
    let first : (ℕ × List ℕ) → Option MethodSig = λ b. whole.property_has_this b.0 >>= second b.1 in
    let p = bind_some (byte_at b) first s e in
    let q = bind_some (whole.property_has_this p.0.0) (second p.0.1) s p.2 in
    let c = bind_some (number_at p.0.1) (third q.0) s q.2 in
    let t = bind_some (sub c.0.1 max_nodes) (fourth q.0 c.0.0) s c.2 in
    let a = bind_some (whole.all_types_at sub c.0.0 t.0.1 t.0.2) (fifth q.0 t.0.0) s t.2 in
    let made = end_is (whole_of q.0 t.0.0 a.0) s a.2 in
    let all = returned_collected c.0.0 front c.0.1 a.0.1 t.0 a.0.0 t.1 (λ f. all_collected walk sub (type_collected max_depth) c.0.0 f t.0.1 t.0.2 a.0 a.1) in
    (a.0.1, property_start front b p.0 q.0 c.0 p.1 q.1 c.1 ∙ all ∙ ap (λ (s : MethodSig). given (front ++ sig_tokens s) a.0.1) made)
