-- What a walk along a signature finds is what decides the size of the type that it spells.
use Rattle.std.proofs.Common.{◌≡◌, ◌≢◌, ℕ, zero, suc, ◌-◌, Bool, true, false, List, [], ◌∷◌, length, Option, Some, None, cond, nat_eq, refl, sym, ap, subst, ◌∙◌, arith}
use Rattle.type_terms.specs.declared.name.TypeName.{TypeName}
use Rattle.type_terms.specs.declared.term.Primitive.{Primitive}
use Rattle.type_terms.specs.declared.term.Owner.{Owner}
use Rattle.type_terms.specs.declared.term.Owner.TheOpen as layer
use Rattle.type_terms.specs.declared.term.Owner.TheVariants as owner
use Rattle.type_terms.specs.declared.term.SigType.{SigType, out-SigType}
use Rattle.type_terms.specs.declared.term.SigType.TheVariants as type
use Rattle.assembly_tree.specs.DataSize.{primitive_size}
use Rattle.image_model.specs.Members.{HasDataSize}
use Rattle.sig_codec.specs.declared.element.Element.{Element}
use Rattle.sig_codec.specs.declared.element.Element.TheVariants as element
use Rattle.sig_codec.specs.Reading as whole
use Rattle.sig_codec.specs.Reading.{◌>>=◌, TypeStep, byte_at, number_at, element_of, name_of, is_declared, after_owner}
use Rattle.sig_codec.specs.Signature.{IsField, max_depth, max_nodes}
use Rattle.sig_codec.specs.Tokens.{token_of_coded}
use Rattle.sig_codec.proofs.Numbers.{some_is, bind_some}
use Rattle.sig_codec.proofs.Whole.{whole_field_again}
use Rattle.field_data.specs.declared.kinds.DataKind.{DataKind}
use Rattle.field_data.specs.declared.kinds.DataKind.TheVariants as kind
use Rattle.field_data.specs.Kinds.{HasLayoutSize, IsOfKind}
use Rattle.field_data.specs.Walking.{sized, token_at, KindStep, value_at, behind_token, parts_at, kind_at, field_kind}

pub nothing_left : (depth : ℕ) (bytes : List ℕ) → depth ≡ 0 → kind_at depth bytes ≡ None
unfolding kind_at
nothing_left zero bytes e = refl
nothing_left (suc depth) bytes e = absurd cc

-- a type's element, and then its parts
pub first_step : (depth : ℕ) (bytes : List ℕ) → depth ≢ 0 → kind_at depth bytes ≡ (byte_at bytes >>= λ b. element_of b.0 >>= λ e. parts_at (kind_at (depth - 1)) e b.1)
unfolding kind_at
first_step zero bytes d = absurd (d refl)
first_step (suc depth) bytes d =
    let a : suc depth - 1 ≡ depth = omega arith in
    rw a refl

then_some : {A B : Type 0} (r : Option A) (f : A → Option B) (x : A) (y : Option B) → r ≡ Some x → f x ≡ y → (r >>= f) ≡ y
then_some r f x y e g = ap (λ q. q >>= f) e ∙ g

abbrev Layer : Type 0
Layer = layer.SigType-F Owner SigType

module _ (image : List ℕ) where
  -- the sizes of a type, by its outermost layer
  abbrev LayerSize : Layer → ℕ → Type 0
  LayerSize (layer.Prim p) size = primitive_size p ≡ Some size
  LayerSize (layer.Value name) size = HasLayoutSize image name size
  LayerSize (layer.Mod required by of) size = HasDataSize image of size
  LayerSize (layer.Class name) size = ⊥
  LayerSize (layer.Inst value name args) size = ⊥
  LayerSize (layer.Var n) size = ⊥
  LayerSize (layer.MVar n) size = ⊥
  LayerSize (layer.SzArray of) size = ⊥
  LayerSize (layer.Array of rank sizes lower) size = ⊥
  LayerSize (layer.ByRef of) size = ⊥
  LayerSize (layer.Pointer of) size = ⊥
  LayerSize (layer.Pinned of) size = ⊥

  by_layer : (t : SigType) (l : Layer) (size : ℕ) → out-SigType t ≡ l → HasDataSize image t size → LayerSize l size
  by_layer t l size o (HasDataSize.primitive e s) = subst (λ (m : Layer). LayerSize m size) (sym e ∙ o) s
  by_layer t l size o (HasDataSize.value {path = path} {type = row} {layout = layout} e there named has is some) =
      subst (λ (m : Layer). LayerSize m size) (sym e ∙ o)
      (record { path = path; type = row; layout = layout; is = refl; there = there; named = named; has = has; size_is = is; some = some })
  by_layer t l size o (HasDataSize.modified e h) = subst (λ (m : Layer). LayerSize m size) (sym e ∙ o) h

  from_layer : (t : SigType) (l : Layer) (size : ℕ) → out-SigType t ≡ l → LayerSize l size → HasDataSize image t size
  from_layer t (layer.Prim p) size o s = HasDataSize.primitive o s
  from_layer t (layer.Value name) size o h = HasDataSize.value (o ∙ ap layer.Value h.is) h.there h.named h.has h.size_is h.some
  from_layer t (layer.Mod required by of) size o h = HasDataSize.modified o h
  from_layer t (layer.Class name) size o h = absurd h
  from_layer t (layer.Inst value name args) size o h = absurd h
  from_layer t (layer.Var n) size o h = absurd h
  from_layer t (layer.MVar n) size o h = absurd h
  from_layer t (layer.SzArray of) size o h = absurd h
  from_layer t (layer.Array of rank sizes lower) size o h = absurd h
  from_layer t (layer.ByRef of) size o h = absurd h
  from_layer t (layer.Pointer of) size o h = absurd h
  from_layer t (layer.Pinned of) size o h = absurd h

  module _ (owners : ℕ → Option Owner) where
    abbrev Is : SigType → DataKind → Type 0
    Is = IsOfKind image owners

    of_primitive : (t : SigType) (p : Primitive) → out-SigType t ≡ layer.Prim p → (r : Option ℕ) → primitive_size p ≡ r → Is t (sized r)
    of_primitive t p o None e = λ size h. absurd (let k = by_layer t (layer.Prim p) size o h in cc)
    of_primitive t p o (Some width) e = λ size. (
      λ h. some_is size width (sym (by_layer t (layer.Prim p) size o h) ∙ e),
      λ same. from_layer t (layer.Prim p) size o (e ∙ ap (λ (n : ℕ). Some n) (sym same)),
    )

    of_value : (t : SigType) (name : TypeName) (token : ℕ) → out-SigType t ≡ layer.Value name → owners token ≡ Some (owner.Name name) → Is t (kind.Value token)
    of_value t name token o e = (name, e, λ size. (by_layer t (layer.Value name) size o, from_layer t (layer.Value name) size o))

    of_modified : (t of : SigType) (required : Bool) (by : Owner) (k : DataKind) → out-SigType t ≡ layer.Mod required by of → Is of k → Is t k
    of_modified t of required by (kind.Bytes width) o is = λ size. (
      λ h. (is size).0 (by_layer t (layer.Mod required by of) size o h),
      λ same. from_layer t (layer.Mod required by of) size o ((is size).1 same),
    )
    of_modified t of required by (kind.Value token) o is = (
      is.0,
      is.1,
      λ size. (
        λ h. (is.2 size).0 (by_layer t (layer.Mod required by of) size o h),
        λ has. from_layer t (layer.Mod required by of) size o ((is.2 size).1 has),
      ),
    )
    of_modified t of required by kind.Sizeless o is = λ size h. is size (by_layer t (layer.Mod required by of) size o h)

    sizeless : (t : SigType) (l : Layer) → out-SigType t ≡ l → ((size : ℕ) → LayerSize l size → ⊥) → Is t kind.Sizeless
    sizeless t l o none = λ size h. none size (by_layer t l size o h)

    -- what was found at the end of a type
    abbrev Found : Option DataKind → SigType → Type 0
    Found r t = (k : DataKind) × (r ≡ Some k) × Is t k

    found_as : (r : Option DataKind) (t u : SigType) → t ≡ u → Found r t → Found r u
    found_as r t u e f = subst (λ (x : SigType). Found r x) e f

    abbrev read : SigType → List ℕ → ℕ → SigType × List ℕ × ℕ
    read t rest many = (t, rest, many)

    read_is : (t : SigType) (rest : List ℕ) (many : ℕ) (x : SigType × List ℕ × ℕ) → Some (read t rest many) ≡ Some x → t ≡ x.0
    read_is t rest many x e = ap (λ (y : SigType × List ℕ × ℕ). y.0) (some_is (read t rest many) x e)

    nothing : (t u : SigType) (l : Layer) → out-SigType t ≡ l → ((size : ℕ) → LayerSize l size → ⊥) → t ≡ u → Found (Some kind.Sizeless) u
    nothing t u l o none e = found_as (Some kind.Sizeless) t u e (kind.Sizeless, refl, sizeless t l o none)

    boxed : (sub : TypeStep) (make : SigType → SigType) (lay : SigType → Layer) → ((t : SigType) → out-SigType (make t) ≡ lay t) → ((t : SigType) (size : ℕ) → LayerSize (lay t) size → ⊥)
        → (b : List ℕ) (n : ℕ) (x : SigType × List ℕ × ℕ) → whole.boxed_at sub make b n ≡ Some x → Found (Some kind.Sizeless) x.0
    boxed sub make lay outs none b n x e =
        let a = bind_some (sub b n) (λ (t : SigType × List ℕ × ℕ). Some (read (make t.0) t.1 t.2)) x e in
        nothing (make a.0.0) x.0 (lay a.0.0) (outs a.0.0) (none a.0.0) (read_is (make a.0.0) a.0.1 a.0.2 x a.2)

    numbered : (make : ℕ → SigType) (lay : ℕ → Layer) → ((t : ℕ) → out-SigType (make t) ≡ lay t) → ((t : ℕ) (size : ℕ) → LayerSize (lay t) size → ⊥)
        → (b : List ℕ) (n : ℕ) (x : SigType × List ℕ × ℕ) → whole.numbered_at make b n ≡ Some x → Found (Some kind.Sizeless) x.0
    numbered make lay outs none b n x e =
        let a = bind_some (whole.variable_at b) (λ (v : ℕ × List ℕ). Some (read (make v.0) v.1 n)) x e in
        nothing (make a.0.0) x.0 (lay a.0.0) (outs a.0.0) (none a.0.0) (read_is (make a.0.0) a.0.1 n x a.2)

    class : (b : List ℕ) (n : ℕ) (x : SigType × List ℕ × ℕ) → whole.named_at owners type.Class b n ≡ Some x → Found (Some kind.Sizeless) x.0
    class b n x e =
        let a = bind_some (whole.declared_at owners b) (λ (v : TypeName × List ℕ). Some (read (type.Class v.0) v.1 n)) x e in
        nothing (type.Class a.0.0) x.0 (layer.Class a.0.0) (type.outs-Class a.0.0) (λ size h. h) (read_is (type.Class a.0.0) a.0.1 n x a.2)

    array : (sub : TypeStep) (b : List ℕ) (n : ℕ) (x : SigType × List ℕ × ℕ) → whole.array_at sub b n ≡ Some x → Found (Some kind.Sizeless) x.0
    unfolding whole.array_at
    array sub b n x e =
        let a = bind_some (sub b n) (λ t. whole.shape_at t.1 >>= λ s. Some (read (type.Array t.0 s.0 s.1 s.2) s.3 t.2)) x e in
        let c = bind_some (whole.shape_at a.0.1) (λ s. Some (read (type.Array a.0.0 s.0 s.1 s.2) s.3 a.0.2)) x a.2 in
        nothing (type.Array a.0.0 c.0.0 c.0.1 c.0.2) x.0 (layer.Array a.0.0 c.0.0 c.0.1 c.0.2) (type.outs-Array a.0.0 c.0.0 c.0.1 c.0.2) (λ size h. h)
        (read_is (type.Array a.0.0 c.0.0 c.0.1 c.0.2) c.0.3 a.0.2 x c.2)

    inst : (sub : TypeStep) (b : List ℕ) (n : ℕ) (x : SigType × List ℕ × ℕ) → whole.inst_at owners sub b n ≡ Some x → Found (Some kind.Sizeless) x.0
    unfolding whole.inst_at
    inst sub b n x e =
        let a = bind_some (whole.generic_at owners b) (λ h. whole.all_types_at sub h.2 h.3 n >>= λ s. Some (read (type.Inst h.0 h.1 s.0) s.1 s.2)) x e in
        let c = bind_some (whole.all_types_at sub a.0.2 a.0.3 n) (λ s. Some (read (type.Inst a.0.0 a.0.1 s.0) s.1 s.2)) x a.2 in
        nothing (type.Inst a.0.0 a.0.1 c.0.0) x.0 (layer.Inst a.0.0 a.0.1 c.0.0) (type.outs-Inst a.0.0 a.0.1 c.0.0) (λ size h. h)
        (read_is (type.Inst a.0.0 a.0.1 c.0.0) c.0.1 c.0.2 x c.2)

    -- an owner's token, with what it names
    owner_is : (b : List ℕ) (o : ℕ × Owner × List ℕ) → whole.owner_at owners b ≡ Some o → (owners o.0 ≡ Some o.1) × (token_at b ≡ Some (o.0, o.2))
    unfolding whole.owner_at token_at
    owner_is b o e =
        let own : ℕ → Owner → List ℕ → ℕ × Owner × List ℕ = λ t w rest. (t, w, rest) in
        let a = bind_some (number_at b) (λ n. token_of_coded n.0 >>= λ t. owners t >>= λ w. Some (own t w n.1)) o e in
        let c = bind_some (token_of_coded a.0.0) (λ t. owners t >>= λ w. Some (own t w a.0.1)) o a.2 in
        let d = bind_some (owners c.0) (λ w. Some (own c.0 w a.0.1)) o c.2 in
        let is : own c.0 d.0 a.0.1 ≡ o = some_is (own c.0 d.0 a.0.1) o d.2 in
        let pair : ℕ → List ℕ → ℕ × List ℕ = λ t rest. (t, rest) in
        let met : (number_at b >>= λ n. token_of_coded n.0 >>= λ t. Some (pair t n.1)) ≡ Some (pair c.0 a.0.1)
        = then_some (number_at b) (λ n. token_of_coded n.0 >>= λ t. Some (pair t n.1)) a.0 (Some (pair c.0 a.0.1)) a.1
        (then_some (token_of_coded a.0.0) (λ t. Some (pair t a.0.1)) c.0 (Some (pair c.0 a.0.1)) c.1 refl) in (
          subst (λ (q : ℕ × Owner × List ℕ). owners q.0 ≡ Some q.1) is d.1,
          met ∙ ap (λ (q : ℕ × Owner × List ℕ). Some (pair q.0 q.2)) is,
        )

    name_is : (o : Owner) (name : TypeName) → name_of o ≡ Some name → o ≡ owner.Name name
    name_is (owner.Name n) name e = ap (λ (m : TypeName). owner.Name m) (some_is n name e)
    name_is (owner.Spec t) name e = absurd cc

    kept : {A : Type 0} (c : Bool) (r : Option A) (x : A) → cond c r None ≡ Some x → r ≡ Some x
    kept true r x e = e
    kept false r x e = absurd cc

    value : (b : List ℕ) (n : ℕ) (x : SigType × List ℕ × ℕ) → whole.named_at owners type.Value b n ≡ Some x → Found (value_at b) x.0
    unfolding whole.declared_at
    value b n x e =
        let named : TypeName → List ℕ → TypeName × List ℕ = λ m rest. (m, rest) in
        let a = bind_some (whole.declared_at owners b) (λ (v : TypeName × List ℕ). Some (read (type.Value v.0) v.1 n)) x e in
        let o = bind_some (whole.owner_at owners b) (λ o. name_of o.1 >>= λ m. cond (is_declared o.0) (Some (named m o.2)) None) a.0 a.1 in
        let m = bind_some (name_of o.0.1) (λ m. cond (is_declared o.0.0) (Some (named m o.0.2)) None) a.0 o.2 in
        let is = ap (λ (v : TypeName × List ℕ). v.0) (some_is (named m.0 o.0.2) a.0 (kept (is_declared o.0.0) (Some (named m.0 o.0.2)) a.0 m.2)) in
        let w = owner_is b o.0 o.1 in
        let names : owners o.0.0 ≡ Some (owner.Name a.0.0) = w.0 ∙ ap (λ (q : Owner). Some q) (name_is o.0.1 m.0 m.1 ∙ ap (λ (q : TypeName). owner.Name q) is) in
        let there = then_some (token_at b) (λ t. Some (kind.Value t.0)) (o.0.0, o.0.2) (Some (kind.Value o.0.0)) w.1 refl in
        found_as (value_at b) (type.Value a.0.0) x.0 (read_is (type.Value a.0.0) a.0.1 n x a.2)
        (kind.Value o.0.0, there, of_value (type.Value a.0.0) a.0.0 o.0.0 (type.outs-Value a.0.0) names)

    -- steps that read a type, and what decides its size
    abbrev Agree : TypeStep → KindStep → Type 0
    Agree sub kinds = (b : List ℕ) (n : ℕ) (x : SigType × List ℕ × ℕ) → sub b n ≡ Some x → Found (kinds b) x.0

    modified : (sub : TypeStep) (kinds : KindStep) → Agree sub kinds → (limit : ℕ) (required : Bool) (b : List ℕ) (n : ℕ) (x : SigType × List ℕ × ℕ)
        → whole.modified_at owners sub limit required b n ≡ Some x → Found (behind_token kinds b) x.0
    unfolding whole.modified_at
    modified sub kinds agree limit required b n x e =
        let o = bind_some (whole.owner_at owners b) (λ o. after_owner o.1 limit n >>= λ left. sub o.2 left >>= λ t. Some (read (type.Mod required o.1 t.0) t.1 t.2)) x e in
        let l = bind_some (after_owner o.0.1 limit n) (λ left. sub o.0.2 left >>= λ t. Some (read (type.Mod required o.0.1 t.0) t.1 t.2)) x o.2 in
        let t = bind_some (sub o.0.2 l.0) (λ t. Some (read (type.Mod required o.0.1 t.0) t.1 t.2)) x l.2 in
        let k = agree o.0.2 l.0 t.0 t.1 in
        let there = then_some (token_at b) (λ t. kinds t.1) (o.0.0, o.0.2) (Some k.0) (owner_is b o.0 o.1).1 k.1 in
        let made = type.Mod required o.0.1 t.0.0 in
        found_as (behind_token kinds b) made x.0 (read_is made t.0.1 t.0.2 x t.2)
        (k.0, there, of_modified made t.0.0 required o.0.1 k.0 (type.outs-Mod required o.0.1 t.0.0) k.2)

    parts : (sub : TypeStep) (kinds : KindStep) → Agree sub kinds → (depth : ℕ) (e : Element) (b : List ℕ) (n : ℕ) (x : SigType × List ℕ × ℕ)
        → whole.parts_at owners sub depth e b n ≡ Some x → Found (parts_at kinds e b) x.0
    parts sub kinds agree depth (element.Prim p) b n x e =
        found_as (Some (sized (primitive_size p))) (type.Prim p) x.0 (read_is (type.Prim p) b n x e)
        (sized (primitive_size p), refl, of_primitive (type.Prim p) p (type.outs-Prim p) (primitive_size p) refl)
    parts sub kinds agree depth element.Pointer b n x e = boxed sub type.Pointer layer.Pointer type.outs-Pointer (λ t size h. h) b n x e
    parts sub kinds agree depth element.ByRef b n x e = boxed sub type.ByRef layer.ByRef type.outs-ByRef (λ t size h. h) b n x e
    parts sub kinds agree depth element.Value b n x e = value b n x e
    parts sub kinds agree depth element.Class b n x e = class b n x e
    parts sub kinds agree depth element.Var b n x e = numbered type.Var layer.Var type.outs-Var (λ t size h. h) b n x e
    parts sub kinds agree depth element.Array b n x e = array sub b n x e
    parts sub kinds agree depth element.Inst b n x e = inst sub b n x e
    parts sub kinds agree depth element.SzArray b n x e = boxed sub type.SzArray layer.SzArray type.outs-SzArray (λ t size h. h) b n x e
    parts sub kinds agree depth element.MVar b n x e = numbered type.MVar layer.MVar type.outs-MVar (λ t size h. h) b n x e
    parts sub kinds agree depth element.Required b n x e = modified sub kinds agree depth true b n x e
    parts sub kinds agree depth element.Optional b n x e = modified sub kinds agree depth false b n x e
    parts sub kinds agree depth element.Pinned b n x e = boxed sub type.Pinned layer.Pinned type.outs-Pinned (λ t size h. h) b n x e

    types : (depth : ℕ) → Agree (whole.type_at owners depth) (kind_at depth)
    unfolding whole.type_at kind_at
    types zero b n x e = absurd cc
    types (suc depth) b zero x e = absurd cc
    types (suc depth) b (suc n) x e =
        let sub = whole.type_at owners depth in
        let a = bind_some (byte_at b) (λ f. element_of f.0 >>= λ g. whole.parts_at owners sub depth g f.1 n) x e in
        let c = bind_some (element_of a.0.0) (λ g. whole.parts_at owners sub depth g a.0.1 n) x a.2 in
        let k = parts sub (kind_at depth) (types depth) depth c.0 a.0.1 n x c.2 in (
          k.0,
          then_some (byte_at b) (λ f. element_of f.0 >>= λ g. parts_at (kind_at depth) g f.1) a.0 (Some k.0) a.1
              (then_some (element_of a.0.0) (λ g. parts_at (kind_at depth) g a.0.1) c.0 (Some k.0) c.1 k.1),
          k.2,
        )

    whole_type : (b : List ℕ) (t : SigType) → whole.whole_type owners b ≡ Some t → Found (kind_at max_depth b) t
    unfolding whole.whole_type
    whole_type b t e =
        let a = bind_some (whole.type_at owners max_depth b max_nodes) (λ x. whole.ended x) t e in
        let is : a.0.0 ≡ t = some_is a.0.0 t (kept (nat_eq (length a.0.1) 0) (Some a.0.0) t a.2) in
        found_as (kind_at max_depth b) a.0.0 t is (types max_depth b max_nodes a.0 a.1)

    picked : {A B : Type 0} (c : Bool) (r : Option A) (s : Option B) (x : A) (P : Option B → Type 0) → cond c r None ≡ Some x → (r ≡ Some x → P s) → P (cond c s None)
    picked true r s x P e f = f e
    picked false r s x P e f = absurd cc

    field : (b : List ℕ) (t : SigType) → whole.whole_field owners b ≡ Some t → Found (field_kind b) t
    unfolding whole.whole_field field_kind
    field [] t e = absurd cc
    field (f ∷ b) t e = picked (nat_eq f 0x06) (whole.whole_type owners b) (kind_at max_depth b) t (λ r. Found r t) e (whole_type b t)

    -- what decides the size of a field's data is found
    pub field_is : (b : List ℕ) (t : SigType) → IsField owners b t → (k : DataKind) × (field_kind b ≡ Some k) × IsOfKind image owners t k
    field_is b t is = field b t (whole_field_again owners b t is)
