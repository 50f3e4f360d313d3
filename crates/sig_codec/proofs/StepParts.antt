-- What the parts were where a step of a decoder gave a value: each step is undone, one record for each.
use Rattle.std.proofs.Common.{◌≡◌, ℕ, suc, ◌^◌, Bool, true, false, cond, nat_lt, nat_eq, ℤ, List, length, Option, Some, None, refl, ap, subst, ◌∙◌}
use Rattle.type_terms.specs.declared.name.TypeName.{TypeName}
use Rattle.type_terms.specs.declared.term.Owner.{Owner, Name}
use Rattle.type_terms.specs.declared.term.SigType.{SigType}
use Rattle.type_terms.specs.declared.term.SigType.TheVariants as type
use Rattle.sig_codec.specs.declared.element.Element.{Element}
use Rattle.sig_codec.specs.Tokens.{token_of_coded}
use Rattle.sig_codec.specs.Reading.{◌>>=◌, Step, Read, TypeStep, byte_at, number_at, signed_at, each_at, counted_at, owner_at, name_of, is_declared, declared_at, element_of, types_at, all_types_at, boxed_at, variable_at, shape_at, array_at, kind_at, generic_at, inst_at, after_owner, modified_at, parts_at, type_at}
use Rattle.sig_codec.proofs.Numbers.{some_is, bind_some}
use Rattle.sig_codec.proofs.Parts.{name_is}

-- what was chosen where None was the other choice
pub let_through : {A : Type 0} (b : Bool) (x y : A) → cond b (Some x) None ≡ Some y → (b ≡ true) × (x ≡ y)
let_through true x y e = (cc, some_is x y e)
let_through false x y e = absurd cc

pub kept_out : {A : Type 0} (b : Bool) (r : Option A) (y : A) → cond b None r ≡ Some y → (b ≡ false) × (r ≡ Some y)
kept_out true r y e = absurd cc
kept_out false r y e = (cc, e)

-- ---- numbers

pub record IsCounted {X : Type 0} (step : List ℕ → Step X) (limit : ℕ) (bytes : List ℕ) (x : List X × List ℕ) : Type 0 where
  pub count : ℕ × List ℕ
  pub counted : number_at bytes ≡ Some count
  pub few : nat_lt limit count.0 ≡ false
  pub each : each_at step count.0 count.1 ≡ Some x

pub is_counted : {X : Type 0} (step : List ℕ → Step X) (limit : ℕ) (bytes : List ℕ) (x : List X × List ℕ) → counted_at step limit bytes ≡ Some x → IsCounted step limit bytes x
unfolding counted_at
is_counted step limit bytes x e =
    let a = bind_some (number_at bytes) (λ n. cond (nat_lt limit n.0) None (each_at step n.0 n.1)) x e in
    let b = kept_out (nat_lt limit a.0.0) (each_at step a.0.0 a.0.1) x a.2 in
    record { count = a.0; counted = a.1; few = b.0; each = b.1 }

pub record IsVariable (bytes : List ℕ) (x : ℕ × List ℕ) : Type 0 where
  pub counted : number_at bytes ≡ Some x
  pub small : nat_lt x.0 (2 ^ 16) ≡ true

pub is_variable : (bytes : List ℕ) (x : ℕ × List ℕ) → variable_at bytes ≡ Some x → IsVariable bytes x
unfolding variable_at
is_variable bytes x e =
    let a = bind_some (number_at bytes) (λ n. cond (nat_lt n.0 (2 ^ 16)) (Some (n.0, n.1)) None) x e in
    let z : ℕ × List ℕ = (a.0.0, a.0.1) in
    let b = let_through (nat_lt a.0.0 (2 ^ 16)) z x a.2 in
    subst (IsVariable bytes) b.1 (record { counted = a.1; small = b.0 })

-- ---- owners and names

pub record IsOwned (owners : ℕ → Option Owner) (bytes : List ℕ) (x : ℕ × Owner × List ℕ) : Type 0 where
  pub number : ℕ × List ℕ
  pub counted : number_at bytes ≡ Some number
  pub token : token_of_coded number.0 ≡ Some x.0
  pub named : owners x.0 ≡ Some x.1
  pub rest : number.1 ≡ x.2

pub is_owned : (owners : ℕ → Option Owner) (bytes : List ℕ) (x : ℕ × Owner × List ℕ) → owner_at owners bytes ≡ Some x → IsOwned owners bytes x
unfolding owner_at
is_owned owners bytes x e =
    let a = bind_some (number_at bytes) (λ n. token_of_coded n.0 >>= λ t. owners t >>= λ o. Some (t, o, n.1)) x e in
    let b = bind_some (token_of_coded a.0.0) (λ t. owners t >>= λ o. Some (t, o, a.0.1)) x a.2 in
    let c = bind_some (owners b.0) (λ o. Some (b.0, o, a.0.1)) x b.2 in
    let z : ℕ × Owner × List ℕ = (b.0, c.0, a.0.1) in
    subst (IsOwned owners bytes) (some_is z x c.2) (record { number = a.0; counted = a.1; token = b.1; named = c.1; rest = refl })

-- a name with a token of the tables TypeRef and TypeDef
pub record IsDeclaredName (owners : ℕ → Option Owner) (bytes : List ℕ) (x : TypeName × List ℕ) : Type 0 where
  pub token : ℕ
  pub owned : owner_at owners bytes ≡ Some (token, Name x.0, x.1)
  pub declared : is_declared token ≡ true

pub is_declared_name : (owners : ℕ → Option Owner) (bytes : List ℕ) (x : TypeName × List ℕ) → declared_at owners bytes ≡ Some x → IsDeclaredName owners bytes x
unfolding declared_at
is_declared_name owners bytes x e =
    let a = bind_some (owner_at owners bytes) (λ o. name_of o.1 >>= λ n. cond (is_declared o.0) (Some (n, o.2)) None) x e in
    let b = bind_some (name_of a.0.1) (λ n. cond (is_declared a.0.0) (Some (n, a.0.2)) None) x a.2 in
    let z : TypeName × List ℕ = (b.0, a.0.2) in
    let c = let_through (is_declared a.0.0) z x b.2 in
    let owned : owner_at owners bytes ≡ Some (a.0.0, Name b.0, a.0.2) = a.1 ∙ ap (λ (o : Owner). Some (a.0.0, o, a.0.2)) (name_is owners a.0.1 b.0 b.1) in
    subst (IsDeclaredName owners bytes) c.1 (record { token = a.0.0; owned = owned; declared = c.0 })

-- a generic type up to its arguments
pub record IsHead (owners : ℕ → Option Owner) (bytes : List ℕ) (x : Bool × TypeName × ℕ × List ℕ) : Type 0 where
  pub kind : List ℕ
  pub token : ℕ
  pub count : List ℕ
  pub value : kind_at bytes ≡ Some (x.0, kind)
  pub owned : owner_at owners kind ≡ Some (token, Name x.1, count)
  pub counted : number_at count ≡ Some (x.2, x.3)
  pub some : nat_eq x.2 0 ≡ false

pub is_head : (owners : ℕ → Option Owner) (bytes : List ℕ) (x : Bool × TypeName × ℕ × List ℕ) → generic_at owners bytes ≡ Some x → IsHead owners bytes x
unfolding generic_at
is_head owners bytes x e =
    let last : Bool → List ℕ → TypeName → ℕ → Option (Bool × TypeName × ℕ × List ℕ) = λ kind after m n. cond (nat_eq n 0) None (Some (kind, m, n, after)) in
    let third : Bool → Owner → (ℕ × List ℕ) → Option (Bool × TypeName × ℕ × List ℕ) = λ kind o n. name_of o >>= λ m. last kind n.1 m n.0 in
    let second : Bool → (ℕ × Owner × List ℕ) → Option (Bool × TypeName × ℕ × List ℕ) = λ kind o. number_at o.2 >>= λ n. third kind o.1 n in
    let first : (Bool × List ℕ) → Option (Bool × TypeName × ℕ × List ℕ) = λ kind. owner_at owners kind.1 >>= λ o. second kind.0 o in
    let a = bind_some (kind_at bytes) first x e in
    let b = bind_some (owner_at owners a.0.1) (second a.0.0) x a.2 in
    let c = bind_some (number_at b.0.2) (third a.0.0 b.0.1) x b.2 in
    let d = bind_some (name_of b.0.1) (λ m. last a.0.0 c.0.1 m c.0.0) x c.2 in
    let z : Bool × TypeName × ℕ × List ℕ = (a.0.0, d.0, c.0.0, c.0.1) in
    let f = kept_out (nat_eq c.0.0 0) (Some z) x d.2 in
    let owned : owner_at owners a.0.1 ≡ Some (b.0.0, Name d.0, b.0.2) = b.1 ∙ ap (λ (o : Owner). Some (b.0.0, o, b.0.2)) (name_is owners b.0.1 d.0 d.1) in
    subst (IsHead owners bytes) (some_is z x f.1) (record { kind = a.0.1; token = b.0.0; count = b.0.2; value = a.1; owned = owned; counted = c.1; some = f.0 })

-- ---- shapes of arrays

pub record IsShaped (bytes : List ℕ) (x : ℕ × List ℕ × List ℤ × List ℕ) : Type 0 where
  pub rank : List ℕ
  pub sizes : List ℕ
  pub ranked : number_at bytes ≡ Some (x.0, rank)
  pub some : nat_eq x.0 0 ≡ false
  pub sized : counted_at number_at x.0 rank ≡ Some (x.1, sizes)
  pub bounded : counted_at signed_at x.0 sizes ≡ Some (x.2, x.3)

pub is_shaped : (bytes : List ℕ) (x : ℕ × List ℕ × List ℤ × List ℕ) → shape_at bytes ≡ Some x → IsShaped bytes x
unfolding shape_at
is_shaped bytes x e =
    let third : ℕ → List ℕ → (List ℤ × List ℕ) → Option (ℕ × List ℕ × List ℤ × List ℕ) = λ rank sizes lower. Some (rank, sizes, lower.0, lower.1) in
    let second : ℕ → (List ℕ × List ℕ) → Option (ℕ × List ℕ × List ℤ × List ℕ) = λ rank sizes. counted_at signed_at rank sizes.1 >>= third rank sizes.0 in
    let rest : (ℕ × List ℕ) → Option (ℕ × List ℕ × List ℤ × List ℕ) = λ rank. counted_at number_at rank.0 rank.1 >>= second rank.0 in
    let a = bind_some (number_at bytes) (λ rank. cond (nat_eq rank.0 0) None (rest rank)) x e in
    let b = kept_out (nat_eq a.0.0 0) (rest a.0) x a.2 in
    let c = bind_some (counted_at number_at a.0.0 a.0.1) (second a.0.0) x b.1 in
    let d = bind_some (counted_at signed_at a.0.0 c.0.1) (third a.0.0 c.0.0) x c.2 in
    let z : ℕ × List ℕ × List ℤ × List ℕ = (a.0.0, c.0.0, d.0.0, d.0.1) in
    subst (IsShaped bytes) (some_is z x d.2) (record { rank = a.0.1; sizes = c.0.1; ranked = a.1; some = b.0; sized = c.1; bounded = d.1 })

-- ---- types, by a step that reads the types in them

module _ (sub : TypeStep) where
  -- a type made of one other
  pub record IsBoxed (make : SigType → SigType) (bytes : List ℕ) (nodes : ℕ) (x : SigType × List ℕ × ℕ) : Type 0 where
    pub of : SigType
    pub read : sub bytes nodes ≡ Some (of, x.1, x.2)
    pub made : make of ≡ x.0

  pub is_boxed : (make : SigType → SigType) (bytes : List ℕ) (nodes : ℕ) (x : SigType × List ℕ × ℕ) → boxed_at sub make bytes nodes ≡ Some x → IsBoxed make bytes nodes x
  is_boxed make bytes nodes x e =
      let a = bind_some (sub bytes nodes) (λ t. Some (make t.0, t.1, t.2)) x e in
      let z : SigType × List ℕ × ℕ = (make a.0.0, a.0.1, a.0.2) in
      subst (IsBoxed make bytes nodes) (some_is z x a.2) (record { of = a.0.0; read = a.1; made = refl })

  -- so many types, and no fewer
  pub record AreAll (count : ℕ) (bytes : List ℕ) (nodes : ℕ) (x : List SigType × List ℕ × ℕ) : Type 0 where
    pub read : types_at sub count bytes nodes ≡ Some x
    pub full : nat_lt (length x.0) count ≡ false

  pub are_all : (count : ℕ) (bytes : List ℕ) (nodes : ℕ) (x : List SigType × List ℕ × ℕ) → all_types_at sub count bytes nodes ≡ Some x → AreAll count bytes nodes x
  unfolding all_types_at
  are_all count bytes nodes x e =
      let a = bind_some (types_at sub count bytes nodes) (λ ts. cond (nat_lt (length ts.0) count) None (Some ts)) x e in
      let b = kept_out (nat_lt (length a.0.0) count) (Some a.0) x a.2 in
      subst (AreAll count bytes nodes) (some_is a.0 x b.1) (record { read = a.1; full = b.0 })

  pub record IsArray (bytes : List ℕ) (nodes : ℕ) (x : SigType × List ℕ × ℕ) : Type 0 where
    pub of : SigType
    pub behind : List ℕ
    pub shape : ℕ × List ℕ × List ℤ × List ℕ
    pub read : sub bytes nodes ≡ Some (of, behind, x.2)
    pub shaped : shape_at behind ≡ Some shape
    pub rest : shape.3 ≡ x.1
    pub made : type.Array of shape.0 shape.1 shape.2 ≡ x.0

  pub is_array : (bytes : List ℕ) (nodes : ℕ) (x : SigType × List ℕ × ℕ) → array_at sub bytes nodes ≡ Some x → IsArray bytes nodes x
  unfolding array_at
  is_array bytes nodes x e =
      let second : SigType → ℕ → (ℕ × List ℕ × List ℤ × List ℕ) → Read SigType = λ t n shape. Some (type.Array t shape.0 shape.1 shape.2, shape.3, n) in
      let a = bind_some (sub bytes nodes) (λ t. shape_at t.1 >>= second t.0 t.2) x e in
      let b = bind_some (shape_at a.0.1) (second a.0.0 a.0.2) x a.2 in
      let z : SigType × List ℕ × ℕ = (type.Array a.0.0 b.0.0 b.0.1 b.0.2, b.0.3, a.0.2) in
      subst (IsArray bytes nodes) (some_is z x b.2) (record { of = a.0.0; behind = a.0.1; shape = b.0; read = a.1; shaped = b.1; rest = refl; made = refl })

  module _ (owners : ℕ → Option Owner) where
    -- a generic type with its arguments
    pub record IsInst (bytes : List ℕ) (nodes : ℕ) (x : SigType × List ℕ × ℕ) : Type 0 where
      pub head : Bool × TypeName × ℕ × List ℕ
      pub args : List SigType
      pub headed : generic_at owners bytes ≡ Some head
      pub read : all_types_at sub head.2 head.3 nodes ≡ Some (args, x.1, x.2)
      pub made : type.Inst head.0 head.1 args ≡ x.0

    pub is_inst : (bytes : List ℕ) (nodes : ℕ) (x : SigType × List ℕ × ℕ) → inst_at owners sub bytes nodes ≡ Some x → IsInst bytes nodes x
    unfolding inst_at
    is_inst bytes nodes x e =
        let second : Bool → TypeName → (List SigType × List ℕ × ℕ) → Read SigType = λ v n args. Some (type.Inst v n args.0, args.1, args.2) in
        let a = bind_some (generic_at owners bytes) (λ head. all_types_at sub head.2 head.3 nodes >>= second head.0 head.1) x e in
        let b = bind_some (all_types_at sub a.0.2 a.0.3 nodes) (second a.0.0 a.0.1) x a.2 in
        let z : SigType × List ℕ × ℕ = (type.Inst a.0.0 a.0.1 b.0.0, b.0.1, b.0.2) in
        subst (IsInst bytes nodes) (some_is z x b.2) (record { head = a.0; args = b.0.0; headed = a.1; read = b.1; made = refl })

    -- a type behind its modifier
    pub record IsModified (limit : ℕ) (required : Bool) (bytes : List ℕ) (nodes : ℕ) (x : SigType × List ℕ × ℕ) : Type 0 where
      pub owner : ℕ × Owner × List ℕ
      pub left : ℕ
      pub of : SigType
      pub owned : owner_at owners bytes ≡ Some owner
      pub within : after_owner owner.1 limit nodes ≡ Some left
      pub read : sub owner.2 left ≡ Some (of, x.1, x.2)
      pub made : type.Mod required owner.1 of ≡ x.0

    pub is_modified : (limit : ℕ) (required : Bool) (bytes : List ℕ) (nodes : ℕ) (x : SigType × List ℕ × ℕ) → modified_at owners sub limit required bytes nodes ≡ Some x
        → IsModified limit required bytes nodes x
    unfolding modified_at
    is_modified limit required bytes nodes x e =
        let third : Owner → (SigType × List ℕ × ℕ) → Read SigType = λ o t. Some (type.Mod required o t.0, t.1, t.2) in
        let second : Owner → List ℕ → ℕ → Read SigType = λ o rest left. sub rest left >>= third o in
        let a = bind_some (owner_at owners bytes) (λ o. after_owner o.1 limit nodes >>= second o.1 o.2) x e in
        let b = bind_some (after_owner a.0.1 limit nodes) (second a.0.1 a.0.2) x a.2 in
        let c = bind_some (sub a.0.2 b.0) (third a.0.1) x b.2 in
        let z : SigType × List ℕ × ℕ = (type.Mod required a.0.1 c.0.0, c.0.1, c.0.2) in
        subst (IsModified limit required bytes nodes) (some_is z x c.2) (record { owner = a.0; left = b.0; of = c.0.0; owned = a.1; within = b.1; read = c.1; made = refl })

-- a type: its element, and what stands behind
pub record HasElement (owners : ℕ → Option Owner) (depth : ℕ) (bytes : List ℕ) (nodes : ℕ) (x : SigType × List ℕ × ℕ) : Type 0 where
  pub byte : ℕ
  pub behind : List ℕ
  pub element : Element
  pub first : byte_at bytes ≡ Some (byte, behind)
  pub is : element_of byte ≡ Some element
  pub parts : parts_at owners (type_at owners depth) depth element behind nodes ≡ Some x

pub has_element : (owners : ℕ → Option Owner) (depth : ℕ) (bytes : List ℕ) (nodes : ℕ) (x : SigType × List ℕ × ℕ) → type_at owners (suc depth) bytes (suc nodes) ≡ Some x
    → HasElement owners depth bytes nodes x
unfolding type_at
has_element owners depth bytes nodes x e =
    let second : List ℕ → Element → Read SigType = λ rest element. parts_at owners (type_at owners depth) depth element rest nodes in
    let a = bind_some (byte_at bytes) (λ b. element_of b.0 >>= second b.1) x e in
    let b = bind_some (element_of a.0.0) (second a.0.1) x a.2 in
    record { byte = a.0.0; behind = a.0.1; element = b.0; first = a.1; is = b.1; parts = b.2 }
