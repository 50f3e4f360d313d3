-- A signature that is read is the one that its bytes spell, and what is spelled within bounds is read.
use Rattle.std.proofs.Common.{◌≡◌, ℕ, ◌-◌, ◌<◌, ◌≤◌, inl, inr, true, false, nat_lt, nat_eq, List, [], ◌∷◌, ◌++◌, length, map, Option, Some, None, Result, Ok, Err, refl, sym, ap, subst, ◌∙◌, arith}
use Rattle.std.proofs.lemmas.Grind.{common_steps}
use Rattle.std.proofs.lemmas.List.{append-nil}
use Rattle.std.specs.Prelude.{IfOk, IfSome, IfNone}
use Rattle.il_base.specs.Numbers.{Packed}
use Rattle.il_lists.specs.declared.memory.NoMemory.{NoMemory}
use Rattle.type_terms.specs.declared.term.Owner.{Owner}
use Rattle.type_terms.specs.declared.term.SigType.{SigType}
use Rattle.type_terms.specs.Depth.{depth, largest}
use Rattle.type_terms.specs.Nodes.{nodes, list_nodes}
use Rattle.sig_codec.specs.Spelling.{Notation, reading, SpellsType, SpellsEach}
use Rattle.sig_codec.specs.Signature.{max_depth, max_nodes, IsType, IsField, AreLocals, IsInstantiation}
use Rattle.sig_codec.specs.Reading.{◌>>=◌, number_at, type_at, types_at, all_types_at, ended, whole_type, whole_field, whole_types, whole_locals, some_types, whole_instantiation}
use Rattle.sig_codec.proofs.Numbers.{some_is, bind_some, chosen, number_takes, number_again}
use Rattle.sig_codec.proofs.Takes.{type_takes, all_types_take}
use Rattle.sig_codec.proofs.Again.{type_again, each_again}

-- ---- what a decoder answers

module _ {X : Type 0} (whole : Option X) (P : X → Type 0) (takes : (x : X) → whole ≡ Some x → P x) (again : (x : X) → P x → whole ≡ Some x) where
  pub answers_found : (r : Result (Option X) NoMemory) → IfOk r (λ f. f ≡ whole) → IfOk r (λ f. IfSome f P)
  answers_found (Ok None) h = tt
  answers_found (Ok (Some x)) h = takes x (sym h)
  answers_found (Err e) h = tt

  pub answers_only : (r : Result (Option X) NoMemory) → IfOk r (λ f. f ≡ whole) → (x : X) → P x → IfOk r (λ f. f ≡ Some x)
  answers_only (Ok f) h x p = h ∙ again x p
  answers_only (Err e) h x p = tt

  pub answers_none : (r : Result (Option X) NoMemory) → IfOk r (λ f. f ≡ whole) → IfOk r (λ f. IfNone f ((x : X) → P x → ⊥))
  answers_none (Ok None) h = λ x p. let e = again x p in cc
  answers_none (Ok (Some x)) h = tt
  answers_none (Err e) h = tt

-- ---- ends

pub is_nil : (xs : List ℕ) → nat_eq (length xs) 0 ≡ true → xs ≡ []
is_nil [] e = refl
is_nil (x ∷ xs) e = absurd (grind (arith, common_steps))

pub ended_is : {A : Type 0} (x : A × List ℕ × ℕ) (y : A) → ended x ≡ Some y → (x.1 ≡ []) × (x.0 ≡ y)
ended_is x y e =
    elim (chosen (nat_eq (length x.1) 0) (Some x.0) None (Some y) e) [
      | inl h ↦ (is_nil x.1 h.0, some_is x.0 y h.1)
      | inr h ↦ absurd (let d = h.1 in cc)
    ]

-- a front with nothing behind it
pub to_end : (bytes front rest : List ℕ) → bytes ≡ front ++ rest → rest ≡ [] → bytes ≡ front
to_end bytes front rest e f = e ∙ ap (λ (r : List ℕ). front ++ r) f ∙ append-nil front

module _ (owners : ℕ → Option Owner) where
  abbrev w : Notation
  w = reading owners

  -- ---- types

  pub type_whole : (bytes : List ℕ) (t : SigType) → whole_type owners bytes ≡ Some t → IsType owners bytes t
  unfolding whole_type
  type_whole bytes t e =
      let a = bind_some (type_at owners max_depth bytes max_nodes) (λ x. ended x) t e in
      let end = ended_is a.0 t a.2 in
      let r = type_takes owners max_depth bytes max_nodes a.0.0 a.0.1 a.0.2 a.1 in
      let whole = to_end bytes r.front a.0.1 r.parts end.0 in
      subst (λ (x : SigType). IsType owners bytes x) end.1 (subst (λ (b : List ℕ). SpellsType w a.0.0 b) (sym whole) r.spelled, r.deep, omega (arith, r.count))

  pub whole_type_again : (bytes : List ℕ) (t : SigType) → IsType owners bytes t → whole_type owners bytes ≡ Some t
  unfolding whole_type
  whole_type_again bytes t h =
      let is = type_again owners h.0 max_depth [] max_nodes h.1 h.2 in
      let again : type_at owners max_depth bytes max_nodes ≡ Some (t, [], max_nodes - nodes t) = ap (λ (b : List ℕ). type_at owners max_depth b max_nodes) (sym (append-nil bytes)) ∙ is in
      rw again refl

  -- ---- fields

  pub field_whole : (bytes : List ℕ) (t : SigType) → whole_field owners bytes ≡ Some t → IsField owners bytes t
  unfolding whole_field
  field_whole [] t e = absurd cc
  field_whole (b ∷ bytes) t e =
      elim (chosen (nat_eq b 0x06) (whole_type owners bytes) None (Some t) e) [
        | inl h ↦
            let is : b ≡ 0x06 = (let k = h.0 in grind (arith, common_steps)) in
            let r = type_whole bytes t h.1 in
            ((bytes, ap (λ (x : ℕ). x ∷ bytes) is, r.0), r.1, r.2)
        | inr h ↦ absurd (let d = h.1 in cc)
      ]

  pub whole_field_again : (bytes : List ℕ) (t : SigType) → IsField owners bytes t → whole_field owners bytes ≡ Some t
  unfolding whole_field
  whole_field_again bytes t h = let is = whole_type_again h.0.0 t (h.0.2, h.1, h.2) in rw h.0.1 is

  -- ---- lists of types

  -- a count and its types
  record Counted (ts : List SigType) (bytes : List ℕ) : Type 0 where
    a : List ℕ
    b : List ℕ
    whole : bytes ≡ a ++ b
    counted : Packed a (length ts)
    each : SpellsEach w ts b
    deep : largest (map depth ts) ≤ max_depth
    few : list_nodes ts ≤ max_nodes

  types_whole : (bytes : List ℕ) (ts : List SigType) → whole_types owners bytes ≡ Some ts → Counted ts bytes
  unfolding whole_types
  types_whole bytes ts e =
      let a = bind_some (number_at bytes) (λ n. all_types_at (type_at owners max_depth) n.0 n.1 max_nodes >>= λ x. ended x) ts e in
      let b = bind_some (all_types_at (type_at owners max_depth) a.0.0 a.0.1 max_nodes) (λ x. ended x) ts a.2 in
      let end = ended_is b.0 ts b.2 in
      let n = number_takes bytes a.0.0 a.0.1 a.1 in
      let r = all_types_take owners max_depth (type_at owners max_depth) (type_takes owners max_depth) a.0.0 a.0.1 max_nodes b.0.0 b.0.1 b.0.2 b.1 in
      let rest = to_end a.0.1 r.0.front b.0.1 r.0.parts end.0 in
      let counted : Packed n.front (length b.0.0) = rw r.1 n.spelled in
      subst (λ (x : List SigType). Counted x bytes) end.1
      (record { a = n.front; b = r.0.front; whole = n.parts ∙ ap (λ (x : List ℕ). n.front ++ x) rest; counted = counted; each = r.0.spelled; deep = r.0.deep; few = omega (arith, r.0.counted) })

  whole_types_again : (bytes : List ℕ) (ts : List SigType) → Counted ts bytes → whole_types owners bytes ≡ Some ts
  unfolding whole_types all_types_at
  whole_types_again bytes ts h =
      let n = number_again h.a (length ts) h.b h.counted in
      let is = each_again owners h.each max_depth (length ts) [] max_nodes h.deep h.few (omega arith) (inl refl) in
      let again : types_at (type_at owners max_depth) (length ts) h.b max_nodes ≡ Some (ts, [], max_nodes - list_nodes ts) =
      ap (λ (b : List ℕ). types_at (type_at owners max_depth) (length ts) b max_nodes) (sym (append-nil h.b)) ∙ is in
      let full : nat_lt (length ts) (length ts) ≡ false = grind (arith, common_steps) in
      rw (h.whole, n, again, full) refl

  pub locals_whole : (bytes : List ℕ) (ts : List SigType) → whole_locals owners bytes ≡ Some ts → AreLocals owners bytes ts
  unfolding whole_locals
  locals_whole [] ts e = absurd cc
  locals_whole (b ∷ bytes) ts e =
      elim (chosen (nat_eq b 0x07) (whole_types owners bytes) None (Some ts) e) [
        | inl h ↦
            let is : b ≡ 0x07 = (let k = h.0 in grind (arith, common_steps)) in
            let r = types_whole bytes ts h.1 in
            (record { a = r.a; b = r.b; whole = ap (λ (x : ℕ). x ∷ bytes) is ∙ ap (λ (x : List ℕ). 0x07 ∷ x) r.whole; counted = r.counted; each = r.each }, r.deep, r.few)
        | inr h ↦ absurd (let d = h.1 in cc)
      ]

  pub whole_locals_again : (bytes : List ℕ) (ts : List SigType) → AreLocals owners bytes ts → whole_locals owners bytes ≡ Some ts
  unfolding whole_locals
  whole_locals_again bytes ts h =
      let is = whole_types_again (h.0.a ++ h.0.b) ts (record { a = h.0.a; b = h.0.b; whole = refl; counted = h.0.counted; each = h.0.each; deep = h.1; few = h.2 }) in
      rw h.0.whole is

  pub instantiation_whole : (bytes : List ℕ) (ts : List SigType) → whole_instantiation owners bytes ≡ Some ts → IsInstantiation owners bytes ts
  unfolding whole_instantiation
  instantiation_whole [] ts e = absurd cc
  instantiation_whole (b ∷ bytes) ts e =
      elim (chosen (nat_eq b 0x0A) (whole_types owners bytes >>= some_types) None (Some ts) e) [
        | inl h ↦
            let is : b ≡ 0x0A = (let k = h.0 in grind (arith, common_steps)) in
            let a = bind_some (whole_types owners bytes) some_types ts h.1 in
            let r = types_whole bytes a.0 a.1 in
            elim (chosen (nat_eq (length a.0) 0) None (Some a.0) (Some ts) a.2) [
              | inl g ↦ absurd (let d = g.1 in cc)
              | inr g ↦
                  let some : 0 < length a.0 = (let k = g.0 in grind (arith, common_steps)) in
                  subst (λ (x : List SigType). IsInstantiation owners (b ∷ bytes) x) (some_is a.0 ts g.1)
                  (record { a = r.a; b = r.b; whole = ap (λ (x : ℕ). x ∷ bytes) is ∙ ap (λ (x : List ℕ). 0x0A ∷ x) r.whole; some = some; counted = r.counted; each = r.each }, r.deep, r.few)
            ]
        | inr h ↦ absurd (let d = h.1 in cc)
      ]

  pub whole_instantiation_again : (bytes : List ℕ) (ts : List SigType) → IsInstantiation owners bytes ts → whole_instantiation owners bytes ≡ Some ts
  unfolding whole_instantiation
  whole_instantiation_again bytes ts h =
      let is = whole_types_again (h.0.a ++ h.0.b) ts (record { a = h.0.a; b = h.0.b; whole = refl; counted = h.0.counted; each = h.0.each; deep = h.1; few = h.2 }) in
      let some : nat_eq (length ts) 0 ≡ false = (let k = h.0.some in grind (arith, common_steps)) in
      rw (h.0.whole, is, some) refl
