-- Signatures that rows have are well formed.
use Rattle.std.proofs.Common.{◌≡◌, ℕ, zero, suc, ◌+◌, ◌≤◌, Bool, true, false, not, ◌&&◌, ◌||◌, nat_lt, ◌==◌, if◌then◌else◌, List, [], ◌∷◌, ◌++◌, map, length, take, drop, All, Option, Some, None, is_none, refl, sym, ◌∙◌, subst, arith}
use Rattle.std.proofs.lemmas.Bool.{and_from}
use Rattle.std.proofs.lemmas.List.{take-append-drop}
use Rattle.std.proofs.lemmas.List.Elements.{recursion_from_All}
use Rattle.std.specs.List.{AllByRecursion, list_all}
use Rattle.sig_codec.specs.Spelling.{reading, SpellsType, SpellsEach}
use Rattle.sig_codec.specs.Spelling as spelling
use Rattle.sig_codec.specs.Signature.{method_byte, SpellsParams, IsMethod, IsField, IsProperty, AreLocals, IsInstantiation}
use Rattle.type_terms.specs.Depth.{depth, largest, sig_depth}
use Rattle.type_terms.specs.declared.reference.MethodSig.{MethodSig}
use Rattle.type_terms.specs.declared.term.Owner.{Owner}
use Rattle.type_terms.specs.declared.term.SigType.{SigType}
use Rattle.assembly_tree.specs.WellFormedNames.{option_all}
use Rattle.assembly_tree.specs.WellFormedTerms.{is_type, is_explicit_with_this, is_sentinel_inside, is_signature, is_property_signature}
use Rattle.assembly_tree.specs.declared.assembly.Assembly.{Assembly}
use Rattle.image_model.specs.Streams.{strings_of}
use Rattle.image_model.specs.Terms.{HasRanks, HasBounds}
use Rattle.image_model.specs.Faults.{Reads}
use Rattle.image_model.specs.ReadLaws.{HoldsTypes}
use Rattle.image_namings.proofs.Owners.{OneText}
use Rattle.formed_references.proofs.Words.{lt_true, le_true}
use Rattle.formed_references.proofs.Terms.{type_formed}

append_by : {X : Type 0} (P : X → Type 0) (xs ys : List X) → AllByRecursion P xs → AllByRecursion P ys → AllByRecursion P (xs ++ ys)
append_by P [] ys h k = k
append_by P (x ∷ xs) ys h k = (h.0, append_by P xs ys h.1 k)

-- ---- a method's signature and a field's begin otherwise

first_bytes : (a b c d : Bool) → (if a then 0x05 else 0x00) + (if b then 0x20 else 0x00) + (if c then 0x40 else 0x00) + (if d then 0x00 else 0x10) ≡ 0x06 → ⊥
first_bytes true true true true e = omega arith
first_bytes true true true false e = omega arith
first_bytes true true false true e = omega arith
first_bytes true true false false e = omega arith
first_bytes true false true true e = omega arith
first_bytes true false true false e = omega arith
first_bytes true false false true e = omega arith
first_bytes true false false false e = omega arith
first_bytes false true true true e = omega arith
first_bytes false true true false e = omega arith
first_bytes false true false true e = omega arith
first_bytes false true false false e = omega arith
first_bytes false false true true e = omega arith
first_bytes false false true false e = omega arith
first_bytes false false false true e = omega arith
first_bytes false false false false e = omega arith

head_is : (x y : ℕ) (xs ys : List ℕ) → ◌≡◌ {A = List ℕ} (x ∷ xs) (y ∷ ys) → x ≡ y
head_is x y xs ys e = cc

pub no_field : (owners : ℕ → Option Owner) (bytes : List ℕ) (s : MethodSig) (t : SigType) → IsMethod owners bytes s → IsField owners bytes t → ⊥
no_field owners bytes s t h k =
    first_bytes s.vararg s.has_this s.explicit_this (s.generic == 0) (head_is (method_byte s) 0x06 _ k.0.0 (sym h.0.whole ∙ k.0.1))

module _ (image : List ℕ) (a : Assembly) (h : Reads image a) (text : OneText (strings_of image)) (holds : HoldsTypes image h.names a) where
  abbrev Spelled : SigType → Type 0
  Spelled t = (bytes : List ℕ) × SpellsType (reading h.names.owners) t bytes

  each_spelled : {ts : List SigType} {bytes : List ℕ} → SpellsEach (reading h.names.owners) ts bytes → AllByRecursion Spelled ts
  each_spelled spelling.none = tt
  each_spelled (spelling.more {a = b} e s rest) = ((b, s), each_spelled rest)

  params_spelled : (k : Option ℕ) (ps : List SigType) (bytes : List ℕ) → SpellsParams (reading h.names.owners) k ps bytes → AllByRecursion Spelled ps
  params_spelled None ps bytes s = each_spelled s
  params_spelled (Some k) ps bytes s =
      subst (λ (x : List SigType). AllByRecursion Spelled x) (take-append-drop k ps) (append_by Spelled (take k ps) (drop k ps) (each_spelled s.4) (each_spelled s.5))

  pub types_formed : (ts : List SigType) → AllByRecursion Spelled ts → largest (map depth ts) ≤ 100 → AllByRecursion HasRanks ts → list_all (is_type a) ts ≡ true
  types_formed [] s low few = refl
  types_formed (t ∷ ts) s low few =
      and_from (is_type a t) (list_all (is_type a) ts) (type_formed image a h text holds t s.0.0 s.0.1 (omega arith) few.0) (types_formed ts s.1 (omega arith) few.1)

  pub locals_formed : (ts : List SigType) (bytes : List ℕ) → AreLocals h.names.owners bytes ts → All HasRanks ts → list_all (is_type a) ts ≡ true
  locals_formed ts bytes is few = types_formed ts (each_spelled is.0.each) is.1 (recursion_from_All HasRanks ts few)

  pub arguments_formed : (ts : List SigType) (bytes : List ℕ) → IsInstantiation h.names.owners bytes ts → All HasRanks ts → list_all (is_type a) ts ≡ true
  arguments_formed ts bytes is few = types_formed ts (each_spelled is.0.each) is.1 (recursion_from_All HasRanks ts few)

  pub field_formed : (t : SigType) (bytes : List ℕ) → IsField h.names.owners bytes t → HasRanks t → is_type a t ≡ true
  field_formed t bytes is few = type_formed image a h text holds t is.0.0 is.0.2 is.1 few

  explicit_has_this : (explicit this : Bool) → (explicit ≡ true → this ≡ true) → (not explicit || this) ≡ true
  explicit_has_this false this f = refl
  explicit_has_this true this f = f refl

  sentinel_in : (k : Option ℕ) (ps : List SigType) (bytes : List ℕ) → SpellsParams (reading h.names.owners) k ps bytes → option_all (λ j. nat_lt j (length ps)) k ≡ true
  sentinel_in None ps bytes s = refl
  sentinel_in (Some k) ps bytes s = lt_true k (length ps) s.3

  sig_formed : (s : MethodSig) → HasBounds s → is_explicit_with_this s ≡ true → is_sentinel_inside s ≡ true → Spelled s.ret → AllByRecursion Spelled s.params → sig_depth s ≤ 100 → is_signature a s ≡ true
  unfolding is_signature
  sig_formed s bounds explicit inside ret params low =
      let r = type_formed image a h text holds s.ret ret.0 ret.1 (omega arith) bounds.ret in
      let p = types_formed s.params params (omega arith) (recursion_from_All HasRanks s.params bounds.ranks) in
      let g = le_true s.generic 65535 bounds.generic in
      let c = le_true (length s.params) 65535 bounds.params in
      and_from _ _ (and_from _ _ (and_from _ _ (and_from _ _ (and_from _ _ g c) explicit) inside) r) p

  pub method_formed : (s : MethodSig) (bytes : List ℕ) → IsMethod h.names.owners bytes s → HasBounds s → is_signature a s ≡ true
  method_formed s bytes is bounds =
      sig_formed s bounds (explicit_has_this s.explicit_this s.has_this is.0.explicit) (sentinel_in s.sentinel s.params is.0.d is.0.params) (is.0.c, is.0.ret) (params_spelled s.sentinel s.params is.0.d is.0.params) is.1

  none_inside : (k : Option ℕ) (ps : List SigType) → k ≡ None → option_all (λ j. nat_lt j (length ps)) k ≡ true
  none_inside None ps e = refl
  none_inside (Some k) ps e = absurd cc

  never : (explicit this : Bool) → explicit ≡ false → (not explicit || this) ≡ true
  never false this e = refl
  never true this e = absurd cc

  pub property_formed : (s : MethodSig) (bytes : List ℕ) → IsProperty h.names.owners bytes s → HasBounds s → is_signature a s ≡ true
  property_formed s bytes is bounds =
      sig_formed s bounds (never s.explicit_this s.has_this is.0.no_explicit) (none_inside s.sentinel s.params is.0.no_sentinel) (is.0.b, is.0.ret) (each_spelled is.0.params) is.1

  pub is_property : (s : MethodSig) (bytes : List ℕ) → IsProperty h.names.owners bytes s → is_property_signature s ≡ true
  is_property s bytes is = plain s.sentinel s.generic s.explicit_this s.vararg is.0.no_sentinel is.0.no_generic is.0.no_explicit is.0.no_vararg
    where
      plain : (k : Option ℕ) (n : ℕ) (b c : Bool) → k ≡ None → n ≡ 0 → b ≡ false → c ≡ false → (is_none k && (n == 0) && not b && not c) ≡ true
      plain None zero false false e f g i = refl
      plain None zero false true e f g i = absurd cc
      plain None zero true c e f g i = absurd cc
      plain None (suc n) b c e f g i = absurd (omega arith)
      plain (Some k) n b c e f g i = absurd cc
