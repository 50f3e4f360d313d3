-- Signatures of all six kinds hang on what their tokens name (II.23.2).
use Rattle.std.proofs.Common.{◌≡◌, ℕ, zero, suc, ◌+◌, ◌<◌, ◌≤◌, max, List, [], ◌∷◌, ◌++◌, map, length, take, drop, Contains, Option, Some, None, refl, sym, ◌∙◌, ap, subst, arith, append_assoc}
use Rattle.std.proofs.lemmas.List.{length-take, length-append, take-append-drop}
use Rattle.std.proofs.Math.Seq.{take-append_seam, drop-append_seam}
use Rattle.std.proofs.lemmas.List.Elements.{Contains-append_left, Contains-append_right}
use Rattle.std.specs.List.{flat_map}
use Rattle.sig_codec.specs.Spelling.{reading, SpellsEach}
use Rattle.sig_codec.specs.Signature.{SpellsGeneric, SpellsParams, SpellsMethod, SpellsProperty, SpellsLocals, SpellsInstantiation, IsType, IsMethod, IsField, IsProperty, AreLocals, IsInstantiation}
use Rattle.type_terms.specs.Depth.{depth, largest}
use Rattle.type_terms.specs.Nodes.{list_nodes}
use Rattle.type_terms.specs.declared.reference.MethodSig.{MethodSig}
use Rattle.type_terms.specs.declared.term.Owner.{Owner}
use Rattle.type_terms.specs.declared.term.SigType.{SigType}
use Rattle.image_model.specs.Tokens.{marked, type_tokens, InType, InMethod, InField, InProperty, InLocals, InInstantiation}
use Rattle.image_namings.specs.Laws.{TellSame, HangOnTokens}
use Rattle.image_namings.proofs.Twins.{EachTwin, type_twin, each_twin}

-- ---- lists of types one after the other

largest_joined : (xs ys : List SigType) → largest (map depth (xs ++ ys)) ≡ max (largest (map depth xs)) (largest (map depth ys))
largest_joined [] ys = omega arith
largest_joined (x ∷ xs) ys = let h = largest_joined xs ys in omega arith

total_joined : (xs ys : List SigType) → list_nodes (xs ++ ys) ≡ list_nodes xs + list_nodes ys
total_joined [] ys = omega arith
total_joined (x ∷ xs) ys = let h = total_joined xs ys in omega arith

tokens_joined : (xs ys : List SigType) → flat_map type_tokens (xs ++ ys) ≡ flat_map type_tokens xs ++ flat_map type_tokens ys
tokens_joined [] ys = refl
tokens_joined (x ∷ xs) ys = ap (λ (ts : List ℕ). type_tokens x ++ ts) (tokens_joined xs ys) ∙ sym (append_assoc (type_tokens x) (flat_map type_tokens xs) (flat_map type_tokens ys))

generic_as : (c d : ℕ → Option Owner) (n : ℕ) (bytes : List ℕ) → SpellsGeneric (reading c) n bytes → SpellsGeneric (reading d) n bytes
generic_as c d zero bytes h = h
generic_as c d (suc n) bytes h = h

module _ (a b : ℕ → Option Owner) where
  abbrev Agrees : List ℕ → Type 0
  Agrees tokens = (token : ℕ) → Contains tokens token → a token ≡ b token

  front : (xs ys : List SigType) → Agrees (flat_map type_tokens (xs ++ ys)) → Agrees (flat_map type_tokens xs)
  front xs ys f token c = f token (subst (λ (ts : List ℕ). Contains ts token) (sym (tokens_joined xs ys)) (Contains-append_left (flat_map type_tokens xs) (flat_map type_tokens ys) token c))

  back : (xs ys : List SigType) → Agrees (flat_map type_tokens (xs ++ ys)) → Agrees (flat_map type_tokens ys)
  back xs ys f token c = f token (subst (λ (ts : List ℕ). Contains ts token) (sym (tokens_joined xs ys)) (Contains-append_right (flat_map type_tokens xs) (flat_map type_tokens ys) token c))

  -- ---- parameters, with a sentinel or without

  record ParamsTwin (k : Option ℕ) (ps : List SigType) (bytes : List ℕ) : Type 0 where
    pub twins : List SigType
    pub count : length twins ≡ length ps
    pub spelled : SpellsParams (reading marked) k twins bytes
    pub deep : largest (map depth twins) ≤ largest (map depth ps)
    pub many : list_nodes twins ≤ list_nodes ps
    pub again : Agrees (flat_map type_tokens twins) → SpellsParams (reading b) k ps bytes

  split_twin : (k : ℕ) (ps : List SigType) (bytes : List ℕ) (s : SpellsParams (reading a) (Some k) ps bytes) → EachTwin a b (take k ps) s.0 → EachTwin a b (drop k ps) s.1 → ParamsTwin (Some k) ps bytes
  split_twin k ps bytes s x y =
      let whole = take-append-drop k ps in
      let short : length x.twins ≡ k = x.count ∙ length-take k ps ∙ (let lt = s.3 in omega arith) in
      let parts = length-append (take k ps) (drop k ps) in
      let all : length (x.twins ++ y.twins) ≡ length ps = length-append x.twins y.twins ∙ (let c = x.count in let d = y.count in let w = ap length whole in omega (arith, parts)) in
      let first : take k (x.twins ++ y.twins) ≡ x.twins = ap (λ (n : ℕ). take n (x.twins ++ y.twins)) (sym short) ∙ take-append_seam x.twins y.twins in
      let last : drop k (x.twins ++ y.twins) ≡ y.twins = ap (λ (n : ℕ). drop n (x.twins ++ y.twins)) (sym short) ∙ drop-append_seam x.twins y.twins in
      record {
        twins = x.twins ++ y.twins;
        count = all;
        spelled = (s.0, s.1, s.2, (let lt = s.3 in omega (arith, all)), subst (λ ts. SpellsEach (reading marked) ts s.0) (sym first) x.spelled, subst (λ ts. SpellsEach (reading marked) ts s.1) (sym last) y.spelled);
        deep =
            let one = largest_joined x.twins y.twins in
            let two = largest_joined (take k ps) (drop k ps) in
            let same = ap (λ (ts : List SigType). largest (map depth ts)) whole in
            let d = x.deep in let e = y.deep in
            omega (arith, one, two, same);
        many =
            let one = total_joined x.twins y.twins in
            let two = total_joined (take k ps) (drop k ps) in
            let same = ap list_nodes whole in
            let d = x.many in let e = y.many in
            omega (arith, one, two, same);
        again = λ f. (s.0, s.1, s.2, s.3, x.again (front x.twins y.twins f), y.again (back x.twins y.twins f));
      }

  params_twin : (k : Option ℕ) (ps : List SigType) (bytes : List ℕ) → SpellsParams (reading a) k ps bytes → ParamsTwin k ps bytes
  params_twin None ps bytes s =
      let e = each_twin a b s in
      record { twins = e.twins; count = e.count; spelled = e.spelled; deep = e.deep; many = e.many; again = e.again }
  params_twin (Some k) ps bytes s = split_twin k ps bytes s (each_twin a b s.4) (each_twin a b s.5)

  -- ---- the six kinds

  type_kept : (bytes : List ℕ) (t : SigType) → TellSame a b (InType bytes) → IsType a bytes t → IsType b bytes t
  type_kept bytes t same h =
      let k = type_twin a b h.0 in
      (k.again (λ token c. same token (k.twin, (k.spelled, (let d = k.deep in let l = h.1 in omega arith), (let d = k.many in let l = h.2 in omega arith)), c)), h.1, h.2)

  field_kept : (bytes : List ℕ) (t : SigType) → TellSame a b (InField bytes) → IsField a bytes t → IsField b bytes t
  field_kept bytes t same h =
      let k = type_twin a b h.0.2 in
      ((h.0.0, h.0.1, k.again (λ token c. same token (k.twin, ((h.0.0, h.0.1, k.spelled), (let d = k.deep in let l = h.1 in omega arith), (let d = k.many in let l = h.2 in omega arith)), c))), h.1, h.2)

  locals_kept : (bytes : List ℕ) (ts : List SigType) → TellSame a b (InLocals bytes) → AreLocals a bytes ts → AreLocals b bytes ts
  locals_kept bytes ts same h =
      let k = each_twin a b h.0.each in
      let twin : SpellsLocals (reading marked) k.twins bytes = record { a = h.0.a; b = h.0.b; whole = h.0.whole; counted = subst (λ (n : ℕ). (reading marked).number h.0.a n) (sym k.count) h.0.counted; each = k.spelled } in (
        record {
          a = h.0.a;
          b = h.0.b;
          whole = h.0.whole;
          counted = h.0.counted;
          each = k.again (λ token c. same token (k.twins, (twin, (let d = k.deep in let l = h.1 in omega arith), (let d = k.many in let l = h.2 in omega arith)), c));
        },
        h.1,
        h.2,
      )

  arguments_kept : (bytes : List ℕ) (ts : List SigType) → TellSame a b (InInstantiation bytes) → IsInstantiation a bytes ts → IsInstantiation b bytes ts
  arguments_kept bytes ts same h =
      let k = each_twin a b h.0.each in
      let some : 0 < length k.twins = subst (λ (n : ℕ). 0 < n) (sym k.count) h.0.some in
      let twin : SpellsInstantiation (reading marked) k.twins bytes = record { a = h.0.a; b = h.0.b; whole = h.0.whole; some = some; counted = subst (λ (n : ℕ). (reading marked).number h.0.a n) (sym k.count) h.0.counted; each = k.spelled } in (
        record {
          a = h.0.a;
          b = h.0.b;
          whole = h.0.whole;
          some = h.0.some;
          counted = h.0.counted;
          each = k.again (λ token c. same token (k.twins, (twin, (let d = k.deep in let l = h.1 in omega arith), (let d = k.many in let l = h.2 in omega arith)), c));
        },
        h.1,
        h.2,
      )

  -- what the tokens of a result and of parameters name is told the same
  result_part : (r : SigType) (ps : List SigType) → Agrees (type_tokens r ++ flat_map type_tokens ps) → Agrees (type_tokens r)
  result_part r ps f token c = f token (Contains-append_left (type_tokens r) (flat_map type_tokens ps) token c)

  params_part : (r : SigType) (ps : List SigType) → Agrees (type_tokens r ++ flat_map type_tokens ps) → Agrees (flat_map type_tokens ps)
  params_part r ps f token c = f token (Contains-append_right (type_tokens r) (flat_map type_tokens ps) token c)

  method_kept : (bytes : List ℕ) (s : MethodSig) → TellSame a b (InMethod bytes) → IsMethod a bytes s → IsMethod b bytes s
  method_kept bytes s same h =
      let r = type_twin a b h.0.ret in
      let p = params_twin s.sentinel s.params h.0.d h.0.params in
      let twin : MethodSig = record { has_this = s.has_this; explicit_this = s.explicit_this; vararg = s.vararg; generic = s.generic; ret = r.twin; params = p.twins; sentinel = s.sentinel } in
      let spelled : SpellsMethod (reading marked) twin bytes = record {
        a = h.0.a;
        b = h.0.b;
        c = h.0.c;
        d = h.0.d;
        whole = h.0.whole;
        explicit = h.0.explicit;
        generic = generic_as a marked s.generic h.0.a h.0.generic;
        counted = subst (λ (n : ℕ). (reading marked).number h.0.b n) (sym p.count) h.0.counted;
        ret = r.spelled;
        params = p.spelled;
      } in
      let agrees : Agrees (type_tokens r.twin ++ flat_map type_tokens p.twins) = λ token c. same token (twin, (spelled, (let d = r.deep in let e = p.deep in let l = h.1 in omega arith), (let d = r.many in let e = p.many in let l = h.2 in omega arith)), c) in (
        record {
          a = h.0.a;
          b = h.0.b;
          c = h.0.c;
          d = h.0.d;
          whole = h.0.whole;
          explicit = h.0.explicit;
          generic = generic_as a b s.generic h.0.a h.0.generic;
          counted = h.0.counted;
          ret = r.again (result_part r.twin p.twins agrees);
          params = p.again (params_part r.twin p.twins agrees);
        },
        h.1,
        h.2,
      )

  property_kept : (bytes : List ℕ) (s : MethodSig) → TellSame a b (InProperty bytes) → IsProperty a bytes s → IsProperty b bytes s
  property_kept bytes s same h =
      let r = type_twin a b h.0.ret in
      let p = each_twin a b h.0.params in
      let twin : MethodSig = record { has_this = s.has_this; explicit_this = s.explicit_this; vararg = s.vararg; generic = s.generic; ret = r.twin; params = p.twins; sentinel = s.sentinel } in
      let spelled : SpellsProperty (reading marked) twin bytes = record {
        a = h.0.a;
        b = h.0.b;
        c = h.0.c;
        whole = h.0.whole;
        no_explicit = h.0.no_explicit;
        no_vararg = h.0.no_vararg;
        no_generic = h.0.no_generic;
        no_sentinel = h.0.no_sentinel;
        counted = subst (λ (n : ℕ). (reading marked).number h.0.a n) (sym p.count) h.0.counted;
        ret = r.spelled;
        params = p.spelled;
      } in
      let agrees : Agrees (type_tokens r.twin ++ flat_map type_tokens p.twins) = λ token c. same token (twin, (spelled, (let d = r.deep in let e = p.deep in let l = h.1 in omega arith), (let d = r.many in let e = p.many in let l = h.2 in omega arith)), c) in (
        record {
          a = h.0.a;
          b = h.0.b;
          c = h.0.c;
          whole = h.0.whole;
          no_explicit = h.0.no_explicit;
          no_vararg = h.0.no_vararg;
          no_generic = h.0.no_generic;
          no_sentinel = h.0.no_sentinel;
          counted = h.0.counted;
          ret = r.again (result_part r.twin p.twins agrees);
          params = p.again (params_part r.twin p.twins agrees);
        },
        h.1,
        h.2,
      )

pub hang_on_tokens : HangOnTokens
hang_on_tokens = record {
  type_of = λ owners others bytes t same h. type_kept owners others bytes t same h;
  method = λ owners others bytes s same h. method_kept owners others bytes s same h;
  field = λ owners others bytes t same h. field_kept owners others bytes t same h;
  property = λ owners others bytes s same h. property_kept owners others bytes s same h;
  locals = λ owners others bytes ts same h. locals_kept owners others bytes ts same h;
  instantiation = λ owners others bytes ts same h. arguments_kept owners others bytes ts same h;
}
