-- Bytes are the signature of one field, of one method, of one list of locals and of one list of arguments, however large it is.
use Rattle.std.proofs.Common.{◌≡◌, ap, refl, sym, ◌∙◌, ℕ, zero, suc, ◌+◌, ◌*◌, ◌≤◌, ◌==◌, Bool, true, false, if◌then◌else◌, List, [], ◌∷◌, ◌++◌, append_assoc, length, take, drop, Option, Some, None, arith}
use Rattle.std.specs.Prelude.{slice_index}
use Rattle.std.proofs.lemmas.Bool.{eqb-true}
use Rattle.std.proofs.lemmas.List.{append-nil, take-append-drop}
use Rattle.il_base.specs.Numbers.{Packed}
use Rattle.sig_codec.specs.Reading.{number_at, type_at, element_of}
use Rattle.sig_codec.specs.Signature.{method_byte, SpellsGeneric, SpellsParams, SpellsMethod, SpellsField, SpellsLocals, SpellsInstantiation}
use Rattle.sig_codec.specs.Spelling as spelling
use Rattle.sig_codec.specs.Spelling.{Notation, reading, SpellsType, SpellsEach}
use Rattle.sig_codec.proofs.Again.{type_again}
use Rattle.sig_codec.proofs.Numbers.{number_again, some_is}
use Rattle.type_terms.specs.Depth.{depth}
use Rattle.type_terms.specs.Nodes.{nodes}
use Rattle.type_terms.specs.declared.reference.MethodSig.{MethodSig}
use Rattle.type_terms.specs.declared.term.Owner.{Owner}
use Rattle.type_terms.specs.declared.term.SigType.{SigType}
use Rattle.laws_image_parts.proofs.names.OneToken.{OneType}

-- ---- numbers

number_one : (front other after beyond : List ℕ) (m n : ℕ) → Packed front m → Packed other n → front ++ after ≡ other ++ beyond → (m ≡ n) × (after ≡ beyond)
number_one front other after beyond m n h k e =
    let x : ℕ × List ℕ = (m, after) in
    let y : ℕ × List ℕ = (n, beyond) in
    let is = some_is x y (sym (number_again front m after h) ∙ ap number_at e ∙ number_again other n beyond k) in
    (ap (λ (q : ℕ × List ℕ). q.0) is, ap (λ (q : ℕ × List ℕ). q.1) is)

-- what there is if a flag is set
flag_parts : (b : Bool) (n : ℕ) → (k : ℕ) × ((if b then n else 0x00) ≡ n * k) × (k ≤ 1)
flag_parts true n = (1, omega arith, omega arith)
flag_parts false n = (0, omega arith, omega arith)

abbrev flags : Bool → Bool → Bool → ℕ
flags v t x = (if v then 0x05 else 0x00) + (if t then 0x20 else 0x00) + (if x then 0x40 else 0x00)

-- the bit of generic methods is none of the others
bit_apart : (v t x w u y : Bool) → flags v t x + 0x00 ≡ flags w u y + 0x10 → ⊥
bit_apart v t x w u y e =
    let a = flag_parts v 0x05 in
    let b = flag_parts t 0x20 in
    let c = flag_parts x 0x40 in
    let d = flag_parts w 0x05 in
    let f = flag_parts u 0x20 in
    let g = flag_parts y 0x40 in
    omega (arith, a.1, a.2, b.1, b.2, c.1, c.2, d.1, d.2, f.1, f.2, g.1, g.2)

same_bit : (v t x w u y p q : Bool) → flags v t x + (if p then 0x00 else 0x10) ≡ flags w u y + (if q then 0x00 else 0x10) → p ≡ q
same_bit v t x w u y true true e = refl
same_bit v t x w u y true false e = absurd (bit_apart v t x w u y e)
same_bit v t x w u y false true e = absurd (bit_apart w u y v t x (sym e))
same_bit v t x w u y false false e = refl

module _ (owners : ℕ → Option Owner) where
  abbrev w : Notation
  w = reading owners

  generic_one : (m n : ℕ) (a b rest more : List ℕ) → (m == 0) ≡ (n == 0) → SpellsGeneric w m a → SpellsGeneric w n b → a ++ rest ≡ b ++ more → (m ≡ n) × (rest ≡ more)
  generic_one zero zero a b rest more same h k e = (refl, sym (ap (λ (xs : List ℕ). xs ++ rest) h) ∙ e ∙ ap (λ (xs : List ℕ). xs ++ more) k)
  generic_one zero (suc n) a b rest more same h k e = absurd (let wrong = eqb-true (suc n) 0 (sym same) in omega arith)
  generic_one (suc m) zero a b rest more same h k e = absurd (let wrong = eqb-true (suc m) 0 same in omega arith)
  generic_one (suc m) (suc n) a b rest more same h k e = number_one a b rest more (suc m) (suc n) h k e

  -- ---- where no type begins

  abbrev IsStop : List ℕ → Type 0
  IsStop rest = (d m : ℕ) → type_at owners (suc d) rest (suc m) ≡ None

  stop_end : IsStop []
  unfolding type_at
  stop_end d m = refl

  stop_sentinel : (rest : List ℕ) → IsStop (0x41 ∷ rest)
  unfolding type_at element_of
  stop_sentinel rest d m = refl

  not_at_stop : (t : SigType) (front rest stop : List ℕ) → SpellsType w t front → IsStop stop → stop ≡ front ++ rest → ⊥
  not_at_stop t front rest stop h none e =
      let is = type_again owners h (suc (depth t)) rest (suc (nodes t)) (omega arith) (omega arith) in
      let gone = none (depth t) (nodes t) in
      let both = sym gone ∙ ap (λ (bs : List ℕ). type_at owners (suc (depth t)) bs (suc (nodes t))) e ∙ is in
      cc

  module _ (one_type : OneType) where
    -- types up to a stop
    each_one : {ts us : List SigType} {front other : List ℕ} (after beyond : List ℕ) → SpellsEach w ts front → SpellsEach w us other → IsStop after → IsStop beyond
        → front ++ after ≡ other ++ beyond → (ts ≡ us) × (after ≡ beyond)
    each_one after beyond spelling.none spelling.none p q e = (refl, e)
    each_one after beyond spelling.none (spelling.more {t = u} {a = c} {b = d} g k ks) p q e =
        absurd (not_at_stop u c (d ++ beyond) after k p (e ∙ ap (λ (bs : List ℕ). bs ++ beyond) g ∙ append_assoc c d beyond))
    each_one after beyond (spelling.more {t = t} {a = a} {b = b} f h hs) spelling.none p q e =
        absurd (not_at_stop t a (b ++ after) beyond h q (sym e ∙ ap (λ (bs : List ℕ). bs ++ after) f ∙ append_assoc a b after))
    each_one after beyond (spelling.more {t = t} {a = a} {b = b} f h hs) (spelling.more {t = u} {a = c} {b = d} g k ks) p q e =
        let whole : a ++ (b ++ after) ≡ c ++ (d ++ beyond) =
        sym (append_assoc a b after) ∙ sym (ap (λ (bs : List ℕ). bs ++ after) f) ∙ e ∙ ap (λ (bs : List ℕ). bs ++ beyond) g ∙ append_assoc c d beyond in
        let first = one_type owners t u a c (b ++ after) (d ++ beyond) h k whole in
        let rest = each_one after beyond hs ks p q first.2 in
        ((λ i. first.1 i ∷ rest.0 i), rest.1)

    to_end : (ts us : List SigType) (front other : List ℕ) → SpellsEach w ts front → SpellsEach w us other → front ≡ other → ts ≡ us
    to_end ts us front other h k e = (each_one [] [] h k stop_end stop_end (ap (λ (bs : List ℕ). bs ++ []) e)).0

    -- parameters up to a sentinel, and those behind it
    fixed_one : (ts us : List SigType) (front other rest more : List ℕ) → SpellsEach w ts front → SpellsEach w us other → front ++ (0x41 ∷ rest) ≡ other ++ (0x41 ∷ more)
        → (ts ≡ us) × (rest ≡ more)
    fixed_one ts us front other rest more h k e =
        let both = each_one (0x41 ∷ rest) (0x41 ∷ more) h k (stop_sentinel rest) (stop_sentinel more) e in
        (both.0, ap (λ (bs : List ℕ). drop 1 bs) both.1)

    no_sentinel : (ts us : List SigType) (front other more : List ℕ) → SpellsEach w ts front → SpellsEach w us other → front ≡ other ++ (0x41 ∷ more) → ⊥
    no_sentinel ts us front other more h k e =
        let both = each_one [] (0x41 ∷ more) h k stop_end (stop_sentinel more) (append-nil front ∙ e) in
        let long = ap (length {A = ℕ}) both.1 in
        omega arith

    params_one : (k l : Option ℕ) (ps qs : List SigType) (front other : List ℕ) → SpellsParams w k ps front → SpellsParams w l qs other → front ≡ other → ps ≡ qs
    params_one None None ps qs front other h g e = to_end ps qs front other h g e
    params_one None (Some l) ps qs front other h g e = absurd (no_sentinel ps (take l qs) front g.0 g.1 h g.4 (e ∙ g.2))
    params_one (Some k) None ps qs front other h g e = absurd (no_sentinel qs (take k ps) other h.0 h.1 g h.4 (sym e ∙ h.2))
    params_one (Some k) (Some l) ps qs front other h g e =
        let first = fixed_one (take k ps) (take l qs) h.0 g.0 h.1 g.1 h.4 g.4 (sym h.2 ∙ e ∙ g.2) in
        let last = to_end (drop k ps) (drop l qs) h.1 g.1 h.5 g.5 first.1 in
        sym (take-append-drop k ps) ∙ (λ i. first.0 i ++ last i) ∙ take-append-drop l qs

    -- ---- signatures

    pub one_field : (s t : SigType) (bytes : List ℕ) → SpellsField w s bytes → SpellsField w t bytes → s ≡ t
    one_field s t bytes h k =
        let same : h.0 ≡ k.0 = ap (λ (bs : List ℕ). drop 1 bs) (sym h.1 ∙ k.1) in
        (one_type owners s t h.0 k.0 [] [] h.2 k.2 (ap (λ (bs : List ℕ). bs ++ []) same)).1

    counted_one : (ss ts : List SigType) (first : ℕ) (a b c d bytes : List ℕ) → bytes ≡ first ∷ (a ++ b) → bytes ≡ first ∷ (c ++ d) → Packed a (length ss) → Packed c (length ts)
        → SpellsEach w ss b → SpellsEach w ts d → ss ≡ ts
    counted_one ss ts first a b c d bytes e f m n h k =
        let same : a ++ b ≡ c ++ d = ap (λ (bs : List ℕ). drop 1 bs) (sym e ∙ f) in
        to_end ss ts b d h k (number_one a c b d (length ss) (length ts) m n same).1

    pub one_locals : (ss ts : List SigType) (bytes : List ℕ) → SpellsLocals w ss bytes → SpellsLocals w ts bytes → ss ≡ ts
    one_locals ss ts bytes h k = counted_one ss ts 0x07 h.a h.b k.a k.b bytes h.whole k.whole h.counted k.counted h.each k.each

    pub one_arguments : (ss ts : List SigType) (bytes : List ℕ) → SpellsInstantiation w ss bytes → SpellsInstantiation w ts bytes → ss ≡ ts
    one_arguments ss ts bytes h k = counted_one ss ts 0x0A h.a h.b k.a k.b bytes h.whole k.whole h.counted k.counted h.each k.each

    -- what bounds are asked of
    pub one_method : (s t : MethodSig) (bytes : List ℕ) → SpellsMethod w s bytes → SpellsMethod w t bytes → (s.generic ≡ t.generic) × (s.ret ≡ t.ret) × (s.params ≡ t.params)
    one_method s t bytes h k =
        let all = sym h.whole ∙ k.whole in
        let head : method_byte s ≡ method_byte t = ap (λ (bs : List ℕ). slice_index bs 0) all in
        let tail : h.a ++ (h.b ++ (h.c ++ h.d)) ≡ k.a ++ (k.b ++ (k.c ++ k.d)) = ap (λ (bs : List ℕ). drop 1 bs) all in
        let bit = same_bit s.vararg s.has_this s.explicit_this t.vararg t.has_this t.explicit_this (s.generic == 0) (t.generic == 0) head in
        let generic = generic_one s.generic t.generic h.a k.a (h.b ++ (h.c ++ h.d)) (k.b ++ (k.c ++ k.d)) bit h.generic k.generic tail in
        let count = number_one h.b k.b (h.c ++ h.d) (k.c ++ k.d) (length s.params) (length t.params) h.counted k.counted generic.1 in
        let ret = one_type owners s.ret t.ret h.c k.c h.d k.d h.ret k.ret count.1 in
        (generic.0, ret.1, params_one s.sentinel t.sentinel s.params t.params h.d k.d h.params k.params ret.2)
