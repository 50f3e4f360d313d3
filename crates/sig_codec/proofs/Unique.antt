-- Laws of spellings: one value, one end, from a numberer's map to a namer's.
use Rattle.std.proofs.Common.{◌≡◌, ℕ, zero, suc, ◌+◌, ◌-◌, ◌/◌, ◌%◌, max, ◌^◌, ◌<◌, inl, inr, cond, nat_lt, nat_eq, ℤ, List, [], ◌∷◌, ◌++◌, length, take, drop, Option, Some, None, sym, ap, subst, ◌∙◌, arith}
use Rattle.std.proofs.lemmas.Grind.{common_steps}
use Rattle.std.proofs.lemmas.List.{append_cancel_right, take-append-drop}
use Rattle.std.specs.List.{AllByRecursion}
use Rattle.il_base.specs.Numbers.{Packed, PackedSigned, IsTurned, packed_bits}
use Rattle.type_terms.specs.declared.name.TypeName.{TypeName}
use Rattle.type_terms.specs.declared.reference.MethodSig.{MethodSig}
use Rattle.type_terms.specs.declared.term.Owner.{Owner, Name}
use Rattle.type_terms.specs.declared.term.SigType.{SigType}
use Rattle.type_terms.specs.Depth.{depth}
use Rattle.type_terms.specs.Nodes.{nodes}
use Rattle.sig_codec.specs.Tokens.{GivesBack, IsTypeToken, token_of_coded, type_defs, type_refs, type_specs}
use Rattle.sig_codec.specs.Spelling as spelling
use Rattle.sig_codec.specs.Spelling.{Layer, Notation, reading, shortest, writing, SpellsOwner, SpellsName, SpellsEachBy, SpellsCounted, SpellsShape, SpellsType, SpellsLayer, SpellsEach}
use Rattle.sig_codec.specs.Signature.{SpellsGeneric, SpellsParams, SpellsMethod, SpellsField, SpellsProperty, SpellsLocals, SpellsInstantiation, IsMethod, IsField, IsProperty, AreLocals, IsInstantiation}
use Rattle.sig_codec.specs.Spellable as spellable
use Rattle.sig_codec.specs.Spellable.{Renumbers, HasToken, HasDeclaredToken, CanBePacked, CanBePackedSigned, IsShape, HasSpelling, HasParts, HaveSpellings, IsSentinel, MethodHasSpelling, PropertyHasSpelling, LocalsHaveSpelling, InstantiationHasSpelling}
use Rattle.sig_codec.specs.Reading.{type_at}
use Rattle.sig_codec.proofs.Numbers.{some_is, chosen}
use Rattle.sig_codec.proofs.Again.{type_again}
use Rattle.sig_codec.proofs.Whole.{whole_field_again, whole_locals_again, whole_instantiation_again}
use Rattle.sig_codec.proofs.Methods.{whole_method_again, whole_property_again}

-- ---- one value and one end

pub no_type_begins : (owners : ℕ → Option Owner) (s t : SigType) (front other after beyond : List ℕ) → SpellsType (reading owners) s front → SpellsType (reading owners) t other
    → front ++ after ≡ other ++ beyond → (front ≡ other) × (s ≡ t) × (after ≡ beyond)
no_type_begins owners s t front other after beyond h k e =
    let d = max (depth s) (depth t) in
    let m = max (nodes s) (nodes t) in
    let one = type_again owners h d after m (omega arith) (omega arith) in
    let two = type_again owners k d beyond m (omega arith) (omega arith) in
    let x : SigType × List ℕ × ℕ = (s, after, m - nodes s) in
    let y : SigType × List ℕ × ℕ = (t, beyond, m - nodes t) in
    let is = some_is x y (sym one ∙ ap (λ (b : List ℕ). type_at owners d b m) e ∙ two) in
    let same : after ≡ beyond = ap (λ (q : SigType × List ℕ × ℕ). q.1) is in
    (append_cancel_right front other beyond (ap (λ (r : List ℕ). front ++ r) (sym same) ∙ e), ap (λ (q : SigType × List ℕ × ℕ). q.0) is, same)

pub one_method : (owners : ℕ → Option Owner) (bytes : List ℕ) (s t : MethodSig) → IsMethod owners bytes s → IsMethod owners bytes t → s ≡ t
one_method owners bytes s t h k = some_is s t (sym (whole_method_again owners bytes s h) ∙ whole_method_again owners bytes t k)

pub one_field : (owners : ℕ → Option Owner) (bytes : List ℕ) (s t : SigType) → IsField owners bytes s → IsField owners bytes t → s ≡ t
one_field owners bytes s t h k = some_is s t (sym (whole_field_again owners bytes s h) ∙ whole_field_again owners bytes t k)

pub one_property : (owners : ℕ → Option Owner) (bytes : List ℕ) (s t : MethodSig) → IsProperty owners bytes s → IsProperty owners bytes t → s ≡ t
one_property owners bytes s t h k = some_is s t (sym (whole_property_again owners bytes s h) ∙ whole_property_again owners bytes t k)

pub one_locals : (owners : ℕ → Option Owner) (bytes : List ℕ) (s t : List SigType) → AreLocals owners bytes s → AreLocals owners bytes t → s ≡ t
one_locals owners bytes s t h k = some_is s t (sym (whole_locals_again owners bytes s h) ∙ whole_locals_again owners bytes t k)

pub one_instantiation : (owners : ℕ → Option Owner) (bytes : List ℕ) (s t : List SigType) → IsInstantiation owners bytes s → IsInstantiation owners bytes t → s ≡ t
one_instantiation owners bytes s t h k = some_is s t (sym (whole_instantiation_again owners bytes s h) ∙ whole_instantiation_again owners bytes t k)

-- ---- from one notation to another

module _ (w v : Notation) (number : (b : List ℕ) (n : ℕ) → w.number b n → v.number b n) (signed : (b : List ℕ) (z : ℤ) → w.signed b z → v.signed b z) (named : (t : ℕ) (o : Owner) → w.named t o → v.named t o) where
  owner_widens : (o : Owner) (bytes : List ℕ) → SpellsOwner w o bytes → SpellsOwner v o bytes
  owner_widens o bytes h = record { token = h.token; coded = h.coded; number = number bytes h.coded h.number; decoded = h.decoded; named = named h.token o h.named }

  name_widens : (n : TypeName) (bytes : List ℕ) → SpellsName w n bytes → SpellsName v n bytes
  unfolding owner_widens
  name_widens n bytes h = record { owner = owner_widens (Name n) bytes h.owner; declared = h.declared }

  each_by_widens : {X : Type 0} (P Q : List ℕ → X → Type 0) → ((b : List ℕ) (x : X) → P b x → Q b x) → (xs : List X) (bytes : List ℕ) → SpellsEachBy P xs bytes → SpellsEachBy Q xs bytes
  each_by_widens P Q f [] bytes h = h
  each_by_widens P Q f (x ∷ xs) bytes h = (h.0, h.1, h.2, f h.0 x h.3, each_by_widens P Q f xs h.1 h.4)

  counted_widens : {X : Type 0} (P Q : List ℕ → X → Type 0) → ((b : List ℕ) (x : X) → P b x → Q b x) → (xs : List X) (bytes : List ℕ) → SpellsCounted w P xs bytes → SpellsCounted v Q xs bytes
  counted_widens P Q f xs bytes h = record { count = h.count; each = h.each; whole = h.whole; counted = number h.count (length xs) h.counted; spelled_each = each_by_widens P Q f xs h.each h.spelled_each }

  shape_widens : (r : ℕ) (s : List ℕ) (l : List ℤ) (bytes : List ℕ) → SpellsShape w r s l bytes → SpellsShape v r s l bytes
  shape_widens r s l bytes h = record {
    a = h.a;
    b = h.b;
    c = h.c;
    whole = h.whole;
    ranked = number h.a r h.ranked;
    some = h.some;
    sized = counted_widens w.number v.number number s h.b h.sized;
    few_sizes = h.few_sizes;
    bounded = counted_widens w.signed v.signed signed l h.c h.bounded;
    few_bounds = h.few_bounds;
  }

  mutual
    type_widens : {t : SigType} {bytes : List ℕ} → SpellsType w t bytes → SpellsType v t bytes
    type_widens (spelling.made h) = spelling.made (layer_widens h)

    layer_widens : {l : Layer} {bytes : List ℕ} → SpellsLayer w l bytes → SpellsLayer v l bytes
    layer_widens (spelling.prim e) = spelling.prim e
    layer_widens (spelling.class {name = n} {a = a} e h) = spelling.class e (name_widens n a h)
    layer_widens (spelling.value {name = n} {a = a} e h) = spelling.value e (name_widens n a h)
    layer_widens (spelling.inst {name = n} {args = args} {a = a} {b = b} e o c s h) = spelling.inst e (owner_widens (Name n) a o) (number b (length args) c) s (each_widens h)
    layer_widens (spelling.var {n = n} {a = a} e h lt) = spelling.var e (number a n h) lt
    layer_widens (spelling.mvar {n = n} {a = a} e h lt) = spelling.mvar e (number a n h) lt
    layer_widens (spelling.sz_array e h) = spelling.sz_array e (type_widens h)
    layer_widens (spelling.array {rank = r} {sizes = s} {lower = l} {b = b} e h k) = spelling.array e (type_widens h) (shape_widens r s l b k)
    layer_widens (spelling.by_ref e h) = spelling.by_ref e (type_widens h)
    layer_widens (spelling.pointer e h) = spelling.pointer e (type_widens h)
    layer_widens (spelling.modified {by = by} {a = a} e o h) = spelling.modified e (owner_widens by a o) (type_widens h)
    layer_widens (spelling.pinned e h) = spelling.pinned e (type_widens h)

    each_widens : {ts : List SigType} {bytes : List ℕ} → SpellsEach w ts bytes → SpellsEach v ts bytes
    each_widens spelling.none = spelling.none
    each_widens (spelling.more e h k) = spelling.more e (type_widens h) (each_widens k)

  generic_widens : (n : ℕ) (bytes : List ℕ) → SpellsGeneric w n bytes → SpellsGeneric v n bytes
  generic_widens zero bytes h = h
  generic_widens (suc n) bytes h = number bytes (suc n) h

  params_widen : (k : Option ℕ) (ps : List SigType) (bytes : List ℕ) → SpellsParams w k ps bytes → SpellsParams v k ps bytes
  params_widen None ps bytes h = each_widens h
  params_widen (Some k) ps bytes h = (h.0, h.1, h.2, h.3, each_widens h.4, each_widens h.5)

  method_widens : (s : MethodSig) (bytes : List ℕ) → SpellsMethod w s bytes → SpellsMethod v s bytes
  method_widens s bytes h = record {
    a = h.a;
    b = h.b;
    c = h.c;
    d = h.d;
    whole = h.whole;
    explicit = h.explicit;
    generic = generic_widens s.generic h.a h.generic;
    counted = number h.b (length s.params) h.counted;
    ret = type_widens h.ret;
    params = params_widen s.sentinel s.params h.d h.params;
  }

  field_widens : (t : SigType) (bytes : List ℕ) → SpellsField w t bytes → SpellsField v t bytes
  field_widens t bytes h = (h.0, h.1, type_widens h.2)

  property_widens : (s : MethodSig) (bytes : List ℕ) → SpellsProperty w s bytes → SpellsProperty v s bytes
  property_widens s bytes h = record {
    a = h.a;
    b = h.b;
    c = h.c;
    whole = h.whole;
    no_explicit = h.no_explicit;
    no_vararg = h.no_vararg;
    no_generic = h.no_generic;
    no_sentinel = h.no_sentinel;
    counted = number h.a (length s.params) h.counted;
    ret = type_widens h.ret;
    params = each_widens h.params;
  }

  locals_widen : (ts : List SigType) (bytes : List ℕ) → SpellsLocals w ts bytes → SpellsLocals v ts bytes
  locals_widen ts bytes h = record { a = h.a; b = h.b; whole = h.whole; counted = number h.a (length ts) h.counted; each = each_widens h.each }

  instantiation_widens : (ts : List SigType) (bytes : List ℕ) → SpellsInstantiation w ts bytes → SpellsInstantiation v ts bytes
  instantiation_widens ts bytes h = record { a = h.a; b = h.b; whole = h.whole; some = h.some; counted = number h.a (length ts) h.counted; each = each_widens h.each }

module _ (tokens : Owner → Option ℕ) (owners : ℕ → Option Owner) (back : GivesBack tokens owners) where
  pub written_type : (t : SigType) (bytes : List ℕ) → SpellsType (writing tokens) t bytes → SpellsType (shortest owners) t bytes
  written_type t bytes h = type_widens (writing tokens) (shortest owners) (λ b n k. k) (λ b z k. k) (λ x o k. back o x k) h

  pub written_method : (s : MethodSig) (bytes : List ℕ) → SpellsMethod (writing tokens) s bytes → SpellsMethod (shortest owners) s bytes
  written_method = method_widens (writing tokens) (shortest owners) (λ b n k. k) (λ b z k. k) (λ x o k. back o x k)

  pub written_field : (t : SigType) (bytes : List ℕ) → SpellsField (writing tokens) t bytes → SpellsField (shortest owners) t bytes
  written_field = field_widens (writing tokens) (shortest owners) (λ b n k. k) (λ b z k. k) (λ x o k. back o x k)

  pub written_property : (s : MethodSig) (bytes : List ℕ) → SpellsProperty (writing tokens) s bytes → SpellsProperty (shortest owners) s bytes
  written_property = property_widens (writing tokens) (shortest owners) (λ b n k. k) (λ b z k. k) (λ x o k. back o x k)

  pub written_locals : (ts : List SigType) (bytes : List ℕ) → SpellsLocals (writing tokens) ts bytes → SpellsLocals (shortest owners) ts bytes
  written_locals = locals_widen (writing tokens) (shortest owners) (λ b n k. k) (λ b z k. k) (λ x o k. back o x k)

  pub written_instantiation : (ts : List SigType) (bytes : List ℕ) → SpellsInstantiation (writing tokens) ts bytes → SpellsInstantiation (shortest owners) ts bytes
  written_instantiation = instantiation_widens (writing tokens) (shortest owners) (λ b n k. k) (λ b z k. k) (λ x o k. back o x k)

module _ (owners : ℕ → Option Owner) where
  pub short_type : (t : SigType) (bytes : List ℕ) → SpellsType (shortest owners) t bytes → SpellsType (reading owners) t bytes
  short_type t bytes h = type_widens (shortest owners) (reading owners) (λ b n k. k.0) (λ b z k. k.0) (λ x o k. k) h

  pub short_method : (s : MethodSig) (bytes : List ℕ) → SpellsMethod (shortest owners) s bytes → SpellsMethod (reading owners) s bytes
  short_method = method_widens (shortest owners) (reading owners) (λ b n k. k.0) (λ b z k. k.0) (λ x o k. k)

  pub short_field : (t : SigType) (bytes : List ℕ) → SpellsField (shortest owners) t bytes → SpellsField (reading owners) t bytes
  short_field = field_widens (shortest owners) (reading owners) (λ b n k. k.0) (λ b z k. k.0) (λ x o k. k)

  pub short_property : (s : MethodSig) (bytes : List ℕ) → SpellsProperty (shortest owners) s bytes → SpellsProperty (reading owners) s bytes
  short_property = property_widens (shortest owners) (reading owners) (λ b n k. k.0) (λ b z k. k.0) (λ x o k. k)

  pub short_locals : (ts : List SigType) (bytes : List ℕ) → SpellsLocals (shortest owners) ts bytes → SpellsLocals (reading owners) ts bytes
  short_locals = locals_widen (shortest owners) (reading owners) (λ b n k. k.0) (λ b z k. k.0) (λ x o k. k)

  pub short_instantiation : (ts : List SigType) (bytes : List ℕ) → SpellsInstantiation (shortest owners) ts bytes → SpellsInstantiation (reading owners) ts bytes
  short_instantiation = instantiation_widens (shortest owners) (reading owners) (λ b n k. k.0) (λ b z k. k.0) (λ x o k. k)

-- ---- what is read can be written

packed_is_small : (bytes : List ℕ) (n : ℕ) → Packed bytes n → CanBePacked n
packed_is_small [] n h = absurd h
packed_is_small (a ∷ []) n h = omega (arith, h.0)
packed_is_small (a ∷ b ∷ []) n h = omega (arith, h.0)
packed_is_small (a ∷ b ∷ c ∷ []) n h = absurd h
packed_is_small (a ∷ b ∷ c ∷ d ∷ []) n h = h.0
packed_is_small (a ∷ b ∷ c ∷ d ∷ x ∷ more) n h = absurd h

signed_is_small : (bytes : List ℕ) (z : ℤ) → PackedSigned bytes z → CanBePackedSigned z
signed_is_small bytes z h = by_length bytes z h.0 h.2 h.1
  where
    by_length : (bytes : List ℕ) (z : ℤ) (t : ℕ) → Packed bytes t → IsTurned (packed_bits (length bytes)) z t → CanBePackedSigned z
    by_length [] z t h is = absurd h
    by_length (a ∷ []) z t h is = (let lo = is.low in let hi = is.high in (grind (arith, common_steps), grind (arith, common_steps)))
    by_length (a ∷ b ∷ []) z t h is = (let lo = is.low in let hi = is.high in (grind (arith, common_steps), grind (arith, common_steps)))
    by_length (a ∷ b ∷ c ∷ []) z t h is = absurd h
    by_length (a ∷ b ∷ c ∷ d ∷ []) z t h is = (is.low, is.high)
    by_length (a ∷ b ∷ c ∷ d ∷ x ∷ more) z t h is = absurd h

coded_is_type : (n token : ℕ) → token_of_coded n ≡ Some token → IsTypeToken token
coded_is_type n token e =
    let third : Option ℕ = cond (nat_eq (n % 4) 2) (Some (type_specs + n / 4)) None in
    let second : Option ℕ = cond (nat_eq (n % 4) 1) (Some (type_refs + n / 4)) third in
    let first : Option ℕ = cond (nat_eq (n % 4) 0) (Some (type_defs + n / 4)) second in
    elim (chosen (nat_lt n (2 ^ 26)) first None (Some token) e) [
      | inl h ↦
          let small : n < 2 ^ 26 = (let k = h.0 in grind (arith, common_steps)) in
          elim (chosen (nat_eq (n % 4) 0) (Some (type_defs + n / 4)) second (Some token) h.1) [
            | inl i ↦ let is = some_is (type_defs + n / 4) token i.1 in inr (inl (grind (arith, common_steps)))
            | inr i ↦ elim (chosen (nat_eq (n % 4) 1) (Some (type_refs + n / 4)) third (Some token) i.1) [
              | inl j ↦ let is = some_is (type_refs + n / 4) token j.1 in inl (grind (arith, common_steps))
              | inr j ↦ elim (chosen (nat_eq (n % 4) 2) (Some (type_specs + n / 4)) None (Some token) j.1) [
                | inl k ↦ let is = some_is (type_specs + n / 4) token k.1 in inr (inr (grind (arith, common_steps)))
                | inr k ↦ absurd (let x = k.1 in cc)
              ]
            ]
          ]
      | inr h ↦ absurd (let x = h.1 in cc)
    ]

each_by_all : {X : Type 0} (S : List ℕ → X → Type 0) (P : X → Type 0) → ((b : List ℕ) (x : X) → S b x → P x) → (xs : List X) (bytes : List ℕ) → SpellsEachBy S xs bytes → AllByRecursion P xs
each_by_all S P f [] bytes h = tt
each_by_all S P f (x ∷ xs) bytes h = (f h.0 x h.3, each_by_all S P f xs h.1 h.4)

module _ (owners : ℕ → Option Owner) (tokens : Owner → Option ℕ) (again : Renumbers owners tokens) where
  has_token : (o : Owner) (bytes : List ℕ) → SpellsOwner (reading owners) o bytes → HasToken tokens o
  has_token o bytes h = let a = again h.token o h.named (coded_is_type h.coded h.token h.decoded) in (a.0, a.1, a.2)

  has_declared : (n : TypeName) (bytes : List ℕ) → SpellsName (reading owners) n bytes → HasDeclaredToken tokens n
  has_declared n bytes h = let a = again h.owner.token (Name n) h.owner.named (coded_is_type h.owner.coded h.owner.token h.owner.decoded) in (a.0, a.1, a.2, a.3 h.declared)

  has_shape : (r : ℕ) (s : List ℕ) (l : List ℤ) (bytes : List ℕ) → SpellsShape (reading owners) r s l bytes → IsShape r s l
  has_shape r s l bytes h = record {
    some = h.some;
    few = packed_is_small h.a r h.ranked;
    few_sizes = h.few_sizes;
    each_size = each_by_all Packed CanBePacked packed_is_small s h.sized.each h.sized.spelled_each;
    few_bounds = h.few_bounds;
    each_bound = each_by_all PackedSigned CanBePackedSigned signed_is_small l h.bounded.each h.bounded.spelled_each;
  }

  mutual
    type_has : {t : SigType} {bytes : List ℕ} → SpellsType (reading owners) t bytes → HasSpelling tokens t
    type_has (spelling.made h) = spellable.made (layer_has h)

    layer_has : {l : Layer} {bytes : List ℕ} → SpellsLayer (reading owners) l bytes → HasParts tokens l
    layer_has (spelling.prim e) = spellable.prim
    layer_has (spelling.class {name = n} {a = a} e h) = spellable.class (has_declared n a h)
    layer_has (spelling.value {name = n} {a = a} e h) = spellable.value (has_declared n a h)
    layer_has (spelling.inst {name = n} {args = args} {a = a} {b = b} e o c s h) = spellable.inst (has_token (Name n) a o) s (packed_is_small b (length args) c) (each_has h)
    layer_has (spelling.var e h lt) = spellable.var lt
    layer_has (spelling.mvar e h lt) = spellable.mvar lt
    layer_has (spelling.sz_array e h) = spellable.sz_array (type_has h)
    layer_has (spelling.array {rank = r} {sizes = s} {lower = l} {b = b} e h k) = spellable.array (type_has h) (has_shape r s l b k)
    layer_has (spelling.by_ref e h) = spellable.by_ref (type_has h)
    layer_has (spelling.pointer e h) = spellable.pointer (type_has h)
    layer_has (spelling.modified {by = by} {a = a} e o h) = spellable.modified (has_token by a o) (type_has h)
    layer_has (spelling.pinned e h) = spellable.pinned (type_has h)

    each_has : {ts : List SigType} {bytes : List ℕ} → SpellsEach (reading owners) ts bytes → HaveSpellings tokens ts
    each_has spelling.none = spellable.none
    each_has (spelling.more e h k) = spellable.more (type_has h) (each_has k)

  pub has_type : (t : SigType) (bytes : List ℕ) → SpellsType (reading owners) t bytes → HasSpelling tokens t
  has_type t bytes h = type_has h

  have_both : (xs ys : List SigType) → HaveSpellings tokens xs → HaveSpellings tokens ys → HaveSpellings tokens (xs ++ ys)
  have_both [] ys h k = k
  have_both (x ∷ xs) ys h k = let f = front h in spellable.more f.0 (have_both xs ys f.1 k)
    where
      front : HaveSpellings tokens (x ∷ xs) → HasSpelling tokens x × HaveSpellings tokens xs
      front (spellable.more a b) = (a, b)

  params_have : (k : Option ℕ) (ps : List SigType) (bytes : List ℕ) → SpellsParams (reading owners) k ps bytes → HaveSpellings tokens ps × IsSentinel k ps
  params_have None ps bytes h = (each_has h, tt)
  params_have (Some k) ps bytes h = (subst (λ (x : List SigType). HaveSpellings tokens x) (take-append-drop k ps) (have_both (take k ps) (drop k ps) (each_has h.4) (each_has h.5)), h.3)

  generic_is_small : (n : ℕ) (bytes : List ℕ) → SpellsGeneric (reading owners) n bytes → CanBePacked n
  generic_is_small zero bytes h = omega arith
  generic_is_small (suc n) bytes h = packed_is_small bytes (suc n) h

  pub has_method : (s : MethodSig) (bytes : List ℕ) → SpellsMethod (reading owners) s bytes → MethodHasSpelling tokens s
  has_method s bytes h =
      let p = params_have s.sentinel s.params h.d h.params in
      record { explicit = h.explicit; generic = generic_is_small s.generic h.a h.generic; count = packed_is_small h.b (length s.params) h.counted; ret = type_has h.ret; params = p.0; sentinel = p.1 }

  pub has_property : (s : MethodSig) (bytes : List ℕ) → SpellsProperty (reading owners) s bytes → PropertyHasSpelling tokens s
  has_property s bytes h = record {
    no_explicit = h.no_explicit;
    no_vararg = h.no_vararg;
    no_generic = h.no_generic;
    no_sentinel = h.no_sentinel;
    count = packed_is_small h.a (length s.params) h.counted;
    ret = type_has h.ret;
    params = each_has h.params;
  }

  pub has_locals : (ts : List SigType) (bytes : List ℕ) → SpellsLocals (reading owners) ts bytes → LocalsHaveSpelling tokens ts
  has_locals ts bytes h = (packed_is_small h.a (length ts) h.counted, each_has h.each)

  pub has_instantiation : (ts : List SigType) (bytes : List ℕ) → SpellsInstantiation (reading owners) ts bytes → InstantiationHasSpelling tokens ts
  has_instantiation ts bytes h = (h.some, packed_is_small h.a (length ts) h.counted, each_has h.each)
