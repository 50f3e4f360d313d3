-- What can be written still can as more comes; its parts; and what has a spelling has one as more tokens are given.
use Rattle.std.proofs.Common.{◌≡◌, subst, ℕ, ℤ, ◌^◌, ◌<◌, Bool, List, ◌∷◌, length, Option, Some}
use Rattle.type_terms.specs.declared.name.TypeName.{TypeName}
use Rattle.type_terms.specs.declared.term.Owner.{Owner, Name, out-Owner}
use Rattle.type_terms.specs.declared.term.Owner.TheVariants as owners
use Rattle.type_terms.specs.declared.term.Owner.TheOpen as layer
use Rattle.type_terms.specs.declared.term.SigType.{SigType, out-SigType}
use Rattle.sig_codec.specs.Spellable.{HasToken, HasDeclaredToken, CanBePacked, IsShape, HasSpelling, HasParts, HaveSpellings}
use Rattle.sig_codec.specs.Spellable as spellable
use Rattle.sig_codec.specs.Spelling.{Layer}
use Rattle.image_tokens.specs.Bounds.{IsTypeInBounds}
use Rattle.image_tokens.specs.References.{Grows, Widens, tokens_of}
use Rattle.image_tokens.specs.Writable.{CanBeNamed, IsWritable, IsLayerWritable, IsOwnerWritable, IsOwnerLayerWritable, AreWritable}
use Rattle.image_tokens.specs.Writable as w
use Rattle.image_tokens.specs.declared.references.References.{References}
use Rattle.image_tokens.proofs.GrowthLemmas.{widened, tokens_kept}
use Rattle.image_tokens.proofs.WidenedLemmas.{wide_name}

-- ---- as more comes

module _ (a b : References) (g : Widens a b) where
  mutual
    type_can : {t : SigType} → IsWritable a t → IsWritable b t
    type_can (w.made h) = w.made (layer_can h)

    layer_can : {l : Layer} → IsLayerWritable a l → IsLayerWritable b l
    layer_can w.prim = w.prim
    layer_can (w.class {name = n} h) = w.class (wide_name a b g n h)
    layer_can (w.value {name = n} h) = w.value (wide_name a b g n h)
    layer_can (w.inst {name = n} h s c k) = w.inst (wide_name a b g n h) s c (types_can k)
    layer_can (w.var lt) = w.var lt
    layer_can (w.mvar lt) = w.mvar lt
    layer_can (w.sz_array h) = w.sz_array (type_can h)
    layer_can (w.array h s) = w.array (type_can h) s
    layer_can (w.by_ref h) = w.by_ref (type_can h)
    layer_can (w.pointer h) = w.pointer (type_can h)
    layer_can (w.modified o h) = w.modified (owner_can o) (type_can h)
    layer_can (w.pinned h) = w.pinned (type_can h)

    owner_can : {o : Owner} → IsOwnerWritable a o → IsOwnerWritable b o
    owner_can (w.made_owner h) = w.made_owner (owner_layer_can h)

    owner_layer_can : {l : layer.Owner-F Owner SigType} → IsOwnerLayerWritable a l → IsOwnerLayerWritable b l
    owner_layer_can (w.name {n = n} h) = w.name (wide_name a b g n h)
    owner_layer_can (w.spec h k) = w.spec (type_can h) k

    types_can : {ts : List SigType} → AreWritable a ts → AreWritable b ts
    types_can w.none = w.none
    types_can (w.more h k) = w.more (type_can h) (types_can k)

  pub wide_writable : (t : SigType) → IsWritable a t → IsWritable b t
  wide_writable t h = type_can h

  pub wide_writable_owner : (o : Owner) → IsOwnerWritable a o → IsOwnerWritable b o
  wide_writable_owner o h = owner_can h

  pub wide_writable_each : (ts : List SigType) → AreWritable a ts → AreWritable b ts
  wide_writable_each ts h = types_can h

module _ (a b : References) (g : Grows a b) where
  pub name_can : (name : TypeName) → CanBeNamed a name → CanBeNamed b name
  name_can = wide_name a b (widened a b g)

  pub still_writable : (t : SigType) → IsWritable a t → IsWritable b t
  still_writable = wide_writable a b (widened a b g)

  pub still_writable_owner : (o : Owner) → IsOwnerWritable a o → IsOwnerWritable b o
  still_writable_owner = wide_writable_owner a b (widened a b g)

  pub still_writable_each : (ts : List SigType) → AreWritable a ts → AreWritable b ts
  still_writable_each = wide_writable_each a b (widened a b g)

-- ---- the parts

module _ (r : References) where
  parts : (t : SigType) → IsWritable r t → IsLayerWritable r (out-SigType t)
  parts t (w.made h) = h

  pub parts_at : (t u : SigType) (l : Layer) → t ≡ u → out-SigType u ≡ l → IsWritable r t → IsLayerWritable r l
  parts_at t u l e f h = subst (IsLayerWritable r) f (subst (λ (x : SigType). IsLayerWritable r (out-SigType x)) e (parts t h))

  owner_parts : (o : Owner) → IsOwnerWritable r o → IsOwnerLayerWritable r (out-Owner o)
  owner_parts o (w.made_owner h) = h

  pub owner_parts_at : (o u : Owner) (l : layer.Owner-F Owner SigType) → o ≡ u → out-Owner u ≡ l → IsOwnerWritable r o → IsOwnerLayerWritable r l
  owner_parts_at o u l e f h = subst (IsOwnerLayerWritable r) f (subst (λ (x : Owner). IsOwnerLayerWritable r (out-Owner x)) e (owner_parts o h))

  pub of_class : (n : TypeName) → IsLayerWritable r (layer.Class n) → CanBeNamed r n
  of_class n (w.class h) = h

  pub of_value : (n : TypeName) → IsLayerWritable r (layer.Value n) → CanBeNamed r n
  of_value n (w.value h) = h

  pub of_var : (k : ℕ) → IsLayerWritable r (layer.Var k) → k < 2 ^ 16
  of_var k (w.var h) = h

  pub of_mvar : (k : ℕ) → IsLayerWritable r (layer.MVar k) → k < 2 ^ 16
  of_mvar k (w.mvar h) = h

  pub of_sz_array : (of : SigType) → IsLayerWritable r (layer.SzArray of) → IsWritable r of
  of_sz_array of (w.sz_array h) = h

  pub of_by_ref : (of : SigType) → IsLayerWritable r (layer.ByRef of) → IsWritable r of
  of_by_ref of (w.by_ref h) = h

  pub of_pointer : (of : SigType) → IsLayerWritable r (layer.Pointer of) → IsWritable r of
  of_pointer of (w.pointer h) = h

  pub of_pinned : (of : SigType) → IsLayerWritable r (layer.Pinned of) → IsWritable r of
  of_pinned of (w.pinned h) = h

  pub of_array : (of : SigType) (k : ℕ) (s : List ℕ) (l : List ℤ) → IsLayerWritable r (layer.Array of k s l) → IsWritable r of × IsShape k s l
  of_array of k s l (w.array h q) = (h, q)

  pub of_modified : (q : Bool) (by : Owner) (of : SigType) → IsLayerWritable r (layer.Mod q by of) → IsOwnerWritable r by × IsWritable r of
  of_modified q by of (w.modified h k) = (h, k)

  pub of_inst : (v : Bool) (n : TypeName) (args : List SigType) → IsLayerWritable r (layer.Inst v n args)
      → CanBeNamed r n × (0 < length args) × CanBePacked (length args) × AreWritable r args
  of_inst v n args (w.inst h s c k) = (h, s, c, k)

  pub of_name : (n : TypeName) → IsOwnerLayerWritable r (layer.Name n) → CanBeNamed r n
  of_name n (w.name h) = h

  pub of_spec : (t : SigType) → IsOwnerLayerWritable r (layer.Spec t) → IsWritable r t
  of_spec t (w.spec h k) = h

  pub spec_bounds : (t : SigType) → IsOwnerLayerWritable r (layer.Spec t) → IsTypeInBounds t
  spec_bounds t (w.spec h k) = k

  pub of_more : (t : SigType) (ts : List SigType) → AreWritable r (t ∷ ts) → IsWritable r t × AreWritable r ts
  of_more t ts (w.more h k) = (h, k)

-- ---- spellings, as more tokens are given

module _ (tokens more : Owner → Option ℕ) (widens : (o : Owner) (n : ℕ) → tokens o ≡ Some n → more o ≡ Some n) where
  token_has : (o : Owner) → HasToken tokens o → HasToken more o
  token_has o h = (h.0, widens o h.0 h.1, h.2)

  declared_has : (n : TypeName) → HasDeclaredToken tokens n → HasDeclaredToken more n
  declared_has n h = (h.0, widens (owners.Name n) h.0 h.1, h.2, h.3)

  mutual
    type_has : {t : SigType} → HasSpelling tokens t → HasSpelling more t
    type_has (spellable.made h) = spellable.made (layer_has h)

    layer_has : {l : Layer} → HasParts tokens l → HasParts more l
    layer_has spellable.prim = spellable.prim
    layer_has (spellable.class {name = n} h) = spellable.class (declared_has n h)
    layer_has (spellable.value {name = n} h) = spellable.value (declared_has n h)
    layer_has (spellable.inst {name = n} h s c k) = spellable.inst (token_has (owners.Name n) h) s c (each_has k)
    layer_has (spellable.var lt) = spellable.var lt
    layer_has (spellable.mvar lt) = spellable.mvar lt
    layer_has (spellable.sz_array h) = spellable.sz_array (type_has h)
    layer_has (spellable.array h s) = spellable.array (type_has h) s
    layer_has (spellable.by_ref h) = spellable.by_ref (type_has h)
    layer_has (spellable.pointer h) = spellable.pointer (type_has h)
    layer_has (spellable.modified {by = by} o h) = spellable.modified (token_has by o) (type_has h)
    layer_has (spellable.pinned h) = spellable.pinned (type_has h)

    each_has : {ts : List SigType} → HaveSpellings tokens ts → HaveSpellings more ts
    each_has spellable.none = spellable.none
    each_has (spellable.more h k) = spellable.more (type_has h) (each_has k)

  pub spelling_widens : (t : SigType) → HasSpelling tokens t → HasSpelling more t
  spelling_widens t h = type_has h

  pub spellings_widen : (ts : List SigType) → HaveSpellings tokens ts → HaveSpellings more ts
  spellings_widen ts h = each_has h

-- the same from one state to a later one
pub still_spelled : (a b : References) → Grows a b → (t : SigType) → HasSpelling (tokens_of a) t → HasSpelling (tokens_of b) t
still_spelled a b g t h = spelling_widens (tokens_of a) (tokens_of b) (λ o n e. tokens_kept a b g o n e) t h

pub all_still_spelled : (a b : References) → Grows a b → (ts : List SigType) → HaveSpellings (tokens_of a) ts → HaveSpellings (tokens_of b) ts
all_still_spelled a b g ts h = spellings_widen (tokens_of a) (tokens_of b) (λ o n e. tokens_kept a b g o n e) ts h
