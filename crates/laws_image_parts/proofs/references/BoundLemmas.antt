-- Whatever signature a row has is in bounds: it is the one that was written, and that is.
use Rattle.std.proofs.Common.{◌≡◌, inl, inr, sym, subst, ℕ, zero, suc, ◌+◌, ◌≤◌, max, List, [], ◌∷◌, ◌++◌, All, map, length, Option, Some}
use Rattle.std.specs.Prelude.{slice_get}
use Rattle.std.specs.List.{AllByRecursion, AllZip, flat_map}
use Rattle.std.proofs.lemmas.Option.{same_Some}
use Rattle.assembly_tree.specs.declared.assembly.Assembly.{Assembly}
use Rattle.assembly_tree.specs.declared.members.Field.{Field}
use Rattle.assembly_tree.specs.declared.members.Method.{Method}
use Rattle.image_model.specs.Terms.{HasRanks, max_count}
use Rattle.sig_codec.specs.Signature.{max_depth, max_nodes, SpellsField, SpellsMethod, SpellsLocals, SpellsInstantiation}
use Rattle.sig_codec.specs.Spelling.{Notation, reading, SpellsType}
use Rattle.sig_codec.specs.Tokens.{GivesBack}
use Rattle.type_terms.specs.Depth.{depth, largest}
use Rattle.type_terms.specs.Nodes.{nodes, list_nodes}
use Rattle.type_terms.specs.declared.reference.MethodSig.{MethodSig}
use Rattle.type_terms.specs.declared.term.Owner.{Owner}
use Rattle.type_terms.specs.declared.term.SigType.{SigType}
use Rattle.image_tokens.specs.Bounds.{IsTypeInBounds, AreTypesInBounds, IsMethodInBounds}
use Rattle.image_tokens.specs.Loaded.{AreUnits}
use Rattle.image_tokens.specs.References.{tokens_of, HasSignature, IsTextToken, IsMemberSignature, IsMemberInBounds, AreKnown}
use Rattle.image_tokens.specs.declared.references.References.{References}
use Rattle.image_tokens.specs.declared.row_set.Cells.{Cells}
use Rattle.image_tokens.proofs.NameLemmas.{all_weaker}
use Rattle.image_members.specs.DeclaredMembers.{owned, class_fields, class_methods, IsFieldOf, IsMethodOf}
use Rattle.image_rows.specs.Filled.{HasDeclared}
use Rattle.image_members.specs.declared.classes.Class.{Class}
use Rattle.laws_image_parts.specs.names.Owners.{SpecsAreReadable}
use Rattle.laws_image_parts.proofs.names.OneToken.{OneBlob, OneType}
use Rattle.laws_image_parts.proofs.names.SignatureLemmas.{Rereads}
use Rattle.laws_image_parts.specs.namings.Readable.{AreReadableIn, TextsAreUnits}
use Rattle.laws_image_parts.proofs.namings.MemberKinds.{no_both}
use Rattle.laws_writable_trees.specs.Laws.{HasMembersInBounds}
use Rattle.laws_writable_trees.proofs.Each.{each_joined, each_apart, each_mapped, each_unflat}
use Rattle.laws_image_parts.specs.references.InBounds.{AreInBounds}
use Rattle.laws_image_parts.proofs.references.OneSpelling.{one_field, one_method, one_locals, one_arguments}

-- what a method's signature is asked goes by its parts
same_bounds : (s t : MethodSig) → s.generic ≡ t.generic → s.ret ≡ t.ret → s.params ≡ t.params → IsMethodInBounds s → IsMethodInBounds t
same_bounds s t generic ret params h = record {
  low = subst (λ (ps : List SigType). max (depth t.ret) (largest (map depth ps)) ≤ max_depth) params (subst (λ (x : SigType). max (depth x) (largest (map depth s.params)) ≤ max_depth) ret h.low);
  small = subst (λ (ps : List SigType). nodes t.ret + list_nodes ps ≤ max_nodes) params (subst (λ (x : SigType). nodes x + list_nodes s.params ≤ max_nodes) ret h.small);
  bounds = record {
    generic = subst (λ (n : ℕ). n ≤ max_count) generic h.bounds.generic;
    params = subst (λ (ps : List SigType). length ps ≤ max_count) params h.bounds.params;
    ret = subst HasRanks ret h.bounds.ret;
    ranks = subst (All HasRanks) params h.bounds.ranks;
  };
}

-- ---- rows of types

module _ (r : References) (known : AreKnown r) where
  -- where a signature is that of one type
  pub specs_bounds : ((t u : SigType) (blob : ℕ) → HasSignature SpellsType r t blob → HasSignature SpellsType r u blob → t ≡ u)
      → AreReadableIn SpellsType IsTypeInBounds r r.referred.specs (λ c. c.first)
  specs_bounds one k cells t at h =
      let is = known.rows.specs k cells at in
      let own = subst (λ (c : Cells). HasSignature SpellsType r is.of c.first) (sym is.are) is.signature in
      subst IsTypeInBounds (one is.of t cells.first own h) is.in_bounds

  pub specs_readable : AreReadableIn SpellsType IsTypeInBounds r r.referred.specs (λ c. c.first) → SpecsAreReadable r
  specs_readable bounds k cells t at h = let b = bounds k cells t at h in (b.low, b.small)

  texts_are_units : TextsAreUnits r
  texts_are_units = all_weaker (λ e. IsTextToken r e.0 e.1) (λ e. AreUnits e.0) r.known.texts (λ e h. h.are_units) known.texts

-- ---- declared rows

zipped : {X : Type 0} (P : Cells → X → Type 0) (Q : X → Type 0) (rows : List Cells) (xs : List X) → AllZip P rows xs → AllByRecursion Q xs → (k : ℕ) (c : Cells)
    → slice_get rows k ≡ Some c → (x : X) × P c x × Q x
zipped P Q [] xs z h k c at = absurd cc
zipped P Q (r ∷ rows) [] z h k c at = absurd z
zipped P Q (r ∷ rows) (x ∷ xs) z h zero c at = (x, subst (λ (d : Cells). P d x) (same_Some r c at) z.0, h.0)
zipped P Q (r ∷ rows) (x ∷ xs) z h (suc k) c at = zipped P Q rows xs z.1 h.1 k c at

each_owned : {X : Type 0} (P : X → Type 0) (row : ℕ) (lists : List (List X)) → AllByRecursion (AllByRecursion P) lists → AllByRecursion (λ (e : ℕ × X). P e.1) (owned row lists)
each_owned P row [] h = tt
each_owned {X = X} P row (xs ∷ more) h =
    each_joined (λ (e : ℕ × X). P e.1) (map (λ (x : X). (row, x)) xs) (owned (row + 1) more)
    (each_mapped (λ (e : ℕ × X). P e.1) (λ (x : X). (row, x)) xs h.0) (each_owned P (row + 1) more h.1)

all_owned : {X : Type 0} (P : X → Type 0) (own : List X) (of : Class → List X) (classes : List Class) → AllByRecursion P (own ++ flat_map of classes)
    → AllByRecursion (λ (e : ℕ × X). P e.1) (owned 1 (own ∷ map of classes))
all_owned P own of classes h =
    let parts = each_apart P own (flat_map of classes) h in
    each_owned P 1 (own ∷ map of classes) (parts.0, each_mapped (AllByRecursion P) of classes (each_unflat P of classes parts.1))

-- ---- all rows

module _ (r : References) (known : AreKnown r) (blob : OneBlob) (one_type : OneType) (owners : ℕ → Option Owner) (back : GivesBack (tokens_of r) owners) where
  -- what was written, as it reads
  reads : {X : Type 0} (Spells : Notation → X → List ℕ → Type 0) → Rereads Spells → (x : X) (at : ℕ) (h : HasSignature Spells r x at) → Spells (reading owners) x h.bytes
  reads Spells rereads x at h = rereads h.earlier owners (λ o token is. back o token (h.within o token is)) x h.bytes h.spells

  -- two signatures in one place, as they read
  reads_as : {X Y : Type 0} (Spells : Notation → X → List ℕ → Type 0) (Other : Notation → Y → List ℕ → Type 0) → Rereads Spells → (x : X) (y : Y) (at : ℕ)
      → (h : HasSignature Spells r x at) (k : HasSignature Other r y at) → Spells (reading owners) x k.bytes
  reads_as Spells Other rereads x y at h k =
      subst (Spells (reading owners) x) (blob r.heaps.blobs.bytes at h.bytes k.bytes h.holds.there k.holds.there) (reads Spells rereads x at h)

  module _ (fields : Rereads SpellsField) (methods : Rereads SpellsMethod) (locals : Rereads SpellsLocals) (arguments : Rereads SpellsInstantiation) where
    same_field : (s t : SigType) (at : ℕ) → HasSignature SpellsField r s at → HasSignature SpellsField r t at → s ≡ t
    same_field s t at h k = one_field owners one_type s t k.bytes (reads_as SpellsField SpellsField fields s t at h k) (reads SpellsField fields t at k)

    method_bounds : (s t : MethodSig) (at : ℕ) → HasSignature SpellsMethod r s at → HasSignature SpellsMethod r t at → IsMethodInBounds s → IsMethodInBounds t
    method_bounds s t at h k bounds =
        let one = one_method owners one_type s t k.bytes (reads_as SpellsMethod SpellsMethod methods s t at h k) (reads SpellsMethod methods t at k) in
        same_bounds s t one.0 one.1 one.2 bounds

    locals_bounds : AreReadableIn SpellsLocals AreTypesInBounds r r.referred.locals (λ c. c.first)
    locals_bounds k cells ts at h =
        let is = known.rows.locals k cells at in
        let own = subst (λ (c : Cells). HasSignature SpellsLocals r is.locals c.first) (sym is.are) is.signature in
        let same = one_locals owners one_type is.locals ts h.bytes (reads_as SpellsLocals SpellsLocals locals is.locals ts cells.first own h) (reads SpellsLocals locals ts cells.first h) in
        subst AreTypesInBounds same is.in_bounds

    arguments_bounds : AreReadableIn SpellsInstantiation AreTypesInBounds r r.referred.instances (λ c. c.second)
    arguments_bounds k cells ts at h =
        let is = known.rows.instances k cells at in
        let same = one_arguments owners one_type is.arguments ts h.bytes (reads_as SpellsInstantiation SpellsInstantiation arguments is.arguments ts cells.second is.signature h)
        (reads SpellsInstantiation arguments ts cells.second h) in
        subst AreTypesInBounds same is.in_bounds

    member_field : (at : ℕ) (s : IsMemberSignature r at) → IsMemberInBounds r at s → (t : SigType) → HasSignature SpellsField r t at → IsTypeInBounds t
    member_field at (inl s) bounds t h =
        absurd (no_both (reading owners) (reading owners) t s.0 s.1.bytes (reads_as SpellsField SpellsMethod fields t s.0 at h s.1) (reads SpellsMethod methods s.0 at s.1))
    member_field at (inr s) bounds t h = subst IsTypeInBounds (same_field s.0 t at s.1 h) bounds

    member_method : (at : ℕ) (s : IsMemberSignature r at) → IsMemberInBounds r at s → (t : MethodSig) → HasSignature SpellsMethod r t at → IsMethodInBounds t
    member_method at (inl s) bounds t h = method_bounds s.0 t at s.1 h bounds
    member_method at (inr s) bounds t h =
        absurd (no_both (reading owners) (reading owners) s.0 t s.1.bytes (reads SpellsField fields s.0 at s.1) (reads_as SpellsMethod SpellsField methods t s.0 at h s.1))

    module _ (a : Assembly) (classes : List Class) (declared : HasDeclared a classes r) (members : HasMembersInBounds a classes) where
      declared_field : AreReadableIn SpellsField IsTypeInBounds r r.declared.fields (λ c. c.third)
      declared_field k cells t at h =
          let all = all_owned (λ (f : Field). IsTypeInBounds f.of) a.fields class_fields classes members.fields in
          let found = zipped (IsFieldOf r) (λ (e : ℕ × Field). IsTypeInBounds e.1.of) r.declared.fields (owned 1 (a.fields ∷ map class_fields classes)) declared.fields all k cells at in
          subst IsTypeInBounds (same_field found.0.1.of t cells.third found.1.signature h) found.2

      declared_method : AreReadableIn SpellsMethod IsMethodInBounds r r.declared.methods (λ c. c.third)
      declared_method k cells t at h =
          let all = all_owned (λ (m : Method). IsMethodInBounds m.sig) a.methods class_methods classes members.methods in
          let found = zipped (IsMethodOf r) (λ (e : ℕ × Method). IsMethodInBounds e.1.sig) r.declared.methods (owned 1 (a.methods ∷ map class_methods classes)) declared.methods all k cells at in
          method_bounds found.0.1.sig t cells.third found.1.signature h found.2

      pub in_bounds : AreReadableIn SpellsType IsTypeInBounds r r.referred.specs (λ c. c.first) → AreInBounds r
      in_bounds specs = record {
        specs = specs;
        locals = locals_bounds;
        fields = declared_field;
        methods = declared_method;
        member_fields = λ k cells t at h. let m = known.rows.members k cells at in member_field cells.third m.signature m.in_bounds t h;
        member_methods = λ k cells t at h. let m = known.rows.members k cells at in member_method cells.third m.signature m.in_bounds t h;
        arguments = arguments_bounds;
        texts = texts_are_units r known;
      }
