-- Rows of members that have been found or added, and the tokens that fields and methods are given.
use Rattle.std.proofs.Common.{◌≡◌, ◌≢◌, ◌⊎◌, inl, inr, refl, sym, subst, ℕ, ◌+◌, ◌≤◌, List, [], ◌∷◌, ◌++◌, length, Some, Result, Ok, Err, arith}
use Rattle.std.specs.Prelude.{IfOk, OnOk}
use Rattle.assembly_tree.specs.Weight.{field_ref_weight, owner_weight, type_weight}
use Rattle.sig_codec.specs.Spelling.{Notation}
use Rattle.sig_codec.specs.Signature.{SpellsMethod, SpellsField}
use Rattle.type_terms.specs.declared.reference.FieldRef.{FieldRef}
use Rattle.type_terms.specs.declared.reference.MethodRef.{MethodRef}
use Rattle.type_terms.specs.declared.term.Owner.{Owner}
use Rattle.image_tokens.specs.Bounds.{IsTypeInBounds, IsMethodInBounds}
use Rattle.image_tokens.specs.Found.{token_in}
use Rattle.image_tokens.specs.KnownTokens.{methods_apart, fields_apart}
use Rattle.image_tokens.specs.Members.{member_cells, IsRowToken, of_declared, of_referred, Leaves, HasField, HasMethod}
use Rattle.image_tokens.specs.NameTokens.{Learns}
use Rattle.image_tokens.specs.References.{tokens_of, size, HasSignature, HasMemberToken, HasGenericToken, IsMethodToken, IsFieldToken, IsNameRow, IsSpecRow, IsLocalsRow, IsMemberSignature, IsMemberInBounds, IsReferredMember, IsInstanceRow, AreReferred, Grows, AreKnown}
use Rattle.image_tokens.specs.References as references
use Rattle.image_tokens.specs.Rows.{EachRow, AddsOneAtMost}
use Rattle.image_tokens.specs.Texts.{HoldsText}
use Rattle.image_tokens.specs.TypePaths.{GoesOn}
use Rattle.image_tokens.specs.declared.references.Referred.{Referred}
use Rattle.image_tokens.specs.declared.references.References.{References}
use Rattle.image_tokens.specs.declared.row_set.Cells.{Cells}
use Rattle.image_tokens.proofs.EachRowLemmas.{each_more}
use Rattle.image_tokens.proofs.WidenedLemmas.{RowsStill, wide_known}
use Rattle.image_tokens.proofs.GrowthLemmas.{widened, grows_refl, still, tokens_kept, signature_kept, method_kept}
use Rattle.image_tokens.proofs.LeavesLemmas.{members_grown, all_given, learns_either}
use Rattle.image_tokens.proofs.PathLemmas.{text_kept}

-- a member by its row
pub member_of : {X : Type 0} (Spells : Notation → X → List ℕ → Type 0) (r : References) (table : ℕ) (declared : List Cells) (o : Owner) (text : List ℕ) (x : X) (type name blob token : ℕ)
    → tokens_of r o ≡ Some type → HoldsText r.heaps.strings text name → HasSignature Spells r x blob → IsRowToken table declared r.referred.members type name blob token
    → HasMemberToken Spells r table declared o text x token
member_of Spells r table declared o text x type name blob token owner named signed (of_declared {row = row} at is) =
    references.of_declared owner at.0 (record { cells = record { first = _; second = name; third = blob }; at = at.1; parent_is = refl; name_is = named; signature = signed }) is
member_of Spells r table declared o text x type name blob token owner named signed (of_referred {row = row} at is) =
    references.of_referred owner (record { cells = record { first = _; second = name; third = blob }; at = at; parent_is = refl; name_is = named; signature = signed }) is

-- the rows of members, where one has come at most
members_come : (a b : References) (rows : List Cells) (owner : Owner) (token : ℕ) (text : List ℕ) (name blob : ℕ) → RowsStill b a
    → b.referred.names ≡ a.referred.names → b.referred.specs ≡ a.referred.specs → b.referred.members ≡ rows → b.referred.instances ≡ a.referred.instances → b.referred.locals ≡ a.referred.locals
    → tokens_of b owner ≡ Some token → HoldsText b.heaps.strings text name → text ≢ [] → (signed : IsMemberSignature b blob) → IsMemberInBounds b blob signed
    → AddsOneAtMost (member_cells token name blob) a.referred.members rows → AreReferred b
members_come a b rows owner token text name blob s n p m i l owned held some signed bounds adds = record {
  names = subst (EachRow (IsNameRow b)) (sym n) s.names;
  specs = subst (EachRow (IsSpecRow b)) (sym p) s.specs;
  members = subst (EachRow (IsReferredMember b)) (sym m)
      (each_more (IsReferredMember b) a.referred.members rows (member_cells token name blob) adds s.members
      (record { owner = owner; token = token; name = text; owner_is = owned; parent_is = refl; name_is = held; signature = signed; named = some; in_bounds = bounds }));
  instances = subst (EachRow (IsInstanceRow b)) (sym i) s.instances;
  locals = subst (EachRow (IsLocalsRow b)) (sym l) s.locals;
}

-- no row has come
pub unchanged_rows : (a b : References) → RowsStill b a → b.referred ≡ a.referred → AreReferred b
unchanged_rows a b s e = record {
  names = subst (λ (r : Referred). EachRow (IsNameRow b) r.names) (sym e) s.names;
  specs = subst (λ (r : Referred). EachRow (IsSpecRow b) r.specs) (sym e) s.specs;
  members = subst (λ (r : Referred). EachRow (IsReferredMember b) r.members) (sym e) s.members;
  instances = subst (λ (r : Referred). EachRow (IsInstanceRow b) r.instances) (sym e) s.instances;
  locals = subst (λ (r : Referred). EachRow (IsLocalsRow b) r.locals) (sym e) s.locals;
}

-- ---- fields

abbrev pub with_fields : References → List Cells → List (FieldRef × ℕ) → References
with_fields a rows fields = record {
  heaps = a.heaps;
  declared = a.declared;
  referred = record { names = a.referred.names; specs = a.referred.specs; members = rows; instances = a.referred.instances; locals = a.referred.locals };
  known = record { names = a.known.names; specs = a.known.specs; methods = a.known.methods; fields = fields; locals = a.known.locals; texts = a.known.texts };
}

fields_grow : (a : References) (rows : List Cells) (fields : List (FieldRef × ℕ)) → GoesOn a.referred.members rows → Learns a.known.fields fields → Grows a (with_fields a rows fields)
fields_grow a rows fields on l = let g = grows_refl a in record {
  strings = g.strings;
  blobs = g.blobs;
  user = g.user;
  declared = refl;
  names = g.names;
  specs = g.specs;
  members = on;
  instances = g.instances;
  locals = g.locals;
  known_names = g.known_names;
  known_specs = g.known_specs;
  known_methods = g.known_methods;
  known_fields = l;
  known_locals = g.known_locals;
  known_texts = g.known_texts;
}

pub field_given : {E : Type 0} (a : References) (rows : List Cells) (fields : List (FieldRef × ℕ)) (f : FieldRef) (type name blob token : ℕ) (r : Result ℕ E) → AreKnown a
    → tokens_of a f.owner ≡ Some type → HoldsText a.heaps.strings f.name name → HasSignature SpellsField a f.of blob → f.name ≢ [] → IsTypeInBounds f.of
    → IsRowToken 0x04 a.declared.fields rows type name blob token → GoesOn a.referred.members rows → length rows ≤ length a.referred.members + 1
    → AddsOneAtMost (member_cells type name blob) a.referred.members rows
    → IfOk r (λ given. token_in fields_apart fields f ≡ Some given) → OnOk r ((fields ≡ a.known.fields) ⊎ (fields ≡ a.known.fields ++ (f, token) ∷ []))
    → IfOk r (Leaves (HasField f) a (with_fields a rows fields) 12)
field_given a rows fields f type name blob token (Err e) known owner named signed some bounds at on more adds found kept = tt
field_given a rows fields f type name blob token (Ok given) known owner named signed some bounds at on more adds found kept =
    let b : References = with_fields a rows fields in
    let g : Grows a b = fields_grow a rows fields on (learns_either a.known.fields fields f token kept) in
    let s = still a b g known in
    let is : IsFieldToken b f token =
    member_of SpellsField b 0x04 b.declared.fields f.owner f.name f.of type name blob token (tokens_kept a b g f.owner type owner) (text_kept a.heaps.strings b.heaps.strings f.name name g.strings named)
    (signature_kept SpellsField a b f.of blob g signed) at in
    record {
      grows = g;
      known = record {
        few = s.few;
        names = s.names;
        specs = s.specs;
        methods = s.methods;
        fields = all_given (λ e. IsFieldToken b e.0 e.1) a.known.fields fields (f, token) s.fields is kept;
        locals = s.locals;
        texts = s.texts;
        rows = members_come a b rows f.owner type f.name name blob s.rows refl refl refl refl refl (tokens_kept a b g f.owner type owner)
            (text_kept a.heaps.strings b.heaps.strings f.name name g.strings named) some (inr (f.of, signature_kept SpellsField a b f.of blob g signed)) bounds adds;
      };
      room = members_grown a b more refl refl refl refl refl;
      is = found;
    }

-- ---- methods

abbrev pub with_members : References → List Cells → References
with_members a rows = record {
  heaps = a.heaps;
  declared = a.declared;
  referred = record { names = a.referred.names; specs = a.referred.specs; members = rows; instances = a.referred.instances; locals = a.referred.locals };
  known = a.known;
}

members_grow : (a : References) (rows : List Cells) → GoesOn a.referred.members rows → Grows a (with_members a rows)
members_grow a rows on = let g = grows_refl a in record {
  strings = g.strings;
  blobs = g.blobs;
  user = g.user;
  declared = refl;
  names = g.names;
  specs = g.specs;
  members = on;
  instances = g.instances;
  locals = g.locals;
  known_names = g.known_names;
  known_specs = g.known_specs;
  known_methods = g.known_methods;
  known_fields = g.known_fields;
  known_locals = g.known_locals;
  known_texts = g.known_texts;
}

pub generic_by_row : {E : Type 0} (a : References) (rows : List Cells) (m : MethodRef) (type name blob : ℕ) (r : Result ℕ E) → AreKnown a
    → tokens_of a m.owner ≡ Some type → HoldsText a.heaps.strings m.name name → HasSignature SpellsMethod a m.sig blob → m.name ≢ [] → IsMethodInBounds m.sig
    → IfOk r (IsRowToken 0x06 a.declared.methods rows type name blob) → GoesOn a.referred.members rows → length rows ≤ length a.referred.members + 1
    → AddsOneAtMost (member_cells type name blob) a.referred.members rows
    → IfOk r (Leaves (λ x. HasGenericToken x m) a (with_members a rows) 12)
generic_by_row a rows m type name blob (Err e) known owner named signed some bounds at on more adds = tt
generic_by_row a rows m type name blob (Ok token) known owner named signed some bounds at on more adds =
    let b : References = with_members a rows in
    let g : Grows a b = members_grow a rows on in
    record {
      grows = g;
      known = wide_known a b (widened a b g) known refl (members_come a b rows m.owner type m.name name blob (still a b g known).rows refl refl refl refl refl (tokens_kept a b g m.owner type owner)
          (text_kept a.heaps.strings b.heaps.strings m.name name g.strings named) some (inl (m.sig, signature_kept SpellsMethod a b m.sig blob g signed)) bounds adds);
      room = members_grown a b more refl refl refl refl refl;
      is = member_of SpellsMethod b 0x06 b.declared.methods m.owner m.name m.sig type name blob token (tokens_kept a b g m.owner type owner)
          (text_kept a.heaps.strings b.heaps.strings m.name name g.strings named) (signature_kept SpellsMethod a b m.sig blob g signed) at;
    }

abbrev pub with_methods : References → List (MethodRef × ℕ) → References
with_methods a methods = record {
  heaps = a.heaps;
  declared = a.declared;
  referred = a.referred;
  known = record { names = a.known.names; specs = a.known.specs; methods = methods; fields = a.known.fields; locals = a.known.locals; texts = a.known.texts };
}

methods_grow : (a : References) (methods : List (MethodRef × ℕ)) → Learns a.known.methods methods → Grows a (with_methods a methods)
methods_grow a methods l = let g = grows_refl a in record {
  strings = g.strings;
  blobs = g.blobs;
  user = g.user;
  declared = refl;
  names = g.names;
  specs = g.specs;
  members = g.members;
  instances = g.instances;
  locals = g.locals;
  known_names = g.known_names;
  known_specs = g.known_specs;
  known_methods = l;
  known_fields = g.known_fields;
  known_locals = g.known_locals;
  known_texts = g.known_texts;
}

pub method_given : {E : Type 0} (a : References) (methods : List (MethodRef × ℕ)) (m : MethodRef) (token : ℕ) (r : Result ℕ E) → AreKnown a → IsMethodToken a m token
    → IfOk r (λ given. token_in methods_apart methods m ≡ Some given) → OnOk r ((methods ≡ a.known.methods) ⊎ (methods ≡ a.known.methods ++ (m, token) ∷ []))
    → IfOk r (Leaves (HasMethod m) a (with_methods a methods) 0)
unfolding size
method_given a methods m token (Err e) known h found kept = tt
method_given a methods m token (Ok given) known h found kept =
    let b : References = with_methods a methods in
    let g : Grows a b = methods_grow a methods (learns_either a.known.methods methods m token kept) in
    let s = still a b g known in
    record {
      grows = g;
      known = record {
        few = s.few;
        names = s.names;
        specs = s.specs;
        methods = all_given (λ e. IsMethodToken b e.0 e.1) a.known.methods methods (m, token) s.methods (method_kept a b m token g h) kept;
        fields = s.fields;
        locals = s.locals;
        texts = s.texts;
        rows = unchanged_rows a b s.rows refl;
      };
      room = omega arith;
      is = found;
    }

-- what the parts of a reference to a field weigh
pub field_weighs : (f : FieldRef) → field_ref_weight f ≡ 64 + owner_weight f.owner + length f.name + type_weight f.of
unfolding field_ref_weight
field_weighs f = refl
