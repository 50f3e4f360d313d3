-- Signatures, references, locals and texts that an image has (II.22.25, II.22.29, II.22.36, II.23.2, II.24.2.4).
use Rattle.std.proofs.Common.{◌≡◌, ℕ, ◌++◌, true, ◌&&◌, List, [], ◌∷◌, take, drop, Option, Some, None, refl, sym, ◌∙◌, ap, subst}
use Rattle.std.proofs.lemmas.Bool.{and_from}
use Rattle.std.proofs.lemmas.List.{take-append-drop}
use Rattle.std.proofs.lemmas.List.Folds.{list_all-append}
use Rattle.std.specs.List.{list_all}
use Rattle.sig_codec.specs.Spelling.{reading}
use Rattle.sig_codec.specs.Signature.{SpellsParams, IsMethod, IsField, IsProperty}
use Rattle.type_terms.specs.declared.name.Scope.TheVariants.{Here}
use Rattle.type_terms.specs.declared.reference.FieldRef.{FieldRef}
use Rattle.type_terms.specs.declared.reference.MethodRef.{MethodRef}
use Rattle.type_terms.specs.declared.reference.MethodSig.{MethodSig}
use Rattle.type_terms.specs.declared.term.Owner.{Owner}
use Rattle.type_terms.specs.declared.term.SigType.{SigType}
use Rattle.assembly_tree.specs.WellFormedNames.{option_all}
use Rattle.body_codec.specs.Names.{NameMap}
use Rattle.image_model.specs.Streams.{user_of}
use Rattle.image_model.specs.Naming.{OwnsMethod, OwnsMember, NamesMethod, NamesField, NamesLocals, NamesText}
use Rattle.image_model.specs.Namings.{AreNamings}
use Rattle.listing_growth.specs.Held.{are_units, is_type_held, is_owner_held, is_signature_held, is_method_ref_held, is_field_ref_held}
use Rattle.formed_images.specs.Laws.{AreBytes}
use Rattle.formed_images.proofs.Bytes.{stream_bytes, blob_bytes}
use Rattle.held_images.proofs.Numbers.{front_bytes, units_fit}
use Rattle.held_images.proofs.Terms.{path_named, type_is_held, types_are_held, row_is_held}

module _ (image : List ℕ) (names : NameMap) (named : AreNamings image names) where
  -- ---- signatures

  params_held : (k : Option ℕ) (ps : List SigType) (bytes : List ℕ) → SpellsParams (reading names.owners) k ps bytes → list_all is_type_held ps ≡ true
  params_held None ps bytes s = types_are_held image names.owners named.owners s
  params_held (Some k) ps bytes s =
      ap (list_all is_type_held) (sym (take-append-drop k ps)) ∙ list_all-append is_type_held (take k ps) (drop k ps)
      ∙ and_from (list_all is_type_held (take k ps)) (list_all is_type_held (drop k ps)) (types_are_held image names.owners named.owners s.4) (types_are_held image names.owners named.owners s.5)

  pub field_held : (bytes : List ℕ) (of : SigType) → IsField names.owners bytes of → is_type_held of ≡ true
  field_held bytes of is = type_is_held image names.owners named.owners is.0.2

  pub method_held : (bytes : List ℕ) (s : MethodSig) → IsMethod names.owners bytes s → is_signature_held s ≡ true
  method_held bytes s is =
      and_from (is_type_held s.ret) (list_all is_type_held s.params) (type_is_held image names.owners named.owners is.0.ret) (params_held s.sentinel s.params is.0.d is.0.params)

  pub property_held : (bytes : List ℕ) (s : MethodSig) → IsProperty names.owners bytes s → is_signature_held s ≡ true
  property_held bytes s is =
      and_from (is_type_held s.ret) (list_all is_type_held s.params) (type_is_held image names.owners named.owners is.0.ret) (types_are_held image names.owners named.owners is.0.params)

  -- ---- references

  method_owner : {row : ℕ} {o : Owner} → OwnsMethod image row o → is_owner_held o ≡ true
  method_owner (OwnsMethod.owns there has path) = path_named Here path

  member_owner : {row : ℕ} {o : Owner} → OwnsMember image names.owners row o → is_owner_held o ≡ true
  member_owner (OwnsMember.by_type n is) = row_is_held image names.owners named.owners is
  member_owner (OwnsMember.by_method n is) = method_owner is

  record IsHeld (m : MethodRef) : Type 0 where
    owner : is_owner_held m.owner ≡ true
    sig : is_signature_held m.sig ≡ true
    args : option_all (list_all is_type_held) m.args ≡ true

  named_method : {token : ℕ} {m : MethodRef} → NamesMethod image names.owners token m → IsHeld m
  named_method (NamesMethod.defined {bytes = b} {sig = s} t there mine name blob is) = record { owner = method_owner mine; sig = method_held b s is; args = refl }
  named_method (NamesMethod.referred {bytes = b} {sig = s} t there mine name blob is) = record { owner = member_owner mine; sig = method_held b s is; args = refl }
  named_method (NamesMethod.instantiated t there coded of blob is) =
      let h = named_method of in
      record { owner = h.owner; sig = h.sig; args = types_are_held image names.owners named.owners is.0.each }

  pub method_is_held : (token : ℕ) (m : MethodRef) → names.methods token ≡ Some m → is_method_ref_held m ≡ true
  unfolding is_method_ref_held
  method_is_held token m e =
      let h = named_method ((named.methods token m).0 e) in
      and_from (is_owner_held m.owner && is_signature_held m.sig) (option_all (list_all is_type_held) m.args) (and_from (is_owner_held m.owner) (is_signature_held m.sig) h.owner h.sig) h.args

  named_field : {token : ℕ} {f : FieldRef} → NamesField image names.owners token f → is_field_ref_held f ≡ true
  unfolding is_field_ref_held
  named_field (NamesField.defined {bytes = b} {of = of} t there among path name blob is) = and_from _ (is_type_held of) (path_named Here path) (field_held b of is)
  named_field (NamesField.referred {owner = o} {bytes = b} {of = of} t there mine name blob is) = and_from (is_owner_held o) (is_type_held of) (member_owner mine) (field_held b of is)

  pub field_is_held : (token : ℕ) (f : FieldRef) → names.fields token ≡ Some f → is_field_ref_held f ≡ true
  field_is_held token f e = named_field ((named.fields token f).0 e)

  -- ---- locals and texts

  named_locals : {token : ℕ} {types : List SigType} → NamesLocals image names.owners token types → list_all is_type_held types ≡ true
  named_locals (NamesLocals.signed t there b is) = types_are_held image names.owners named.owners is.0.each

  pub locals_are_held : (token : ℕ) (types : List SigType) → names.locals token ≡ Some types → list_all is_type_held types ≡ true
  locals_are_held token types e = named_locals ((named.locals token types).0 e)

  named_text : AreBytes image → {token : ℕ} {units : List ℕ} → NamesText image token units → are_units units ≡ true
  named_text bytes (NamesText.entry b {index = index} t h e) =
      subst (λ o. option_all are_units o ≡ true) e
      (units_fit b (front_bytes b (h.0 ∷ []) (blob_bytes (user_of image) index (b ++ h.0 ∷ []) (stream_bytes image _ bytes) h.1)))

  pub text_is_held : AreBytes image → (token : ℕ) (units : List ℕ) → names.texts token ≡ Some units → are_units units ≡ true
  text_is_held bytes token units e = named_text bytes ((named.texts token units).0 e)
