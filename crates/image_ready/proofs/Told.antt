-- What is kept tells the same of what is named as the maps that tell all.
use Rattle.std.proofs.Common.{◌≡◌, ℕ, ◌/◌, ◌%◌, ◌^◌, List, Option, Some, None, refl, sym, subst, arith}
use Rattle.type_terms.specs.declared.reference.MethodSig.{MethodSig}
use Rattle.type_terms.specs.declared.term.Owner.{Owner}
use Rattle.type_terms.specs.declared.term.SigType.{SigType}
use Rattle.body_codec.specs.Names.{NameMap}
use Rattle.image_model.specs.Bodies.{BodyNames}
use Rattle.image_model.specs.Naming.{RowOwner, IsToken, NamesOwner}
use Rattle.image_model.specs.Namings.{AreNamings}
use Rattle.image_model.specs.Rows.{HasRow}
use Rattle.image_model.specs.Terms.{FieldHas, MethodHas, PropertyHas}
use Rattle.image_model.specs.Tokens.{SignatureNames}
use Rattle.image_model.specs.Used.{RowNames}
use Rattle.image_namings.specs.Laws.{AgreeAt, HangOnTokens}
use Rattle.image_namings.proofs.Indexes.{no_reference}
use Rattle.image_namings.proofs.Owners.{table_is, row_is, as_token}
use Rattle.image_source.specs.Names.{names_of, owner_of_row}
use Rattle.image_ready.specs.Keeping.{IsNamed, Keeps}
use Rattle.image_ready.proofs.Uses.{spec_used}
use Rattle.kept_names.specs.declared.names.KeptNames.{KeptNames}

one_option : {X : Type 0} (o p : Option X) → ((x : X) → o ≡ Some x → p ≡ Some x) → ((x : X) → p ≡ Some x → o ≡ Some x) → o ≡ p
one_option None None f g = refl
one_option None (Some x) f g = g x refl
one_option (Some x) p f g = sym (f x refl)

module _ (image : List ℕ) (names : NameMap) (kept : KeptNames) (named : AreNamings image names) (keeps : Keeps image names kept) where
  token_of_parts : (token : ℕ) → IsToken token (token / 2 ^ 24) (token % 2 ^ 24)
  token_of_parts token = as_token token (token / 2 ^ 24) refl

  owner_there : (token : ℕ) (o : Owner) → IsNamed image (token / 2 ^ 24) (token % 2 ^ 24) → NamesOwner image names.owners token o → owner_of_row kept (token / 2 ^ 24) (token % 2 ^ 24) ≡ Some o
  owner_there token o n (NamesOwner.by_row {table = table} {row = row} t r) =
      keeps.owners (token / 2 ^ 24) (token % 2 ^ 24) o n
      (subst (λ (k : ℕ). RowOwner image names.owners (token / 2 ^ 24) k o) (sym (row_is token table row t)) (subst (λ (k : ℕ). RowOwner image names.owners k row o) (sym (table_is token table row t)) r))

  pub owners_agree : (token : ℕ) → IsNamed image (token / 2 ^ 24) (token % 2 ^ 24) → names.owners token ≡ (names_of kept).owners token
  owners_agree token n = one_option (names.owners token) ((names_of kept).owners token)
      (λ o e. owner_there token o n ((named.owners token o).0 e))
      (λ o e. (named.owners token o).1 (NamesOwner.by_row (token_of_parts token) (keeps.true_owners (token / 2 ^ 24) (token % 2 ^ 24) o (omega arith) e)))

  -- a token that a body names
  pub all_agree : (method token : ℕ) → HasRow image 0x06 method → BodyNames image method token → AgreeAt names (names_of kept) token
  all_agree method token there names_it =
      let n : IsNamed image (token / 2 ^ 24) (token % 2 ^ 24) = IsNamed.by_body there names_it (token_of_parts token) in
      record {
        owners = owners_agree token n;
        methods = one_option (names.methods token) ((names_of kept).methods token) (λ m e. keeps.methods token (token / 2 ^ 24) (token % 2 ^ 24) m n (token_of_parts token) e) (λ m e. keeps.true_methods token m e);
        fields = one_option (names.fields token) ((names_of kept).fields token) (λ m e. keeps.fields token (token / 2 ^ 24) (token % 2 ^ 24) m n (token_of_parts token) e) (λ m e. keeps.true_fields token m e);
        locals = one_option (names.locals token) ((names_of kept).locals token) (λ m e. keeps.locals token (token / 2 ^ 24) (token % 2 ^ 24) m n (token_of_parts token) e) (λ m e. keeps.true_locals token m e);
        texts = one_option (names.texts token) ((names_of kept).texts token) (λ m e. keeps.texts method token m there names_it e) (λ m e. keeps.true_texts token m e);
      }

  -- ---- signatures

  module _ (hang : HangOnTokens) where
    pub field_kept : (row : ℕ) (of : SigType) → HasRow image 0x04 row → FieldHas image names row of → FieldHas image (names_of kept) row of
    field_kept row of there h =
        (h.0, h.1, hang.field names.owners (names_of kept).owners h.0 of (λ token has. owners_agree token (IsNamed.by_row (no_reference 0x04 refl) there (RowNames.by_signature (SignatureNames.of_field refl h.1 has) (token_of_parts token)))) h.2)

    pub method_kept : (row : ℕ) (sig : MethodSig) → HasRow image 0x06 row → MethodHas image names row sig → MethodHas image (names_of kept) row sig
    method_kept row sig there h =
        (h.0, h.1, hang.method names.owners (names_of kept).owners h.0 sig (λ token has. owners_agree token (IsNamed.by_row (no_reference 0x06 refl) there (RowNames.by_signature (SignatureNames.of_method refl h.1 has) (token_of_parts token)))) h.2)

    pub property_kept : (row : ℕ) (sig : MethodSig) → HasRow image 0x17 row → PropertyHas image names row sig → PropertyHas image (names_of kept) row sig
    property_kept row sig there h =
        (h.0, h.1, hang.property names.owners (names_of kept).owners h.0 sig (λ token has. owners_agree token (IsNamed.by_row (no_reference 0x17 refl) there (RowNames.by_signature (SignatureNames.of_property refl h.1 has) (token_of_parts token)))) h.2)

    pub type_kept : (table row : ℕ) (o : Owner) → IsNamed image table row → RowOwner image names.owners table row o → RowOwner image (names_of kept).owners table row o
    type_kept table row o n (RowOwner.defined e there path) = RowOwner.defined e there path
    type_kept table row o n (RowOwner.referred e there path) = RowOwner.referred e there path
    type_kept table row o n (RowOwner.specified {bytes = bytes} {term = term} e there blob is) =
        RowOwner.specified e there blob
        (hang.type_of names.owners (names_of kept).owners bytes term (λ token has. owners_agree token (IsNamed.by_reference (spec_used image table row e there n) (RowNames.by_signature (SignatureNames.of_type refl blob has) (token_of_parts token)))) is)

    -- ---- back: what is read of what is kept is so

    pub field_told : (row : ℕ) (of : SigType) → HasRow image 0x04 row → FieldHas image (names_of kept) row of → FieldHas image names row of
    field_told row of there h =
        (h.0, h.1, hang.field (names_of kept).owners names.owners h.0 of (λ token has. sym (owners_agree token (IsNamed.by_row (no_reference 0x04 refl) there (RowNames.by_signature (SignatureNames.of_field refl h.1 has) (token_of_parts token))))) h.2)

    pub method_told : (row : ℕ) (sig : MethodSig) → HasRow image 0x06 row → MethodHas image (names_of kept) row sig → MethodHas image names row sig
    method_told row sig there h =
        (h.0, h.1, hang.method (names_of kept).owners names.owners h.0 sig (λ token has. sym (owners_agree token (IsNamed.by_row (no_reference 0x06 refl) there (RowNames.by_signature (SignatureNames.of_method refl h.1 has) (token_of_parts token))))) h.2)

    pub property_told : (row : ℕ) (sig : MethodSig) → HasRow image 0x17 row → PropertyHas image (names_of kept) row sig → PropertyHas image names row sig
    property_told row sig there h =
        (h.0, h.1, hang.property (names_of kept).owners names.owners h.0 sig (λ token has. sym (owners_agree token (IsNamed.by_row (no_reference 0x17 refl) there (RowNames.by_signature (SignatureNames.of_property refl h.1 has) (token_of_parts token))))) h.2)

    pub type_told : (table row : ℕ) (o : Owner) → IsNamed image table row → RowOwner image (names_of kept).owners table row o → RowOwner image names.owners table row o
    type_told table row o n (RowOwner.defined e there path) = RowOwner.defined e there path
    type_told table row o n (RowOwner.referred e there path) = RowOwner.referred e there path
    type_told table row o n (RowOwner.specified {bytes = bytes} {term = term} e there blob is) =
        RowOwner.specified e there blob
        (hang.type_of (names_of kept).owners names.owners bytes term (λ token has. sym (owners_agree token (IsNamed.by_reference (spec_used image table row e there n) (RowNames.by_signature (SignatureNames.of_type refl blob has) (token_of_parts token))))) is)
