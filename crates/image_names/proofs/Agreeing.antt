-- What is kept of types tells the same of what is named as the map that tells all; so signatures are spelled the same by both.
use Rattle.std.proofs.Common.{◌≡◌, ℕ, ◌/◌, ◌%◌, ◌^◌, ◌⊎◌, inl, inr, false, List, Option, Some, None, refl, sym, subst, arith}
use Rattle.metadata_tables.specs.Schema.{schema}
use Rattle.metadata_tables.specs.declared.coded.Coded.TheVariants.{MemberRefParent}
use Rattle.type_terms.specs.declared.reference.MethodSig.{MethodSig}
use Rattle.type_terms.specs.declared.term.Owner.{Owner}
use Rattle.type_terms.specs.declared.term.SigType.{SigType}
use Rattle.body_codec.specs.Names.{NameMap}
use Rattle.image_model.specs.Columns.{member_parent}
use Rattle.image_model.specs.Naming.{RowOwner, IsToken, NamesOwner, OwnsMember}
use Rattle.image_model.specs.Namings.{AreNamings}
use Rattle.image_model.specs.Rows.{HasRow, Names}
use Rattle.image_model.specs.Terms.{FieldHas, MethodHas, MemberHasMethod, MemberHasField, LocalsHave, InstanceHas}
use Rattle.image_model.specs.Tokens.{SignatureNames}
use Rattle.image_model.specs.Used.{IsReference, IsUsed, RowNames}
use Rattle.image_namings.specs.Laws.{HangOnTokens}
use Rattle.image_namings.proofs.Indexes.{cell_names, no_reference}
use Rattle.image_namings.proofs.Owners.{table_is, row_is, as_token}
use Rattle.image_ready.specs.Keeping.{IsNamed}
use Rattle.image_ready.proofs.Uses.{spec_used, owner_used}
use Rattle.image_source.specs.Names.{names_of, owner_of_row}
use Rattle.kept_names.specs.declared.names.KeptNames.{KeptNames}
use Rattle.kept_owners.specs.Owners.{KeepsOwners}

one_option : {X : Type 0} (o p : Option X) → ((x : X) → o ≡ Some x → p ≡ Some x) → ((x : X) → p ≡ Some x → o ≡ Some x) → o ≡ p
one_option None None f g = refl
one_option None (Some x) f g = g x refl
one_option (Some x) p f g = sym (f x refl)

-- a reference that is named is in use
pub named_used : {image : List ℕ} {table row : ℕ} → IsReference table → HasRow image table row → IsNamed image table row → IsUsed image table row
named_used r there (IsNamed.by_row plain from names) = IsUsed.by_row plain from names r there
named_used r there (IsNamed.by_reference used names) = IsUsed.by_reference used names r there
named_used r there (IsNamed.by_body method names token) = IsUsed.by_body method names token r there

-- a row from which others are named
abbrev pub IsFrom : List ℕ → (table row : ℕ) → Type 0
IsFrom image table row = ((IsReference table → ⊥) × HasRow image table row) ⊎ IsUsed image table row

pub named_from : {image : List ℕ} {table row t r : ℕ} → IsFrom image table row → RowNames image table row t r → IsNamed image t r
named_from (inl d) names = IsNamed.by_row d.0 d.1 names
named_from (inr u) names = IsNamed.by_reference u names

module _ (image : List ℕ) (names : NameMap) (known : KeptNames) (named : AreNamings image names) (keeps : KeepsOwners image names.owners known) (hang : HangOnTokens) where
  abbrev of_known : ℕ → Option Owner
  of_known = (names_of known).owners

  token_of_parts : (token : ℕ) → IsToken token (token / 2 ^ 24) (token % 2 ^ 24)
  token_of_parts token = as_token token (token / 2 ^ 24) refl

  -- the type of a row that is named is kept
  pub owner_kept : (table row : ℕ) (o : Owner) → IsNamed image table row → RowOwner image names.owners table row o → owner_of_row known table row ≡ Some o
  owner_kept table row o n r = keeps.owners table row o r (owner_used image names.owners table row o r n)

  owner_there : (token : ℕ) (o : Owner) → IsNamed image (token / 2 ^ 24) (token % 2 ^ 24) → NamesOwner image names.owners token o → of_known token ≡ Some o
  owner_there token o n (NamesOwner.by_row {table = table} {row = row} t r) =
      owner_kept (token / 2 ^ 24) (token % 2 ^ 24) o n
      (subst (λ (k : ℕ). RowOwner image names.owners (token / 2 ^ 24) k o) (sym (row_is token table row t)) (subst (λ (k : ℕ). RowOwner image names.owners k row o) (sym (table_is token table row t)) r))

  owners_agree : (token : ℕ) → IsNamed image (token / 2 ^ 24) (token % 2 ^ 24) → names.owners token ≡ of_known token
  owners_agree token n = one_option (names.owners token) (of_known token)
      (λ o e. owner_there token o n ((named.owners token o).0 e))
      (λ o e. (named.owners token o).1 (NamesOwner.by_row (token_of_parts token) (keeps.true_owners (token / 2 ^ 24) (token % 2 ^ 24) o (omega arith) e)))

  -- a token in the signature of a row
  agrees : {table row token : ℕ} → IsFrom image table row → SignatureNames image table row token → names.owners token ≡ of_known token
  agrees {token = token} from s = owners_agree token (named_from from (RowNames.by_signature s (token_of_parts token)))

  -- ---- signatures, by what is kept

  pub method_kept : (row : ℕ) (sig : MethodSig) → HasRow image 0x06 row → MethodHas image names row sig → MethodHas image (names_of known) row sig
  method_kept row sig there h = (h.0, h.1, hang.method names.owners of_known h.0 sig (λ token has. agrees (inl (no_reference 0x06 refl, there)) (SignatureNames.of_method refl h.1 has)) h.2)

  pub field_kept : (row : ℕ) (of : SigType) → HasRow image 0x04 row → FieldHas image names row of → FieldHas image (names_of known) row of
  field_kept row of there h = (h.0, h.1, hang.field names.owners of_known h.0 of (λ token has. agrees (inl (no_reference 0x04 refl, there)) (SignatureNames.of_field refl h.1 has)) h.2)

  pub member_method_kept : (row : ℕ) (sig : MethodSig) → IsUsed image 0x0A row → MemberHasMethod image names row sig → MemberHasMethod image (names_of known) row sig
  member_method_kept row sig used h = (h.0, h.1, hang.method names.owners of_known h.0 sig (λ token has. agrees (inr used) (SignatureNames.of_member refl h.1 (inl has))) h.2)

  pub member_field_kept : (row : ℕ) (of : SigType) → IsUsed image 0x0A row → MemberHasField image names row of → MemberHasField image (names_of known) row of
  member_field_kept row of used h = (h.0, h.1, hang.field names.owners of_known h.0 of (λ token has. agrees (inr used) (SignatureNames.of_member refl h.1 (inr has))) h.2)

  pub locals_kept : (row : ℕ) (types : List SigType) → IsUsed image 0x11 row → LocalsHave image names row types → LocalsHave image (names_of known) row types
  locals_kept row types used h = (h.0, h.1, hang.locals names.owners of_known h.0 types (λ token has. agrees (inr used) (SignatureNames.of_locals refl h.1 has)) h.2)

  pub instance_kept : (row : ℕ) (args : List SigType) → IsUsed image 0x2B row → InstanceHas image names row args → InstanceHas image (names_of known) row args
  instance_kept row args used h = (h.0, h.1, hang.instantiation names.owners of_known h.0 args (λ token has. agrees (inr used) (SignatureNames.of_instance refl h.1 has)) h.2)

  pub type_kept : (table row : ℕ) (o : Owner) → IsNamed image table row → RowOwner image names.owners table row o → RowOwner image of_known table row o
  type_kept table row o n (RowOwner.defined e there path) = RowOwner.defined e there path
  type_kept table row o n (RowOwner.referred e there path) = RowOwner.referred e there path
  type_kept table row o n (RowOwner.specified {bytes = bytes} {term = term} e there blob is) =
      RowOwner.specified e there blob (hang.type_of names.owners of_known bytes term (λ token has. agrees (inr (spec_used image table row e there n)) (SignatureNames.of_type refl blob has)) is)

  -- ---- and back

  pub method_told : (row : ℕ) (sig : MethodSig) → HasRow image 0x06 row → MethodHas image (names_of known) row sig → MethodHas image names row sig
  method_told row sig there h = (h.0, h.1, hang.method of_known names.owners h.0 sig (λ token has. sym (agrees (inl (no_reference 0x06 refl, there)) (SignatureNames.of_method refl h.1 has))) h.2)

  pub field_told : (row : ℕ) (of : SigType) → HasRow image 0x04 row → FieldHas image (names_of known) row of → FieldHas image names row of
  field_told row of there h = (h.0, h.1, hang.field of_known names.owners h.0 of (λ token has. sym (agrees (inl (no_reference 0x04 refl, there)) (SignatureNames.of_field refl h.1 has))) h.2)

  pub member_method_told : (row : ℕ) (sig : MethodSig) → IsUsed image 0x0A row → MemberHasMethod image (names_of known) row sig → MemberHasMethod image names row sig
  member_method_told row sig used h = (h.0, h.1, hang.method of_known names.owners h.0 sig (λ token has. sym (agrees (inr used) (SignatureNames.of_member refl h.1 (inl has)))) h.2)

  pub member_field_told : (row : ℕ) (of : SigType) → IsUsed image 0x0A row → MemberHasField image (names_of known) row of → MemberHasField image names row of
  member_field_told row of used h = (h.0, h.1, hang.field of_known names.owners h.0 of (λ token has. sym (agrees (inr used) (SignatureNames.of_member refl h.1 (inr has)))) h.2)

  pub locals_told : (row : ℕ) (types : List SigType) → IsUsed image 0x11 row → LocalsHave image (names_of known) row types → LocalsHave image names row types
  locals_told row types used h = (h.0, h.1, hang.locals of_known names.owners h.0 types (λ token has. sym (agrees (inr used) (SignatureNames.of_locals refl h.1 has))) h.2)

  pub instance_told : (row : ℕ) (args : List SigType) → IsUsed image 0x2B row → InstanceHas image (names_of known) row args → InstanceHas image names row args
  instance_told row args used h = (h.0, h.1, hang.instantiation of_known names.owners h.0 args (λ token has. sym (agrees (inr used) (SignatureNames.of_instance refl h.1 has))) h.2)

  type_told : (table row : ℕ) (o : Owner) → IsNamed image table row → RowOwner image of_known table row o → RowOwner image names.owners table row o
  type_told table row o n (RowOwner.defined e there path) = RowOwner.defined e there path
  type_told table row o n (RowOwner.referred e there path) = RowOwner.referred e there path
  type_told table row o n (RowOwner.specified {bytes = bytes} {term = term} e there blob is) =
      RowOwner.specified e there blob (hang.type_of of_known names.owners bytes term (λ token has. sym (agrees (inr (spec_used image table row e there n)) (SignatureNames.of_type refl blob has))) is)

  -- the parent of a reference in use is named
  pub parent_named : (row table parent : ℕ) → IsUsed image 0x0A row → Names MemberRefParent (member_parent image row) table parent → IsNamed image table parent
  unfolding schema
  parent_named row table parent used n = IsNamed.by_reference used (cell_names image 0x0A row 0 MemberRefParent false table parent (omega arith) refl n)

  pub owner_told : (row : ℕ) (o : Owner) → IsUsed image 0x0A row → OwnsMember image of_known row o → OwnsMember image names.owners row o
  owner_told row o used (OwnsMember.by_type {table = table} {parent = parent} n r) = OwnsMember.by_type n (type_told table parent o (parent_named row table parent used n) r)
  owner_told row o used (OwnsMember.by_method n m) = OwnsMember.by_method n m
