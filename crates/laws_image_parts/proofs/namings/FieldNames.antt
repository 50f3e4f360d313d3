-- What the tokens of fields name.
use Rattle.std.proofs.Common.{◌≡◌, ap, refl, sym, ◌∙◌, subst, ℕ, List, Option, Some, Contains, inl, inr, arith}
use Rattle.sig_codec.specs.Signature.{SpellsField}
use Rattle.type_terms.specs.declared.reference.FieldRef.{FieldRef}
use Rattle.type_terms.specs.declared.term.Owner.{Owner}
use Rattle.type_terms.specs.declared.term.SigType.{SigType}
use Rattle.image_tokens.specs.Found.{token_in}
use Rattle.image_tokens.specs.KnownTokens.{fields_apart}
use Rattle.image_tokens.specs.References.{IsFieldToken, tokens_of}
use Rattle.image_tokens.specs.declared.references.References.{References}
use Rattle.image_tokens.proofs.NameLemmas.{holds_of_found}
use Rattle.image_model.specs.Columns.{field_name, field_signature}
use Rattle.image_model.specs.Naming.{NamesField, here}
use Rattle.image_model.specs.Rows.{HasRow, fields_of}
use Rattle.laws_image_parts.specs.namings.Members.{FieldsRead}
use Rattle.laws_image_parts.specs.namings.Readable.{IsTypeTaken}
use Rattle.laws_image_parts.proofs.namings.DecidedMaps.{map_of, map_tells, map_none}
use Rattle.laws_image_parts.proofs.namings.HeapUnits.{Decided}
use Rattle.laws_image_parts.proofs.namings.MemberKinds.{no_type}
use Rattle.laws_image_parts.proofs.namings.MemberRows.{Setting, Member}
use Rattle.laws_image_parts.proofs.namings.MemberTokens.{Declares, IsMember, defined, referred, member_one, member_decided, member_given}

-- a field by its parts
pub field_of : Member SigType → FieldRef
field_of m = record { owner = m.owner; name = m.name; of = m.sig }

module _ (r : References) (image : List ℕ) (owners : ℕ → Option Owner) (s : Setting r image owners)
    (facts : Declares SpellsField IsTypeTaken r image owners 0x04 (field_name image) (field_signature image) (fields_of image) r.declared.fields)
    (there : (type row : ℕ) → HasRow image 0x02 type → Contains (fields_of image type) row → HasRow image 0x04 row) where
  abbrev pub IsField : ℕ → Member SigType → Type 0
  IsField = IsMember SpellsField IsTypeTaken r image owners s 0x04 (field_name image) (field_signature image) (fields_of image) r.declared.fields facts

  names : (token : ℕ) (m : Member SigType) → IsField token m → NamesField image owners token (field_of m)
  unfolding field_of
  names token m (defined i h) =
      subst (λ o. NamesField image owners token (record { owner = o; name = m.name; of = m.sig })) (sym h.owner_is)
      (NamesField.defined i h.type_there h.within h.leads h.name_is h.sig_is.held (h.sig_is.spelled, h.sig_is.taken.0, h.sig_is.taken.1))
  names token m (referred i h) = NamesField.referred i h.there h.owns h.name_is h.sig_is.held (h.sig_is.spelled, h.sig_is.taken.0, h.sig_is.taken.1)

  pub named : {token : ℕ} {f : FieldRef} → NamesField image owners token f → (m : Member SigType) × (f ≡ field_of m) × IsField token m
  unfolding field_of
  named (NamesField.defined {field = field} {type = type} {path = path} {name = name} {bytes = bytes} {of = of} i type_there within leads text held h) = (
    record { owner = here path; name = name; sig = of },
    refl,
    defined i (record {
      there = there type field type_there within;
      type = type;
      type_there = type_there;
      within = within;
      path = path;
      leads = leads;
      owner_is = refl;
      name_is = text;
      sig_is = record { bytes = bytes; held = held; spelled = h.0; taken = (h.1, h.2) };
    }),
  )
  named (NamesField.referred {owner = owner} {name = name} {bytes = bytes} {of = of} i there owns text held h) = (
    record { owner = owner; name = name; sig = of },
    refl,
    referred i (record {
      there = there;
      owns = owns;
      name_is = text;
      sig_is = record { bytes = bytes; held = held; spelled = h.0; taken = (h.1, h.2) };
    }),
  )

  field_one : (token : ℕ) (f g : FieldRef) → NamesField image owners token f → NamesField image owners token g → f ≡ g
  field_one token f g h k =
      let x = named h in
      let y = named k in
      let same : x.0 ≡ y.0 =
      member_one SpellsField IsTypeTaken r image owners s 0x04 (field_name image) (field_signature image) (fields_of image) r.declared.fields facts token x.0 y.0 x.2 y.2 in
      x.1 ∙ ap field_of same ∙ sym y.1

  field_decided : (token : ℕ) → Decided (NamesField image owners token)
  field_decided token = elim (member_decided SpellsField IsTypeTaken r image owners s 0x04 (field_name image) (field_signature image) (fields_of image) r.declared.fields facts token) [
    | inl h ↦ inl (field_of h.0, names token h.0 h.1)
    | inr none ↦ inr (λ f h. let x = named h in none x.0 x.2)
  ]

  pub field_given : (f : FieldRef) (token : ℕ) → token_in fields_apart r.known.fields f ≡ Some token → (m : Member SigType) × (field_of m ≡ f) × IsField token m
  unfolding field_of
  field_given f token at =
      let h : IsFieldToken r f token = holds_of_found fields_apart (λ e. IsFieldToken r e.0 e.1) r.known.fields f token s.known.fields at in (
        record { owner = f.owner; name = f.name; sig = f.of },
        refl,
        member_given SpellsField IsTypeTaken r image owners s 0x04 (field_name image) (field_signature image) (fields_of image) r.declared.fields facts f.owner f.name f.of token h,
      )

  no_field : (o : Owner) (token : ℕ) → tokens_of r o ≡ Some token → (f : FieldRef) → NamesField image owners token f → ⊥
  no_field o token at f h = by_member (named h).0 (named h).2
    where
      by_member : (m : Member SigType) → IsField token m → ⊥
      by_member m (defined {row = row} i k) = no_type image owners token o ((s.tells token o).0 (s.back o token at)) 0x04 row i (omega arith) (λ e. omega arith)
      by_member m (referred {row = row} i k) = no_type image owners token o ((s.tells token o).0 (s.back o token at)) 0x0A row i (omega arith) (λ e. omega arith)

  pub fields_read : FieldsRead r image owners
  fields_read = record {
    fields = map_of (NamesField image owners) field_decided field_one;
    tells = map_tells (NamesField image owners) field_decided field_one;
    back = λ f token at. let m = field_given f token at in (map_tells (NamesField image owners) field_decided field_one token f).1 (subst (NamesField image owners token) m.1 (names token m.0 m.2));
    no_type = λ o token at. map_none (NamesField image owners) field_decided field_one token (no_field o token at);
  }
