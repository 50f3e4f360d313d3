-- The signature of a field is none of a method; the tables of types are none of members.
use Rattle.std.proofs.Common.{◌≡◌, ap, sym, ◌∙◌, ℕ, ◌+◌, ◌==◌, ◌<◌, Bool, true, false, cond, List, Option, Some, inl, inr, arith}
use Rattle.std.specs.Prelude.{slice_get, slice_index}
use Rattle.sig_codec.specs.Signature.{method_byte, SpellsField, SpellsMethod}
use Rattle.sig_codec.specs.Spelling.{Notation}
use Rattle.type_terms.specs.declared.reference.MethodSig.{MethodSig}
use Rattle.type_terms.specs.declared.term.Owner.{Owner}
use Rattle.type_terms.specs.declared.term.SigType.{SigType}
use Rattle.image_tokens.specs.References.{AreKnown, IsMemberSignature}
use Rattle.image_tokens.specs.declared.references.References.{References}
use Rattle.image_tokens.specs.declared.row_set.Cells.{Cells}
use Rattle.image_model.specs.Naming.{IsToken, NamesOwner, RowOwner}
use Rattle.laws_image_parts.proofs.namings.MemberTokens.{IsOfKind}

abbrev first_byte : Bool → Bool → Bool → Bool → ℕ
first_byte vararg has_this explicit plain = cond vararg 0x05 0x00 + cond has_this 0x20 0x00 + cond explicit 0x40 0x00 + cond plain 0x00 0x10

not_six : (vararg has_this explicit plain : Bool) → first_byte vararg has_this explicit plain ≡ 0x06 → ⊥
not_six true true true true e = cc
not_six true true true false e = cc
not_six true true false true e = cc
not_six true true false false e = cc
not_six true false true true e = cc
not_six true false true false e = cc
not_six true false false true e = cc
not_six true false false false e = cc
not_six false true true true e = cc
not_six false true true false e = cc
not_six false true false true e = cc
not_six false true false false e = cc
not_six false false true true e = cc
not_six false false true false e = cc
not_six false false false true e = cc
not_six false false false false e = cc

-- no bytes are the signature of a field and of a method
pub no_both : (w v : Notation) (t : SigType) (s : MethodSig) (bytes : List ℕ) → SpellsField w t bytes → SpellsMethod v s bytes → ⊥
no_both w v t s bytes f m =
    let same : method_byte s ≡ 0x06 = ap (λ (bs : List ℕ). slice_index bs 0) (sym m.whole ∙ f.1) in
    not_six s.vararg s.has_this s.explicit_this (s.generic == 0) same

module _ (r : References) (owners : ℕ → Option Owner) (known : AreKnown r) where
  field_kind : (cells : Cells) → IsMemberSignature r cells.third → IsOfKind SpellsField r owners cells
  field_kind cells (inl h) = inr (h.1.bytes, h.1.holds.there, λ t p. no_both _ _ t h.0 h.1.bytes p h.1.spells)
  field_kind cells (inr h) = inl h

  method_kind : (cells : Cells) → IsMemberSignature r cells.third → IsOfKind SpellsMethod r owners cells
  method_kind cells (inl h) = inl h
  method_kind cells (inr h) = inr (h.1.bytes, h.1.holds.there, λ s p. no_both _ _ h.0 s h.1.bytes h.1.spells p)

  pub field_kinds : (k : ℕ) (cells : Cells) → slice_get r.referred.members k ≡ Some cells → IsOfKind SpellsField r owners cells
  field_kinds k cells at = field_kind cells (known.rows.members k cells at).signature

  pub method_kinds : (k : ℕ) (cells : Cells) → slice_get r.referred.members k ≡ Some cells → IsOfKind SpellsMethod r owners cells
  method_kinds k cells at = method_kind cells (known.rows.members k cells at).signature

-- the token of a type isn't one of a later table
pub no_type : (image : List ℕ) (owners : ℕ → Option Owner) (token : ℕ) (o : Owner) → NamesOwner image owners token o → (table row : ℕ) → IsToken token table row
    → 0x02 < table → (table ≡ 0x1B → ⊥) → ⊥
no_type image owners token o (NamesOwner.by_row i (RowOwner.defined e there h)) table row j f g = (let x = i.is in let y = j.is in let u = i.fits in let v = j.fits in omega arith)
no_type image owners token o (NamesOwner.by_row i (RowOwner.referred e there h)) table row j f g = (let x = i.is in let y = j.is in let u = i.fits in let v = j.fits in omega arith)
no_type image owners token o (NamesOwner.by_row i (RowOwner.specified e there b h)) table row j f g = (let x = i.is in let y = j.is in let u = i.fits in let v = j.fits in g (omega arith))
