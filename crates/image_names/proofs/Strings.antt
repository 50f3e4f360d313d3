-- The user strings that bodies name are kept, as what they are.
use Rattle.std.proofs.Common.{◌≡◌, ℕ, suc, ◌<◌, ◌⊎◌, inl, inr, Bool, true, false, List, [], ◌∷◌, ◌++◌, length, Option, Some, None, refl, subst, arith}
use Rattle.std.specs.Prelude.{◌==◌, if◌then◌else◌, slice_index_or, sum_by}
use Rattle.std.specs.List.{filter_map, cons_option}
use Rattle.std.proofs.lemmas.Bool.{eqb-true}
use Rattle.type_terms.specs.declared.term.Owner.{Owner}
use Rattle.body_codec.specs.Names.{NameMap}
use Rattle.body_codec.specs.Header.{locals_token}
use Rattle.body_codec.specs.NamedTokens.{caught_in, locals_in}
use Rattle.body_codec.specs.Sections.{clause_rows}
use Rattle.body_codec.specs.Faults.{Catches}
use Rattle.body_codec.specs.declared.decoding.sections.ClauseRow.{ClauseRow}
use Rattle.body_outlines.specs.Outlines.{Outlines, tokens_of, use_in, targets_in}
use Rattle.body_outlines.specs.declared.outlined.BodyOutline.{BodyOutline}
use Rattle.image_model.specs.Bodies.{body_of, HasLocals, BodyNames}
use Rattle.image_model.specs.Faults.{tokens}
use Rattle.image_model.specs.Naming.{IsToken, RowOwner, NamesOwner, NamesText}
use Rattle.image_model.specs.Rows.{HasRow}
use Rattle.image_namings.proofs.Among.{Among, from_among}
use Rattle.formed_references.proofs.Words.{to_among}
use Rattle.kept_names.specs.declared.names.KeptNames.{KeptNames}
use Rattle.method_states.specs.States.{HasGoodBody}
use Rattle.method_states.proofs.Naming.{names_of}
use Rattle.kept_members.specs.Maps.{Has}
use Rattle.kept_members.proofs.Naming.{table_is}
use Rattle.kept_texts.specs.Texts.{operands_of, AreTextsKept}
use Rattle.image_names.specs.Named.{CanName}
use Rattle.image_names.proofs.Members.{found}

among_split : (x : ℕ) (xs ys : List ℕ) → Among x (xs ++ ys) → Among x xs ⊎ Among x ys
among_split x [] ys m = inr m
among_split x (y ∷ xs) ys (inl e) = inl (inl e)
among_split x (y ∷ xs) ys (inr m) = elim (among_split x xs ys m) [ inl l ↦ inl (inr l) | inr r ↦ inr r ]

-- ---- catches

abbrev IsTypeOf : NameMap → ℕ → Type 0
IsTypeOf names token = (o : Owner) × (names.owners token ≡ Some o)

caught_step : (names : NameMap) (row : ClauseRow) (token : ℕ) (rest : List ℕ) (b : Bool) → (row.kind == 0) ≡ b → Catches names row → (Among token rest → IsTypeOf names token)
    → Among token (cons_option (if b then Some row.class_or_filter else None) rest) → IsTypeOf names token
caught_step names row token rest true t c go (inl e) = let o = c (eqb-true row.kind 0 t) in (o.0, subst (λ (k : ℕ). names.owners k ≡ Some o.0) e o.1)
caught_step names row token rest true t c go (inr m) = go m
caught_step names row token rest false t c go m = go m

-- each token that is caught names a type
caught : (names : NameMap) (token : ℕ) (rows : List ClauseRow) → ((k : ℕ) (r : ClauseRow) → k < length rows → Catches names (slice_index_or rows k r)) → Among token (filter_map caught_in rows) → IsTypeOf names token
caught names token [] h m = absurd m
caught names token (row ∷ rows) h m =
    caught_step names row token (filter_map caught_in rows) (row.kind == 0) refl (h 0 row (omega arith)) (caught names token rows (λ k r less. h (suc k) r (omega (arith, less)))) m

row_table : {image : List ℕ} {owners : ℕ → Option Owner} {table row : ℕ} {o : Owner} → RowOwner image owners table row o → table ≡ 0x70 → ⊥
row_table (RowOwner.defined e there path) f = absurd (omega (arith, e, f))
row_table (RowOwner.referred e there path) f = absurd (omega (arith, e, f))
row_table (RowOwner.specified e there blob is) f = absurd (omega (arith, e, f))

no_type : (image : List ℕ) (owners : ℕ → Option Owner) (token index : ℕ) (o : Owner) → NamesOwner image owners token o → IsToken token 0x70 index → ⊥
no_type image owners token index o (NamesOwner.by_row {table = table} {row = row} t r) u = row_table r (table_is token table row t 0x70 index u)

-- ---- locals

among_locals : (n token : ℕ) (b : Bool) → Among token (if b then [] else n ∷ []) → n ≡ token
among_locals n token true m = absurd m
among_locals n token false (inl e) = e
among_locals n token false (inr m) = absurd m

no_locals : (image bytes : List ℕ) (token index : ℕ) → HasLocals image bytes → Among token (locals_in (locals_token bytes)) → IsToken token 0x70 index → ⊥
no_locals image bytes token index (inl z) m u =
    let e = among_locals (locals_token bytes) token (locals_token bytes == 0) m in
    let is = u.is in absurd (omega (arith, e, z, is))
no_locals image bytes token index (inr l) m u =
    let e = among_locals (locals_token bytes) token (locals_token bytes == 0) m in
    let same = table_is token 0x11 l.0 (subst (λ (k : ℕ). IsToken k 0x11 l.0) e l.1) 0x70 index u in absurd (omega (arith, same))

-- ---- texts

text_token : {image : List ℕ} {token : ℕ} {units : List ℕ} → NamesText image token units → (index : ℕ) × IsToken token 0x70 index
text_token (NamesText.entry bytes {index = index} t has is) = (index, t)

module _ (image : List ℕ) (names : NameMap) (known : KeptNames) (can : CanName image names known) (texts : ℕ → Option (List ℕ)) (are : AreTextsKept image texts) where
  pub texts_so : (token : ℕ) (units : List ℕ) → texts token ≡ Some units → names.texts token ≡ Some units
  texts_so token units e = (can.named.texts token units).1 (are.so token units e)

  has_text : (method token : ℕ) (units : List ℕ) → HasRow image 0x06 method → BodyNames image method token → NamesText image token units → Has texts token
  has_text method token units there n t =
      let bytes = body_of image method in
      let pieces = n.named.pieces in
      let o : BodyOutline = record {
        locals = locals_token bytes;
        operands = filter_map use_in pieces;
        catches = filter_map caught_in (clause_rows bytes);
        instructions = length pieces;
        targets = sum_by targets_in pieces;
        clauses = length (clause_rows bytes);
      } in
      let h : Outlines bytes o = record {
        header = n.named.header;
        pieces = pieces;
        outline = n.named.outline;
        locals = refl;
        operands = refl;
        catches = refl;
        instructions = refl;
        targets = refl;
        clauses = refl;
      } in
      let good : HasGoodBody image method = record { there = n.there; code_type = n.code_type; known = record { header = n.named.header; locals = n.locals }; outline = (o, h) } in
      let u = text_token t in
      elim (among_split token (locals_in o.locals) (operands_of o ++ o.catches) (to_among token (tokens_of o) (names_of image method token o h n))) [
        | inl l ↦ absurd (no_locals image bytes token u.0 n.locals l u.1)
        | inr m ↦ elim (among_split token (operands_of o) o.catches m) [
          | inl p ↦ are.has method there good o h token units (from_among token (operands_of o) p) t
          | inr c ↦
              let k = (can.before tokens (omega arith)) 0x06 method refl there n.there in
              let type = caught names token (clause_rows bytes) k.catches c in
              absurd (no_type image names.owners token u.0 type.0 ((can.named.owners token type.0).0 type.1) u.1)
        ]
      ]

  pub texts_kept : (method token : ℕ) (units : List ℕ) → HasRow image 0x06 method → BodyNames image method token → names.texts token ≡ Some units → texts token ≡ Some units
  texts_kept method token units there n e = found texts names.texts token units (λ x h. texts_so token x h) (has_text method token units there n ((can.named.texts token units).0 e)) e
