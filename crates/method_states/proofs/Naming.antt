-- The rows that bodies name, method by method.
use Rattle.std.proofs.Common.{◌≡◌, ◌∙◌, sym, ap, subst, refl, ℕ, ◌+◌, ◌<◌, ◌≤◌, ◌⊎◌, inl, inr, List, length, arith}
use Rattle.std.specs.Prelude.{Contains}
use Rattle.std.proofs.lemmas.Bool.{cases_lt}
use Rattle.body_codec.specs.NamedTokens.{AreNamed}
use Rattle.body_codec.proofs.NamedDecoded.{tokens_tell}
use Rattle.body_outlines.specs.Outlines.{Outlines, tokens_of}
use Rattle.body_outlines.specs.declared.outlined.BodyOutline.{BodyOutline}
use Rattle.body_outlines.proofs.Answered.{names_tokens}
use Rattle.image_model.specs.Bodies.{body_of, HasBody, HasCodeType, HasLocals, BodyNames}
use Rattle.image_model.specs.Columns.{method_rva}
use Rattle.image_model.specs.Naming.{IsToken}
use Rattle.image_model.specs.Rows.{HasRow}
use Rattle.method_states.specs.Marks.{IsKept, IsMarked, HasPlace, HaveRoom, MarkBesides}
use Rattle.method_states.specs.States.{HasGoodBody, NamedTo, AreNamedTo}
use Rattle.method_states.specs.declared.row_marks.RowMarks.{RowMarks}
use Rattle.method_states.proofs.Marking.{place_there, there_placed, room_kept}
use Rattle.method_states.proofs.Sharing.{same_body}

-- ---- what a body names

-- a good body names the tokens of its outline
pub names_of : (image : List ℕ) (method token : ℕ) (o : BodyOutline) → Outlines (body_of image method) o → BodyNames image method token → Contains (tokens_of o) token
names_of image method token o h n =
    subst (λ ts. Contains ts token) (tokens_tell (body_of image method) n.tokens (tokens_of o) n.named (names_tokens (body_of image method) o h)) n.among

pub of_names : (image : List ℕ) (method token : ℕ) (o : BodyOutline) → HasGoodBody image method → Outlines (body_of image method) o → Contains (tokens_of o) token → BodyNames image method token
of_names image method token o g h among = record {
  there = g.there;
  code_type = g.code_type;
  locals = g.known.locals;
  tokens = tokens_of o;
  named = names_tokens (body_of image method) o h;
  among = among;
}

pub named_along : (image : List ℕ) (a b token : ℕ) → method_rva image a ≡ method_rva image b → HasCodeType image b → BodyNames image a token → BodyNames image b token
named_along image a b token e code n = record {
  there = λ z. n.there (e ∙ z);
  code_type = code;
  locals = subst (HasLocals image) (same_body image a b e) n.locals;
  tokens = n.tokens;
  named = subst (λ bytes. AreNamed bytes n.tokens) (same_body image a b e) n.named;
  among = n.among;
}

-- ---- one more method

pub named_more : (image : List ℕ) (count table row : ℕ) → NamedTo image count table row → NamedTo image (count + 1) table row
named_more image count table row n = record { method = n.method; some = n.some; upto = let u = n.upto in omega arith; token = n.token; names = n.names; is = n.is }

-- that of one more method or of one before
named_last : (image : List ℕ) (count table row : ℕ) (Q : Type 0) → (NamedTo image count table row → Q) → ((token : ℕ) → BodyNames image (count + 1) token → IsToken token table row → Q)
    → NamedTo image (count + 1) table row → Q
named_last image count table row Q before last n =
    elim (cases_lt n.method (count + 1)) [
      | inl l ↦ before (record { method = n.method; some = n.some; upto = omega arith; token = n.token; names = n.names; is = n.is })
      | inr g ↦
          let u = n.upto in
          let same : n.method ≡ count + 1 = omega arith in
          last n.token (subst (λ (m : ℕ). BodyNames image m n.token) same n.names) n.is
    ]

-- the method names nothing that wasn't named before
pub named_kept : (image : List ℕ) (count : ℕ) (marks : RowMarks) → AreNamedTo image count marks
    → ((token table row : ℕ) → BodyNames image (count + 1) token → IsToken token table row → NamedTo image count table row) → AreNamedTo image (count + 1) marks
named_kept image count marks h last = record {
  room = h.room;
  each = λ table row. (
    λ m. let x = (h.each table row).0 m in (x.0, x.1, named_more image count table row x.2),
    λ x. (h.each table row).1 (x.0, x.1, named_last image count table row (NamedTo image count table row) (λ n. n) (λ token n is. last token table row n is) x.2),
  );
}

-- the method has a good body
pub named_good : (image : List ℕ) (count : ℕ) (old new : RowMarks) (o : BodyOutline) → AreNamedTo image count old → HasGoodBody image (count + 1)
    → Outlines (body_of image (count + 1)) o → MarkBesides old (tokens_of o) new → AreNamedTo image (count + 1) new
named_good image count old new o h good outline besides = record {
  room = room_kept image old new besides.room h.room;
  each = λ table row. (
    λ m. elim ((besides.marked table row).0 m) [
      | inl b ↦ let x = (h.each table row).0 b in (x.0, x.1, named_more image count table row x.2)
      | inr p ↦
          let there = there_placed image old table row h.room p.3 in (
            there.0,
            there.1,
            record {
              method = count + 1;
              some = omega arith;
              upto = omega arith;
              token = p.0;
              names = of_names image (count + 1) p.0 o good outline p.1;
              is = p.2;
            },
          )
    ],
    λ x. (besides.marked table row).1
        (named_last image count table row (IsMarked old table row ⊎ ((token : ℕ) × Contains (tokens_of o) token × IsToken token table row × HasPlace old table row))
        (λ n. inl ((h.each table row).1 (x.0, x.1, n)))
        (λ token n is. inr (token, names_of image (count + 1) token o outline n, is, place_there image old table row h.room x.0 x.1)) x.2),
  );
}
