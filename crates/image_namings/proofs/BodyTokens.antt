-- Bodies hang on what their tokens name (II.25.4, III.1.9).
use Rattle.std.proofs.Common.{◌≡◌, ◌≢◌, ℕ, zero, suc, ◌<◌, inl, inr, Bool, true, false, nat_eq, if◌then◌else◌, List, [], ◌∷◌, ◌++◌, Contains, length, slice_index_or, option_map, Option, Some, None, refl, sym, ◌∙◌, ap, subst, arith}
use Rattle.std.proofs.lemmas.Bool.Decides.{nat_tests}
use Rattle.std.proofs.lemmas.List.Elements.{Contains-append_left, Contains-append_right}
use Rattle.std.specs.List.{filter_map, cons_option}
use Rattle.std.specs.Option.{option_or}
use Rattle.opcode_table.specs.declared.kind.OperandKind.{OperandKind}
use Rattle.opcode_table.specs.declared.kind.OperandKind.TheVariants as kinds
use Rattle.type_terms.specs.declared.term.SigType.{SigType}
use Rattle.assembly_tree.specs.declared.body.ClauseKind as handles
use Rattle.assembly_tree.specs.declared.body.Operand as operand
use Rattle.body_codec.specs.declared.decoding.sections.ClauseRow.{ClauseRow}
use Rattle.body_codec.specs.Instruction.{Piece, kind, number}
use Rattle.body_codec.specs.Names.{NameMap, reading, takes_token, named}
use Rattle.body_codec.specs.Header.{code_of, locals_token, SpellsLocals}
use Rattle.body_codec.specs.Sections.{clause_rows, SpellsKind}
use Rattle.body_codec.specs.Spelling.{token, form, SpellsOperand, SpellsToken}
use Rattle.body_codec.specs.NamedTokens.{token_in, caught_in, locals_in}
use Rattle.body_codec.proofs.Outcomes.{cut_same}
use Rattle.image_namings.specs.Laws.{AgreeAt, BodiesHangOnTokens}
use Rattle.image_namings.proofs.Decided.{some_is, none_is_not}

-- ---- what a list gives

there_first : (x : ℕ) (o : Option ℕ) (ys : List ℕ) → o ≡ Some x → Contains (cons_option o ys) x
there_first x None ys e = absurd (none_is_not e)
there_first x (Some y) ys e = (0, omega arith, some_is y x e)

there_later : (x : ℕ) (o : Option ℕ) (ys : List ℕ) → Contains ys x → Contains (cons_option o ys) x
there_later x None ys c = c
there_later x (Some y) ys c = (suc c.0, omega (arith, c.1), c.2)

in_filter : {X : Type 0} (give : X → Option ℕ) (xs : List X) (k x : ℕ) (d : X) → k < length xs → give (slice_index_or xs k d) ≡ Some x → Contains (filter_map give xs) x
in_filter give [] k x d lt e = absurd (omega arith)
in_filter give (y ∷ ys) zero x d lt e = there_first x (give y) (filter_map give ys) e
in_filter give (y ∷ ys) (suc k) x d lt e = there_later x (give y) (filter_map give ys) (in_filter give ys k x d (omega arith) e)

pub is_token : (k : OperandKind) → form k ≡ token → takes_token k ≡ true
is_token kinds.Method e = refl
is_token kinds.Field e = refl
is_token kinds.Of e = refl
is_token kinds.Text e = refl
is_token kinds.Token e = refl
is_token _ e = absurd cc

piece_token : (p : Piece) → takes_token (kind p.op) ≡ true → token_in p ≡ Some (number p.tail)
piece_token p e = ap (λ (b : Bool). if b then Some (number p.tail) else None) e

caught_token : (r : ClauseRow) → r.kind ≡ 0 → caught_in r ≡ Some r.class_or_filter
caught_token r e = ap (λ (b : Bool). if b then Some r.class_or_filter else None) (equal r.kind 0 e)
  where
    equal : (m n : ℕ) → m ≡ n → nat_eq m n ≡ true
    equal m n h = grind (arith, nat_tests)

local_at : (t : ℕ) (b : Bool) → nat_eq t 0 ≡ b → t ≢ 0 → Contains (if b then [] else t ∷ []) t
local_at t true e n = absurd (n (grind (arith, nat_tests, e)))
local_at t false e n = (0, omega arith, refl)

local_token : (t : ℕ) → t ≢ 0 → Contains (locals_in t) t
local_token t n = local_at t (nat_eq t 0) refl n

-- the tokens of a body that is cut into these pieces
abbrev pub tokens_of : List ℕ → List Piece → List ℕ
tokens_of bytes pieces = locals_in (locals_token bytes) ++ (filter_map token_in pieces ++ filter_map caught_in (clause_rows bytes))

pub locals_among : (bytes : List ℕ) (pieces : List Piece) → locals_token bytes ≢ 0 → Contains (tokens_of bytes pieces) (locals_token bytes)
locals_among bytes pieces n = Contains-append_left (locals_in (locals_token bytes)) (filter_map token_in pieces ++ filter_map caught_in (clause_rows bytes)) (locals_token bytes) (local_token (locals_token bytes) n)

pub operand_among : (bytes : List ℕ) (pieces : List Piece) (k : ℕ) (p : Piece) → k < length pieces → form (kind (slice_index_or pieces k p).op) ≡ token → Contains (tokens_of bytes pieces) (number (slice_index_or pieces k p).tail)
operand_among bytes pieces k p lt e =
    let q = slice_index_or pieces k p in
    Contains-append_right (locals_in (locals_token bytes)) (filter_map token_in pieces ++ filter_map caught_in (clause_rows bytes)) (number q.tail)
    (Contains-append_left (filter_map token_in pieces) (filter_map caught_in (clause_rows bytes)) (number q.tail)
    (in_filter token_in pieces k (number q.tail) p lt (piece_token q (is_token (kind q.op) e))))

pub caught_among : (bytes : List ℕ) (pieces : List Piece) (k : ℕ) (r : ClauseRow) → k < length (clause_rows bytes) → (slice_index_or (clause_rows bytes) k r).kind ≡ 0 → Contains (tokens_of bytes pieces) (slice_index_or (clause_rows bytes) k r).class_or_filter
caught_among bytes pieces k r lt e =
    let q = slice_index_or (clause_rows bytes) k r in
    Contains-append_right (locals_in (locals_token bytes)) (filter_map token_in pieces ++ filter_map caught_in (clause_rows bytes)) q.class_or_filter
    (Contains-append_right (filter_map token_in pieces) (filter_map caught_in (clause_rows bytes)) q.class_or_filter
    (in_filter caught_in (clause_rows bytes) k q.class_or_filter r lt (caught_token q e)))

-- ---- what two namers tell the same

module _ (names others : NameMap) where
  named_same : (k : OperandKind) (t : ℕ) → AgreeAt names others t → named names k t ≡ named others k t
  named_same kinds.Method t g = ap (option_map operand.TheVariants.Method) g.methods
  named_same kinds.Field t g = ap (option_map operand.TheVariants.Field) g.fields
  named_same kinds.Of t g = ap (option_map operand.TheVariants.Of) g.owners
  named_same kinds.Text t g = ap (option_map operand.TheVariants.Text) g.texts
  named_same kinds.Token t g =
      ap (λ q. option_or (option_map operand.TheVariants.Method q) (option_or (option_map operand.TheVariants.Field (names.fields t)) (option_map operand.TheVariants.Of (names.owners t)))) g.methods
      ∙ ap (λ q. option_or (option_map operand.TheVariants.Method (others.methods t)) (option_or (option_map operand.TheVariants.Field q) (option_map operand.TheVariants.Of (names.owners t)))) g.fields
      ∙ ap (λ q. option_or (option_map operand.TheVariants.Method (others.methods t)) (option_or (option_map operand.TheVariants.Field (others.fields t)) (option_map operand.TheVariants.Of q))) g.owners
  named_same _ t g = refl

  token_again : (of : OperandKind) (tail : List ℕ) (v : operand.Operand) → SpellsToken (reading names) of tail v → (form of ≡ token → AgreeAt names others (number tail)) → SpellsToken (reading others) of tail v
  token_again of tail v s g = record { formed = s.formed; named = sym (named_same of (number tail) (g s.formed)) ∙ s.named }

  operand_again : (pieces : List Piece) (k : ℕ) (of : OperandKind) (tail : List ℕ) (o : operand.Operand) → SpellsOperand (reading names) pieces k of tail o → (form of ≡ token → AgreeAt names others (number tail)) → SpellsOperand (reading others) pieces k of tail o
  operand_again pieces k of tail (operand.TheVariants.Method m) s g = token_again of tail (operand.TheVariants.Method m) s g
  operand_again pieces k of tail (operand.TheVariants.Field f) s g = token_again of tail (operand.TheVariants.Field f) s g
  operand_again pieces k of tail (operand.TheVariants.Of o) s g = token_again of tail (operand.TheVariants.Of o) s g
  operand_again pieces k of tail (operand.TheVariants.Text u) s g = token_again of tail (operand.TheVariants.Text u) s g
  operand_again pieces k of tail operand.TheVariants.Nothing s g = s
  operand_again pieces k of tail (operand.TheVariants.Var n) s g = s
  operand_again pieces k of tail (operand.TheVariants.Int n) s g = s
  operand_again pieces k of tail (operand.TheVariants.Real n) s g = s
  operand_again pieces k of tail (operand.TheVariants.Target n) s g = s
  operand_again pieces k of tail (operand.TheVariants.Targets n) s g = s

  kind_again : (pieces : List Piece) (row : ClauseRow) (handler : ℕ) (c : handles.ClauseKind) → SpellsKind (reading names) pieces row handler c → (row.kind ≡ 0 → AgreeAt names others row.class_or_filter) → SpellsKind (reading others) pieces row handler c
  kind_again pieces row handler (handles.TheVariants.Catch o) s g = (s.0, sym (g s.0).owners ∙ s.1)
  kind_again pieces row handler (handles.TheVariants.Filter at) s g = s
  kind_again pieces row handler handles.TheVariants.Finally s g = s
  kind_again pieces row handler handles.TheVariants.Fault s g = s

  locals_again : (t : ℕ) (types : List SigType) → SpellsLocals (reading names) t types → (t ≢ 0 → AgreeAt names others t) → SpellsLocals (reading others) t types
  locals_again t types (inl s) g = inl s
  locals_again t types (inr s) g = inr (s.0, sym (g s.0).locals ∙ s.1)

pub bodies_hang : BodiesHangOnTokens
bodies_hang names others bytes tokens body size all same s =
    let pieces = cut_same (code_of bytes) all.pieces s.pieces all.outline.code.cut s.code.cut in
    let of : tokens ≡ tokens_of bytes s.pieces = all.all ∙ ap (tokens_of bytes) pieces in
    let told = λ (t : ℕ) (c : Contains (tokens_of bytes s.pieces) t). same t (subst (λ (ts : List ℕ). Contains ts t) (sym of) c) in
    record {
      header = s.header;
      bound = s.bound;
      init = s.init;
      locals = locals_again names others (locals_token bytes) body.locals s.locals (λ n. told (locals_token bytes) (locals_among bytes s.pieces n));
      pieces = s.pieces;
      code = record {
        cut = s.code.cut;
        each = record {
          count = s.code.each.count;
          each = λ k p i lt.
              let ins = s.code.each.each k p i lt in
              let q = slice_index_or s.pieces k p in
              record {
                op = ins.op;
                operand = operand_again names others s.pieces k (kind q.op) q.tail (slice_index_or body.code k i).operand ins.operand
                    (λ e. told (number q.tail) (operand_among bytes s.pieces k p (let n = s.code.each.count in omega arith) e));
              };
        };
      };
      read = s.read;
      clauses = record {
        count = s.clauses.count;
        few = s.clauses.few;
        each = λ k r c lt.
            let clause = s.clauses.each k r c lt in
            let q = slice_index_or (clause_rows bytes) k r in
            record {
              try_range = clause.try_range;
              handler_range = clause.handler_range;
              kind = kind_again names others s.pieces q _ (slice_index_or body.clauses k c).kind clause.kind
                  (λ e. told q.class_or_filter (caught_among bytes s.pieces k r (let n = s.clauses.count in omega arith) e));
            };
      };
      ends = s.ends;
    }
