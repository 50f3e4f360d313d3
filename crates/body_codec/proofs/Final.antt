-- The bytes that are written are the body's.
use Rattle.std.proofs.Common.{◌≡◌, ◌≢◌, ◌∙◌, inl, inr, ℕ, zero, suc, ◌<◌, ◌≤◌, ◌+◌, ◌*◌, ◌-◌, ◌^◌, Bool, true, false, not, ◌&&◌, if◌then◌else◌, nat_eq, nat_lt, nat_le, List, [], ◌∷◌, ◌++◌, length, map, get_or, ap, refl, sym, subst, arith, Option, None, Some, IsSome}
use Rattle.std.specs.List.{All, list_all}
use Rattle.std.proofs.lemmas.List.{length-append, length-map, get_or-map}
use Rattle.std.proofs.lemmas.Bool.{and_parts, cases_Bool, ltb-true, eqb-true, not-true, lt-ltb, ne_eqb}
use Rattle.type_terms.specs.declared.term.SigType.{SigType}
use Rattle.assembly_tree.specs.declared.body.Body.{Body}
use Rattle.assembly_tree.specs.declared.body.Clause.{Clause}
use Rattle.assembly_tree.specs.declared.body.ClauseKind as handled
use Rattle.assembly_tree.specs.declared.body.Ins.{Ins}
use Rattle.body_codec.specs.declared.decoding.sections.ClauseRow.{ClauseRow}
use Rattle.body_codec.specs.Instruction.{Piece, kind, place}
use Rattle.body_codec.specs.Names.{TokenMap, writing}
use Rattle.body_codec.specs.Header.{HasHeader, SpellsLocals, code_end, code_size, is_tiny, number_at}
use Rattle.body_codec.specs.Sections.{IsRange, SpellsClause, SpellsClauses, SpellsKind, padded}
use Rattle.body_codec.specs.Spelling.{SpellsCode}
use Rattle.body_codec.specs.Bodies.{Spells}
use Rattle.body_codec.specs.Encoding.{CanBeWritten, ClauseFits, HasSection, IsCompact, IsWritten, KindFits, fat_flags, fits_small, is_small}
use Rattle.body_codec.specs.Written.{AreOffsets, HasToken, Reaches, all_small, body_bytes, class_or_filter, code_bytes, fat_header, front_bytes, kind_number, locals_number, number_bytes, or_zero, pieces_from, row_of, serves_small, serves_tiny, tail_bytes}
use Rattle.body_codec.proofs.Heads.{Says, fat_says, flags, tiny_says}
use Rattle.body_codec.proofs.Offsets.{count_within, offset_rises, offset_within}
use Rattle.body_codec.proofs.CodePieces.{length-pieces}
use Rattle.body_codec.proofs.SectionRows.{Holds}
use Rattle.body_codec.proofs.CodeSpelled.{code_size_is, code_spelled, place_is}
use Rattle.body_codec.proofs.Whole.{Parts, RowFits, parts_of}

-- ---- locals

no_locals : (numbers : List SigType → Option ℕ) (types : List SigType) → length types ≡ 0 → locals_number numbers types ≡ 0
no_locals numbers [] e = refl
no_locals numbers (t ∷ ts) e = cc

locals_spelled : (numbers : TokenMap) (types : List SigType) → (types ≢ [] → (token : ℕ) × (numbers.locals types ≡ Some token) × (token ≢ 0))
    → SpellsLocals (writing numbers) (locals_number numbers.locals types) types
locals_spelled numbers [] can = inl (refl, refl)
locals_spelled numbers (t ∷ ts) can =
    let some : (t ∷ ts) ≢ [] = λ e. cc in
    let c = can some in
    let e : locals_number numbers.locals (t ∷ ts) ≡ c.0 = ap or_zero c.1 in
    inr (λ z. c.2 (sym e ∙ z), (some, c.1 ∙ ap Some (sym e)))

-- ---- clauses

kind_small : (k : handled.ClauseKind) → kind_number k ≤ 4
kind_small (handled.TheVariants.Catch owner) = omega arith
kind_small (handled.TheVariants.Filter at) = omega arith
kind_small handled.TheVariants.Finally = omega arith
kind_small handled.TheVariants.Fault = omega arith

some_token : (o : Option ℕ) → IsSome o → o ≡ Some (or_zero o)
some_token None some = cc
some_token (Some t) some = refl

any_of : (b : ℕ) → not (nat_eq b 0) ≡ nat_lt 0 b
any_of zero = refl
any_of (suc b) = rw (ne_eqb (suc b) 0 (λ e. omega arith)) (sym (lt-ltb 0 (suc b) (omega arith)))

no_class : (numbers : TokenMap) (os : List ℕ) (k : handled.ClauseKind) → 2 ≤ kind_number k → class_or_filter numbers os k ≡ 0
no_class numbers os (handled.TheVariants.Catch owner) h = absurd (omega arith)
no_class numbers os (handled.TheVariants.Filter at) h = absurd (omega arith)
no_class numbers os handled.TheVariants.Finally h = refl
no_class numbers os handled.TheVariants.Fault h = refl

abbrev fat_byte : Bool → ℕ
fat_byte b = if b then 0x41 else 1

abbrev small_byte : Bool → ℕ
small_byte b = if b then 1 else 0x41

which_byte : (b : Bool) → fat_byte (not b) ≡ small_byte b
which_byte true = refl
which_byte false = refl

same_flags : (some init : Bool) → 0x3000 + flags (not some) init ≡ 0x3003 + (if init then 0x10 else 0) + (if some then 8 else 0)
same_flags true true = refl
same_flags true false = refl
same_flags false true = refl
same_flags false false = refl

module _ (numbers : TokenMap) (os : List ℕ) (body : Body) (o : AreOffsets body.code os) (can : CanBeWritten numbers body)
    (few : body.bound < 2 ^ 16) (tokens : All (λ ins. HasToken numbers ins.operand) body.code)
    (near : (k : ℕ) (i : Ins) → k < length body.code → Reaches os (get_or os (k + 1) 0) (kind (get_or body.code k i).op) (get_or body.code k i).operand)
    (local : locals_number numbers.locals body.locals < 2 ^ 32)
    (classes : All (λ c. class_or_filter numbers os c.kind < 2 ^ 32) body.clauses) where
  abbrev ps : List Piece
  ps = pieces_from numbers os 0 body.code

  abbrev code : List ℕ
  code = code_bytes numbers os body.code

  abbrev size : ℕ
  size = get_or os (length body.code) 0

  abbrev token : ℕ
  token = locals_number numbers.locals body.locals

  abbrev rows : List ClauseRow
  rows = map (row_of numbers os) body.clauses

  abbrev front : List ℕ
  front = front_bytes numbers os body

  abbrev bytes : List ℕ
  bytes = front ++ tail_bytes (length front) rows

  small : (k : ℕ) → k ≤ length body.code → get_or os k 0 < 2 ^ 31
  small k h = omega (arith, o.each k h, offset_within body.code k, can.size)

  at : (k : ℕ) → k ≤ length body.code → place ps k ≡ get_or os k 0
  at k h = place_is numbers os body.code o can.operands can.size k h ∙ sym (o.each k h)

  code_long : length code ≡ size
  code_long = code_size_is numbers os body.code o can.operands can.size ∙ sym (o.each (length body.code) (omega arith))

  range : (first last : ℕ) → first < last → last ≤ length body.code → IsRange ps (get_or os first 0) (get_or os last 0 - get_or os first 0) first last
  range first last h l = record {
    some = h;
    inside = omega (arith, length-pieces numbers os 0 body.code);
    begins = at first (omega arith);
    ends = at last l ∙ omega (arith, o.each first (omega arith), o.each last l, offset_rises body.code first last (omega arith));
  }

  kind_spelled : (row : ClauseRow) (handler : ℕ) (k : handled.ClauseKind) → handler ≤ length body.code → KindFits numbers handler k → row.kind ≡ kind_number k → row.class_or_filter ≡ class_or_filter numbers os k
      → SpellsKind (writing numbers) ps row handler k
  kind_spelled row handler (handled.TheVariants.Catch owner) h f e c = (e, some_token (numbers.owners owner) f ∙ ap Some (sym c))
  kind_spelled row handler (handled.TheVariants.Filter t) h f e c = (e, f, at t (omega arith) ∙ sym c)
  kind_spelled row handler handled.TheVariants.Finally h f e c = e
  kind_spelled row handler handled.TheVariants.Fault h f e c = e

  clause_spelled : (c : Clause) → ClauseFits numbers (length body.code) c → SpellsClause (writing numbers) ps (row_of numbers os c) c
  unfolding row_of
  clause_spelled c f = record {
    try_range = range c.try_start c.try_end f.try_some f.try_inside;
    handler_range = range c.handler_start c.handler_end f.handler_some f.handler_inside;
    kind = kind_spelled (row_of numbers os c) c.handler_start c.kind (omega (arith, f.handler_some, f.handler_inside)) f.kind refl refl;
  }

  clauses_spelled : SpellsClauses (writing numbers) ps rows body.clauses
  clauses_spelled = record {
    count = length-map body.clauses (row_of numbers os);
    few = omega (arith, length-map body.clauses (row_of numbers os), can.few);
    each = λ k r c h.
        let P : ClauseRow → Type 0 = λ row. SpellsClause (writing numbers) ps row (get_or body.clauses k c) in
        subst P (sym (get_or-map (row_of numbers os) body.clauses k c r h)) (clause_spelled (get_or body.clauses k c) (can.clauses k c h));
  }

  row_fits : (c : Clause) → ClauseFits numbers (length body.code) c → class_or_filter numbers os c.kind < 2 ^ 32 → RowFits (row_of numbers os c)
  unfolding row_of
  row_fits c f t = record {
    kind = kind_small c.kind;
    try_offset = omega (arith, small c.try_start (omega (arith, f.try_some, f.try_inside)));
    try_length = omega (arith, small c.try_end f.try_inside);
    handler_offset = omega (arith, small c.handler_start (omega (arith, f.handler_some, f.handler_inside)));
    handler_length = omega (arith, small c.handler_end f.handler_inside);
    class_or_filter = t;
  }

  rows_fit : All RowFits rows
  rows_fit k r h =
      let l : k < length body.clauses = omega (arith, length-map body.clauses (row_of numbers os)) in
      let c : Clause = get_or body.clauses k (record { kind = handled.TheVariants.Fault; try_start = 0; try_end = 0; handler_start = 0; handler_end = 0 }) in
      let d : Clause = record { kind = handled.TheVariants.Fault; try_start = 0; try_end = 0; handler_start = 0; handler_end = 0 } in
      subst RowFits (sym (get_or-map (row_of numbers os) body.clauses k d r l)) (row_fits c (can.clauses k d l) (classes k d l))

  row_small : (c : Clause) → ClauseFits numbers (length body.code) c → serves_small (row_of numbers os c) ≡ is_small body.code c
  unfolding row_of
  row_small c f =
      rw (o.each c.try_start (omega (arith, f.try_some, f.try_inside)), o.each c.try_end f.try_inside, o.each c.handler_start (omega (arith, f.handler_some, f.handler_inside)), o.each c.handler_end f.handler_inside) refl

  all_rows_small : (cs : List Clause) → All (ClauseFits numbers (length body.code)) cs → list_all serves_small (map (row_of numbers os) cs) ≡ list_all (is_small body.code) cs
  all_rows_small [] f = refl
  all_rows_small (c ∷ cs) f =
      ap (λ b. b && list_all serves_small (map (row_of numbers os) cs)) (row_small c (f 0 c (omega arith)))
      ∙ ap (λ b. is_small body.code c && b) (all_rows_small cs (λ k d h. f (suc k) d (omega arith)))

  small_is : all_small rows ≡ fits_small body
  small_is =
      ap (λ n. nat_le n 20 && list_all serves_small rows) (length-map body.clauses (row_of numbers os))
      ∙ ap (λ b. nat_le (length body.clauses) 20 && b) (all_rows_small body.clauses can.clauses)

  -- ---- the header

  abbrev head : Bool → List ℕ
  head tiny = if tiny then (4 * size + 2) ∷ [] else fat_header token size body

  abbrev Heads : List ℕ → Bool → Type 0
  Heads rest tiny =
      Says ((head tiny ++ code) ++ rest) tiny (length (head tiny)) body.bound body.init (not (nat_eq (length body.clauses) 0)) token code

  tiny_head : (rest : List ℕ) → serves_tiny size body ≡ true → Heads rest true
  tiny_head rest e =
      let a = and_parts _ _ e in
      let b = and_parts _ _ a.0 in
      let c = and_parts _ _ b.0 in
      let d = and_parts _ _ c.0 in
      let is_8 : body.bound ≡ 8 = eqb-true _ _ d.0 in
      let no_init : body.init ≡ false = not-true _ d.1 in
      let none : length body.clauses ≡ 0 = eqb-true _ _ b.1 in
      let zero_token : token ≡ 0 = no_locals numbers.locals body.locals (eqb-true _ _ c.1) in
      let fits : length code < 64 = omega (arith, code_long, ltb-true _ _ a.1) in
      rw (sym code_long, is_8, no_init, none, zero_token) (tiny_says code rest fits)

  fat_head : (rest : List ℕ) → Heads rest false
  unfolding number_bytes
  fat_head rest =
      let fits : length code < 2 ^ 32 = omega (arith, code_long, small (length body.code) (omega arith)) in
      rw (sym code_long) (fat_says (nat_eq (length body.clauses) 0) body.init body.bound token code rest few local fits)

  headed : (rest : List ℕ) → Heads rest (serves_tiny size body)
  headed rest =
      elim (cases_Bool (serves_tiny size body)) [
        | inl y ↦ let P : Bool → Type 0 = Heads rest in subst P (sym y) (tiny_head rest y)
        | inr n ↦ let P : Bool → Type 0 = Heads rest in subst P (sym n) (fat_head rest)
      ]

  says : Says bytes (serves_tiny size body) (length (head (serves_tiny size body))) body.bound body.init (not (nat_eq (length body.clauses) 0)) token code
  says = headed (tail_bytes (length front) rows)

  end_is : code_end bytes ≡ length front
  unfolding code_end
  end_is =
      ap (λ n. n + code_size bytes) says.starts ∙ ap (λ n. length (head (serves_tiny size body)) + n) says.size
      ∙ sym (length-append (head (serves_tiny size body)) code)

  parts : Parts bytes (length front) rows
  parts =
      let n : length rows ≡ length body.clauses = length-map body.clauses (row_of numbers os) in
      parts_of front rows rows_fit (omega (arith, can.few)) end_is (says.more_is ∙ ap (λ k. not (nat_eq k 0)) (sym n))

  has_header : HasHeader bytes
  has_header = record {
    known = says.known;
    some = omega (arith, says.size, code_long, o.each (length body.code) (omega arith), count_within body.code, can.some);
    room = omega (arith, end_is, length-append front (tail_bytes (length front) rows));
  }

  spells : Spells (writing numbers) bytes body (length bytes)
  spells =
      let P : ℕ → Type 0 = λ t. SpellsLocals (writing numbers) t body.locals in
      let Q : List ℕ → Type 0 = λ bs. SpellsCode (writing numbers) ps body.code bs in
      let R : List ClauseRow → Type 0 = λ rs. SpellsClauses (writing numbers) ps rs body.clauses in
      record {
        header = has_header;
        bound = sym says.bound_is;
        init = sym says.init_is;
        locals = subst P (sym says.locals_is) (locals_spelled numbers body.locals can.locals);
        pieces = ps;
        code = subst Q (sym says.code_is) (code_spelled numbers os body.code o can.operands can.size tokens near);
        read = parts.whole;
        clauses = subst R (sym parts.rows_are) clauses_spelled;
        ends = sym parts.ends;
      }

  some_rows : 0 < length body.clauses → 0 < length rows
  some_rows h = omega (arith, length-map body.clauses (row_of numbers os))

  unused : (c : Clause) → 2 ≤ (row_of numbers os c).kind → (row_of numbers os c).class_or_filter ≡ 0
  unfolding row_of
  unused c h = no_class numbers os c.kind h

  rows_unused : All (λ row. 2 ≤ row.kind → row.class_or_filter ≡ 0) rows
  rows_unused k r h =
      let l : k < length body.clauses = omega (arith, length-map body.clauses (row_of numbers os)) in
      let d : Clause = record { kind = handled.TheVariants.Fault; try_start = 0; try_end = 0; handler_start = 0; handler_end = 0 } in
      let P : ClauseRow → Type 0 = λ row. 2 ≤ row.kind → row.class_or_filter ≡ 0 in
      subst P (sym (get_or-map (row_of numbers os) body.clauses k d r l)) (unused (get_or body.clauses k d))

  section : 0 < length body.clauses → HasSection body bytes
  section h =
      let holds : Holds bytes (padded (length front)) (not (all_small rows)) rows = parts.holds (some_rows h) in
      let P : List ClauseRow → Type 0 = All (λ row. 2 ≤ row.kind → row.class_or_filter ≡ 0) in
      record {
        one = parts.one (some_rows h) ∙ ap (λ n. padded n ∷ []) (sym end_is);
        filled = rw end_is (parts.filled (some_rows h));
        kind_byte = rw end_is (holds.byte_is ∙ which_byte (all_small rows) ∙ ap small_byte small_is);
        size = rw end_is (omega (arith, holds.exact));
        reserved = λ e. rw end_is (holds.reserved (ap not (small_is ∙ e)));
        unused = subst P (sym parts.rows_are) rows_unused;
      }

  flags_same : is_tiny bytes ≡ false → number_at 2 0 bytes ≡ fat_flags body
  flags_same e =
      says.flags_are (sym says.is ∙ e) ∙ ap (λ b. 0x3000 + flags (not b) body.init) (any_of (length body.clauses))
      ∙ same_flags (nat_lt 0 (length body.clauses)) body.init

  compact : IsCompact body bytes
  compact = record {
    tiny = says.is ∙ ap (λ n. serves_tiny n body) (o.each (length body.code) (omega arith));
    flags = flags_same;
    section = section;
  }

  pub is_written : IsWritten numbers body (body_bytes numbers os body)
  unfolding body_bytes
  is_written = record { spelled = spells; compact = compact }
