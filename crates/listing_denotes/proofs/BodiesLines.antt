-- The lines of a body, one kind after another, and what is sought in them.
use Rattle.std.proofs.Common.{◌≡◌, ◌||◌, not, nat_eq, ℕ, ◌+◌, Bool, true, false, cond, if◌then◌else◌, List, [], ◌∷◌, ◌++◌, map, length, refl, ap, ◌∙◌}
use Rattle.std.specs.List.{list_any}
use Rattle.ilasm_grammar.specs.declared.nonterminals.TheConstants as n
use Rattle.ilasm_grammar.specs.declared.productions.TheConstants as p
use Rattle.il_lexer.specs.declared.types.TokenKind.TheVariants as kind
use Rattle.il_lexer.specs.declared.word.TheConstants as word
use Rattle.type_terms.specs.declared.term.SigType.{SigType}
use Rattle.assembly_tree.specs.WellFormedBodies.{size_of, offset_of}
use Rattle.assembly_tree.specs.declared.assembly.Assembly.{Assembly}
use Rattle.assembly_tree.specs.declared.body.Body.{Body}
use Rattle.assembly_tree.specs.declared.body.Clause.{Clause}
use Rattle.assembly_tree.specs.declared.body.Ins.{Ins}
use Rattle.source_model.specs.Forest as f
use Rattle.source_model.specs.Source.{Source}
use Rattle.listing_bodies.specs.Laws.{LacksIn, PassesClauses, LinesLack}
use Rattle.listing_leaves.specs.Numbers.{natural}
use Rattle.listing_model.specs.Bodies as written
use Rattle.listing_model.specs.Grown.{body_of, Grows}
use Rattle.listing_model.specs.Shown.{Item, item, line, token, none, size}
use Rattle.listing_reading.specs.Laws.{SearchesPass}
use Rattle.listing_reading.specs.Numbered.{numbered, Agrees}
use Rattle.listing_rows.specs.Laws.{SegmentsAreRead, PiecesAreRead}
use Rattle.listing_rows.specs.Segments.{end_of, ItemsAgree, pieces_of, pieces_at, EachGrown, EachLacks}
use Rattle.listing_denotes.proofs.MethodsBodies.{locals_below}

code_lacks : (a : Assembly) (code : List Ins) (sought : List ℕ) → LacksIn sought p.ITEM_NAME → LacksIn sought p.ITEM_INSTRUCTION → (o : ℕ) (is : List Ins) →
    EachLacks sought (written.instructions a.externs code o is)
code_lacks a code sought l i o [] = tt
code_lacks a code sought l i o (x ∷ is) = (l.own, l.inside, (i.own, i.inside, code_lacks a code sought l i (o + size_of x) is))

label_lacks : (sought : List ℕ) → LacksIn sought p.ITEM_NAME → (b : Bool) (o : ℕ) → EachLacks sought (cond b (written.label_line o ∷ []) [])
label_lacks sought l true o = (l.own, l.inside, tt)
label_lacks sought l false o = tt

locals_lack : (a : Assembly) (sought : List ℕ) → LacksIn sought p.ITEM_LOCALS → (b init : Bool) (ts : List SigType) → EachLacks sought (cond b (item p.ITEM_LOCALS (locals_below a init ts) ∷ []) [])
locals_lack a sought l true init ts = (l.own, l.inside, tt)
locals_lack a sought l false init ts = tt

module _ (pieces : PiecesAreRead) (searches : SearchesPass) (lines : LinesLack) (a : Assembly) (b : Body) (grown : EachGrown n.ITEM (written.body a.externs b)) where
  abbrev pub bound_item : Item
  bound_item = item p.ITEM_MAXSTACK (line word.DOT_MAXSTACK (token kind.Int (natural b.bound) none))

  abbrev pub locals_part : List Item
  locals_part = written.locals a.externs b.init b.locals

  abbrev pub code_part : List Item
  code_part = written.instructions a.externs b.code 0 b.code

  abbrev pub end_part : List Item
  end_part = written.end_label a.externs b

  abbrev pub clauses_part : List Item
  clauses_part = map (written.clause a.externs b.code) b.clauses

  abbrev pub locals_at : ℕ → ℕ
  locals_at at = at + size bound_item.below

  abbrev pub code_at : ℕ → ℕ
  code_at at = end_of (locals_at at) locals_part

  abbrev pub end_at : ℕ → ℕ
  end_at at = end_of (code_at at) code_part

  abbrev pub clauses_at : ℕ → ℕ
  clauses_at at = end_of (end_at at) end_part

  -- each kind has grown
  pub record Segments : Type 0 where
    pub bound : Grows (body_of p.ITEM_MAXSTACK) bound_item.below
    pub locals : EachGrown n.ITEM locals_part
    pub code : EachGrown n.ITEM code_part
    pub end : EachGrown n.ITEM end_part
    pub clauses : EachGrown n.ITEM clauses_part

  pub segments_grown : Segments
  unfolding written.body
  segments_grown =
      let one = pieces.each n.ITEM locals_part (code_part ++ (end_part ++ clauses_part)) grown.2 in
      let two = pieces.each n.ITEM code_part (end_part ++ clauses_part) one.1 in
      let three = pieces.each n.ITEM end_part clauses_part two.1 in
      record { bound = grown.1; locals = one.0; code = two.0; end = three.0; clauses = three.1 }

  -- and its tokens are there
  pub record Agreeing (s : Source) (at : ℕ) : Type 0 where
    pub bound : Agrees s at bound_item.below
    pub locals : ItemsAgree s (locals_at at) locals_part
    pub code : ItemsAgree s (code_at at) code_part
    pub end : ItemsAgree s (end_at at) end_part
    pub clauses : ItemsAgree s (clauses_at at) clauses_part

  pub agreeing : (segments : SegmentsAreRead) (s : Source) (at : ℕ) → ItemsAgree s at (written.body a.externs b) → Agreeing s at
  unfolding written.body
  agreeing segments s at ag =
      let one = segments.agree s (locals_at at) locals_part (code_part ++ (end_part ++ clauses_part)) ag.1 in
      let two = segments.agree s (code_at at) code_part (end_part ++ clauses_part) one.1 in
      let three = segments.agree s (end_at at) end_part clauses_part two.1 in
      record { bound = ag.0; locals = one.0; code = two.0; end = three.0; clauses = three.1 }

  in_segments : (sought : List ℕ) (at : ℕ) →
      pieces_at sought at (written.body a.externs b)
      ≡ pieces_of sought at bound_item ++ (pieces_at sought (locals_at at) locals_part ++ (pieces_at sought (code_at at) code_part ++ (pieces_at sought (end_at at) end_part ++ pieces_at sought (clauses_at at) clauses_part)))
  unfolding written.body
  in_segments sought at =
      ap (λ ps. pieces_of sought at bound_item ++ ps)
      (pieces.joined sought (locals_at at) locals_part (code_part ++ (end_part ++ clauses_part))
      ∙ ap (λ ps. pieces_at sought (locals_at at) locals_part ++ ps)
      (pieces.joined sought (code_at at) code_part (end_part ++ clauses_part)
      ∙ ap (λ ps. pieces_at sought (code_at at) code_part ++ ps) (pieces.joined sought (end_at at) end_part clauses_part)))

  bound_none : (sought : List ℕ) → LacksIn sought p.ITEM_MAXSTACK → (at : ℕ) → pieces_of sought at bound_item ≡ []
  bound_none sought l at =
      ap (λ c. if c then f.part p.ITEM_MAXSTACK (numbered at bound_item.below) ∷ [] else f.parts sought (numbered at bound_item.below)) l.own
      ∙ searches.nothing sought (body_of p.ITEM_MAXSTACK) l.inside bound_item.below segments_grown.bound at

  locals_none : (sought : List ℕ) → LacksIn sought p.ITEM_LOCALS → (at : ℕ) → pieces_at sought (locals_at at) locals_part ≡ []
  locals_none sought l at =
      pieces.none sought n.ITEM (locals_at at) locals_part segments_grown.locals (locals_lack a sought l (b.init || not (nat_eq (length b.locals) 0)) b.init b.locals)

  code_none : (sought : List ℕ) → LacksIn sought p.ITEM_NAME → LacksIn sought p.ITEM_INSTRUCTION → (at : ℕ) → pieces_at sought (code_at at) code_part ≡ []
  code_none sought l i at = pieces.none sought n.ITEM (code_at at) code_part segments_grown.code (code_lacks a b.code sought l i 0 b.code)

  end_none : (sought : List ℕ) → LacksIn sought p.ITEM_NAME → (at : ℕ) → pieces_at sought (end_at at) end_part ≡ []
  end_none sought l at =
      pieces.none sought n.ITEM (end_at at) end_part segments_grown.end
      (label_lacks sought l (list_any (written.ends_last b.code) b.clauses) (offset_of b.code (length b.code)))

  some_clauses : (sought : List ℕ) → PassesClauses sought → f.is_among sought p.ITEM_TRY ≡ false → (cs : List Clause) (at : ℕ) → EachGrown n.ITEM (map (written.clause a.externs b.code) cs) →
      pieces_at sought at (map (written.clause a.externs b.code) cs) ≡ []
  some_clauses sought passes own [] at g = refl
  some_clauses sought passes own (c ∷ cs) at g =
      let next = at + size (written.clause a.externs b.code c).below in
      let more = pieces_at sought next (map (written.clause a.externs b.code) cs) in
      ap (λ d. (if d then f.part p.ITEM_TRY (numbered at (written.clause a.externs b.code c).below) ∷ [] else f.parts sought (numbered at (written.clause a.externs b.code c).below)) ++ more) own
      ∙ (ap (λ ps. ps ++ more) (lines.clause a b.code sought passes c g.1 at) ∙ some_clauses sought passes own cs next g.2)

  clauses_none : (sought : List ℕ) → PassesClauses sought → f.is_among sought p.ITEM_TRY ≡ false → (at : ℕ) → pieces_at sought (clauses_at at) clauses_part ≡ []
  clauses_none sought passes own at = some_clauses sought passes own b.clauses (clauses_at at) segments_grown.clauses

  -- ---- what stands in one kind of lines alone

  -- in the line of the stack's bound
  pub in_bound : (sought : List ℕ) → LacksIn sought p.ITEM_LOCALS → LacksIn sought p.ITEM_NAME → LacksIn sought p.ITEM_INSTRUCTION → PassesClauses sought → f.is_among sought p.ITEM_TRY ≡ false → (at : ℕ) →
      pieces_at sought at (written.body a.externs b) ≡ pieces_of sought at bound_item ++ []
  in_bound sought l q i c t at =
      let no2 = locals_none sought l at in
      let no3 = code_none sought q i at in
      let no4 = end_none sought q at in
      let no5 = clauses_none sought c t at in
      in_segments sought at ∙ (λ j. pieces_of sought at bound_item ++ (no2 j ++ (no3 j ++ (no4 j ++ no5 j))))

  -- in the line of locals
  pub in_locals : (sought : List ℕ) → LacksIn sought p.ITEM_MAXSTACK → LacksIn sought p.ITEM_NAME → LacksIn sought p.ITEM_INSTRUCTION → PassesClauses sought → f.is_among sought p.ITEM_TRY ≡ false → (at : ℕ) →
      pieces_at sought at (written.body a.externs b) ≡ pieces_at sought (locals_at at) locals_part ++ []
  in_locals sought m q i c t at =
      let no1 = bound_none sought m at in
      let no3 = code_none sought q i at in
      let no4 = end_none sought q at in
      let no5 = clauses_none sought c t at in
      in_segments sought at ∙ (λ j. no1 j ++ (pieces_at sought (locals_at at) locals_part ++ (no3 j ++ (no4 j ++ no5 j))))

  -- in the instructions and their labels
  pub in_code : (sought : List ℕ) → LacksIn sought p.ITEM_MAXSTACK → LacksIn sought p.ITEM_LOCALS → LacksIn sought p.ITEM_NAME → PassesClauses sought → f.is_among sought p.ITEM_TRY ≡ false → (at : ℕ) →
      pieces_at sought at (written.body a.externs b) ≡ pieces_at sought (code_at at) code_part ++ []
  in_code sought m l q c t at =
      let no1 = bound_none sought m at in
      let no2 = locals_none sought l at in
      let no4 = end_none sought q at in
      let no5 = clauses_none sought c t at in
      in_segments sought at ∙ (λ j. no1 j ++ (no2 j ++ (pieces_at sought (code_at at) code_part ++ (no4 j ++ no5 j))))

  -- in all labels, that of the end included
  pub in_labels : (sought : List ℕ) → LacksIn sought p.ITEM_MAXSTACK → LacksIn sought p.ITEM_LOCALS → PassesClauses sought → f.is_among sought p.ITEM_TRY ≡ false → (at : ℕ) →
      pieces_at sought at (written.body a.externs b) ≡ pieces_at sought (code_at at) code_part ++ (pieces_at sought (end_at at) end_part ++ [])
  in_labels sought m l c t at =
      let no1 = bound_none sought m at in
      let no2 = locals_none sought l at in
      let no5 = clauses_none sought c t at in
      in_segments sought at ∙ (λ j. no1 j ++ (no2 j ++ (pieces_at sought (code_at at) code_part ++ (pieces_at sought (end_at at) end_part ++ no5 j))))

  -- in instructions and clauses
  pub in_both : (sought : List ℕ) → LacksIn sought p.ITEM_MAXSTACK → LacksIn sought p.ITEM_LOCALS → LacksIn sought p.ITEM_NAME → (at : ℕ) →
      pieces_at sought at (written.body a.externs b) ≡ pieces_at sought (code_at at) code_part ++ pieces_at sought (clauses_at at) clauses_part
  in_both sought m l q at =
      let no1 = bound_none sought m at in
      let no2 = locals_none sought l at in
      let no4 = end_none sought q at in
      in_segments sought at ∙ (λ j. no1 j ++ (no2 j ++ (pieces_at sought (code_at at) code_part ++ (no4 j ++ pieces_at sought (clauses_at at) clauses_part))))
