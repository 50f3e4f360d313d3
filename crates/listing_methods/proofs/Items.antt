-- The items of a method, and the begins and ends of clauses among them.
use Rattle.std.proofs.Common.{◌≡◌, ℕ, ◌+◌, ◌||◌, not, nat_eq, Bool, true, false, cond, if◌then◌else◌, List, [], ◌∷◌, ◌++◌, map, length, refl, ap, sym, subst, ◌∙◌, append-nil, append_assoc}
use Rattle.std.specs.List.{list_any}
use Rattle.std.specs.Prelude.{⊤}
use Rattle.ilasm_grammar.specs.Ilasm.{ilasm, rule_by, has_bit}
use Rattle.ilasm_grammar.specs.declared.nonterminals.TheConstants as n
use Rattle.ilasm_grammar.specs.declared.productions.TheConstants as p
use Rattle.il_lexer.specs.declared.types.TokenKind.TheVariants as kind
use Rattle.il_lexer.specs.declared.word.TheConstants as word
use Rattle.assembly_tree.specs.WellFormedBodies.{size_of, offset_of}
use Rattle.assembly_tree.specs.declared.assembly.Assembly.{Assembly}
use Rattle.assembly_tree.specs.declared.body.Body.{Body}
use Rattle.assembly_tree.specs.declared.body.Clause.{Clause}
use Rattle.assembly_tree.specs.declared.body.Ins.{Ins}
use Rattle.source_model.specs.Forest as f
use Rattle.source_model.specs.Items.{plain_items, items_and_ends, is_custom, customs_outside}
use Rattle.source_model.specs.Parameters.{is_typar_line}
use Rattle.listing_bodies.specs.Laws.{PassesClauses, LinesLack}
use Rattle.listing_leaves.specs.Numbers.{natural}
use Rattle.listing_model.specs.Bodies as body
use Rattle.listing_model.specs.Grown.{body_of, Grows}
use Rattle.listing_model.specs.Shown.{Shown, none, Item, item, put, w, line, token, optional, when, size, star_production, star_below}
use Rattle.listing_reading.specs.Below.{below, cant_stand}
use Rattle.listing_reading.specs.BelowMasks.{below_masks}
use Rattle.listing_reading.specs.Laws.{SearchesPass}
use Rattle.listing_reading.specs.Numbered.{numbered}
use Rattle.listing_reading.specs.Rows.{AreAmong, parts_at, IsEndOfRun}
use Rattle.listing_rows.specs.Laws.{PiecesAreRead, RunsAreFiltered, WalksPass, item_parts, NonePass, AllOwned}
use Rattle.listing_rows.specs.Segments.{end_of, EachGrown}

-- ---- rows

-- what an item gives
abbrev pub ends_of : ℕ → Item → List f.Part
ends_of at i = items_and_ends (f.branch i.production (numbered at i.below) f.none)

abbrev pub ends_at : ℕ → List Item → List f.Part
ends_at at [] = []
ends_at at (i ∷ is) = ends_of at i ++ ends_at (at + size i.below) is

abbrev own_ends : ℕ → f.Forest → List f.Part
own_ends q b =
    if f.is_among plain_items q then f.part q b ∷ []
    else if nat_eq q p.ITEM_TRY || nat_eq q p.BLOCK then (f.part q f.none ∷ items_and_ends b) ++ f.part q f.none ∷ []
    else items_and_ends b

pub row_ends : (items : List Item) (at : ℕ) (after : f.Forest) →
    items_and_ends (f.branch (star_production p.ITEM_STAR_MORE p.ITEM_STAR_END items) (numbered at (star_below p.ITEM_STAR_MORE p.ITEM_STAR_END items)) after) ≡ ends_at at items ++ items_and_ends after
row_ends [] at after = refl
row_ends (i ∷ is) at after =
    let next = at + size i.below in
    let own = own_ends i.production (numbered at i.below) in
    let row = f.branch (star_production p.ITEM_STAR_MORE p.ITEM_STAR_END is) (numbered next (star_below p.ITEM_STAR_MORE p.ITEM_STAR_END is)) f.none in
    ap (λ ps. (ps ++ items_and_ends row) ++ items_and_ends after) (sym (append-nil own))
    ∙ ap (λ ps. ((own ++ []) ++ ps) ++ items_and_ends after) (row_ends is next f.none ∙ append-nil (ends_at next is))

pub ends_joined : (at : ℕ) (xs ys : List Item) → ends_at at (xs ++ ys) ≡ ends_at at xs ++ ends_at (end_of at xs) ys
ends_joined at [] ys = refl
ends_joined at (x ∷ xs) ys =
    let next = at + size x.below in
    ap (λ ps. ends_of at x ++ ps) (ends_joined next xs ys) ∙ sym (append_assoc (ends_of at x) (ends_at next xs) (ends_at (end_of next xs) ys))

pub plain_ends : (at : ℕ) (xs : List Item) → AreAmong plain_items xs → ends_at at xs ≡ parts_at at xs
plain_ends at [] h = refl
plain_ends at (x ∷ xs) h =
    let next = at + size x.below in
    let b = numbered at x.below in
    ap (λ c. ((if c then f.part x.production b ∷ []
    else if nat_eq x.production p.ITEM_TRY || nat_eq x.production p.BLOCK then (f.part x.production f.none ∷ items_and_ends b) ++ f.part x.production f.none ∷ []
    else items_and_ends b) ++ []) ++ ends_at next xs) h.0
    ∙ ap (λ ps. f.part x.production b ∷ ps) (plain_ends next xs h.1)

-- ---- what begins no run and is no attribute

abbrev pub is_param : f.Part → Bool
is_param q = f.has p.PARAM_OF_BRACKET q.below

pub record IsIdle (q : f.Part) : Type 0 where
  pub plain : is_custom q ≡ false
  pub no_typar : is_typar_line q ≡ false
  pub no_param : is_param q ≡ false

abbrev pub Idle : List f.Part → Type 0
Idle [] = ⊤
Idle (q ∷ qs) = IsIdle q × Idle qs

pub idle_both : (xs ys : List f.Part) → Idle xs → Idle ys → Idle (xs ++ ys)
idle_both [] ys h k = k
idle_both (x ∷ xs) ys h k = (h.0, idle_both xs ys h.1 k)

pub idle_typars : (xs : List f.Part) → Idle xs → NonePass is_typar_line xs
idle_typars [] h = tt
idle_typars (x ∷ xs) h = (h.0.no_typar, idle_typars xs h.1)

pub idle_params : (xs : List f.Part) → Idle xs → NonePass is_param xs
idle_params [] h = tt
idle_params (x ∷ xs) h = (h.0.no_param, idle_params xs h.1)

pub idle_ends : (xs : List f.Part) → Idle xs → IsEndOfRun xs
idle_ends [] h = tt
idle_ends (x ∷ xs) h = h.0.plain

nothing_owned : (b : Bool) → customs_outside b [] ≡ []
nothing_owned b = refl

pub idle_owned : RunsAreFiltered → (xs : List f.Part) → Idle xs → AllOwned xs
idle_owned filtered [] h = nothing_owned
idle_owned filtered (x ∷ xs) h = filtered.plain x xs h.0.plain (idle_owned filtered xs h.1)

-- a production of plain items that are so
pub record IsIdleLine (q : ℕ) : Type 0 where
  pub among : f.is_among plain_items q ≡ true
  pub plain : (g : f.Forest) → is_custom (f.part q g) ≡ false
  pub no_typar : (g : f.Forest) → is_typar_line (f.part q g) ≡ false
  pub no_param : cant_stand (p.PARAM_OF_BRACKET ∷ []) (body_of q) ≡ true

pub idle_override : IsIdleLine p.ITEM_OVERRIDE
unfolding ilasm rule_by has_bit below below_masks
idle_override = record { among = refl; plain = λ g. refl; no_typar = λ g. refl; no_param = refl }

pub idle_entry : IsIdleLine p.ITEM_ENTRYPOINT
unfolding ilasm rule_by has_bit below below_masks
idle_entry = record { among = refl; plain = λ g. refl; no_typar = λ g. refl; no_param = refl }

idle_bound : IsIdleLine p.ITEM_MAXSTACK
unfolding ilasm rule_by has_bit below below_masks
idle_bound = record { among = refl; plain = λ g. refl; no_typar = λ g. refl; no_param = refl }

idle_locals : IsIdleLine p.ITEM_LOCALS
unfolding ilasm rule_by has_bit below below_masks
idle_locals = record { among = refl; plain = λ g. refl; no_typar = λ g. refl; no_param = refl }

idle_label : IsIdleLine p.ITEM_NAME
unfolding ilasm rule_by has_bit below below_masks
idle_label = record { among = refl; plain = λ g. refl; no_typar = λ g. refl; no_param = refl }

idle_code : IsIdleLine p.ITEM_INSTRUCTION
unfolding ilasm rule_by has_bit below below_masks
idle_code = record { among = refl; plain = λ g. refl; no_typar = λ g. refl; no_param = refl }

items_pass : PassesClauses item_parts
unfolding ilasm rule_by has_bit below below_masks
items_pass = record { range = refl; catch = refl; filter = refl; finally = refl; fault = refl; filter_start = refl; handler = refl; end = refl; owners = refl }

module _ (searches : SearchesPass) (walks : WalksPass) where
  -- ---- single lines

  pub line_idle : (q : ℕ) → IsIdleLine q → (g : Shown) → Grows (body_of q) g → (at : ℕ) → Idle (ends_of at (item q g))
  line_idle q h g grown at =
      let b = numbered at g in
      subst (λ c. Idle ((if c then f.part q b ∷ [] else if nat_eq q p.ITEM_TRY || nat_eq q p.BLOCK then (f.part q f.none ∷ items_and_ends b) ++ f.part q f.none ∷ [] else items_and_ends b) ++ [])) (sym h.among)
      (record { plain = h.plain b; no_typar = h.no_typar b; no_param = ap f.is_any_part (searches.nothing (p.PARAM_OF_BRACKET ∷ []) (body_of q) h.no_param g grown at) }, tt)

  try_idle : (g : f.Forest) → items_and_ends g ≡ [] → Idle (items_and_ends (f.branch p.ITEM_TRY g f.none))
  try_idle g h =
      subst (λ ps. Idle (((f.part p.ITEM_TRY f.none ∷ ps) ++ f.part p.ITEM_TRY f.none ∷ []) ++ [])) (sym h)
      (record { plain = refl; no_typar = refl; no_param = refl }, (record { plain = refl; no_typar = refl; no_param = refl }, tt))

  -- ---- rows of them

  abbrev EndsIdle : List Item → Type 0
  EndsIdle is = (at : ℕ) → Idle (ends_at at is)

  more_idle : (i : Item) (is : List Item) → ((at : ℕ) → Idle (ends_of at i)) → EndsIdle is → EndsIdle (i ∷ is)
  more_idle i is h k at = idle_both (ends_of at i) (ends_at (at + size i.below) is) (h at) (k (at + size i.below))

  joined_idle : (xs ys : List Item) → EndsIdle xs → EndsIdle ys → EndsIdle (xs ++ ys)
  joined_idle xs ys h k at = subst Idle (sym (ends_joined at xs ys)) (idle_both (ends_at at xs) (ends_at (end_of at xs) ys) (h at) (k (end_of at xs)))

  code_idle : (a : Assembly) (code : List Ins) (o : ℕ) (is : List Ins) → EachGrown n.ITEM (body.instructions a.externs code o is) → EndsIdle (body.instructions a.externs code o is)
  code_idle a code o [] g = λ at. tt
  code_idle a code o (i ∷ is) g =
      more_idle (body.label_line o) (item p.ITEM_INSTRUCTION (put (body.instruction a.externs code i) none) ∷ body.instructions a.externs code (o + size_of i) is) (line_idle p.ITEM_NAME idle_label (body.label_line o).below g.1)
      (more_idle (item p.ITEM_INSTRUCTION (put (body.instruction a.externs code i) none)) (body.instructions a.externs code (o + size_of i) is) (line_idle p.ITEM_INSTRUCTION idle_code (put (body.instruction a.externs code i) none) g.2.1)
      (code_idle a code (o + size_of i) is g.2.2))

  label_idle : (c : Bool) (o : ℕ) → EachGrown n.ITEM (cond c (body.label_line o ∷ []) []) → EndsIdle (cond c (body.label_line o ∷ []) [])
  label_idle true o g = more_idle (body.label_line o) [] (line_idle p.ITEM_NAME idle_label (body.label_line o).below g.1) (λ at. tt)
  label_idle false o g = λ at. tt

  one_idle : (c : Bool) (g : Shown) → EachGrown n.ITEM (cond c (item p.ITEM_LOCALS g ∷ []) []) → EndsIdle (cond c (item p.ITEM_LOCALS g ∷ []) [])
  one_idle true g h = more_idle (item p.ITEM_LOCALS g) [] (line_idle p.ITEM_LOCALS idle_locals g h.1) (λ at. tt)
  one_idle false g h = λ at. tt

  clauses_idle : LinesLack → (a : Assembly) (code : List Ins) (cs : List Clause) → EachGrown n.ITEM (map (body.clause a.externs code) cs) → EndsIdle (map (body.clause a.externs code) cs)
  clauses_idle lack a code [] g = λ at. tt
  clauses_idle lack a code (c ∷ cs) g =
      more_idle (body.clause a.externs code c) (map (body.clause a.externs code) cs)
      (λ at. try_idle (numbered at (body.clause a.externs code c).below) (walks.no_items (numbered at (body.clause a.externs code c).below) (lack.clause a code item_parts items_pass c g.1 at)))
      (clauses_idle lack a code cs g.2)

  abbrev bound_below : Body → Shown
  bound_below b = line word.DOT_MAXSTACK (token kind.Int (natural b.bound) none)

  abbrev locals_below : Assembly → Body → Shown
  locals_below a b =
      line word.DOT_LOCALS
      (optional p.INIT_OPT_SOME p.INIT_OPT_NONE (when b.init (w word.INIT none))
      (w word.OPEN_PAREN
      (optional p.LOCALS_OPT_SOME p.LOCALS_OPT_NONE (body.locals_between a.externs (body.locals_from a.externs 0 b.locals)) (w word.CLOSE_PAREN none))))

  pub body_idle : LinesLack → PiecesAreRead → (a : Assembly) (b : Body) → EachGrown n.ITEM (body.body a.externs b) → EndsIdle (body.body a.externs b)
  unfolding body.body
  body_idle lack pieces a b g =
      let ls = body.locals a.externs b.init b.locals in
      let is = body.instructions a.externs b.code 0 b.code in
      let es = body.end_label a.externs b in
      let cs = map (body.clause a.externs b.code) b.clauses in
      let one = pieces.each n.ITEM ls (is ++ (es ++ cs)) g.2 in
      let two = pieces.each n.ITEM is (es ++ cs) one.1 in
      let three = pieces.each n.ITEM es cs two.1 in
      more_idle (item p.ITEM_MAXSTACK (bound_below b)) (ls ++ (is ++ (es ++ cs))) (line_idle p.ITEM_MAXSTACK idle_bound (bound_below b) g.1)
      (joined_idle ls (is ++ (es ++ cs)) (one_idle (b.init || not (nat_eq (length b.locals) 0)) (locals_below a b) one.0)
      (joined_idle is (es ++ cs) (code_idle a b.code 0 b.code two.0) (joined_idle es cs (label_idle (list_any (body.ends_last b.code) b.clauses) (offset_of b.code (length b.code)) three.0) (clauses_idle lack a b.code b.clauses three.1))))
