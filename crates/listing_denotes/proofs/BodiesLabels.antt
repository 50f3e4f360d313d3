-- Each label of a body stands once, and the label of each instruction is there.
use Rattle.std.proofs.Common.{◌≡◌, ◌⊎◌, inl, inr, ℕ, zero, suc, ◌+◌, ◌<◌, ◌≤◌, ◌^◌, ◌&&◌, ◌||◌, not, Bool, true, false, cond, List, [], ◌∷◌, ◌++◌, map, length, take, Option, None, Some, refl, ap, sym, subst, ◌∙◌, arith}
use Rattle.std.proofs.lemmas.Bool.{cases_Bool, false≢true}
use Rattle.std.proofs.lemmas.List.Sums.{sum_by-cons}
use Rattle.std.proofs.lemmas.Slice.Eq.{bytes_eq-Decides}
use Rattle.std.specs.List.{list_any}
use Rattle.std.specs.Prelude.{find, is_some}
use Rattle.std.specs.Str.{bytes_eq}
use Rattle.ilasm_grammar.specs.Ilasm.{ilasm, rule_by, has_bit}
use Rattle.ilasm_grammar.specs.declared.nonterminals.TheConstants as n
use Rattle.ilasm_grammar.specs.declared.productions.TheConstants as p
use Rattle.opcode_table.specs.Opcodes.{bytes_of}
use Rattle.opcode_table.specs.Sizes.{bytes_in, opcode_size}
use Rattle.assembly_tree.specs.WellFormedBodies.{size_of, offset_of}
use Rattle.assembly_tree.specs.WellFormedNames.{all_differ}
use Rattle.assembly_tree.specs.declared.assembly.Assembly.{Assembly}
use Rattle.assembly_tree.specs.declared.body.Ins.{Ins}
use Rattle.source_model.specs.BodyFaults.{is_same_name}
use Rattle.source_model.specs.DeclaredTwice.{repeats}
use Rattle.source_model.specs.Forest as f
use Rattle.source_model.specs.Instructions.{labels, is_label}
use Rattle.source_model.specs.Source.{Source, spelling}
use Rattle.source_model.specs.Values.{name_text, part_texts, dotted}
use Rattle.listing_constants.specs.Laws.{LabelsAreRead}
use Rattle.listing_leaves.specs.Numbers.{label}
use Rattle.listing_model.specs.Bodies as written
use Rattle.listing_model.specs.Grown.{body_of}
use Rattle.listing_model.specs.Shown.{none, item, put, size}
use Rattle.listing_reading.specs.Below.{below, cant_stand}
use Rattle.listing_reading.specs.BelowMasks.{below_masks}
use Rattle.listing_reading.specs.Laws.{SearchesPass}
use Rattle.listing_rows.specs.Segments.{ItemsAgree, pieces_at, EachGrown}
use Rattle.listing_values.specs.Laws.{LabelsDiffer}
use Rattle.members_once.proofs.Repeats.{no_repeats, differ_mapped, differ_turned}

-- ---- offsets

-- that of the end, where the first instruction stands at this one
abbrev pub last_offset : ℕ → List Ins → ℕ
last_offset o [] = o
last_offset o (i ∷ is) = last_offset (o + size_of i) is

-- that of an instruction, or of the end
abbrev pub offset_from : ℕ → List Ins → ℕ → ℕ
offset_from o [] j = o
offset_from o (i ∷ is) zero = o
offset_from o (i ∷ is) (suc j) = offset_from (o + size_of i) is j

plus_zero : (o : ℕ) → o ≡ o + 0
plus_zero o = omega arith

offset_is : (o : ℕ) (is : List Ins) (j : ℕ) → offset_from o is j ≡ o + offset_of is j
offset_is o [] zero = plus_zero o
offset_is o [] (suc j) = plus_zero o
offset_is o (i ∷ is) zero = plus_zero o
offset_is o (i ∷ is) (suc j) =
    let more : o + (size_of i + offset_of is j) ≡ (o + size_of i) + offset_of is j = omega arith in
    offset_is (o + size_of i) is j ∙ (sym more ∙ ap (λ k. o + k) (sym (sum_by-cons size_of i (take j is))))

last_is : (o : ℕ) (is : List Ins) → last_offset o is ≡ offset_from o is (length is)
last_is o [] = refl
last_is o (i ∷ is) = last_is (o + size_of i) is

pub last_of_code : (is : List Ins) → last_offset 0 is ≡ offset_of is (length is)
last_of_code is = let e = last_is 0 is in let g = offset_is 0 is (length is) in omega arith

pub offset_of_code : (is : List Ins) (j : ℕ) → offset_from 0 is j ≡ offset_of is j
offset_of_code is j = let g = offset_is 0 is j in omega arith

one_or_two : (b : ℕ × Option ℕ) → 0 < bytes_in b
one_or_two (first, None) = omega arith
one_or_two (first, Some second) = omega arith

-- an instruction has a byte
some_bytes : (i : Ins) → 0 < size_of i
unfolding size_of opcode_size
some_bytes i = let opcode = one_or_two (bytes_of i.op) in omega arith

last_high : (o : ℕ) (is : List Ins) → o ≤ last_offset o is
last_high o [] = omega arith
last_high o (i ∷ is) = let more = last_high (o + size_of i) is in omega arith

pub offset_low : (o : ℕ) (is : List Ins) (j : ℕ) → offset_from o is j ≤ last_offset o is
offset_low o [] zero = omega arith
offset_low o [] (suc j) = omega arith
offset_low o (i ∷ is) zero = last_high o (i ∷ is)
offset_low o (i ∷ is) (suc j) = offset_low (o + size_of i) is j

-- ---- labels as texts

-- those of instructions, the first of which stands at this offset; and that of the end, where it has one
abbrev pub label_texts : Bool → ℕ → List Ins → List (List ℕ)
label_texts c o [] = cond c (label o ∷ []) []
label_texts c o (i ∷ is) = label o ∷ label_texts c (o + size_of i) is

module _ (differ : LabelsDiffer) where
  other_label : (j k : ℕ) → j < k → k < 2 ^ 128 → bytes_eq (label j) (label k) ≡ false
  other_label j k less small = elim (cases_Bool (bytes_eq (label j) (label k))) [
    | inl is ↦
        let low : j < 2 ^ 128 = omega arith in
        let same = differ.offsets j k low small ((bytes_eq-Decides (label j) (label k)).0 is) in
        absurd (omega arith)
    | inr other ↦ other
  ]

  none_later : (c : Bool) (j o : ℕ) (is : List Ins) → j < o → last_offset o is < 2 ^ 128 → list_any (bytes_eq (label j)) (label_texts c o is) ≡ false
  none_later true j o [] less small = ap (λ d. d || false) (other_label j o less small)
  none_later false j o [] less small = refl
  none_later c j o (i ∷ is) less small =
      let high = last_high (o + size_of i) is in
      let here : o < 2 ^ 128 = omega arith in
      let next : j < o + size_of i = omega arith in
      ap (λ d. d || list_any (bytes_eq (label j)) (label_texts c (o + size_of i) is)) (other_label j o less here) ∙ none_later c j (o + size_of i) is next small

  pub texts_differ : (c : Bool) (o : ℕ) (is : List Ins) → last_offset o is < 2 ^ 128 → all_differ bytes_eq (label_texts c o is) ≡ true
  texts_differ true o [] small = refl
  texts_differ false o [] small = refl
  texts_differ c o (i ∷ is) small =
      let some = some_bytes i in
      let next : o < o + size_of i = omega arith in
      ap (λ d. not d && all_differ bytes_eq (label_texts c (o + size_of i) is)) (none_later c o (o + size_of i) is next small) ∙ texts_differ c (o + size_of i) is small

-- an instruction of this number has a label, and the end has one where it is asked
abbrev pub HasLabel : Bool → ℕ → ℕ → Type 0
HasLabel c j m = (j < m) ⊎ ((j ≡ m) × (c ≡ true))

own_text : (o : ℕ) → bytes_eq (label o) (label o) ≡ true
own_text o = (bytes_eq-Decides (label o) (label o)).1 refl

or_true : (x : Bool) → (x || true) ≡ true
or_true true = refl
or_true false = refl

or_else : (x y : Bool) → y ≡ true → (x || y) ≡ true
or_else x y h = ap (λ (z : Bool). x || z) h ∙ or_true x

never_less : (j : ℕ) → j < 0 → ⊥
never_less j h = absurd (omega arith)

never_zero : (j m : ℕ) → zero ≡ suc m → ⊥
never_zero j m h = absurd (omega arith)

label_next : (c : Bool) (j m : ℕ) → HasLabel c (suc j) (suc m) → HasLabel c j m
label_next c j m (inl h) = inl (omega arith)
label_next c j m (inr h) = let same = h.0 in let less : j ≡ m = omega arith in inr (less, h.1)

pub text_there : (c : Bool) (o : ℕ) (is : List Ins) (j : ℕ) → HasLabel c j (length is) → list_any (λ y. bytes_eq y (label (offset_from o is j))) (label_texts c o is) ≡ true
text_there c o [] j (inl h) = absurd (never_less j h)
text_there c o [] j (inr h) =
    subst (λ (d : Bool). list_any (λ y. bytes_eq y (label o)) (cond d (label o ∷ []) []) ≡ true) (sym h.1) (ap (λ (d : Bool). d || false) (own_text o))
text_there c o (i ∷ is) zero h = ap (λ (d : Bool). d || list_any (λ y. bytes_eq y (label o)) (label_texts c (o + size_of i) is)) (own_text o)
text_there c o (i ∷ is) (suc j) h =
    or_else (bytes_eq (label o) (label (offset_from (o + size_of i) is j))) (list_any (λ y. bytes_eq y (label (offset_from (o + size_of i) is j))) (label_texts c (o + size_of i) is))
    (text_there c (o + size_of i) is j (label_next c j (length is) h))

-- ---- as they stand in a source

no_label_inside : cant_stand (p.ITEM_NAME ∷ []) (body_of p.ITEM_INSTRUCTION) ≡ true
unfolding ilasm rule_by has_bit below below_masks
no_label_inside = refl

module _ (read : LabelsAreRead) (searches : SearchesPass) (s : Source) (a : Assembly) (code : List Ins) where
  -- the text of a token that is spelled so
  pub named : (k o : ℕ) → o < 2 ^ 128 → spelling s k ≡ label o → name_text s k ≡ label o
  named k o small e = ap (λ t. dotted (part_texts t)) e ∙ read.offsets o small

  -- the texts of labels, each a part
  abbrev pub texts_of : List f.Part → List (List ℕ)
  texts_of ps = map (name_text s) (map (f.leaf_at 0) (f.below_each ps))

  pub end_texts : (c : Bool) (o k : ℕ) → o < 2 ^ 128 → ItemsAgree s k (cond c (written.label_line o ∷ []) []) →
      texts_of (pieces_at (p.ITEM_NAME ∷ []) k (cond c (written.label_line o ∷ []) []) ++ []) ≡ cond c (label o ∷ []) []
  end_texts true o k small ag = ap (λ t. t ∷ []) (named k o small ag.0.0.text)
  end_texts false o k small ag = refl

  -- those of the lines of instructions, with others behind them
  pub lines_texts : (c : Bool) (is : List Ins) (at o : ℕ) → last_offset o is < 2 ^ 128 → EachGrown n.ITEM (written.instructions a.externs code o is) →
      ItemsAgree s at (written.instructions a.externs code o is) → (more : List f.Part) → texts_of more ≡ cond c (label (last_offset o is) ∷ []) [] →
      texts_of (pieces_at (p.ITEM_NAME ∷ []) at (written.instructions a.externs code o is) ++ more) ≡ label_texts c o is
  lines_texts c [] at o small g ag more e = e
  lines_texts c (i ∷ is) at o small g ag more e =
      let high = last_high (o + size_of i) is in
      let here : o < 2 ^ 128 = omega arith in
      let label_item = written.label_line o in
      let own = item p.ITEM_INSTRUCTION (put (written.instruction a.externs code i) none) in
      let from = at + size label_item.below in
      let next = from + size own.below in
      let rest = pieces_at (p.ITEM_NAME ∷ []) next (written.instructions a.externs code (o + size_of i) is) in
      ap (λ (ps : List f.Part). name_text s at ∷ texts_of ((ps ++ rest) ++ more)) (searches.nothing (p.ITEM_NAME ∷ []) (body_of p.ITEM_INSTRUCTION) no_label_inside own.below g.2.1 from)
      ∙ (ap (λ (t : List ℕ). t ∷ texts_of (rest ++ more)) (named at o here ag.0.0.text)
      ∙ ap (λ (ts : List (List ℕ)). label o ∷ ts) (lines_texts c is next (o + size_of i) small g.2.2 ag.1.1 more e))

-- ---- in a method

-- all texts of labels differ
pub labels_once : (s : Source) (method : f.Forest) (texts : List (List ℕ)) → map (name_text s) (labels method) ≡ texts → all_differ bytes_eq texts ≡ true → repeats (is_same_name s) (labels method) ≡ []
labels_once s method texts e h =
    no_repeats (λ x y. bytes_eq (name_text s x) (name_text s y)) (labels method)
    (differ_mapped (λ x y. bytes_eq y x) (name_text s) (labels method) ∙ (sym (differ_turned (map (name_text s) (labels method))) ∙ (ap (all_differ bytes_eq) e ∙ h)))

found_any : (test : ℕ → Bool) (ks : List ℕ) → list_any test ks ≡ true → is_some (find test ks) ≡ true
found_any test [] h = absurd (false≢true h)
found_any test (k ∷ ks) h = by (test k) h (found_any test ks)
  where
    by : (c : Bool) → (c || list_any test ks) ≡ true → (list_any test ks ≡ true → is_some (find test ks) ≡ true) → is_some (cond c (Some k) (find test ks)) ≡ true
    by true g r = refl
    by false g r = r g

any_mapped : (test : List ℕ → Bool) (s : Source) (ks : List ℕ) → list_any (λ k. test (name_text s k)) ks ≡ list_any test (map (name_text s) ks)
any_mapped test s [] = refl
any_mapped test s (k ∷ ks) = ap (λ c. test (name_text s k) || c) (any_mapped test s ks)

-- a token is the name of a label where its text is one of these
pub label_found : (s : Source) (method : f.Forest) (texts : List (List ℕ)) → map (name_text s) (labels method) ≡ texts → (k : ℕ) (text : List ℕ) → name_text s k ≡ text →
    list_any (λ y. bytes_eq y text) texts ≡ true → is_label s method k ≡ true
label_found s method texts e k text is h =
    found_any (λ l. bytes_eq (name_text s l) (name_text s k)) (labels method)
    (any_mapped (λ y. bytes_eq y (name_text s k)) s (labels method)
    ∙ (ap (list_any (λ y. bytes_eq y (name_text s k))) e ∙ (ap (λ (t : List ℕ). list_any (λ y. bytes_eq y t) texts) is ∙ h)))
