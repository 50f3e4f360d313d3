-- Generic parameters, and the lines that give them attributes, are read back.
use Rattle.std.proofs.Common.{◌≡◌, ℕ, zero, suc, ◌+◌, ◌-◌, ◌^◌, ◌<◌, ◌&&◌, nat_eq, Bool, true, false, cond, List, [], ◌∷◌, ◌++◌, map, filter, length, take, drop, slice_get, Some, refl, ap, sym, subst, ◌∙◌, append-nil, append_assoc, arith}
use Rattle.std.proofs.lemmas.Bool.{and_parts, ltb-true, false≢true}
use Rattle.std.specs.List.{list_all, enumerate_from}
use Rattle.ilasm_grammar.specs.Ilasm.{ilasm, rule_by, has_bit}
use Rattle.ilasm_grammar.specs.declared.nonterminals.TheConstants as n
use Rattle.ilasm_grammar.specs.declared.productions.TheConstants as p
use Rattle.il_lexer.specs.declared.word.TheConstants as word
use Rattle.assembly_tree.specs.WellFormedMembers.{is_attribute, is_generic}
use Rattle.assembly_tree.specs.WellFormedTerms.{is_owner}
use Rattle.assembly_tree.specs.declared.assembly.Assembly.{Assembly}
use Rattle.assembly_tree.specs.declared.assembly.ExternAssembly.{ExternAssembly}
use Rattle.assembly_tree.specs.declared.members.Attribute.{Attribute}
use Rattle.assembly_tree.specs.declared.members.Generic.{Generic}
use Rattle.type_terms.specs.declared.term.Owner.{Owner}
use Rattle.source_model.specs.Flags as flags
use Rattle.source_model.specs.Forest as f
use Rattle.source_model.specs.Items.{Run, is_custom}
use Rattle.source_model.specs.Manifests.{attributes}
use Rattle.source_model.specs.Nodes.{Around, typars, typar_names}
use Rattle.source_model.specs.Parameters.{attributes_of, generic, generics, typar_number, is_typar_line, speaks_of_typar}
use Rattle.source_model.specs.Source.{Source}
use Rattle.source_model.specs.Types.{types_in, owners_in}
use Rattle.source_model.specs.Values.{part_texts, dotted}
use Rattle.listing_constants.specs.Laws.{AttributesAreRead}
use Rattle.listing_flags.specs.Laws.{FlagsAreRead}
use Rattle.listing_formed.specs.Laws.{Knows, FormedAreReadable}
use Rattle.listing_growth.specs.Held.{is_owner_held, are_attributes_held, is_generic_held}
use Rattle.listing_growth.specs.Laws.{MembersStand}
use Rattle.listing_growth.specs.Standing.{owner_can_stand, all_owners_stand}
use Rattle.listing_model.specs.Flags.{flag_items, typar_words}
use Rattle.listing_model.specs.Grown.{body_of}
use Rattle.listing_model.specs.Members as written
use Rattle.listing_model.specs.Shown.{none, put, w, Item, opt_production, opt_below, size, behind_comma, commas}
use Rattle.listing_model.specs.Values.{custom, customs}
use Rattle.listing_reading.specs.Below.{below, cant_stand, cant_lead}
use Rattle.listing_reading.specs.BelowMasks.{below_masks}
use Rattle.listing_reading.specs.Laws.{SearchesPass}
use Rattle.listing_reading.specs.Numbered.{numbered, Agrees, rest, place}
use Rattle.listing_reading.specs.Rows.{AreAmong, parts_at, parts_behind, IsEndOfRun}
use Rattle.listing_rows.specs.Laws.{SegmentsAreRead, OptionsAreRead, RunsAreFiltered, runs_of, NonePass, AllOwned}
use Rattle.listing_rows.specs.Segments.{end_of, ItemsAgree, BehindAgree, CommasAgree, comma_parts}
use Rattle.listing_values.specs.Laws.{NamesAreRead}
use Rattle.listing_members.specs.Laws.{IsTyparHead, typar_run, typar_runs, OwnersAreRead, TyparLinesAreRead, GenericsAreRead}

-- ---- where what is sought stands

no_flags_behind : cant_lead (p.TYPAR_ATTR_STAR_MORE ∷ []) (drop 1 (body_of p.TYPAR)) ≡ true
unfolding ilasm rule_by
no_flags_behind = refl

no_bounds_before : cant_stand (p.TYPAR_BOUNDS ∷ []) (take 1 (body_of p.TYPAR)) ≡ true
unfolding ilasm rule_by has_bit below below_masks
no_bounds_before = refl

small_16 : (k : ℕ) → k < 0x10000 → k < 2 ^ 128
small_16 k h = omega arith

-- ---- one generic parameter

module _ (names : NamesAreRead) (flag_laws : FlagsAreRead) (owners : OwnersAreRead) (readable : FormedAreReadable) (stand : MembersStand) (searches : SearchesPass) (options : OptionsAreRead) (s : Source) (around : Around) (a : Assembly) (knows : Knows s a) where
  each_owner_stands : (os : List Owner) → list_all (is_owner a) os ≡ true → list_all is_owner_held os ≡ true → all_owners_stand os ≡ true
  each_owner_stands [] m h = refl
  each_owner_stands (o ∷ os) m h =
      let ms = and_parts (is_owner a o) (list_all (is_owner a) os) m in
      let hs = and_parts (is_owner_held o) (list_all is_owner_held os) h in
      both (owner_can_stand o) (all_owners_stand os) (readable.owners a knows.names o ms.0 hs.0).1 (each_owner_stands os ms.1 hs.1)
    where
      both : (x y : Bool) → x ≡ true → y ≡ true → (x && y) ≡ true
      both true y g i = i
      both false y g i = g

  greater : (k : ℕ) → owners_in s around (numbered k (w word.GREATER none)) ≡ []
  unfolding types_in
  greater k = refl

  closing : (k : ℕ) → owners_in s around (numbered k (w word.CLOSE_PAREN none)) ≡ []
  unfolding types_in
  closing k = refl

  no_owner : owners_in s around f.none ≡ []
  unfolding types_in
  no_owner = refl

  leaf_first : (k : ℕ) (g : f.Forest) → owners_in s around (f.leaf k g) ≡ owners_in s around g
  unfolding types_in
  leaf_first k g = refl

  -- the owners that bound it
  bounds_are : (os : List Owner) → list_all (is_owner a) os ≡ true → list_all is_owner_held os ≡ true → (g : f.Forest) (at : ℕ) →
      f.parts (p.TYPAR_BOUNDS ∷ []) g ≡ f.parts (p.TYPAR_BOUNDS ∷ []) (numbered at (opt_below (written.bounds a.externs os))) ++ [] →
      Agrees s at (opt_below (written.bounds a.externs os)) → owners_in s around (f.the p.TYPAR_BOUNDS g) ≡ os
  bounds_are [] m h g at e ag = ap (λ ps. owners_in s around (f.first_or f.none (f.below_each ps))) e ∙ no_owner
  bounds_are (o ∷ os) m h g at e ag =
      ap (λ ps. owners_in s around (f.first_or f.none (f.below_each ps))) e
      ∙ (leaf_first at (numbered (suc at) (written.specs a.externs (o ∷ os) (w word.CLOSE_PAREN none)))
      ∙ owners s around a knows (o ∷ os) m h (suc at) (w word.CLOSE_PAREN none) ag.0.1 closing)

  bounds_there : (os : List Owner) (k j : ℕ) →
      f.parts (p.TYPAR_BOUNDS ∷ []) (f.branch (opt_production p.TYPAR_BOUNDS_OPT_SOME p.TYPAR_BOUNDS_OPT_NONE (written.bounds a.externs os)) (numbered k (opt_below (written.bounds a.externs os))) (f.leaf j f.none))
      ≡ f.parts (p.TYPAR_BOUNDS ∷ []) (numbered k (opt_below (written.bounds a.externs os))) ++ []
  bounds_there [] k j = refl
  bounds_there (o ∷ os) k j = refl

  pub generic_is : (x : Generic) → is_generic a x ≡ true → is_generic_held x ≡ true → (at : ℕ) → Agrees s at (written.typar a.externs x).below →
      (ts : List (List ℕ)) (lines : List Run) (number : ℕ) →
      attributes_of s around (filter (λ r. nat_eq (typar_number s ts r.head.below) number) lines) ≡ x.attributes →
      generic s around ts lines (number, numbered at (written.typar a.externs x).below) ≡ x
  unfolding ilasm rule_by is_generic is_generic_held
  generic_is x m h at ag ts lines number attributes_are =
      let m1 = and_parts _ _ m in
      let m2 = and_parts _ _ m1.0 in
      let h1 = and_parts _ _ h in
      let h2 = and_parts _ _ h1.0 in
      let shown = (written.typar a.externs x).below in
      let g = numbered at shown in
      let grown = (stand.generics a.externs x (each_owner_stands x.bounds m2.1 h2.1)).1 in
      let behind = searches.child (p.TYPAR_ATTR_STAR_MORE ∷ []) 2 (drop 1 (body_of p.TYPAR)) no_flags_behind (rest 1 shown) (searches.rest 1 (body_of p.TYPAR) shown grown) (place 1 at shown) in
      let flags_at = options.row p.TYPAR_ATTR_STAR_MORE p.TYPAR_ATTR_STAR_END refl refl (flag_items n.TYPAR_ATTR p.TYPAR_ATTR_FLAGS typar_words x.flags) at (numbered (place 1 at shown) (rest 1 shown)) behind in
      let flags_are = ap (λ c. flags.flags_of s flags.typar_words (flags.flags_in p.TYPAR_ATTR_STAR_MORE p.TYPAR_ATTR_STAR_END c)) flags_at
      ∙ flag_laws.typars s at x.flags (small_16 x.flags (ltb-true x.flags 0x10000 h2.0)) ag.0 in
      let name_is = ap (λ t. dotted (part_texts t)) ag.1.1.0.text ∙ names.name x.name m2.0 in
      let its_bounds = bounds_are x.bounds m2.1 h2.1 g (place 1 at shown)
      (searches.parts (p.TYPAR_BOUNDS ∷ []) 1 (body_of p.TYPAR) no_bounds_before shown grown at ∙ bounds_there x.bounds (place 1 at shown) (place 2 at shown)) ag.1.0 in
      λ i. record { name = name_is i; flags = flags_are i; bounds = its_bounds i; attributes = attributes_are i }

-- ---- lines

-- the lines of one
abbrev line_by : Bool → (ℕ → Item) → ℕ → Generic → List Item → List Item
line_by b head k x cs = cond b [] (head k ∷ cs)

customs_pass : (externs : List ExternAssembly) (test : f.Part → Bool) (production : ℕ) → ((g : f.Forest) → test (f.part production g) ≡ true) →
    (xs : List Attribute) (at : ℕ) → list_all test (parts_at at (customs externs production xs)) ≡ true
customs_pass externs test production h [] at = refl
customs_pass externs test production h (x ∷ xs) at =
    let from = at + size (put (custom externs x) none) in
    ap (λ c. c && list_all test (parts_at from (customs externs production xs))) (h (numbered at (put (custom externs x) none))) ∙ customs_pass externs test production h xs from

customs_fail : (externs : List ExternAssembly) (test : f.Part → Bool) (production : ℕ) → ((g : f.Forest) → test (f.part production g) ≡ false) →
    (xs : List Attribute) (at : ℕ) → NonePass test (parts_at at (customs externs production xs))
customs_fail externs test production h [] at = tt
customs_fail externs test production h (x ∷ xs) at =
    (h (numbered at (put (custom externs x) none)), customs_fail externs test production h xs (at + size (put (custom externs x) none)))

none_both : (test : f.Part → Bool) (ps qs : List f.Part) → NonePass test ps → NonePass test qs → NonePass test (ps ++ qs)
none_both test [] qs h k = k
none_both test (p ∷ ps) qs h k = (h.0, none_both test ps qs h.1 k)

module _ (segments : SegmentsAreRead) (filtered : RunsAreFiltered) (externs : List ExternAssembly) (head : ℕ → Item) (production : ℕ) (is_head : IsTyparHead head production) where
  abbrev own : ℕ → Generic → List Item
  own k x = written.typar_line externs head production k x

  abbrev all : ℕ → List Generic → List Item
  all k gs = written.typar_lines externs head production k gs

  abbrev head_part : ℕ → ℕ → f.Part
  head_part at k = f.part (head k).production (numbered at (head k).below)

  abbrev custom_parts : ℕ → ℕ → Generic → List f.Part
  custom_parts at k x = parts_at (at + size (head k).below) (customs externs production x.attributes)

  abbrev run_at : ℕ → ℕ → Generic → Run
  run_at at k x = record { head = head_part at k; customs = custom_parts at k x }

  abbrev own_by : Bool → ℕ → Generic → List Item
  own_by b k x = cond b [] (head k ∷ customs externs production x.attributes)

  run_by : (b : Bool) (k : ℕ) (x : Generic) (at : ℕ) (after : List f.Part) → IsEndOfRun after →
      runs_of is_typar_line (parts_at at (own_by b k x) ++ after) ≡ cond b [] (run_at at k x ∷ []) ++ runs_of is_typar_line after
  run_by true k x at after end = refl
  run_by false k x at after end =
      filtered.run is_typar_line (head_part at k) (custom_parts at k x) after (is_head.is_line k at)
      (customs_pass externs is_custom production is_head.custom x.attributes (at + size (head k).below))
      (customs_fail externs is_typar_line production is_head.no_line x.attributes (at + size (head k).below)) end

  end_by : (b : Bool) (k : ℕ) (x : Generic) (at : ℕ) (after : List f.Part) → IsEndOfRun after → IsEndOfRun (parts_at at (own_by b k x) ++ after)
  end_by true k x at after end = end
  end_by false k x at after end = is_head.plain k at

  owned_by : (b : Bool) (k : ℕ) (x : Generic) (at : ℕ) (after : List f.Part) → AllOwned after → AllOwned (parts_at at (own_by b k x) ++ after)
  owned_by true k x at after h = h
  owned_by false k x at after h =
      filtered.owned (head_part at k) (custom_parts at k x) after (is_head.plain k at) (is_head.begins k at)
      (customs_pass externs is_custom production is_head.custom x.attributes (at + size (head k).below)) h

  none_by : (test : f.Part → Bool) → ((k at : ℕ) → test (head_part at k) ≡ false) → ((g : f.Forest) → test (f.part production g) ≡ false) →
      (b : Bool) (k : ℕ) (x : Generic) (at : ℕ) → NonePass test (parts_at at (own_by b k x))
  none_by test h c true k x at = tt
  none_by test h c false k x at = (h k at, customs_fail externs test production c x.attributes (at + size (head k).below))

  -- the parts of one, and then those of the others
  parts_are : (k : ℕ) (x : Generic) (gs : List Generic) (at : ℕ) (after : List f.Part) →
      parts_at at (own k x ++ all (suc k) gs) ++ after ≡ parts_at at (own k x) ++ (parts_at (end_of at (own k x)) (all (suc k) gs) ++ after)
  parts_are k x gs at after =
      ap (λ ps. ps ++ after) (segments.parts at (own k x) (all (suc k) gs)) ∙ append_assoc (parts_at at (own k x)) (parts_at (end_of at (own k x)) (all (suc k) gs)) after

  ends : (gs : List Generic) (k at : ℕ) (after : List f.Part) → IsEndOfRun after → IsEndOfRun (parts_at at (all k gs) ++ after)
  ends [] k at after end = end
  ends (x ∷ gs) k at after end =
      subst IsEndOfRun (sym (parts_are k x gs at after))
      (end_by (nat_eq (length x.attributes) 0) k x at (parts_at (end_of at (own k x)) (all (suc k) gs) ++ after) (ends gs (suc k) (end_of at (own k x)) after end))

  runs_are : (gs : List Generic) (k at : ℕ) (after : List f.Part) → IsEndOfRun after →
      runs_of is_typar_line (parts_at at (all k gs) ++ after) ≡ typar_runs externs head production at k gs ++ runs_of is_typar_line after
  runs_are [] k at after end = refl
  runs_are (x ∷ gs) k at after end =
      let next = end_of at (own k x) in
      let more = parts_at next (all (suc k) gs) ++ after in
      let one = typar_run externs head production at k x in
      ap (runs_of is_typar_line) (parts_are k x gs at after)
      ∙ (run_by (nat_eq (length x.attributes) 0) k x at more (ends gs (suc k) next after end)
      ∙ (ap (λ rs. one ++ rs) (runs_are gs (suc k) next after end) ∙ sym (append_assoc one (typar_runs externs head production next (suc k) gs) (runs_of is_typar_line after))))

  owned : (gs : List Generic) (k at : ℕ) (after : List f.Part) → AllOwned after → AllOwned (parts_at at (all k gs) ++ after)
  owned [] k at after h = h
  owned (x ∷ gs) k at after h =
      subst AllOwned (sym (parts_are k x gs at after))
      (owned_by (nat_eq (length x.attributes) 0) k x at (parts_at (end_of at (own k x)) (all (suc k) gs) ++ after) (owned gs (suc k) (end_of at (own k x)) after h))

  no_others : (test : f.Part → Bool) → ((k at : ℕ) → test (head_part at k) ≡ false) → ((g : f.Forest) → test (f.part production g) ≡ false) →
      (gs : List Generic) (k at : ℕ) → NonePass test (parts_at at (all k gs))
  no_others test h c [] k at = tt
  no_others test h c (x ∷ gs) k at =
      subst (NonePass test) (sym (segments.parts at (own k x) (all (suc k) gs)))
      (none_both test (parts_at at (own k x)) (parts_at (end_of at (own k x)) (all (suc k) gs)) (none_by test h c (nat_eq (length x.attributes) 0) k x at) (no_others test h c gs (suc k) (end_of at (own k x))))

pub typar_lines_are_read : SegmentsAreRead → RunsAreFiltered → TyparLinesAreRead
typar_lines_are_read segments filtered = record {
  runs = λ externs head production h. runs_are segments filtered externs head production h;
  ends = λ externs head production h. ends segments filtered externs head production h;
  owned = λ externs head production h. owned segments filtered externs head production h;
  others = λ externs head production h. no_others segments filtered externs head production h;
}

-- ---- the attributes of a number

-- those of the generic parameter with this number, those of a list being numbered from `j` on
abbrev chosen : ℕ → ℕ → List Generic → List Attribute
chosen j n [] = []
chosen j n (x ∷ gs) = cond (nat_eq j n) x.attributes [] ++ chosen (suc j) n gs

same_number : (j : ℕ) → nat_eq j j ≡ true
same_number j = grind arith

lower : (j n : ℕ) → n < j → nat_eq j n ≡ false
lower j n h = grind (arith, h)

past_all : (gs : List Generic) (j n : ℕ) → n < j → chosen j n gs ≡ []
past_all [] j n h = refl
past_all (x ∷ gs) j n h =
    let next : n < suc j = omega arith in
    ap (λ c. cond c x.attributes [] ++ chosen (suc j) n gs) (lower j n h) ∙ past_all gs (suc j) n next

chosen_at : (gs : List Generic) (j i : ℕ) (x : Generic) → slice_get gs i ≡ Some x → chosen j (j + i) gs ≡ x.attributes
chosen_at [] j zero x e = absurd cc
chosen_at [] j (suc i) x e = absurd cc
chosen_at (y ∷ gs) j zero x e =
    let same : y ≡ x = cc in
    let here : j + 0 ≡ j = omega arith in
    let next : j < suc j = omega arith in
    ap (λ n. chosen j n (y ∷ gs)) here
    ∙ (ap (λ c. cond c y.attributes [] ++ chosen (suc j) j gs) (same_number j)
    ∙ (ap (λ xs. y.attributes ++ xs) (past_all gs (suc j) j next) ∙ (append-nil y.attributes ∙ ap (λ (z : Generic). z.attributes) same)))
chosen_at (y ∷ gs) j (suc i) x e =
    let there : j + suc i ≡ suc j + i = omega arith in
    let high : j < suc j + i = omega arith in
    ap (λ n. chosen j n (y ∷ gs)) there
    ∙ (ap (λ c. cond c y.attributes [] ++ chosen (suc j) (suc j + i) gs) (differ j (suc j + i) high) ∙ chosen_at gs (suc j) i x e)
  where
    differ : (j n : ℕ) → j < n → nat_eq j n ≡ false
    differ j n h = grind (arith, h)

no_items : (xs : List Attribute) → nat_eq (length xs) 0 ≡ true → xs ≡ []
no_items [] h = refl
no_items (x ∷ xs) h = absurd (false≢true (sym (some xs) ∙ h))
  where
    some : (ys : List Attribute) → nat_eq (suc (length ys)) 0 ≡ false
    some ys = grind arith

one_before : (j : ℕ) → suc j - 1 ≡ j
one_before j = omega arith

module _ (segments : SegmentsAreRead) (attribute_laws : AttributesAreRead) (s : Source) (around : Around) (a : Assembly) (knows : Knows s a) (ts : List (List ℕ)) (head : ℕ → Item) (production : ℕ) (is_head : IsTyparHead head production) where
  abbrev lines : ℕ → ℕ → List Generic → List Run
  lines at k gs = typar_runs a.externs head production at k gs

  abbrev has_number : ℕ → Run → Bool
  has_number n r = nat_eq (typar_number s ts r.head.below) n

  abbrev given : ℕ → List Run → List Attribute
  given n rs = attributes_of s around (filter (has_number n) rs)

  abbrev run_of : ℕ → ℕ → Generic → Run
  run_of at k x = record {
    head = f.part (head k).production (numbered at (head k).below);
    customs = parts_at (at + size (head k).below) (customs a.externs production x.attributes);
  }

  given_step : (n : ℕ) (r : Run) (rs qs : List Run) (c : Bool) → given n (rs ++ qs) ≡ given n rs ++ given n qs →
      attributes_of s around (cond c (r ∷ filter (has_number n) (rs ++ qs)) (filter (has_number n) (rs ++ qs)))
      ≡ attributes_of s around (cond c (r ∷ filter (has_number n) rs) (filter (has_number n) rs)) ++ given n qs
  given_step n r rs qs true h =
      ap (λ xs. attributes s around r.customs ++ xs) h ∙ sym (append_assoc (attributes s around r.customs) (given n rs) (given n qs))
  given_step n r rs qs false h = h

  given_both : (n : ℕ) (rs qs : List Run) → given n (rs ++ qs) ≡ given n rs ++ given n qs
  given_both n [] qs = refl
  given_both n (r ∷ rs) qs = given_step n r rs qs (has_number n r) (given_both n rs qs)

  nothing_chosen : (c : Bool) (xs : List Attribute) → xs ≡ [] → [] ≡ cond c xs []
  nothing_chosen true xs e = sym e
  nothing_chosen false xs e = refl

  -- the attributes of one
  one_given : (b : Bool) (x : Generic) → nat_eq (length x.attributes) 0 ≡ b → list_all (is_attribute a) x.attributes ≡ true → are_attributes_held x.attributes ≡ true →
      (j n at : ℕ) → suc j < 2 ^ 128 → ItemsAgree s at (cond b [] (head (suc j) ∷ customs a.externs production x.attributes)) →
      given n (cond b [] (run_of at (suc j) x ∷ [])) ≡ cond (nat_eq j n) x.attributes []
  one_given true x e m h j n at small ag = nothing_chosen (nat_eq j n) x.attributes (no_items x.attributes e)
  one_given false x e m h j n at small ag =
      let from = at + size (head (suc j)).below in
      let r = run_of at (suc j) x in
      ap (λ i. attributes_of s around (cond (nat_eq i n) (r ∷ []) [])) (is_head.number s ts (suc j) at small ag.0 ∙ one_before j) ∙ by (nat_eq j n) (attribute_laws s around a knows x.attributes m h production from ag.1)
    where
      by : (c : Bool) → attributes s around (parts_at (at + size (head (suc j)).below) (customs a.externs production x.attributes)) ≡ x.attributes →
          attributes_of s around (cond c (run_of at (suc j) x ∷ []) []) ≡ cond c x.attributes []
      by true q = append-nil (attributes s around (parts_at (at + size (head (suc j)).below) (customs a.externs production x.attributes))) ∙ q
      by false q = refl

  all_given : (gs : List Generic) → list_all (is_generic a) gs ≡ true → list_all is_generic_held gs ≡ true → (j n at : ℕ) → suc j + length gs < 2 ^ 128 →
      ItemsAgree s at (written.typar_lines a.externs head production (suc j) gs) → given n (lines at (suc j) gs) ≡ chosen j n gs
  unfolding is_generic is_generic_held
  all_given [] m h j n at small ag = refl
  all_given (x ∷ gs) m h j n at small ag =
      let ms = and_parts (is_generic a x) (list_all (is_generic a) gs) m in
      let hs = and_parts (is_generic_held x) (list_all is_generic_held gs) h in
      let own = written.typar_line a.externs head production (suc j) x in
      let next = end_of at own in
      let ags = segments.agree s at own (written.typar_lines a.externs head production (suc (suc j)) gs) ag in
      let here : suc j < 2 ^ 128 = omega arith in
      let there : suc (suc j) + length gs < 2 ^ 128 = omega arith in
      given_both n (typar_run a.externs head production at (suc j) x) (lines next (suc (suc j)) gs)
      ∙ (ap (λ xs. xs ++ given n (lines next (suc (suc j)) gs))
      (one_given (nat_eq (length x.attributes) 0) x refl (and_parts _ _ ms.0).1 (and_parts _ _ hs.0).1 j n at here ags.0)
      ∙ ap (λ xs. cond (nat_eq j n) x.attributes [] ++ xs) (all_given gs ms.1 hs.1 (suc j) n next there ags.1))

-- ---- all generic parameters

typars_among : (externs : List ExternAssembly) (gs : List Generic) → AreAmong (p.TYPAR ∷ []) (map (written.typar externs) gs)
typars_among externs [] = tt
typars_among externs (x ∷ gs) = (refl, typars_among externs gs)

module _ (segments : SegmentsAreRead) (externs : List ExternAssembly) where
  -- what stands below their productions
  typars_are : (gs : List Generic) (k : ℕ) → f.each p.TYPAR (numbered k (opt_below (written.typars externs gs))) ≡ f.below_each (comma_parts (suc k) (map (written.typar externs) gs))
  typars_are [] k = refl
  typars_are (x ∷ gs) k =
      ap f.below_each (append-nil (f.parts (p.TYPAR ∷ []) (numbered (suc k) (commas p.COMMA_TYPAR_STAR_MORE p.COMMA_TYPAR_STAR_END p.COMMA_TYPAR (map (written.typar externs) (x ∷ gs)) (w word.GREATER none))))
      ∙ segments.commas (p.TYPAR ∷ []) p.COMMA_TYPAR_STAR_MORE p.COMMA_TYPAR_STAR_END p.COMMA_TYPAR refl refl refl (map (written.typar externs) (x ∷ gs)) (typars_among externs (x ∷ gs)) (suc k) (w word.GREATER none) (λ j. refl))

  behind_count : (gs : List Generic) (at : ℕ) → length (f.below_each (parts_behind at (map (written.typar externs) gs))) ≡ length gs
  behind_count [] at = refl
  behind_count (x ∷ gs) at = ap (λ n. suc n) (behind_count gs (at + size (behind_comma 0 (written.typar externs x)).below))

  typars_counted : (gs : List Generic) (g : f.Forest) (k : ℕ) → f.child (p.TYPARS_OPT_SOME ∷ []) g ≡ numbered k (opt_below (written.typars externs gs)) → length (typars g) ≡ length gs
  typars_counted [] g k e = ap (λ c. length (f.each p.TYPAR c)) e
  typars_counted (x ∷ gs) g k e =
      ap (λ c. length (f.each p.TYPAR c)) e ∙ (ap length (typars_are (x ∷ gs) k) ∙ ap (λ n. suc n) (behind_count gs (suc k + size (written.typar externs x).below)))

  agree_inside : (s : Source) (x : Generic) (gs : List Generic) (k : ℕ) → Agrees s k (opt_below (written.typars externs (x ∷ gs))) → CommasAgree s (suc k) (map (written.typar externs) (x ∷ gs))
  agree_inside s x gs k ag = segments.commas_agree s p.COMMA_TYPAR_STAR_MORE p.COMMA_TYPAR_STAR_END p.COMMA_TYPAR (map (written.typar externs) (x ∷ gs)) (suc k) (w word.GREATER none) ag.0.1

module _ (names : NamesAreRead) (flag_laws : FlagsAreRead) (owners : OwnersAreRead) (attribute_laws : AttributesAreRead) (readable : FormedAreReadable) (stand : MembersStand) (searches : SearchesPass) (options : OptionsAreRead) (segments : SegmentsAreRead) (s : Source) (around : Around) (a : Assembly) (knows : Knows s a) (ts : List (List ℕ)) (lines : List Run) where
  abbrev given_to : ℕ → List Attribute
  given_to n = attributes_of s around (filter (λ r. nat_eq (typar_number s ts r.head.below) n) lines)

  -- those numbered from `j` on get their attributes
  abbrev Given : ℕ → List Generic → Type 0
  Given j gs = (i : ℕ) (x : Generic) → slice_get gs i ≡ Some x → given_to (j + i) ≡ x.attributes

  later : (j : ℕ) (x : Generic) (gs : List Generic) → Given j (x ∷ gs) → Given (j + 1) gs
  later j x gs h i y e = let same : (j + 1) + i ≡ j + suc i = omega arith in ap given_to same ∙ h (suc i) y e

  first : (j : ℕ) (x : Generic) (gs : List Generic) → Given j (x ∷ gs) → given_to j ≡ x.attributes
  first j x gs h = let same : j ≡ j + 0 = omega arith in ap given_to same ∙ h 0 x refl

  behind_read : (gs : List Generic) → list_all (is_generic a) gs ≡ true → list_all is_generic_held gs ≡ true → (j at : ℕ) → Given j gs →
      BehindAgree s at (map (written.typar a.externs) gs) →
      map (generic s around ts lines) (enumerate_from j (f.below_each (parts_behind at (map (written.typar a.externs) gs)))) ≡ gs
  behind_read [] m h j at g ag = refl
  behind_read (x ∷ gs) m h j at g ag =
      let ms = and_parts (is_generic a x) (list_all (is_generic a) gs) m in
      let hs = and_parts (is_generic_held x) (list_all is_generic_held gs) h in
      let next = at + size (behind_comma 0 (written.typar a.externs x)).below in
      ap (λ y. y ∷ map (generic s around ts lines) (enumerate_from (j + 1) (f.below_each (parts_behind next (map (written.typar a.externs) gs)))))
      (generic_is names flag_laws owners readable stand searches options s around a knows x ms.0 hs.0 (suc at) ag.0 ts lines j (first j x gs g))
      ∙ ap (λ ys. x ∷ ys) (behind_read gs ms.1 hs.1 (j + 1) next (later j x gs g) ag.1)

  all_read : (x : Generic) (gs : List Generic) → list_all (is_generic a) (x ∷ gs) ≡ true → list_all is_generic_held (x ∷ gs) ≡ true → (at : ℕ) → Given 0 (x ∷ gs) →
      CommasAgree s at (map (written.typar a.externs) (x ∷ gs)) →
      map (generic s around ts lines) (enumerate_from 0 (f.below_each (comma_parts at (map (written.typar a.externs) (x ∷ gs))))) ≡ x ∷ gs
  all_read x gs m h at g ag =
      let ms = and_parts (is_generic a x) (list_all (is_generic a) gs) m in
      let hs = and_parts (is_generic_held x) (list_all is_generic_held gs) h in
      let next = at + size (written.typar a.externs x).below in
      ap (λ y. y ∷ map (generic s around ts lines) (enumerate_from (0 + 1) (f.below_each (parts_behind next (map (written.typar a.externs) gs)))))
      (generic_is names flag_laws owners readable stand searches options s around a knows x ms.0 hs.0 at ag.0 ts lines 0 (first 0 x gs g))
      ∙ ap (λ ys. x ∷ ys) (behind_read gs ms.1 hs.1 (0 + 1) next (later 0 x gs g) ag.1)

module _ (names : NamesAreRead) (flag_laws : FlagsAreRead) (owners : OwnersAreRead) (attribute_laws : AttributesAreRead) (readable : FormedAreReadable) (stand : MembersStand) (searches : SearchesPass) (options : OptionsAreRead) (segments : SegmentsAreRead) (s : Source) (around : Around) (a : Assembly) (knows : Knows s a) where
  generics_are : (head : ℕ → Item) (production : ℕ) → IsTyparHead head production → (gs : List Generic) → list_all (is_generic a) gs ≡ true → list_all is_generic_held gs ≡ true →
      1 + length gs < 2 ^ 128 → (at : ℕ) → ItemsAgree s at (written.typar_lines a.externs head production 1 gs) → (k : ℕ) → Agrees s k (opt_below (written.typars a.externs gs)) →
      (g : f.Forest) → f.child (p.TYPARS_OPT_SOME ∷ []) g ≡ numbered k (opt_below (written.typars a.externs gs)) → (rs : List Run) →
      filter speaks_of_typar rs ≡ typar_runs a.externs head production at 1 gs → generics s around g rs ≡ gs
  generics_are head production is_head [] m h few at lines_agree k ag g e rs r =
      ap (λ c. map (generic s around (typar_names s g) (filter speaks_of_typar rs)) (enumerate_from 0 (f.each p.TYPAR c))) e
  generics_are head production is_head (x ∷ gs) m h few at lines_agree k ag g e rs r =
      let ts = typar_names s g in
      let lines = typar_runs a.externs head production at 1 (x ∷ gs) in
      ap (λ c. map (generic s around ts (filter speaks_of_typar rs)) (enumerate_from 0 (f.each p.TYPAR c))) e
      ∙ (ap (λ fs. map (generic s around ts (filter speaks_of_typar rs)) (enumerate_from 0 fs)) (typars_are segments a.externs (x ∷ gs) k)
      ∙ (ap (λ ls. map (generic s around ts ls) (enumerate_from 0 (f.below_each (comma_parts (suc k) (map (written.typar a.externs) (x ∷ gs)))))) r
      ∙ all_read names flag_laws owners attribute_laws readable stand searches options segments s around a knows ts lines x gs m h (suc k)
      (λ i y q. all_given segments attribute_laws s around a knows ts head production is_head (x ∷ gs) m h 0 (0 + i) at few lines_agree ∙ chosen_at (x ∷ gs) 0 i y q)
      (agree_inside segments a.externs s x gs k ag)))

pub generics_are_read : NamesAreRead → FlagsAreRead → OwnersAreRead → AttributesAreRead → FormedAreReadable → MembersStand → SearchesPass → OptionsAreRead → SegmentsAreRead → GenericsAreRead
generics_are_read names flag_laws owners attribute_laws readable stand searches options segments = record {
  read = λ s around a knows. generics_are names flag_laws owners attribute_laws readable stand searches options segments s around a knows;
  counted = λ externs. typars_counted segments externs;
}
