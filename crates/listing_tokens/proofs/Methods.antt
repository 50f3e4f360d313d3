-- Methods are sound.
use Rattle.std.proofs.Common.{◌≡◌, ℕ, suc, ◌+◌, ◌^◌, ◌<◌, ◌≤◌, ◌&&◌, not, nat_eq, Bool, true, false, cond, List, [], ◌∷◌, ◌++◌, map, filter, find, length, Option, None, Some, refl, arith}
use Rattle.std.proofs.lemmas.Bool.{and_parts, eqb-true, leb-true, false≢true}
use Rattle.std.specs.List.{list_all, flat_map}
use Rattle.il_lexer.specs.declared.word.TheConstants as word
use Rattle.ilasm_grammar.specs.declared.nonterminals.TheConstants as n
use Rattle.ilasm_grammar.specs.declared.productions.TheConstants as p
use Rattle.type_terms.specs.declared.reference.MethodRef.{MethodRef}
use Rattle.type_terms.specs.declared.term.SigType.{SigType}
use Rattle.assembly_tree.specs.Weight.{body_weight, method_weight}
use Rattle.assembly_tree.specs.Weight as weight
use Rattle.assembly_tree.specs.WellFormed.{is_extern}
use Rattle.assembly_tree.specs.WellFormedBodies.{is_body}
use Rattle.assembly_tree.specs.WellFormedMembers.{is_param, is_method}
use Rattle.assembly_tree.specs.WellFormedNames.{option_all}
use Rattle.assembly_tree.specs.WellFormedTerms as formed
use Rattle.assembly_tree.specs.declared.assembly.Assembly.{Assembly}
use Rattle.assembly_tree.specs.declared.body.Body.{Body}
use Rattle.assembly_tree.specs.declared.members.Method.{Method}
use Rattle.assembly_tree.specs.declared.members.Param.{Param}
use Rattle.assembly_tree.proofs.FormedFacts.{methods_named, signatures_named}
use Rattle.listing_growth.specs.Held.{is_type_held, is_param_held, is_method_ref_held, is_body_held, is_method_held}
use Rattle.listing_leaves.specs.Laws.{has_no_zero}
use Rattle.listing_model.specs.Flags.{FlagWord, holds, rest_of, word_item, flag_items, flags_below, method_words, implementation_words, parameter_words}
use Rattle.listing_model.specs.Members.{typar_key, typar_lines, braces}
use Rattle.listing_model.specs.Methods.{row_of, param_name, wants_line, line_flags, param_line, typar_item, parameter, parameters, def_args, row_lines, override, entrypoint, body_opt, method_items, method}
use Rattle.listing_model.specs.References.{no_name}
use Rattle.listing_model.specs.Shown.{Leaf, Shown, none, Item, item, put, w, branch, optional, opt_below, star, star_below, star_production, behind_comma, when}
use Rattle.listing_model.specs.Types.{name, type_of, shown_type, of_shown}
use Rattle.listing_model.specs.Values.{customs, constant_opt}
use Rattle.listing_tokens.proofs.Bodies.{body_sound, front_row}
use Rattle.listing_tokens.proofs.Members.{bracketed, typars_sound, typar_lines_sound}
use Rattle.listing_tokens.proofs.References.{convention_sound, method_name_sound, type_in, plain_ref_sound, signature_sound, Opens, opens_branch, ArgSound, EachArg, args_each}
use Rattle.listing_tokens.proofs.Sound.{no_colon, Sound, wf, tf, SoundItem, EachSound, sounds_append, star_sound, when_sound, commas_sound}
use Rattle.listing_tokens.proofs.Terms.{LeafLaws, TypeSound, both, some_length, of_opens, type_sound}
use Rattle.listing_tokens.proofs.Values.{u16_small, flags_sound, row_sound, value_sound, customs_sound}

-- a generic parameter's number in a line
pub key_sound : (laws : LeafLaws) (k : ℕ) → k < 2 ^ 128 → (rest : List Leaf) → Sound 101 (typar_key k) rest
key_sound laws k small rest = (wf refl refl, (bracketed laws 100 k small none _ tt, tt))

module _ (laws : LeafLaws) (a : Assembly) (named_well : list_all is_extern a.externs ≡ true) (few : length a.externs < 2 ^ 128) where
  -- ---- parameters in the head

  called : (r : ℕ) (b : Bool) (text : List ℕ) → not (nat_eq (length text) 0) ≡ b → has_no_zero text ≡ true → (rest : List Leaf) →
      Sound r (opt_below (when b (name text none))) rest
  called r false text e h rest = tt
  called r true [] e h rest = absurd (false≢true e)
  called r true (c ∷ cs) e h rest =
      (tf (laws.names.name (c ∷ cs) (both _ _ (some_length (length cs)) h)) refl refl, tt)

  -- what a row says of a parameter
  abbrev RowOk : Option Param → Type 0
  RowOk None = Unit {0}
  RowOk (Some r) = (is_param a r ≡ true) × (is_param_held r ≡ true)

  -- ---- a parameter's flags, each of which may stand behind `(`

  abbrev EachOpen : List Item → Type 0
  EachOpen [] = Unit {0}
  EachOpen (i ∷ is) = Opens i.below × EachOpen is

  opens_append : (is js : List Item) → EachOpen is → EachOpen js → EachOpen (is ++ js)
  opens_append [] js h k = k
  opens_append (i ∷ is) js h k = (h.0, opens_append is js h.1 k)

  said_open : (k : ℕ) (xs : List FlagWord) → list_all (λ x. not (nat_eq x.word word.SLASH)) xs ≡ true →
      EachOpen (map (λ x. word_item n.PARAM_ATTR x.word) (filter (holds k) xs))
  said_open k [] h = tt
  said_open k (x ∷ xs) h =
      let hs = and_parts (not (nat_eq x.word word.SLASH)) (list_all (λ y. not (nat_eq y.word word.SLASH)) xs) h in
      said_by (holds k x) x (filter (holds k) xs) hs.0 (said_open k xs hs.1)
    where
      said_by : (b : Bool) (y : FlagWord) (ys : List FlagWord) → not (nat_eq y.word word.SLASH) ≡ true → EachOpen (map (λ x. word_item n.PARAM_ATTR x.word) ys) →
          EachOpen (map (λ x. word_item n.PARAM_ATTR x.word) (cond b (y ∷ ys) ys))
      said_by true y ys e r = ((λ rest. e), r)
      said_by false y ys e r = r

  rest_open : (k : ℕ) (b : Bool) → EachOpen (cond b [] (item p.PARAM_ATTR_FLAGS (branch p.FLAGS (flags_below k) none) ∷ []))
  rest_open k true = tt
  rest_open k false = ((λ rest. refl), tt)

  row_opens : (is : List Item) → EachOpen is → (after : Shown) → Opens after → Opens (star p.PARAM_ATTR_STAR_MORE p.PARAM_ATTR_STAR_END is after)
  row_opens [] h after k = k
  row_opens (i ∷ is) h after k =
      opens_branch p.PARAM_ATTR_STAR_MORE (star_below p.PARAM_ATTR_STAR_MORE p.PARAM_ATTR_STAR_END (i ∷ is)) after
      (opens_branch i.production i.below (branch (star_production p.PARAM_ATTR_STAR_MORE p.PARAM_ATTR_STAR_END is) (star_below p.PARAM_ATTR_STAR_MORE p.PARAM_ATTR_STAR_END is) none) h.0)

  found : (b : Bool) (r : Param) (o : Option Param) → RowOk (Some r) → RowOk o → RowOk (cond b (Some r) o)
  found true r o h k = h
  found false r o h k = k

  words_open : (k : ℕ) → EachOpen (flag_items n.PARAM_ATTR p.PARAM_ATTR_FLAGS parameter_words k)
  words_open k = opens_append _ _ (said_open k parameter_words refl) (rest_open (rest_of parameter_words k) (nat_eq (rest_of parameter_words k) 0))

  parameter_sound : (row : Option Param) → RowOk row → (t : SigType) → TypeSound 100 (shown_type a.externs t) → ArgSound 101 (parameter a.externs row t)
  unfolding is_param is_param_held
  parameter_sound None ok t h = record {
    sound = λ rest. (tt, (type_in laws a named_well few 101 (omega arith) t h _, (tt, tt)));
    opens = opens_branch p.TYPE (of_shown (shown_type a.externs t)) no_name (of_opens 100 (shown_type a.externs t) h);
  }
  parameter_sound (Some r) ok t h =
      let m4 = and_parts _ _ ok.0 in
      let m3 = and_parts _ _ m4.0 in
      let m2 = and_parts _ _ m3.0 in
      let m1 = and_parts _ _ m2.0 in
      let h3 = and_parts _ _ ok.1 in
      let h2 = and_parts _ _ h3.0 in
      let h1 = and_parts _ _ h2.0 in
      record {
        sound = λ rest. (
          star_sound 101 p.PARAM_ATTR_STAR_MORE p.PARAM_ATTR_STAR_END (flag_items n.PARAM_ATTR p.PARAM_ATTR_FLAGS parameter_words r.flags)
              (row_sound laws 100 n.PARAM_ATTR p.PARAM_ATTR_FLAGS parameter_words refl r.flags (u16_small r.flags h1.1)) _,
          (type_in laws a named_well few 101 (omega arith) t h _, (called 101 (not (nat_eq (length r.name) 0)) r.name refl m1.0 _, tt)),
        );
        opens =
            row_opens (flag_items n.PARAM_ATTR p.PARAM_ATTR_FLAGS parameter_words r.flags) (words_open r.flags) (put (type_of a.externs t) (param_name (Some r)))
            (opens_branch p.TYPE (of_shown (shown_type a.externs t)) (param_name (Some r)) (of_opens 100 (shown_type a.externs t) h));
      }

  find_ok : (t : Param → Bool) (rs : List Param) → list_all (is_param a) rs ≡ true → list_all is_param_held rs ≡ true → RowOk (find t rs)
  find_ok t [] m h = tt
  find_ok t (r ∷ rs) m h =
      let ms = and_parts (is_param a r) (list_all (is_param a) rs) m in
      let hs = and_parts (is_param_held r) (list_all is_param_held rs) h in
      found (t r) r (find t rs) (ms.0, hs.0) (find_ok t rs ms.1 hs.1)

  parameters_sound : (rows : List Param) → list_all (is_param a) rows ≡ true → list_all is_param_held rows ≡ true → (k : ℕ) (ts : List SigType) →
      list_all (formed.is_type a) ts ≡ true → list_all is_type_held ts ≡ true → EachArg 101 (parameters a.externs rows k ts)
  parameters_sound rows rm rh k [] m h = tt
  parameters_sound rows rm rh k (t ∷ ts) m h =
      let ms = and_parts (formed.is_type a t) (list_all (formed.is_type a) ts) m in
      let hs = and_parts (is_type_held t) (list_all is_type_held ts) h in (
        parameter_sound (row_of rows k) (find_ok (λ r. nat_eq r.number k) rows rm rh) t (type_sound laws a named_well few t ms.0 hs.0),
        parameters_sound rows rm rh (suc k) ts ms.1 hs.1,
      )

  -- parameters between parentheses
  args_sound : (is : List Item) → EachArg 101 is → (after : Shown) (rest : List Leaf) → Sound 102 after rest →
      Sound 102 (w word.OPEN_PAREN (optional p.DEF_ARGS_OPT_SOME p.DEF_ARGS_OPT_NONE (def_args a.externs is) (w word.CLOSE_PAREN after))) rest
  args_sound [] h after rest k = (wf refl refl, (tt, (wf refl refl, k)))
  args_sound (i ∷ is) h after rest k =
      let more = star p.COMMA_DEF_ARG_STAR_MORE p.COMMA_DEF_ARG_STAR_END (map (behind_comma p.COMMA_DEF_ARG) is) none in
      let first =
      opens_branch p.DEF_ARGS_OPT_SOME (branch p.DEF_ARGS (put i more) none) (w word.CLOSE_PAREN after)
      (opens_branch p.DEF_ARGS (put i more) none (opens_branch i.production i.below more h.0.opens)) in
      (wf (first rest) refl, ((commas_sound 101 p.COMMA_DEF_ARG_STAR_MORE p.COMMA_DEF_ARG_STAR_END p.COMMA_DEF_ARG i is (args_each 101 (i ∷ is) h) none _ tt, tt), (wf refl refl, k)))

  -- ---- items

  param_line_sound : (r : Param) → is_param a r ≡ true → is_param_held r ≡ true → SoundItem 101 (param_line r)
  unfolding is_param is_param_held
  param_line_sound r m h rest =
      let m4 = and_parts _ _ m in
      let m3 = and_parts _ _ m4.0 in
      let h3 = and_parts _ _ h in
      let h2 = and_parts _ _ h3.0 in
      let h1 = and_parts _ _ h2.0 in
      let said = nat_eq r.number 0 && not (nat_eq r.flags 0) in (
        wf refl refl,
        (
          bracketed laws 100 r.number (u16_small r.number h1.0) (line_flags r (constant_opt r.constant none)) _ (
            when_sound 101 said (branch p.FLAGS (flags_below r.flags) none) _ (flags_sound laws 100 r.flags (u16_small r.flags h1.1) _, tt),
            (value_sound laws 100 r.constant m3.1 h2.1 _, tt),
          ),
          tt,
        ),
      )

  row_by : (r : Param) (b : Bool) → SoundItem 101 (param_line r) → EachSound 101 (customs a.externs p.ITEM_CUSTOM r.attributes) →
      EachSound 101 (cond b (param_line r ∷ customs a.externs p.ITEM_CUSTOM r.attributes) [])
  row_by r true h k = (h, k)
  row_by r false h k = tt

  row_lines_sound : (r : Param) → is_param a r ≡ true → is_param_held r ≡ true → EachSound 101 (row_lines a.externs r)
  unfolding is_param is_param_held
  row_lines_sound r m h =
      row_by r (wants_line r) (param_line_sound r m h) (customs_sound laws a named_well few p.ITEM_CUSTOM r.attributes (and_parts _ _ m).1 (and_parts _ _ h).1)

  rows_sound : (rs : List Param) → list_all (is_param a) rs ≡ true → list_all is_param_held rs ≡ true → EachSound 101 (flat_map (row_lines a.externs) rs)
  rows_sound [] m h = tt
  rows_sound (r ∷ rs) m h =
      let ms = and_parts (is_param a r) (list_all (is_param a) rs) m in
      let hs = and_parts (is_param_held r) (list_all is_param_held rs) h in
      sounds_append 101 (row_lines a.externs r) (flat_map (row_lines a.externs) rs) (row_lines_sound r ms.0 hs.0) (rows_sound rs ms.1 hs.1)

  overrides_sound : (rs : List MethodRef) → list_all (formed.is_plain_ref a) rs ≡ true → list_all is_method_ref_held rs ≡ true → EachSound 101 (map (override a.externs) rs)
  overrides_sound [] m h = tt
  overrides_sound (r ∷ rs) m h =
      let ms = and_parts (formed.is_plain_ref a r) (list_all (formed.is_plain_ref a) rs) m in
      let hs = and_parts (is_method_ref_held r) (list_all is_method_ref_held rs) h in
      ((λ rest. (wf refl refl, ((wf refl refl, (plain_ref_sound laws a named_well few r ms.0 hs.0 _, tt)), tt))), overrides_sound rs ms.1 hs.1)

  entry_sound : (b : Bool) → EachSound 101 (entrypoint a.externs b)
  entry_sound true = ((λ rest. (wf refl refl, tt)), tt)
  entry_sound false = tt

  body_row : (b : Option Body) → weight.optional body_weight b ≤ 2 ^ 26 → option_all (is_body a) b ≡ true → option_all is_body_held b ≡ true →
      (rest : List Leaf) → no_colon rest ≡ true → Sound 101 (star_below p.ITEM_STAR_MORE p.ITEM_STAR_END (body_opt a.externs b)) rest
  body_row None light m h rest k = tt
  body_row (Some b) light m h rest k = body_sound laws a named_well few b light m h rest k

  typar_item_sound : (k : ℕ) → k < 2 ^ 128 → SoundItem 101 (typar_item k)
  typar_item_sound k small rest = (wf refl refl, (key_sound laws k small _, tt))

  generics_few : (x : Method) → is_method a x ≡ true → 1 + length x.generics < 2 ^ 128
  generics_few x m =
      let f = (methods_named a x).0 m in
      let g = (signatures_named a x.sig).0 f.sig in
      let same = eqb-true x.sig.generic (length x.generics) (and_parts _ _ f.declaration).1 in
      let most = leb-true x.sig.generic 65535 g.generic in
      omega arith

  items_sound : (x : Method) → method_weight x ≤ 2 ^ 26 → is_method a x ≡ true → is_method_held x ≡ true → (rest : List Leaf) → no_colon rest ≡ true →
      Sound 101 (star_below p.ITEM_STAR_MORE p.ITEM_STAR_END (method_items a.externs x)) rest
  unfolding is_method_held method_weight
  items_sound x light m h rest k =
      let f = (methods_named a x).0 m in
      let h7 = and_parts _ _ h in
      let h6 = and_parts _ _ h7.0 in
      let h5 = and_parts _ _ h6.0 in
      let h4 = and_parts _ _ h5.0 in
      let h3 = and_parts _ _ h4.0 in
      let body_light : weight.optional body_weight x.body ≤ 2 ^ 26 = omega arith in
      let few_typars : 1 + length x.generics < 2 ^ 128 = generics_few x m in
      front_row laws a named_well few 101 (customs a.externs p.ITEM_CUSTOM x.attributes) _ rest (customs_sound laws a named_well few p.ITEM_CUSTOM x.attributes f.attributes h7.1)
      (front_row laws a named_well few 101 (typar_lines a.externs typar_item p.ITEM_CUSTOM 1 x.generics) _ rest (typar_lines_sound laws a named_well few typar_item p.ITEM_CUSTOM typar_item_sound 1 x.generics few_typars f.generics h3.1)
      (front_row laws a named_well few 101 (flat_map (row_lines a.externs) x.params) _ rest (rows_sound x.params f.params h4.1)
      (front_row laws a named_well few 101 (map (override a.externs) x.overrides) _ rest (overrides_sound x.overrides f.overrides h5.1)
      (front_row laws a named_well few 101 (entrypoint a.externs x.entry) _ rest (entry_sound x.entry) (body_row x.body body_light f.body h6.1 rest k)))))

  pub method_item_sound : (x : Method) → method_weight x ≤ 2 ^ 26 → is_method a x ≡ true → is_method_held x ≡ true → SoundItem 102 (method a.externs x)
  unfolding method is_method_held
  method_item_sound x light m h rest =
      let f = (methods_named a x).0 m in
      let g = (signatures_named a x.sig).0 f.sig in
      let h7 = and_parts _ _ h in
      let h6 = and_parts _ _ h7.0 in
      let h5 = and_parts _ _ h6.0 in
      let h4 = and_parts _ _ h5.0 in
      let h3 = and_parts _ _ h4.0 in
      let h2 = and_parts _ _ h3.0 in
      let h1 = and_parts _ _ h2.0 in
      let sig_parts = and_parts _ _ h2.1 in
      let sig = signature_sound laws a named_well few x.sig f.sig h2.1 in
      let after =
      star p.IMPL_ATTR_STAR_MORE p.IMPL_ATTR_STAR_END (flag_items n.IMPL_ATTR p.IMPL_ATTR_FLAGS implementation_words x.impl_flags)
      (braces p.ITEM_STAR_MORE p.ITEM_STAR_END (method_items a.externs x)) in (
        wf refl refl,
        (
          star_sound 102 p.METHOD_ATTR_STAR_MORE p.METHOD_ATTR_STAR_END _ (row_sound laws 101 n.METHOD_ATTR p.METHOD_ATTR_FLAGS method_words refl x.flags (u16_small x.flags h1.0)) _,
          (
            (convention_sound 102 x.sig none _ tt).0,
            (
              type_in laws a named_well few 102 (omega arith) x.sig.ret sig.ret _,
              (
                method_name_sound laws 102 x.name f.name _,
                (
                  (typars_sound laws a named_well few 101 (omega arith) x.generics f.generics h3.1 none _ tt).0,
                  args_sound (parameters a.externs x.params 1 x.sig.params) (parameters_sound x.params f.params h4.1 1 x.sig.params g.params sig_parts.1) after rest (
                    star_sound 102 p.IMPL_ATTR_STAR_MORE p.IMPL_ATTR_STAR_END _ (row_sound laws 101 n.IMPL_ATTR p.IMPL_ATTR_FLAGS implementation_words refl x.impl_flags (u16_small x.impl_flags h1.1)) _,
                    (wf refl refl, (items_sound x light m h _ refl, (wf refl refl, tt))),
                  ),
                ),
              ),
            ),
          ),
        ),
      )
