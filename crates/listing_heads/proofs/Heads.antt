-- The head of a method is read back: its name, its flags and its signature.
use Rattle.std.proofs.Common.{◌≡◌, ℕ, suc, ◌+◌, ◌^◌, ◌<◌, true, false, List, [], ◌∷◌, map, length, take, drop, Option, None, Some, refl, ap, sym, ◌∙◌, append-nil, arith}
use Rattle.std.proofs.lemmas.Bool.{and_parts, eqb-true, ltb-true, false≢true}
use Rattle.std.specs.List.{list_all}
use Rattle.std.specs.Prelude.{is_none}
use Rattle.ilasm_grammar.specs.Ilasm.{ilasm, rule_by, has_bit}
use Rattle.ilasm_grammar.specs.declared.nonterminals.TheConstants as n
use Rattle.ilasm_grammar.specs.declared.productions.TheConstants as p
use Rattle.type_terms.specs.declared.term.SigType.{SigType}
use Rattle.assembly_tree.specs.WellFormedMembers.{is_method}
use Rattle.assembly_tree.specs.WellFormedTerms.{is_type}
use Rattle.assembly_tree.specs.declared.assembly.Assembly.{Assembly}
use Rattle.assembly_tree.specs.declared.members.Method.{Method}
use Rattle.assembly_tree.specs.declared.members.Param.{Param}
use Rattle.assembly_tree.proofs.FormedFacts.{methods_named, signatures_named}
use Rattle.source_model.specs.Flags as flags
use Rattle.source_model.specs.Forest as f
use Rattle.source_model.specs.Nodes.{Around, typars}
use Rattle.source_model.specs.References.{method_name, text_of_method_name, method_signature, argument_types}
use Rattle.source_model.specs.Source.{Source}
use Rattle.source_model.specs.Types.{type_of, the_type, types_in, first_type}
use Rattle.listing_flags.specs.Laws.{FlagsAreRead}
use Rattle.listing_formed.specs.Laws.{Knows, FormedAreRead}
use Rattle.listing_growth.specs.Held.{is_type_held, is_method_held}
use Rattle.listing_members.specs.Laws.{GenericsAreRead}
use Rattle.listing_model.specs.Flags.{flag_items, method_words, implementation_words}
use Rattle.listing_model.specs.Grown.{body_of, Grows}
use Rattle.listing_model.specs.Members.{typars as typars_shown}
use Rattle.listing_model.specs.Methods as written
use Rattle.listing_model.specs.References.{convention}
use Rattle.listing_model.specs.Shown.{Shown, none, Item, opt_production, opt_below, size, behind_comma, commas}
use Rattle.listing_model.specs.Types.{type_below}
use Rattle.listing_reading.specs.Below.{below, cant_stand, cant_lead}
use Rattle.listing_reading.specs.BelowMasks.{below_masks}
use Rattle.listing_reading.specs.Laws.{SearchesPass}
use Rattle.listing_reading.specs.Numbered.{numbered, Agrees, rest, place}
use Rattle.listing_reading.specs.Rows.{AreAmong, parts_behind}
use Rattle.listing_references.specs.Laws.{ConventionsAreRead, MethodNamesAreRead}
use Rattle.listing_rows.specs.Laws.{SegmentsAreRead, PiecesAreRead, OptionsAreRead, WalksPass, type_parts}
use Rattle.listing_rows.specs.Segments.{BehindAgree, CommasAgree, comma_parts, EachGrown}
use Rattle.listing_heads.specs.Laws.{HeadsAreRead}

-- ---- where what is sought stands

pub record InMethod : Type 0 where
  pub name : cant_stand (p.METHOD_NAME_NAME ∷ p.METHOD_NAME_CTOR ∷ p.METHOD_NAME_CCTOR ∷ []) (take 4 (body_of p.METHOD)) ≡ true
  pub flags_behind : cant_lead (p.METHOD_ATTR_STAR_MORE ∷ []) (drop 2 (body_of p.METHOD)) ≡ true
  pub convention : cant_lead (p.CALL_CONV ∷ []) (take 2 (body_of p.METHOD)) ≡ true
  pub type : cant_lead (p.TYPE ∷ []) (take 3 (body_of p.METHOD)) ≡ true
  pub typars : cant_lead (p.TYPARS_OPT_SOME ∷ []) (take 5 (body_of p.METHOD)) ≡ true
  pub typars_behind : cant_lead (p.TYPARS_OPT_SOME ∷ []) (drop 6 (body_of p.METHOD)) ≡ true
  pub args : cant_lead (p.DEF_ARGS_OPT_SOME ∷ []) (take 7 (body_of p.METHOD)) ≡ true
  pub args_behind : cant_lead (p.DEF_ARGS_OPT_SOME ∷ []) (drop 8 (body_of p.METHOD)) ≡ true
  pub impl : cant_lead (p.IMPL_ATTR_STAR_MORE ∷ []) (take 9 (body_of p.METHOD)) ≡ true
  pub impl_behind : cant_lead (p.IMPL_ATTR_STAR_MORE ∷ []) (drop 10 (body_of p.METHOD)) ≡ true

in_method : InMethod
unfolding ilasm rule_by has_bit below below_masks
in_method = record {
  name = refl;
  flags_behind = refl;
  convention = refl;
  type = refl;
  typars = refl;
  typars_behind = refl;
  args = refl;
  args_behind = refl;
  impl = refl;
  impl_behind = refl;
}

small_16 : (k : ℕ) → k < 0x10000 → k < 2 ^ 128
small_16 k h = omega arith

no_sentinel : (o : Option ℕ) → is_none o ≡ true → None ≡ o
no_sentinel None h = refl
no_sentinel (Some k) h = absurd (false≢true h)

-- what a method in memory holds
pub record IsHeld (m : Method) : Type 0 where
  pub flags : m.flags < 0x10000
  pub impl_flags : m.impl_flags < 0x10000
  pub ret : is_type_held m.sig.ret ≡ true
  pub types : list_all is_type_held m.sig.params ≡ true

pub held_of : (m : Method) → is_method_held m ≡ true → IsHeld m
unfolding is_method_held
held_of m h =
    let h7 = and_parts _ _ h in
    let h6 = and_parts _ _ h7.0 in
    let h5 = and_parts _ _ h6.0 in
    let h4 = and_parts _ _ h5.0 in
    let h3 = and_parts _ _ h4.0 in
    let h2 = and_parts _ _ h3.0 in
    let h1 = and_parts _ _ h2.0 in
    let sign = and_parts _ _ h2.1 in
    record { flags = ltb-true m.flags 0x10000 h1.0; impl_flags = ltb-true m.impl_flags 0x10000 h1.1; ret = sign.0; types = sign.1 }

-- ---- parameters as they stand

pub parameters_among : (a : Assembly) (rows : List Param) (k : ℕ) (ts : List SigType) → AreAmong (p.DEF_ARG ∷ []) (written.parameters a.externs rows k ts)
parameters_among a rows k [] = tt
parameters_among a rows k (t ∷ ts) = (refl, parameters_among a rows (suc k) ts)

pub args_parts : (segments : SegmentsAreRead) (a : Assembly) (rows : List Param) (ts : List SigType) (at : ℕ) →
    f.parts (p.DEF_ARG ∷ []) (numbered at (opt_below (written.def_args a.externs (written.parameters a.externs rows 1 ts)))) ≡ comma_parts at (written.parameters a.externs rows 1 ts)
args_parts segments a rows [] at = refl
args_parts segments a rows (t ∷ ts) at =
    let is = written.parameters a.externs rows 1 (t ∷ ts) in
    append-nil (f.parts (p.DEF_ARG ∷ []) (numbered at (commas p.COMMA_DEF_ARG_STAR_MORE p.COMMA_DEF_ARG_STAR_END p.COMMA_DEF_ARG is none)))
    ∙ segments.commas (p.DEF_ARG ∷ []) p.COMMA_DEF_ARG_STAR_MORE p.COMMA_DEF_ARG_STAR_END p.COMMA_DEF_ARG refl refl refl is (parameters_among a rows 1 (t ∷ ts)) at none (λ k. refl)

pub args_agree : (segments : SegmentsAreRead) (a : Assembly) (rows : List Param) (ts : List SigType) (s : Source) (at : ℕ) →
    Agrees s at (opt_below (written.def_args a.externs (written.parameters a.externs rows 1 ts))) → CommasAgree s at (written.parameters a.externs rows 1 ts)
args_agree segments a rows [] s at ag = tt
args_agree segments a rows (t ∷ ts) s at ag =
    segments.commas_agree s p.COMMA_DEF_ARG_STAR_MORE p.COMMA_DEF_ARG_STAR_END p.COMMA_DEF_ARG (written.parameters a.externs rows 1 (t ∷ ts)) at none ag.0

type_first : cant_stand type_parts (take 1 (body_of p.DEF_ARG)) ≡ true
unfolding ilasm rule_by has_bit below below_masks
type_first = refl

-- each parameter has grown
behind_grown : (pieces : PiecesAreRead) (is : List Item) → EachGrown n.COMMA_DEF_ARG (map (behind_comma p.COMMA_DEF_ARG) is) → EachGrown n.DEF_ARG is
unfolding ilasm rule_by
behind_grown pieces [] g = tt
behind_grown pieces (i ∷ is) g = (g.1.1.0, g.1.1.1, behind_grown pieces is g.2)

pub args_grown : (pieces : PiecesAreRead) (a : Assembly) (rows : List Param) (ts : List SigType) →
    Grows (body_of (opt_production p.DEF_ARGS_OPT_SOME p.DEF_ARGS_OPT_NONE (written.def_args a.externs (written.parameters a.externs rows 1 ts)))) (opt_below (written.def_args a.externs (written.parameters a.externs rows 1 ts))) →
    EachGrown n.DEF_ARG (written.parameters a.externs rows 1 ts)
unfolding ilasm rule_by
args_grown pieces a rows [] g = tt
args_grown pieces a rows (t ∷ ts) g =
    let others = written.parameters a.externs rows 2 ts in
    let inner = g.1 in
    (inner.0, inner.1, behind_grown pieces others (pieces.grown n.COMMA_DEF_ARG n.COMMA_DEF_ARG_STAR p.COMMA_DEF_ARG_STAR_MORE p.COMMA_DEF_ARG_STAR_END refl (map (behind_comma p.COMMA_DEF_ARG) others) inner.2.1))

module _ (formed : FormedAreRead) (walks : WalksPass) (s : Source) (around : Around) (a : Assembly) (knows : Knows s a) where
  arg_type : (row : Option Param) (t : SigType) → is_type a t ≡ true → is_type_held t ≡ true → Grows (body_of p.DEF_ARG) (written.parameter a.externs row t).below → (at : ℕ) →
      Agrees s (place 1 at (written.parameter a.externs row t).below) (type_below a.externs t) → the_type s around (numbered at (written.parameter a.externs row t).below) ≡ t
  unfolding types_in
  arg_type None t m h g at ag =
      ap (first_type s around) (walks.types s around 1 (body_of p.DEF_ARG) type_first (written.parameter a.externs None t).below g at)
      ∙ formed.types s around a knows t m h (place 1 at (written.parameter a.externs None t).below) ag
  arg_type (Some r) t m h g at ag =
      ap (first_type s around) (walks.types s around 1 (body_of p.DEF_ARG) type_first (written.parameter a.externs (Some r) t).below g at)
      ∙ formed.types s around a knows t m h (place 1 at (written.parameter a.externs (Some r) t).below) ag

  type_agrees : (row : Option Param) (t : SigType) (at : ℕ) → Agrees s at (written.parameter a.externs row t).below → Agrees s (place 1 at (written.parameter a.externs row t).below) (type_below a.externs t)
  type_agrees None t at ag = ag.1.0
  type_agrees (Some r) t at ag = ag.1.0

  behind_types : (rows : List Param) (k : ℕ) (ts : List SigType) → list_all (is_type a) ts ≡ true → list_all is_type_held ts ≡ true → EachGrown n.DEF_ARG (written.parameters a.externs rows k ts) →
      (at : ℕ) → BehindAgree s at (written.parameters a.externs rows k ts) → map (the_type s around) (f.below_each (parts_behind at (written.parameters a.externs rows k ts))) ≡ ts
  behind_types rows k [] m h g at ag = refl
  behind_types rows k (t ∷ ts) m h g at ag =
      let ms = and_parts (is_type a t) (list_all (is_type a) ts) m in
      let hs = and_parts (is_type_held t) (list_all is_type_held ts) h in
      let row = written.row_of rows k in
      let next = at + size (behind_comma 0 (written.parameter a.externs row t)).below in
      ap (λ u. u ∷ map (the_type s around) (f.below_each (parts_behind next (written.parameters a.externs rows (suc k) ts)))) (arg_type row t ms.0 hs.0 g.1 (suc at) (type_agrees row t (suc at) ag.0))
      ∙ ap (λ us. t ∷ us) (behind_types rows (suc k) ts ms.1 hs.1 g.2 next ag.1)

  all_types : (rows : List Param) (ts : List SigType) → list_all (is_type a) ts ≡ true → list_all is_type_held ts ≡ true → EachGrown n.DEF_ARG (written.parameters a.externs rows 1 ts) →
      (at : ℕ) → CommasAgree s at (written.parameters a.externs rows 1 ts) → map (the_type s around) (f.below_each (comma_parts at (written.parameters a.externs rows 1 ts))) ≡ ts
  all_types rows [] m h g at ag = refl
  all_types rows (t ∷ ts) m h g at ag =
      let ms = and_parts (is_type a t) (list_all (is_type a) ts) m in
      let hs = and_parts (is_type_held t) (list_all is_type_held ts) h in
      let row = written.row_of rows 1 in
      let next = at + size (written.parameter a.externs row t).below in
      ap (λ u. u ∷ map (the_type s around) (f.below_each (parts_behind next (written.parameters a.externs rows 2 ts)))) (arg_type row t ms.0 hs.0 g.1 at (type_agrees row t at ag.0))
      ∙ ap (λ us. t ∷ us) (behind_types rows 2 ts ms.1 hs.1 g.2 next ag.1)

-- ---- the head

module _ (name_laws : MethodNamesAreRead) (searches : SearchesPass) (s : Source) (a : Assembly) (m : Method) (wf : is_method a m ≡ true) (grown : Grows (body_of p.METHOD) (written.method a.externs m).below) (at : ℕ) (ag : Agrees s at (written.method a.externs m).below) where
  abbrev shown : Shown
  shown = (written.method a.externs m).below

  abbrev g : f.Forest
  g = numbered at shown

  pub name_is : method_name s g ≡ m.name
  unfolding ilasm rule_by written.method
  name_is =
      ap (text_of_method_name s) (searches.parts (p.METHOD_NAME_NAME ∷ p.METHOD_NAME_CTOR ∷ p.METHOD_NAME_CCTOR ∷ []) 4 (body_of p.METHOD) in_method.name shown grown at)
      ∙ name_laws s m.name ((methods_named a m).0 wf).name (place 4 at shown) ag.1.1.1.1.0 (numbered (place 5 at shown) (rest 5 shown))

  -- where generic parameters and parameters stand
  pub typars_at : (options : OptionsAreRead) → f.child (p.TYPARS_OPT_SOME ∷ []) g ≡ numbered (place 5 at shown) (opt_below (typars_shown a.externs m.generics))
  unfolding ilasm rule_by written.method
  typars_at options =
      searches.child (p.TYPARS_OPT_SOME ∷ []) 5 (body_of p.METHOD) in_method.typars shown grown at
      ∙ options.option p.TYPARS_OPT_SOME p.TYPARS_OPT_NONE refl refl (typars_shown a.externs m.generics) (place 5 at shown) (numbered (place 6 at shown) (rest 6 shown))
      (searches.child (p.TYPARS_OPT_SOME ∷ []) 7 (drop 6 (body_of p.METHOD)) in_method.typars_behind (rest 6 shown) (searches.rest 6 (body_of p.METHOD) shown grown) (place 6 at shown))

  pub args_at : (options : OptionsAreRead) → f.child (p.DEF_ARGS_OPT_SOME ∷ []) g ≡ numbered (place 7 at shown) (opt_below (written.def_args a.externs (written.parameters a.externs m.params 1 m.sig.params)))
  unfolding ilasm rule_by written.method
  args_at options =
      searches.child (p.DEF_ARGS_OPT_SOME ∷ []) 7 (body_of p.METHOD) in_method.args shown grown at
      ∙ options.option p.DEF_ARGS_OPT_SOME p.DEF_ARGS_OPT_NONE refl refl (written.def_args a.externs (written.parameters a.externs m.params 1 m.sig.params)) (place 7 at shown) (numbered (place 8 at shown) (rest 8 shown))
      (searches.child (p.DEF_ARGS_OPT_SOME ∷ []) 5 (drop 8 (body_of p.METHOD)) in_method.args_behind (rest 8 shown) (searches.rest 8 (body_of p.METHOD) shown grown) (place 8 at shown))

  pub args_grow : (pieces : PiecesAreRead) → EachGrown n.DEF_ARG (written.parameters a.externs m.params 1 m.sig.params)
  unfolding ilasm rule_by written.method
  args_grow pieces = args_grown pieces a m.params m.sig.params (searches.rest 7 (body_of p.METHOD) shown grown).1

  pub args_given : (segments : SegmentsAreRead) → CommasAgree s (place 7 at shown) (written.parameters a.externs m.params 1 m.sig.params)
  unfolding written.method
  args_given segments = args_agree segments a m.params m.sig.params s (place 7 at shown) ag.1.1.1.1.1.1.1.0

  pub typars_given : Agrees s (place 5 at shown) (opt_below (typars_shown a.externs m.generics))
  unfolding written.method
  typars_given = ag.1.1.1.1.1.0

  module _ (held : IsHeld m) (flag_laws : FlagsAreRead) (options : OptionsAreRead) where
    pub flags_are : flags.method_flags s g ≡ m.flags
    unfolding ilasm rule_by written.method
    flags_are =
        ap (λ c. flags.flags_of s flags.method_words (flags.flags_in p.METHOD_ATTR_STAR_MORE p.METHOD_ATTR_STAR_END c))
        (options.row p.METHOD_ATTR_STAR_MORE p.METHOD_ATTR_STAR_END refl refl (flag_items n.METHOD_ATTR p.METHOD_ATTR_FLAGS method_words m.flags) (suc at) (numbered (place 2 at shown) (rest 2 shown))
        (searches.child (p.METHOD_ATTR_STAR_MORE ∷ []) 11 (drop 2 (body_of p.METHOD)) in_method.flags_behind (rest 2 shown) (searches.rest 2 (body_of p.METHOD) shown grown) (place 2 at shown)))
        ∙ flag_laws.methods s (suc at) m.flags (small_16 m.flags held.flags) ag.1.0

    pub impl_flags_are : flags.implementation_flags s g ≡ m.impl_flags
    unfolding ilasm rule_by written.method
    impl_flags_are =
        ap (λ c. flags.flags_of s flags.implementation_words (flags.flags_in p.IMPL_ATTR_STAR_MORE p.IMPL_ATTR_STAR_END c))
        (searches.child (p.IMPL_ATTR_STAR_MORE ∷ []) 9 (body_of p.METHOD) in_method.impl shown grown at
        ∙ options.row p.IMPL_ATTR_STAR_MORE p.IMPL_ATTR_STAR_END refl refl (flag_items n.IMPL_ATTR p.IMPL_ATTR_FLAGS implementation_words m.impl_flags) (place 9 at shown) (numbered (place 10 at shown) (rest 10 shown))
        (searches.child (p.IMPL_ATTR_STAR_MORE ∷ []) 3 (drop 10 (body_of p.METHOD)) in_method.impl_behind (rest 10 shown) (searches.rest 10 (body_of p.METHOD) shown grown) (place 10 at shown)))
        ∙ flag_laws.implementations s (place 9 at shown) m.impl_flags (small_16 m.impl_flags held.impl_flags) ag.1.1.1.1.1.1.1.1.1.0

    module _ (conventions : ConventionsAreRead) (formed : FormedAreRead) (generics : GenericsAreRead) (segments : SegmentsAreRead) (pieces : PiecesAreRead) (walks : WalksPass) (around : Around) (knows : Knows s a) where
      pub signature_is : method_signature s around g ≡ m.sig
      unfolding ilasm rule_by written.method
      signature_is =
          let m1 = (methods_named a m).0 wf in
          let sig1 = (signatures_named a m.sig).0 m1.sig in
          let d = and_parts _ _ m1.declaration in
          let conv = searches.child (p.CALL_CONV ∷ []) 2 (body_of p.METHOD) in_method.convention shown grown at in
          let this_is = ap (f.has p.INSTANCE) conv ∙ conventions.this m.sig (rest 3 shown) (place 2 at shown) in
          let explicit_is = ap (f.has p.EXPLICIT_OPT_SOME) conv ∙ conventions.explicit m.sig (rest 3 shown) (place 2 at shown) sig1.explicit in
          let vararg_is = ap (f.has p.CALL_KIND_VARARG) conv ∙ conventions.vararg m.sig (rest 3 shown) (place 2 at shown) in
          let ret_is = ap (type_of s around) (searches.child (p.TYPE ∷ []) 3 (body_of p.METHOD) in_method.type shown grown at) ∙ formed.types s around a knows m.sig.ret sig1.ret held.ret (place 3 at shown) ag.1.1.1.0 in
          let generic_is = generics.counted a.externs m.generics g (place 5 at shown) (typars_at options) ∙ sym (eqb-true m.sig.generic (length m.generics) d.1) in
          let params_are = ap (argument_types s around) (args_at options)
          ∙ (ap (λ ps. map (the_type s around) (f.below_each ps)) (args_parts segments a m.params m.sig.params (place 7 at shown))
          ∙ all_types formed walks s around a knows m.params m.sig.params sig1.params held.types (args_grow pieces) (place 7 at shown) (args_given segments)) in
          let without_sentinel = no_sentinel m.sig.sentinel d.0 in
          λ i. record { has_this = this_is i; explicit_this = explicit_is i; vararg = vararg_is i; generic = generic_is i; ret = ret_is i; params = params_are i; sentinel = without_sentinel i }

pub heads_are_read : MethodNamesAreRead → SearchesPass → FlagsAreRead → OptionsAreRead → ConventionsAreRead → FormedAreRead → GenericsAreRead → SegmentsAreRead → PiecesAreRead → WalksPass → HeadsAreRead
heads_are_read name_laws searches flag_laws options conventions formed generics segments pieces walks = record {
  names = λ s a m wf grown at ag. name_is name_laws searches s a m wf grown at ag;
  flags = λ s a m wf h grown at ag. flags_are name_laws searches s a m wf grown at ag (held_of m h) flag_laws options;
  implementations = λ s a m wf h grown at ag. impl_flags_are name_laws searches s a m wf grown at ag (held_of m h) flag_laws options;
  signatures = λ s around a knows m wf h grown at ag.
      signature_is name_laws searches s a m wf grown at ag (held_of m h) flag_laws options conventions formed generics segments pieces walks around knows;
  typars = λ s a m wf grown at ag. (typars_at name_laws searches s a m wf grown at ag options, typars_given name_laws searches s a m wf grown at ag);
  parameters = λ s a m wf grown at ag. (
    ap (f.each p.DEF_ARG) (args_at name_laws searches s a m wf grown at ag options) ∙ ap f.below_each (args_parts segments a m.params m.sig.params (place 7 at (written.method a.externs m).below)),
    args_grow name_laws searches s a m wf grown at ag pieces,
    args_given name_laws searches s a m wf grown at ag segments,
  );
}
