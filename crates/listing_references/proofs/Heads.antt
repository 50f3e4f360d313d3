-- Calling conventions, names of methods and generic arguments are read back.
use Rattle.std.proofs.Common.{◌≡◌, ℕ, zero, suc, ◌+◌, ◌<◌, ◌^◌, ◌||◌, not, nat_eq, nat_lt, Bool, true, false, cond, if◌then◌else◌, List, [], ◌∷◌, ◌++◌, map, length, Option, None, Some, refl, ap, sym, ◌∙◌, append-nil, arith}
use Rattle.std.proofs.lemmas.Bool.{and_parts, eqb-true, false≢true, leb-true}
use Rattle.std.specs.Prelude.{codes}
use Rattle.std.specs.Str.{bytes_eq}
use Rattle.il_lexer.specs.WordList.{words}
use Rattle.il_lexer.specs.declared.word.TheConstants as word
use Rattle.ilasm_grammar.specs.Ilasm.{ilasm, rule_by, has_bit}
use Rattle.ilasm_grammar.specs.declared.productions.TheConstants as p
use Rattle.type_terms.specs.declared.term.SigType.{SigType}
use Rattle.assembly_tree.specs.WellFormedTerms.{are_arguments, is_count}
use Rattle.assembly_tree.specs.declared.assembly.ExternAssembly.{ExternAssembly}
use Rattle.source_model.specs.Forest as f
use Rattle.source_model.specs.Nodes.{Around}
use Rattle.source_model.specs.References as read
use Rattle.source_model.specs.Shapes.{natural}
use Rattle.source_model.specs.Source.{Source, spelling}
use Rattle.source_model.specs.Types.{types_in}
use Rattle.source_model.specs.Values.{integer, part_texts, dotted}
use Rattle.listing_growth.specs.Laws.{TermsStand}
use Rattle.listing_growth.specs.Standing.{can_stand, all_stand, args_stand}
use Rattle.listing_leaves.specs.Laws.{is_name}
use Rattle.listing_model.specs.Grown.{body_of}
use Rattle.listing_model.specs.References.{instance, generic_types, generic_count, in_angles, method_generics}
use Rattle.listing_model.specs.Shown.{Shown, none, branch, Item, item, w, when, optional, size, star_production, star_below, behind_comma, word_text}
use Rattle.listing_model.specs.Types.{name, type_of, type_below}
use Rattle.listing_reading.specs.Below.{below, cant_stand}
use Rattle.listing_reading.specs.BelowMasks.{below_masks}
use Rattle.listing_reading.specs.Laws.{SearchesPass}
use Rattle.listing_reading.specs.Numbered.{numbered, Agrees}
use Rattle.listing_terms.specs.Laws.{TermsAreRead}
use Rattle.listing_terms.specs.Readable.{KnowsAssemblies, is_type_readable}
use Rattle.listing_values.specs.Laws.{NamesAreRead, NumbersAreRead}
use Rattle.listing_references.specs.Laws.{are_types_readable, option_all_readable, ConventionsAreRead, MethodNamesAreRead, GenericsAreRead}

-- ---- calling conventions

abbrev by_three : Bool → Bool → Bool → Shown
by_three this explicit vararg =
    optional p.INSTANCE_OPT_SOME p.INSTANCE_OPT_NONE (when this (instance explicit))
    (optional p.CALL_KIND_OPT_SOME p.CALL_KIND_OPT_NONE (when vararg (branch p.CALL_KIND_VARARG (w word.VARARG none) none)) none)

this_by : (x y z : Bool) (at : ℕ) → f.has p.INSTANCE (numbered at (by_three x y z)) ≡ x
this_by true true true at = refl
this_by true true false at = refl
this_by true false true at = refl
this_by true false false at = refl
this_by false y true at = refl
this_by false y false at = refl

explicit_by : (x y z : Bool) (at : ℕ) → (not y || x) ≡ true → f.has p.EXPLICIT_OPT_SOME (numbered at (by_three x y z)) ≡ y
explicit_by true true true at h = refl
explicit_by true true false at h = refl
explicit_by true false true at h = refl
explicit_by true false false at h = refl
explicit_by false true z at h = absurd (false≢true h)
explicit_by false false true at h = refl
explicit_by false false false at h = refl

vararg_by : (x y z : Bool) (at : ℕ) → f.has p.CALL_KIND_VARARG (numbered at (by_three x y z)) ≡ z
vararg_by true true true at = refl
vararg_by true true false at = refl
vararg_by true false true at = refl
vararg_by true false false at = refl
vararg_by false y true at = refl
vararg_by false y false at = refl

pub conventions_are_read : ConventionsAreRead
conventions_are_read = record {
  this = λ m after at. this_by m.has_this m.explicit_this m.vararg at;
  explicit = λ m after at h. explicit_by m.has_this m.explicit_this m.vararg at h;
  vararg = λ m after at. vararg_by m.has_this m.explicit_this m.vararg at;
}

-- ---- names of methods

same_bytes : (a b : List ℕ) → bytes_eq a b ≡ true → a ≡ b
same_bytes [] [] h = refl
same_bytes [] (y ∷ b) h = absurd (false≢true h)
same_bytes (x ∷ a) [] h = absurd (false≢true h)
same_bytes (x ∷ a) (y ∷ b) h =
    let hs = and_parts (nat_eq x y) (bytes_eq a b) h in
    ap (λ z. z ∷ a) (eqb-true x y hs.0) ∙ ap (λ zs. y ∷ zs) (same_bytes a b hs.1)

constructor_word : word_text word.DOT_CTOR ≡ codes ".ctor"
unfolding words
constructor_word = refl

initializer_word : word_text word.DOT_CCTOR ≡ codes ".cctor"
unfolding words
initializer_word = refl

module _ (names : NamesAreRead) (s : Source) (text : List ℕ) (named : is_name text ≡ true) (after : f.Forest) where
  abbrev NameIs : Item → Type 0
  NameIs i = (at : ℕ) → Agrees s at i.below → read.method_name s (f.branch i.production (numbered at i.below) after) ≡ text

  initializer_by : (b : Bool) → bytes_eq text (codes ".cctor") ≡ b →
      NameIs (cond b (item p.METHOD_NAME_CCTOR (w word.DOT_CCTOR none)) (item p.METHOD_NAME_NAME (name text none)))
  initializer_by true e at ag = ag.0.text ∙ (initializer_word ∙ sym (same_bytes text (codes ".cctor") e))
  initializer_by false e at ag = ap (λ t. dotted (part_texts t)) ag.0.text ∙ names.name text named

  name_by : (b : Bool) → bytes_eq text (codes ".ctor") ≡ b →
      NameIs (cond b (item p.METHOD_NAME_CTOR (w word.DOT_CTOR none))
      (if bytes_eq text (codes ".cctor") then item p.METHOD_NAME_CCTOR (w word.DOT_CCTOR none) else item p.METHOD_NAME_NAME (name text none)))
  name_by true e at ag = ag.0.text ∙ (constructor_word ∙ sym (same_bytes text (codes ".ctor") e))
  name_by false e at ag = initializer_by (bytes_eq text (codes ".cctor")) refl at ag

pub method_names_are_read : NamesAreRead → MethodNamesAreRead
method_names_are_read names s text named at ag after = name_by names s text named after (bytes_eq text (codes ".ctor")) refl at ag

-- ---- generic arguments

abbrev counted : List ℕ
counted = p.GEN_ARGS_BRACKET ∷ []

counted_outside_types : cant_stand counted (body_of p.TYPE) ≡ true
unfolding ilasm rule_by has_bit below below_masks
counted_outside_types = refl

more_than_none : (n : ℕ) → nat_lt 0 (suc n) ≡ true
more_than_none n = grind arith

small_count : (n : ℕ) → is_count n ≡ true → n < 2 ^ 128
small_count n h = let low = leb-true n 65535 h in omega arith

module _ (terms : TermsAreRead) (searches : SearchesPass) (stand : TermsStand) (s : Source) (a : Around) (externs : List ExternAssembly) (knows : KnowsAssemblies s externs) where
  abbrev more_types : List SigType → List Item
  more_types ts = map (behind_comma p.COMMA_TYPE) (map (type_of externs) ts)

  abbrev row : ℕ → List SigType → f.Forest → f.Forest
  row at ts after = f.branch (star_production p.COMMA_TYPE_STAR_MORE p.COMMA_TYPE_STAR_END (more_types ts)) (numbered at (star_below p.COMMA_TYPE_STAR_MORE p.COMMA_TYPE_STAR_END (more_types ts))) after

  abbrev next : ℕ → SigType → ℕ
  next at t = at + size (behind_comma p.COMMA_TYPE (type_of externs t)).below

  types_row : (ts : List SigType) → are_types_readable externs ts ≡ true → (at : ℕ) →
      Agrees s at (star_below p.COMMA_TYPE_STAR_MORE p.COMMA_TYPE_STAR_END (more_types ts)) → (after : f.Forest) →
      types_in s a (row at ts after) ≡ ts ++ types_in s a after
  unfolding types_in
  types_row [] h at ag after = refl
  types_row (t ∷ ts) h at ag after =
      let hs = and_parts (is_type_readable externs t) (are_types_readable externs ts) h in
      ap (λ u. u ∷ (types_in s a (row (next at t) ts f.none) ++ types_in s a after)) (terms.types s a externs knows t hs.0 (suc at) ag.0.1.0)
      ∙ ap (λ us. t ∷ (us ++ types_in s a after)) (types_row ts hs.1 (next at t) ag.1.0 f.none ∙ append-nil ts)

  none_in_type : (t : SigType) → can_stand t ≡ true → (at : ℕ) → f.parts counted (numbered at (type_below externs t)) ≡ []
  none_in_type t h at = searches.nothing counted (body_of p.TYPE) counted_outside_types (type_below externs t) (stand.types externs t h).1 at

  none_in_row : (ts : List SigType) → all_stand ts ≡ true → (at : ℕ) (after : f.Forest) → f.parts counted (row at ts after) ≡ f.parts counted after
  none_in_row [] h at after = refl
  none_in_row (t ∷ ts) h at after =
      let hs = and_parts (can_stand t) (all_stand ts) h in
      ap (λ ps. ((ps ++ []) ++ f.parts counted (row (next at t) ts f.none)) ++ f.parts counted after) (none_in_type t hs.0 (suc at))
      ∙ ap (λ ps. ps ++ f.parts counted after) (none_in_row ts hs.1 (next at t) f.none)

  -- what stands below the production of generic arguments, and it has no `[n]`
  abbrev angles : ℕ → List SigType → f.Forest
  angles at ts = f.the p.METHOD_GENERICS (numbered at (in_angles externs (generic_types externs ts)))

  no_count : (t : SigType) (ts : List SigType) → all_stand (t ∷ ts) ≡ true → (at : ℕ) → f.has p.GEN_ARGS_BRACKET (angles at (t ∷ ts)) ≡ false
  no_count t ts h at =
      let hs = and_parts (can_stand t) (all_stand ts) h in
      let from = suc at + size (type_below externs t) in
      ap (λ ps. f.is_any_part (((ps ++ f.parts counted (row from ts f.none))) ++ [])) (none_in_type t hs.0 (suc at))
      ∙ ap (λ ps. f.is_any_part (ps ++ [])) (none_in_row ts hs.1 from f.none)

  types_are : (t : SigType) (ts : List SigType) → are_types_readable externs (t ∷ ts) ≡ true → (at : ℕ) →
      Agrees s at (in_angles externs (generic_types externs (t ∷ ts))) → types_in s a (angles at (t ∷ ts)) ≡ t ∷ ts
  unfolding types_in
  types_are t ts h at ag =
      let hs = and_parts (is_type_readable externs t) (are_types_readable externs ts) h in
      let from = suc at + size (type_below externs t) in
      ap (λ u. (u ∷ types_in s a (row from ts f.none)) ++ []) (terms.types s a externs knows t hs.0 (suc at) ag.0.1.0.0)
      ∙ (ap (λ us. (t ∷ us) ++ []) (types_row ts hs.1 from ag.0.1.0.1.0 f.none ∙ append-nil ts) ∙ append-nil (t ∷ ts))

module _ (laws : NumbersAreRead) (terms : TermsAreRead) (searches : SearchesPass) (stand : TermsStand) (s : Source) (a : Around) (externs : List ExternAssembly) (knows : KnowsAssemblies s externs) where
  abbrev written : ℕ → ℕ → Option (List SigType) → f.Forest
  written at n args = numbered at (optional p.METHOD_GENERICS_OPT_SOME p.METHOD_GENERICS_OPT_NONE (method_generics externs n args) none)

  abbrev by_count : ℕ → Bool → Shown
  by_count n b = optional p.METHOD_GENERICS_OPT_SOME p.METHOD_GENERICS_OPT_NONE (when b (in_angles externs (generic_count externs n))) none

  nothing_by : (n : ℕ) (b : Bool) (at : ℕ) → read.generic_arguments s a (numbered at (by_count n b)) ≡ None
  nothing_by n true at = refl
  nothing_by n false at = refl

  number_by : (n : ℕ) (b : Bool) → nat_lt 0 n ≡ b → is_count n ≡ true → (at : ℕ) → Agrees s at (by_count n b) → read.generic_number s a (numbered at (by_count n b)) ≡ n
  unfolding types_in
  number_by n true e h at ag = ap (λ t. natural (integer t)) ag.0.0.1.0.1.0.text ∙ ap natural (laws.natural n (small_count n h))
  number_by zero false e h at ag = refl
  number_by (suc n) false e h at ag = absurd (false≢true (sym e ∙ more_than_none n))

  args_are : (n : ℕ) (args : Option (List SigType)) → option_all_readable externs args ≡ true → args_stand args ≡ true → (at : ℕ) →
      Agrees s at (optional p.METHOD_GENERICS_OPT_SOME p.METHOD_GENERICS_OPT_NONE (method_generics externs n args) none) →
      read.generic_arguments s a (written at n args) ≡ args
  args_are n None h k at ag = nothing_by n (nat_lt 0 n) at
  args_are n (Some []) h k at ag = absurd (false≢true k)
  args_are n (Some (t ∷ ts)) h k at ag =
      let all = (and_parts (nat_lt 0 (length (t ∷ ts))) (all_stand (t ∷ ts)) k).1 in
      ap (λ c. if c then None else Some (types_in s a (angles terms searches stand s a externs knows at (t ∷ ts)))) (no_count terms searches stand s a externs knows t ts all at)
      ∙ ap Some (types_are terms searches stand s a externs knows t ts h at ag.0)

  number_is : (n : ℕ) (args : Option (List SigType)) → is_count n ≡ true → are_arguments n args ≡ true → option_all_readable externs args ≡ true →
      args_stand args ≡ true → (at : ℕ) → Agrees s at (optional p.METHOD_GENERICS_OPT_SOME p.METHOD_GENERICS_OPT_NONE (method_generics externs n args) none) →
      read.generic_number s a (written at n args) ≡ n
  number_is n None c m h k at ag = number_by n (nat_lt 0 n) refl c at ag
  number_is n (Some []) c m h k at ag = absurd (false≢true k)
  number_is n (Some (t ∷ ts)) c m h k at ag =
      let all = (and_parts (nat_lt 0 (length (t ∷ ts))) (all_stand (t ∷ ts)) k).1 in
      let many = (and_parts (nat_lt 0 (length (t ∷ ts))) (nat_eq (length (t ∷ ts)) n) m).1 in
      let below_them = angles terms searches stand s a externs knows at (t ∷ ts) in
      ap (λ b. if b then natural (integer (spelling s (f.leaf_at 1 (f.the p.GEN_ARGS_BRACKET below_them)))) else length (types_in s a below_them)) (no_count terms searches stand s a externs knows t ts all at)
      ∙ (ap length (types_are terms searches stand s a externs knows t ts h at ag.0) ∙ eqb-true (length (t ∷ ts)) n many)

pub generics_are_read : NumbersAreRead → TermsAreRead → SearchesPass → TermsStand → GenericsAreRead
generics_are_read laws terms searches stand = record {
  arguments = λ s a externs knows n args h k at ag. args_are laws terms searches stand s a externs knows n args h k at ag;
  number = λ s a externs knows n args c m h k at ag. number_is laws terms searches stand s a externs knows n args c m h k at ag;
}
