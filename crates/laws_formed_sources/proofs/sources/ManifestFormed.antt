-- The manifest of a faultless source and the assemblies that it names are well formed (ECMA-335 II.6, II.25.2.3, II.25.3.3).
use Rattle.std.proofs.Common.{◌≡◌, ℕ, zero, suc, ◌%◌, ◌^◌, ◌<◌, ◌≤◌, inl, inr, List, [], ◌∷◌, ◌++◌, Option, None, Some, length, map, refl, ap, sym, subst, ◌∙◌, arith, nat_lt, nat_le, pow_pos}
use Rattle.std.specs.Prelude.{Bool, true, false, not, ◌==◌, ◌||◌, ◌&&◌, if◌then◌else◌, bit_and, codes, option_map, slice_get, ℤ, pos, negsuc}
use Rattle.std.specs.List.{AllByRecursion, list_all}
use Rattle.std.proofs.Math.Nat.{mod-eq_of_lt}
use Rattle.std.proofs.lemmas.Bool.{and_from, and_parts, cases_Bool, lt-ltb, ltb-true}
use Rattle.std.proofs.lemmas.Bool.Decides.{Decides-eqb}
use Rattle.std.proofs.Common.{length-append}
use Rattle.std.proofs.lemmas.Nat.{and_le_r, and_mod, mod_below}
use Rattle.il_lexer.specs.Longest.{LongestSpelling}
use Rattle.il_lexer.specs.Unplaced.{ReadsAsItLexes}
use Rattle.il_lexer.specs.declared.types.Token.{Token}
use Rattle.il_lexer.specs.declared.types.TokenKind.{TokenKind}
use Rattle.il_lexer.specs.declared.types.TokenKind.TheVariants as kind
use Rattle.assembly_tree.specs.WellFormed.{are_cor_flags, is_extern, is_file_alignment, is_image_base, is_manifest}
use Rattle.assembly_tree.specs.WellFormedMembers.{is_attribute, is_clear}
use Rattle.assembly_tree.specs.WellFormedNames.{has_no_zero, is_name}
use Rattle.assembly_tree.specs.WellFormedTerms.{is_plain_ref}
use Rattle.ilasm_grammar.specs.Ilasm.{ilasm, rule_by}
use Rattle.ilasm_grammar.specs.Terminals.{terminal_of}
use Rattle.ilasm_grammar.specs.declared.nonterminals.TheConstants as n
use Rattle.ilasm_grammar.specs.declared.productions.TheConstants.{ASSEMBLY_ASSEMBLY_ATTR_STAR, ASSEMBLY_EXTERN, ASSEMBLY_ITEM_CUSTOM, DECL_ASSEMBLY, DECL_CLASS, DECL_CORFLAGS, DECL_CUSTOM, DECL_DATA, DECL_FIELD, DECL_FILE, DECL_IMAGEBASE, DECL_METHOD, DECL_MODULE, DECL_STACKRESERVE, DECL_SUBSYSTEM, KEY_CULTURE, KEY_LOCALE, METHOD_REF, PLUS_STRING, TEXT}
use Rattle.ilasm_grammar.specs.declared.terminals.TheConstants as t
use Rattle.source_model.specs.Classes.{assembly}
use Rattle.source_model.specs.Constants.{text_in}
use Rattle.source_model.specs.Flags.{without_bits}
use Rattle.source_model.specs.Forest.{Forest, Part, none, each, first_or, is_among, leaf_at, parts, the}
use Rattle.source_model.specs.Items.{declarations}
use Rattle.source_model.specs.Manifests.{assembly_name, culture, extern_assembly, extern_assemblies, last_said, manifest, module_name, number_said, this_assembly}
use Rattle.source_model.specs.Names.{assemblies, assembly_token, extern_name, externs}
use Rattle.source_model.specs.Nodes.{nothing_around}
use Rattle.source_model.specs.OutOfRange.{is_natural_with}
use Rattle.source_model.specs.OutOfRange as bound
use Rattle.source_model.specs.References.{method_ref}
use Rattle.source_model.specs.Shapes.{natural}
use Rattle.source_model.specs.Signatures.{generic_arguments_token}
use Rattle.source_model.specs.Source.{Source, spelling}
use Rattle.source_model.specs.Undeclared.{end_unless_some}
use Rattle.source_model.specs.Values.{between_quotes, int_at, name_text, string_bytes, unescaped}
use Rattle.source_nodes.specs.Derived.{FitsBody, head_of}
use Rattle.source_syntax.proofs.BodyLemmas.{fits_has, fits_leaf, goes_on_with, terminals}
use Rattle.source_syntax.proofs.NameTokens.{assembly_is_name, name_at, terminals_of_rule}
use Rattle.source_syntax.proofs.ReferenceLemmas.{sound_part}
use Rattle.source_nodes.proofs.WrittenNames.{one_in, word_is_more}
use Rattle.source_flags.proofs.Gathered.{IsSought, of_parts}
use Rattle.laws_formed_sources.specs.sources.Laws.{IsRight}
use Rattle.laws_formed_sources.specs.sources.Productions.{AllFaultless, HasFewTypars, IsFaultlessAt}
use Rattle.laws_formed_sources.proofs.sources.Attributes as held
use Rattle.laws_formed_sources.proofs.sources.Attributes.{IsAttribute, customs_sought, parts_held}
use Rattle.laws_formed_sources.proofs.sources.ClearBits.{without_low}
use Rattle.laws_formed_sources.proofs.sources.Parts.{IsOf, all_mapped, each_good}
use Rattle.laws_formed_sources.proofs.sources.Right as right
use Rattle.laws_formed_sources.proofs.sources.Rules.{body_of, fits_of, for_each}
use Rattle.laws_formed_sources.proofs.sources.TextFacts.{no_zero-append}
use Rattle.laws_formed_sources.proofs.sources.Types.{bodies_of}
use Rattle.laws_formed_sources.proofs.sources.Unbroken.{all_declared}

-- ---- strings

string_first : slice_get (terminals (body_of (ilasm TEXT))) 0 ≡ Some t.QSTRING
unfolding ilasm rule_by
string_first = refl

string_later : slice_get (terminals (body_of (ilasm PLUS_STRING))) 1 ≡ Some t.QSTRING
unfolding ilasm rule_by
string_later = refl

kind_string : (k : TokenKind) → terminal_of k ≡ t.QSTRING → k ≡ kind.QString
kind_string kind.Name e = absurd cc
kind_string kind.Scope e = absurd cc
kind_string kind.Int e = absurd cc
kind_string kind.QString e = refl
kind_string kind.EqBytes e = absurd cc
kind_string kind.ByteArray e = absurd cc
kind_string kind.RealBytes e = absurd cc
kind_string kind.Hash e = absurd cc
kind_string kind.Unused e = absurd cc
kind_string (kind.Word k) e = absurd (word_is_more k t.QSTRING (omega arith) e)

is_of_kind : (o : Option Token) (m : ℕ) (x : TokenKind) → ((k : TokenKind) → terminal_of k ≡ m → k ≡ x) → option_map (λ (y : Token). terminal_of y.kind) o ≡ Some m
    → option_map (λ (y : Token). y.kind) o ≡ Some x
is_of_kind None m x back e = absurd cc
is_of_kind (Some y) m x back e = let same : terminal_of y.kind ≡ m = cc in ap (λ z. Some z) (back y.kind same)

culture_text : goes_on_with n.TEXT (body_of (ilasm KEY_CULTURE)) ≡ true
unfolding ilasm rule_by
culture_text = refl

locale_text : goes_on_with n.TEXT (body_of (ilasm KEY_LOCALE)) ≡ true
unfolding ilasm rule_by
locale_text = refl

one_text : (p : ℕ) → head_of p ≡ Some n.TEXT → p ≡ TEXT
unfolding ilasm
one_text p e = one_in _ _ _ n.TEXT TEXT p e refl

extern_named : slice_get (terminals_of_rule (ilasm ASSEMBLY_EXTERN)) 1 ≡ Some t.NAME
unfolding ilasm rule_by
extern_named = refl

module_named : slice_get (terminals_of_rule (ilasm DECL_MODULE)) 1 ≡ Some t.NAME
unfolding ilasm rule_by
module_named = refl

module _ (longest : LongestSpelling) (reads : ReadsAsItLexes) (s : Source) (r : IsRight s) where
  string_at : (p k : ℕ) (f : Forest) → slice_get (terminals (body_of (ilasm p))) k ≡ Some t.QSTRING → FitsBody s p f
      → has_no_zero (unescaped (between_quotes (spelling s (leaf_at k f)))) ≡ true
  string_at p k f e fits =
      right.string longest reads s r (leaf_at k f)
      (is_of_kind (slice_get s.tokens (leaf_at k f)) t.QSTRING kind.QString kind_string (fits_leaf s (body_of (ilasm p)) f (fits_of s p f fits) k t.QSTRING e))

  later_clean : (fs : List Forest) → AllByRecursion (IsOf s PLUS_STRING) fs → has_no_zero (string_bytes s (map (λ g. leaf_at 1 g) fs)) ≡ true
  later_clean [] h = refl
  later_clean (f ∷ fs) h =
      no_zero-append (unescaped (between_quotes (spelling s (leaf_at 1 f)))) (string_bytes s (map (λ g. leaf_at 1 g) fs))
      (string_at PLUS_STRING 1 f string_later h.0.0.range.fits) (later_clean fs h.1)

  pub text_clean : (f : Forest) → IsFaultlessAt s TEXT f → AllFaultless s f → has_no_zero (text_in s f) ≡ true
  text_clean f own all =
      no_zero-append (unescaped (between_quotes (spelling s (leaf_at 0 f)))) (string_bytes s (map (λ g. leaf_at 1 g) (each PLUS_STRING f)))
      (string_at TEXT 0 f string_first own.range.fits) (later_clean (each PLUS_STRING f) (each_good s PLUS_STRING f all))

  -- ---- lines of which the last holds

  last_holds : {X : Type 0} (P : X → Type 0) (Q : Part → Type 0) (of : Part → X) (other : X) (ps : List Part) → P other → AllByRecursion Q ps → ((p : Part) → Q p → P (of p))
      → P (last_said of other ps)
  last_holds P Q of other [] h all step = h
  last_holds P Q of other (p ∷ ps) h all step = last_holds P Q of (of p) ps (step p all.0) all.1 step

  culture_clean : (f : Forest) → AllFaultless s f → has_no_zero (culture s f) ≡ true
  culture_clean f all =
      last_holds (λ x. has_no_zero x ≡ true) (IsSought (IsFaultlessAt s) (KEY_CULTURE ∷ KEY_LOCALE ∷ [])) (λ p. text_in s (the TEXT p.below)) []
      (parts (KEY_CULTURE ∷ KEY_LOCALE ∷ []) f) refl (of_parts (IsFaultlessAt s) (KEY_CULTURE ∷ KEY_LOCALE ∷ []) f all) line
    where
      line : (p : Part) → IsSought (IsFaultlessAt s) (KEY_CULTURE ∷ KEY_LOCALE ∷ []) p → has_no_zero (text_in s (the TEXT p.below)) ≡ true
      line p h =
          for_each Q (KEY_CULTURE ∷ KEY_LOCALE ∷ []) ((λ fits. by_text KEY_CULTURE fits culture_text), ((λ fits. by_text KEY_LOCALE fits locale_text), tt)) p.production h.0 h.1.range.fits
        where
          Q : ℕ → Type 0
          Q q = FitsBody s q p.below → has_no_zero (text_in s (the TEXT p.below)) ≡ true

          by_text : (q : ℕ) → FitsBody s q p.below → goes_on_with n.TEXT (body_of (ilasm q)) ≡ true → has_no_zero (text_in s (the TEXT p.below)) ≡ true
          by_text q fits e =
              let some = fits_has s (body_of (ilasm q)) p.below n.TEXT TEXT (fits_of s q p.below fits) e one_text in
              let h = sound_part (IsFaultlessAt s) TEXT p.below h.2 some in
              text_clean (the TEXT p.below) h.0 h.1

  -- ---- other assemblies

  extern_formed : (f : Forest) → IsOf s ASSEMBLY_EXTERN f → is_extern (extern_assembly s f) ≡ true
  unfolding is_extern
  extern_formed f own =
      and_from (is_name (extern_name s f)) (has_no_zero (culture s f)) (right.named longest reads s r (leaf_at 1 f) (name_at s ASSEMBLY_EXTERN 1 f extern_named own.0.range.fits))
      (culture_clean f own.1)

  pub externs_formed : AllFaultless s s.tree → list_all is_extern (extern_assemblies s) ≡ true
  externs_formed all = all_mapped (IsOf s ASSEMBLY_EXTERN) is_extern (extern_assembly s) extern_formed (externs s) (each_good s ASSEMBLY_EXTERN s.tree all)

  -- ---- numbers of the manifest

  unless : (c : Bool) (k : ℕ) → (if c then [] else k ∷ []) ≡ [] → c ≡ true
  unless true k e = refl
  unless false k e = absurd cc

  only : (p q : ℕ) → is_among (p ∷ []) q ≡ true → q ≡ p
  only p q e = elim (cases_Bool (p == q)) [
    | inl is ↦ sym ((Decides-eqb p q).0 is)
    | inr other ↦ let h : false ≡ true = sym (ap (λ (c : Bool). c || false) other) ∙ e in absurd cc
  ]

  -- a number that a line of this production says passes
  said : (test : ℕ → Bool) (production k other : ℕ) → test other ≡ true
      → ((f : Forest) → IsFaultlessAt s production f → is_natural_with test (int_at s (leaf_at k f)) ≡ true)
      → (f : Forest) → AllFaultless s f → test (number_said s production k other f) ≡ true
  said test production k other h each f all =
      last_holds (λ x. test x ≡ true) (IsSought (IsFaultlessAt s) (production ∷ [])) (λ p. natural (int_at s (leaf_at k p.below))) other (parts (production ∷ []) f) h
      (of_parts (IsFaultlessAt s) (production ∷ []) f all)
      (λ p i. passes (int_at s (leaf_at k p.below)) (each p.below (subst (λ q. IsFaultlessAt s q p.below) (only production p.production i.0) i.1)))
    where
      passes : (z : ℤ) → is_natural_with test z ≡ true → test (natural z) ≡ true
      passes (pos m) e = e
      passes (negsuc m) e = absurd cc

  image_base_formed : (f : Forest) → AllFaultless s f → is_image_base (number_said s DECL_IMAGEBASE 1 0x400000 f) ≡ true
  image_base_formed f all = said is_image_base DECL_IMAGEBASE 1 0x400000 refl (λ g h. unless (is_natural_with is_image_base (int_at s (leaf_at 1 g))) (leaf_at 1 g) h.range.manifest) f all

  file_alignment_formed : (f : Forest) → AllFaultless s f → is_file_alignment (number_said s DECL_FILE 2 0x200 f) ≡ true
  file_alignment_formed f all = said is_file_alignment DECL_FILE 2 0x200 refl (λ g h. unless (is_natural_with is_file_alignment (int_at s (leaf_at 2 g))) (leaf_at 2 g) h.range.manifest) f all

  cor_flags_said : (f : Forest) → AllFaultless s f → bound.are_cor_flags (number_said s DECL_CORFLAGS 1 1 f) ≡ true
  cor_flags_said f all = said bound.are_cor_flags DECL_CORFLAGS 1 1 refl (λ g h. unless (is_natural_with bound.are_cor_flags (int_at s (leaf_at 1 g))) (leaf_at 1 g) h.range.manifest) f all

-- ---- flags of the CLI header, by their lowest five bits

abbrev all_below : (ℕ → Bool) → ℕ → Bool
all_below test zero = true
all_below test (suc m) = test m && all_below test m

below_passes : (test : ℕ → Bool) (m x : ℕ) → all_below test m ≡ true → x < m → test x ≡ true
below_passes test zero x e h = absurd (omega (arith, h))
below_passes test (suc m) x e h =
    let both = and_parts (test m) (all_below test m) e in
    elim (cases_Bool (x == m)) [
      | inl is ↦ subst (λ y. test y ≡ true) (sym ((Decides-eqb x m).0 is)) both.0
      | inr other ↦ below_passes test m x both.1 (omega (arith, h, differs other))
    ]
  where
    differs : (x == m) ≡ false → x ≡ m → ⊥
    differs e is = let also = (Decides-eqb x m).1 is in absurd cc

masked : (x m : ℕ) → m < 2 ^ 5 → bit_and x m ≡ bit_and (x % 2 ^ 5) m
masked x m h =
    sym (mod-eq_of_lt (small (and_le_r x m))) ∙ and_mod x m 5 ∙ ap (bit_and (x % 2 ^ 5)) (mod-eq_of_lt h)
  where
    small : bit_and x m ≤ m → bit_and x m < 2 ^ 5
    small i = omega (arith, h, i)

abbrev keeps : ℕ → Bool
keeps y = not ((bit_and y 1 == 1) && (bit_and y 0x10 == 0)) || ((bit_and (without_bits 8 y) 1 == 1) && (bit_and (without_bits 8 y) 0x18 == 0))

header_flags : (x : ℕ) → bound.are_cor_flags x ≡ true → are_cor_flags (without_bits 8 x) ≡ true
header_flags x e =
    let h1 = and_parts (nat_le x 0xFFFFFFFF && (bit_and x 1 == 1)) (bit_and x 0x10 == 0) e in
    let h2 = and_parts (nat_le x 0xFFFFFFFF) (bit_and x 1 == 1) h1.0 in
    let low = x % 2 ^ 5 in
    let one : (bit_and low 1 == 1) ≡ true = ap (λ b. b == 1) (sym (masked x 1 (omega arith))) ∙ h2.1 in
    let native : (bit_and low 0x10 == 0) ≡ true = ap (λ b. b == 0) (sym (masked x 0x10 (omega arith))) ∙ h1.1 in
    let kept = below_passes keeps 32 low refl (mod_below x (2 ^ 5) (pow_pos 5)) in
    let result = given ((bit_and low 1 == 1) && (bit_and low 0x10 == 0)) ((bit_and (without_bits 8 low) 1 == 1) && (bit_and (without_bits 8 low) 0x18 == 0)) kept (and_from (bit_and low 1 == 1) (bit_and low 0x10 == 0) one native) in
    let both = and_parts (bit_and (without_bits 8 low) 1 == 1) (bit_and (without_bits 8 low) 0x18 == 0) result in
    and_from (bit_and (without_bits 8 x) 1 == 1) (is_clear 0x18 (without_bits 8 x))
    (ap (λ b. b == 1) (masked (without_bits 8 x) 1 (omega arith) ∙ ap (λ y. bit_and y 1) (without_low x 8 5)) ∙ both.0)
    (ap (λ b. b == 0) (masked (without_bits 8 x) 0x18 (omega arith) ∙ ap (λ y. bit_and y 0x18) (without_low x 8 5)) ∙ both.1)
  where
    given : (a b : Bool) → (not a || b) ≡ true → a ≡ true → b ≡ true
    given true b e h = e
    given false b e h = absurd cc

-- ---- the whole manifest

pub outside_few : HasFewTypars nothing_around
outside_few = record { class = omega arith; method = omega arith }

module _ (longest : LongestSpelling) (reads : ReadsAsItLexes) (s : Source) (r : IsRight s) (all : AllFaultless s s.tree) where
  this_is : (fs : List Forest) → end_unless_some fs (length s.tokens) ≡ [] → AllByRecursion (IsOf s ASSEMBLY_ASSEMBLY_ATTR_STAR) fs → IsOf s ASSEMBLY_ASSEMBLY_ATTR_STAR (first_or none fs)
  this_is [] e h = absurd cc
  this_is (f ∷ fs) e h = h.0

  this : IsOf s ASSEMBLY_ASSEMBLY_ATTR_STAR (this_assembly s)
  this = this_is (assemblies s) (all_declared s r.faultless).assembly (each_good s ASSEMBLY_ASSEMBLY_ATTR_STAR s.tree all)

  own_name : is_name (assembly_name s) ≡ true
  own_name = right.named longest reads s r (assembly_token (this_assembly s)) (assembly_is_name s (this_assembly s) (this.0.range.fits, bodies_of s (this_assembly s) this.1))

  with_dll : (w : List ℕ) → is_name w ≡ true → is_name (w ++ codes ".dll") ≡ true
  with_dll w h =
      let b = and_parts (nat_lt 0 (length w)) (has_no_zero w) h in
      and_from (nat_lt 0 (length (w ++ codes ".dll"))) (has_no_zero (w ++ codes ".dll"))
      (lt-ltb 0 (length (w ++ codes ".dll")) (omega (arith, ltb-true 0 (length w) b.0, length-append w (codes ".dll"))))
      (no_zero-append w (codes ".dll") b.1 refl)

  own_module : is_name (module_name s) ≡ true
  own_module =
      last_holds longest reads s r (λ x. is_name x ≡ true) (IsSought (IsFaultlessAt s) (DECL_MODULE ∷ [])) (λ p. name_text s (leaf_at 1 p.below)) (assembly_name s ++ codes ".dll")
      (parts (DECL_MODULE ∷ []) s.tree) (with_dll (assembly_name s) own_name) (of_parts (IsFaultlessAt s) (DECL_MODULE ∷ []) s.tree all)
      (λ p h. right.named longest reads s r (leaf_at 1 p.below)
      (name_at s DECL_MODULE 1 p.below module_named (subst (λ q. FitsBody s q p.below) (only longest reads s r DECL_MODULE p.production h.0) h.1.range.fits)))

  plain : (f : Forest) → IsFaultlessAt s METHOD_REF f → AllFaultless s f → generic_arguments_token f ≡ [] → is_plain_ref (assembly s) (method_ref s nothing_around f) ≡ true
  plain f own each = right.plain_ref_formed longest reads s r nothing_around outside_few f own each

  abbrev declared : List ℕ
  declared =
      DECL_ASSEMBLY ∷ DECL_MODULE ∷ DECL_IMAGEBASE ∷ DECL_FILE ∷ DECL_STACKRESERVE ∷ DECL_SUBSYSTEM ∷ DECL_CORFLAGS ∷ DECL_CLASS
      ∷ DECL_FIELD ∷ DECL_METHOD ∷ DECL_CUSTOM ∷ DECL_DATA ∷ []

  pub manifest_formed : is_manifest (assembly s) (manifest s) ≡ true
  unfolding is_manifest
  manifest_formed =
      let A = assembly s in
      let m = manifest s in
      let p1 = and_from (is_name m.name) (has_no_zero m.culture) own_name (culture_clean longest reads s r (this_assembly s) this.1) in
      let p2 = and_from (is_name m.name && has_no_zero m.culture) (is_name m.«module») p1 own_module in
      let p3 = and_from (is_name m.name && has_no_zero m.culture && is_name m.«module») (is_image_base m.image_base) p2 (image_base_formed longest reads s r s.tree all) in
      let p4 = and_from (is_name m.name && has_no_zero m.culture && is_name m.«module» && is_image_base m.image_base) (is_file_alignment m.file_alignment) p3 (file_alignment_formed longest reads s r s.tree all) in
      let p5 = and_from (is_name m.name && has_no_zero m.culture && is_name m.«module» && is_image_base m.image_base && is_file_alignment m.file_alignment) (are_cor_flags m.cor_flags) p4
      (header_flags (number_said s DECL_CORFLAGS 1 1 s.tree) (cor_flags_said longest reads s r s.tree all)) in
      let p6 = and_from (is_name m.name && has_no_zero m.culture && is_name m.«module» && is_image_base m.image_base && is_file_alignment m.file_alignment && are_cor_flags m.cor_flags)
      (list_all (is_attribute A) m.attributes) p5
      (held.attributes_formed s nothing_around A plain (parts (ASSEMBLY_ITEM_CUSTOM ∷ []) (this_assembly s)) (customs_sought s ASSEMBLY_ITEM_CUSTOM refl (this_assembly s) this.1)) in
      and_from (is_name m.name && has_no_zero m.culture && is_name m.«module» && is_image_base m.image_base && is_file_alignment m.file_alignment && are_cor_flags m.cor_flags && list_all (is_attribute A) m.attributes)
      (list_all (is_attribute A) m.module_attributes) p6
      (held.own_attributes_formed s nothing_around A plain (declarations s.tree) (parts_held s declared s.tree all))
