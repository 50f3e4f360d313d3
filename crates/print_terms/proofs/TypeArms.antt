-- What is written of a type, step by step, for each kind of type.
use Rattle.std.proofs.Common.{◌≡◌, ℕ, ℤ, Bool, true, false, List, map, Option, None, Some, refl, ap, sym, ◌∙◌}
use Rattle.il_lexer.specs.declared.word.TheConstants as word
use Rattle.ilasm_grammar.specs.declared.productions.TheConstants as p
use Rattle.type_terms.specs.declared.name.TypeName.{TypeName}
use Rattle.type_terms.specs.declared.term.Primitive as prim
use Rattle.type_terms.specs.declared.term.Owner.{Owner}
use Rattle.type_terms.specs.declared.term.SigType.{SigType}
use Rattle.type_terms.specs.declared.term.Owner.TheVariants as o
use Rattle.type_terms.specs.declared.term.SigType.TheVariants as t
use Rattle.assembly_tree.specs.declared.assembly.ExternAssembly.{ExternAssembly}
use Rattle.listing_model.specs.Shown.{none, w}
use Rattle.listing_model.specs.Types.{brackets, named, primitive, variable, dimensions, shape, owner, type_below, type_of, type_name}
use Rattle.print_leaves.specs.Page.{Page, drawn}
use Rattle.print_terms.specs.Primitives.{mod_word}
use Rattle.print_terms.specs.Rows.{under, between}
use Rattle.print_terms.proofs.TypeLayers.{name_drawn, spec_drawn, prim_drawn, class_drawn, value_drawn, inst_drawn, var_drawn, mvar_drawn, vector_drawn, array_drawn, by_ref_drawn, pointer_drawn, pinned_drawn, mod_drawn}

module _ (externs : List ExternAssembly) (q new : Page) where
  -- the page with a type, and with an owner
  abbrev typed : SigType → Page
  typed x = drawn q (type_below externs x)

  abbrev owned : Owner → Page
  owned x = under q (owner externs x)

  pub name_arm : (whole : Owner) (n : TypeName) → whole ≡ o.Name n → new ≡ under q (type_name externs n) → new ≡ owned whole
  name_arm whole n is e = e ∙ (sym (name_drawn externs q n) ∙ ap owned (sym is))

  pub spec_arm : (whole : Owner) (x : SigType) → whole ≡ o.Spec x → new ≡ typed x → new ≡ owned whole
  spec_arm whole x is e = e ∙ (sym (spec_drawn externs q x) ∙ ap owned (sym is))

  pub prim_arm : (whole : SigType) (x : prim.Primitive) → whole ≡ t.Prim x → new ≡ under q (primitive x) → new ≡ typed whole
  prim_arm whole x is e = e ∙ (sym (prim_drawn externs q x) ∙ ap typed (sym is))

  pub class_arm : (whole : SigType) (n : TypeName) → whole ≡ t.Class n → new ≡ under q (named externs false n None) → new ≡ typed whole
  class_arm whole n is e = e ∙ (sym (class_drawn externs q n) ∙ ap typed (sym is))

  pub value_arm : (whole : SigType) (n : TypeName) → whole ≡ t.Value n → new ≡ under q (named externs true n None) → new ≡ typed whole
  value_arm whole n is e = e ∙ (sym (value_drawn externs q n) ∙ ap typed (sym is))

  pub var_arm : (whole : SigType) (k : ℕ) → whole ≡ t.Var k → new ≡ under q (variable p.TYPE_BASE_BANG word.BANG k) → new ≡ typed whole
  var_arm whole k is e = e ∙ (sym (var_drawn externs q k) ∙ ap typed (sym is))

  pub mvar_arm : (whole : SigType) (k : ℕ) → whole ≡ t.MVar k → new ≡ under q (variable p.TYPE_BASE_DOUBLE_BANG word.DOUBLE_BANG k) → new ≡ typed whole
  mvar_arm whole k is e = e ∙ (sym (mvar_drawn externs q k) ∙ ap typed (sym is))

  pub inst_arm : (whole : SigType) (v : Bool) (n n' : TypeName) (args args' list : List SigType) (a b c : Page) → whole ≡ t.Inst v n args → n' ≡ n →
      args' ≡ args → list ≡ args' → a ≡ under q (named externs v n' None) → b ≡ drawn a (w word.LESS none) → c ≡ between b (map (type_of externs) list) →
      new ≡ drawn c (w word.GREATER none) → new ≡ typed whole
  inst_arm whole v n n' args args' list a b c is en ea el ha hb hc hn =
      hn
      ∙ (ap (λ x. drawn x (w word.GREATER none))
      (hc ∙ (ap (λ x. between x (map (type_of externs) list)) (hb ∙ ap (λ x. drawn x (w word.LESS none)) (ha ∙ ap (λ x. under q (named externs v x None)) en))
      ∙ ap (λ x. between (drawn (under q (named externs v n None)) (w word.LESS none)) (map (type_of externs) x)) (el ∙ ea)))
      ∙ (sym (inst_drawn externs q v n args) ∙ ap typed (sym is)))

  pub vector_arm : (whole x x' : SigType) (a b : Page) → whole ≡ t.SzArray x → x' ≡ x → a ≡ typed x' → b ≡ drawn a (w word.OPEN_BRACKET none) →
      new ≡ drawn b (w word.CLOSE_BRACKET none) → new ≡ typed whole
  vector_arm whole x x' a b is ex ha hb hn =
      hn
      ∙ (ap (λ r. drawn r (w word.CLOSE_BRACKET none)) (hb ∙ ap (λ r. drawn r (w word.OPEN_BRACKET none)) (ha ∙ ap typed ex))
      ∙ (sym (vector_drawn externs q x) ∙ ap typed (sym is)))

  pub array_arm : (whole x x' : SigType) (r : ℕ) (s s' s'' : List ℕ) (l l' l'' : List ℤ) (a : Page) → whole ≡ t.Array x r s l → x' ≡ x → s' ≡ s → s'' ≡ s' →
      l' ≡ l → l'' ≡ l' → a ≡ typed x' → new ≡ under a (brackets (shape (dimensions r s'' l''))) → new ≡ typed whole
  array_arm whole x x' r s s' s'' l l' l'' a is ex es es' el el' ha hn =
      hn
      ∙ (ap (λ g. under g (brackets (shape (dimensions r s'' l'')))) (ha ∙ ap typed ex)
      ∙ (ap (λ g. under (typed x) (brackets (shape (dimensions r g l'')))) (es' ∙ es)
      ∙ (ap (λ g. under (typed x) (brackets (shape (dimensions r s g)))) (el' ∙ el) ∙ (sym (array_drawn externs q x r s l) ∙ ap typed (sym is)))))

  pub by_ref_arm : (whole x x' : SigType) (a : Page) → whole ≡ t.ByRef x → x' ≡ x → a ≡ typed x' → new ≡ drawn a (w word.AMPERSAND none) → new ≡ typed whole
  by_ref_arm whole x x' a is ex ha hn =
      hn ∙ (ap (λ r. drawn r (w word.AMPERSAND none)) (ha ∙ ap typed ex) ∙ (sym (by_ref_drawn externs q x) ∙ ap typed (sym is)))

  pub pointer_arm : (whole x x' : SigType) (a : Page) → whole ≡ t.Pointer x → x' ≡ x → a ≡ typed x' → new ≡ drawn a (w word.STAR none) → new ≡ typed whole
  pointer_arm whole x x' a is ex ha hn =
      hn ∙ (ap (λ r. drawn r (w word.STAR none)) (ha ∙ ap typed ex) ∙ (sym (pointer_drawn externs q x) ∙ ap typed (sym is)))

  pub pinned_arm : (whole x x' : SigType) (a : Page) → whole ≡ t.Pinned x → x' ≡ x → a ≡ typed x' → new ≡ drawn a (w word.PINNED none) → new ≡ typed whole
  pinned_arm whole x x' a is ex ha hn =
      hn ∙ (ap (λ r. drawn r (w word.PINNED none)) (ha ∙ ap typed ex) ∙ (sym (pinned_drawn externs q x) ∙ ap typed (sym is)))

  pub mod_arm : (whole x x' : SigType) (by by' : Owner) (required : Bool) (k : ℕ) (a b c d : Page) → whole ≡ t.Mod required by x → x' ≡ x → k ≡ mod_word required →
      by' ≡ by → a ≡ typed x' → b ≡ drawn a (w k none) → c ≡ drawn b (w word.OPEN_PAREN none) → d ≡ under c (owner externs by') →
      new ≡ drawn d (w word.CLOSE_PAREN none) → new ≡ typed whole
  mod_arm whole x x' by by' required k a b c d is ex ek eb ha hb hc hd hn =
      hn
      ∙ (ap (λ r. drawn r (w word.CLOSE_PAREN none))
      (hd ∙ (ap (λ g. under c (owner externs g)) eb
      ∙ ap (λ r. under r (owner externs by))
      (hc ∙ ap (λ r. drawn r (w word.OPEN_PAREN none))
      (hb ∙ (ap (λ g. drawn a (w g none)) ek ∙ ap (λ r. drawn r (w (mod_word required) none)) (ha ∙ ap typed ex))))))
      ∙ (sym (mod_drawn externs q required by x) ∙ ap typed (sym is)))
