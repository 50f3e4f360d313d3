-- Members of a type that pass no test, and those that attributes belong to.
use Rattle.std.proofs.Common.{◌≡◌, ℕ, ◌+◌, ◌-◌, Bool, true, false, List, [], ◌∷◌, ◌++◌, length, Option, None, Some, refl, ap, ◌∙◌}
use Rattle.std.specs.List.{list_all}
use Rattle.ilasm_grammar.specs.Ilasm.{ilasm, rule_by}
use Rattle.ilasm_grammar.specs.declared.nonterminals.TheConstants as n
use Rattle.ilasm_grammar.specs.declared.productions.TheConstants as p
use Rattle.ilasm_grammar.specs.declared.symbol.Symbol.TheVariants.{Nonterminal}
use Rattle.il_lexer.specs.declared.types.TokenKind.TheVariants as kind
use Rattle.il_lexer.specs.declared.word.TheConstants as word
use Rattle.type_terms.specs.declared.name.TypeId.{TypeId}
use Rattle.assembly_tree.specs.declared.assembly.ExternAssembly.{ExternAssembly}
use Rattle.assembly_tree.specs.declared.members.Attribute.{Attribute}
use Rattle.assembly_tree.specs.declared.members.Event.{Event}
use Rattle.assembly_tree.specs.declared.members.Method.{Method}
use Rattle.assembly_tree.specs.declared.members.Property.{Property}
use Rattle.assembly_tree.specs.declared.typedef.Layout.{Layout}
use Rattle.source_model.specs.Forest as f
use Rattle.source_model.specs.Items.{is_custom, customs_outside}
use Rattle.source_model.specs.Shapes.{natural}
use Rattle.source_model.specs.Values.{integer}
use Rattle.listing_groups.specs.Laws.{IsFieldHead, method_items, property_items, event_items}
use Rattle.listing_members.specs.Laws.{IsTyparHead}
use Rattle.listing_leaves.specs.Numbers.{natural as digits}
use Rattle.listing_model.specs.Classes.{ClassShown, layout_lines, typar_member, classes_from}
use Rattle.listing_model.specs.Grown.{body_of}
use Rattle.listing_model.specs.Shown.{Shown, none, put, line, token, size}
use Rattle.listing_model.specs.Values.{custom, customs}
use Rattle.listing_reading.specs.Numbered.{numbered}
use Rattle.listing_reading.specs.Rows.{parts_at, IsEndOfRun}
use Rattle.listing_rows.specs.Laws.{RunsAreFiltered, NonePass, AllOwned}
use Rattle.listing_values.specs.Laws.{NumbersAreRead}

-- ---- tests of parts

abbrev pub Fails : (f.Part → Bool) → ℕ → Type 0
Fails test q = (g : f.Forest) → test (f.part q g) ≡ false

pub none_both : (test : f.Part → Bool) (ps qs : List f.Part) → NonePass test ps → NonePass test qs → NonePass test (ps ++ qs)
none_both test [] qs h k = k
none_both test (q ∷ ps) qs h k = (h.0, none_both test ps qs h.1 k)

pub none_end : (ps : List f.Part) → NonePass is_custom ps → IsEndOfRun ps
none_end [] h = tt
none_end (q ∷ ps) h = h.0

pub nothing_owned : (b : Bool) → customs_outside b [] ≡ []
nothing_owned b = refl

pub none_owned : RunsAreFiltered → (ps : List f.Part) → NonePass is_custom ps → AllOwned ps
none_owned filtered [] h = nothing_owned
none_owned filtered (q ∷ ps) h = filtered.plain q ps h.0 (none_owned filtered ps h.1)

pub field_head : IsFieldHead p.MEMBER_FIELD p.MEMBER_CUSTOM
field_head = record { is_field = λ g. refl; plain = λ g. refl; begins = λ g. refl; custom = λ g. refl; no_field = λ g. refl }

pub typar_head : NumbersAreRead → IsTyparHead typar_member p.MEMBER_CUSTOM
typar_head numbers_read = record {
  is_line = λ k at. refl;
  plain = λ k at. refl;
  begins = λ k at. refl;
  custom = λ g. refl;
  no_line = λ g. refl;
  number = λ s names k at small ag. ap (λ z. natural z - 1) (ap (λ t. integer t) ag.1.1.0.1.0.text ∙ numbers_read.natural k small);
}

pub method_body : body_of p.MEMBER_METHOD ≡ Nonterminal n.METHOD ∷ []
unfolding ilasm rule_by
method_body = refl

-- ---- segments that don't pass

abbrev pub pack_shown : Layout → Shown
pack_shown l = line word.DOT_PACK (token kind.Int (digits l.pack) none)

abbrev pub size_shown : Layout → Shown
size_shown l = line word.DOT_SIZE (token kind.Int (digits l.size) none)

module _ (test : f.Part → Bool) where
  pub none_lines : Fails test p.MEMBER_PACK → Fails test p.MEMBER_SIZE → (l : Option Layout) (at : ℕ) → NonePass test (parts_at at (layout_lines l))
  none_lines h k None at = tt
  none_lines h k (Some l) at = (h (numbered at (pack_shown l)), (k (numbered (at + size (pack_shown l)) (size_shown l)), tt))

  pub none_customs : Fails test p.MEMBER_CUSTOM → (externs : List ExternAssembly) (xs : List Attribute) (at : ℕ) → NonePass test (parts_at at (customs externs p.MEMBER_CUSTOM xs))
  none_customs h externs [] at = tt
  none_customs h externs (x ∷ xs) at = (h (numbered at (put (custom externs x) none)), none_customs h externs xs (at + size (put (custom externs x) none)))

  pub none_methods : Fails test p.MEMBER_METHOD → (externs : List ExternAssembly) (ms : List Method) (at : ℕ) → NonePass test (parts_at at (method_items externs p.MEMBER_METHOD ms))
  none_methods h externs [] at = tt
  none_methods h externs (m ∷ ms) at = (h _, none_methods h externs ms _)

  pub none_properties : Fails test p.MEMBER_PROPERTY → (externs : List ExternAssembly) (path : List TypeId) (ms : List Method) (xs : List Property) (at : ℕ) →
      NonePass test (parts_at at (property_items externs path ms xs))
  none_properties h externs path ms [] at = tt
  none_properties h externs path ms (x ∷ xs) at = (h _, none_properties h externs path ms xs _)

  pub none_events : Fails test p.MEMBER_EVENT → (externs : List ExternAssembly) (path : List TypeId) (ms : List Method) (xs : List Event) (at : ℕ) →
      NonePass test (parts_at at (event_items externs path ms xs))
  none_events h externs path ms [] at = tt
  none_events h externs path ms (x ∷ xs) at = (h _, none_events h externs path ms xs _)

  pub none_classes : Fails test p.MEMBER_CLASS → (path : List TypeId) (cs : List ClassShown) (k at : ℕ) → NonePass test (parts_at at (classes_from p.MEMBER_CLASS path k cs))
  none_classes h path [] k at = tt
  none_classes h path (c ∷ cs) k at = (h _, none_classes h path cs (k + length c.contents) _)

pub customs_all : (externs : List ExternAssembly) (xs : List Attribute) (at : ℕ) → list_all is_custom (parts_at at (customs externs p.MEMBER_CUSTOM xs)) ≡ true
customs_all externs [] at = refl
customs_all externs (x ∷ xs) at = customs_all externs xs (at + size (put (custom externs x) none))

pub lines_pass : (l : Option Layout) (at : ℕ) (after : List f.Part) → customs_outside false (parts_at at (layout_lines l) ++ after) ≡ customs_outside false after
lines_pass None at after = refl
lines_pass (Some l) at after = refl
