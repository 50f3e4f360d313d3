-- Declarations of a listing that pass no test, and those that attributes belong to.
use Rattle.std.proofs.Common.{◌≡◌, ℕ, suc, ◌+◌, Bool, true, false, cond, List, [], ◌∷◌, ◌++◌, length, filter, refl, ap, ◌∙◌}
use Rattle.std.specs.List.{list_all}
use Rattle.ilasm_grammar.specs.declared.productions.TheConstants as p
use Rattle.type_terms.specs.declared.name.TypeId.{TypeId}
use Rattle.assembly_tree.specs.declared.assembly.ExternAssembly.{ExternAssembly}
use Rattle.assembly_tree.specs.declared.members.Attribute.{Attribute}
use Rattle.assembly_tree.specs.declared.members.Method.{Method}
use Rattle.source_model.specs.Forest as f
use Rattle.source_model.specs.Items.{is_custom, customs_outside}
use Rattle.listing_groups.specs.Laws.{IsFieldHead, method_items}
use Rattle.listing_model.specs.Canon.{data_lines}
use Rattle.listing_model.specs.Classes.{ClassShown, classes_from}
use Rattle.listing_model.specs.Manifests.{extern_lines, extern_item}
use Rattle.listing_model.specs.Shown.{none, put, size}
use Rattle.listing_model.specs.Values.{custom, customs}
use Rattle.listing_reading.specs.Rows.{parts_at, IsEndOfRun}
use Rattle.listing_rows.specs.Laws.{RunsAreFiltered, NonePass, AllOwned}

abbrev pub Fails : (f.Part → Bool) → ℕ → Type 0
Fails test q = (g : f.Forest) → test (f.part q g) ≡ false

-- ---- lists of parts

module _ (test : f.Part → Bool) where
  pub filter_past : (xs ys : List f.Part) → NonePass test xs → filter test (xs ++ ys) ≡ filter test ys
  filter_past [] ys h = refl
  filter_past (x ∷ xs) ys h = ap (λ c. cond c (x ∷ filter test (xs ++ ys)) (filter test (xs ++ ys))) h.0 ∙ filter_past xs ys h.1

  filter_none : (xs : List f.Part) → NonePass test xs → filter test xs ≡ []
  filter_none [] h = refl
  filter_none (x ∷ xs) h = ap (λ c. cond c (x ∷ filter test xs) (filter test xs)) h.0 ∙ filter_none xs h.1

  pub filter_front : (xs ys : List f.Part) → NonePass test ys → filter test (xs ++ ys) ≡ filter test xs
  filter_front [] ys h = filter_none ys h
  filter_front (x ∷ xs) ys h = ap (λ ps. cond (test x) (x ∷ ps) ps) (filter_front xs ys h)

  pub none_both : (ps qs : List f.Part) → NonePass test ps → NonePass test qs → NonePass test (ps ++ qs)
  none_both [] qs h k = k
  none_both (q ∷ ps) qs h k = (h.0, none_both ps qs h.1 k)

pub none_end : (ps : List f.Part) → NonePass is_custom ps → IsEndOfRun ps
none_end [] h = tt
none_end (q ∷ ps) h = h.0

nothing_owned : (b : Bool) → customs_outside b [] ≡ []
nothing_owned b = refl

-- what holds no attribute leaves it to what stands behind
pub front_owned : RunsAreFiltered → (ps after : List f.Part) → NonePass is_custom ps → AllOwned after → AllOwned (ps ++ after)
front_owned filtered [] after h rest = rest
front_owned filtered (q ∷ ps) after h rest = filtered.plain q (ps ++ after) h.0 (front_owned filtered ps after h.1 rest)

pub none_owned : RunsAreFiltered → (ps : List f.Part) → NonePass is_custom ps → AllOwned ps
none_owned filtered [] h = nothing_owned
none_owned filtered (q ∷ ps) h = filtered.plain q ps h.0 (none_owned filtered ps h.1)

pub field_head : IsFieldHead p.DECL_FIELD p.DECL_CUSTOM
field_head = record { is_field = λ g. refl; plain = λ g. refl; begins = λ g. refl; custom = λ g. refl; no_field = λ g. refl }

-- ---- declarations

module _ (test : f.Part → Bool) where
  pub none_externs : Fails test p.DECL_ASSEMBLY → (externs : List ExternAssembly) (k : ℕ) (es : List ExternAssembly) (at : ℕ) → NonePass test (parts_at at (extern_lines externs k es))
  none_externs h externs k [] at = tt
  none_externs h externs k (e ∷ es) at = (h _, none_externs h externs (suc k) es _)

  pub none_customs : Fails test p.DECL_CUSTOM → (externs : List ExternAssembly) (xs : List Attribute) (at : ℕ) → NonePass test (parts_at at (customs externs p.DECL_CUSTOM xs))
  none_customs h externs [] at = tt
  none_customs h externs (x ∷ xs) at = (h _, none_customs h externs xs _)

  pub none_types : Fails test p.DECL_CLASS → (outer : List TypeId) (k : ℕ) (cs : List ClassShown) (at : ℕ) → NonePass test (parts_at at (classes_from p.DECL_CLASS outer k cs))
  none_types h outer k [] at = tt
  none_types h outer k (c ∷ cs) at = (h _, none_types h outer (k + length c.contents) cs _)

  pub none_methods : Fails test p.DECL_METHOD → (externs : List ExternAssembly) (ms : List Method) (at : ℕ) → NonePass test (parts_at at (method_items externs p.DECL_METHOD ms))
  none_methods h externs [] at = tt
  none_methods h externs (m ∷ ms) at = (h _, none_methods h externs ms _)

  pub none_data : Fails test p.DECL_DATA → (k : ℕ) (all : List (List ℕ)) (at : ℕ) → NonePass test (parts_at at (data_lines k all))
  none_data h k [] at = tt
  none_data h k (bytes ∷ more) at = (h _, none_data h (suc k) more _)

pub customs_all : (externs : List ExternAssembly) (xs : List Attribute) (at : ℕ) → list_all is_custom (parts_at at (customs externs p.DECL_CUSTOM xs)) ≡ true
customs_all externs [] at = refl
customs_all externs (x ∷ xs) at = customs_all externs xs (at + size (put (custom externs x) none))

pub externs_pass : (externs : List ExternAssembly) (k : ℕ) (es : List ExternAssembly) (at : ℕ) (after : List f.Part) →
    customs_outside false (parts_at at (extern_lines externs k es) ++ after) ≡ customs_outside false after
externs_pass externs k [] at after = refl
externs_pass externs k (e ∷ es) at after = externs_pass externs (suc k) es (at + size (extern_item externs k e).below) after
