-- What is drawn of the assemblies that an assembly names.
use Rattle.std.proofs.Common.{◌≡◌, ℕ, zero, suc, ◌+◌, ◌<◌, Bool, true, false, List, [], ◌∷◌, ◌++◌, length, drop, get_or, map, Option, Some, refl, ap, sym, ◌∙◌, arith}
use Rattle.std.proofs.lemmas.Option.{same_Some}
use Rattle.std.specs.Prelude.{slice_get, option_map}
use Rattle.il_lexer.specs.declared.word.TheConstants as word
use Rattle.ilasm_grammar.specs.declared.productions.TheConstants as p
use Rattle.assembly_tree.specs.declared.assembly.ExternAssembly.{ExternAssembly}
use Rattle.listing_model.specs.Manifests.{key, culture, hash, version, all_below, assembly_flags, extern_items, extern_item, extern_lines}
use Rattle.listing_model.specs.Shown.{none, branch, Item, w, line, optional, when}
use Rattle.listing_model.specs.Types.{name, has_alias, alias}
use Rattle.print_leaves.specs.Page.{Page, drawn}
use Rattle.print_terms.specs.Rows.{under, in_row}
use Rattle.print_terms.proofs.Rows.{star_row, row_append}
use Rattle.print_members.proofs.Steps.{drop_at}
use Rattle.print_manifests.specs.Pieces.{alias_drawn}

-- a production above each item changes nothing
pub all_below_is : (production : ℕ) (q : Page) (is : List Item) → in_row q (all_below production is) ≡ in_row q is
all_below_is production q [] = refl
all_below_is production q (i ∷ is) = all_below_is production (under q i) is

pub extern_items_done : (q a b d new : Page) (x : ExternAssembly) (bytes text sum : List ℕ) → bytes ≡ x.key → text ≡ x.culture → sum ≡ x.hash →
    a ≡ in_row q (key x.flags bytes) → b ≡ in_row a (culture text) → d ≡ in_row b (hash sum) → new ≡ under d (version x.version) →
    new ≡ in_row q (extern_items x)
extern_items_done q a b d new x bytes text sum eb et es ha hb hd hn =
    let front = key x.flags x.key ++ culture x.culture in
    let back = hash x.hash ++ all_below p.EXTERN_ITEM_KEY (version x.version ∷ []) in
    let first : b ≡ in_row q front =
    hb ∙ (ap (λ t. in_row a (culture t)) et
    ∙ (ap (λ r. in_row r (culture x.culture)) (ha ∙ ap (λ bs. in_row q (key x.flags bs)) eb)
    ∙ sym (row_append q (key x.flags x.key) (culture x.culture)))) in
    hn
    ∙ (ap (λ r. under r (version x.version)) (hd ∙ (ap (λ bs. in_row b (hash bs)) es ∙ ap (λ r. in_row r (hash x.hash)) (first ∙ sym (all_below_is p.EXTERN_ITEM_KEY q front))))
    ∙ (sym (row_append (in_row q (all_below p.EXTERN_ITEM_KEY front)) (hash x.hash) (all_below p.EXTERN_ITEM_KEY (version x.version ∷ [])))
    ∙ sym (row_append q (all_below p.EXTERN_ITEM_KEY front) back)))

-- `as #k`
alias_by : (q : Page) (k : ℕ) (t : Bool) →
    alias_drawn q t k ≡ drawn q (optional p.ALIAS_OPT_SOME p.ALIAS_OPT_NONE (when t (branch p.ALIAS (w word.AS (name (alias k) none)) none)) none)
alias_by q k true = refl
alias_by q k false = refl

got : {X : Type 0} (xs : List X) (k : ℕ) (x : X) → k < length xs → x ≡ get_or xs k x → slice_get xs k ≡ Some x
got [] k x h e = absurd (omega arith)
got (y ∷ ys) zero x h e = ap Some (sym e)
got (y ∷ ys) (suc k) x h e = got ys k x (omega arith) e

module _ (externs : List ExternAssembly) where
  pub is_there : (keys : List ExternAssembly) (k : ℕ) (x : ExternAssembly) → keys ≡ externs → k < length externs → x ≡ get_or externs k x →
      slice_get keys k ≡ Some x
  is_there keys k x e h ex = ap (λ xs. slice_get xs k) e ∙ got externs k x h ex

  pub extern_done : (q a b d e f g h new : Page) (k : ℕ) (x : ExternAssembly) (aliased : Bool) (text : List ℕ) → slice_get externs k ≡ Some x →
      Some aliased ≡ option_map (has_alias externs) (slice_get externs k) → text ≡ x.name → a ≡ drawn q (line word.DOT_ASSEMBLY none) →
      b ≡ drawn a (w word.EXTERN none) → d ≡ drawn b (assembly_flags x.flags none) → e ≡ drawn d (name text none) → f ≡ alias_drawn e aliased k →
      g ≡ drawn f (line word.OPEN_BRACE none) → h ≡ in_row g (extern_items x) → new ≡ drawn h (line word.CLOSE_BRACE none) →
      new ≡ under q (extern_item externs k x)
  extern_done q a b d e f g h new k x aliased text at al et ha hb hd he hf hg hh hn =
      let is : aliased ≡ has_alias externs x = same_Some aliased (has_alias externs x) (al ∙ ap (option_map (has_alias externs)) at) in
      let front = drawn (drawn (drawn q (line word.DOT_ASSEMBLY none)) (w word.EXTERN none)) (assembly_flags x.flags none) in
      let named = drawn front (name x.name none) in
      let fd : d ≡ front =
      hd ∙ ap (λ r. drawn r (assembly_flags x.flags none)) (hb ∙ ap (λ r. drawn r (w word.EXTERN none)) ha) in
      let fe : e ≡ named = he ∙ (ap (λ t. drawn d (name t none)) et ∙ ap (λ r. drawn r (name x.name none)) fd) in
      let ff : f ≡ alias_drawn named (has_alias externs x) k = hf ∙ (ap (λ t. alias_drawn e t k) is ∙ ap (λ r. alias_drawn r (has_alias externs x) k) fe) in
      let keyed = drawn named (optional p.ALIAS_OPT_SOME p.ALIAS_OPT_NONE (when (has_alias externs x) (branch p.ALIAS (w word.AS (name (alias k) none)) none)) none) in
      let fg : g ≡ drawn keyed (line word.OPEN_BRACE none) =
      hg ∙ ap (λ r. drawn r (line word.OPEN_BRACE none)) (ff ∙ alias_by named k (has_alias externs x)) in
      hn
      ∙ ap (λ r. drawn r (line word.CLOSE_BRACE none))
      (hh ∙ (ap (λ r. in_row r (extern_items x)) fg
      ∙ sym (star_row p.EXTERN_ITEM_STAR_MORE p.EXTERN_ITEM_STAR_END (drawn keyed (line word.OPEN_BRACE none)) (extern_items x))))

  pub externs_step : (keys : List ExternAssembly) (q new goal : Page) (k : ℕ) (x : ExternAssembly) → keys ≡ externs → k < length externs →
      x ≡ get_or externs k x → new ≡ under q (extern_item keys k x) → in_row q (extern_lines externs k (drop k externs)) ≡ goal →
      in_row new (extern_lines externs (k + 1) (drop (k + 1) externs)) ≡ goal
  externs_step keys q new goal k x ek h e hn so =
      ap (λ r. in_row r (extern_lines externs (k + 1) (drop (k + 1) externs))) (hn ∙ ap (λ ks. under q (extern_item ks k x)) ek)
      ∙ (ap (λ n. in_row (under q (extern_item externs k x)) (extern_lines externs n (drop (k + 1) externs))) {x = k + 1} {y = suc k} (omega arith)
      ∙ (sym (ap (λ xs. in_row q (extern_lines externs k xs)) (drop_at externs k x h e)) ∙ so))
