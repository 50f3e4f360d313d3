-- What is drawn of a reference, by its owner.
use Rattle.std.proofs.Common.{◌≡◌, ℕ, min, nat_lt, length, Bool, true, false, cond, not, List, [], ◌∷◌, ◌++◌, map, fold, take, drop, Option, None, Some, refl, ap, sym, ◌∙◌}
use Rattle.std.proofs.lemmas.List.Folds.{fold-map}
use Rattle.il_lexer.specs.declared.types.TokenKind.TheVariants as kind
use Rattle.il_lexer.specs.declared.word.TheConstants as word
use Rattle.listing_leaves.specs.Numbers.{natural}
use Rattle.ilasm_grammar.specs.declared.productions.TheConstants as p
use Rattle.type_terms.specs.declared.name.Scope as scope
use Rattle.type_terms.specs.declared.name.TypeId.{TypeId}
use Rattle.type_terms.specs.declared.reference.FieldRef.{FieldRef}
use Rattle.type_terms.specs.declared.reference.MethodRef.{MethodRef}
use Rattle.type_terms.specs.declared.reference.MethodSig.{MethodSig}
use Rattle.type_terms.specs.declared.term.Owner.{Owner, out-Owner}
use Rattle.type_terms.specs.declared.term.Owner.TheVariants as owner
use Rattle.type_terms.specs.declared.term.SigType.{SigType}
use Rattle.type_terms.specs.declared.term.Owner.TheOpen.{Owner-F, Name, Spec}
use Rattle.assembly_tree.specs.WellFormedNames.{is_module}
use Rattle.assembly_tree.specs.declared.assembly.ExternAssembly.{ExternAssembly}
use Rattle.listing_model.specs.References.{convention, method_ref, field_ref, sig_args, argument, arguments, ellipsis, with_sentinel, method_generics, in_angles, generic_count, generics_and_arguments, target_end, target_path, target_here, target_in, target_of, field_end, field_path, field_here, field_in, field_target}
use Rattle.listing_model.specs.Shown.{Shown, none, Item, item, put, token, w, opt_below, when}
use Rattle.listing_model.specs.Types.{name, type_id, path_below, type_below, type_of}
use Rattle.print_leaves.specs.Page.{Page, drawn}
use Rattle.print_terms.specs.Owners.{is_written, is_written_in, is_owned, colons, behind_path, behind_name, behind_owner, member_drawn, count_drawn, reference_of}
use Rattle.print_terms.specs.Rows.{under, in_row, behind, before_comma, between}
use Rattle.print_terms.proofs.Lists.{take_map, drop_map, take_within, drop_within}
use Rattle.print_terms.proofs.Rows.{commas_between, between_alike}

module _ (externs : List ExternAssembly) where
  -- ---- arguments

  pub sig_args_drawn : (q : Page) (is : List Item) → drawn q (opt_below (sig_args is)) ≡ between q is
  sig_args_drawn q [] = refl
  sig_args_drawn q (i ∷ is) = commas_between p.COMMA_SIG_ARG_STAR_MORE p.COMMA_SIG_ARG_STAR_END p.COMMA_SIG_ARG q (i ∷ is) none

  count_by : (q : Page) (n : ℕ) (t : Bool) →
      cond t (drawn q (w word.LESS (w word.OPEN_BRACKET (token kind.Int (natural n) (w word.CLOSE_BRACKET (w word.GREATER none)))))) q
      ≡ drawn q (opt_below (when t (in_angles externs (generic_count externs n))))
  count_by q n true = refl
  count_by q n false = refl

  -- the number of generic parameters, where they aren't given, and their types
  pub count_is : (q : Page) (n : ℕ) → count_drawn q n ≡ drawn q (opt_below (method_generics externs n None))
  count_is q n = count_by q n (nat_lt 0 n)

  pub generics_are : (q : Page) (n : ℕ) (ts : List SigType) →
      drawn (between (drawn q (w word.LESS none)) (map (type_of externs) ts)) (w word.GREATER none)
      ≡ drawn q (opt_below (method_generics externs n (Some ts)))
  generics_are q n ts =
      ap (λ r. drawn r (w word.GREATER none))
      (sym (commas_between p.COMMA_TYPE_STAR_MORE p.COMMA_TYPE_STAR_END p.COMMA_TYPE (drawn q (w word.LESS none)) (map (type_of externs) ts) none))

  -- an argument is drawn as its type
  pub arguments_are_types : (q : Page) (ts : List SigType) → between q (map (argument externs) ts) ≡ between q (map (type_of externs) ts)
  arguments_are_types q ts = between_alike (argument externs) (type_of externs) (λ q t. refl) q ts

  -- ---- references to methods

  abbrev ends : Page → MethodRef → Page
  ends q r = drawn q (generics_and_arguments externs r none)

  one_drawn : (q : Page) (id : TypeId) (r : MethodRef) (t : Bool) →
      under q (cond t (item p.TARGET_NAME (name r.name (target_path externs [] r))) (item p.TARGET_NAME (type_id id (target_path externs (id ∷ []) r))))
      ≡ ends (member_drawn (cond t q (colons (drawn q (path_below (id ∷ []))))) (not t) r.name) r
  one_drawn q id r true = refl
  one_drawn q id r false = refl

  here_drawn : (q : Page) (ids : List TypeId) (r : MethodRef) →
      under q (target_here externs ids r) ≡ ends (member_drawn (behind_path q ids) (is_written ids) r.name) r
  here_drawn q [] r = refl
  here_drawn q (id ∷ []) r = one_drawn q id r (is_module id)
  here_drawn q (id ∷ next ∷ more) r = refl

  in_drawn : (q : Page) (s : scope.Scope) (ids : List TypeId) (r : MethodRef) →
      under q (target_in externs s ids r) ≡ ends (member_drawn (behind_name externs q s ids) (is_written_in s ids) r.name) r
  in_drawn q scope.TheVariants.Here ids r = here_drawn q ids r
  in_drawn q (scope.TheVariants.Extern k) ids r = refl

  pub target_drawn : (q : Page) (o : Owner-F Owner SigType) (r : MethodRef) →
      under q (target_of externs o r)
      ≡ drawn (drawn (member_drawn (behind_owner externs q o) (is_owned o) r.name) (opt_below (method_generics externs r.sig.generic r.args))) (arguments externs r.sig none)
  target_drawn q (Name t) r = in_drawn q t.scope t.path r
  target_drawn q (Spec t) r = refl

  -- where the owner is a type of this assembly
  pub own_target : (q : Page) (ids : List TypeId) (r : MethodRef) →
      under q (target_of externs (out-Owner (owner.Name (record { scope = scope.TheVariants.Here; path = ids }))) r)
      ≡ drawn (drawn (member_drawn (behind_path q ids) (is_written ids) r.name) (opt_below (method_generics externs r.sig.generic r.args))) (arguments externs r.sig none)
  own_target q ids r =
      ap (λ o. under q (target_of externs o r)) (owner.outs-Name (record { scope = scope.TheVariants.Here; path = ids }))
      ∙ here_drawn q ids r

  pub method_done : (q a b d e f new : Page) (owned : Bool) (r : MethodRef) (text : List ℕ) (given : Option (List SigType)) → a ≡ drawn q (convention r.sig none) →
      b ≡ drawn a (type_below externs r.sig.ret) → d ≡ behind_owner externs b (out-Owner r.owner) → owned ≡ is_owned (out-Owner r.owner) → text ≡ r.name →
      given ≡ r.args → e ≡ member_drawn d owned text → f ≡ drawn e (opt_below (method_generics externs r.sig.generic given)) →
      new ≡ drawn f (arguments externs r.sig none) → new ≡ under q (method_ref externs r)
  unfolding method_ref
  method_done q a b d e f new owned r text given ha hb hd ho ht hg he hf hn =
      let o = out-Owner r.owner in
      let front = drawn (drawn q (convention r.sig none)) (type_below externs r.sig.ret) in
      hn
      ∙ (ap (λ x. drawn x (arguments externs r.sig none))
      (hf ∙ (ap (λ g. drawn e (opt_below (method_generics externs r.sig.generic g))) hg
      ∙ ap (λ x. drawn x (opt_below (method_generics externs r.sig.generic r.args)))
      (he ∙ (ap (λ g. member_drawn d g text) ho ∙ (ap (λ g. member_drawn d (is_owned o) g) ht
      ∙ ap (λ x. member_drawn x (is_owned o) r.name)
      (hd ∙ ap (λ x. behind_owner externs x o) (hb ∙ ap (λ x. drawn x (type_below externs r.sig.ret)) ha)))))))
      ∙ sym (target_drawn front o r))

  pub own_done : (q a b d e f new : Page) (owned : Bool) (ids : List TypeId) (text : List ℕ) (sig : MethodSig) → a ≡ drawn q (convention sig none) →
      b ≡ drawn a (type_below externs sig.ret) → d ≡ behind_path b ids → owned ≡ is_written ids → e ≡ member_drawn d owned text →
      f ≡ drawn e (opt_below (method_generics externs sig.generic None)) → new ≡ drawn f (arguments externs sig none) →
      new ≡ under q (method_ref externs (reference_of ids text sig))
  unfolding method_ref
  own_done q a b d e f new owned ids text sig ha hb hd ho he hf hn =
      let front = drawn (drawn q (convention sig none)) (type_below externs sig.ret) in
      hn
      ∙ (ap (λ x. drawn x (arguments externs sig none))
      (hf ∙ ap (λ x. drawn x (opt_below (method_generics externs sig.generic None)))
      (he ∙ (ap (λ g. member_drawn d g text) ho
      ∙ ap (λ x. member_drawn x (is_written ids) text) (hd ∙ ap (λ x. behind_path x ids) (hb ∙ ap (λ x. drawn x (type_below externs sig.ret)) ha)))))
      ∙ sym (own_target front ids (reference_of ids text sig)))

  pub arguments_done : (q a b new : Page) (s : MethodSig) → a ≡ drawn q (w word.OPEN_PAREN none) →
      b ≡ between a (with_sentinel s.sentinel (map (argument externs) s.params)) → new ≡ drawn b (w word.CLOSE_PAREN none) → new ≡ drawn q (arguments externs s none)
  arguments_done q a b new s ha hb hn =
      let is = with_sentinel s.sentinel (map (argument externs) s.params) in
      hn
      ∙ ap (λ x. drawn x (w word.CLOSE_PAREN none))
      (hb ∙ (ap (λ x. between x is) ha ∙ sym (sig_args_drawn (drawn q (w word.OPEN_PAREN none)) is)))

  pub generics_done : (q a b new : Page) (n : ℕ) (ts list : List SigType) (given : Option (List SigType)) → given ≡ Some ts → list ≡ ts → a ≡ drawn q (w word.LESS none) →
      b ≡ between a (map (type_of externs) list) → new ≡ drawn b (w word.GREATER none) → new ≡ drawn q (opt_below (method_generics externs n given))
  generics_done q a b new n ts list given hg hl ha hb hn =
      hn
      ∙ (ap (λ x. drawn x (w word.GREATER none))
      (hb ∙ (ap (λ x. between x (map (type_of externs) list)) ha ∙ ap (λ x. between (drawn q (w word.LESS none)) (map (type_of externs) x)) hl))
      ∙ (generics_are q n ts ∙ ap (λ g. drawn q (opt_below (method_generics externs n g))) (sym hg)))

  pub count_done : (q new : Page) (n : ℕ) (given : Option (List SigType)) → given ≡ None → new ≡ count_drawn q n → new ≡ drawn q (opt_below (method_generics externs n given))
  count_done q new n given hg hn = hn ∙ (count_is q n ∙ ap (λ g. drawn q (opt_below (method_generics externs n g))) (sym hg))

  -- ---- references to fields

  one_field : (q : Page) (id : TypeId) (r : FieldRef) (t : Bool) →
      under q (cond t (item p.FIELD_TARGET_NAME (name r.name (field_path externs [] r))) (item p.FIELD_TARGET_NAME (type_id id (field_path externs (id ∷ []) r))))
      ≡ drawn (cond t q (colons (drawn q (path_below (id ∷ []))))) (name r.name none)
  one_field q id r true = refl
  one_field q id r false = refl

  here_field : (q : Page) (ids : List TypeId) (r : FieldRef) → under q (field_here externs ids r) ≡ drawn (behind_path q ids) (name r.name none)
  here_field q [] r = refl
  here_field q (id ∷ []) r = one_field q id r (is_module id)
  here_field q (id ∷ next ∷ more) r = refl

  in_field : (q : Page) (s : scope.Scope) (ids : List TypeId) (r : FieldRef) →
      under q (field_in externs s ids r) ≡ drawn (behind_name externs q s ids) (name r.name none)
  in_field q scope.TheVariants.Here ids r = here_field q ids r
  in_field q (scope.TheVariants.Extern k) ids r = refl

  pub field_drawn : (q : Page) (o : Owner-F Owner SigType) (r : FieldRef) →
      under q (field_target externs o r) ≡ drawn (behind_owner externs q o) (name r.name none)
  field_drawn q (Name t) r = in_field q t.scope t.path r
  field_drawn q (Spec t) r = refl

  pub field_done : (q a b new : Page) (r : FieldRef) (text : List ℕ) → a ≡ drawn q (type_below externs r.of) → b ≡ behind_owner externs a (out-Owner r.owner) →
      text ≡ r.name → new ≡ drawn b (name text none) → new ≡ under q (field_ref externs r)
  unfolding field_ref
  field_done q a b new r text ha hb ht hn =
      hn
      ∙ (ap (λ g. drawn b (name g none)) ht
      ∙ (ap (λ x. drawn x (name r.name none)) (hb ∙ ap (λ x. behind_owner externs x (out-Owner r.owner)) ha)
      ∙ sym (field_drawn (drawn q (type_below externs r.of)) (out-Owner r.owner) r)))

-- ---- arguments with a sentinel

-- behind a first one, the others up to this one each have a comma behind them
later_fixed : (q : Page) (xs : List Item) (y : Item) (ys : List Item) →
    fold behind q (xs ++ y ∷ ys) ≡ fold behind (under (fold before_comma (drawn q (w word.COMMA none)) xs) y) ys
later_fixed q [] y ys = refl
later_fixed q (x ∷ xs) y ys = later_fixed (behind q x) xs y ys

pub with_fixed : (q : Page) (xs : List Item) (y : Item) (ys : List Item) → between q (xs ++ y ∷ ys) ≡ fold behind (under (fold before_comma q xs) y) ys
with_fixed q [] y ys = refl
with_fixed q (x ∷ xs) y ys = later_fixed (under q x) xs y ys

-- ---- with `...` before the argument at this place

module _ (externs : List ExternAssembly) where
  abbrev args : List SigType → List Item
  args ts = map (argument externs) ts

  fixed_alike : (q : Page) (ts : List SigType) → fold before_comma q (args ts) ≡ fold (λ q t. before_comma q (type_of externs t)) q ts
  fixed_alike q ts = fold-map before_comma (argument externs) q ts

  behind_alike : (q : Page) (ts : List SigType) → fold behind q (args ts) ≡ fold (λ q t. behind q (type_of externs t)) q ts
  behind_alike q ts = fold-map behind (argument externs) q ts

  pub sentinel_drawn : (q : Page) (k n : ℕ) (ts : List SigType) → n ≡ min k (length ts) →
      between q (with_sentinel (Some k) (args ts))
      ≡ fold (λ q t. behind q (type_of externs t)) (drawn (fold (λ q t. before_comma q (type_of externs t)) q (take n ts)) (w word.ELLIPSIS none)) (drop n ts)
  sentinel_drawn q k n ts e =
      ap (λ xs. between q (xs ++ ellipsis ∷ drop k (args ts))) (take_map (argument externs) k ts)
      ∙ (ap (λ ys. between q (args (take k ts) ++ ellipsis ∷ ys)) (drop_map (argument externs) k ts)
      ∙ (with_fixed q (args (take k ts)) ellipsis (args (drop k ts))
      ∙ (ap (λ r. fold behind (under r ellipsis) (args (drop k ts))) (fixed_alike q (take k ts))
      ∙ (behind_alike (drawn (fold (λ q t. before_comma q (type_of externs t)) q (take k ts)) (w word.ELLIPSIS none)) (drop k ts)
      ∙ (ap (λ xs. fold (λ q t. behind q (type_of externs t)) (drawn (fold (λ q t. before_comma q (type_of externs t)) q xs) (w word.ELLIPSIS none)) (drop k ts)) (sym (take_within k n ts e))
      ∙ ap (λ xs. fold (λ q t. behind q (type_of externs t)) (drawn (fold (λ q t. before_comma q (type_of externs t)) q (take n ts)) (w word.ELLIPSIS none)) xs) (sym (drop_within k n ts e)))))))

  pub sentinel_done : (q a b new : Page) (k n : ℕ) (ts fixed more : List SigType) → n ≡ min k (length ts) → fixed ≡ take n ts → more ≡ drop n ts →
      a ≡ fold (λ q t. before_comma q (type_of externs t)) q fixed → b ≡ drawn a (w word.ELLIPSIS none) →
      new ≡ fold (λ q t. behind q (type_of externs t)) b more → new ≡ between q (with_sentinel (Some k) (args ts))
  sentinel_done q a b new k n ts fixed more e hf hm ha hb hn =
      hn
      ∙ (ap (λ r. fold (λ q t. behind q (type_of externs t)) r more)
      (hb ∙ ap (λ r. drawn r (w word.ELLIPSIS none)) (ha ∙ ap (λ xs. fold (λ q t. before_comma q (type_of externs t)) q xs) hf))
      ∙ (ap (λ xs. fold (λ q t. behind q (type_of externs t)) (drawn (fold (λ q t. before_comma q (type_of externs t)) q (take n ts)) (w word.ELLIPSIS none)) xs) hm
      ∙ sym (sentinel_drawn q k n ts e)))
