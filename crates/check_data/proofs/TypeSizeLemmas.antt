-- The sizes of types, from what is found of their bases.
use Rattle.std.proofs.Common.{◌≡◌, ℕ, List, [], ◌∷◌, ◌++◌, ap, sym, subst, ◌∙◌, refl, arith}
use Rattle.std.specs.Prelude.{Bool, true, false, ◌==◌, ◌||◌, if◌then◌else◌, Option, None}
use Rattle.type_terms.proofs.Layers.{fold-Inst, fold-Prim, fold-Value}
use Rattle.type_terms.specs.declared.name.Scope.TheVariants.{Here, Extern}
use Rattle.type_terms.specs.declared.name.TypeName.{TypeName}
use Rattle.type_terms.specs.declared.term.Primitive.TheVariants as prim
use Rattle.type_terms.specs.declared.term.SigType.{SigType, Prim, Value}
use Rattle.assembly_tree.specs.DataSize.{no_size}
use Rattle.ilasm_grammar.specs.declared.productions.TheConstants.{TYPE}
use Rattle.ilasm_grammar.specs.declared.tree.TreeNode.{TreeNode}
use Rattle.ilasm_grammar.specs.declared.tree.TreeNode.TheVariants.{Branch}
use Rattle.source_model.specs.Data.{size_step}
use Rattle.source_model.specs.Forest as tree
use Rattle.source_model.specs.Forest.{Forest, Part, has, is_any_part, part, parts, preorder}
use Rattle.source_model.specs.Names.{class_at, type_name}
use Rattle.source_model.specs.Nodes.{Around}
use Rattle.source_model.specs.OutOfRange.{asked_size, asked_size_at, asked_value_size}
use Rattle.source_model.specs.Source.{Source}
use Rattle.source_model.specs.Types.{base_type, named_type, suffixed, type_of, types_in}
use Rattle.source_nodes.specs.Derived.{HasBodies}
use Rattle.source_nodes.specs.Walk.{Opens}
use Rattle.source_nodes.specs.declared.walk.Opened.{Opened}
use Rattle.source_syntax.proofs.TypeLemmas as type

-- ---- names

module _ (s : Source) (name : TypeName) where
  value_size : asked_size s (Value name) ≡ asked_value_size s name.scope name.path
  value_size = fold-Value (Option ℕ) (Option ℕ) no_size (size_step (asked_value_size s)) name

  pub value_here : name.scope ≡ Here → asked_size s (Value name) ≡ asked_size_at s (class_at s name.path)
  value_here e = value_size ∙ ap (λ x. asked_value_size s x name.path) e

  pub value_elsewhere : (k : ℕ) → name.scope ≡ Extern k → None ≡ asked_size s (Value name)
  value_elsewhere k e = sym (value_size ∙ ap (λ x. asked_value_size s x name.path) e)

-- ---- generic arguments

abbrev any_type : List SigType → Bool
any_type [] = false
any_type (t ∷ ts) = true

any_part_append : (ps qs : List Part) → is_any_part (ps ++ qs) ≡ (is_any_part ps || is_any_part qs)
any_part_append [] qs = refl
any_part_append (p ∷ ps) qs = refl

any_type_append : (ts us : List SigType) → any_type (ts ++ us) ≡ (any_type ts || any_type us)
any_type_append [] us = refl
any_type_append (t ∷ ts) us = refl

turned : (p : ℕ) → ((TYPE == p) || false) ≡ (p == TYPE)
turned p = grind arith

module _ (s : Source) (a : Around) where
  -- there are types in a forest where there is one of their productions
  has_types : (f : Forest) → has TYPE f ≡ any_type (types_in s a f)
  has_types tree.none = sym (ap any_type (type.types_none s a))
  has_types (tree.leaf k f) = has_types f ∙ sym (ap any_type (type.types_leaf s a k f))
  has_types (tree.branch p b f) =
      any_part_append (if (TYPE == p) || false then part p b ∷ [] else parts (TYPE ∷ []) b) (parts (TYPE ∷ []) f)
      ∙ ap (λ (c : Bool). is_any_part (if c then part p b ∷ [] else parts (TYPE ∷ []) b) || has TYPE f) (turned p)
      ∙ go (p == TYPE) (has_types b)
      ∙ ap (λ c. any_type (if p == TYPE then type_of s a b ∷ [] else types_in s a b) || c) (has_types f)
      ∙ sym (ap any_type (type.types_at s a p b f) ∙ any_type_append (if p == TYPE then type_of s a b ∷ [] else types_in s a b) (types_in s a f))
    where
      go : (c : Bool) → has TYPE b ≡ any_type (types_in s a b)
          → (is_any_part (if c then part p b ∷ [] else parts (TYPE ∷ []) b) || has TYPE f) ≡ (any_type (if c then type_of s a b ∷ [] else types_in s a b) || has TYPE f)
      go true e = refl
      go false e = ap (λ x. x || has TYPE f) e

  -- a value type with arguments has no size, one without them that of its class
  pub instance_size : (f : Forest) → has TYPE f ≡ true → None ≡ asked_size s (named_type true (type_name s f) (types_in s a f))
  instance_size f e = go (types_in s a f) (sym (has_types f) ∙ e)
    where
      go : (ts : List SigType) → any_type ts ≡ true → None ≡ asked_size s (named_type true (type_name s f) ts)
      go [] e = absurd cc
      go (t ∷ ts) e = sym (fold-Inst (Option ℕ) (Option ℕ) no_size (size_step (asked_value_size s)) true (type_name s f) (t ∷ ts))

  pub plain_value : (f : Forest) → has TYPE f ≡ false → named_type true (type_name s f) (types_in s a f) ≡ Value (type_name s f)
  plain_value f e = go (types_in s a f) (sym (has_types f) ∙ e)
    where
      go : (ts : List SigType) → any_type ts ≡ false → named_type true (type_name s f) ts ≡ Value (type_name s f)
      go [] e = refl
      go (t ∷ ts) e = absurd cc

  -- ---- types

  pub void_size : (t : SigType) → Prim prim.Void ≡ t → None ≡ asked_size s t
  void_size t e = sym (ap (asked_size s) (sym e) ∙ fold-Prim (Option ℕ) (Option ℕ) no_size (size_step (asked_value_size s)) prim.Void)

  -- a type that begins with a production: its base, and its suffixes behind that
  pub record Begun (f : Forest) (p : ℕ) (x : Opened) : Type 0 where
    pub base : Forest
    pub suffixes : Forest
    pub base-is : preorder base ≡ x.below.now
    pub suffixes-are : preorder suffixes ≡ x.after.now
    pub bodies : HasBodies s base
    pub type : type_of s a f ≡ suffixed s a suffixes (base_type s a p base (types_in s a base))

  pub begun : (f : Forest) (nodes : List TreeNode) (x : Opened) (p count : ℕ) → Opens nodes x → x.node ≡ Branch p count → preorder f ≡ nodes → HasBodies s f → Begun f p x
  begun f nodes x p count o is e h =
      let b = o.branch f p count e is in
      let both : HasBodies s (tree.branch p b.inner b.rest) = subst (HasBodies s) b.is h in
      record {
        base = b.inner;
        suffixes = b.rest;
        base-is = b.inner-is;
        suffixes-are = b.rest-is;
        bodies = both.1;
        type = ap (type_of s a) b.is ∙ type.type_branch s a p b.inner b.rest;
      }
