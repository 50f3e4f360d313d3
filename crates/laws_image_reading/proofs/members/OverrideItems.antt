-- The rows of MethodImpl: which methods they are of, and what these override.
use Rattle.std.proofs.Common.{◌≡◌, refl, sym, subst, ℕ, suc, ◌+◌, List, [], ◌∷◌, Option, Some, None, Contains, true≢false, arith}
use Rattle.std.specs.Prelude.{IsTrue, is_none, slice_get}
use Rattle.std.specs.List.{AllByRecursion}
use Rattle.std.proofs.lemmas.Bool.{and_parts}
use Rattle.assembly_tree.specs.WellFormedMembers.{is_method}
use Rattle.assembly_tree.specs.WellFormedTerms.{is_plain_ref, is_method_ref}
use Rattle.assembly_tree.specs.Weight.{method_weight}
use Rattle.assembly_tree.specs.declared.assembly.Assembly.{Assembly}
use Rattle.assembly_tree.specs.declared.members.Method.{Method}
use Rattle.assembly_tree.proofs.FormedFacts.{methods_named}
use Rattle.type_terms.specs.declared.reference.MethodRef.{MethodRef}
use Rattle.image_tokens.specs.declared.row_set.Cells.{Cells}
use Rattle.image_rows.specs.OverrideRows.{Override, overrides, overrides_from}
use Rattle.image_model.specs.Rows.{HasRow, methods_of}
use Rattle.laws_writable_trees.proofs.Each.{each_from, each_joined, each_mapped, each_true}
use Rattle.laws_writable_trees.proofs.Members.{IsFine}

-- what holds of each method that another one overrides, with the rows of the other one and its type, holds of each item
pub overrides_each : (P : Override → Type 0) (row : ℕ) (declared : List Cells) (ms : List Method)
    → ((k : ℕ) (cells : Cells) (m : Method) → slice_get declared k ≡ Some cells → slice_get ms k ≡ Some m
    → AllByRecursion (λ (of : MethodRef). P (record { type = cells.first; body = row + k; of = of })) m.overrides)
    → AllByRecursion P (overrides_from row declared ms)
overrides_each P row declared [] f = tt
overrides_each P row [] (m ∷ ms) f = tt
overrides_each P row (cells ∷ declared) (m ∷ ms) f =
    let here : row + 0 ≡ row = omega arith in
    let own : AllByRecursion (λ (of : MethodRef). P (record { type = cells.first; body = row; of = of })) m.overrides =
    subst (λ (n : ℕ). AllByRecursion (λ (of : MethodRef). P (record { type = cells.first; body = n; of = of })) m.overrides) here (f 0 cells m refl refl) in
    each_joined P (overrides cells.first row m.overrides) (overrides_from (row + 1) declared ms)
    (each_mapped P (λ (of : MethodRef). record { type = cells.first; body = row; of = of }) m.overrides own)
    (overrides_each P (row + 1) declared ms (λ k c n at is.
    let there : row + suc k ≡ row + 1 + k = omega arith in
    subst (λ (j : ℕ). AllByRecursion (λ (of : MethodRef). P (record { type = c.first; body = j; of = of })) n.overrides) there (f (suc k) c n at is)))

no_arguments : (m : MethodRef) → IsTrue (is_none m.args) → m.args ≡ None
no_arguments m h = by_args m.args h
  where
    by_args : {X : Type 0} (o : Option X) → IsTrue (is_none o) → o ≡ None
    by_args None e = refl
    by_args (Some x) e = absurd (true≢false (sym e))

-- a method of a type, and one without arguments that it overrides
pub record IsOverriding (image : List ℕ) (o : Override) : Type 0 where
  pub there : HasRow image 0x06 o.body
  pub within : Contains (methods_of image o.type) o.body
  pub plain : o.of.args ≡ None

-- those of a method
pub plain_overrides : (a : Assembly) (m : Method) → IsFine (is_method a) method_weight m → AllByRecursion (λ (of : MethodRef). of.args ≡ None) m.overrides
unfolding is_plain_ref
plain_overrides a m h =
    each_from (λ (of : MethodRef). IsTrue (is_plain_ref a of)) (λ (of : MethodRef). of.args ≡ None) (λ of t. no_arguments of (and_parts (is_none of.args) (is_method_ref a of) t).0) m.overrides
    (each_true (is_plain_ref a) m.overrides ((methods_named a m).0 h.formed).overrides)
