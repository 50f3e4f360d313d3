-- A stack over the values that another one has too.
use Rattle.std.proofs.Common.{◌≡◌, ◌∙◌, ap, sym, subst, ℕ, ◌-◌, ◌<◌, ◌≤◌, arith, List, length, get_or, take, drop, ◌++◌}
use Rattle.std.proofs.lemmas.List.{length-take, get_or-take, map-append, take-append-drop, take_all}
use Rattle.std.proofs.lemmas.List.Elements.{All-append, All-take, All-drop}
use Rattle.sig_pool.specs.declared.node.Node.{Node}
use Rattle.type_hierarchy.specs.declared.stack_type.StackType.{StackType}
use Rattle.type_hierarchy.specs.declared.stack_type.StackType.TheVariants.{Bad}
use Rattle.type_hierarchy.specs.Meaning.{meant, IsWithin}
use Rattle.type_hierarchy.specs.Stack.{Stack}
use Rattle.stack_rows.specs.RowMeanings.{stack_meant, IsStackWithin, MeansStack}
use Rattle.stack_states.proofs.StackLemmas.{same_maps}

-- the first values mean the same
pub same_fronts : (ns : List Node) (s t : List StackType) (k : ℕ) → length s ≡ length t → k ≤ length s
    → ((i : ℕ) → i < k → meant ns (get_or s i Bad) ≡ meant ns (get_or t i Bad)) → stack_meant ns (take k s) ≡ stack_meant ns (take k t)
same_fronts ns s t k e low h =
    let ls : length (take k s) ≡ k = omega (arith, length-take k s) in
    let lt : length (take k t) ≡ k = omega (arith, length-take k t) in
    same_maps (meant ns) (take k s) (take k t) Bad (ls ∙ sym lt) (λ i below.
    let i_k : i < k = omega (arith, ls) in
    ap (meant ns) (get_or-take k s i Bad i_k) ∙ h i i_k ∙ ap (meant ns) (sym (get_or-take k t i Bad i_k)))

-- a stack that has the first `k` values of one, and then those of another
pub means_over : (ns : List Node) (known values under over : List StackType) (k n : ℕ) → length known ≡ length values → k ≤ length known → n ≡ length values
    → stack_meant ns (take k known) ≡ stack_meant ns (take k values) → IsStackWithin (length ns) known → IsStackWithin (length ns) values
    → under ≡ take (length known - (n - k)) known → over ≡ under ++ drop k values → MeansStack ns over (stack_meant ns values)
means_over ns known values under over k n e low long same in_known in_values u o =
    let m : length known - (n - k) ≡ k = omega arith in
    let is : over ≡ take k known ++ drop k values = o ∙ ap (λ (xs : List StackType). xs ++ drop k values) u ∙ (λ i. take (m i) known ++ drop k values) in
    record {
      within = subst (IsStackWithin (length ns)) (sym is) (All-append (IsWithin (length ns)) (take k known) (drop k values) (All-take (IsWithin (length ns)) k known in_known) (All-drop (IsWithin (length ns)) k values in_values));
      is = ap (stack_meant ns) is ∙ map-append (meant ns) (take k known) (drop k values)
          ∙ ap (λ (xs : List Stack). xs ++ stack_meant ns (drop k values)) same
          ∙ sym (map-append (meant ns) (take k values) (drop k values)) ∙ ap (stack_meant ns) (take-append-drop k values);
    }

-- all the values mean the same where the first values do and they are all
pub same_all : (ns : List Node) (s t : List StackType) (k : ℕ) → length s ≡ length t → k ≡ length s → stack_meant ns (take k s) ≡ stack_meant ns (take k t) → stack_meant ns s ≡ stack_meant ns t
same_all ns s t k e is same =
    ap (stack_meant ns) (sym (take_all k s (omega arith))) ∙ same ∙ ap (stack_meant ns) (take_all k t (omega arith))
