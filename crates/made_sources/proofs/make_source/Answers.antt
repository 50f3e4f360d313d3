use Rattle.std.proofs.Common.{◌≡◌, ◌+◌, ◌++◌, ℕ, List, [], ap, ◌∙◌, append_assoc, add-one, sym}
use Rattle.std.proofs.lemmas.List.{append-nil}
use Rattle.made_sources.specs.Made.{heading, class_line, class_lines}
use Rattle.made_sources.proofs.make_source.Goals as goal

none_yet : (source start bytes : List ℕ) → source ≡ start ++ bytes → start ≡ [] → bytes ≡ heading → source ≡ heading ++ class_lines 0
unfolding class_lines
none_yet source start bytes next empty is = next ∙ ap (λ s. s ++ bytes) empty ∙ is ∙ sym (append-nil heading)

one_more : (source line more : List ℕ) (class : ℕ) → source ≡ heading ++ class_lines class → line ≡ class_line class → more ≡ source ++ line
    → more ≡ heading ++ class_lines (class + 1)
unfolding class_lines
one_more source line more class so_far is next =
    next ∙ ap (λ s. s ++ line) so_far ∙ append_assoc heading (class_lines class) line ∙ ap (λ l. heading ++ (class_lines class ++ l)) is
    ∙ ap (λ n. heading ++ class_lines n) (sym (add-one class))

pub loop-class-init : goal.loop-class-init
loop-class-init c = none_yet _ _ _ c.in_ok-extend.ensures.ok c.in_ok-source.ensures c.as_bytes.ensures.value

pub loop-class-preserved : goal.loop-class-preserved
loop-class-preserved c =
    one_more _ _ _ c.loop-class.class c.loop-class.invariant (c.as_bytes-in-loop-class.ensures.value ∙ c.in_ok-line.ensures) c.in_ok-extend-2.ensures.ok
