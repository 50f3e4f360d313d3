-- What lines are made of.
use Rattle.std.proofs.Common.{◌≡◌, ℕ, false, ◌+◌, ◌<◌, List, [], ◌∷◌, ◌++◌, Option, None, Some, length, take, get_or, sym, ap, ◌∙◌}
use Rattle.std.specs.Prelude.{codes, option_map}
use Rattle.std.specs.Fmt.{decimal, digits}
use Rattle.std.specs.List.{flat_map}
use Rattle.std.specs.Option.{option_map_or}
use Rattle.std.proofs.lemmas.Grind.{flat_map-append}
use Rattle.std.proofs.lemmas.List.{append_assoc, append-nil, take_more}
use Rattle.type_terms.specs.declared.reference.MethodRef.{MethodRef}
use Rattle.assembly_tree.specs.declared.assembly.Assembly.{Assembly}
use Rattle.body_verifier.specs.Texts.{rule_text_of}
use Rattle.body_verifier.specs.declared.report.Failure.{Failure}
use Rattle.listing_leaves.specs.Numbers.{at_least}
use Rattle.listing_model.specs.Canon.{reference_line}
use Rattle.print_leaves.specs.Page.{Page, added, blank}
use Rattle.run_reports.specs.Texts.{failure_text, method_text}

-- two texts are added one after the other
pub joined : (p q r : Page) (x y : List ℕ) → q ≡ added p x → r ≡ added q y → r ≡ added p (x ++ y)
joined p q r x y first second =
    second ∙ ap (λ (s : Page). added s y) first ∙ ap (λ (t : List ℕ). record { text = t; state = p.state }) (append_assoc p.text x y)

module _ (f : Failure → List ℕ) (xs : List Failure) (k : ℕ) where
  more_lines : (x : Failure) → k < length xs → x ≡ get_or xs k x → flat_map f (take (k + 1) xs) ≡ flat_map f (take k xs) ++ f x
  more_lines x low is =
      ap (flat_map f) (take_more xs k x low) ∙ flat_map-append f (take k xs) (get_or xs k x ∷ [])
      ∙ ap (λ (l : List ℕ). flat_map f (take k xs) ++ l) (append-nil (f (get_or xs k x)) ∙ ap f (sym is))

  -- a line more
  pub next_line : (p q : Page) (x : Failure) → k < length xs → x ≡ get_or xs k x → p ≡ added blank (flat_map f (take k xs)) → q ≡ added p (f x)
      → q ≡ added blank (flat_map f (take (k + 1) xs))
  next_line p q x low is before now = joined blank p q (flat_map f (take k xs)) (f x) before now ∙ ap (added blank) (sym (more_lines x low is))

-- the reference of a method that is there
pub method_said : (a : Assembly) (o : Option MethodRef) (text : List ℕ) → option_map (reference_line a) o ≡ Some text → text ≡ option_map_or (reference_line a) o []
method_said a None text is = absurd cc
method_said a (Some r) text is = let same : reference_line a r ≡ text = cc in sym same

-- five texts, and eight
pub five_added : (o p q r s t : Page) (u v w x y : List ℕ) → p ≡ added o u → q ≡ added p v → r ≡ added q w → s ≡ added r x → t ≡ added s y
    → t ≡ added o (u ++ (v ++ (w ++ (x ++ y))))
five_added o p q r s t u v w x y a b c d e =
    joined o p t u (v ++ (w ++ (x ++ y))) a (joined p q t v (w ++ (x ++ y)) b (joined q r t w (x ++ y) c (joined r s t x y d e)))

pub eight_added : (o p q r s t p2 q2 r2 : Page) (u v w x y x2 y2 z2 : List ℕ) → p ≡ added o u → q ≡ added p v → r ≡ added q w → s ≡ added r x → t ≡ added s y
    → p2 ≡ added t x2 → q2 ≡ added p2 y2 → r2 ≡ added q2 z2 → r2 ≡ added o (u ++ (v ++ (w ++ (x ++ (y ++ (x2 ++ (y2 ++ z2)))))))
eight_added o p q r s t p2 q2 r2 u v w x y x2 y2 z2 a b c d e f g h =
    joined o p r2 u (v ++ (w ++ (x ++ (y ++ (x2 ++ (y2 ++ z2)))))) a
    (joined p q r2 v (w ++ (x ++ (y ++ (x2 ++ (y2 ++ z2))))) b
    (joined q r r2 w (x ++ (y ++ (x2 ++ (y2 ++ z2)))) c (five_added r s t p2 q2 r2 x y x2 y2 z2 d e f g h)))

-- the line of a failure by its parts
abbrev line_of : (method : List ℕ) (offset rule : ℕ) (text : List ℕ) → List ℕ
line_of method offset rule text =
    method ++ (codes " [0x" ++ (at_least 4 (digits 16 false offset) ++ (codes "] V" ++ (decimal rule ++ (codes ": " ++ (text ++ codes "\n"))))))

pub line_is : (a : Assembly) (f : Failure) (method : List ℕ) (offset rule : ℕ) (text : List ℕ) → method ≡ method_text a f.method → offset ≡ f.offset → rule ≡ f.rule
    → text ≡ rule_text_of f.rule
    → method ++ (codes " [0x" ++ (at_least 4 (digits 16 false offset) ++ (codes "] V" ++ (decimal rule ++ (codes ": " ++ (text ++ codes "\n")))))) ≡ failure_text a f
line_is a f method offset rule text m o r t =
    ap (λ x. line_of x offset rule text) m ∙ ap (λ x. line_of (method_text a f.method) x rule text) o ∙ ap (λ x. line_of (method_text a f.method) f.offset x text) r
    ∙ ap (line_of (method_text a f.method) f.offset f.rule) t
