-- Code, its forms, and the code of chosen forms.
use Rattle.std.proofs.Common.{◌≡◌, ◌∙◌, sym, ap, refl, ℕ, zero, suc, ◌+◌, ◌<◌, ◌⊎◌, inl, inr, ◌&&◌, Bool, List, [], ◌∷◌, ◌++◌, length, map, take, get_or, Some, IsTrue, arith}
use Rattle.std.specs.List.{slice_get, list_all}
use Rattle.branch_forms.specs.declared.form.Form.{Form}
use Rattle.branch_forms.specs.declared.form.Form.TheVariants.{Fixed, Short, Long}
use Rattle.branch_forms.specs.Forms.{width, has_bytes, shortened}
use Rattle.assembly_tree.specs.declared.body.Ins.{Ins}
use Rattle.assembly_tree.specs.WellFormedBodies.{size_of}
use Rattle.il_shrink.specs.Shrunk.{with_short}
use Rattle.il_shrink.specs.Forms.{form_of, first_form, in_form, chosen}
use Rattle.il_shrink.proofs.InsForms.{form_short, in_form_of, short_in_form, shortened_twice, width_at_most, size_at_most, first_has_bytes}
use Rattle.il_shrink.proofs.Moves.{AtMost}

pub forms_short : (code : List Ins) → map shortened (map form_of code) ≡ map first_form code
forms_short [] = refl
forms_short (i ∷ is) = ap (λ l. first_form i ∷ l) (forms_short is)

pub firsts_short : (code : List Ins) → map shortened (map first_form code) ≡ map first_form code
firsts_short [] = refl
firsts_short (i ∷ is) =
    ap (λ f. f ∷ map shortened (map first_form is)) (shortened_twice (form_of i)) ∙ ap (λ l. first_form i ∷ l) (firsts_short is)

firsts_by_short : (code : List Ins) → map first_form code ≡ map form_of (map with_short code)
firsts_by_short [] = refl
firsts_by_short (i ∷ is) = ap (λ f. f ∷ map first_form is) (form_short i) ∙ ap (λ l. form_of (with_short i) ∷ l) (firsts_by_short is)

-- choices for one code have the same forms when all branches are short
pub firsts_same : (code other : List Ins) → map with_short other ≡ map with_short code → map first_form other ≡ map first_form code
firsts_same code other e = firsts_by_short other ∙ ap (map form_of) e ∙ sym (firsts_by_short code)

both : (a b : Bool) → IsTrue a → IsTrue b → IsTrue (a && b)
both a b h j = grind arith

pub firsts_have_bytes : (code : List Ins) → IsTrue (list_all has_bytes (map first_form code))
firsts_have_bytes [] = refl
firsts_have_bytes (i ∷ is) = both (has_bytes (first_form i)) (list_all has_bytes (map first_form is)) (first_has_bytes i) (firsts_have_bytes is)

pub code_at_most : (code : List Ins) → AtMost size_of width code (map form_of code)
code_at_most [] = tt
code_at_most (i ∷ is) = (width_at_most i, code_at_most is)

-- ---- the code of forms

head_is : {X : Type 0} (x y : X) (xs ys : List X) → x ∷ xs ≡ y ∷ ys → x ≡ y
head_is x y xs ys e = cc

tail_is : {X : Type 0} (x y : X) (xs ys : List X) → x ∷ xs ≡ y ∷ ys → xs ≡ ys
tail_is x y xs ys e = cc

pub chosen_forms : (code : List Ins) (fs : List Form) → map shortened fs ≡ map first_form code → map form_of (chosen code fs) ≡ fs
chosen_forms [] [] e = refl
chosen_forms [] (f ∷ fs) e = absurd cc
chosen_forms (i ∷ is) [] e = absurd cc
chosen_forms (i ∷ is) (f ∷ fs) e =
    ap (λ g. g ∷ map form_of (chosen is fs)) (in_form_of f i (head_is _ _ _ _ e)) ∙ ap (λ l. f ∷ l) (chosen_forms is fs (tail_is _ _ _ _ e))

pub chosen_same : (code : List Ins) (fs : List Form) → map shortened fs ≡ map first_form code → map with_short (chosen code fs) ≡ map with_short code
chosen_same [] [] e = refl
chosen_same [] (f ∷ fs) e = refl
chosen_same (i ∷ is) [] e = absurd cc
chosen_same (i ∷ is) (f ∷ fs) e =
    ap (λ j. j ∷ map with_short (chosen is fs)) (short_in_form f i) ∙ ap (λ l. with_short i ∷ l) (chosen_same is fs (tail_is _ _ _ _ e))

pub chosen_at_most : (code : List Ins) (fs : List Form) → map shortened fs ≡ map first_form code → AtMost width size_of fs (chosen code fs)
chosen_at_most [] [] e = tt
chosen_at_most [] (f ∷ fs) e = absurd cc
chosen_at_most (i ∷ is) [] e = absurd cc
chosen_at_most (i ∷ is) (f ∷ fs) e = (size_at_most f i (head_is _ _ _ _ e), chosen_at_most is fs (tail_is _ _ _ _ e))

head_short : (f : Form) (i j : Ins) (fs : List Form) → Some (in_form f i) ≡ Some j → (with_short i ≡ j) ⊎ ((t : ℕ) × (Some f ≡ Some (Long t)))
head_short (Fixed n) i j fs h = inl cc
head_short (Short t) i j fs h = inl cc
head_short (Long t) i j fs h = inr (t, refl)

-- what stands at a place is the instruction with a short branch, where it isn't long
pub chosen_short : (code : List Ins) (fs : List Form) (k : ℕ) (j : Ins) → slice_get (chosen code fs) k ≡ Some j →
    ((i : Ins) × (slice_get code k ≡ Some i) × (with_short i ≡ j)) ⊎ ((t : ℕ) × (slice_get fs k ≡ Some (Long t)))
chosen_short [] fs k j h = absurd cc
chosen_short (i ∷ is) [] k j h = absurd cc
chosen_short (i ∷ is) (f ∷ fs) zero j h = elim (head_short f i j fs h) [ inl e ↦ inl (i, refl, e) | inr l ↦ inr l ]
chosen_short (i ∷ is) (f ∷ fs) (suc k) j h = chosen_short is fs k j h

-- the code of the first forms, with one more
chosen_more : (code : List Ins) (fs : List Form) (k : ℕ) (i : Ins) (d : Form) → k < length code → k < length fs → i ≡ get_or code k i →
    chosen (take (k + 1) code) (take (k + 1) fs) ≡ chosen (take k code) (take k fs) ++ in_form (get_or fs k d) i ∷ []
chosen_more [] fs k i d h g is = absurd (omega arith)
chosen_more (x ∷ code) [] k i d h g is = absurd (omega arith)
chosen_more (x ∷ code) (y ∷ fs) zero i d h g is = ap (λ z. in_form y z ∷ []) (sym is)
chosen_more (x ∷ code) (y ∷ fs) (suc k) i d h g is =
    let less : k < length code = omega arith in
    let less_f : k < length fs = omega arith in
    let e : suc k + 1 ≡ suc (k + 1) = omega arith in
    rw e (ap (λ l. in_form y x ∷ l) (chosen_more code fs k i d less less_f is))

pub chosen_next : (code : List Ins) (fs : List Form) (k : ℕ) (i j : Ins) (d : Form) (made next : List Ins) → k < length code → length code ≡ length fs →
    i ≡ get_or code k i → made ≡ chosen (take k code) (take k fs) → j ≡ in_form (get_or fs k d) i → next ≡ made ++ j ∷ [] →
    next ≡ chosen (take (k + 1) code) (take (k + 1) fs)
chosen_next code fs k i j d made next h lengths is so_far one e =
    let less : k < length fs = omega arith in
    e ∙ ap (λ l. l ++ j ∷ []) so_far ∙ ap (λ x. chosen (take k code) (take k fs) ++ x ∷ []) one ∙ sym (chosen_more code fs k i d h less is)
