-- Code whose instructions are given their forms one after the other.
use Rattle.std.proofs.Common.{◌≡◌, ◌∙◌, sym, ap, refl, ℕ, zero, suc, ◌+◌, ◌<◌, ◌≤◌, List, [], ◌∷◌, length, get_or, Some, arith}
use Rattle.std.specs.List.{slice_get, slice_set}
use Rattle.branch_forms.specs.declared.form.Form.{Form}
use Rattle.assembly_tree.specs.declared.body.Ins.{Ins}
use Rattle.il_shrink.specs.Forms.{op_in, in_form, chosen}

-- the first `k` have their forms
abbrev pub chosen_to : ℕ → List Ins → List Form → List Ins
chosen_to zero code fs = code
chosen_to (suc k) [] fs = []
chosen_to (suc k) (i ∷ is) [] = i ∷ is
chosen_to (suc k) (i ∷ is) (f ∷ fs) = in_form f i ∷ chosen_to k is fs

pub here_is : (code : List Ins) (fs : List Form) (k : ℕ) → slice_get (chosen_to k code fs) k ≡ slice_get code k
here_is code fs zero = refl
here_is [] fs (suc k) = refl
here_is (i ∷ is) [] (suc k) = refl
here_is (i ∷ is) (f ∷ fs) (suc k) = here_is is fs k

pub to_length : (code : List Ins) (fs : List Form) (k : ℕ) → length (chosen_to k code fs) ≡ length code
to_length code fs zero = refl
to_length [] fs (suc k) = refl
to_length (i ∷ is) [] (suc k) = refl
to_length (i ∷ is) (f ∷ fs) (suc k) = ap suc (to_length is fs k)

pub set_next : (code : List Ins) (fs : List Form) (k : ℕ) (i : Ins) (d : Form) → slice_get code k ≡ Some i → k < length fs →
    chosen_to (suc k) code fs ≡ slice_set (chosen_to k code fs) k (in_form (get_or fs k d) i)
set_next [] fs k i d h less = absurd cc
set_next (x ∷ code) [] k i d h less = absurd (omega arith)
set_next (x ∷ code) (f ∷ fs) zero i d h less = let e : x ≡ i = cc in ap (λ y. in_form f y ∷ code) e
set_next (x ∷ code) (f ∷ fs) (suc k) i d h less =
    let below : k < length fs = omega arith in
    ap (λ l. in_form f x ∷ l) (set_next code fs k i d h below)

same_form : (f : Form) (i : Ins) → op_in f i.op ≡ i.op → in_form f i ≡ i
same_form f i e = ap (λ o. record i { op = o }) e

pub kept_next : (code : List Ins) (fs : List Form) (k : ℕ) (i : Ins) (d : Form) → slice_get code k ≡ Some i → k < length fs →
    op_in (get_or fs k d) i.op ≡ i.op → chosen_to (suc k) code fs ≡ chosen_to k code fs
kept_next [] fs k i d h less e = absurd cc
kept_next (x ∷ code) [] k i d h less e = absurd (omega arith)
kept_next (x ∷ code) (f ∷ fs) zero i d h less e =
    let is : x ≡ i = cc in
    let op : op_in f x.op ≡ x.op = ap (λ y. op_in f y.op) is ∙ e ∙ ap (λ y. y.op) (sym is) in
    ap (λ y. y ∷ code) (same_form f x op)
kept_next (x ∷ code) (f ∷ fs) (suc k) i d h less e =
    let below : k < length fs = omega arith in
    ap (λ l. in_form f x ∷ l) (kept_next code fs k i d h below e)

pub all_chosen : (k : ℕ) (code : List Ins) (fs : List Form) → length code ≡ length fs → length fs ≤ k → chosen_to k code fs ≡ chosen code fs
all_chosen zero [] [] e h = refl
all_chosen zero [] (f ∷ fs) e h = absurd (omega arith)
all_chosen zero (i ∷ is) [] e h = absurd (omega arith)
all_chosen zero (i ∷ is) (f ∷ fs) e h = absurd (omega arith)
all_chosen (suc k) [] [] e h = refl
all_chosen (suc k) [] (f ∷ fs) e h = absurd (omega arith)
all_chosen (suc k) (i ∷ is) [] e h = absurd (omega arith)
all_chosen (suc k) (i ∷ is) (f ∷ fs) e h =
    let same : length is ≡ length fs = omega arith in
    let low : length fs ≤ k = omega arith in
    ap (λ l. in_form f i ∷ l) (all_chosen k is fs same low)

pub low_at : (code : List Ins) (fs : List Form) (now : List Ins) (k : ℕ) → length code ≡ length fs → now ≡ chosen_to k code fs → k < length fs → k < length now
low_at code fs now k e is low =
    let same : length now ≡ length code = ap length is ∙ to_length code fs k in
    omega arith

pub here_at : (code : List Ins) (fs : List Form) (now : List Ins) (k : ℕ) (i : Ins) → now ≡ chosen_to k code fs → slice_get now k ≡ Some i → slice_get code k ≡ Some i
here_at code fs now k i is at = sym (here_is code fs k) ∙ ap (λ l. slice_get l k) (sym is) ∙ at

-- one more instruction is set, or is kept
pub next_set : (code : List Ins) (fs : List Form) (now next : List Ins) (k : ℕ) (i j : Ins) (d : Form) → now ≡ chosen_to k code fs → k < length fs →
    slice_get now k ≡ Some i → j ≡ in_form (get_or fs k d) i → next ≡ slice_set now k j → next ≡ chosen_to (k + 1) code fs
next_set code fs now next k i j d is low at form set =
    let more : k + 1 ≡ suc k = omega arith in
    set ∙ (λ n. slice_set (is n) k (form n)) ∙ sym (set_next code fs k i d (here_at code fs now k i is at) low) ∙ ap (λ n. chosen_to n code fs) (sym more)

pub next_kept : (code : List Ins) (fs : List Form) (now next : List Ins) (k : ℕ) (i : Ins) (d : Form) → now ≡ chosen_to k code fs → k < length fs →
    slice_get now k ≡ Some i → op_in (get_or fs k d) i.op ≡ i.op → next ≡ now → next ≡ chosen_to (k + 1) code fs
next_kept code fs now next k i d is low at op same =
    let more : k + 1 ≡ suc k = omega arith in
    same ∙ is ∙ sym (kept_next code fs k i d (here_at code fs now k i is at) low op) ∙ ap (λ n. chosen_to n code fs) (sym more)

pub all_done : (code : List Ins) (fs : List Form) (now : List Ins) (k : ℕ) → length code ≡ length fs → now ≡ chosen_to k code fs → length fs ≤ k → now ≡ chosen code fs
all_done code fs now k e is end = is ∙ all_chosen k code fs e end
