-- The bytes of the productions of which a rule speaks.
use Rattle.std.proofs.Common.{◌≡◌, ℕ, ◌+◌, ◌<◌, ◌≤◌, refl, ap, sym, ◌∙◌, arith}
use Rattle.std.specs.Prelude.{true, false, ◌||◌}
use Rattle.source_model.specs.Forest.{is_among}
use Rattle.check_visitor.proofs.ByteTables.{are_told, byte_at, far_from, told}
use Rattle.check_names.specs.Asked.{barred, constants, flags, generic, is_asked, laid_out, named, of_manifest, shaped}
use Rattle.check_names.specs.declared.asked.TheConstants.{ASKED}

checked : are_told is_asked ASKED 0 ≡ true
checked = refl

pub bytes_are : (p : ℕ) → p < 704 → byte_at ASKED p ≡ is_asked p
bytes_are p less = let at : 0 + p ≡ p = omega arith in told is_asked ASKED 0 p checked less ∙ ap is_asked at

pub none_past : (p : ℕ) → 704 ≤ p → false ≡ is_asked p
none_past p far =
    let a = far_from p far in
    let n = a named refl in
    let g = a generic refl in
    let m = a of_manifest refl in
    let f = a flags refl in
    let c = a constants refl in
    let l = a laid_out refl in
    let b = a barred refl in
    let s = a shaped refl in
    sym (ap (λ x. x || is_among generic p || is_among of_manifest p || is_among flags p || is_among constants p || is_among laid_out p || is_among barred p || is_among shaped p) n
    ∙ ap (λ x. x || is_among of_manifest p || is_among flags p || is_among constants p || is_among laid_out p || is_among barred p || is_among shaped p) g
    ∙ ap (λ x. x || is_among flags p || is_among constants p || is_among laid_out p || is_among barred p || is_among shaped p) m
    ∙ ap (λ x. x || is_among constants p || is_among laid_out p || is_among barred p || is_among shaped p) f
    ∙ ap (λ x. x || is_among laid_out p || is_among barred p || is_among shaped p) c
    ∙ ap (λ x. x || is_among barred p || is_among shaped p) l
    ∙ ap (λ x. x || is_among shaped p) b
    ∙ s)
