use Rattle.std.proofs.Common.{◌≡◌, ◌≢◌, ◌++◌, ◌≤◌, Bool, List, ℕ, [], Result, Ok, Err, OnErr, IsTrue, take, subst, ap, sym, ◌∙◌, arith}
use Rattle.il_base.specs.Outside.{Rose}
use Rattle.run_endings.specs.Ends.{IsBrokenOff, in_out, in_err}
use Rattle.run_endings.proofs.performing.speak.Goals as goal

on_err : {T E P : Type 0} (r : Result T E) → P → OnErr r P
on_err (Ok x) p = tt
on_err (Err e) p = p

-- standard output broke off
out_broke : (tells : Bool) (out out1 err err1 text what more : List ℕ) (failed failed1 : ℕ) → text ≡ what → text ≢ [] → Rose failed failed1
    → (IsTrue tells → (count : ℕ) × (out1 ≡ out ++ take count text)) → (IsTrue tells → err1 ≡ err)
    → IsBrokenOff what more (record { tells = tells; out = out; out_now = out1; err = err; err_now = err1; failed = failed; failed_now = failed1 })
out_broke tells out out1 err err1 text what more failed failed1 is some rose front same =
    in_out (subst (λ (w : List ℕ). w ≢ []) is some) rose
    (λ t. let f = front t in (f.0, f.1 ∙ ap (λ (w : List ℕ). out ++ take f.0 w) is, same t))

-- standard error broke off
err_broke : (tells tells1 : Bool) (out out1 out2 err err1 err2 text what text' what' : List ℕ) (failed failed1 failed2 : ℕ) → text ≡ what → text' ≡ what'
    → text' ≢ [] → failed ≤ failed1 → Rose failed1 failed2 → tells1 ≡ tells → (IsTrue tells → out1 ≡ out ++ text) → (IsTrue tells → err1 ≡ err)
    → (IsTrue tells1 → (count : ℕ) × (err2 ≡ err1 ++ take count text')) → (IsTrue tells1 → out2 ≡ out1)
    → IsBrokenOff what what' (record { tells = tells; out = out; out_now = out2; err = err; err_now = err2; failed = failed; failed_now = failed2 })
err_broke tells tells1 out out1 out2 err err1 err2 text what text' what' failed failed1 failed2 is is' some up rose same_tells first first_err front same =
    in_err (subst (λ (w : List ℕ). w ≢ []) is' some) (omega arith)
    (λ t. let now : IsTrue tells1 = subst IsTrue (sym same_tells) t in
    let f = front now in (
      f.0,
      same now ∙ first t ∙ ap (λ (w : List ℕ). out ++ w) is,
      f.1 ∙ ap (λ (e : List ℕ). e ++ take f.0 text') (first_err t) ∙ ap (λ (w : List ℕ). err ++ take f.0 w) is',
    ))

pub returns-in_err-write_out-clause-broken : goal.returns-in_err-write_out-clause-broken
returns-in_err-write_out-clause-broken g c =
    let call = c.in_err-write_out.ensures in
    on_err _ (out_broke _ _ _ _ _ _ _ _ _ _ c.as_bytes.ensures call.some call.cause (c.write_out.ensures.front) (c.write_out.ensures.same_err))

pub returns-in_err-write_error-clause-broken : goal.returns-in_err-write_error-clause-broken
returns-in_err-write_error-clause-broken g c =
    let first = c.in_ok-write_out.ensures in
    let call = c.in_err-write_error.ensures in
    on_err _ (err_broke _ _ _ _ _ _ _ _ _ _ _ _ _ _ _ c.as_bytes.ensures c.as_bytes-2.ensures call.some c.write_out.ensures.count_stays call.cause
    c.write_out.ensures.same_tells first.told c.write_out.ensures.same_err c.write_error.ensures.front c.write_error.ensures.same_out)
