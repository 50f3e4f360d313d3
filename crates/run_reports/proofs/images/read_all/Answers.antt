use Rattle.std.proofs.Common.{◌≡◌, ◌∙◌, ◌+◌, ◌≤◌, ◌^◌, ℕ, false, List, [], ◌∷◌, Result, Ok, Err, OnOk, length, take, sym, subst, arith}
use Rattle.std.specs.Result.{is_err}
use Rattle.std.specs.List.{All, AllZip}
use Rattle.std.proofs.lemmas.List.Elements.{All-append, All-cons, All-get_or, All-nil}
use Rattle.image_model.specs.Faults.{Reads}
use Rattle.image_reader.specs.Outcome.{IsFaultOf}
use Rattle.type_order.specs.Worlds.{IsFit}
use Rattle.run_reports.specs.Stops.{IsStop}
use Rattle.run_reports.proofs.Zips.{read_more, stop_behind}
use Rattle.run_reports.proofs.images.read_all.Goals as goal

at_ok : {T E P : Type 0} (r : Result T E) → is_err r ≡ false → OnOk r P → P
at_ok (Ok x) fine p = p
at_ok (Err e) fine p = absurd cc

abbrev IsSmall : List ℕ → Type 0
IsSmall image = length image ≤ 2 ^ 26

pub read-requires : goal.read-requires
read-requires c =
    let image = c.index-images-number.result in
    subst IsSmall (sym c.as_slice.ensures) (subst IsSmall (sym c.index-images-number.is)
    (All-get_or IsSmall c.args.images.now c.loop-number.number image c.loop-number-test.true c.requires))

pub returns-in-Err-clause-stop : goal.returns-in-Err-clause-stop
returns-in-Err-clause-stop c =
    subst (IsStop c.args.images.now) (sym c.stop_at.ensures)
    (stop_behind c.args.images.now c.loop-number.number c.index-images-number.result c.loop-number.assemblies c.in-Err.fault c.loop-number-test.true c.index-images-number.is
    c.loop-number.invariant.read (subst (λ (image : List ℕ). IsFaultOf image c.in-Err.fault) c.as_slice.ensures c.in-Err.ensures.fault))

pub loop-number-preserved : goal.loop-number-preserved
loop-number-preserved c =
    let was = c.loop-number.invariant in
    let pushed = sym (at_ok c.push.result (sym c.is_err.ensures.value ∙ c.if-is_err.false) c.push.ensures.ok) in
    let reads = c.in-Ok.ensures.reads in
    let weight = reads.weight in
    record {
      read = subst (AllZip Reads (take (c.loop-number.number + 1) c.args.images.now)) pushed
          (read_more c.args.images.now c.loop-number.number c.index-images-number.result c.loop-number.assemblies c.in-Ok.a c.loop-number-test.true c.index-images-number.is was.read
          (subst (λ (image : List ℕ). Reads image c.in-Ok.a) c.as_slice.ensures reads));
      fit = subst (All IsFit) pushed
          (All-append IsFit c.loop-number.assemblies (c.in-Ok.a ∷ []) was.fit (All-cons IsFit c.in-Ok.a [] (c.in-Ok.ensures.formed, omega (arith, weight)) (All-nil IsFit)));
    }
