use Rattle.std.proofs.Common.{◌≡◌, ◌+◌, ◌≤◌, ◌++◌, ◌∙◌, List, ℕ, ap, sym, length, take, arith}
use Rattle.std.proofs.lemmas.Result.{IfOk-weaker}
use Rattle.source_model.specs.Data.{first_bytes}
use Rattle.lower_members.proofs.RunLemmas.{pushed_up_to}
use Rattle.lower_members.proofs.runs.push_once.Goals as goal

pub returns-in-Some : goal.returns-in-Some
returns-in-Some c rest =
    let old = c.args.bytes.now in
    let more = c.args.more.now in
    let room = c.saturating_sub-room.result in
    let fits : c.in-Some.size ≤ length old + room = omega (arith, c.saturating_sub-room.ensures, c.len.ensures) in
    let sized : (l : List ℕ) → first_bytes c.args.size l ≡ take c.in-Some.size l = λ l. ap (λ o. first_bytes o l) c.in-Some.is in
    IfOk-weaker c.extend.result (λ _. c.extend.new.self ≡ old ++ c.front.result.now)
    (λ _. first_bytes c.args.size (c.extend.new.self ++ rest) ≡ first_bytes c.args.size (old ++ (more ++ rest)))
    (λ _ e. sized (c.extend.new.self ++ rest)
    ∙ ap (λ l. take c.in-Some.size (l ++ rest)) (e ∙ ap (λ l. old ++ l) c.front.ensures)
    ∙ pushed_up_to c.in-Some.size room old more rest fits
    ∙ sym (sized (old ++ (more ++ rest))))
    c.extend.ensures.ok
