use Rattle.std.proofs.Common.{◌≡◌, ◌∙◌, ap, sym, subst, ◌+◌, ◌≤◌, List, ℕ, length, arith}
use Rattle.std.specs.List.{flat_map}
use Rattle.std.proofs.lemmas.Result.{on_ok_weaker}
use Rattle.assembly_tree.specs.Room.{instruction_texts}
use Rattle.image_tokens.specs.Loaded.{Loads, entry_sizes}
use Rattle.image_tokens.proofs.LoadsLemmas.{loads_nothing}
use Rattle.image_members.proofs.TextLemmas.{without_body, with_body}
use Rattle.image_members.proofs.loading.load_method.Goals as goal

pub returns-in-None : goal.returns-in-None
returns-in-None c =
    subst (λ (xs : List (List ℕ)). Loads c.args.user.now c.args.user.now xs) (sym (without_body c.args.method.now c.in-None.is)) (loads_nothing c.args.user.now)

pub load_code-requires : goal.load_code-requires
load_code-requires c =
    let whole = ap entry_sizes (with_body c.args.method.now c.in-Some.body c.in-Some.is ∙ ap (flat_map instruction_texts) (sym c.as_slice.ensures)) in
    let room = c.requires in
    omega arith

pub returns-in-Some : goal.returns-in-Some
returns-in-Some c =
    let whole = with_body c.args.method.now c.in-Some.body c.in-Some.is ∙ ap (flat_map instruction_texts) (sym c.as_slice.ensures) in
    on_ok_weaker c.load_code.result (λ h. subst (λ (xs : List (List ℕ)). Loads c.args.user.now c.load_code.new.user xs) (sym whole) h) c.load_code.ensures
