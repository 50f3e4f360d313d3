use Rattle.std.proofs.Common.{◌≡◌, ◌∙◌, length, rules, Result, Ok, Err}
use Rattle.std.specs.Prelude.{IfOk}
use Rattle.image_layout.proofs.RootLemmas.{holds_metadata}
use Rattle.image_layout.proofs.layout.lay_out.Goals as goal

all_ok : {X E : Type 0} (r : Result X E) (A B C D F G H I Q : X → Type 0) → ((x : X) → A x → B x → C x → D x → F x → G x → H x → I x → Q x)
    → IfOk r A → IfOk r B → IfOk r C → IfOk r D → IfOk r F → IfOk r G → IfOk r H → IfOk r I → IfOk r Q
all_ok (Ok x) A B C D F G H I Q k a b c d f g h i = k x a b c d f g h i
all_ok (Err e) A B C D F G H I Q k a b c d f g h i = tt

pub returns-clause-laid_out : goal.returns-clause-laid_out
returns-clause-laid_out c =
    let w = c.write.ensures in
    let long : length c.args.id.now ≡ 16 = search rules in
    all_ok c.write.result _ _ _ _ _ _ _ _ _
    (λ image opens frame filled numbers entry code size bytes. record {
      opens = opens;
      frame = frame;
      filled_up = filled;
      numbers = numbers ∙ c.numbers_in.ensures;
      entry_is = entry;
      code_is = code;
      metadata = holds_metadata c.args.refs.now c.args.rows.now c.args.id.now c.in_ok-metadata.metadata c.in_ok-metadata.ensures.holds image bytes size long;
    })
    w.opens w.frame w.filled w.numbers w.entry w.code w.metadata_size w.metadata_bytes
