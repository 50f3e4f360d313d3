use Rattle.std.proofs.Common.{◌∙◌, ◌++◌, ap, sym, subst, List, ℕ}
use Rattle.sig_codec.specs.Spelling.{writing}
use Rattle.sig_codec.specs.Spelling.{SpellsType}
use Rattle.sig_codec.proofs.encode.encode_type.Goals as goal

pub returns : goal.returns
returns g c =
    let tokens = g.N.Numberer.owner_tokens c.args.map.now in
    let w = writing tokens in
    let r = c.in_ok-push_type.ensures in
    let is = r.1 ∙ ap (λ (x : List ℕ). x ++ r.0) c.new-out.ensures in
    subst (λ (x : List ℕ). SpellsType w c.args.t.now x) (sym is) r.2
