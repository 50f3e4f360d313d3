use Rattle.std.proofs.Common.{◌≡◌, ◌∙◌, sym, subst, ℕ, [], Some}
use Rattle.std.proofs.lemmas.List.{append-nil}
use Rattle.il_base.specs.Numbers.{Packed, IsShortest, packed_bytes}
use Rattle.type_terms.specs.declared.term.Owner.{Name}
use Rattle.sig_codec.specs.Spelling.{writing, SpellsName}
use Rattle.sig_codec.proofs.Written.{then_bytes, found_declared, name_written}
use Rattle.sig_codec.proofs.write.push_declared.Goals as goal

pub returns : goal.returns
returns g c =
    let tokens = g.N.Numberer.owner_tokens c.args.map.now in
    let n = c.args.name.now in
    let token = c.unwrap-token.result in
    let is : tokens (Name n) ≡ Some token = sym c.in_ok-token_of_name.ensures ∙ c.unwrap-token.ensures in
    let found = found_declared tokens n token c.requires is in
    then_bytes c.push_packed.result c.args.out.now c.args.out.now c.push_packed.new.out [] (packed_bytes c.coded_of_token.result) (SpellsName (writing tokens) n) (sym (append-nil c.args.out.now))
    (name_written tokens n token (packed_bytes c.coded_of_token.result) found.0 found.1 is
    (subst (λ (k : ℕ). Packed (packed_bytes c.coded_of_token.result) k) c.coded_of_token.ensures c.push_packed.ensures.spells)
    (subst (λ (k : ℕ). IsShortest Packed (packed_bytes c.coded_of_token.result) k) c.coded_of_token.ensures c.push_packed.ensures.shortest))
    c.push_packed.ensures.ok
