use Rattle.std.proofs.Common.{◌≡◌, ◌∙◌, ap, sym, subst, ℕ, List, None}
use Rattle.type_terms.specs.declared.name.TypeName.{TypeName}
use Rattle.image_tokens.specs.Found.{token_in}
use Rattle.image_tokens.specs.KnownTokens.{names_apart}
use Rattle.image_tokens.specs.NameTokens.{AreNames}
use Rattle.image_tokens.proofs.NameLemmas.{name_found, found_last, names_kept, names_more}
use Rattle.image_tokens.proofs.name_tokens.name_token.Goals as goal

pub returns-in-Some-clause-token : goal.returns-in-Some-clause-token
returns-in-Some-clause-token c =
    name_found names_apart c.args.strings.now c.args.declared.now c.args.referred.now c.args.known.now c.args.name.now c.in-Some.token c.requires.names (sym c.in-Some.ensures)

pub returns-clause-found : goal.returns-clause-found
returns-clause-found c =
    let none : token_in names_apart c.args.known.now c.args.name.now ≡ None = cc (c.find_hashed.ensures, c.in_default.is) in
    ap (λ es. token_in names_apart es c.args.name.now) c.in_ok-add_hashed.ensures.ok ∙ found_last names_apart c.args.known.now c.args.name.now c.in_ok-token.token none

pub returns-clause-names : goal.returns-clause-names
returns-clause-names c =
    let strings = c.token_by_rows.new.strings in
    let rows = c.token_by_rows.new.referred in
    let kept = names_kept c.args.strings.now strings c.args.declared.now c.args.referred.now rows c.args.known.now c.token_by_rows.ensures.keeps c.token_by_rows.ensures.goes_on c.requires.names in
    subst (λ (es : List (TypeName × ℕ)). AreNames strings c.args.declared.now rows es) (sym c.in_ok-add_hashed.ensures.ok)
    (names_more strings c.args.declared.now rows c.args.known.now c.args.name.now c.in_ok-token.token kept c.in_ok-token.ensures.token)
