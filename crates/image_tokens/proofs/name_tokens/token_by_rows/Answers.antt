use Rattle.std.proofs.Common.{◌≡◌, refl, sym, subst, ℕ, List}
use Rattle.heaps.specs.Heap.{Heap}
use Rattle.type_terms.specs.declared.name.TypeId.{TypeId}
use Rattle.image_tokens.specs.NameTokens.{of_declared, of_referred, in_extern}
use Rattle.image_tokens.specs.TypePaths.{Follows, AddsPath, in_declared, in_reference}
use Rattle.image_tokens.proofs.EachRowLemmas.{name_path, name_none}
use Rattle.image_tokens.proofs.NameLemmas.{declared_end}
use Rattle.image_tokens.proofs.name_tokens.token_by_rows.Goals as goal

pub returns-in_ok-row-in-Here-clause-token : goal.returns-in_ok-row-in-Here-clause-token
returns-in_ok-row-in-Here-clause-token c =
    let name = c.args.name.now in
    let rows = c.args.declared.now in
    let d = declared_end c.args.strings.now rows name.path name.scope c.in-Here.is c.requires.nameable in
    let along : Follows c.args.strings.now rows in_declared 0 c.as_slice-path.result.now d.0 =
    subst (λ (xs : List TypeId). Follows c.args.strings.now rows in_declared 0 xs d.0) (sym c.as_slice-path.ensures.ids) d.1 in
    let k = c.declared_row.ensures.known d.0 along in
    let was = c.in_ok-row-in-Here.was in
    let same : d.0 ≡ c.in_ok-row-in-Here.row = cc (k.0, was) in
    of_declared c.in-Here.is
    (subst (λ (s : Heap). Follows s rows in_declared 0 name.path c.in_ok-row-in-Here.row) (sym k.1)
    (subst (λ (x : ℕ). Follows c.args.strings.now rows in_declared 0 name.path x) same d.1)) (record { is = c.token_of.ensures; fits = c.in_ok-row-in-Here.ensures.few })

pub returns-in_ok-row-in-Extern-clause-token : goal.returns-in_ok-row-in-Extern-clause-token
returns-in_ok-row-in-Extern-clause-token c =
    let strings = c.referred_row.new.strings in
    let rows = c.referred_row.new.rows in
    let row = c.in_ok-row-in-Extern.row in
    let from_extern : Follows strings rows in_reference (in_extern c.in-Extern.number) c.as_slice-path.result.now row =
    subst (λ (x : ℕ). Follows strings rows in_reference x c.as_slice-path.result.now row) c.index_of-scope.ensures c.in_ok-row-in-Extern.ensures.follows in
    of_referred c.in-Extern.is
    (subst (λ (xs : List TypeId). Follows strings rows in_reference (in_extern c.in-Extern.number) xs row) c.as_slice-path.ensures.ids from_extern) (record { is = c.token_of-in-Extern.ensures; fits = c.in_ok-row-in-Extern.ensures.small })

pub returns-in_ok-row-in-Extern-clause-adds : goal.returns-in_ok-row-in-Extern-clause-adds
returns-in_ok-row-in-Extern-clause-adds c =
    let strings = c.referred_row.new.strings in
    let old = c.args.referred.now in
    let new = c.referred_row.new.rows in
    let from_extern : AddsPath strings (in_extern c.in-Extern.number) c.as_slice-path.result.now old new =
    subst (λ (x : ℕ). AddsPath strings x c.as_slice-path.result.now old new) c.index_of-scope.ensures c.referred_row.ensures.adds in
    name_path strings c.args.name.now c.in-Extern.number old new c.in-Extern.is
    (subst (λ (xs : List TypeId). AddsPath strings (in_extern c.in-Extern.number) xs old new) c.as_slice-path.ensures.ids from_extern)

pub returns-in_ok-row-in-Here-clause-adds : goal.returns-in_ok-row-in-Here-clause-adds
returns-in_ok-row-in-Here-clause-adds c = name_none _ c.args.name.now c.args.referred.now c.args.referred.now refl
