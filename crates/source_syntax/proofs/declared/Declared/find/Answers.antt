use Rattle.std.proofs.Common.{◌≡◌, ◌+◌, Some, None, sym, ◌∙◌, ap}
use Rattle.std.specs.Prelude.{position, bytes_eq}
use Rattle.source_nodes.specs.ChainedTexts.{one_of}
use Rattle.source_syntax.proofs.Positions.{in_first, in_neither, in_second}
use Rattle.source_syntax.proofs.declared.Declared.find.Goals as goal

pub returns-in-Some : goal.returns-in-Some
returns-in-Some c =
    sym (in_first (bytes_eq c.args.text.now) c.self.inside.more (one_of c.self.inside.only) c.in-Some.k (sym c.find.ensures ∙ c.in-Some.is))
    ∙ ap (position (bytes_eq c.args.text.now)) c.self.view_is

pub returns-in-Some-place_of : goal.returns-in-Some-place_of
returns-in-Some-place_of c =
    let p = bytes_eq c.args.text.now in
    let none : position p c.self.inside.more ≡ None = sym c.find.ensures ∙ c.in-None.is in
    let some : position p (one_of c.self.inside.only) ≡ Some c.in-Some-place_of.k = sym c.place_of.ensures ∙ c.in-Some-place_of.is in
    ap (λ n. Some (n + c.in-Some-place_of.k)) c.len.ensures.value
    ∙ sym (in_second p c.self.inside.more (one_of c.self.inside.only) c.in-Some-place_of.k none some) ∙ ap (position p) c.self.view_is

pub returns-in-None-place_of : goal.returns-in-None-place_of
returns-in-None-place_of c =
    let p = bytes_eq c.args.text.now in
    let none : position p c.self.inside.more ≡ None = sym c.find.ensures ∙ c.in-None.is in
    let no : position p (one_of c.self.inside.only) ≡ None = sym c.place_of.ensures ∙ c.in-None-place_of.is in
    sym (in_neither p c.self.inside.more (one_of c.self.inside.only) none no) ∙ ap (position p) c.self.view_is
