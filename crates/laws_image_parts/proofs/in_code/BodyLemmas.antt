-- A body with more bytes behind it.
use Rattle.std.proofs.Common.{sym, ◌∙◌, subst, ℕ, List, ◌++◌}
use Rattle.assembly_tree.specs.declared.body.Body.{Body}
use Rattle.body_codec.specs.Bodies.{Spells}
use Rattle.body_codec.specs.Header.{SpellsLocals}
use Rattle.body_codec.specs.Names.{Notation}
use Rattle.body_codec.specs.Sections.{SpellsClauses}
use Rattle.body_codec.specs.Spelling.{SpellsCode}
use Rattle.laws_image_parts.specs.in_code.Following.{MoreMayFollow}
use Rattle.laws_image_parts.proofs.in_code.HeaderLemmas.{header_same, tiny_same, bound_same, inits_same, locals_same, code_same}
use Rattle.laws_image_parts.proofs.in_code.SectionLemmas.{rows_all, none_broken, ends_same}

pub more_follows : MoreMayFollow
more_follows bytes more h whole = record {
  header = header_same bytes more h;
  tiny = tiny_same bytes more h;
  bound = bound_same bytes more h;
  init = inits_same bytes more h;
  locals = locals_same bytes more h;
  code = code_same bytes more h;
  rows = rows_all bytes more h whole;
  read = none_broken bytes more h whole;
  ends = ends_same bytes more h whole;
}

pub spells_longer : MoreMayFollow → (w : Notation) (bytes more : List ℕ) (body : Body) (size : ℕ) → Spells w bytes body size → Spells w (bytes ++ more) body size
spells_longer same w bytes more body size h =
    let s = same bytes more h.header h.read in
    record {
      header = s.header;
      bound = h.bound ∙ sym s.bound;
      init = h.init ∙ sym s.init;
      locals = subst (λ token. SpellsLocals w token body.locals) (sym s.locals) h.locals;
      pieces = h.pieces;
      code = subst (SpellsCode w h.pieces body.code) (sym s.code) h.code;
      read = s.read;
      clauses = subst (λ rows. SpellsClauses w h.pieces rows body.clauses) (sym s.rows) h.clauses;
      ends = h.ends ∙ sym s.ends;
    }
