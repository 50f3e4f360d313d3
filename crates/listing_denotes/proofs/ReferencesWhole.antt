-- References break no rule.
use Rattle.std.proofs.Common.{◌≡◌, ℕ, true, [], None}
use Rattle.type_terms.specs.declared.reference.MethodRef.{MethodRef}
use Rattle.assembly_tree.specs.WellFormedTerms.{is_method_ref}
use Rattle.assembly_tree.specs.declared.assembly.Assembly.{Assembly}
use Rattle.source_model.specs.Forest as f
use Rattle.source_model.specs.Nodes.{Around, nodes_in, nothing_around}
use Rattle.source_model.specs.Source.{Source}
use Rattle.faultless_nodes.specs.Laws.{EachBreaksNothing, UnaskedBreakNothing}
use Rattle.listing_declarations.specs.Laws.{IsListingOf}
use Rattle.listing_formed.specs.Laws.{FormedAreReadable}
use Rattle.listing_growth.specs.Held.{is_method_ref_held}
use Rattle.listing_growth.specs.Laws.{TermsStand, ReferencesStand}
use Rattle.listing_keys.specs.Laws.{KeysAreKnown}
use Rattle.listing_model.specs.References.{method_ref}
use Rattle.listing_reading.specs.Laws.{SearchesPass}
use Rattle.listing_reading.specs.Numbered.{numbered, Agrees}
use Rattle.listing_references.specs.Laws.{ArgumentsAreRead}
use Rattle.listing_rows.specs.Laws.{SegmentsAreRead, PiecesAreRead}
use Rattle.listing_terms.specs.Laws.{PathsAreRead}
use Rattle.listing_values.specs.Laws.{NamesAreRead, NumbersAreRead}
use Rattle.listing_denotes.specs.Quiet.{RowsBreakNothing}
use Rattle.listing_denotes.specs.Values.{NumbersAlone}
use Rattle.listing_denotes.specs.Terms.{PathsAreDeclared, TermsBreakNothing}
use Rattle.listing_denotes.specs.References.{ReferencesBreakNothing, PlainReferencesHaveNone}
use Rattle.listing_denotes.proofs.ReferencesFields.{field_quiet}
use Rattle.listing_denotes.proofs.ReferencesMethods.{type_arguments, convention_quiet, arguments_quiet, tail_quiet, method_quiet, method_plain}
use Rattle.listing_denotes.proofs.ReferencesAttributes.{no_token}

module _ (unasked : UnaskedBreakNothing) (alone : NumbersAlone) (rows : RowsBreakNothing) (segments : SegmentsAreRead) (pieces : PiecesAreRead) (searches : SearchesPass) (names : NamesAreRead) (laws : NumbersAreRead)
    (paths : PathsAreRead) (args : ArgumentsAreRead) (stand : TermsStand) (references : ReferencesStand) (readable : FormedAreReadable) (keys : KeysAreKnown) (declared : PathsAreDeclared)
    (terms : TermsBreakNothing) (s : Source) (a : Assembly) (listed : IsListingOf s a) (x : Around) where
  methods_quiet : (r : MethodRef) → is_method_ref a r ≡ true → is_method_ref_held r ≡ true → (at : ℕ) → Agrees s at (method_ref a.externs r).below → (after : f.Forest) → EachBreaksNothing s (nodes_in s x after) →
      EachBreaksNothing s (nodes_in s x (f.branch (method_ref a.externs r).production (numbered at (method_ref a.externs r).below) after))
  methods_quiet r m h =
      method_quiet unasked rows names paths readable searches terms s a (keys.knows s a listed) listed (declared s a listed) x r
      (tail_quiet unasked alone rows segments pieces searches laws stand args readable terms s a (keys.knows s a listed) listed x r m h) references m h

  plain : (r : MethodRef) → is_method_ref a r ≡ true → is_method_ref_held r ≡ true → r.args ≡ None → (at : ℕ) → f.parts type_arguments (numbered at (method_ref a.externs r).below) ≡ []
  plain r m h =
      method_plain unasked rows names paths readable searches terms s a (keys.knows s a listed) listed (declared s a listed) x r
      (tail_quiet unasked alone rows segments pieces searches laws stand args readable terms s a (keys.knows s a listed) listed x r m h) references m h

pub references_break_nothing : UnaskedBreakNothing → NumbersAlone → RowsBreakNothing → SegmentsAreRead → PiecesAreRead → SearchesPass → NamesAreRead → NumbersAreRead → PathsAreRead → ArgumentsAreRead →
    TermsStand → ReferencesStand → FormedAreReadable → KeysAreKnown → PathsAreDeclared → TermsBreakNothing → ReferencesBreakNothing
references_break_nothing unasked alone rows segments pieces searches names laws paths args stand references readable keys declared terms = record {
  conventions = λ s x m after h. convention_quiet unasked s x m after h;
  arguments = λ s a listed x m c h after r.
      arguments_quiet unasked alone rows segments pieces searches laws stand args readable terms s a (keys.knows s a listed) listed x m c h after r;
  methods = methods_quiet unasked alone rows segments pieces searches names laws paths args stand references readable keys declared terms;
  fields = λ s a listed x r. field_quiet unasked rows names paths readable s a (keys.knows s a listed) (declared s a listed) x terms listed r;
}

pub plain_references_have_none : UnaskedBreakNothing → NumbersAlone → RowsBreakNothing → SegmentsAreRead → PiecesAreRead → SearchesPass → NamesAreRead → NumbersAreRead → PathsAreRead → ArgumentsAreRead →
    TermsStand → ReferencesStand → FormedAreReadable → KeysAreKnown → PathsAreDeclared → TermsBreakNothing → PlainReferencesHaveNone
plain_references_have_none unasked alone rows segments pieces searches names laws paths args stand references readable keys declared terms s a listed r m h e at =
    no_token (numbered at (method_ref a.externs r).below)
    (plain unasked alone rows segments pieces searches names laws paths args stand references readable keys declared terms s a listed nothing_around r m h e at)
