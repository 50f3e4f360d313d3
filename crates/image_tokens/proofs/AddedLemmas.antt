-- What one addition to a heap or a table leaves.
use Rattle.std.proofs.Common.{◌≡◌, ◌⊎◌, ap, refl, ◌∙◌, subst, ℕ, ◌+◌, ◌*◌, ◌^◌, ◌≤◌, List, [], ◌∷◌, ◌++◌, length, Some, None, Result, Ok, Err, inl, inr, arith}
use Rattle.std.specs.Prelude.{IfOk}
use Rattle.std.proofs.lemmas.List.{length-append}
use Rattle.heaps.specs.Heap.{Heap}
use Rattle.assembly_tree.specs.Weight.{name_weight}
use Rattle.sig_codec.specs.Spelling.{Notation, writing, SpellsType}
use Rattle.type_terms.specs.declared.name.TypeName.{TypeName}
use Rattle.type_terms.specs.declared.term.Owner.TheVariants as owners
use Rattle.type_terms.specs.declared.term.SigType.{SigType}
use Rattle.image_tokens.specs.Blobs.{HoldsBlob, KeepsBlobs}
use Rattle.image_tokens.specs.Bounds.{IsTypeInBounds}
use Rattle.image_tokens.specs.Found.{token_in}
use Rattle.image_tokens.specs.Indexes.{IsToken}
use Rattle.image_tokens.specs.KnownTokens.{names_apart, types_apart, layer_token}
use Rattle.image_tokens.specs.NameTokens.{HasNameToken, LiesOn, AddsName, AreNames, Learns}
use Rattle.image_tokens.specs.Noted.{IsNamed, IsSpecified}
use Rattle.image_tokens.specs.References.{tokens_of, size, HasSignature, IsSpecToken, one_cell, IsNameRow, IsSpecRow, Grows, Goes, AreKnown}
use Rattle.image_tokens.specs.Rows.{IsRowAt, EachRow, Lacks}
use Rattle.image_tokens.specs.Texts.{KeepsTexts}
use Rattle.image_tokens.specs.TypePaths.{GoesOn, path_size}
use Rattle.image_tokens.specs.Writable.{CanBeNamed}
use Rattle.image_tokens.specs.declared.references.References.{References}
use Rattle.image_tokens.specs.declared.row_set.Cells.{Cells}
use Rattle.image_tokens.proofs.EachRowLemmas.{each_more, one_of}
use Rattle.image_tokens.proofs.WidenedLemmas.{wide_name}
use Rattle.image_tokens.proofs.GrowthLemmas.{widened, grows_refl, grows_trans, still, still_known, learns_one, all_and, tokens_kept, signature_kept}
use Rattle.image_tokens.proofs.NameLemmas.{found_last, holds_of_found}
use Rattle.image_tokens.proofs.PathLemmas.{goes_on}
use Rattle.image_tokens.proofs.SizeLemmas.{names_grown, blobs_grown, specs_grown, name_weight_is, declared_kind, spec_kind}

-- ---- blobs

abbrev pub with_blobs : References → Heap → References
with_blobs a blobs = record {
  heaps = record { strings = a.heaps.strings; blobs = blobs; user = a.heaps.user };
  declared = a.declared;
  referred = a.referred;
  known = a.known;
}

blobs_grow : (a : References) (blobs : Heap) → KeepsBlobs a.heaps.blobs blobs → Grows a (with_blobs a blobs)
blobs_grow a blobs k = let g = grows_refl a in record {
  strings = g.strings;
  blobs = k;
  user = g.user;
  declared = refl;
  names = g.names;
  specs = g.specs;
  members = g.members;
  instances = g.instances;
  locals = g.locals;
  known_names = g.known_names;
  known_specs = g.known_specs;
  known_methods = g.known_methods;
  known_fields = g.known_fields;
  known_locals = g.known_locals;
  known_texts = g.known_texts;
}

pub blob_goes : (a : References) (blobs : Heap) (n : ℕ) → AreKnown a → KeepsBlobs a.heaps.blobs blobs → length blobs.bytes ≤ length a.heaps.blobs.bytes + n
    → Goes a (with_blobs a blobs) n
blob_goes a blobs n known k le = record {
  grows = blobs_grow a blobs k;
  known = still_known a (with_blobs a blobs) (blobs_grow a blobs k) known refl refl;
  size = blobs_grown a (with_blobs a blobs) n le refl refl refl;
}

pub always : {T E P : Type 0} (r : Result T E) → P → IfOk r (λ _. P)
always (Ok x) p = p
always (Err x) p = tt

-- ---- names

abbrev pub with_names : References → Heap → List Cells → List (TypeName × ℕ) → References
with_names a strings rows names = record {
  heaps = record { strings = strings; blobs = a.heaps.blobs; user = a.heaps.user };
  declared = a.declared;
  referred = record { names = rows; specs = a.referred.specs; members = a.referred.members; instances = a.referred.instances; locals = a.referred.locals };
  known = record { names = names; specs = a.known.specs; methods = a.known.methods; fields = a.known.fields; locals = a.known.locals; texts = a.known.texts };
}

names_grow : (a : References) (strings : Heap) (rows : List Cells) (names : List (TypeName × ℕ)) → KeepsTexts a.heaps.strings strings → GoesOn a.referred.names rows
    → Learns a.known.names names → Grows a (with_names a strings rows names)
names_grow a strings rows names k on l = let g = grows_refl a in record {
  strings = k;
  blobs = g.blobs;
  user = g.user;
  declared = refl;
  names = on;
  specs = g.specs;
  members = g.members;
  instances = g.instances;
  locals = g.locals;
  known_names = l;
  known_specs = g.known_specs;
  known_methods = g.known_methods;
  known_fields = g.known_fields;
  known_locals = g.known_locals;
  known_texts = g.known_texts;
}

name_token_of : (r : References) (name : TypeName) (token : ℕ) → token_in names_apart r.known.names name ≡ Some token → tokens_of r (owners.Name name) ≡ Some token
name_token_of r name token at = ap (λ l. layer_token r.known.names r.known.specs l) (owners.outs-Name name) ∙ at

names_come : (a b : References) (name : TypeName) (rows : List Cells) → CanBeNamed b name → EachRow (IsNameRow b) a.referred.names
    → AddsName b.heaps.strings name a.referred.names rows → rows ≡ b.referred.names → EachRow (IsNameRow b) rows
names_come a b name rows can old adds same k c at = elim (adds k c at) [
  | inl before ↦ old k c before
  | inr lies ↦ record { name = name; can = can; lies = subst (λ xs. LiesOn b.heaps.strings xs name c) same lies }
]

pub named : {E : Type 0} (a : References) (strings : Heap) (rows : List Cells) (names : List (TypeName × ℕ)) (name : TypeName) (r : Result ℕ E)
    → AreKnown a → size a + name_weight name ≤ 2 ^ 26
    → IfOk r (HasNameToken strings a.declared.types rows name) → IfOk r (λ token. token_in names_apart names name ≡ Some token)
    → AreNames strings a.declared.types rows names → Learns a.known.names names → KeepsTexts a.heaps.strings strings → GoesOn a.referred.names rows
    → length strings.bytes ≤ length a.heaps.strings.bytes + path_size name.path → length rows ≤ length a.referred.names + length name.path
    → CanBeNamed a name → AddsName strings name a.referred.names rows
    → IfOk r (IsNamed a (with_names a strings rows names) name)
named a strings rows names name (Err e) known room h at all l k on more few can adds = tt
named a strings rows names name (Ok token) known room h at all l k on more few can adds =
    let b : References = with_names a strings rows names in
    let g : Grows a b = names_grow a strings rows names k on l in
    let s = still a b g known in
    let grown : size b ≤ size a + (path_size name.path + 12 * length name.path) = names_grown a b (path_size name.path) (length name.path) more few refl refl refl refl refl refl in
    let weighs = name_weight_is name in
    record {
      grows = g;
      known = record { few = s.few; names = all; specs = s.specs; methods = s.methods; fields = s.fields; locals = s.locals; texts = s.texts; rows = record { names = names_come a b name rows (wide_name a b (widened a b g) name can) s.rows.names adds refl; specs = s.rows.specs; members = s.rows.members; instances = s.rows.instances; locals = s.rows.locals } };
      room = omega arith;
      token_is = name_token_of b name token at;
      declared = declared_kind strings a.declared.types rows name token h;
    }

-- ---- types

abbrev pub with_specs : References → List Cells → List (SigType × ℕ) → References
with_specs a rows specs = record {
  heaps = a.heaps;
  declared = a.declared;
  referred = record { names = a.referred.names; specs = rows; members = a.referred.members; instances = a.referred.instances; locals = a.referred.locals };
  known = record { names = a.known.names; specs = specs; methods = a.known.methods; fields = a.known.fields; locals = a.known.locals; texts = a.known.texts };
}

specs_grow : (a : References) (rows : List Cells) (specs : List (SigType × ℕ)) → GoesOn a.referred.specs rows → Learns a.known.specs specs → Grows a (with_specs a rows specs)
specs_grow a rows specs on l = let g = grows_refl a in record {
  strings = g.strings;
  blobs = g.blobs;
  user = g.user;
  declared = refl;
  names = g.names;
  specs = on;
  members = g.members;
  instances = g.instances;
  locals = g.locals;
  known_names = g.known_names;
  known_specs = l;
  known_methods = g.known_methods;
  known_fields = g.known_fields;
  known_locals = g.known_locals;
  known_texts = g.known_texts;
}

spec_token_of : (r : References) (t : SigType) (token : ℕ) → token_in types_apart r.known.specs t ≡ Some token → tokens_of r (owners.Spec t) ≡ Some token
spec_token_of r t token at = ap (λ l. layer_token r.known.names r.known.specs l) (owners.outs-Spec t) ∙ at

pub one_more : (old new : List Cells) (cells : Cells) → (new ≡ old) ⊎ ((new ≡ old ++ cells ∷ []) × Lacks old cells) → length new ≤ length old + 1
one_more old new cells (inl e) = omega (arith, ap (length {A = Cells}) e)
one_more old new cells (inr e) = omega (arith, ap (length {A = Cells}) e.0 ∙ length-append old (cells ∷ []))

-- a row more, or one that was there
pub spec_added : (a : References) (rows : List Cells) (specs : List (SigType × ℕ)) (t : SigType) (blob row token : ℕ)
    → AreKnown a → token_in types_apart a.known.specs t ≡ None → HasSignature SpellsType a t blob → IsTypeInBounds t → IsRowAt rows (one_cell blob) row
    → (rows ≡ a.referred.specs) ⊎ ((rows ≡ a.referred.specs ++ one_cell blob ∷ []) × Lacks a.referred.specs (one_cell blob))
    → IsToken token 0x1B row → specs ≡ a.known.specs ++ (t, token) ∷ [] → IsSpecified a (with_specs a rows specs) t 4 token
spec_added a rows specs t blob row token known lacks signature bounds at kept is learnt =
    let b : References = with_specs a rows specs in
    let on : GoesOn a.referred.specs rows = goes_on a.referred.specs rows (one_cell blob) kept in
    let g : Grows a b = specs_grow a rows specs on (learns_one a.known.specs specs t token learnt) in
    let s = still a b g known in
    record {
      grows = g;
      known = record {
        few = s.few;
        names = s.names;
        specs = all_and (λ e. IsSpecToken b e.0 e.1) a.known.specs specs (t, token) s.specs
            (record { row = row; blob = blob; at = at; signature = signature_kept SpellsType a b t blob g signature; is = is }) learnt;
        methods = s.methods;
        fields = s.fields;
        locals = s.locals;
        texts = s.texts;
        rows = record {
          names = s.rows.names;
          specs = each_more (IsSpecRow b) a.referred.specs rows (one_cell blob) (one_of a.referred.specs rows (one_cell blob) kept) s.rows.specs
              (record { of = t; blob = blob; are = refl; signature = signature_kept SpellsType a b t blob g signature; in_bounds = bounds });
          members = s.rows.members;
          instances = s.rows.instances;
          locals = s.rows.locals;
        };
      };
      room = specs_grown a b (one_more a.referred.specs rows (one_cell blob) kept) refl refl refl refl refl;
      token_is = spec_token_of b t token (ap (λ es. token_in types_apart es t) learnt ∙ found_last types_apart a.known.specs t token lacks);
      kind = spec_kind token row is;
    }

-- a type that has a token
pub spec_found : (a : References) (t : SigType) (n token : ℕ) → AreKnown a → token_in types_apart a.known.specs t ≡ Some token
    → IsSpecified a a t (n + 12) token
spec_found a t n token known at =
    let h : IsSpecToken a t token = holds_of_found types_apart (λ e. IsSpecToken a e.0 e.1) a.known.specs t token known.specs at in
    record {
      grows = grows_refl a;
      known = known;
      room = omega arith;
      token_is = spec_token_of a t token at;
      kind = spec_kind token h.row h.is;
    }

-- a signature that has been written
pub written_blob : {X : Type 0} (Spells : Notation → X → List ℕ → Type 0) (a b : References) (x : X) (bytes : List ℕ) (blob : ℕ) → Grows a b → HoldsBlob b.heaps.blobs bytes blob
    → Spells (writing (tokens_of a)) x bytes → HasSignature Spells b x blob
written_blob Spells a b x bytes blob g h s = record { bytes = bytes; holds = h; earlier = tokens_of a; within = λ o t e. tokens_kept a b g o t e; spells = s }

-- a blob, and then its row
pub specified_then : (a b c : References) (t : SigType) (len n token : ℕ) → Goes a b (len + 4) → len + 4 + 4 ≤ n → IsSpecified b c t 4 token → IsSpecified a c t n token
specified_then a b c t len n token g le h = record {
  grows = grows_trans a b c g.grows h.grows;
  known = h.known;
  room = (let first = g.size in let rest = h.room in omega arith);
  token_is = h.token_is;
  kind = h.kind;
}
