-- Methods with their arguments, and the tokens that locals and texts are given.
use Rattle.std.proofs.Common.{◌≡◌, ◌⊎◌, ap, refl, sym, subst, ℕ, zero, suc, ◌+◌, ◌*◌, ◌≤◌, ◌^◌, ◌<◌, List, [], ◌∷◌, ◌++◌, length, Option, Some, None, Result, Ok, Err, arith}
use Rattle.std.specs.Prelude.{IfOk, OnOk, sum_by}
use Rattle.std.proofs.lemmas.List.{length-append, length-drop}
use Rattle.assembly_tree.specs.Weight.{type_weight, owner_weight, signature_weight, method_ref_weight, optional}
use Rattle.heaps.specs.Content.{HasUnits}
use Rattle.heaps.specs.Heap.{Heap}
use Rattle.metadata_tables.specs.declared.coded.Coded.TheVariants.{MethodDefOrRef}
use Rattle.sig_codec.specs.Signature.{SpellsLocals, SpellsInstantiation}
use Rattle.type_terms.specs.declared.reference.MethodRef.{MethodRef}
use Rattle.type_terms.specs.declared.term.SigType.{SigType}
use Rattle.image_tokens.specs.Bounds.{AreTypesInBounds}
use Rattle.image_tokens.specs.Found.{token_in}
use Rattle.image_tokens.specs.Indexes.{IsToken, index_of_token}
use Rattle.image_tokens.specs.KnownTokens.{locals_apart, texts_apart}
use Rattle.image_tokens.specs.Loaded.{AreUnits}
use Rattle.image_tokens.specs.Members.{Leaves, HasLocals, HasLoaded, HasArguments, IsInstanceOf, instance_weight}
use Rattle.image_tokens.specs.NameTokens.{Learns}
use Rattle.image_tokens.specs.Noted.{IsSigned}
use Rattle.image_tokens.specs.References.{size, HasSignature, HasGenericToken, IsMethodToken, plain, instance, IsLocalsToken, IsTextToken, one_cell, IsLocalsRow, IsInstanceRow, Grows, AreKnown}
use Rattle.image_tokens.specs.Rows.{IsRowAt, Lacks}
use Rattle.image_tokens.specs.TypePaths.{GoesOn}
use Rattle.image_tokens.specs.Units.{HoldsUnits, KeepsUnits, bytes_of_units, IsLoadable}
use Rattle.image_tokens.specs.Writable.{AreArgumentsWritable}
use Rattle.image_tokens.specs.declared.references.References.{References}
use Rattle.image_tokens.specs.declared.row_set.Cells.{Cells}
use Rattle.image_tokens.proofs.AddedLemmas.{one_more}
use Rattle.image_tokens.proofs.EachRowLemmas.{each_more, one_of}
use Rattle.image_tokens.proofs.MemberLemmas.{unchanged_rows}
use Rattle.image_tokens.proofs.WidenedLemmas.{wide_known}
use Rattle.image_tokens.proofs.GrowthLemmas.{widened, grows_refl, grows_trans, still, signature_kept, generic_kept}
use Rattle.image_tokens.proofs.LeavesLemmas.{instances_grown, locals_grown, all_given, learns_either}
use Rattle.image_tokens.proofs.LoadedLemmas.{two_each}
use Rattle.image_tokens.proofs.PathLemmas.{goes_on}
use Rattle.image_tokens.proofs.WritableLemmas.{still_writable_each}

-- ---- rows of MethodSpec

abbrev pub with_instances : References → List Cells → References
with_instances a rows = record {
  heaps = a.heaps;
  declared = a.declared;
  referred = record { names = a.referred.names; specs = a.referred.specs; members = a.referred.members; instances = rows; locals = a.referred.locals };
  known = a.known;
}

instances_grow : (a : References) (rows : List Cells) → GoesOn a.referred.instances rows → Grows a (with_instances a rows)
instances_grow a rows on = let g = grows_refl a in record {
  strings = g.strings;
  blobs = g.blobs;
  user = g.user;
  declared = refl;
  names = g.names;
  specs = g.specs;
  members = g.members;
  instances = on;
  locals = g.locals;
  known_names = g.known_names;
  known_specs = g.known_specs;
  known_methods = g.known_methods;
  known_fields = g.known_fields;
  known_locals = g.known_locals;
  known_texts = g.known_texts;
}

pub instance_added : (a : References) (rows : List Cells) (cells : Cells) (generic blob row token : ℕ) → AreKnown a
    → cells ≡ record { first = index_of_token MethodDefOrRef generic; second = blob; third = 0 } → IsRowAt rows cells row
    → (rows ≡ a.referred.instances) ⊎ ((rows ≡ a.referred.instances ++ cells ∷ []) × Lacks a.referred.instances cells) → IsToken token 0x2B row
    → (m : MethodRef) → HasGenericToken a m generic → HasArguments m.sig.generic a blob
    → Leaves (IsInstanceOf generic blob) a (with_instances a rows) 8 token
instance_added a rows cells generic blob row token known same at kept is m generic_is signed =
    let b : References = with_instances a rows in
    let g : Grows a b = instances_grow a rows (goes_on a.referred.instances rows cells kept) in
    let s = still a b g known in
    record {
      grows = g;
      known = wide_known a b (widened a b g) known refl (record {
        names = s.rows.names;
        specs = s.rows.specs;
        members = s.rows.members;
        instances = each_more (IsInstanceRow b) a.referred.instances rows cells (one_of a.referred.instances rows cells kept) s.rows.instances
            (subst (IsInstanceRow b) (sym same)
            (record {
              method = m;
              generic = generic;
              arguments = signed.0;
              generic_is = generic_kept a b m generic g generic_is;
              first_is = refl;
              signature = signature_kept SpellsInstantiation a b signed.0 blob g signed.1;
              third_is = refl;
              in_bounds = signed.2;
              count = signed.3;
            }));
        locals = s.rows.locals;
      });
      room = instances_grown a b (one_more a.referred.instances rows cells kept) refl refl refl refl refl;
      is = record { row = row; at = subst (λ (x : Cells). IsRowAt rows x row) same at; is = is };
    }

-- a method without arguments
pub without_arguments : (a : References) (m : MethodRef) (token : ℕ) → AreKnown a → m.args ≡ None → HasGenericToken a m token
    → Leaves (λ r. IsMethodToken r m) a a (instance_weight m.args) token
without_arguments a m token known none h = record { grows = grows_refl a; known = known; room = omega arith; is = plain none h }

-- and one with them
pub with_arguments : (a b c : References) (m : MethodRef) (args : List SigType) (generic blob token : ℕ) → m.args ≡ Some args → HasGenericToken a m generic
    → IsSigned SpellsInstantiation a b args (sum_by type_weight args + 9) blob → Leaves (IsInstanceOf generic blob) b c 8 token
    → Leaves (λ r. IsMethodToken r m) a c (instance_weight m.args) token
with_arguments a b c m args generic blob token some h s i =
    let g : Grows a c = grows_trans a b c s.grows i.grows in
    record {
      grows = g;
      known = i.known;
      room = (let first = s.room in let then = i.room in let weighs = ap instance_weight some in omega arith);
      is = instance some (generic_kept a c m generic g h) i.is.at (signature_kept SpellsInstantiation b c args blob i.grows s.signature) i.is.is;
    }

-- what the parts of a reference to a method weigh

arguments_fit : (args : Option (List SigType)) → 21 + instance_weight args ≤ 64 + optional (λ ts. sum_by type_weight ts) args
arguments_fit None = omega arith
arguments_fit (Some ts) = omega arith

pub method_fits : (m : MethodRef) → owner_weight m.owner + length m.name + signature_weight m.sig + 21 + instance_weight m.args ≤ method_ref_weight m
unfolding method_ref_weight
method_fits m = let rest = arguments_fit m.args in omega arith

pub arguments_can : (a b : References) → Grows a b → (args : Option (List SigType)) → AreArgumentsWritable a args → AreArgumentsWritable b args
arguments_can a b g None h = h
arguments_can a b g (Some ts) h = (h.0, h.1, still_writable_each a b g ts h.2)

-- ---- locals

abbrev pub with_locals : References → List Cells → List (List SigType × ℕ) → References
with_locals a rows locals = record {
  heaps = a.heaps;
  declared = a.declared;
  referred = record { names = a.referred.names; specs = a.referred.specs; members = a.referred.members; instances = a.referred.instances; locals = rows };
  known = record { names = a.known.names; specs = a.known.specs; methods = a.known.methods; fields = a.known.fields; locals = locals; texts = a.known.texts };
}

locals_grow : (a : References) (rows : List Cells) (locals : List (List SigType × ℕ)) → GoesOn a.referred.locals rows → Learns a.known.locals locals → Grows a (with_locals a rows locals)
locals_grow a rows locals on l = let g = grows_refl a in record {
  strings = g.strings;
  blobs = g.blobs;
  user = g.user;
  declared = refl;
  names = g.names;
  specs = g.specs;
  members = g.members;
  instances = g.instances;
  locals = on;
  known_names = g.known_names;
  known_specs = g.known_specs;
  known_methods = g.known_methods;
  known_fields = g.known_fields;
  known_locals = l;
  known_texts = g.known_texts;
}

pub locals_given : {E : Type 0} (a : References) (rows : List Cells) (locals : List (List SigType × ℕ)) (ts : List SigType) (blob row token : ℕ) (r : Result ℕ E) → AreKnown a
    → HasSignature SpellsLocals a ts blob → AreTypesInBounds ts → IsRowAt rows (one_cell blob) row
    → (rows ≡ a.referred.locals) ⊎ ((rows ≡ a.referred.locals ++ one_cell blob ∷ []) × Lacks a.referred.locals (one_cell blob)) → IsToken token 0x11 row
    → IfOk r (λ given. token_in locals_apart locals ts ≡ Some given) → OnOk r ((locals ≡ a.known.locals) ⊎ (locals ≡ a.known.locals ++ (ts, token) ∷ []))
    → IfOk r (Leaves (HasLocals ts) a (with_locals a rows locals) 4)
locals_given a rows locals ts blob row token (Err e) known signed bounds at kept is found given = tt
locals_given a rows locals ts blob row token (Ok n) known signed bounds at kept is found given =
    let b : References = with_locals a rows locals in
    let g : Grows a b = locals_grow a rows locals (goes_on a.referred.locals rows (one_cell blob) kept) (learns_either a.known.locals locals ts token given) in
    let s = still a b g known in
    let one : IsLocalsToken b ts token = record { row = row; blob = blob; at = at; signature = signature_kept SpellsLocals a b ts blob g signed; is = is } in
    record {
      grows = g;
      known = record {
        few = s.few;
        names = s.names;
        specs = s.specs;
        methods = s.methods;
        fields = s.fields;
        locals = all_given (λ e. IsLocalsToken b e.0 e.1) a.known.locals locals (ts, token) s.locals one given;
        texts = s.texts;
        rows = record {
          names = s.rows.names;
          specs = s.rows.specs;
          members = s.rows.members;
          instances = s.rows.instances;
          locals = each_more (IsLocalsRow b) a.referred.locals rows (one_cell blob) (one_of a.referred.locals rows (one_cell blob) kept) s.rows.locals
              (record { locals = ts; blob = blob; are = refl; signature = signature_kept SpellsLocals a b ts blob g signed; in_bounds = bounds });
        };
      };
      room = locals_grown a b (one_more a.referred.locals rows (one_cell blob) kept) refl refl refl refl refl;
      is = found;
    }

-- ---- texts that are loaded

abbrev pub with_texts : References → Heap → List (List ℕ × ℕ) → References
with_texts a user texts = record {
  heaps = record { strings = a.heaps.strings; blobs = a.heaps.blobs; user = user };
  declared = a.declared;
  referred = a.referred;
  known = record { names = a.known.names; specs = a.known.specs; methods = a.known.methods; fields = a.known.fields; locals = a.known.locals; texts = texts };
}

texts_grow : (a : References) (user : Heap) (texts : List (List ℕ × ℕ)) → KeepsUnits a.heaps.user user → Learns a.known.texts texts → Grows a (with_texts a user texts)
texts_grow a user texts k l = let g = grows_refl a in record {
  strings = g.strings;
  blobs = g.blobs;
  user = k;
  declared = refl;
  names = g.names;
  specs = g.specs;
  members = g.members;
  instances = g.instances;
  locals = g.locals;
  known_names = g.known_names;
  known_specs = g.known_specs;
  known_methods = g.known_methods;
  known_fields = g.known_fields;
  known_locals = g.known_locals;
  known_texts = l;
}

same_user : (a : References) (user : Heap) (texts : List (List ℕ × ℕ)) → user ≡ a.heaps.user → size (with_texts a user texts) ≤ size a + 0
unfolding size
same_user a user texts same = omega (arith, ap (λ h. length h.bytes) same)

pub loaded_given : {E : Type 0} (a : References) (user : Heap) (texts : List (List ℕ × ℕ)) (units : List ℕ) (index token : ℕ) (r : Result ℕ E) → AreKnown a
    → AreUnits units → user ≡ a.heaps.user → KeepsUnits a.heaps.user user → HoldsUnits user (bytes_of_units units) index → IsToken token 0x70 index
    → IfOk r (λ given. token_in texts_apart texts units ≡ Some given) → OnOk r ((texts ≡ a.known.texts) ⊎ (texts ≡ a.known.texts ++ (units, token) ∷ []))
    → IfOk r (Leaves (HasLoaded units) a (with_texts a user texts) 0)
loaded_given a user texts units index token (Err e) known are same k holds is found given = tt
loaded_given a user texts units index token (Ok n) known are same k holds is found given =
    let b : References = with_texts a user texts in
    let g : Grows a b = texts_grow a user texts k (learns_either a.known.texts texts units token given) in
    let s = still a b g known in
    let one : IsTextToken b units token = record { index = index; holds = holds; is = is; are_units = are } in
    record {
      grows = g;
      known = record {
        few = s.few;
        names = s.names;
        specs = s.specs;
        methods = s.methods;
        fields = s.fields;
        locals = s.locals;
        texts = all_given (λ e. IsTextToken b e.0 e.1) a.known.texts texts (units, token) s.texts one given;
        rows = unchanged_rows a b s.rows refl;
      };
      room = same_user a user texts same;
      is = found;
    }

-- what stands in a heap is no longer than it
in_heap : (heap : List ℕ) (index : ℕ) (units : List ℕ) → HasUnits heap index units → length units ≤ length heap
in_heap heap zero units (last, empty, even) =
    let long = length-append units (last ∷ []) in
    let none = ap (length {A = ℕ}) empty in
    omega arith
in_heap heap (suc k) units (last, (spelling, rest, is, packed), even) =
    let left = ap (length {A = ℕ}) is in
    let short = length-drop (suc k) heap in
    let front = length-append spelling ((units ++ last ∷ []) ++ rest) in
    let entry = length-append (units ++ last ∷ []) rest in
    let long = length-append units (last ∷ []) in
    omega arith

pub room_for_units : (r : References) (units : List ℕ) → IsLoadable r.heaps.user units → size r ≤ 2 ^ 26 → length r.heaps.user.bytes + 2 * length units + 8 < 2 ^ 29
unfolding size
room_for_units r units (index, holds, low) room =
    let inside = in_heap r.heaps.user.bytes index (bytes_of_units units) holds.there in
    let two = two_each units in
    omega arith
