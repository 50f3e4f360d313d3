-- What is declared before anything is referred to.
use Rattle.std.proofs.Common.{◌≡◌, ap, refl, sym, ◌∙◌, subst, ℕ, ◌+◌, ◌*◌, ◌<◌, ◌≤◌, ◌^◌, List, [], ◌∷◌, ◌++◌, length, map, Some, arith}
use Rattle.std.specs.Prelude.{slice_get, sum_by}
use Rattle.std.specs.List.{AllByRecursion, AllZip, flat_map}
use Rattle.std.proofs.lemmas.List.{length-map}
use Rattle.assembly_tree.specs.Room.{texts}
use Rattle.assembly_tree.specs.declared.assembly.Assembly.{Assembly}
use Rattle.heaps.specs.Heap.{Heap}
use Rattle.image_tokens.specs.Loaded.{AreLoaded}
use Rattle.image_tokens.specs.NameTokens.{AreNames}
use Rattle.image_tokens.specs.References.{size, Widens, IsNameRow, IsSpecRow, IsLocalsRow, IsReferredMember, IsInstanceRow, AreKnown}
use Rattle.image_tokens.specs.Rows.{EachRow}
use Rattle.image_tokens.specs.declared.heap_contents.Heaps.{Heaps}
use Rattle.image_tokens.specs.declared.known.Known.{Known}
use Rattle.image_tokens.specs.declared.references.Declared.{Declared}
use Rattle.image_tokens.specs.declared.references.Referred.{Referred}
use Rattle.image_tokens.specs.declared.references.References.{References}
use Rattle.image_tokens.specs.declared.row_set.Cells.{Cells}
use Rattle.image_tokens.proofs.GrowthLemmas.{grows_refl, widened, widens_trans}
use Rattle.image_rows.specs.CanFill.{CanFill}
use Rattle.image_members.specs.DeclaredMembers.{class_fields, class_methods, fields_bytes, methods_bytes, IsFieldDeclarable, IsMethodDeclarable, AreDeclarable, HasMembers}
use Rattle.image_members.specs.Declaring.{Place, class_place, class_size, places, HoldsPlace, AreDeclared, IsDeclaring}
use Rattle.image_members.specs.Places.{all_fields, all_methods}
use Rattle.image_members.specs.declared.classes.Class.{Class}
use Rattle.image_members.proofs.DeclaringLemmas.{place_kept}
use Rattle.image_members.proofs.PushLemmas.{all_front, all_back}
use Rattle.image_members.proofs.ZipLemmas.{zip_later, zip_long}
use Rattle.image_writer.specs.Beginning.{begun_bytes, CanDeclare, DeclaresTypes, HasBegun, DeclaresAll}

pub begun_bytes_are : (a : Assembly) (classes : List Class) → begun_bytes a classes ≡ 12 + sum_by class_size classes + (fields_bytes a classes + methods_bytes a classes)
unfolding begun_bytes
begun_bytes_are a classes = refl

pub size_is : (r : References) → size r
    ≡ length r.heaps.strings.bytes + length r.heaps.blobs.bytes + length r.heaps.user.bytes + 12 * length r.referred.names
    + 4 * length r.referred.specs + 12 * length r.referred.members + 8 * length r.referred.instances + 4 * length r.referred.locals
unfolding size
size_is r = refl

-- ---- types

abbrev no_tokens : Known
no_tokens = record { names = []; specs = []; methods = []; fields = []; locals = []; texts = [] }

abbrev no_references : Referred
no_references = record { names = []; specs = []; members = []; instances = []; locals = [] }

none_at : (k : ℕ) (cells : Cells) → slice_get [] k ≡ Some cells → ⊥
none_at k cells h = let f : ⊥ = cc in f

no_row : (P : Cells → Type 0) → EachRow P []
no_row P k cells h = absurd (none_at k cells h)

module _ (classes : List Class) (externs : ℕ) (s0 strings blobs user : Heap) (rows fields methods : List Cells) (referred : Referred) (known : Known) where
  abbrev begun : Referred → Known → References
  begun d k = record {
    heaps = record { strings = strings; blobs = blobs; user = user };
    declared = record { types = rows; fields = fields; methods = methods; externs = externs };
    referred = d;
    known = k;
  }

  pub types_begun : s0 ≡ record { bytes = 0 ∷ []; used = 0 ∷ [] } → blobs ≡ record { bytes = 0 ∷ []; used = 0 ∷ [] } → IsDeclaring classes s0 strings rows → fields ≡ [] → methods ≡ []
      → referred ≡ record { names = []; specs = []; members = []; instances = []; locals = [] } → known ≡ record { names = []; specs = []; methods = []; fields = []; locals = []; texts = [] }
      → length classes < 2 ^ 23 → DeclaresTypes classes externs user (begun referred known)
  types_begun first also d no_fields no_methods no_rows nothing few =
      let long = zip_long (HoldsPlace strings) rows (places classes) d.declared in
      let same = length-map classes class_place in
      let nothing_known : AreKnown (begun no_references no_tokens) = record {
        few = (let all = long in let more = same in omega arith);
        names = record { each = tt };
        specs = tt;
        methods = tt;
        fields = tt;
        locals = tt;
        texts = tt;
        rows = record {
          names = no_row (IsNameRow (begun no_references no_tokens));
          specs = no_row (IsSpecRow (begun no_references no_tokens));
          members = no_row (IsReferredMember (begun no_references no_tokens));
          instances = no_row (IsInstanceRow (begun no_references no_tokens));
          locals = no_row (IsLocalsRow (begun no_references no_tokens));
        };
      } in
      record {
        known = subst (λ (d : Referred). AreKnown (begun d known)) (sym no_rows) (subst (λ (k : Known). AreKnown (begun no_references k)) (sym nothing) nothing_known);
        declared = d.declared;
        no_fields = no_fields;
        no_methods = no_methods;
        externs_are = refl;
        user_is = refl;
        room = (let is = size_is (begun referred known) in
            let texts = d.size-is in
            let one = ap (λ (h : Heap). length h.bytes) first in
            let two = ap (λ (h : Heap). length h.bytes) also in
            let names = ap (λ (x : Referred). length x.names) no_rows in
            let specs = ap (λ (x : Referred). length x.specs) no_rows in
            let members = ap (λ (x : Referred). length x.members) no_rows in
            let instances = ap (λ (x : Referred). length x.instances) no_rows in
            let locals = ap (λ (x : Referred). length x.locals) no_rows in
            omega arith);
      }

-- the heap of user strings is as it was given
pub has_begun : (a : Assembly) (classes : List Class) (externs : ℕ) (user : Heap) (r : References) → DeclaresTypes classes externs user r → externs ≡ length a.externs → AreLoaded user (texts a)
    → length user.bytes ≤ 2 ^ 24 → HasBegun a classes r
has_begun a classes externs user r types count loaded short = record {
  types = subst (λ (n : ℕ). DeclaresTypes classes n r.heaps.user r) count (subst (λ (u : Heap). DeclaresTypes classes externs u r) (sym types.user_is) types);
  loaded = subst (λ (u : Heap). AreLoaded u (texts a)) (sym types.user_is) loaded;
  short = subst (λ (u : Heap). length u.bytes ≤ 2 ^ 24) (sym types.user_is) short;
}

-- ---- members

all_each : {X : Type 0} (P : X → Type 0) (of : Class → List X) (cs : List Class) → AllByRecursion P (flat_map of cs) → AllByRecursion (λ c. AllByRecursion P (of c)) cs
all_each P of [] h = tt
all_each P of (c ∷ cs) h = (all_front P (of c) (flat_map of cs) h, all_each P of cs (all_back P (of c) (flat_map of cs) h))

module _ (a : Assembly) (classes : List Class) (user : Heap) (r : References) (types : DeclaresTypes classes (length a.externs) user r) (can : CanDeclare a classes user) where
  filled : CanFill a classes r
  filled = can r r types (widened r r (grows_refl r))

  pub members_declarable : AreDeclarable r a classes
  members_declarable = record {
    no_fields = types.no_fields;
    no_methods = types.no_methods;
    fields = all_front (IsFieldDeclarable r) a.fields (flat_map class_fields classes) filled.fields;
    own_fields = all_each (IsFieldDeclarable r) class_fields classes (all_back (IsFieldDeclarable r) a.fields (flat_map class_fields classes) filled.fields);
    methods = all_front (IsMethodDeclarable r) a.methods (flat_map class_methods classes) filled.methods;
    own_methods = all_each (IsMethodDeclarable r) class_methods classes (all_back (IsMethodDeclarable r) a.methods (flat_map class_methods classes) filled.methods);
  }

  pub all_declared : (s : References) → AreLoaded user (texts a) → HasMembers a classes r s → DeclaresAll a classes s
  all_declared s loaded members = record {
    known = members.known;
    declared = record {
      types = subst (λ (rows : List Cells). AreDeclared s.heaps.strings rows (places classes)) (sym members.widens.types)
          (zip_later (HoldsPlace r.heaps.strings) (HoldsPlace s.heaps.strings) r.declared.types (places classes)
          (λ cells p k. place_kept r.heaps.strings s.heaps.strings members.widens.strings cells p k) types.declared);
      fields = members.fields;
      methods = members.methods;
    };
    can = λ later g. can r later types (widens_trans r s later members.widens (widened s later g));
    externs_are = members.widens.externs ∙ types.externs_are;
    room = (let bytes = begun_bytes_are a classes in let long = loaded.size in let first = types.room in let then = members.room in omega arith);
  }

  pub members_room : length user.bytes + begun_bytes a classes ≤ 2 ^ 26 → size r + (fields_bytes a classes + methods_bytes a classes) ≤ 2 ^ 26
  members_room room = let bytes = begun_bytes_are a classes in let first = types.room in omega arith
