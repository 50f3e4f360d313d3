-- Maps that tell what the tokens of an image name.
use Rattle.std.proofs.Common.{◌≡◌, ℕ, ◌^◌, ◌≤◌, List, length, Option}
use Rattle.heaps.specs.Content.{HasText, HasBlob, HasUnits}
use Rattle.heaps.specs.LookUp.{BlobIsComputed}
use Rattle.body_codec.specs.Names.{NameMap}
use Rattle.type_terms.specs.declared.term.Owner.{Owner}
use Rattle.image_model.specs.Streams.{strings_of, user_of, blobs_of}
use Rattle.image_model.specs.Naming.{TellsOwners, NamesMethod, NamesField, NamesLocals, NamesText}
use Rattle.image_model.specs.Namings.{AreNamings}
use Rattle.image_model.specs.Faults.{HasTables}
use Rattle.image_namings.specs.Laws.{NamingExists}
use Rattle.image_namings.proofs.Decided.{value_of, told}
use Rattle.image_namings.proofs.Standing.{Stands, stands}
use Rattle.image_namings.proofs.Rows.{few_methods, few_members}
use Rattle.image_namings.proofs.Owners.{all_owners}
use Rattle.image_namings.proofs.Members.{Reads, method_one, method_named, field_one, field_named, locals_one, locals_named}
use Rattle.image_namings.proofs.Texts.{text_one, text_named}

-- the laws of the layers below
pub record Given : Type 0 where
  pub text : (heap : List ℕ) (index : ℕ) (text other : List ℕ) → HasText heap index text → HasText heap index other → text ≡ other
  pub blob : (heap : List ℕ) (index : ℕ) (blob other : List ℕ) → HasBlob heap index blob → HasBlob heap index other → blob ≡ other
  pub units : (heap : List ℕ) (index : ℕ) (units other : List ℕ) → HasUnits heap index units → HasUnits heap index other → units ≡ other
  pub computed : BlobIsComputed
  pub reads : Reads

module _ (given : Given) (image : List ℕ) (short : length image ≤ 2 ^ 26) (tables : HasTables image) (stood : Stands image) where
  with_owners : (owners : ℕ → Option Owner) → TellsOwners image owners → (names : NameMap) × AreNamings image names
  with_owners owners tells =
      let text = given.text (strings_of image) in
      let blob = given.blob (blobs_of image) in
      let methods = λ (token : ℕ). method_named image given.reads text blob stood owners (λ row there. few_methods image row short tables there) (λ row there. few_members image row short tables there) token in
      let fields = λ (token : ℕ). field_named image given.reads text blob stood owners token in
      let locals = λ (token : ℕ). locals_named image given.reads text blob stood owners token in
      let texts = λ (token : ℕ). text_named image given.computed (given.units (user_of image)) token in (
        record {
          owners = owners;
          methods = λ token. value_of (NamesMethod image owners token) (methods token);
          fields = λ token. value_of (NamesField image owners token) (fields token);
          locals = λ token. value_of (NamesLocals image owners token) (locals token);
          texts = λ token. value_of (NamesText image token) (texts token);
        },
        record {
          owners = tells;
          methods = λ token m. told (NamesMethod image owners token) (method_one image given.reads text blob stood owners (λ row there. few_methods image row short tables there) (λ row there. few_members image row short tables there) token) (methods token) m;
          fields = λ token f. told (NamesField image owners token) (field_one image given.reads text blob stood owners token) (fields token) f;
          locals = λ token types. told (NamesLocals image owners token) (locals_one image given.reads text blob stood owners token) (locals token) types;
          texts = λ token units. told (NamesText image token) (text_one image given.computed (given.units (user_of image)) token) (texts token) units;
        },
      )

  all_names : (names : NameMap) × AreNamings image names
  all_names =
      let o = all_owners image given.reads.type (given.text (strings_of image)) (given.blob (blobs_of image)) stood in
      with_owners o.0 o.1

pub naming_exists : Given → NamingExists
naming_exists given image any short tables holds = all_names given image short tables (stands image any holds)
