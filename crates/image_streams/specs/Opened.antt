-- An image whose headers, metadata root and tables meet what is asked of them (II.24.2, II.25).
use Rattle.std.specs.Prelude.{◌≡◌, ℕ, List}
use Rattle.image_model.specs.Faults.{HasTables}
use Rattle.image_model.specs.Streams.{tables_of, strings_of, user_of, guids_of, blobs_of}

-- these are the streams of the image
pub record IsOpened (image tables strings user guids blobs : List ℕ) : Type 0 where
  pub tables_are : tables ≡ tables_of image
  pub strings_are : strings ≡ strings_of image
  pub user_are : user ≡ user_of image
  pub guids_are : guids ≡ guids_of image
  pub blobs_are : blobs ≡ blobs_of image
  pub meets : HasTables image
