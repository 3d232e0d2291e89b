-- The uploads with what became of each. Those that weren't taken come first, as on a long list they would be lost.
use Rattle.std.specs.Prelude.{ℕ, ◌-◌, List, [], ◌++◌, length, map, flat_map, decimal, not, nat_lt, if◌then◌else◌, slice_get}
use Rattle.std.specs.Option.{option_map_or}
use Rattle.replay_folder.specs.Names.{named_name}
use Rattle.replay_folder.specs.declared.ends.UploadEnd.{UploadEnd}
use Rattle.replay_folder.specs.declared.replayed.ToldUploads.{ToldUploads}
use Rattle.review_state.specs.Paging.{marked, shown_of}
use Rattle.review_pieces.specs.Pieces.{more_html, upload_html, uploads_html}
use Rattle.review_lists.specs.Words.{upload_words}
use Rattle.review_lists.specs.Attention.{was_taken}
use Rattle.review_lists.specs.declared.upload_list.TheConstants.{MOST_UPLOADS}

-- the one at that place
unfoldable pub upload_entry : ToldUploads → ℕ → List ℕ
upload_entry told place = option_map_or
    (λ name. option_map_or (λ end. upload_html (named_name name) (upload_words end)) (slice_get told.ends place) [])
    (slice_get told.named place) []

-- how many aren't shown
unfoldable pub more_than : ℕ → ℕ → List ℕ
more_than most count = if nat_lt most count then more_html (decimal (count - most)) else []

abbrev pub untaken_places : List UploadEnd → List ℕ
untaken_places ends = marked (map (λ end. not (was_taken end)) ends)

abbrev pub taken_places : List UploadEnd → List ℕ
taken_places ends = marked (map was_taken ends)

-- those that weren't taken, and as many others behind them as there is room for
abbrev pub listed_uploads : List UploadEnd → List ℕ
listed_uploads ends = let untaken = shown_of 0 MOST_UPLOADS (untaken_places ends) in
    untaken ++ shown_of 0 (MOST_UPLOADS - length untaken) (taken_places ends)

unfoldable pub upload_list : ToldUploads → List ℕ
upload_list told = uploads_html (decimal (length told.ends)) (decimal (length (untaken_places told.ends)))
    (flat_map (upload_entry told) (listed_uploads told.ends) ++ more_than MOST_UPLOADS (length told.ends))
