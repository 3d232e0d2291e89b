-- Deeds as they are kept, in few bytes each: with all that was typed in one text, and what submits have besides.
use Rattle.std.specs.Prelude.{ℕ, ◌<◌, List, length, get_or, slice_range, None}
use Rattle.page_tree.specs.inside.Cuts.{IsCut}
use Rattle.visit_replay.specs.inside.Deed.{Deed, Typed, Clicked, Sent}
use Rattle.visit_replay.specs.declared.deeds.KeptDeed.{KeptDeed}
use Rattle.visit_replay.specs.declared.deeds.KeptDeed.TheVariants as kept
use Rattle.visit_replay.specs.declared.deeds.SeenDeed.{SeenDeed}
use Rattle.visit_replay.specs.declared.deeds.SeenDeed.TheVariants as seen
use Rattle.visit_replay.specs.declared.deeds.Submit.{Submit}

-- the deed that is seen
abbrev pub deed_seen : SeenDeed → Deed
deed_seen (seen.Typed field value) = Typed field value.now
deed_seen (seen.Clicked node req) = Clicked node req
deed_seen (seen.Sent form button req) = Sent form button req

abbrev pub no_submit : Submit
no_submit = record { button = None; req = 0 }

-- the deed that is kept so
abbrev pub deed_kept : List ℕ → List Submit → KeptDeed → Deed
deed_kept typed submits (kept.Typed field start end) = Typed field (slice_range typed start end)
deed_kept typed submits (kept.Clicked node req) = Clicked node req
deed_kept typed submits (kept.Sent form at) =
    let submit = get_or submits at no_submit in Sent form submit.button submit.req

-- what it needs besides is there
abbrev pub IsBacked : List ℕ → List Submit → KeptDeed → Type 0
IsBacked typed submits (kept.Typed field start end) = IsCut typed start end
IsBacked typed submits (kept.Clicked node req) = Unit {0}
IsBacked typed submits (kept.Sent form at) = at < length submits
