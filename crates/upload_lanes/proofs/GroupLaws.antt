-- What a lane's items say of its upload, and of its result.
use Rattle.std.proofs.Common.{◌≡◌, ℕ, suc, ◌+◌, ◌≤◌, ◌<◌, List, [], ◌∷◌, ◌++◌, length, map, take, Bool, true, false, ◌||◌, is_some, if◌then◌else◌, Option, Some, None, refl, sym, ap, subst, ◌∙◌, arith, append_assoc, true≢false}
use Rattle.std.proofs.lemmas.List.{length-append, map-append, length-map}
use Rattle.std.specs.Option.{option_to_list}
use Rattle.std.specs.Prelude.{IfSome}
use Rattle.std.specs.List.{AllByRecursion}
use Rattle.lane_queue.specs.Items.{has_last}
use Rattle.lane_queue.specs.declared.item.Item.{Item}
use Rattle.upload_reader.specs.Next.{next_of, IfOver}
use Rattle.upload_reader.specs.Stream.{Costed}
use Rattle.upload_reader.specs.Upload.{UploadState, EndsBy}
use Rattle.upload_reader.specs.declared.ending.Ending.{Ending}
use Rattle.lanes_in_turn.specs.Lane.{Continues, EndsWith, IsTaken}
use Rattle.lanes_in_turn.specs.Taking.{GaveFewMore}
use Rattle.upload_lanes.specs.inside.Sent.{bodies, sent_messages, AreNext, ending_behind, is_last, IsMarked, IsPut}
use Rattle.upload_lanes.specs.inside.Party.{TellsUpload}
use Rattle.upload_lanes.specs.inside.Recording.{IsLaneRecorded}
use Rattle.lanes_in_turn.specs.declared.gathered.LaneResult.{LaneResult}
use Rattle.upload_lanes.specs.declared.sent.Sent.{Sent}
use Rattle.upload_lanes.specs.declared.sent.Sent.TheVariants.{One, Last}
use Rattle.upload_lanes.proofs.UploaderLaws.{sent_items, next_first}

abbrev pub ends_in : Option Ending → ℕ
ends_in end = if is_some end then 1 else 0

-- These are the first of what is sent: the first messages that were given, and, if an end is among them, all of them and that end.
pub record IsFront (given : List Costed) (ending : Option Ending) (items : List Sent) : Type 0 where
  pub messages : sent_messages items ≡ take (length (sent_messages items)) given
  pub some : length (sent_messages items) ≤ length given
  pub ended : IfSome (ending_behind None items) (λ end. (ending ≡ Some end) × (length (sent_messages items) ≡ length given))
  pub count : length items ≡ length (sent_messages items) + ends_in (ending_behind None items)

pub front : (given : List Costed) (ending : Option Ending) (items rest : List Sent) → sent_items given ending ≡ items ++ rest → IsFront given ending items
front given ending [] rest is = record { messages = refl; some = omega arith; ended = tt; count = refl }
front [] None (x ∷ items) rest is = cc
front [] (Some end) (x ∷ []) rest is =
    let same : x ≡ Last end = cc in
    subst (λ y. IsFront [] (Some end) (y ∷ [])) (sym same) (record { messages = refl; some = omega arith; ended = (refl, refl); count = refl })
front [] (Some end) (x ∷ y ∷ items) rest is = cc
front (message ∷ given) ending (x ∷ items) rest is =
    let same : x ≡ One message = cc in
    let others : sent_items given ending ≡ items ++ rest = cc in
    let r = front given ending items rest others in
    let more : IfSome (ending_behind None items) (λ end. (ending ≡ Some end) × (length (message ∷ sent_messages items) ≡ length (message ∷ given))) =
    longer (ending_behind None items) ending message (sent_messages items) given r.ended in
    subst (λ y. IsFront (message ∷ given) ending (y ∷ items)) (sym same)
    (record { messages = ap (λ all. message ∷ all) r.messages; some = omega (arith, r.some); ended = more; count = omega (arith, r.count) })
  where
    longer : (found ending : Option Ending) (message : Costed) (messages given : List Costed) → IfSome found (λ end. (ending ≡ Some end) × (length messages ≡ length given))
        → IfSome found (λ end. (ending ≡ Some end) × (length (message ∷ messages) ≡ length (message ∷ given)))
    longer None ending message messages given ended = tt
    longer (Some end) ending message messages given ended = (ended.0, ap suc ended.1)

-- ---- the last item

stays_ended : (end : Ending) (items : List Sent) → is_some (ending_behind (Some end) items) ≡ true
stays_ended end [] = refl
stays_ended end (One message ∷ items) = stays_ended end items
stays_ended end (Last other ∷ items) = stays_ended other items

or_none : (a b : Bool) → a ≡ false → (a || b) ≡ true → b ≡ true
or_none true b is some = absurd (true≢false is)
or_none false b is some = some

last_or_more : (body : Sent) (last : Bool) (items : List (Item Sent)) → last ≡ is_last body → (last || has_last items) ≡ true
    → (has_last items ≡ true → is_some (ending_behind None (bodies items)) ≡ true) → is_some (ending_behind None (body ∷ bodies items)) ≡ true
last_or_more (Last end) last items mark some more = stays_ended end (bodies items)
last_or_more (One message) last items mark some more = more (or_none last (has_last items) mark some)

-- among items that are marked, the last one is an end
pub ended_by_last : (items : List (Item Sent)) → AllByRecursion IsMarked items → has_last items ≡ true → is_some (ending_behind None (bodies items)) ≡ true
ended_by_last [] marked some = absurd (true≢false (sym some))
ended_by_last (x ∷ items) (mark, marked) some =
    let more : has_last items ≡ true → is_some (ending_behind None (bodies items)) ≡ true = ended_by_last items marked in
    last_or_more x.body x.last items mark some more

marked_front : (xs ys : List (Item Sent)) → AllByRecursion IsMarked (xs ++ ys) → AllByRecursion IsMarked xs
marked_front [] ys all = tt
marked_front (x ∷ xs) ys all = (all.0, marked_front xs ys all.1)

sent_more : (items : List Sent) (body : Sent) → is_last body ≡ false → length (sent_messages (items ++ body ∷ [])) ≡ length (sent_messages items) + 1
sent_more [] (One message) one = refl
sent_more [] (Last end) one = absurd (true≢false one)
sent_more (One message ∷ items) body one = let rest = sent_more items body one in omega (arith, rest)
sent_more (Last end ∷ items) body one = sent_more items body one

-- ---- a lane

module _ {R : Type 0} where
  -- the first of what was put is put too
  pub put_first : (more most : ℕ) (upload : UploadState R) (put items rest : List (Item Sent)) → put ≡ items ++ rest → length rest + more ≤ most → IsPut more put upload → IsPut most items upload
  put_first more most upload put items rest split fits is_put = record {
    rest = bodies rest ++ is_put.rest;
    few = let size = length-append (bodies rest) is_put.rest in let same = length-map rest (λ item. item.body) in omega (arith, size, same, is_put.few, fits);
    front = is_put.front ∙ ap (λ all. bodies all ++ is_put.rest) split ∙ ap (λ all. all ++ is_put.rest) (map-append (λ item. item.body) items rest)
        ∙ append_assoc (bodies items) (bodies rest) is_put.rest;
    marked = marked_front items rest (subst (AllByRecursion IsMarked) split is_put.marked);
  }

  module _ (first lane : LaneResult R) (begun upload : UploadState R) (items : List (Item Sent)) (recorded : IsLaneRecorded first lane (bodies items)) (more : ℕ) (told : TellsUpload more begun upload items) where
    is_front : IsFront upload.given upload.ending (bodies items)
    is_front = front upload.given upload.ending (bodies items) told.1.rest told.1.front

    ended_with : (found : Option Ending) → IfSome found (λ end. (upload.ending ≡ Some end) × (length (sent_messages (bodies items)) ≡ length upload.given)) → IfSome found (EndsWith upload lane.taken)
    ended_with None ended = tt
    ended_with (Some end) ended = record {
      ending = ended.0;
      all = recorded.taken ∙ ended.1;
      over = subst (λ e. IfSome e (λ last. IfOver (next_of last) (EndsBy upload))) ended.0 told.0.over;
    }

    lane_ends : IfSome lane.end (EndsWith upload lane.taken)
    lane_ends = subst (λ end. IfSome end (EndsWith upload lane.taken)) (sym recorded.end) (ended_with (ending_behind None (bodies items)) is_front.ended)

    -- the log's session is that behind which the upload began
    pub lane_taken : begun.lane.earlier ≡ first.log.session → IsTaken first.log begun (record lane { upload = Some upload })
    lane_taken behind = record {
      now = upload;
      upload_is = refl;
      own = told.0.own;
      first = told.0.first;
      few = told.0.few;
      some = subst (λ n. n ≤ length upload.given) (sym recorded.taken) is_front.some;
      goes_on =
          subst (λ messages. Continues first.log lane.log messages) (is_front.messages ∙ ap (λ n. take n upload.given) (sym recorded.taken))
          (recorded.goes_on (subst (AreNext first.log.session) (sym is_front.messages) (next_first first.log.session (length (sent_messages (bodies items))) upload.given
          (subst (λ earlier. AreNext earlier upload.given) (ap (λ lane. lane.earlier) told.0.own.lane ∙ behind) told.0.lawful))));
      ends = lane_ends;
    }

    -- as many items as were recorded
    pub lane_count : length items ≡ lane.taken + ends_in lane.end
    lane_count =
        sym (length-map items (λ item. item.body)) ∙ is_front.count ∙ ap (λ n. n + ends_in (ending_behind None (bodies items))) (sym recorded.taken) ∙ ap (λ end. lane.taken + ends_in end) (sym recorded.end)

    -- a message behind those that were recorded was given
    pub gave_more : (most : ℕ) (all : UploadState R) (item : Item Sent) → is_last item.body ≡ false → TellsUpload most begun all (items ++ item ∷ []) → lane.taken < length all.given
    gave_more most all item one more_told =
        let many = front all.given all.ending (bodies (items ++ item ∷ [])) more_told.1.rest more_told.1.front in
        let size = ap (λ is. length (sent_messages is)) (map-append (λ one. one.body) items (item ∷ [])) ∙ sent_more (bodies items) item.body one in
        omega (arith, recorded.taken, size, many.some)

    -- no more were given than that beyond those that were recorded
    sent_size : length (sent_items upload.given upload.ending) ≡ length upload.given + length (option_to_list upload.ending)
    sent_size =
        length-append (map One upload.given) (map Last (option_to_list upload.ending))
        ∙ ap (λ n. n + length (map Last (option_to_list upload.ending))) (length-map upload.given One) ∙ ap (λ n. length upload.given + n) (length-map (option_to_list upload.ending) Last)

    given_few : (end : Option Ending) → IfSome end (EndsWith upload lane.taken) → length items ≡ lane.taken + ends_in end → length upload.given ≤ lane.taken + more
    given_few None ends count =
        let none : length items ≡ lane.taken + 0 = count in
        let whole : length (sent_items upload.given upload.ending) ≡ length (bodies items) + length told.1.rest = ap length told.1.front ∙ length-append (bodies items) told.1.rest in
        let same : length (bodies items) ≡ length items = length-map items (λ item. item.body) in
        omega (arith, none, sent_size, whole, same, told.1.few)
    given_few (Some end) ends count = omega (arith, ends.all)

    pub few_more : GaveFewMore more (record lane { upload = Some upload })
    few_more now is =
        let same : upload ≡ now = cc in
        subst (λ all. length all.given ≤ lane.taken + more) same (given_few lane.end lane_ends lane_count)

    -- it has ended, where the last item is among them
    pub lane_ended : has_last items ≡ true → is_some lane.end ≡ true
    lane_ended some = ap is_some recorded.end ∙ ended_by_last items told.1.marked some
