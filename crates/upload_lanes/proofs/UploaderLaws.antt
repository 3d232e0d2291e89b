-- What an uploader's steps keep.
use Rattle.std.proofs.Common.{◌≡◌, ℕ, zero, suc, ◌+◌, ◌≤◌, ◌<◌, ◌^◌, List, [], ◌∷◌, ◌++◌, length, map, take, Bool, true, false, Option, Some, None, refl, sym, ap, subst, ◌∙◌, arith, append_assoc, append-nil}
use Rattle.std.proofs.lemmas.List.{length-append, map-append, length-map}
use Rattle.std.specs.Option.{option_to_list}
use Rattle.std.specs.Prelude.{IfSome}
use Rattle.std.specs.List.{AllByRecursion}
use Rattle.byte_streams.specs.Answers.{Answer}
use Rattle.byte_streams.specs.Reading.{Reading, ReadsWhile}
use Rattle.byte_streams.proofs.ReadingLaws.{reads_none}
use Rattle.lane_queue.proofs.Steps.{all_append}
use Rattle.lane_queue.specs.Items.{next_item}
use Rattle.lane_queue.specs.declared.item.Item.{Item}
use Rattle.lane_queue.specs.declared.view.QueueView.{QueueView}
use Rattle.upload_reader.specs.Limits.{max_messages}
use Rattle.upload_reader.specs.Next.{given_by, ending_by, next_of, IfGot, IfOver}
use Rattle.upload_reader.specs.Stream.{Costed, MayFollow, messages_of}
use Rattle.upload_reader.specs.Upload.{UploadState, IsUntouched, GivesFirst, EndsBy, NothingMore}
use Rattle.upload_reader.specs.declared.ending.Ending.{Ending}
use Rattle.upload_reader.specs.declared.message.Message.{Message}
use Rattle.upload_reader.specs.declared.next.Next.{Next}
use Rattle.upload_reader.specs.Session.{session_fault}
use Rattle.upload_reader.specs.declared.next.Next.TheVariants.{Got, Over, GaveUp}
use Rattle.lanes_in_turn.proofs.LaneSteps.{read_on}
use Rattle.lanes_in_turn.proofs.RoundLaws.{nothing_first}
use Rattle.lanes_in_turn.specs.Lane.{NotOver}
use Rattle.upload_lanes.specs.inside.Sent.{bodies, is_last, AreNext, IsMarked, parts, apart, spread, AreSmall, IsReadOn, IsPutting, GivesRead, IsHeld, HasPut, Sends}
use Rattle.upload_lanes.proofs.SpreadLaws.{bodies_each, marked_each, some_each, spread_more}
use Rattle.upload_lanes.specs.declared.sent.Parcel.{Parcel}
use Rattle.upload_lanes.specs.declared.sent.Sent.{Sent}
use Rattle.upload_lanes.specs.declared.sent.Sent.TheVariants.{One, Last}

-- what is sent of an upload that gave these messages and ended so
abbrev pub sent_items : List Costed → Option Ending → List Sent
sent_items given ending = map One given ++ map Last (option_to_list ending)

pub bodies_more : (items : List (Item Sent)) (item : Item Sent) → bodies (items ++ item ∷ []) ≡ bodies items ++ item.body ∷ []
bodies_more items item = map-append (λ one. one.body) items (item ∷ [])

take_front : {X : Type 0} (xs ys : List X) → take (length xs) (xs ++ ys) ≡ xs
take_front [] ys = refl
take_front (x ∷ xs) ys = ap (λ rest. x ∷ rest) (take_front xs ys)

-- one by itself
pub alone : (parcel : Parcel) (body : Sent) → parcel.first ≡ body → parcel.more.items ≡ [] → parts parcel ≡ body ∷ []
alone parcel body first none = ap (λ rest. parcel.first ∷ rest) none ∙ ap (λ one. one ∷ []) first

-- what is held behind a front of messages are messages
ones : (front : List Sent) (given : List Costed) (held : List Sent) → map One given ≡ front ++ held → AllByRecursion (λ body. false ≡ is_last body) held
ones [] [] [] is = tt
ones [] [] (body ∷ held) is = cc
ones [] (one ∷ given) [] is = tt
ones [] (one ∷ given) (body ∷ held) is =
    let same : One one ≡ body = cc in
    let rest : map One given ≡ held = cc in
    (subst (λ b. false ≡ is_last b) same refl, ones [] given held rest)
ones (body ∷ front) [] held is = cc
ones (body ∷ front) (one ∷ given) held is = let rest : map One given ≡ front ++ held = cc in ones front given held rest

module _ (v w : QueueView Parcel) (last : Bool) (parcel : Parcel) (after : w.put ≡ v.put ++ next_item v.lane v.put last parcel ∷ []) where
  put_spread : spread w.put ≡ spread v.put ++ apart (next_item v.lane v.put last parcel)
  put_spread = ap spread after ∙ spread_more v.put (next_item v.lane v.put last parcel)

  put_bodies : bodies (spread w.put) ≡ bodies (spread v.put) ++ parts parcel
  put_bodies =
      ap bodies put_spread ∙ map-append (λ one. one.body) (spread v.put) (apart (next_item v.lane v.put last parcel))
      ∙ ap (λ all. bodies (spread v.put) ++ all) (bodies_each (next_item v.lane v.put last parcel) (parts parcel))

  put_marked : AllByRecursion IsMarked (spread v.put) → AllByRecursion (λ body. last ≡ is_last body) (parts parcel) → AllByRecursion IsMarked (spread w.put)
  put_marked marked marks = subst (AllByRecursion IsMarked) (sym put_spread)
      (all_append IsMarked (spread v.put) (apart (next_item v.lane v.put last parcel)) marked (marked_each (next_item v.lane v.put last parcel) (parts parcel) marks))

  put_small : (size : ℕ) → AreSmall size v.put → length (parts parcel) ≤ size → AreSmall size w.put
  put_small size small fits = subst (AreSmall size) (sym after) (all_append (λ item. length (parts item.body) ≤ size) v.put (next_item v.lane v.put last parcel ∷ []) small (fits, tt))

-- ---- messages that may follow

-- one more
next_more : (earlier : List Message) (messages : List Costed) (one : Costed) → AreNext earlier messages → session_fault (earlier ++ messages_of messages) one.0 ≡ None → AreNext earlier (messages ++ one ∷ [])
next_more earlier [] one are is = (ap (λ e. session_fault e one.0) (sym (append-nil earlier)) ∙ is, tt)
next_more earlier (first ∷ messages) one are is =
    (are.0, next_more (earlier ++ first.0 ∷ []) messages one are.1 (ap (λ e. session_fault e one.0) (append_assoc earlier (first.0 ∷ []) (messages_of messages)) ∙ is))

-- and what that says of the last one
pub next_last : (earlier : List Message) (messages : List Costed) (one : Costed) → AreNext earlier (messages ++ one ∷ []) → AreNext earlier messages × (session_fault (earlier ++ messages_of messages) one.0 ≡ None)
next_last earlier [] one are = (tt, ap (λ e. session_fault e one.0) (append-nil earlier) ∙ are.0)
next_last earlier (first ∷ messages) one are =
    let rest = next_last (earlier ++ first.0 ∷ []) messages one are.1 in
    ((are.0, rest.0), ap (λ e. session_fault e one.0) (sym (append_assoc earlier (first.0 ∷ []) (messages_of messages))) ∙ rest.1)

-- the first ones of them
pub next_first : (earlier : List Message) (n : ℕ) (messages : List Costed) → AreNext earlier messages → AreNext earlier (take n messages)
next_first earlier zero messages are = tt
next_first earlier (suc n) [] are = tt
next_first earlier (suc n) (one ∷ messages) are = (are.0, next_first (earlier ++ one.0 ∷ []) n messages are.1)

next_given : (earlier : List Message) (given : List Costed) (next : Next) → IfGot next (λ message cost. session_fault (earlier ++ messages_of given) message ≡ None) → AreNext earlier given → AreNext earlier (given ++ given_by next)
next_given earlier given (Got message cost) lawful are = next_more earlier given (message, cost) are lawful
next_given earlier given (Over end) lawful are = subst (AreNext earlier) (sym (append-nil given)) are
next_given earlier given GaveUp lawful are = subst (AreNext earlier) (sym (append-nil given)) are

module _ {R : Type 0} where
  -- ---- what was read

  ended_so : (v : UploadState R) (next : Next) → IfOver next (EndsBy v) → IfSome (ending_by next) (λ ending. IfOver (next_of ending) (EndsBy v))
  ended_so v (Got message cost) over = tt
  ended_so v (Over end) over = over
  ended_so v GaveUp over = tt

  pub read_next : (begun u v : UploadState R) (next : Next) → v ≡ record u { lines = v.lines; given = u.given ++ given_by next; ending = ending_by next }
      → ReadsWhile (NothingMore u) u.lines v.lines → GivesFirst v → length v.given ≤ max_messages → IfOver next (EndsBy v) → IfGot next (λ message cost. MayFollow u.lane u.given message) → IsReadOn begun u → IsReadOn begun v
  read_next begun u v next is reads first few over lawful before = record {
    own = read_on begun u v (u.given ++ given_by next) (ending_by next) before.own is reads;
    first = first;
    few = few;
    over = subst (λ e. IfSome e (λ ending. IfOver (next_of ending) (EndsBy v))) (sym (ap (λ upload. upload.ending) is)) (ended_so v next over);
    lawful = subst (λ upload. AreNext upload.lane.earlier upload.given) (sym is) (next_given u.lane.earlier u.given next lawful before.lawful);
  }

  pub read_none : (upload : UploadState R) → IsUntouched upload → IsReadOn upload upload
  read_none upload untouched =
      let none : length upload.given ≡ 0 = ap length untouched.given in
      record {
        own = record { client = refl; lane = refl; start = refl; reads = reads_none (NotOver upload) upload.lines upload.lines refl refl };
        first = nothing_first upload untouched.given;
        few = omega (arith, none);
        over = subst (λ e. IfSome e (λ ending. IfOver (next_of ending) (EndsBy upload))) (sym untouched.ending) tt;
        lawful = subst (AreNext upload.lane.earlier) (sym untouched.given) tt;
      }

  -- ---- what was put

  pub put_none : (size : ℕ) (v : QueueView Parcel) (upload : UploadState R) → v.put ≡ [] → IsUntouched upload → IsPutting size v.put [] upload
  put_none size v upload empty untouched =
      let none : length upload.given ≡ 0 = ap length untouched.given in
      record {
        going = untouched.ending;
        all = ap (map One) untouched.given ∙ sym (ap (λ put. bodies (spread put) ++ []) empty);
        marked = subst (λ put. AllByRecursion IsMarked (spread put)) (sym empty) tt;
        small = subst (AreSmall size) (sym empty) tt;
        few = omega (arith, none);
      }

  pub nothing_put : (size : ℕ) (put : List (Item Parcel)) (u : UploadState R) → IsPutting size put [] u → HasPut size put u
  nothing_put size put u putting = record {
    front = record {
      rest = [];
      few = omega arith;
      front = ap (λ ending. sent_items u.given ending) putting.going ∙ append-nil (map One u.given) ∙ putting.all;
      marked = putting.marked;
    };
    small = putting.small;
  }

  -- an uploader puts its messages, and an end
  pub few_uploaded : (size : ℕ) (put : List (Item Parcel)) (begun u : UploadState R) → IsReadOn begun u → HasPut size put u → length put < 2 ^ 57
  few_uploaded size put begun u read has_put =
      let is_put = has_put.front in
      let ends : length (option_to_list u.ending) ≤ 1 = one_at_most u.ending in
      let sent : length (sent_items u.given u.ending) ≡ length u.given + length (option_to_list u.ending) =
      length-append (map One u.given) (map Last (option_to_list u.ending))
      ∙ ap (λ n. n + length (map Last (option_to_list u.ending))) (length-map u.given One) ∙ ap (λ n. length u.given + n) (length-map (option_to_list u.ending) Last) in
      let whole : length (sent_items u.given u.ending) ≡ length (bodies (spread put)) + length is_put.rest = ap length is_put.front ∙ length-append (bodies (spread put)) is_put.rest in
      let same : length (bodies (spread put)) ≡ length (spread put) = length-map (spread put) (λ item. item.body) in
      let each = some_each put in
      omega (arith, ends, sent, whole, same, each, read.few)
    where
      one_at_most : (ending : Option Ending) → length (option_to_list ending) ≤ 1
      one_at_most None = omega arith
      one_at_most (Some end) = omega arith

  -- and no more items than messages before its end
  pub few_put : (size : ℕ) (put : List (Item Parcel)) (held : List Sent) (u : UploadState R) → IsPutting size put held u → length put ≤ max_messages
  few_put size put held u putting =
      let whole : length u.given ≡ length (bodies (spread put)) + length held = sym (length-map u.given One) ∙ ap length putting.all ∙ length-append (bodies (spread put)) held in
      let same : length (bodies (spread put)) ≡ length (spread put) = length-map (spread put) (λ item. item.body) in
      let each = some_each put in
      omega (arith, whole, same, each, putting.few)

  -- a message was given, which is held
  pub one_held : (size : ℕ) (put : List (Item Parcel)) (u v : UploadState R) (one : Costed) (parcel : Parcel) → IsPutting size put [] u → v.given ≡ u.given ++ one ∷ [] → v.ending ≡ None
      → length v.given ≤ max_messages → parts parcel ≡ One one ∷ [] → IsPutting size put (parts parcel) v
  one_held size put u v one parcel putting given going few is = record {
    going = going;
    all = ap (map One) given ∙ map-append One u.given (one ∷ []) ∙ ap (λ front. front ++ One one ∷ []) (putting.all ∙ append-nil (bodies (spread put))) ∙ ap (λ held. bodies (spread put) ++ held) (sym is);
    marked = putting.marked;
    small = putting.small;
    few = few;
  }

  -- ---- a parcel was filled

  pub held_none : (parcel : Parcel) (u : UploadState R) → IsHeld parcel u parcel u
  held_none parcel u front all = all

  pub held_then : (a : Parcel) (u : UploadState R) (b : Parcel) (v : UploadState R) (c : Parcel) (w : UploadState R) → IsHeld a u b v → IsHeld b v c w → IsHeld a u c w
  held_then a u b v c w first second front all = second front (first front all)

  pub held_one : (a : Parcel) (u : UploadState R) (b : Parcel) (v : UploadState R) (one : Costed) → v.given ≡ u.given ++ one ∷ [] → parts b ≡ parts a ++ One one ∷ [] → IsHeld a u b v
  held_one a u b v one given more front all =
      ap (map One) given ∙ map-append One u.given (one ∷ []) ∙ ap (λ before. before ++ One one ∷ []) all ∙ append_assoc front (parts a) (One one ∷ [])
      ∙ ap (λ held. front ++ held) (sym more)

  pub held_same : (a : Parcel) (u v : UploadState R) → v.given ≡ u.given ++ [] → IsHeld a u a v
  held_same a u v given front all = ap (map One) (given ∙ append-nil u.given) ∙ all

  -- no read was made where what was read before told of more
  not_read : (u : UploadState R) (lines : Reading R) → ReadsWhile (NothingMore u) u.lines lines → ¬ NothingMore u u.lines.answers → lines.answers ≡ u.lines.answers
  not_read u lines reads there = by reads.more reads.answers
    where
      by : (more : List Answer) → lines.answers ≡ u.lines.answers ++ more → lines.answers ≡ u.lines.answers
      by [] is = is ∙ append-nil u.lines.answers
      by (answer ∷ more) is =
          let size : length lines.answers ≡ length u.lines.answers + suc (length more) = ap length is ∙ length-append u.lines.answers (answer ∷ more) in
          let before : take (length u.lines.answers) lines.answers ≡ u.lines.answers = ap (take (length u.lines.answers)) is ∙ take_front u.lines.answers (answer ∷ more) in
          absurd (there (subst (NothingMore u) before (reads.needed (length u.lines.answers) (omega arith) (omega (arith, size)))))

  pub gives_none : (u : UploadState R) → length u.given ≤ max_messages → GivesRead u u
  gives_none u few = record { unread = refl; read = λ begun before. before; few = few }

  pub gives_then : (u v w : UploadState R) → GivesRead u v → GivesRead v w → GivesRead u w
  gives_then u v w first second = record {
    unread = second.unread ∙ first.unread;
    read = λ begun before. second.read begun (first.read begun before);
    few = second.few;
  }

  -- the next answer was read already
  pub gives_read : (u v : UploadState R) (next : Next) → v ≡ record u { lines = v.lines; given = u.given ++ given_by next; ending = ending_by next }
      → ReadsWhile (NothingMore u) u.lines v.lines → ¬ NothingMore u u.lines.answers → GivesFirst v → length v.given ≤ max_messages → IfOver next (EndsBy v) → IfGot next (λ message cost. MayFollow u.lane u.given message) → GivesRead u v
  gives_read u v next is reads there first few over lawful = record {
    unread = not_read u v.lines reads there;
    read = λ begun before. read_next begun u v next is reads first few over lawful before;
    few = few;
  }

  -- ---- it was put

  module _ (size : ℕ) (u : UploadState R) (a b : QueueView Parcel) (held : List Sent) (putting : IsPutting size a.put held u) (parcel : Parcel) (v : UploadState R)
      (whole : map One v.given ≡ bodies (spread a.put) ++ parts parcel) (fits : length (parts parcel) + length (option_to_list v.ending) ≤ size) (few : length v.given ≤ max_messages) where
    messages : AllByRecursion (λ body. false ≡ is_last body) (parts parcel)
    messages = ones (bodies (spread a.put)) v.given (parts parcel) whole

    pub put_all : (now : UploadState R) → now.given ≡ v.given → now.ending ≡ None → Sends a b false parcel true → IsPutting size b.put [] now
    put_all now same going sends =
        let after : b.put ≡ a.put ++ next_item a.lane a.put false parcel ∷ [] = ap (λ view. view.put) sends in
        let many = ap length same in
        record {
          going = going;
          all = ap (map One) same ∙ whole ∙ sym (put_bodies a b false parcel after) ∙ sym (append-nil (bodies (spread b.put)));
          marked = put_marked a b false parcel after putting.marked messages;
          small = put_small a b false parcel after size putting.small (omega (arith, fits));
          few = omega (arith, few, many);
        }

    pub put_nothing : Sends a b false parcel false → HasPut size b.put v
    put_nothing sends =
        let after : b.put ≡ a.put = ap (λ view. view.put) sends in
        record {
          front = record {
            rest = parts parcel ++ map Last (option_to_list v.ending);
            few = let all = length-append (parts parcel) (map Last (option_to_list v.ending)) in let ends = length-map (option_to_list v.ending) Last in omega (arith, fits, all, ends);
            front =
                ap (λ front. front ++ map Last (option_to_list v.ending)) (whole ∙ ap (λ put. bodies (spread put) ++ parts parcel) (sym after))
                ∙ append_assoc (bodies (spread b.put)) (parts parcel) (map Last (option_to_list v.ending));
            marked = subst (λ put. AllByRecursion IsMarked (spread put)) (sym after) putting.marked;
          };
          small = subst (AreSmall size) (sym after) putting.small;
        }

  module _ (size : ℕ) (some : 1 ≤ size) (u : UploadState R) (a b : QueueView Parcel) (putting : IsPutting size a.put [] u) (v : UploadState R) (ending : Ending)
      (given : v.given ≡ u.given ++ []) (ended : v.ending ≡ Some ending) (parcel : Parcel) (is : parts parcel ≡ Last ending ∷ []) where
    whole_last : sent_items v.given v.ending ≡ bodies (spread a.put) ++ Last ending ∷ []
    whole_last =
        ap (λ e. sent_items v.given e) ended ∙ ap (λ all. map One all ++ Last ending ∷ []) (given ∙ append-nil u.given)
        ∙ ap (λ front. front ++ Last ending ∷ []) (putting.all ∙ append-nil (bodies (spread a.put)))

    pub put_last : (done : Bool) → Sends a b true parcel done → HasPut size b.put v
    put_last true sends =
        let after : b.put ≡ a.put ++ next_item a.lane a.put true parcel ∷ [] = ap (λ view. view.put) sends in
        let one : length (parts parcel) ≡ 1 = ap length is in
        record {
          front = record {
            rest = [];
            few = omega arith;
            front = whole_last ∙ ap (λ last. bodies (spread a.put) ++ last) (sym is) ∙ sym (put_bodies a b true parcel after) ∙ sym (append-nil (bodies (spread b.put)));
            marked = put_marked a b true parcel after putting.marked (subst (AllByRecursion (λ body. true ≡ is_last body)) (sym is) (refl, tt));
          };
          small = put_small a b true parcel after size putting.small (omega (arith, one, some));
        }
    put_last false sends =
        let after : b.put ≡ a.put = ap (λ view. view.put) sends in
        record {
          front = record {
            rest = Last ending ∷ [];
            few = omega (arith, some);
            front = whole_last ∙ ap (λ put. bodies (spread put) ++ Last ending ∷ []) (sym after);
            marked = subst (λ put. AllByRecursion IsMarked (spread put)) (sym after) putting.marked;
          };
          small = subst (AreSmall size) (sym after) putting.small;
        }
