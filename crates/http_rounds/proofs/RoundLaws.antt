-- What holds of the answers and the settle of a round holds of all of it.
use Rattle.std.proofs.Common.{ℕ, List, [], ◌∷◌, take, drop, Bool, Option, Some, None, ap, sym, subst}
use Rattle.http.specs.declared.request.Request.{Request}
use Rattle.http_server.specs.Exchange.{Call, Chain}
use Rattle.http_server.specs.declared.response.Response.{Response}
use Rattle.http_rounds.specs.Rounds.{AreAnswered, AreAnsweredFrom, IsServingRound, PlaceAnswers}
use Rattle.http_rounds.specs.declared.peer.Peer.{Peer}

-- What each answer and the settle keep is kept.
module _ {S : Type 0} (answers : S → Request (List ℕ) → Response → S → Type 0) (Holds : S → Type 0)
    (on : (old : S) (request : Request (List ℕ)) (response : Response) (new : S) → answers old request response new → Holds old → Holds new) where
  chain_holds : (old new : S) (calls : List Call) → Chain answers old calls new → Holds old → Holds new
  chain_holds old new [] same holds = subst Holds (sym same) holds
  chain_holds old new (call ∷ calls) chain holds =
      let (next, first, rest) = chain in
      chain_holds next new calls rest (on old call.0 call.1 next first holds)

  place_holds : (old new : S) (before after : Option Peer) → PlaceAnswers answers old before after new → Holds old → Holds new
  place_holds old new (Some before) (Some after) is holds = let (calls, behind, chain) = is.0 in chain_holds old new calls chain holds
  place_holds old new None None is holds = subst Holds (sym is) holds
  place_holds old new (Some before) None is holds = absurd is
  place_holds old new None (Some after) is holds = absurd is

  answered_holds : (old new : S) (before after : List (Option Peer)) → AreAnswered answers old before after new → Holds old → Holds new
  answered_holds old new [] [] is holds = subst Holds (sym is) holds
  answered_holds old new (place ∷ before) (now ∷ after) is holds =
      let (next, here, rest) = is in
      answered_holds next new before after rest (place_holds old next place now here holds)
  answered_holds old new [] (now ∷ after) is holds = absurd is
  answered_holds old new (place ∷ before) [] is holds = absurd is

  pub round_holds : (settles : S → Bool → S → Type 0) → ((old : S) (stands : Bool) (new : S) → settles old stands new → Holds old → Holds new)
      → (old new : S) (peers after : List (Option Peer)) → IsServingRound answers settles old peers new after → Holds old → Holds new
  round_holds settles ends old new peers after round holds =
      let (between, behind, front) = round.answered in
      let middle = answered_holds old between (drop round.first round.begun) (drop round.first round.read) behind holds in
      ends round.called round.stands new round.settled (answered_holds between round.called (take round.first round.begun) (take round.first round.read) front middle)

-- A round of a service is one of another that is seen in it.
module _ {S T : Type 0} (of : S → T) (answers : S → Request (List ℕ) → Response → S → Type 0) (those : T → Request (List ℕ) → Response → T → Type 0)
    (on : (old : S) (request : Request (List ℕ)) (response : Response) (new : S) → answers old request response new → those (of old) request response (of new)) where
  chain_along : (old new : S) (calls : List Call) → Chain answers old calls new → Chain those (of old) calls (of new)
  chain_along old new [] same = ap of same
  chain_along old new (call ∷ calls) chain =
      let (next, first, rest) = chain in
      (of next, on old call.0 call.1 next first, chain_along next new calls rest)

  place_along : (old new : S) (before after : Option Peer) → PlaceAnswers answers old before after new → PlaceAnswers those (of old) before after (of new)
  place_along old new (Some before) (Some after) is =
      let (calls, behind, chain) = is.0 in
      ((calls, behind, chain_along old new calls chain), is.1, is.2)
  place_along old new None None is = ap of is
  place_along old new (Some before) None is = absurd is
  place_along old new None (Some after) is = absurd is

  answered_along : (old new : S) (before after : List (Option Peer)) → AreAnswered answers old before after new → AreAnswered those (of old) before after (of new)
  answered_along old new [] [] is = ap of is
  answered_along old new (place ∷ before) (now ∷ after) is =
      let (next, here, rest) = is in
      (of next, place_along old next place now here, answered_along next new before after rest)
  answered_along old new [] (now ∷ after) is = absurd is
  answered_along old new (place ∷ before) [] is = absurd is

  from_along : (first : ℕ) (old new : S) (before after : List (Option Peer)) → AreAnsweredFrom answers first old before after new → AreAnsweredFrom those first (of old) before after (of new)
  from_along first old new before after is =
      let (between, behind, front) = is in
      (of between, answered_along old between (drop first before) (drop first after) behind, answered_along between new (take first before) (take first after) front)

  pub round_along : (settles : S → Bool → S → Type 0) (ends : T → Bool → T → Type 0) → ((old : S) (stands : Bool) (new : S) → settles old stands new → ends (of old) stands (of new))
      → (old new : S) (peers after : List (Option Peer)) → IsServingRound answers settles old peers new after → IsServingRound those ends (of old) peers (of new) after
  round_along settles ends at_end old new peers after round = record {
    begun = round.begun;
    begin = round.begin;
    read = round.read;
    called = of round.called;
    first = round.first;
    answered = from_along round.first old round.called round.begun round.read round.answered;
    stands = round.stands;
    settled = at_end round.called round.stands new round.settled;
    sent = round.sent;
  }
