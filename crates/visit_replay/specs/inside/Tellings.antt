-- Requests as they are told: what each told one is, and which are still to be told.
use Rattle.std.specs.Prelude.{ℕ, List, [], All, map, true, if◌then◌else◌, Option, None}
use Rattle.form_urlencoded.specs.Form.{extend_pairs, serialize_pair}
use Rattle.visit_replay.specs.Form.{Pair, sent_to}
use Rattle.visit_replay.specs.Requests.{load_request}
use Rattle.visit_replay.specs.inside.FieldsNow.{pair_now, told}
use Rattle.visit_replay.specs.inside.Senders.{SaysFresh, sent_all}
use Rattle.visit_replay.specs.declared.requests.Method.TheVariants.{Get}
use Rattle.visit_replay.specs.declared.requests.Request.{Request}
use Rattle.visit_replay.specs.declared.senders.Sender.{Sender}
use Rattle.visit_replay.specs.declared.sent_pairs.SentPairs.{SentPairs}
use Rattle.visit_replay.specs.declared.told.ToldRequest.{ToldRequest}
use Rattle.visit_replay.specs.declared.told.ToldRequest.TheVariants.{Load, Link, Form}

-- what one of a form's senders sends
abbrev pub pair_told : SentPairs → Sender → Option Pair
pair_told pairs sender = pair_now pairs.filled sender.number

-- the pairs that are told
abbrev pub pairs_told : SentPairs → List Pair
pairs_told pairs = sent_all pairs.filled pairs.senders.now

-- of those that count, whose names aren't fresh
abbrev pub counted_told : SentPairs → Sender → Option Pair
counted_told pairs sender = if sender.is_fresh then None else pair_told pairs sender

-- the same, each as it is written, without the pairs of these names
abbrev pub encoded_told : List (List ℕ) → SentPairs → List (List ℕ)
encoded_told names pairs = map serialize_pair (told true names (pairs_told pairs))

-- the request that is told
abbrev pub told_request : ToldRequest → Request
told_request (Load address) = load_request address.now
told_request (Link number address) =
    record { number = number; method = Get; address = address.now; pairs = [] }
told_request (Form form) = sent_to form.post form.number form.action.now (extend_pairs [] (pairs_told form.pairs))

-- the same without the pairs of these names
abbrev pub told_counted : List (List ℕ) → ToldRequest → Request
told_counted names (Load address) = load_request address.now
told_counted names (Link number address) =
    record { number = number; method = Get; address = address.now; pairs = [] }
told_counted names (Form form) =
    sent_to form.post form.number form.action.now (extend_pairs [] (told true names (pairs_told form.pairs)))

-- it is known of its senders whether they have one of these names
abbrev pub KnowsFresh : List (List ℕ) → ToldRequest → Type 0
KnowsFresh names (Form form) = All (SaysFresh names) form.pairs.senders.now
KnowsFresh names other = Unit {0}
