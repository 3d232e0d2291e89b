-- Whose large request is answered next: this project's own rule.
use Rattle.std.specs.Prelude.{◌≡◌, ℕ, ◌+◌, List, Bool, true, false, drop, get_or, set, position, if◌then◌else◌, Option, Some, None, MatchOption}
use Rattle.std.specs.Option.{option_map_or}
use Rattle.http_rounds.specs.declared.peer.Peer.{Peer}
use Rattle.http_rounds.specs.declared.peers.Peers.{Peers}

abbrev pub waits_for_turn : Option Peer → Bool
waits_for_turn None = false
waits_for_turn (Some peer) = peer.waits

abbrev pub with_turn : Option Peer → Option Peer
with_turn None = None
with_turn (Some peer) = Some (record peer { has_turn = true })

-- the first place from that one on whose connection waits, else the first of all
abbrev pub next_turn : ℕ → List (Option Peer) → Option ℕ
next_turn from places = option_map_or
    (λ behind. Some (from + behind)) (position waits_for_turn (drop from places)) (position waits_for_turn places)

-- in this round; none behind a round with a turn
abbrev pub turn_now : Peers → Option ℕ
turn_now peers = if peers.rests then None else next_turn peers.turn peers.places.items

-- The connection there has its turn, the next one is looked for behind it, and the next round has none.
abbrev pub GivesTurn : Peers → Peers → Option ℕ → Type 0
GivesTurn old new next = MatchOption next
    ((new.turn ≡ old.turn) × (new.rests ≡ false) × (new.places.items ≡ old.places.items))
    (λ place. (new.turn ≡ place + 1) × (new.rests ≡ true)
    × (new.places.items ≡ set old.places.items place (with_turn (get_or old.places.items place None))))
