-- A pass that takes over what the seats drew, one seat after another, and what is then known of the word.
use Rattle.std.proofs.Common.{◌≡◌, ℕ, ◌+◌, ◌≤◌, All, List, [], ◌∷◌, ◌++◌, map, length, sym, ◌∙◌, ap, subst, arith, append_assoc}
use Rattle.std.specs.List.{sum_by}
use mathlib.Core.Option.{some, some-injective}
use lib.ListN.{get_elem?}
use Rattle.std.proofs.lemmas.List.{map-append, length-map, get_or-map}
use Rattle.atomic_table.specs.Table.{Final, Seen}
use Rattle.atomic_table.specs.Seated.{TableId}
use Rattle.replay_workers.specs.declared.view.Terms.{Terms}
use Rattle.replay_workers.specs.Draws.{Pool, Draws, EndsOnce, times, AreClaimed}
use Rattle.replay_workers.specs.inside.Rule.{IsInTurn}
use Rattle.replay_workers.specs.inside.Seats.{pool_of, Pass, IsGathered}
use Rattle.replay_workers.proofs.Lists.{sum-map}
use Rattle.replay_workers.proofs.Steps.{Told, tells}

-- one seat fewer is left
pub took_in : (pool : Pool) (before rest all : List Draws) (seat : Draws) (pass own next : Pass) → IsGathered pool before all pass
    → before ≡ rest ++ seat ∷ [] → seat.table_id ≡ pool.table_id → own.table_id ≡ seat.table_id → own.me.1 ≡ [] → own.me.0.rows ≡ seat.drawn ∷ []
    → next.table_id ≡ own.table_id → next.me ≡ (record own.me.0 { rows = own.me.0.rows ++ pass.me.0.rows }, own.me.1) → IsGathered pool rest all next
took_in pool before rest all seat pass own next kept last of own_of whole list next_of joined = record {
  of = next_of ∙ own_of ∙ of;
  whole = ap (λ me. me.1) joined ∙ whole;
  lists = ap (λ me. front ++ me.0.rows) joined ∙ ap (λ l. front ++ (l ++ pass.me.0.rows)) list ∙ sym (append_assoc front (seat.drawn ∷ []) pass.me.0.rows)
      ∙ ap (λ l. l ++ pass.me.0.rows) (sym (ap (map (λ (s : Draws). s.drawn)) last ∙ map-append (λ (s : Draws). s.drawn) rest (seat ∷ []))) ∙ kept.lists;
}
  where
    front : List (List ℕ)
    front = map (λ s. s.drawn) rest

-- what is known once the word is read
module _ (table_id : TableId) (terms : Terms) (pool : Pool) (seats : List Draws) (pass : Pass) (words : List ℕ) (slots : List (Unit {0})) (word : ℕ)
    (told : pool_of table_id terms ≡ pool) (kept : IsGathered pool [] seats pass) (whole : length seats ≡ pool.workers)
    (final : Final (Seen (IsInTurn terms) pass.id pass.me.0) words slots) (at : get_elem? words 0 ≡ some word) where
  told_of : Told terms pass.me.0.rows word
  told_of =
      let long : length pass.me.0.rows ≡ length seats = ap length kept.lists ∙ length-map seats (λ (seat : Draws). seat.drawn) in
      let it = tells terms words slots pass.id pass.me.0 (omega (arith, long, whole, ap (λ p. p.workers) told)) final in
      subst (Told terms pass.me.0.rows) (some-injective it.0 word (sym (ap (λ ws. get_elem? ws 0) it.1) ∙ at)) it.2

  pub word_claimed : AreClaimed word seats
  word_claimed x = sym (sum-map (times x) (λ (seat : Draws). seat.drawn) seats) ∙ ap (sum_by (times x)) (sym kept.lists) ∙ told_of.claimed x

  pub word_few : word ≤ pool.count + pool.workers
  word_few = subst (λ p. word ≤ p.count + p.workers) told told_of.few

  pub lists_end : All (λ seat. EndsOnce pool.count seat.drawn) seats
  lists_end = subst (λ (p : Pool). All (λ (seat : Draws). EndsOnce p.count seat.drawn) seats) told (λ k d less.
      subst (EndsOnce terms.count) (get_or-map (λ (seat : Draws). seat.drawn) seats k d d.drawn less)
      (subst (All (EndsOnce terms.count)) kept.lists told_of.ends k d.drawn (omega (arith, less, length-map seats (λ (seat : Draws). seat.drawn)))))
