-- What putters and the taker count, after an item more.
use Rattle.std.proofs.Common.{◌≡◌, ◌≢◌, ℕ, zero, suc, ◌+◌, ◌<◌, ◌≤◌, Bool, true, false, cond, ◌||◌, not, List, [], ◌∷◌, ◌++◌, length, get_or, set, replicate, map, inl, inr, refl, sym, ◌∙◌, ap, arith, add-one, length-append}
use Rattle.std.proofs.Math.Bool.{or-false}
use Rattle.std.proofs.lemmas.Bool.{true_from_ne_false}
use Rattle.std.proofs.lemmas.Bool.Decides.{eqb_tells}
use Rattle.std.proofs.lemmas.List.{length-set, length-replicate, get_or-replicate, map-append}
use Rattle.std.proofs.lemmas.List.Elements.{All-push}
use Rattle.std.proofs.lemmas.List.Folds.{list_any-append}
use Rattle.std.proofs.lemmas.List.FromFn.{map-range_with_len_more, sum_by-map-range_with_len_more}
use Rattle.std.specs.List.{range_with_len}
use Rattle.crossbeam_queue.specs.Passes.{Pass, view}
use Rattle.lane_queue.specs.declared.item.Item.{Item}
use Rattle.lane_queue.specs.declared.view.QueueView.{QueueView}
use Rattle.lane_queue.specs.Items.{of_lane, has_last}
use Rattle.lane_queue.specs.Answers.{AreEnded}
use Rattle.lane_queue.specs.Opened.{fresh_taker, fresh_putter, ArePutters, IsNewPutterOf}
use Rattle.lane_queue.specs.Queue.{Queue, IsPassOf}
use Rattle.lane_queue.specs.Rule.{with_put, TakesItem}
use Rattle.lane_queue.specs.inside.Passes.{with_putter, IsPutter, IsTaker, running_lanes}
use Rattle.lane_queue.proofs.Lists.{of_more, of_same, entry_more}

module _ {T : Type 0} where
  pub last_more : (items : List (Item T)) (x : Item T) → has_last items ≡ false → has_last (items ++ x ∷ []) ≡ x.last
  last_more items x none = list_any-append (λ y. y.last) items (x ∷ []) ∙ ap (λ b. b || (x.last || false)) none ∙ or-false x.last

  -- a putter that put an item more
  pub put_more : (old new : Pass (Item T) (QueueView T)) (lane next : ℕ) (over : Bool) (x : Item T) → IsPutter old lane next over
      → has_last (view old).put ≡ false → view new ≡ with_put (view old) x → new.me.1 ≡ old.me.1 → IsPutter new lane (next + 1) x.last
  put_more old new lane next over x is open_ put whole = record {
    whole = whole ∙ is.whole;
    puts = ap (λ (v : QueueView T). v.puts) put ∙ is.puts;
    lane_is = is.lane_is ∙ ap (λ (v : QueueView T). v.lane) (sym put);
    next_is =
        let more : length (view new).put ≡ length ((view old).put ++ x ∷ []) = ap (λ (v : QueueView T). length v.put) put in
        omega (arith, is.next_is, more, length-append (view old).put (x ∷ []));
    over_is = sym (last_more (view old).put x open_) ∙ ap (λ (v : QueueView T). has_last v.put) (sym put);
  }

  -- ---- how many lanes run

  running_next : (got : List (Item T)) (n : ℕ) → running_lanes got (suc n) ≡ running_lanes got n + cond {A = ℕ} (not (has_last (of_lane n got))) 1 0
  running_next got n = ap (running_lanes got) (sym (add-one n))
      ∙ sum_by-map-range_with_len_more (λ b. cond {A = ℕ} (not b) 1 0) (λ k. has_last (of_lane k got)) 0 n n (omega arith)

  none_ended : (got : List (Item T)) (lanes : ℕ) → got ≡ [] → running_lanes got lanes ≡ lanes
  none_ended got zero none = refl
  none_ended got (suc n) none = omega (arith, running_next got n, none_ended got n none, ap (λ l. cond {A = ℕ} (not (has_last (of_lane n l))) 1 0) none)

  none_running : (got : List (Item T)) (lanes : ℕ) → running_lanes got lanes ≡ 0 → (lane : ℕ) → lane < lanes → has_last (of_lane lane got) ≡ true
  none_running got zero none lane less = absurd (omega (arith, less))
  none_running got (suc n) none lane less = elim (eqb_tells lane n) [
    | inl same ↦ rw same.1 (true_from_ne_false (has_last (of_lane n got)) (λ open_.
        omega (arith, none, running_next got n, ap (λ b. cond {A = ℕ} (not b) 1 0) open_)))
    | inr other ↦ none_running got n (omega (arith, none, running_next got n)) lane (omega (arith, less, other.1))
  ]

  all_ended : (got : List (Item T)) (lanes : ℕ) → ((lane : ℕ) → lane < lanes → has_last (of_lane lane got) ≡ true) → running_lanes got lanes ≡ 0
  all_ended got zero all = refl
  all_ended got (suc n) all =
      let rest = all_ended got n (λ lane less. all lane (omega (arith, less))) in
      omega (arith, running_next got n, rest, ap (λ b. cond {A = ℕ} (not b) 1 0) (all n (omega arith)))

  -- the item that is its lane's last leaves one lane fewer running, and any other as many
  running_more : (got : List (Item T)) (x : Item T) → has_last (of_lane x.lane got) ≡ false → (lanes : ℕ)
      → (lanes ≤ x.lane → running_lanes (got ++ x ∷ []) lanes ≡ running_lanes got lanes)
      × (x.lane < lanes → running_lanes (got ++ x ∷ []) lanes + cond {A = ℕ} x.last 1 0 ≡ running_lanes got lanes)
  running_more got x open_ zero = (λ _. refl, λ less. absurd (omega (arith, less)))
  running_more got x open_ (suc n) =
      let rest = running_more got x open_ n in
      let was = running_next got n in
      let is = running_next (got ++ x ∷ []) n in
      elim (eqb_tells x.lane n) [
        | inl same ↦
            let open_n : has_last (of_lane n got) ≡ false = ap (λ k. has_last (of_lane k got)) (sym same.1) ∙ open_ in
            let before = ap (λ b. cond {A = ℕ} (not b) 1 0) open_n in
            let now = ap (λ b. cond {A = ℕ} (not b) 1 0) (ap has_last (of_more n got x same.1) ∙ last_more (of_lane n got) x open_n) in
            (λ past. absurd (omega (arith, past, same.1)), λ _. omega (arith, rest.0 (omega (arith, same.1)), was, is, now, before, one_of x.last))
        | inr other ↦
            let now = ap (λ l. cond {A = ℕ} (not (has_last l)) 1 0) (of_same n got x other.1) in (
              λ past. omega (arith, rest.0 (omega (arith, past)), was, is, now),
              λ less. omega (arith, rest.1 (omega (arith, less, other.1)), was, is, now),
            )
      ]
    where
      one_of : (b : Bool) → cond {A = ℕ} (not b) 1 0 + cond {A = ℕ} b 1 0 ≡ 1
      one_of true = refl
      one_of false = refl

  -- ---- what the taker answers

  pub ended : (pass : Pass (Item T) (QueueView T)) (counts : List ℕ) (running : ℕ) → IsTaker pass counts running → running ≡ 0 → AreEnded (view pass)
  ended pass counts running is none = none_running (view pass).got (view pass).made (sym is.running_is ∙ none)

  pub unended : (pass : Pass (Item T) (QueueView T)) (counts : List ℕ) (running : ℕ) → IsTaker pass counts running → running ≢ 0
      → ¬ AreEnded (view pass)
  unended pass counts running is some all = some (is.running_is ∙ all_ended (view pass).got (view pass).made all)

  -- ---- an item that was taken

  pub took : (old new : Pass (Item T) (QueueView T)) (counts : List ℕ) (running next : ℕ) (x : Item T) → IsTaker old counts running
      → TakesItem (view old) x (view new) → new.me.1 ≡ old.me.1 → next + cond {A = ℕ} x.last 1 0 ≡ running → IsTaker new (set counts x.lane (get_or counts x.lane 0 + 1)) next
  took old new counts running next x is takes whole fewer = record {
    whole = whole ∙ is.whole;
    takes = ap (λ (v : QueueView T). v.takes) takes.after ∙ is.takes;
    long = length-set counts x.lane (get_or counts x.lane 0 + 1) ∙ is.long ∙ ap (λ (v : QueueView T). v.made) (sym takes.after);
    counted = λ lane less. entry_more length (view old).got x counts (get_or counts x.lane 0 + 1) 0 lane (omega (arith, is.long, takes.lane))
        (omega (arith, is.counted x.lane takes.lane, length-append (of_lane x.lane (view old).got) (x ∷ [])))
        (is.counted lane (omega (arith, less, ap (λ (v : QueueView T). v.made) takes.after)))
        ∙ ap (λ (v : QueueView T). length (of_lane lane v.got)) (sym takes.after);
    running_is =
        let runs = (running_more (view old).got x takes.unended (view old).made).1 takes.lane in
        let same : next ≡ running_lanes ((view old).got ++ x ∷ []) (view old).made = omega (arith, fewer, runs, is.running_is) in
        same ∙ ap (λ (v : QueueView T). running_lanes v.got v.made) (sym takes.after);
  }

  -- ---- a putter that is taken in

  pub joined : (old new : Pass (Item T) (QueueView T)) (putter : QueueView T) (counts : List ℕ) (running : ℕ) → IsTaker old counts running
      → view new ≡ with_putter (view old) putter → new.me.1 ≡ old.me.1 → IsTaker new counts running
  joined old new putter counts running is both whole = record {
    whole = whole ∙ is.whole;
    takes = ap (λ (v : QueueView T). v.takes) both ∙ is.takes;
    long = is.long ∙ ap (λ (v : QueueView T). v.made) (sym both);
    counted = λ lane less.
        let got : (view new).got ≡ (view old).got = ap (λ (v : QueueView T). v.got) both in
        let made : (view new).made ≡ (view old).made = ap (λ (v : QueueView T). v.made) both in
        is.counted lane (omega (arith, less, made)) ∙ ap (λ l. length (of_lane lane l)) (sym got);
    running_is = is.running_is ∙ ap (λ (v : QueueView T). running_lanes v.got v.made) (sym both);
  }

  -- ---- a taker of lanes of which nothing was taken

  pub fresh : (pass : Pass (Item T) (QueueView T)) (lanes : ℕ) → pass.me.1 ≡ [] → view pass ≡ fresh_taker lanes
      → IsTaker pass (replicate lanes 0) lanes
  fresh pass lanes whole is = record {
    whole = whole;
    takes = ap (λ (v : QueueView T). v.takes) is;
    long = length-replicate lanes 0 ∙ ap (λ (v : QueueView T). v.made) (sym is);
    counted = λ lane less. get_or-replicate lanes lane 0 0 (omega (arith, less, ap (λ (v : QueueView T). v.made) is))
        ∙ ap (λ (v : QueueView T). length (of_lane lane v.got)) (sym is);
    running_is = sym (none_ended (view pass).got (view pass).made (ap (λ (v : QueueView T). v.got) is) ∙ ap (λ (v : QueueView T). v.made) is);
  }

  -- a putter more
  pub putter_more : (queue : Queue) (lanes : ℕ) (putters : List (Pass (Item T) (QueueView T))) (p : Pass (Item T) (QueueView T))
      → ArePutters queue lanes putters → IsPassOf queue p → view p ≡ fresh_putter lanes → ArePutters queue (lanes + 1) (putters ++ p ∷ [])
  putter_more queue lanes putters p are of_queue is = record {
    views = map-append view putters (p ∷ []) ∙ ap (λ l. l ++ view p ∷ []) are.views
        ∙ ap (λ v. map (λ k. fresh_putter {T = T} k) (range_with_len 0 lanes) ++ v ∷ []) is
        ∙ sym (map-range_with_len_more (λ k. fresh_putter {T = T} k) 0 lanes lanes (omega arith));
    fresh = All-push (IsNewPutterOf queue) putters p are.fresh (of_queue, ap (λ (v : QueueView T). v.put) is);
  }
