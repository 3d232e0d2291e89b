-- Each step keeps the rule of the queue.
use Rattle.std.proofs.Common.{◌≡◌, ◌≢◌, ℕ, zero, suc, ◌+◌, ◌<◌, ◌≤◌, Bool, true, false, cond, List, [], ◌∷◌, ◌++◌, length, set, get_or, inl, inr, refl, sym, ◌∙◌, ap, subst, arith, append_assoc, length-append}
use mathlib.Core.Option.{some, some-injective, some-ne-none}
use lib.ListN.{get_elem?}
use Rattle.std.specs.List.{AllByRecursion}
use Rattle.std.proofs.lemmas.Bool.{eq-eqb}
use Rattle.std.proofs.lemmas.Bool.Decides.{leb_tells}
use Rattle.std.proofs.lemmas.List.{get_or_append_left, get_or_push, get_or-set_same, get_or-set_other, length-set}
use Rattle.crossbeam_queue.specs.Fifo.{Pushes, Pops, Forks, Merges, Learns}
use Rattle.crossbeam_queue.proofs.Lists.{at_set}
use Rattle.lane_queue.specs.declared.item.Item.{Item}
use Rattle.lane_queue.specs.declared.view.QueueView.{QueueView}
use Rattle.lane_queue.specs.Limits.{max_lane_items}
use Rattle.lane_queue.specs.Items.{of_lane, has_last, next_item, AreNumbered}
use Rattle.lane_queue.specs.Opened.{fresh_taker, fresh_putter}
use Rattle.lane_queue.specs.Rule.{KnowsItems, KeepsOrder, with_put, TakesItem, IsSeen}
use Rattle.lane_queue.specs.inside.Passes.{with_putter}
use Rattle.lane_queue.proofs.Lists.{cut_at_end, of_append, lane_more, each_set, each_more}

module _ {T : Type 0} where
  -- ---- one lane

  pub none_put : AreNumbered {T = T} []
  none_put [] after x is = cc
  none_put (b ∷ before) after x is = cc

  pub one_put : (items : List (Item T)) (x : Item T) → AreNumbered items → x.number ≡ length items → has_last items ≡ false
      → AreNumbered (items ++ x ∷ [])
  one_put items x lane number open_ before after y is = elim (cut_at_end items before after x y is) [
    | inl e ↦ lane before e.0 y e.1
    | inr e ↦ (ap (λ (z : Item T). z.number) e.1 ∙ number ∙ ap length (sym e.0), ap has_last e.0 ∙ open_)
  ]

  pub all_append : (P : Item T → Type 0) (xs ys : List (Item T)) → AllByRecursion P xs → AllByRecursion P ys → AllByRecursion P (xs ++ ys)
  all_append P [] ys a b = b
  all_append P (x ∷ xs) ys (here, a) b = (here, all_append P xs ys a b)

  -- ---- the first pass

  pub begins : KeepsOrder {T = T} [] (fresh_taker 0 ∷ [])
  begins = record { putters = []; got = []; lanes = λ _. none_put; few = λ _. omega arith; unmade = λ _ _. refl; passes = only_first }
    where
      only_first : (pass : ℕ) (v : QueueView T) → get_elem? (fresh_taker 0 ∷ []) pass ≡ some v → KnowsItems [] [] [] pass v
      only_first zero v at = subst (KnowsItems [] [] [] 0) (some-injective (fresh_taker 0) v at)
          (record { taken = λ _. (refl, refl, refl); put = λ none. cc })
      only_first (suc pass) v at = absurd (some-ne-none v (sym at))

  -- ---- a push

  pub pushes : (n pass : ℕ) (v : QueueView T) (last : Bool) (body : T) → v.puts ≡ true → length v.put < max_lane_items → has_last v.put ≡ false
      → Pushes KeepsOrder n pass v (next_item v.lane v.put last body) (λ w. w ≡ with_put v (next_item v.lane v.put last body))
  pushes n pass v last body puts few open_ held views short kept at = (
    with_put v x,
    record {
      putters = kept.putters;
      got = kept.got;
      lanes = λ k. more AreNumbered k
          (λ same. one_put (of_lane k all) x (kept.lanes k) (ap length (own k same)) (ap has_last (sym (own k same)) ∙ open_)) (λ _. kept.lanes k);
      few = λ k. more (λ l. length l ≤ max_lane_items) k
          (λ same. omega (arith, few, ap length (own k same), length-append (of_lane k all) (x ∷ []))) (λ _. kept.few k);
      unmade = λ k past. more (λ l. l ≡ []) k (λ same. absurd (omega (arith, mine.0, same, past))) (λ _. kept.unmade k past);
      passes = each_set (KnowsItems kept.putters kept.got (kept.got ++ (held ++ x ∷ []))) views pass (with_put v x)
          (record {
            taken = (kept.passes pass v at).taken;
            put = λ _. (mine.0, mine.1, more (λ l. v.put ++ x ∷ [] ≡ l) v.lane (λ _. ap (λ l. l ++ x ∷ []) mine.2) (λ other. absurd (other refl)));
          })
          (λ j u else at_j. record {
            taken = (kept.passes j u at_j).taken;
            put = λ puts_u. let (less, its, is) = (kept.passes j u at_j).put puts_u in (
              less,
              its,
              more (λ l. u.put ≡ l) u.lane
                  (λ same. absurd (else (its ∙ ap (λ k. get_or kept.putters k 0) (sym same) ∙ sym mine.1))) (λ _. is),
            );
          });
    },
    refl,
  )
    where
      x : Item T
      x = next_item v.lane v.put last body

      all : List (Item T)
      all = kept.got ++ held

      mine : (v.lane < length kept.putters) × (pass ≡ get_or kept.putters v.lane 0) × (v.put ≡ of_lane v.lane all)
      mine = (kept.passes pass v at).put puts

      own : (k : ℕ) → v.lane ≡ k → v.put ≡ of_lane k all
      own k same = mine.2 ∙ ap (λ j. of_lane j all) same

      more : (P : List (Item T) → Type 0) (k : ℕ) → (v.lane ≡ k → P (of_lane k all ++ x ∷ [])) → (v.lane ≢ k → P (of_lane k all))
          → P (of_lane k (kept.got ++ (held ++ x ∷ [])))
      more P k here there = subst (λ l. P (of_lane k l)) (append_assoc kept.got held (x ∷ [])) (lane_more P all x k here there)

  -- ---- a pop

  pub pops : (pass : ℕ) (v : QueueView T) → v.takes ≡ true → Pops KeepsOrder pass v (TakesItem v)
  pops pass v takes x held views kept at = (
    w,
    record {
      putters = kept.putters;
      got = kept.got ++ x ∷ [];
      lanes = λ k. subst (λ l. AreNumbered (of_lane k l)) same (kept.lanes k);
      few = λ k. subst (λ l. length (of_lane k l) ≤ max_lane_items) same (kept.few k);
      unmade = λ k past. subst (λ l. of_lane k l ≡ []) same (kept.unmade k past);
      passes = each_set (KnowsItems kept.putters (kept.got ++ x ∷ []) ((kept.got ++ x ∷ []) ++ held)) views pass w
          (record {
            taken = λ _. (mine.0, mine.1, ap (λ l. l ++ x ∷ []) mine.2);
            put = λ puts. let (less, its, is) = (kept.passes pass v at).put puts in (less, its, is ∙ ap (of_lane v.lane) same);
          })
          (λ j u else at_j. record {
            taken = λ takes_u. absurd (else (((kept.passes j u at_j).taken takes_u).0 ∙ sym mine.0));
            put = λ puts. let (less, its, is) = (kept.passes j u at_j).put puts in (less, its, is ∙ ap (of_lane u.lane) same);
          });
    },
    record {
      after = refl;
      lane = elim (leb_tells (length kept.putters) x.lane) [
        | inl past ↦ absurd (omega (arith, long, ap length (kept.unmade x.lane past.1)))
        | inr less ↦ omega (arith, less.1, mine.1)
      ];
      number = told.0 ∙ ap (λ l. length (of_lane x.lane l)) (sym mine.2);
      small = omega (arith, told.0, kept.few x.lane, long);
      unended = ap (λ l. has_last (of_lane x.lane l)) mine.2 ∙ told.1;
    },
  )
    where
      w : QueueView T
      w = record v { got = v.got ++ x ∷ [] }

      mine : (pass ≡ 0) × (v.made ≡ length kept.putters) × (v.got ≡ kept.got)
      mine = (kept.passes pass v at).taken takes

      same : kept.got ++ x ∷ held ≡ (kept.got ++ x ∷ []) ++ held
      same = sym (append_assoc kept.got (x ∷ []) held)

      cut : of_lane x.lane (kept.got ++ x ∷ held) ≡ of_lane x.lane kept.got ++ x ∷ of_lane x.lane held
      cut = of_append x.lane kept.got (x ∷ held)
          ∙ ap (λ b. of_lane x.lane kept.got ++ cond b (x ∷ of_lane x.lane held) (of_lane x.lane held)) (eq-eqb x.lane x.lane refl)

      long : length (of_lane x.lane (kept.got ++ x ∷ held)) ≡ length (of_lane x.lane kept.got) + (length (of_lane x.lane held) + 1)
      long = omega (arith, ap length cut, length-append (of_lane x.lane kept.got) (x ∷ of_lane x.lane held))

      told : (x.number ≡ length (of_lane x.lane kept.got)) × (has_last (of_lane x.lane kept.got) ≡ false)
      told = kept.lanes x.lane (of_lane x.lane kept.got) (of_lane x.lane held) x cut

  -- ---- a lane more: each pass is that of an old one, which may know of it, or the new one

  pub forks : (pass : ℕ) (v : QueueView T) → v.takes ≡ true → Forks KeepsOrder pass v (record v { made = v.made + 1 }) (fresh_putter v.made)
  forks pass v takes held views kept at = record {
    putters = more;
    got = kept.got;
    lanes = kept.lanes;
    few = kept.few;
    unmade = λ k past. kept.unmade k (omega (arith, past, longer));
    passes = each_more (KnowsItems more kept.got (kept.got ++ held)) old (fresh_putter v.made)
        (each_set (KnowsItems more kept.got (kept.got ++ held)) views pass (record v { made = v.made + 1 })
        (record { taken = λ _. (mine.0, omega (arith, mine.1, longer), mine.2); put = puts_more pass v at })
        (λ j u else at_j. record {
          taken = λ takes_u. absurd (else (((kept.passes j u at_j).taken takes_u).0 ∙ sym mine.0));
          put = puts_more j u at_j;
        }))
        (record {
          taken = λ none. cc;
          put = λ _. (
            omega (arith, mine.1, longer),
            sym (get_or_push kept.putters (length old) 0 v.made (sym mine.1)),
            sym (kept.unmade v.made (omega (arith, mine.1))),
          );
        });
  }
    where
      old : List (QueueView T)
      old = set views pass (record v { made = v.made + 1 })

      more : List ℕ
      more = kept.putters ++ length old ∷ []

      longer : length more ≡ length kept.putters + 1
      longer = length-append kept.putters (length old ∷ [])

      mine : (pass ≡ 0) × (v.made ≡ length kept.putters) × (v.got ≡ kept.got)
      mine = (kept.passes pass v at).taken takes

      puts_more : (j : ℕ) (u : QueueView T) → get_elem? views j ≡ some u → u.puts ≡ true
          → (u.lane < length more) × (j ≡ get_or more u.lane 0) × (u.put ≡ of_lane u.lane (kept.got ++ held))
      puts_more j u at_j puts = let (less, its, is) = (kept.passes j u at_j).put puts in
          (omega (arith, less, longer), its ∙ sym (get_or_append_left kept.putters (length old ∷ []) 0 u.lane less), is)

  -- ---- what a pass learns

  pub sees : (pass : ℕ) (v : QueueView T) → Learns KeepsOrder pass v (IsSeen v)
  sees pass v held views kept at = (views, pass, kept, at)

  pub tells : (pass : ℕ) (v : QueueView T) → v.takes ≡ true → v.puts ≡ true
      → Learns KeepsOrder pass v (λ held. (v.lane < v.made) × (v.put ≡ of_lane v.lane v.got ++ of_lane v.lane held))
  tells pass v takes puts held views kept at =
      let (_, made, got) = (kept.passes pass v at).taken takes in
      let (less, _, is) = (kept.passes pass v at).put puts in
      (omega (arith, less, made), is ∙ of_append v.lane kept.got held ∙ ap (λ l. of_lane v.lane l ++ of_lane v.lane held) (sym got))

  -- ---- the taker's pass takes in a putter's

  pub merges : (pass : ℕ) (v : QueueView T) (other : ℕ) (w : QueueView T) → v.takes ≡ true → w.puts ≡ true
      → Merges KeepsOrder pass v other w (with_putter v w) (record (fresh_putter 0) { puts = false })
  merges pass v other w takes puts held views kept at apart at_other = record {
    putters = now;
    got = kept.got;
    lanes = kept.lanes;
    few = kept.few;
    unmade = λ k past. kept.unmade k (omega (arith, past, long));
    passes = each_set (KnowsItems now kept.got (kept.got ++ held)) (set views pass (with_putter v w)) other (record (fresh_putter 0) { puts = false })
        (record { taken = λ none. cc; put = λ none. cc })
        (λ j u else at_j. each_set (λ i t. i ≢ other → KnowsItems now kept.got (kept.got ++ held) i t) views pass (with_putter v w)
        (λ _. record {
          taken = λ _. (mine.0, omega (arith, mine.1, long), mine.2);
          put = λ _. (omega (arith, theirs.0, long), sym (get_or-set_same kept.putters w.lane pass 0 theirs.0), theirs.2);
        })
        (λ i t beside at_i else_i. record {
          taken = λ takes_t. absurd (beside (((kept.passes i t at_i).taken takes_t).0 ∙ sym mine.0));
          put = λ puts_t. let (less, its, is) = (kept.passes i t at_i).put puts_t in (
            omega (arith, less, long),
            its ∙ sym (get_or-set_other kept.putters w.lane t.lane pass 0
                (λ same. else_i (its ∙ ap (λ k. get_or kept.putters k 0) same ∙ sym theirs.1))),
            is,
          );
        }) j u at_j else);
  }
    where
      now : List ℕ
      now = set kept.putters w.lane pass

      long : length now ≡ length kept.putters
      long = length-set kept.putters w.lane pass

      mine : (pass ≡ 0) × (v.made ≡ length kept.putters) × (v.got ≡ kept.got)
      mine = (kept.passes pass v at).taken takes

      theirs : (w.lane < length kept.putters) × (other ≡ get_or kept.putters w.lane 0) × (w.put ≡ of_lane w.lane (kept.got ++ held))
      theirs = elim (at_set views pass other (with_putter v w) w at_other) [
        | inl here ↦ absurd (apart here.0)
        | inr there ↦ (kept.passes other w there.1).put puts
      ]
