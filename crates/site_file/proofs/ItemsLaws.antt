-- Items that are read one after another, up to the first that is wrong.
use Rattle.std.proofs.Common.{◌≡◌, List, [], ◌∷◌, ◌++◌, Result, Ok, Err, refl, sym, ap, ◌∙◌, append-nil, append_assoc}
use Rattle.serde_json.specs.Data.{Data, Items, no_items, item}
use Rattle.page_tree.specs.FirstFault.{◌>>=◌}
use Rattle.site_file.specs.Addition.{items_given}
use Rattle.site_file.specs.inside.{GivesMember}
use Rattle.site_file.specs.declared.wrong.LineWrong.{LineWrong}
use Rattle.site_file.specs.declared.wrong.NoAddition.{NoAddition}
use Rattle.site_file.specs.declared.wrong.NoAddition.TheVariants.{Wrong, NoMemory}

module _ {A : Type 0} (reads : Data → Result A LineWrong) where
  -- with what the rest gives, it comes to what all of them give
  abbrev pub ItemsSoFar : List A → Items → Items → Type 0
  ItemsSoFar read rest all = (items_given reads rest >>= λ more. Ok (read ++ more)) ≡ items_given reads all

  none_before : (given : Result (List A) LineWrong) → (given >>= λ more. Ok ([] ++ more)) ≡ given
  none_before (Ok more) = refl
  none_before (Err why) = refl

  pub items_begun : (all : Items) → ItemsSoFar [] all all
  items_begun all = none_before (items_given reads all)

  one_before : (read : List A) (x : A) (given : Result (List A) LineWrong)
      → ((given >>= λ more. Ok (x ∷ more)) >>= λ more. Ok (read ++ more)) ≡ (given >>= λ more. Ok ((read ++ x ∷ []) ++ more))
  one_before read x (Ok more) = ap Ok (sym (append_assoc read (x ∷ []) more))
  one_before read x (Err why) = refl

  pub item_next : (read : List A) (d : Data) (x : A) (before rest all : Items) → before ≡ item d rest → reads d ≡ Ok x → ItemsSoFar read before all → ItemsSoFar (read ++ x ∷ []) rest all
  item_next read d x before rest all is said so_far =
      let here : ((reads d >>= λ y. items_given reads rest >>= λ more. Ok (y ∷ more)) >>= λ more. Ok (read ++ more)) ≡ items_given reads all = rw is at so_far in
      sym (one_before read x (items_given reads rest)) ∙ rw said at here

  pub items_done : (read : List A) (before all : Items) → before ≡ no_items → ItemsSoFar read before all → items_given reads all ≡ Ok read
  items_done read before all is so_far = let here : Ok (read ++ []) ≡ items_given reads all = rw is at so_far in sym here ∙ ap Ok (append-nil read)

  pub item_wrong : (e : NoAddition) {Y : Type 0} (one : Y → A) (read : List A) (d : Data) (before rest all : Items) → before ≡ item d rest
      → GivesMember {X = Y} one (Err e) (reads d) → ItemsSoFar read before all → GivesMember {X = List A} (λ read. read) (Err e) (items_given reads all)
  item_wrong (Wrong why) one read d before rest all is said so_far =
      let here : ((reads d >>= λ y. items_given reads rest >>= λ more. Ok (y ∷ more)) >>= λ more. Ok (read ++ more)) ≡ items_given reads all = rw is at so_far in
      sym (rw said at here)
  item_wrong NoMemory one read d before rest all is said so_far = tt
