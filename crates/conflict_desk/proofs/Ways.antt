-- Ways up the chains of parents.
use Rattle.std.proofs.Common.{◌≡◌, ℕ, ◌<◌, ◌≤◌, List, [], ◌∷◌, ◌++◌, length, get_or, Bool, false, ◌||◌, Option, Some, None, slice_get, IfSome, option_and_then, ◌⊎◌, inl, inr, ap, sym, refl, subst, ◌∙◌, arith}
use Rattle.std.specs.Option.{option_map_or}
use Rattle.std.proofs.lemmas.Option.{slice_get-get_or}
use Rattle.conflict_desk.specs.Docket.{AreAscending, parent_of}
use Rattle.conflict_desk.specs.Book.{Book, is_decided, is_cancelled}
use Rattle.conflict_desk.specs.inside.Links.{Follows, LeadsTo, AllLeadBack, IsLink, AreLinks}
use Rattle.conflict_desk.specs.declared.docket.Case.{Case}
use Rattle.conflict_desk.specs.declared.links.Link.{Link}
use Rattle.conflict_desk.proofs.Gets.{there_is, still_at, at_push, at_end}
use Rattle.conflict_desk.proofs.Places.{before_it, parent_is}
use Rattle.conflict_desk.proofs.Chains.{cancelled_is, undecided_stays}

-- whether the visit at that place is cancelled
abbrev pub cancelled_at : Book → ℕ → Bool
cancelled_at book k = option_map_or (is_cancelled book) (slice_get book.cases k) false

-- ---- longer lists of links

leads_more : (links more : List Link) (k j : ℕ) → LeadsTo links k j → LeadsTo (links ++ more) k j
leads_more links more k j leads = (leads.0, λ from said follows le. leads.1 from said (λ i link after at. follows i link after (still_at links more i link at)) le)

jump_more : (links more : List Link) (k : ℕ) (o : Option ℕ) → IfSome o (LeadsTo links k) → IfSome o (LeadsTo (links ++ more) k)
jump_more links more k None leads = tt
jump_more links more k (Some j) leads = leads_more links more k j leads

link_more : (cases : List Case) (links more : List Link) (k : ℕ) (link : Link) → IsLink cases links k link → IsLink cases (links ++ more) k link
link_more cases links more k link is =
    record { case = is.case; at = is.at; parent = is.parent; back = (is.back.0, jump_more links more k link.jump is.back.1) }

pub links_push : (cases : List Case) (links : List Link) (link : Link) → AreLinks cases links → IsLink cases (links ++ link ∷ []) (length links) link → AreLinks cases (links ++ link ∷ [])
links_push cases links link are is k other at = elim (at_push links link k other at) [
  | inl before ↦ link_more cases links (link ∷ []) k other (are k other before)
  | inr new ↦ subst (λ n. IsLink cases (links ++ link ∷ []) n other) (sym new.0) (subst (IsLink cases (links ++ link ∷ []) (length links)) new.1 is)
]

-- ---- one link

pub jump_leads : (links : List Link) → AllLeadBack links → (k j : ℕ) (d : Link) → k < length links → (get_or links k d).jump ≡ Some j
    → LeadsTo links k j
jump_leads links have k j d within is = subst (λ o. IfSome o (LeadsTo links k)) is (have k (get_or links k d) (slice_get-get_or links k d within)).1

pub parent_there : (cases : List Case) → AreAscending cases → (k p : ℕ) (c : Case) → slice_get cases k ≡ Some c
    → slice_get cases p ≡ parent_of cases c
    → p < length cases → p < k
parent_there cases up k p c at is within =
    let there = there_is cases p within in
    before_it cases up p k there.0 c there.1 at (parent_is cases c there.0 (sym is ∙ there.1)).1

-- from a case one step up leads to its parent
step_up : (links : List Link) (k p : ℕ) (link : Link) → slice_get links k ≡ Some link → link.parent ≡ Some p → p < k → LeadsTo links k p
step_up links k p link at is less = (less, λ from said follows le. follows k link (omega (arith, le, less)) at ∙ ap (λ o. option_map_or said o false) is)

pub leads_on : (links : List Link) (k j i : ℕ) → LeadsTo links k j → LeadsTo links j i → LeadsTo links k i
leads_on links k j i first then = (omega (arith, first.0, then.0), λ from said follows le. first.1 from said follows (omega (arith, le, then.0)) ∙ then.1 from said follows le)

pub new_link : (cases : List Case) (links : List Link) (c : Case) (p j reach : ℕ) → slice_get cases (length links) ≡ Some c
    → slice_get cases p ≡ parent_of cases c → p < length links → (j ≡ p) ⊎ LeadsTo links p j
    → IsLink cases (links ++ record { parent = Some p; jump = Some j; reach = reach } ∷ []) (length links) record { parent = Some p; jump = Some j; reach = reach }
new_link cases links c p j reach at is less up =
    let link : Link = record { parent = Some p; jump = Some j; reach = reach } in
    let step : LeadsTo (links ++ link ∷ []) (length links) p = step_up (links ++ link ∷ []) (length links) p link (at_end links link) refl less in
    record {
      case = c;
      at = at;
      parent = sym is;
      back = (
        less,
        elim up [
          | inl same ↦ subst (LeadsTo (links ++ link ∷ []) (length links)) (sym same) step
          | inr further ↦ leads_on (links ++ link ∷ []) (length links) p j step (leads_more links (link ∷ []) p j further)
        ],
      );
    }

-- ---- what is cancelled follows the links where nothing is decided

pub at_case : (book : Book) (k : ℕ) (c : Case) → slice_get book.cases k ≡ Some c → cancelled_at book k ≡ is_cancelled book c
at_case book k c at = ap (λ o. option_map_or (is_cancelled book) o false) at

module _ (book : Book) (links : List Link) (are : AreLinks book.cases links) where
  parent_follows : (o : Option ℕ) → option_map_or (is_cancelled book) (option_and_then (slice_get book.cases) o) false ≡ option_map_or (cancelled_at book) o false
  parent_follows o = grind arith

  pub cancelled_follows : (from : ℕ) → ((k : ℕ) (c : Case) → from ≤ k → slice_get book.cases k ≡ Some c → is_decided book.decisions c.visit ≡ false) → Follows from links (cancelled_at book)
  cancelled_follows from none k link after at =
      let is = are k link at in
      at_case book k is.case is.at
      ∙ cancelled_is book is.case
      ∙ ap (λ b. b || option_map_or (is_cancelled book) (parent_of book.cases is.case) false) (undecided_stays book.decisions is.case.visit (none k is.case after is.at))
      ∙ ap (λ o. option_map_or (is_cancelled book) o false) is.parent
      ∙ parent_follows link.parent

-- ---- one step up

module _ (links : List Link) (back : AllLeadBack links) (k up next : ℕ) (d : Link) (within : k < length links) (after : next ≤ k) where
  jump_up : (get_or links k d).jump ≡ Some up → next ≤ up → (up < k) × ((said : ℕ → Bool) → Follows next links said → said k ≡ said up)
  jump_up is le = let leads = jump_leads links back k up d within is in (leads.0, λ said follows. leads.1 next said follows le)

  parent_up : (get_or links k d).parent ≡ Some up → (up < k) × ((said : ℕ → Bool) → Follows next links said → said k ≡ said up)
  parent_up is =
      let at = slice_get-get_or links k d within in
      (subst (λ o. IfSome o (λ p. p < k)) is (back k (get_or links k d) at).0, λ said follows. follows k (get_or links k d) after at ∙ ap (λ o. option_map_or said o false) is)

  pub step_leads : (((get_or links k d).jump ≡ Some up) × (next ≤ up)) ⊎ ((get_or links k d).parent ≡ Some up) → (up < k) × ((said : ℕ → Bool) → Follows next links said → said k ≡ said up)
  step_leads (inl by_jump) = jump_up by_jump.0 by_jump.1
  step_leads (inr by_parent) = parent_up by_parent
