-- What is known of a page's nodes, as more of them are looked at.
use Rattle.std.proofs.Common.{◌≡◌, ℕ, ◌<◌, List, [], ◌∷◌, ◌++◌, length, get_or, set, IfSome, inl, inr, sym, subst, arith, length-append}
use Rattle.std.proofs.lemmas.Bool.Decides.{eqb_tells}
use Rattle.std.proofs.lemmas.List.{get_or-set_same, get_or-set_other}
use Rattle.page_tree.specs.Tree.{Tree}
use Rattle.page_tree.specs.Limits.{nodes}
use Rattle.visit_replay.specs.inside.Senders.{IsSenderAt, IsSoOf}
use Rattle.visit_replay.specs.declared.page_senders.Known.{Known}
use Rattle.visit_replay.specs.declared.page_senders.Known.TheVariants.{Nothing, Silent, At}
use Rattle.visit_replay.specs.declared.senders.Sender.{Sender}
use Rattle.visit_replay.proofs.Places.{front_at, last_at}

-- one more was found
pub so_behind : (names : List (List ℕ)) (page : Tree) (found : List Sender) (sender : Sender) (number : ℕ) (known : Known) → IsSoOf names page found number known
    → IsSoOf names page (found ++ sender ∷ []) number known
so_behind names page found sender number Nothing so = so
so_behind names page found sender number Silent so = so
so_behind names page found sender number (At place) so =
    (omega (arith, so.0, length-append found (sender ∷ [])), subst (λ o. IfSome o (IsSenderAt names page number)) (sym (front_at found sender place so.0)) so.1)

-- it is that node
pub so_last : (names : List (List ℕ)) (page : Tree) (found : List Sender) (sender : Sender) (number : ℕ) → IsSenderAt names page number sender
    → IsSoOf names page (found ++ sender ∷ []) number (At (length found))
so_last names page found sender number is =
    (omega (arith, length-append found (sender ∷ [])), subst (λ o. IfSome o (IsSenderAt names page number)) (sym (last_at found sender)) is)

-- of one node more it is known what it is
pub knows_more : (names : List (List ℕ)) (page : Tree) (known : List Known) (found found' : List Sender) (at : ℕ) (what : Known) → at < length known
    → IsSoOf names page found' at what → ((number : ℕ) (k : Known) → IsSoOf names page found number k → IsSoOf names page found' number k)
    → ((number : ℕ) → number < nodes page → IsSoOf names page found number (get_or known number Nothing))
    → (number : ℕ) → number < nodes page → IsSoOf names page found' number (get_or (set known at what) number Nothing)
knows_more names page known found found' at what within so stays all = λ number few. elim (eqb_tells number at) [
  | inl same ↦
      let here : get_or (set known at what) at Nothing ≡ what = get_or-set_same known at what Nothing within in
      subst (λ n. IsSoOf names page found' n (get_or (set known at what) n Nothing)) (sym same.1) (subst (IsSoOf names page found' at) (sym here) so)
  | inr apart ↦
      let there : get_or (set known at what) number Nothing ≡ get_or known number Nothing = get_or-set_other known at number what Nothing apart.1 in
      subst (IsSoOf names page found' number) (sym there) (stays number (get_or known number Nothing) (all number few))
]
