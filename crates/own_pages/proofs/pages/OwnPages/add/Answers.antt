use Rattle.std.proofs.Common.{◌≡◌, ℕ, List, Some, None, ◌==◌, if◌then◌else◌, refl, sym, ap, ◌∙◌, rules, arith}
use Rattle.std.proofs.lemmas.Map.Text.{text_keys, btree_map_updates_text}
use Rattle.std.specs.BTreeMap.{get, get_by_text}
use Rattle.std.specs.Ordering.{nat_cmp}
use Rattle.std.specs.Prelude.{bytes_eq}
use Rattle.own_pages.specs.OwnPages.{own_page_at}
use Rattle.own_pages.proofs.OwnAdded.{same_text, same_number, one_more, none_more}
use Rattle.own_pages.proofs.pages.OwnPages.add.Goals as goal

pub returns-in-Some-clause-ok : goal.returns-in-Some-clause-ok
returns-in-Some-clause-ok c = λ other number.
    let old = c.args.self.now.clients in
    let now = c.insert.new.self in
    let new = c.get_mut.follows.lender now in
    let client = c.args.client.now in
    let had : get_by_text old client ≡ Some c.in-Some.visits.now = search rules in
    let outer : get_by_text new other ≡ (if bytes_eq client other then Some now else get_by_text old other) = btree_map_updates_text client old new (Some now) ((c.get_mut.follows.holds now).3 (rw had refl)) other in
    let inner : get nat_cmp now number ≡ (if c.args.visit == number then Some c.args.page else get nat_cmp c.in-Some.visits.now number) = rw (same_number c.args.visit number) at (c.in_ok-insert.ensures.updates.0 number) in
    one_more (λ m n. get nat_cmp m n) number (bytes_eq client other) (c.args.visit == number) c.args.page now (Some c.in-Some.visits.now) (get_by_text old other) (get_by_text new other)
    (λ is. ap (get_by_text old) (sym (same_text client other is)) ∙ had) outer inner

pub returns-in_err-insert-clause-err : goal.returns-in_err-insert-clause-err
returns-in_err-insert-clause-err c =
    let old = c.args.self.now.clients in
    let now = c.insert.new.self in
    let new = c.get_mut.follows.lender now in
    let client = c.args.client.now in
    let had : get_by_text old client ≡ Some c.in-Some.visits.now = search rules in
    let kept : (client : List ℕ) (number : ℕ) → own_page_at (record { clients = new }) client number ≡ own_page_at c.args.self.now client number = λ other number.
    let outer : get_by_text new other ≡ (if bytes_eq client other then Some now else get_by_text old other) = btree_map_updates_text client old new (Some now) ((c.get_mut.follows.holds now).3 (rw had refl)) other in
    let inner : get nat_cmp now number ≡ get nat_cmp c.in-Some.visits.now number = search (rules, c.in_err-insert.ensures.err) in
    none_more (λ m n. get nat_cmp m n) number (bytes_eq client other) now (Some c.in-Some.visits.now) (get_by_text old other) (get_by_text new other)
    (λ is. ap (get_by_text old) (sym (same_text client other is)) ∙ had) outer inner in
    search (rules, kept)

pub returns-clause-ok : goal.returns-clause-ok
returns-clause-ok c = λ other number.
    let old = c.args.self.now.clients in
    let now = c.insert-2.new.self in
    let new = c.insert-3.new.self in
    let client = c.args.client.now in
    let had : get_by_text old client ≡ None = search rules in
    let outer : get_by_text new other ≡ (if bytes_eq client other then Some now else get_by_text old other) = grind (arith, text_keys) in
    let inner : get nat_cmp now number ≡ (if c.args.visit == number then Some c.args.page else None) = rw (same_number c.args.visit number, c.new-visits.ensures.empty) at (c.in_ok-insert-2.ensures.updates.0 number) in
    one_more (λ m n. get nat_cmp m n) number (bytes_eq client other) (c.args.visit == number) c.args.page now None (get_by_text old other) (get_by_text new other)
    (λ is. ap (get_by_text old) (sym (same_text client other is)) ∙ had) outer inner
