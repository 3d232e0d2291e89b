-- What is kept of a site file, once it has one thing more.
use Rattle.std.proofs.Common.{◌≡◌, ℕ, List, [], ◌∷◌, ◌++◌, ◌==◌, ◌&&◌, if◌then◌else◌, Some, None, flat_map, bytes_eq, refl, sym, ap, ◌∙◌, append-nil, append_assoc}
use Rattle.std.proofs.lemmas.Grind.{fold-append, flat_map-append}
use Rattle.page_tree.specs.Tree.{Tree}
use Rattle.xpath_child.specs.Path.{Step}
use Rattle.conflict_desk.specs.declared.decision.Decision.{Decision}
use Rattle.own_pages.specs.OwnPages.{AddsOwnPage, own_page_at}
use Rattle.site_hooks.specs.Table.{AddsPage, table_page, watched_in}
use Rattle.site_line.specs.Site.{Entry, Site, page_among}
use Rattle.site_line.specs.Reading.{ArePartsOfSite}
use Rattle.site_file.specs.Addition.{Addition, at_address, of_visit, more_patched, more_watched, decided}
use Rattle.site_file.specs.SiteFile.{FileSite, VisitPage, with_additions, own_page, patched_by, pages_by, watched_by, decisions_by, own_by}
use Rattle.site_file.specs.inside.{StandsSoFar}
use Rattle.site_file.specs.declared.growing.Growing.{Growing}

-- that site, with what one line more adds
abbrev with_addition : FileSite → Addition → FileSite
with_addition file add = record {
  site = record file.site {
    patched = file.site.patched ++ patched_by add;
    pages = file.site.pages ++ pages_by add;
    watched = file.site.watched ++ watched_by add;
    decisions = file.site.decisions ++ decisions_by add;
  };
  own = file.own ++ own_by add;
}

more_of : {A : Type 0} (said : Addition → List A) (first : List A) (adds : List Addition) (add : Addition)
    → first ++ flat_map said (adds ++ add ∷ []) ≡ (first ++ flat_map said adds) ++ said add
more_of said first adds add =
    ap (λ all. first ++ all) (flat_map-append said adds (add ∷ []) ∙ ap (λ one. flat_map said adds ++ one) (append-nil (said add)))
    ∙ sym (append_assoc first (flat_map said adds) (said add))

grown : (site : Site) (adds : List Addition) (add : Addition) → with_additions site (adds ++ add ∷ []) ≡ with_addition (with_additions site adds) add
grown site adds add =
    let own : flat_map own_by (adds ++ add ∷ []) ≡ flat_map own_by adds ++ own_by add = more_of own_by [] adds add in
    rw (more_of patched_by site.patched adds add, more_of pages_by site.pages adds add, more_of watched_by site.watched adds add, more_of decisions_by site.decisions adds add, own) refl

-- ---- at first

pub stands_first : (growing : Growing) (site : Site) → ArePartsOfSite growing.parts site → ((client : List ℕ) (visit : ℕ) → own_page_at growing.own client visit ≡ None)
    → StandsSoFar growing (with_additions site [])
stands_first growing site are own = record {
  parts = record {
    patched = are.patched ∙ sym (append-nil site.patched);
    pages = λ address. rw (append-nil site.pages) (are.pages address);
    watched = are.watched ∙ sym (append-nil site.watched);
    same = are.same;
    quota = are.quota;
    workers = are.workers;
    decisions = are.decisions ∙ sym (append-nil site.decisions);
  };
  own = own;
}

-- ---- a thing more

page_more : (entries : List Entry) (address at : List ℕ) (page : Tree) → page_among (entries ++ (address, page) ∷ []) at ≡ (if bytes_eq address at then Some page else page_among entries at)
page_more entries address at page = fold-append (λ found entry. if bytes_eq entry.0 at then Some entry.1 else found) None entries ((address, page) ∷ [])

own_more : (own : List VisitPage) (client who : List ℕ) (visit number : ℕ) (page : Tree)
    → own_page (own ++ record { client = client; visit = visit; page = page } ∷ []) who number ≡ (if bytes_eq client who && (visit == number) then Some page else own_page own who number)
own_more own client who visit number page =
    fold-append (λ found one. if bytes_eq one.client who && (one.visit == number) then Some one.page else found) None own (record { client = client; visit = visit; page = page } ∷ [])

module _ (growing : Growing) (site : Site) (adds : List Addition) (stands : StandsSoFar growing (with_additions site adds)) where
  abbrev StandsWith : Growing → Addition → Type 0
  StandsWith new add = StandsSoFar new (with_additions site (adds ++ add ∷ []))

  pub page_added : (new : Growing) (address : List ℕ) (page : Tree)
      → AddsPage growing.parts.table address page new.parts.table → watched_in new.parts.table ≡ watched_in growing.parts.table
      → new.parts.patched ≡ growing.parts.patched → new.parts.finding ≡ growing.parts.finding → new.parts.quota ≡ growing.parts.quota → new.parts.workers ≡ growing.parts.workers → new.parts.decisions ≡ growing.parts.decisions → new.own ≡ growing.own → StandsWith new (at_address address page)
  page_added new address page added watched patched fresh quota workers decisions own = rw (grown site adds (at_address address page)) (record {
    parts = record {
      patched = ap (λ all. all.items) patched ∙ stands.parts.patched ∙ sym (append-nil _);
      pages = λ at. added at ∙ ap (λ before. if bytes_eq address at then Some page else before) (stands.parts.pages at) ∙ sym (page_more (site.pages ++ flat_map pages_by adds) address at page);
      watched = watched ∙ stands.parts.watched ∙ sym (append-nil _);
      same = fresh ∙ stands.parts.same;
      quota = quota ∙ stands.parts.quota;
      workers = workers ∙ stands.parts.workers;
      decisions = ap (λ all. all.items) decisions ∙ stands.parts.decisions ∙ sym (append-nil _);
    };
    own = λ client visit. rw (append-nil (flat_map own_by adds), own) (stands.own client visit);
  })

  pub own_page_added : (new : Growing) (client : List ℕ) (visit : ℕ) (page : Tree)
      → AddsOwnPage growing.own client visit page new.own
      → new.parts.patched ≡ growing.parts.patched → new.parts.table ≡ growing.parts.table → new.parts.finding ≡ growing.parts.finding → new.parts.quota ≡ growing.parts.quota → new.parts.workers ≡ growing.parts.workers → new.parts.decisions ≡ growing.parts.decisions → StandsWith new (of_visit client visit page)
  own_page_added new client visit page added patched table fresh quota workers decisions = rw (grown site adds (of_visit client visit page)) (record {
    parts = record {
      patched = ap (λ all. all.items) patched ∙ stands.parts.patched ∙ sym (append-nil _);
      pages = λ at. rw (append-nil (site.pages ++ flat_map pages_by adds), table) (stands.parts.pages at);
      watched = ap watched_in table ∙ stands.parts.watched ∙ sym (append-nil _);
      same = fresh ∙ stands.parts.same;
      quota = quota ∙ stands.parts.quota;
      workers = workers ∙ stands.parts.workers;
      decisions = ap (λ all. all.items) decisions ∙ stands.parts.decisions ∙ sym (append-nil _);
    };
    own = λ who number. added who number ∙ ap (λ before. if bytes_eq client who && (visit == number) then Some page else before) (stands.own who number)
        ∙ sym (own_more (flat_map own_by adds) client who visit number page);
  })

  pub patched_added : (new : Growing) (addresses : List (List ℕ))
      → new.parts.patched.items ≡ growing.parts.patched.items ++ addresses
      → new.parts.table ≡ growing.parts.table → new.parts.finding ≡ growing.parts.finding → new.parts.quota ≡ growing.parts.quota → new.parts.workers ≡ growing.parts.workers → new.parts.decisions ≡ growing.parts.decisions → new.own ≡ growing.own → StandsWith new (more_patched addresses)
  patched_added new addresses longer table fresh quota workers decisions own = rw (grown site adds (more_patched addresses)) (record {
    parts = record {
      patched = longer ∙ ap (λ before. before ++ addresses) stands.parts.patched;
      pages = λ at. rw (append-nil (site.pages ++ flat_map pages_by adds), table) (stands.parts.pages at);
      watched = ap watched_in table ∙ stands.parts.watched ∙ sym (append-nil _);
      same = fresh ∙ stands.parts.same;
      quota = quota ∙ stands.parts.quota;
      workers = workers ∙ stands.parts.workers;
      decisions = ap (λ all. all.items) decisions ∙ stands.parts.decisions ∙ sym (append-nil _);
    };
    own = λ client visit. rw (append-nil (flat_map own_by adds), own) (stands.own client visit);
  })

  pub watched_added : (new : Growing) (paths : List (List Step))
      → watched_in new.parts.table ≡ watched_in growing.parts.table ++ paths → ((address : List ℕ) → table_page new.parts.table address ≡ table_page growing.parts.table address)
      → new.parts.patched ≡ growing.parts.patched → new.parts.finding ≡ growing.parts.finding → new.parts.quota ≡ growing.parts.quota → new.parts.workers ≡ growing.parts.workers → new.parts.decisions ≡ growing.parts.decisions → new.own ≡ growing.own → StandsWith new (more_watched paths)
  watched_added new paths longer same patched fresh quota workers decisions own = rw (grown site adds (more_watched paths)) (record {
    parts = record {
      patched = ap (λ all. all.items) patched ∙ stands.parts.patched ∙ sym (append-nil _);
      pages = λ at. same at ∙ rw (append-nil (site.pages ++ flat_map pages_by adds)) (stands.parts.pages at);
      watched = longer ∙ ap (λ before. before ++ paths) stands.parts.watched;
      same = fresh ∙ stands.parts.same;
      quota = quota ∙ stands.parts.quota;
      workers = workers ∙ stands.parts.workers;
      decisions = ap (λ all. all.items) decisions ∙ stands.parts.decisions ∙ sym (append-nil _);
    };
    own = λ client visit. rw (append-nil (flat_map own_by adds), own) (stands.own client visit);
  })

  pub decision_added : (new : Growing) (decision : Decision)
      → new.parts.decisions.items ≡ growing.parts.decisions.items ++ decision ∷ []
      → new.parts.patched ≡ growing.parts.patched → new.parts.table ≡ growing.parts.table → new.parts.finding ≡ growing.parts.finding → new.parts.quota ≡ growing.parts.quota → new.parts.workers ≡ growing.parts.workers → new.own ≡ growing.own → StandsWith new (decided decision)
  decision_added new decision longer patched table fresh quota workers own = rw (grown site adds (decided decision)) (record {
    parts = record {
      patched = ap (λ all. all.items) patched ∙ stands.parts.patched ∙ sym (append-nil _);
      pages = λ at. rw (append-nil (site.pages ++ flat_map pages_by adds), table) (stands.parts.pages at);
      watched = ap watched_in table ∙ stands.parts.watched ∙ sym (append-nil _);
      same = fresh ∙ stands.parts.same;
      quota = quota ∙ stands.parts.quota;
      workers = workers ∙ stands.parts.workers;
      decisions = longer ∙ ap (λ before. before ++ decision ∷ []) stands.parts.decisions;
    };
    own = λ client visit. rw (append-nil (flat_map own_by adds), own) (stands.own client visit);
  })
