use Rattle.std.proofs.Common.{◌≡◌, List, length, map, sym, ap, ◌∙◌, arith}
use Rattle.std.proofs.lemmas.List.{length-replicate}
use Rattle.visit_replay.specs.RepairedSite.{site_by}
use Rattle.visit_replay.specs.declared.outcome.Outcome.{Outcome}
use Rattle.visit_replay.proofs.Places.{written_back}
use Rattle.replay_workers.specs.Draws.{fresh_seat}
use Rattle.replay_workers.specs.Work.{own_page_outcomes}
use Rattle.replay_workers.specs.inside.Clients.{plain_page}
use Rattle.replay_workers.proofs.OwnPages.{page_count_now}
use Rattle.replay_workers.proofs.Placing.{all_placed, shares_within}
use Rattle.replay_workers.proofs.pool.replay_each.Goals as goal

pub place_all-requires-clause-within : goal.place_all-requires-clause-within
place_all-requires-clause-within g c = λ k d below.
    let many = page_count_now (site_by g.H.SiteLaw.page_of g.H.SiteLaw.signals c.args.hooks.now c.args.patch.now c.args.finding.now) (map plain_page c.args.own_pages.now) c.args.visits.now in
    let worked = (c.in_ok-shares.ensures.each k d (omega (arith, below, c.in_ok-shares.ensures.len))).1.call.met in
    shares_within (λ done. done.items) _ _ _ _ (length c.as_mut_slice.result.now) (many ∙ omega (arith, c.len.ensures, c.in_ok-own.ensures, ap length c.as_mut_slice.ensures.value)) worked.done

pub close-drawn-requires : goal.close-drawn-requires
close-drawn-requires g c =
    let own : List Outcome = own_page_outcomes (site_by g.H.SiteLaw.page_of g.H.SiteLaw.signals c.args.hooks.now c.args.patch.now c.args.finding.now) (map plain_page c.args.own_pages.now) (map (λ visit. visit.now) c.args.visits.now) in
    let many : length own ≡ length c.args.visits.now = page_count_now (site_by g.H.SiteLaw.page_of g.H.SiteLaw.signals c.args.hooks.now c.args.patch.now c.args.finding.now) (map plain_page c.args.own_pages.now) c.args.visits.now in
    let size : length own ≡ length c.as_mut_slice.result.now = many ∙ omega (arith, c.len.ensures, c.in_ok-own.ensures, ap length c.as_mut_slice.ensures.value) in
    let seats : length c.args.seats.items ≡ c.args.claims.workers = ap length c.requires.fresh ∙ length-replicate c.args.claims.workers (fresh_seat c.args.claims) in
    let back = (c.in_ok-seats.ensures own c.args.claims (size, c.requires.count ∙ sym many)
    (λ k d below. (c.in_ok-shares.ensures.each k d (omega (arith, below, c.in_ok-shares.ensures.len))).1.call.met)).0 in
    record { all = omega (arith, back.count_is, c.in_ok-shares.ensures.len, seats); of = back.of }

pub returns : goal.returns
returns g c =
    let own : List Outcome = own_page_outcomes (site_by g.H.SiteLaw.page_of g.H.SiteLaw.signals c.args.hooks.now c.args.patch.now c.args.finding.now) (map plain_page c.args.own_pages.now) (map (λ visit. visit.now) c.args.visits.now) in
    let many : length own ≡ length c.args.visits.now = page_count_now (site_by g.H.SiteLaw.page_of g.H.SiteLaw.signals c.args.hooks.now c.args.patch.now c.args.finding.now) (map plain_page c.args.own_pages.now) c.args.visits.now in
    let size : length own ≡ length c.as_mut_slice.result.now = many ∙ omega (arith, c.len.ensures, c.in_ok-own.ensures, ap length c.as_mut_slice.ensures.value) in
    let seats : length c.args.seats.items ≡ c.args.claims.workers = ap length c.requires.fresh ∙ length-replicate c.args.claims.workers (fresh_seat c.args.claims) in
    let back = c.in_ok-seats.ensures own c.args.claims (size, c.requires.count ∙ sym many)
    (λ k d below. (c.in_ok-shares.ensures.each k d (omega (arith, below, c.in_ok-shares.ensures.len))).1.call.met) in
    let size_new : length c.place_all.new.all ≡ length c.in_ok-own.own.items = c.place_all.auto.all ∙ ap length c.as_mut_slice.ensures.value in
    written_back c.place_all.new.all c.in_ok-own.own.items c.in_ok-own.own.len (omega (arith, c.in_ok-own.own.ok)) size_new
    ∙ all_placed own c.place_all.new.all c.args.claims c.close-drawn.result (length c.in_ok-shares.shares.items) c.in_ok-seats.seats.items (omega (arith, c.in_ok-shares.ensures.len, c.requires.some, seats)) (c.requires.count ∙ sym many)
    (size_new ∙ omega (arith, size, ap length c.as_mut_slice.ensures.value)) back.0 c.close-drawn.ensures.claimed back.1
