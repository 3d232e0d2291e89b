-- Marks of levels.
use Rattle.std.proofs.Common.{◌≡◌, ℕ, zero, suc, ◌-◌, ◌<◌, ◌++◌, ap, arith}
use Rattle.review_pieces.specs.Pieces.{level_html}
use Rattle.review_lists.specs.ClientView.{drawn_levels}

pub one_drawn : (n : ℕ) → 0 < n → level_html ++ drawn_levels (n - 1) ≡ drawn_levels n
unfolding drawn_levels
one_drawn zero some = absurd (omega (arith, some))
one_drawn (suc n) some =
    let same : suc n - 1 ≡ n = omega arith in
    ap (λ k. level_html ++ drawn_levels k) same
