-- This project's own limit on workers. It stands below the workers, so that a site line that says their number needs no
-- proof of them.
use Rattle.std.specs.Prelude.{◌≤◌, ℕ}

abbrev pub max_workers : ℕ
max_workers = 32

-- so many workers may replay; any other number is F1
pub record AreWorkers (workers : ℕ) : Type 0 where
  pub some : 1 ≤ workers
  pub few : workers ≤ max_workers
